-- One atom more.
use Rattle.std.proofs.Common.{◌≡◌, ◌∷◌, [], ◌++◌, ℕ, List, get_or, sym, subst, rules}
use Rattle.std.specs.Prelude.{Contains}
use Rattle.nz_log.specs.Atoms.{HasTerm, JoinOnly, term_place}
use Rattle.nz_log.proofs.KeptAtoms.{places_more}
use Rattle.nz_log.proofs.JoinedAtoms.{joins_twice}
use Rattle.nz_log.proofs.OnlyJoined.{none_joins, number_more}
use Rattle.nz_log.proofs.log.Log.term_atoms.Goals as goal

pub loop-term-init : goal.loop-term-init
loop-term-init c = record {
  so_far = search rules;
  there = search rules;
  joins = search rules;
  all = search rules;
  only = none_joins c.args.self.now.atoms (Contains c.new-atoms.result.items);
}

pub loop-term-preserved : goal.loop-term-preserved
loop-term-preserved c =
    let i = c.loop-term.term-index in
    let x = get_or c.args.terms.now i 0 in
    let old = c.loop-term.self in
    let new = c.term_atom.new.self in
    let pushed : c.push.new.self.items ≡ c.loop-term.atoms.items ++ term_place new.atoms x ∷ [] = search rules in
    let own : HasTerm new.atoms x = search rules in
    let more = places_more old.atoms new.atoms c.term_atom.ensures.joins.atoms c.args.terms.now i 0 c.loop-term-test.true c.loop-term.invariant.there own
    c.loop-term.atoms.items c.push.new.self.items c.loop-term.invariant.so_far pushed in
    record {
      so_far = more.0;
      there = more.1;
      joins = joins_twice c.args.self.now old new c.loop-term.invariant.joins c.term_atom.ensures.joins;
      all = c.term_atom.ensures.atoms;
      only = subst (λ (ids : List ℕ). JoinOnly c.args.self.now.atoms new.atoms (Contains ids)) (sym c.in_ok-push.ensures.items)
          (number_more c.args.self.now.atoms old.atoms new.atoms c.loop-term.atoms.items c.in_ok-atom.atom c.loop-term.invariant.only c.in_ok-atom.ensures.only);
    }
