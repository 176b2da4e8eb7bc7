-- One assumed literal more.
use Rattle.std.proofs.Common.{◌≡◌, ℕ, ◌<◌, true, List, length, get_or, None, ap, sym, subst, ◌∙◌, arith, rules, below_more, inl, All, Contains, is_some}
use Rattle.std.proofs.lemmas.List.{get_or_default}
use Rattle.std.proofs.lemmas.List.Elements.{All-contains, Contains-get_or}
use Rattle.std.proofs.lemmas.Option.{IfSome_then}
use Rattle.nz_log.specs.declared.lits.Lit.{Lit}
use Rattle.nz_log.specs.Logs.{LogState}
use Rattle.nz_sat.specs.declared.clauses.Held.{Held}
use Rattle.nz_sat.specs.Clauses.{IsAssumed}
use Rattle.nz_sat.specs.Sats.{AreConsistent}
use Rattle.nz_sat.specs.declared.search.Search.{Search}
use Rattle.nz_sat.specs.Searching.{Assumes, IsReady, IsSearch, MayAssume}
use Rattle.nz_sat.specs.Trails.{IsTrueOn}
use Rattle.nz_sat.proofs.TrailGrowth.{held_live, none_told, reasons_assumed}
use Rattle.nz_sat.proofs.search.Search.assume_all.Goals as goal

pub start-requires : goal.start-requires
start-requires c = record { watched = c.requires.search.1.watched; none = c.requires.none }

pub returns-then-is_some-clause-comes : goal.returns-then-is_some-clause-comes
returns-then-is_some-clause-comes c held h =
    let st = c.in_ok-falsified.ensures.comes held h in
    let told = c.in_ok-falsified.falsified in
    let some : is_some told ≡ true = search rules in
    record {
      search = st.search;
      assumed_only = reasons_assumed c.start.new.self.trail.entries c.args.assumed.now st.by_reasons;
      undecided = st.undecided;
      hold = λ none. absurd (none_told told some none);
      ready = st.ready;
      falsified = IfSome_then told st.falsified (λ id q. (held_live c.args.log.now held st.search.are_held id q.0, λ m has. inl (q.1 m has)));
    }

pub loop-literal-init : goal.loop-literal-init
loop-literal-init c =
    let st = c.in_ok-falsified.ensures.comes in
    let one = st c.requires.search.0 c.requires.search.1 in
    let none : c.in_ok-falsified.falsified ≡ None = search rules in
    record {
      rest = c.start.ensures.rest;
      search = λ held h. (st held h).search;
      assumed_only = reasons_assumed c.start.new.self.trail.entries c.args.assumed.now one.by_reasons;
      undecided = one.undecided;
      hold = λ k d below. absurd (omega arith);
      ready = one.ready none;
    }

-- the next literal is on an atom, and may be assumed
atom_named : (s start : Search) (l : Lit) → s ≡ record start { trail = s.trail; propagation = s.propagation } → Contains start.atoms l.atom → Contains s.atoms l.atom
atom_named s start l rest has = subst (λ (us : List ℕ). Contains us l.atom) (sym (ap (λ (r : Search). r.atoms) rest)) has

may_assume : (log : LogState) (held : List Held) (assumed : List Lit) (s start : Search) (i : ℕ) (l : Lit) → l ≡ get_or assumed i l → i < length assumed → s ≡ record start { trail = s.trail; propagation = s.propagation }
    → IsSearch log held s → IsReady log s → All (IsAssumed assumed) s.trail.entries → All (λ (m : Lit). Contains start.atoms m.atom) assumed → AreConsistent assumed
    → MayAssume log held assumed l s
may_assume log held assumed s start i l read inside rest search ready assumed_only named consistent =
    record {
      search = search;
      ready = ready;
      assumed_only = assumed_only;
      among = subst (Contains assumed) (sym read) (Contains-get_or assumed i l inside);
      atom = atom_named s start l rest (subst (λ (m : Lit). Contains start.atoms m.atom) (sym read) (named i l inside));
      consistent = consistent;
    }

pub assume-requires-clause-watched : goal.assume-requires-clause-watched
assume-requires-clause-watched c = (c.loop-literal.invariant.search c.requires.search.0 c.requires.search.1).watched

pub assume-requires-clause-within : goal.assume-requires-clause-within
assume-requires-clause-within c =
    let s = c.loop-literal.self in
    let before = c.loop-literal.invariant in
    let l = c.literal-item.result in
    let search = before.search c.requires.search.0 c.requires.search.1 in
    All-contains (λ (t : ℕ). t < s.trail.size) s.atoms l.atom search.within (atom_named s c.args.self.now l before.rest (subst (λ (m : Lit). Contains c.args.self.now.atoms m.atom) (sym c.literal-item.is) (c.requires.named c.loop-literal.literal-index l (omega arith))))

pub returns-then-is_some-2-clause-comes : goal.returns-then-is_some-2-clause-comes
returns-then-is_some-2-clause-comes c held h =
    let before = c.loop-literal.invariant in
    let assumed = c.args.assumed.now in
    let told = c.in_ok-falsified-2.falsified in
    let may = may_assume c.args.log.now held assumed c.loop-literal.self c.args.self.now c.loop-literal.literal-index c.literal-item.result c.literal-item.is (omega arith) before.rest (before.search held h) before.ready before.assumed_only c.requires.named c.requires.consistent in
    let comes = c.in_ok-falsified-2.ensures.comes held assumed may in
    let some : is_some told ≡ true = search rules in
    record {
      search = comes.search;
      assumed_only = comes.assumed_only;
      undecided = comes.undecided;
      hold = λ none. absurd (none_told told some none);
      ready = comes.ready;
      falsified = comes.falsified;
    }

pub loop-literal-preserved : goal.loop-literal-preserved
loop-literal-preserved c =
    let log = c.args.log.now in
    let assumed = c.args.assumed.now in
    let i = c.loop-literal.literal-index in
    let l = c.literal-item.result in
    let new = c.assume.new.self in
    let before = c.loop-literal.invariant in
    let inside : i < length assumed = omega arith in
    let told = c.in_ok-falsified-2.falsified in
    let none : told ≡ None = search rules in
    let comes : (held : List Held) → IsSearch log held c.args.self.now → Assumes log held assumed l c.loop-literal.self.trail.entries new told =
    λ held h. c.in_ok-falsified-2.ensures.comes held assumed
    (may_assume log held assumed c.loop-literal.self c.args.self.now i l c.literal-item.is inside before.rest (before.search held h) before.ready before.assumed_only c.requires.named c.requires.consistent) in
    let one = comes c.requires.search.0 c.requires.search.1 in
    record {
      rest = c.assume.ensures.rest ∙ ap (λ (s : Search). record s { trail = new.trail; propagation = new.propagation }) before.rest;
      search = λ held h. (comes held h).search;
      assumed_only = one.assumed_only;
      undecided = one.undecided;
      hold = λ k d below.
          below_more (λ (n : ℕ). (f : Lit) → IsTrueOn new.trail.entries (get_or assumed n f)) i
          (λ n less f. one.kept (get_or assumed n f) (before.hold n f less))
          (λ f. subst (IsTrueOn new.trail.entries) (c.literal-item.is ∙ get_or_default assumed i l f inside) (one.holds none))
          k below d;
      ready = one.ready none;
    }

pub returns-clause-comes : goal.returns-clause-comes
returns-clause-comes c held h =
    let before = c.loop-literal.invariant in
    record {
      search = before.search held h;
      assumed_only = before.assumed_only;
      undecided = before.undecided;
      hold = λ told k d inside. before.hold k d (omega arith);
      ready = λ told. before.ready;
      falsified = tt;
    }
