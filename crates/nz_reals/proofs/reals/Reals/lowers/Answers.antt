use Rattle.std.proofs.Common.{◌≡◌, ◌∷◌, ◌++◌, ◌+◌, List, [], ℕ, None, rules, get_or, subst, sym, take, arith}
use Rattle.std.specs.Prelude.{IfSome}
use Rattle.std.proofs.lemmas.Fn.{always_returns_same}
use Rattle.std.proofs.lemmas.List.{take_all}
use Rattle.nz_reals.specs.declared.neighbours.Lower.{Lower}
use Rattle.nz_reals.specs.Exclusions.{IsSaidLower}
use Rattle.nz_reals.proofs.LowerBounds.{AreListed, listed_known, listed_more, listed_same, listed_sorted, lowers_sorted}
use Rattle.nz_reals.proofs.reals.Reals.lowers.Goals as goal
use Rattle.nz_reals.proofs.reals.Reals.lowers.Goals.{in-Some+in_ok-push, in_default}

pub loop-atom-preserved : goal.loop-atom-preserved
loop-atom-preserved c =
    let t = c.args.self.now in
    let atoms = c.args.atoms.now in
    let i = c.loop-atom.atom-index in
    elim c.match-lower.branch [
      | in-Some+in_ok-push w ↦
          let x = w.in-Some.lower in
          let atom : x.literal.atom ≡ get_or atoms i 0 = subst (λ o. IfSome o (λ (y : Lower). y.literal.atom ≡ get_or atoms i 0)) w.in-Some.is c.lower.ensures.atom in
          let is : IsSaidLower t x = subst (λ o. IfSome o (IsSaidLower t)) w.in-Some.is c.lower.ensures.lower in
          let items : c.match-lower.lowers.items ≡ c.loop-atom.lowers.items ++ x ∷ [] = search rules in
          subst (AreListed t (take (i + 1) atoms)) (sym items) (listed_more t atoms c.loop-atom.lowers.items i c.loop-atom-test.true c.loop-atom.invariant x atom is)
      | in_default w ↦
          let none : c.lower.result ≡ None = search rules in
          subst (λ v. AreListed t (take (i + 1) atoms) v.items) (sym w.lowers-is) (listed_same t atoms c.loop-atom.lowers.items i c.loop-atom-test.true c.loop-atom.invariant (c.lower.ensures.none none))
    ]

pub returns : goal.returns
returns c =
    let t = c.args.self.now in
    let atoms = c.args.atoms.now in
    let listed : AreListed t atoms c.loop-atom.lowers.items = subst (λ (ids : List ℕ). AreListed t ids c.loop-atom.lowers.items) (take_all c.loop-atom.atom-index atoms (omega arith)) c.loop-atom.invariant in
    let keys = always_returns_same _ _ _ (λ a r q k. search rules) in
    let sorted = c.in_ok-sort_by_key.ensures.sorted (λ (x : Lower). (x.var, x.value.c, x.value.k)) keys in
    let xs = c.loop-atom.lowers.items in
    let ys = c.sort_by_key.new.self.items in
    record {
      known = listed_known t atoms ys (listed_sorted t atoms xs ys c.sort_by_key.ensures.permutation listed);
      lowers = lowers_sorted t atoms c.requires.of.0 c.requires.of.1 c.requires.of.2 xs ys c.sort_by_key.ensures.permutation sorted listed;
    }
