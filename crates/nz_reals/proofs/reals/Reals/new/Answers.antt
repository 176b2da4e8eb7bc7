use Rattle.std.proofs.Common.{rules, ◌≡◌, None, sym, subst}
use Rattle.std.specs.HashMap.{get}
use Rattle.nz_log.specs.declared.atoms.Atom.{Atom}
use Rattle.nz_log.specs.Keys.{are_same_atom}
use Rattle.nz_reals.specs.State.{empty_theory}
use Rattle.nz_reals.specs.Stored.{IsStored}
use Rattle.nz_reals.proofs.Tolds.{stored_empty}
use Rattle.nz_reals.proofs.reals.Reals.new.Goals as goal

pub invariant_of-result : goal.invariant_of-result
invariant_of-result c =
    let none : (a : Atom) → get are_same_atom c.new-2.result a ≡ None = λ a. search rules in
    let is : record { simplex = c.new.result; known = c.new-3.result; told = c.new-4.result.items } ≡ empty_theory = search rules in
    (subst (IsStored (get are_same_atom c.new-2.result)) (sym is) (stored_empty (get are_same_atom c.new-2.result) none), λ known. absurd cc)
