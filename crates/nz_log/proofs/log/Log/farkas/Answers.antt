-- The sum is made, and then the clause is put.
use Rattle.std.proofs.Common.{◌≡◌, ◌++◌, ℕ, List, Result, Ok, Err, refl, ap, sym, subst, ◌∙◌, rules}
use Rattle.std.specs.Prelude.{IfErr}
use Rattle.std.proofs.lemmas.Result.{err_from_is_err_and}
use Rattle.nz_base.specs.declared.errors.Memory.{Memory}
use Rattle.nz_fractions.specs.Fraction.{first_wide}
use Rattle.nz_spec.specs.clauses.Literal.{once}
use Rattle.nz_spec.specs.clauses.Steps.{farkas_step}
use Rattle.nz_spec.specs.terms.Table.{Node, IsTable}
use Rattle.nz_term.specs.declared.stops.ArithmeticStop.{ArithmeticStop}
use Rattle.nz_lin.specs.Bounds.{bound_over}
use Rattle.nz_term.specs.Stops.{IsStopAt}
use Rattle.nz_log.specs.declared.atoms.Atom.{Atom}
use Rattle.nz_log.specs.declared.lits.Lit.{Lit}
use Rattle.nz_log.specs.declared.multiples.LitMultiple.{LitMultiple}
use Rattle.nz_log.specs.Atoms.{AreAtoms, AreWithin}
use Rattle.nz_log.specs.Axioms.{AreMultiplesIn, IsAxiom, IsClauseOf, farkas_of, first_wide_in_step, multiples_in, negated_lits}
use Rattle.nz_log.specs.Lits.{are_same_lit}
use Rattle.nz_log.specs.Logs.{Puts, axiom_entry}
use Rattle.nz_log.proofs.LiteralAgreement.{literals_agree}
use Rattle.nz_log.proofs.Axiomatic.{axiom_grows, axiom_in_order, axiom_made, farkas_is, farkas_operations, refuted_within}
use Rattle.nz_log.proofs.log.Log.farkas.Goals as goal
use Rattle.nz_log.proofs.log.Log.farkas.Goals.{In_ok-put_axiom}

put_entry : (c : In_ok-put_axiom)
    → Puts c.args.self.now c.in_ok-put_axiom.field-0 (axiom_entry c.put_axiom.new.self (farkas_of c.args.multiples.now) (once are_same_lit (negated_lits c.args.multiples.now))) c.put_axiom.new.self
put_entry c =
    let s = c.args.self.now in
    let r = c.put_axiom.new.self in
    let id = c.in_ok-put_axiom.field-0 in
    let literals : c.deref.result.now ≡ negated_lits c.args.multiples.now = c.deref.ensures.value ∙ c.in_ok-literals.ensures.literals in
    let multiples : c.in_ok-multiples.multiples.items ≡ c.args.multiples.now = search rules in
    subst (λ (ls : List Lit). Puts s id (axiom_entry r (farkas_of c.args.multiples.now) (once are_same_lit ls)) r) literals
    (subst (λ (ms : List LitMultiple). Puts s id (axiom_entry r (farkas_of ms) (once are_same_lit c.deref.result.now)) r) multiples c.in_ok-put_axiom.ensures.made)

pub returns-in_err-_sum-clause-stop : goal.returns-in_err-_sum-clause-stop
returns-in_err-_sum-clause-stop c =
    let s = c.args.self.now in
    let ms = c.args.multiples.now in
    let stop = c.in_err-_sum.field-0.0 in
    let error = err_from_is_err_and c.from_residual.result c.from_residual.ensures.1 in
    let all : (ns : List Node) → IsTable ns → AreMultiplesIn ns s.atoms ms → IsStopAt (first_wide_in_step ns (farkas_step (multiples_in ns s.atoms ms))) stop =
    λ ns table within.
    (let agree = literals_agree c.tells_literals.ensures.tells c.one_number.ensures.one ns table s.atoms c.atom_count.ensures.atoms in
    subst (λ o. IsStopAt (first_wide o) stop) (sym (farkas_operations ns s.atoms agree ms within (c.requires.multiples ns table within)))
    (c.in_err-_sum.ensures.sum ns table within)) in
    subst (λ (r : Result ℕ ArithmeticStop). IfErr r (λ st. (ns : List Node) → IsTable ns → AreMultiplesIn ns s.atoms ms → IsStopAt (first_wide_in_step ns (farkas_step (multiples_in ns s.atoms ms))) st))
    (sym (error.1 ∙ ap Err error.2)) all

pub returns-clause-made : goal.returns-clause-made
returns-clause-made c = put_entry (goal.at.returns-clause-made c).In_ok-put_axiom

pub returns-clause-clause : goal.returns-clause-clause
returns-clause-clause c =
    λ ns table within.
    let s = c.args.self.now in
    let ms = c.args.multiples.now in
    let agree = literals_agree c.tells_literals.ensures.tells c.one_number.ensures.one ns table s.atoms c.atom_count.ensures.atoms in
    subst (λ (list : List Atom). IsClauseOf ns list (farkas_of ms) (once are_same_lit (negated_lits ms))) (sym c.put_axiom.ensures.atoms)
    (farkas_is ns s.atoms agree ms within (c.requires.multiples ns table within) (c.requires.contradiction ns table within) (bound_over ns c.in_ok-_sum._sum)
    (c.in_ok-_sum.ensures.sum ns table within).0)

pub returns-clause-grows : goal.returns-clause-grows
returns-clause-grows c =
    λ told.
    axiom_grows c.args.self.now c.put_axiom.new.self c.in_ok-put_axiom.field-0 (farkas_of c.args.multiples.now) (once are_same_lit (negated_lits c.args.multiples.now)) refl
    (put_entry (goal.at.returns-clause-grows c).In_ok-put_axiom) told

pub returns-clause-sound : goal.returns-clause-sound
returns-clause-sound c =
    λ ns levels within order.
    let s = c.args.self.now in
    let r = c.put_axiom.new.self in
    let ms = c.args.multiples.now in
    let d = once are_same_lit (negated_lits ms) in
    let inside = refuted_within ns s.atoms ms within in
    let is : IsAxiom ns s.atoms (farkas_of ms) d =
    axiom_made c.term_stays.ensures.stays ns s.atoms (farkas_of ms) d within tt inside
    (λ more longer there all.
    farkas_is (ns ++ more) s.atoms (literals_agree c.tells_literals.ensures.tells c.one_number.ensures.one (ns ++ more) longer s.atoms order.atoms) ms there
    (c.requires.multiples (ns ++ more) longer there) (c.requires.contradiction (ns ++ more) longer there) (bound_over (ns ++ more) c.in_ok-_sum._sum)
    (c.in_ok-_sum.ensures.sum (ns ++ more) longer there).0) in
    let result : Result ℕ Memory = Ok c.in_ok-put_axiom.field-0 in
    let back = sym c.put_axiom.ensures.atoms in
    axiom_in_order s r (farkas_of ms) d result (put_entry (goal.at.returns-clause-sound c).In_ok-put_axiom) tt (subst AreAtoms back order.atoms) ns levels
    (subst (λ (list : List Atom). AreWithin ns list d) back inside) (subst (λ (list : List Atom). IsAxiom ns list (farkas_of ms) d) back is) order
