-- The step of a clause that holds by arithmetic alone gives it.
use Rattle.std.proofs.Common.{◌≡◌, List, [], Option, Some, None, refl, sym, ap, subst, ◌∙◌}
use Rattle.std.proofs.lemmas.List.{append-nil}
use Rattle.nz_fractions.specs.Fraction.{first_wide}
use Rattle.nz_spec.specs.numbers.Computation.{Computation}
use Rattle.nz_spec.specs.terms.Form.{Numbering}
use Rattle.nz_spec.specs.terms.FormOf.{number_in}
use Rattle.nz_spec.specs.clauses.Literal.{Clause}
use Rattle.nz_spec.specs.clauses.Steps.{Premises, asserting, step_taken, step_clause, step_operations}
use Rattle.nz_spec.specs.terms.Table.{Node, IsTable}
use Rattle.nz_log.specs.declared.atoms.Atom.{Atom}
use Rattle.nz_log.specs.declared.lits.Lit.{Lit}
use Rattle.nz_log.specs.Atoms.{clause_in}
use Rattle.nz_log.specs.Axioms.{Axiom, link_of, unit_of, farkas_of, branch_of, cut_of, IsAxiom, IsClauseOf, axiom_step}
use Rattle.nz_log.specs.Sound.{AxiomsAreTaken}

-- over the table itself
over_itself : (ns : List Node) → IsTable ns → (atoms : List Atom) (a : Axiom) (c : List Lit) → IsAxiom ns atoms a c → IsClauseOf ns atoms a c
over_itself ns table atoms a c h =
    subst (λ ms. IsClauseOf ms atoms a c) (append-nil ns) (h.taken [] atoms (subst IsTable (sym (append-nil ns)) table) (λ i b at. at))

pub taken_now : AxiomsAreTaken
taken_now ns table atoms a c h = (over_itself ns table atoms a c h).clause

-- whatever the premises are, and whichever steps came before
anywhere : (number : Numbering) (premises : Premises) (earlier : List Clause) (ns : List Node) (atoms : List Atom) (a : Axiom)
    → step_taken number premises earlier (axiom_step ns atoms a) ≡ step_taken number (asserting []) [] (axiom_step ns atoms a)
anywhere number premises earlier ns atoms (link_of t j) = refl
anywhere number premises earlier ns atoms (unit_of t j) = refl
anywhere number premises earlier ns atoms (farkas_of ms) = refl
anywhere number premises earlier ns atoms (branch_of l) = refl
anywhere number premises earlier ns atoms (cut_of ms) = refl

module _ (ns : List Node) (table : IsTable ns) (atoms : List Atom) (a : Axiom) (c : List Lit) (premises : Premises) (h : IsAxiom ns atoms a c) where
  pub axiom_taken : (earlier : List Clause) → step_clause (number_in ns) premises earlier (axiom_step ns atoms a) ≡ Some (clause_in ns atoms c)
  axiom_taken earlier = ap (λ (s : Computation (Option Clause)). s.result) (anywhere (number_in ns) premises earlier ns atoms a) ∙ taken_now ns table atoms a c h

  -- and no operation of it leaves the numbers
  pub axiom_fits : first_wide (step_operations (number_in ns) premises (axiom_step ns atoms a)) ≡ None
  axiom_fits = ap (λ (s : Computation (Option Clause)). first_wide s.operations) (anywhere (number_in ns) premises [] ns atoms a) ∙ (over_itself ns table atoms a c h).fits
