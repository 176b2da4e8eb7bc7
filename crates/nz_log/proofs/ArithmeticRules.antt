-- Rules that put a clause which holds by arithmetic alone: what each exit says.
use Rattle.std.proofs.Common.{ℕ, List, ◌++◌, Result, Ok, Err}
use Rattle.std.specs.Prelude.{IfOk, OnErr}
use Rattle.nz_base.specs.declared.errors.Memory.{Memory}
use Rattle.nz_spec.specs.clauses.Steps.{IsSortedStep}
use Rattle.nz_spec.specs.terms.Table.{Node, IsTable, TermStays}
use Rattle.nz_log.specs.declared.lits.Lit.{Lit}
use Rattle.nz_log.specs.Atoms.{AreAtoms, AreWithin}
use Rattle.nz_log.specs.Axioms.{Axiom, IsAxiom, IsAxiomIn, IsClauseOf, axiom_step}
use Rattle.nz_log.specs.Logs.{JoinsAtoms, LogState, Puts, PutsAxiom, axiom_entry}
use Rattle.nz_log.specs.Sound.{IsLog}
use Rattle.nz_log.proofs.Axiomatic.{axiom_in_order, axiom_made}
use Rattle.nz_log.proofs.DroppedLevels.{joined_in_order}

-- a clause was put over a table, and is so over each that goes on from it
pub put_in_order : (ns : List Node) (old new : LogState) (id : ℕ) (a : Axiom) (puts : PutsAxiom ns old id a new) → AreAtoms new.atoms
    → ((c : List Lit) → IsClauseOf ns new.atoms a c → IsAxiom ns new.atoms a c) → (levels : List (List ℕ)) → IsLog ns levels old → IsLog ns levels new
put_in_order ns old new id a puts atoms holds levels order =
    let result : Result ℕ Memory = Ok id in
    axiom_in_order old new a puts.literals result puts.puts tt atoms ns levels puts.clause.within (holds puts.literals puts.clause) order

-- the same where it may not have been put
pub rule_put_in_order : {E : Type 0} (ns : List Node) (old new : LogState) (a : Axiom) (r : Result ℕ E) → IfOk r (λ id. PutsAxiom ns old id a new) → OnErr r (JoinsAtoms old new) → AreAtoms new.atoms
    → ((c : List Lit) → IsClauseOf ns new.atoms a c → IsAxiom ns new.atoms a c) → (levels : List (List ℕ)) → IsLog ns levels old → IsLog ns levels new
rule_put_in_order ns old new a (Ok id) puts joins atoms holds levels order = put_in_order ns old new id a puts atoms holds levels order
rule_put_in_order ns old new a (Err x) puts joins atoms holds levels order = joined_in_order old new joins.entries joins.atoms atoms ns levels order

-- a clause was put that is one over each table that goes on from this one
pub put_over_all : TermStays → (ns : List Node) (levels : List (List ℕ)) (old new : LogState) (id : ℕ) (a : Axiom) (c : List Lit) → Puts old id (axiom_entry new a c) new → AreAtoms new.atoms
    → IsAxiomIn ns new.atoms a → IsSortedStep (axiom_step ns new.atoms a) → AreWithin ns new.atoms c → ((more : List Node) → IsTable (ns ++ more) → IsClauseOf (ns ++ more) new.atoms a c)
    → IsLog ns levels old → IsLog ns levels new
put_over_all stays ns levels old new id a c puts atoms inside sorted within clause order =
    let result : Result ℕ Memory = Ok id in
    axiom_in_order old new a c result puts tt atoms ns levels within (axiom_made stays ns new.atoms a c inside sorted within (λ more table there all. clause more table)) order
