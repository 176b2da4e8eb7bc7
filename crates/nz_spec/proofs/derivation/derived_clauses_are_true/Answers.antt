-- The laws, as they are proved over plain data.
use Rattle.nz_spec.proofs.Derivations as laws
use Rattle.nz_spec.proofs.derivation.derived_clauses_are_true.Goals as goal

pub returns : goal.returns
returns c = record { clauses = laws.derived_clauses_are_true; refutes = laws.empty_clause_refutes }
