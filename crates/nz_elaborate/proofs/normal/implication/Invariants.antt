use Rattle.std.proofs.Common.{drop}
use Rattle.nz_spec.specs.terms.Normal.{implication_of}
use Rattle.nz_spec.specs.terms.Table.{term_in, terms_at}
use Rattle.nz_elaborate.specs.Typed.{Grows, StandsFor}
use Rattle.nz_elaborate.proofs.normal.implication.Given as goal

-- what the terms from here on conclude
abbrev pub invariant-loop-i : goal.invariant-loop-i
invariant-loop-i l = record {
  grown : Grows l.fn.terms l.terms;
  made : StandsFor l.terms l.conclusion (implication_of (terms_at (term_in l.fn.terms) (drop l.i l.kids)));
}
