use Rattle.std.proofs.Common.{◌≡◌, ◌<◌, length, drop}
use Rattle.nz_spec.specs.terms.Normal.{grouped_onto, grouped_by}
use Rattle.nz_spec.specs.terms.Table.{term_in, terms_at}
use Rattle.nz_term.specs.Heads.{operator_of}
use Rattle.nz_elaborate.specs.Typed.{Grows}
use Rattle.nz_elaborate.proofs.normal.grouped.Given as goal

-- what is left, behind what is grouped so far, gives the whole
abbrev pub invariant-loop-i : goal.invariant-loop-i
invariant-loop-i l = record {
  grown : Grows l.fn.terms l.terms;
  within : l.left < length l.terms;
  made : grouped_onto (operator_of l.operator) (term_in l.terms l.left) (terms_at (term_in l.fn.terms) (drop l.i l.kids)) ≡ grouped_by (operator_of l.operator) (terms_at (term_in l.fn.terms) l.kids);
}
