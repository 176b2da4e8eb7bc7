use Rattle.std.proofs.Common.{◌≡◌, ◌<◌, length, drop, All}
use Rattle.nz_spec.specs.terms.Normal.{disequations_of}
use Rattle.nz_spec.specs.terms.Table.{term_in, terms_at}
use Rattle.nz_elaborate.specs.Typed.{Grows, terms_before}
use Rattle.nz_elaborate.proofs.normal.distinct.Given as goal

-- the disequations so far, and those of what is left, are the whole
abbrev pub invariant-loop-i : goal.invariant-loop-i
invariant-loop-i l = record {
  grown : Grows l.fn.terms l.terms;
  within : All (λ i. i < length l.terms) l.disequations.items;
  made : terms_before (term_in l.terms) l.disequations.items (disequations_of (terms_at (term_in l.fn.terms) (drop l.i l.kids))) ≡ disequations_of (terms_at (term_in l.fn.terms) l.kids);
}
