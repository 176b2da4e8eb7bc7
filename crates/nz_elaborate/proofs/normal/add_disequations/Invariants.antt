use Rattle.std.proofs.Common.{◌≡◌, ◌<◌, length, drop, All}
use Rattle.nz_spec.specs.terms.Term.{Terms}
use Rattle.nz_spec.specs.terms.Normal.{disequations_onto}
use Rattle.nz_spec.specs.terms.Table.{term_in, terms_at}
use Rattle.nz_elaborate.specs.Typed.{Grows, terms_before}
use Rattle.nz_elaborate.proofs.normal.add_disequations.Given as goal

-- the disequations so far, and those with the others that are left, are the whole, whatever comes behind them
abbrev pub invariant-loop-other : goal.invariant-loop-other
invariant-loop-other l = record {
  grown : Grows l.fn.terms l.terms;
  within : All (λ i. i < length l.terms) l.disequations.items;
  added : (more : Terms) → terms_before (term_in l.terms) l.disequations.items (disequations_onto (term_in l.fn.terms l.kid) (terms_at (term_in l.fn.terms) (drop l.other-index l.others)) more) ≡ terms_before (term_in l.fn.terms) l.fn.disequations.items (disequations_onto (term_in l.fn.terms l.kid) (terms_at (term_in l.fn.terms) l.others) more);
}
