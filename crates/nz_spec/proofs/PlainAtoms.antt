-- Truths of terms and literals of their tables have their units in the order of the numbers, so those that say the same are one.
use Rattle.std.proofs.Common.{◌≡◌, ◌⊎◌, inl, inr, List, map, sym, ap₂, subst}
use Rattle.std.specs.Prelude.{All, Contains}
use Rattle.std.proofs.lemmas.List.Elements.{All-contains}
use Rattle.nz_spec.specs.terms.Term.{Term}
use Rattle.nz_spec.specs.terms.Form.{Numbering, Part, AreSameSum, as_written, reordered, negated_part}
use Rattle.nz_spec.specs.clauses.Literal.{Literal, term_literal, is_at_most, is_below, negation_of, SayTheSame}
use Rattle.nz_spec.specs.clauses.LinearLiteral.{parts_of}
use Rattle.nz_spec.specs.search.Atoms.{IsTruth, IsTabled}
use Rattle.nz_spec.specs.laws.Renumbering.{IsOrdered, MayRenumber, LiteralsRenumber}
use Rattle.nz_spec.specs.laws.LegalWork.{HasNoRows, PlainAtomsAreOne}
use Rattle.nz_spec.proofs.Negations.{parts-back}
use Rattle.nz_spec.proofs.RenumberedSums.{ordered_negated, one_order}
use Rattle.nz_spec.proofs.RenumberedWork.{row_literal}

-- ---- One order

module _ (number : Numbering) (us : List Term) where
  abbrev InOrder : Literal → Type 0
  InOrder l = IsOrdered number us (parts_of l)

  one_sum : (ps qs : List Part) → IsOrdered number us ps → IsOrdered number us qs → AreSameSum ps qs → ps ≡ qs
  one_sum ps qs h k (as_written e) = e
  one_sum ps qs h k (reordered r) = one_order number us ps qs h k r.alike

  one_literal : (l m : Literal) → InOrder l → InOrder m → SayTheSame l m → l ≡ m
  one_literal (term_literal t p) (term_literal u q) h k e = ap₂ term_literal e.0 e.1
  one_literal (is_at_most ps b) (is_at_most qs c) h k e = ap₂ is_at_most (one_sum ps qs h k e.0) e.1
  one_literal (is_below ps b) (is_below qs c) h k e = ap₂ is_below (one_sum ps qs h k e.0) e.1
  one_literal l m h k e = absurd e

  -- negations stand in the same order
  negation_ordered : (l : Literal) → InOrder l → InOrder (negation_of l)
  negation_ordered (term_literal t sign) h = tt
  negation_ordered (is_at_most ps b) h = ordered_negated number us ps h
  negation_ordered (is_below ps b) h = ordered_negated number us ps h

  ordered_back : (ps : List Part) → IsOrdered number us (map negated_part ps) → IsOrdered number us ps
  ordered_back ps h = subst (IsOrdered number us) (parts-back ps) (ordered_negated number us (map negated_part ps) h)

  from_negation : (l : Literal) → InOrder (negation_of l) → InOrder l
  from_negation (term_literal t sign) h = tt
  from_negation (is_at_most ps b) h = ordered_back ps h
  from_negation (is_below ps b) h = ordered_back ps h

  of_renumbered : (l k : Literal) → LiteralsRenumber number number us l k → InOrder l
  of_renumbered (term_literal t p) (term_literal u q) h = tt
  of_renumbered (is_at_most ps b) (is_at_most qs c) h = h.0.before
  of_renumbered (is_below ps b) (is_below qs c) h = h.0.before
  of_renumbered l k h = absurd h

  module _ (ts : List Term) (may : MayRenumber number number us) (covered : All (λ (t : Term). Contains us t ⊎ HasNoRows t) ts) where
    tabled_ordered : (l : Literal) → IsTabled number ts l → InOrder l
    tabled_ordered l h = by_sign h.has
      where
        there : Contains us h.term ⊎ HasNoRows h.term
        there = All-contains (λ (t : Term). Contains us t ⊎ HasNoRows t) ts h.term covered h.listed

        by_sign : Contains h.row.result l ⊎ Contains h.row.result (negation_of l) → InOrder l
        by_sign (inl own) =
            let (row, tabled, (k, has, same)) = row_literal number number us may h.term there h.row h.tabled l own in
            of_renumbered l k same
        by_sign (inr other) =
            let (row, tabled, (k, has, same)) = row_literal number number us may h.term there h.row h.tabled (negation_of l) other in
            from_negation l (of_renumbered (negation_of l) k same)

    plain_ordered : (l : Literal) → IsTruth ts l ⊎ IsTabled number ts l → InOrder l
    plain_ordered l (inl truth) = subst InOrder (sym truth.is) tt
    plain_ordered l (inr tabled) = tabled_ordered l tabled

pub plain_atoms_are_one : PlainAtomsAreOne
plain_atoms_are_one = record {
  same = λ number us ts may covered l m first second.
      one_literal number us l m (plain_ordered number us ts may covered l first) (plain_ordered number us ts may covered m second);
  negation = λ number us ts may covered l m first second.
      one_literal number us l (negation_of m) (plain_ordered number us ts may covered l first)
      (negation_ordered number us m (plain_ordered number us ts may covered m second));
}
