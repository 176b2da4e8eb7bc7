-- Terms of the same sorts are operands of the same operators.
use Rattle.std.proofs.Common.{◌≡◌, suc, not, ◌&&◌, refl, ap, ◌∙◌}
use Rattle.nz_spec.specs.terms.Term.{Sort, are_same_sort, bool_sort, int_sort, real_sort, Head, Terms, no_terms, terms, is_bool}
use Rattle.nz_spec.specs.terms.Operators.{has_sort, all_terms, term_count, takes, Operands, bools, ints, reals, numbers, alike, branches, operands_of}
use Rattle.nz_spec.proofs.Sorted.{same_sorts, value_is}
use Rattle.nz_spec.specs.terms.WellSorted.{AreOperands, IsApplied, SameSorts, SortsTell}

count_same : (ts us : Terms) → SameSorts ts us → term_count us ≡ term_count ts
count_same no_terms no_terms h = refl
count_same no_terms (terms u us) h = absurd h
count_same (terms t ts) no_terms h = absurd h
count_same (terms t ts) (terms u us) h = ap suc (count_same ts us h.1)

all_same : (s : Sort) (ts us : Terms) → SameSorts ts us → all_terms (has_sort s) us ≡ all_terms (has_sort s) ts
all_same s no_terms no_terms h = refl
all_same s no_terms (terms u us) h = absurd h
all_same s (terms t ts) no_terms h = absurd h
all_same s (terms t ts) (terms u us) h = rw (h.0, all_same s ts us h.1) refl

-- operands stay so where their sorts do
operands_same : (k : Operands) (s : Sort) (ts us : Terms) → SameSorts ts us → AreOperands k s ts → AreOperands k s us
operands_same bools s ts us h e = all_same bool_sort ts us h ∙ e
operands_same ints s ts us h e = all_same int_sort ts us h ∙ e
operands_same reals s ts us h e = all_same real_sort ts us h ∙ e
operands_same numbers s ts us h e = ap (λ b. not (is_bool s) && b) (all_same s ts us h) ∙ e
operands_same alike s ts us h e = all_same s ts us h ∙ e
operands_same branches s no_terms us h e = absurd e
operands_same branches s (terms c ts) no_terms h e = absurd h
operands_same branches s (terms c ts) (terms d us) h e = (ap (are_same_sort bool_sort) h.0 ∙ e.0, all_same s ts us h.1 ∙ e.1)

pub applied_same : (h : Head) (ts us : Terms) → SameSorts ts us → IsApplied h ts → IsApplied h us
applied_same h ts us same i =
    record {
      operator = i.operator;
      sort = i.sort;
      is = i.is;
      count = ap (takes i.operator) (count_same ts us same) ∙ i.count;
      operands = operands_same (operands_of i.operator) i.sort ts us same i.operands;
    }

pub sorts_tell : SortsTell
sorts_tell = record { one = same_sorts; operands = applied_same; values = value_is }
