-- What the operands of an operator are, once they are read at the sort that their operator takes.
use Rattle.std.proofs.Common.{◌≡◌, suc, Bool, true, false, not, ◌||◌, Option, Some, None, refl, sym, ap, ◌∙◌, true≢false, if◌then◌else◌}
use Rattle.std.proofs.lemmas.Bool.{and_from, and_parts}
use Rattle.nz_lists.proofs.Options.{IfFound, found_weaker}
use Rattle.nz_spec.specs.terms.Term.{Sort, bool_sort, int_sort, real_sort, to_real, Term, apply, Terms, no_terms, terms, sort_of, is_bool, are_same_sort}
use Rattle.nz_spec.specs.terms.Operators.{has_sort, is_number_term, all_terms, term_count, as_real, as_reals, number_sort, alike_sort, Operands, bools, ints, reals, numbers, alike, branches, operand_sort, read_at}
use Rattle.nz_spec.specs.terms.WellSorted.{are_numbers, AreOperands}

-- ---- Conversions

count_reals : (ts : Terms) → term_count (as_reals ts) ≡ term_count ts
count_reals no_terms = refl
count_reals (terms t ts) = ap suc (count_reals ts)

pub count_read : (s : Sort) (ts : Terms) → term_count (read_at s ts) ≡ term_count ts
count_read bool_sort ts = refl
count_read int_sort ts = refl
count_read real_sort ts = count_reals ts

real_sorted_if : (b c : Bool) (t : Term) → has_sort int_sort t ≡ b → has_sort real_sort t ≡ c → (b || c) ≡ true → has_sort real_sort (if b then apply to_real (terms t no_terms) else t) ≡ true
real_sorted_if true c t e f h = refl
real_sorted_if false c t e f h = f ∙ h

-- what is read as real numbers is of sort Real
all_real : (ts : Terms) → all_terms is_number_term ts ≡ true → all_terms (has_sort real_sort) (as_reals ts) ≡ true
all_real no_terms e = refl
all_real (terms t ts) e =
    and_from (has_sort real_sort (as_real t)) (all_terms (has_sort real_sort) (as_reals ts))
    (real_sorted_if (has_sort int_sort t) (has_sort real_sort t) t refl refl (and_parts (is_number_term t) (all_terms is_number_term ts) e).0)
    (all_real ts (and_parts (is_number_term t) (all_terms is_number_term ts) e).1)

bool_is_no_int : (s : Sort) → are_same_sort bool_sort s ≡ true → are_same_sort int_sort s ≡ true → ⊥
bool_is_no_int bool_sort e f = true≢false (sym f)
bool_is_no_int int_sort e f = true≢false (sym e)
bool_is_no_int real_sort e f = true≢false (sym e)

-- ---- Operands

-- a sort that is found where a test holds
sort_if : (b : Bool) (P : Sort → Type 0) (s : Sort) → (b ≡ true → P s) → IfFound P (if b then Some s else None)
sort_if true P s k = k refl
sort_if false P s k = tt

number_sort_by : (b c : Bool) (P : Sort → Type 0) → (b ≡ true → P int_sort) → (c ≡ true → P real_sort) → IfFound P (if b then Some int_sort else (if c then Some real_sort else None))
number_sort_by true c P k l = k refl
number_sort_by false true P k l = l refl
number_sort_by false false P k l = tt

numbers_read : (ts : Terms) → IfFound (λ s. are_numbers s (read_at s ts) ≡ true) (number_sort ts)
numbers_read ts =
    number_sort_by (all_terms (has_sort int_sort) ts) (all_terms is_number_term ts) (λ s. are_numbers s (read_at s ts) ≡ true) (λ e. e) (λ e. all_real ts e)

alike_by : (b : Bool) (o : Option Sort) (ts : Terms) → all_terms (has_sort bool_sort) ts ≡ b → IfFound (λ s. all_terms (has_sort s) (read_at s ts) ≡ true) o
    → IfFound (λ s. all_terms (has_sort s) (read_at s ts) ≡ true) (if b then Some bool_sort else o)
alike_by true o ts e h = e
alike_by false o ts e h = h

alike_read : (ts : Terms) → IfFound (λ s. all_terms (has_sort s) (read_at s ts) ≡ true) (alike_sort ts)
alike_read ts =
    alike_by (all_terms (has_sort bool_sort) ts) (number_sort ts) ts refl
    (found_weaker (λ s. are_numbers s (read_at s ts) ≡ true) (λ s. all_terms (has_sort s) (read_at s ts) ≡ true) (number_sort ts)
    (λ s e. (and_parts (not (is_bool s)) (all_terms (has_sort s) (read_at s ts)) e).1) (numbers_read ts))

-- a term of sort Bool is read as itself
bool_read_by : (b : Bool) (c : Term) → has_sort int_sort c ≡ b → has_sort bool_sort c ≡ true → has_sort bool_sort (if b then apply to_real (terms c no_terms) else c) ≡ true
bool_read_by true c e f = absurd (bool_is_no_int (sort_of c) f e)
bool_read_by false c e f = f

branches_read : (s : Sort) (c : Term) (ts : Terms) → has_sort bool_sort c ≡ true → all_terms (has_sort s) (read_at s ts) ≡ true → AreOperands branches s (read_at s (terms c ts))
branches_read bool_sort c ts e h = (e, h)
branches_read int_sort c ts e h = (e, h)
branches_read real_sort c ts e h = (bool_read_by (has_sort int_sort c) c refl e, h)

branches_if : (b : Bool) (c : Term) (ts : Terms) → has_sort bool_sort c ≡ b → IfFound (λ s. AreOperands branches s (read_at s (terms c ts))) (if b then alike_sort ts else None)
branches_if true c ts e =
    found_weaker (λ s. all_terms (has_sort s) (read_at s ts) ≡ true) (λ s. AreOperands branches s (read_at s (terms c ts))) (alike_sort ts) (λ s h. branches_read s c ts e h) (alike_read ts)
branches_if false c ts e = tt

-- What operands are read at is of the sorts that their operator takes.
pub operands_read : (k : Operands) (ts : Terms) → IfFound (λ s. AreOperands k s (read_at s ts)) (operand_sort k ts)
operands_read bools ts = sort_if (all_terms (has_sort bool_sort) ts) (λ s. AreOperands bools s (read_at s ts)) bool_sort (λ e. e)
operands_read ints ts = sort_if (all_terms (has_sort int_sort) ts) (λ s. AreOperands ints s (read_at s ts)) int_sort (λ e. e)
operands_read reals ts = sort_if (all_terms is_number_term ts) (λ s. AreOperands reals s (read_at s ts)) real_sort (λ e. all_real ts e)
operands_read numbers ts = numbers_read ts
operands_read alike ts = alike_read ts
operands_read branches no_terms = tt
operands_read branches (terms c ts) = branches_if (has_sort bool_sort c) c ts refl
