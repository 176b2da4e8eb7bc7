-- What is known of terms, as marks are put, cut and read.
use Rattle.std.proofs.Common.{◌≡◌, ℕ, zero, suc, ◌+◌, ◌<◌, Bool, true, false, List, [], ◌∷◌, ◌++◌, length, take, get_or, Option, Some, None, Result, Ok, Err, refl, sym, ap, ◌∙◌, arith}
use Rattle.std.specs.Prelude.{OnErr, is_some, slice_index_or, if◌then◌else◌}
use Rattle.nz_fractions.specs.Fraction.{Fraction}
use Rattle.nz_term.specs.declared.fact_table.Marks.{Marks}
use Rattle.nz_term.specs.declared.facts.Fact.{Fact}
use Rattle.nz_term.specs.Facts.{fact_at}
use Rattle.nz_term.specs.Marks.{fact_by, facts_by}

-- what holds in any case holds after an error
pub on_err : {T E P : Type 0} (r : Result T E) → P → OnErr r P
on_err (Ok x) h = tt
on_err (Err e) h = h

pub length-facts : (f : ℕ → Option Fraction) (j : ℕ) (ms : List Marks) → length (facts_by f j ms) ≡ length ms
length-facts f j [] = refl
length-facts f j (m ∷ ms) = ap suc (length-facts f (suc j) ms)

-- ---- Reading

at_place : (f : ℕ → Option Fraction) (j : ℕ) (ms : List Marks) (i : ℕ) (d : Fact) (m : Marks) → i < length ms → m ≡ get_or ms i m
    → slice_index_or (facts_by f j ms) i d ≡ fact_by (f (j + i)) m
at_place f j [] i d m below is = absurd (omega arith)
at_place f j (x ∷ ms) zero d m below is = let here : j + 0 ≡ j = omega arith in ap (fact_by (f j)) (sym is) ∙ ap (λ k. fact_by (f k) m) (sym here)
at_place f j (x ∷ ms) (suc i) d m below is =
    let further : suc j + i ≡ j + suc i = omega arith in
    at_place f (suc j) ms i d m (omega arith) is ∙ ap (λ k. fact_by (f k) m) further

pub read : (f : ℕ → Option Fraction) (ms : List Marks) (i : ℕ) (m : Marks) → i < length ms → m ≡ get_or ms i m → fact_at (facts_by f 0 ms) i ≡ fact_by (f i) m
read f ms i m below is = let here : 0 + i ≡ i = omega arith in at_place f 0 ms i _ m below is ∙ ap (λ k. fact_by (f k) m) here

pub constant_shown : (v : Option Fraction) (m : Marks) → m.is_constant ≡ true → v ≡ (fact_by v m).constant
constant_shown v m e = sym (ap (λ b. if b then v else None) e)

pub constant_hidden : (v : Option Fraction) (m : Marks) → m.is_constant ≡ false → None ≡ (fact_by v m).constant
constant_hidden v m e = sym (ap (λ b. if b then v else None) e)

-- ---- Putting and cutting

-- values of later terms don't count
pub agreeing : (f g : ℕ → Option Fraction) (j : ℕ) (ms : List Marks) → ((i : ℕ) → i < j + length ms → f i ≡ g i) → facts_by f j ms ≡ facts_by g j ms
agreeing f g j [] same = refl
agreeing f g j (m ∷ ms) same =
    ap (λ v. fact_by v m ∷ facts_by f (suc j) ms) (same j (omega arith)) ∙ ap (λ l. fact_by (g j) m ∷ l) (agreeing f g (suc j) ms (λ i below. same i (omega arith)))

one_more : (f : ℕ → Option Fraction) (j : ℕ) (ms : List Marks) (m : Marks) → facts_by f j (ms ++ m ∷ []) ≡ facts_by f j ms ++ fact_by (f (j + length ms)) m ∷ []
one_more f j [] m = let here : j + 0 ≡ j = omega arith in ap (λ k. fact_by (f k) m ∷ []) (sym here)
one_more f j (x ∷ ms) m =
    let further : suc j + length ms ≡ j + suc (length ms) = omega arith in
    ap (λ l. fact_by (f j) x ∷ l) (one_more f (suc j) ms m ∙ ap (λ k. facts_by f (suc j) ms ++ fact_by (f k) m ∷ []) further)

pub cut : (f : ℕ → Option Fraction) (j n : ℕ) (ms : List Marks) → facts_by f j (take n ms) ≡ take n (facts_by f j ms)
cut f j zero ms = refl
cut f j (suc n) [] = refl
cut f j (suc n) (m ∷ ms) = ap (λ l. fact_by (f j) m ∷ l) (cut f (suc j) n ms)

-- what is marked so is known, where the value of a constant is there
whole : (v c : Option Fraction) (linear number : Bool) → (is_some c ≡ true → v ≡ c)
    → fact_by v (record { is_constant = is_some c; is_linear = linear; holds_integer = number }) ≡ record { constant = c; is_linear = linear; holds_integer = number }
whole v None linear number same = refl
whole v (Some q) linear number same = ap (λ x. record { constant = x; is_linear = linear; holds_integer = number }) (same refl)

pub put : (f g : ℕ → Option Fraction) (ms : List Marks) (c : Option Fraction) (linear number : Bool) → ((i : ℕ) → i < length ms → g i ≡ f i)
    → (is_some c ≡ true → g (length ms) ≡ c)
    → facts_by g 0 (ms ++ record { is_constant = is_some c; is_linear = linear; holds_integer = number } ∷ [])
    ≡ facts_by f 0 ms ++ record { constant = c; is_linear = linear; holds_integer = number } ∷ []
put f g ms c linear number same own =
    let m : Marks = record { is_constant = is_some c; is_linear = linear; holds_integer = number } in
    let last : 0 + length ms ≡ length ms = omega arith in
    one_more g 0 ms m ∙ ap (λ k. facts_by g 0 ms ++ fact_by (g k) m ∷ []) last ∙ ap (λ x. facts_by g 0 ms ++ x ∷ []) (whole (g (length ms)) c linear number own)
    ∙ ap (λ l. l ++ record { constant = c; is_linear = linear; holds_integer = number } ∷ []) (agreeing g f 0 ms (λ i below. same i (omega arith)))
