-- A term list has a unit of sort Int exactly where the live items hold one.
use Rattle.std.proofs.Common.{◌≡◌, ℕ, zero, suc, ◌<◌, length, arith, Bool, false, ◌||◌, List, [], ◌∷◌, ◌++◌, inl, inr, refl, sym, ap, ◌∙◌, append-nil}
use Rattle.std.specs.Prelude.{Contains, flat_map, slice_index_or}
use Rattle.std.specs.List.{list_any}
use Rattle.std.proofs.Math.Bool.{or-false, or_assoc, or_comm}
use Rattle.std.proofs.lemmas.List.Folds.{list_any-append}
use Rattle.nz_lists.proofs.Tests.{or_again}
use Rattle.nz_spec.specs.terms.Term.{Head, modulus, is_int, Term, apply, Terms, no_terms, terms, is_integral, holds_integer, hold_integer}
use Rattle.nz_spec.specs.terms.Order.{companions, listing_order, listing_orders, AreFirst}
use Rattle.nz_script.specs.live.Live.{items_of, item_terms}
use Rattle.nz_script.specs.live.TermList.{is_integer_unit, IntegersAreListed}

-- ---- The order of a listing

companion_integral : (h : Head) (ts : Terms) (b : Bool) → (list_any is_integer_unit (companions h ts) || (is_integer_unit (apply h ts) || b)) ≡ (is_integral h || b)
companion_integral modulus ts b = refl
companion_integral is_int ts b = refl
companion_integral h ts b = refl

mutual
  listed_integer : (t : Term) → list_any is_integer_unit (listing_order t) ≡ holds_integer t
  listed_integer (apply h ts) =
      let others = list_any is_integer_unit (listing_orders ts) in
      list_any-append is_integer_unit (listing_orders ts ++ companions h ts) (apply h ts ∷ [])
      ∙ ap (λ b. b || list_any is_integer_unit (apply h ts ∷ [])) (list_any-append is_integer_unit (listing_orders ts) (companions h ts))
      ∙ or_assoc others (list_any is_integer_unit (companions h ts)) (list_any is_integer_unit (apply h ts ∷ []))
      ∙ ap (λ b. others || b) (companion_integral h ts false ∙ or-false (is_integral h))
      ∙ ap (λ b. b || is_integral h) (listed_integers ts)
      ∙ or_comm (hold_integer ts) (is_integral h)

  listed_integers : (ts : Terms) → list_any is_integer_unit (listing_orders ts) ≡ hold_integer ts
  listed_integers no_terms = refl
  listed_integers (terms t ts) =
      list_any-append is_integer_unit (listing_order t) (listing_orders ts)
      ∙ ap (λ b. b || list_any is_integer_unit (listing_orders ts)) (listed_integer t)
      ∙ ap (λ b. holds_integer t || b) (listed_integers ts)

all_listed : (ts : List Term) → list_any is_integer_unit (flat_map listing_order ts) ≡ list_any holds_integer ts
all_listed [] = refl
all_listed (t ∷ ts) =
    list_any-append is_integer_unit (listing_order t) (flat_map listing_order ts)
    ∙ ap (λ b. b || list_any is_integer_unit (flat_map listing_order ts)) (listed_integer t)
    ∙ ap (λ b. holds_integer t || b) (all_listed ts)

-- ---- Each term once

contained_at : (test : Term → Bool) (t : Term) (seen : List Term) (k : ℕ) → k < length seen → slice_index_or seen k t ≡ t → (list_any test seen || test t) ≡ list_any test seen
contained_at test t [] k below e = absurd (omega arith)
contained_at test t (x ∷ xs) zero below e =
    ap (λ y. (test x || list_any test xs) || test y) (sym e) ∙ or_again (test x) (list_any test xs)
contained_at test t (x ∷ xs) (suc k) below e =
    or_assoc (test x) (list_any test xs) (test t) ∙ ap (λ b. test x || b) (contained_at test t xs k (omega arith) e)

contained : (test : Term → Bool) (t : Term) (seen : List Term) → Contains seen t → (list_any test seen || test t) ≡ list_any test seen
contained test t seen h = contained_at test t seen h.0 h.1 h.2

once_same : (test : Term → Bool) (seen all list : List Term) → AreFirst seen all list → (list_any test seen || list_any test list) ≡ (list_any test seen || list_any test all)
once_same test seen [] list e = ap (λ l. list_any test seen || list_any test l) e
once_same test seen (t ∷ ts) list (inl h) =
    once_same test seen ts list h.1
    ∙ ap (λ b. b || list_any test ts) (sym (contained test t seen h.0))
    ∙ or_assoc (list_any test seen) (test t) (list_any test ts)
once_same test seen (t ∷ ts) list (inr h) =
    ap (λ l. list_any test seen || list_any test l) h.2
    ∙ sym (or_assoc (list_any test seen) (test t) (list_any test h.1))
    ∙ ap (λ b. b || list_any test h.1) (or_comm (list_any test seen) (test t))
    ∙ once_same test (t ∷ seen) ts h.1 h.3
    ∙ ap (λ b. b || list_any test ts) (or_comm (test t) (list_any test seen))
    ∙ or_assoc (list_any test seen) (test t) (list_any test ts)

pub integers_are_listed : IntegersAreListed
integers_are_listed s list h =
    let roots = flat_map item_terms (items_of s.levels) in
    once_same is_integer_unit [] (flat_map listing_order (roots ++ [])) list h
    ∙ ap (λ l. list_any is_integer_unit (flat_map listing_order l)) (append-nil roots)
    ∙ all_listed roots
