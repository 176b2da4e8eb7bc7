-- What is listed with a term: its arguments and companions, and what is listed with those.
use Rattle.std.proofs.Common.{◌≡◌, ◌<◌, inl, inr, ℕ, List, [], ◌∷◌, ◌++◌, refl, sym, subst, arith, All, Contains}
use Rattle.std.specs.List.{AllByRecursion}
use Rattle.std.proofs.lemmas.List.Elements.{All-from_recursion, Contains-append_cases, Contains-append_left, Contains-append_right, Contains-push, Contains-push_cases}
use Rattle.nz_spec.specs.terms.Term.{Head, integer_quotient, modulus, to_int, is_int, Term, apply, Terms, no_terms, terms}
use Rattle.nz_spec.specs.terms.Table.{terms_at}
use Rattle.nz_spec.specs.terms.Order.{post_order, post_orders, companions, companions_of, listing_order, listing_orders}
use Rattle.nz_lists.proofs.Elements.{AllByRecursion-weaker}
use Rattle.nz_lists.proofs.Members.{has_cases}

-- a term is listed with itself
pub itself : (t : Term) → Contains (listing_order t) t
itself (apply h ts) = Contains-push (listing_orders ts ++ companions h ts) (apply h ts)

-- ---- What it is made of

pub own_part : (t : Term) → Contains (post_order t) t
own_part (apply h ts) = Contains-push (post_orders ts) (apply h ts)

-- what it is made of is listed with it
mutual
  pub part_listed : (t u : Term) → Contains (post_order t) u → Contains (listing_order t) u
  part_listed (apply h ts) u has =
      let before = listing_orders ts ++ companions h ts in
      elim (Contains-push_cases (post_orders ts) (apply h ts) u has) [
        | inl inside ↦ Contains-append_left before (apply h ts ∷ []) u (Contains-append_left (listing_orders ts) (companions h ts) u (parts_listed ts u inside))
        | inr same ↦ subst (Contains (listing_order (apply h ts))) same (itself (apply h ts))
      ]

  parts_listed : (ts : Terms) (u : Term) → Contains (post_orders ts) u → Contains (listing_orders ts) u
  parts_listed no_terms u has = absurd (let below : has.0 < 0 = has.1 in omega arith)
  parts_listed (terms t ts) u has =
      elim (Contains-append_cases (post_order t) (post_orders ts) u has) [
        | inl first ↦ Contains-append_left (listing_order t) (listing_orders ts) u (part_listed t u first)
        | inr other ↦ Contains-append_right (listing_order t) (listing_orders ts) u (parts_listed ts u other)
      ]

-- ---- What is listed with what is listed

none_there : {A : Type 0} (u : Term) → Contains [] u → A
none_there u has = absurd (let below : has.0 < 0 = has.1 in omega arith)

-- a term alone, whose arguments are listed
alone_part : (g : Head) (ts : Terms) (u v : Term) → companions g ts ≡ [] → Contains (apply g ts ∷ []) u → Contains (listing_order u) v
    → Contains (listing_orders ts ++ apply g ts ∷ []) v
alone_part g ts u v none has part =
    elim (has_cases (apply g ts) u [] has) [
      | inl is ↦
          elim (Contains-push_cases (listing_orders ts ++ companions g ts) (apply g ts) v (subst (λ w. Contains (listing_order w) v) (sym is) part)) [
            | inl before ↦ elim (Contains-append_cases (listing_orders ts) (companions g ts) v before) [
              | inl inside ↦ Contains-append_left (listing_orders ts) (apply g ts ∷ []) v inside
              | inr beside ↦ none_there v (subst (λ (us : List Term). Contains us v) none beside)
            ]
            | inr same ↦ subst (Contains (listing_orders ts ++ apply g ts ∷ [])) same (Contains-push (listing_orders ts) (apply g ts))
          ]
      | inr more ↦ none_there u more
    ]

companion_part : (h : Head) (ts : Terms) (u v : Term) → Contains (companions h ts) u → Contains (listing_order u) v → Contains (listing_orders ts ++ companions h ts) v
companion_part modulus ts u v has part = alone_part integer_quotient ts u v refl has part
companion_part is_int ts u v has part = alone_part to_int ts u v refl has part
companion_part h ts u v has part = none_there u has

mutual
  pub part_of_part : (t u v : Term) → Contains (listing_order t) u → Contains (listing_order u) v → Contains (listing_order t) v
  part_of_part (apply h ts) u v has part =
      let before = listing_orders ts ++ companions h ts in
      elim (Contains-push_cases before (apply h ts) u has) [
        | inl there ↦ Contains-append_left before (apply h ts ∷ []) v
            (elim (Contains-append_cases (listing_orders ts) (companions h ts) u there) [
              | inl inside ↦ Contains-append_left (listing_orders ts) (companions h ts) v (parts_of_part ts u v inside part)
              | inr beside ↦ companion_part h ts u v beside part
            ])
        | inr same ↦ subst (λ w. Contains (listing_order w) v) (sym same) part
      ]

  parts_of_part : (ts : Terms) (u v : Term) → Contains (listing_orders ts) u → Contains (listing_order u) v → Contains (listing_orders ts) v
  parts_of_part no_terms u v has part = none_there u has
  parts_of_part (terms t ts) u v has part =
      elim (Contains-append_cases (listing_order t) (listing_orders ts) u has) [
        | inl first ↦ Contains-append_left (listing_order t) (listing_orders ts) v (part_of_part t u v first part)
        | inr other ↦ Contains-append_right (listing_order t) (listing_orders ts) v (parts_of_part ts u v other part)
      ]

-- ---- Arguments and companions

each_argument : (term : ℕ → Term) (kids : List ℕ) → AllByRecursion (λ k. Contains (listing_orders (terms_at term kids)) (term k)) kids
each_argument term [] = tt
each_argument term (k ∷ ks) =
    let rest = listing_orders (terms_at term ks) in (
      Contains-append_left (listing_order (term k)) rest (term k) (itself (term k)),
      AllByRecursion-weaker (λ j. Contains rest (term j)) (λ j. Contains (listing_order (term k) ++ rest) (term j))
          (λ j has. Contains-append_right (listing_order (term k)) rest (term j) has) ks (each_argument term ks),
    )

pub arguments_are_parts : (term : ℕ → Term) (t : Term) (h : Head) (kids : List ℕ) → t ≡ apply h (terms_at term kids) → All (λ k. Contains (listing_order t) (term k)) kids
arguments_are_parts term t h kids e =
    let ts = terms_at term kids in
    let whole = apply h ts in
    subst (λ u. All (λ k. Contains (listing_order u) (term k)) kids) (sym e)
    (All-from_recursion (λ k. Contains (listing_order whole) (term k)) kids
    (AllByRecursion-weaker (λ k. Contains (listing_orders ts) (term k)) (λ k. Contains (listing_order whole) (term k))
    (λ k has. Contains-append_left (listing_orders ts ++ companions h ts) (whole ∷ []) (term k) (Contains-append_left (listing_orders ts) (companions h ts) (term k) has))
    kids (each_argument term kids)))

pub companions_are_parts : (t u : Term) → Contains (companions_of t) u → Contains (listing_order t) u
companions_are_parts (apply h ts) u has =
    Contains-append_left (listing_orders ts ++ companions h ts) (apply h ts ∷ []) u (Contains-append_right (listing_orders ts) (companions h ts) u has)
