-- Terms that list Booleans alone hold no number, so they are of the gate table where they are normal or taken; what is listed with a term of that table is of it.
use Rattle.std.proofs.Common.{◌≡◌, false, [], ◌++◌, Contains, inl, inr, refl, ap, subst, true≢false}
use Rattle.std.specs.Prelude.{true, not, List}
use Rattle.std.proofs.lemmas.List.Elements.{All-contains, Contains-append_cases, Contains-append_left, Contains-append_right, Contains-push, Contains-push_cases}
use Rattle.nz_lists.proofs.Members.{has_first, has_none}
use Rattle.nz_spec.specs.terms.Term.{bool_sort, Head, constant, verum, falsum, negation, conjunction, disjunction, exclusion, equality, choice, to_int, is_int, Term, apply, Terms, no_terms, terms, is_numeric, holds_number, hold_number}
use Rattle.nz_spec.specs.terms.Normal.{normal_of}
use Rattle.nz_spec.specs.terms.Order.{companions, listing_order, listing_orders}
use Rattle.nz_spec.specs.clauses.Gates.{is_boolean_term, IsRow, IsGated, AreGated}
use Rattle.nz_spec.specs.laws.BooleanWork.{ListsBooleans, BooleanListingsAreGated}
use Rattle.nz_spec.proofs.GateDecisions.{neither}
use Rattle.nz_spec.proofs.NormalGates.{gated, normal_terms_are_gated}

abbrev AreBoolean : List Term → Type 0
AreBoolean ts = (u : Term) → Contains ts u → is_boolean_term u ≡ true

-- ---- What lists Booleans alone

-- the test for an integer is listed with a rounded number
plain_head : (h : Head) (ts : Terms) → AreBoolean (listing_order (apply h ts)) → is_numeric h ≡ false
plain_head is_int ts all =
    let rounded = apply to_int ts in
    let beside = Contains-append_right (listing_orders ts) (companions is_int ts) rounded (has_first rounded []) in
    absurd (true≢false (ap not (all rounded (Contains-append_left (listing_orders ts ++ companions is_int ts) _ rounded beside))))
plain_head h ts all = ap not (all (apply h ts) (Contains-push (listing_orders ts ++ companions h ts) (apply h ts)))

mutual
  plain_listing : (t : Term) → AreBoolean (listing_order t) → holds_number t ≡ false
  plain_listing (apply h ts) all =
      neither (is_numeric h) (hold_number ts) (plain_head h ts all)
      (plain_listings ts
      (λ u has. all u (Contains-append_left (listing_orders ts ++ companions h ts) _ u (Contains-append_left (listing_orders ts) (companions h ts) u has))))

  plain_listings : (ts : Terms) → AreBoolean (listing_orders ts) → hold_number ts ≡ false
  plain_listings no_terms all = refl
  plain_listings (terms t ts) all =
      neither (holds_number t) (hold_number ts) (plain_listing t (λ u has. all u (Contains-append_left (listing_order t) (listing_orders ts) u has)))
      (plain_listings ts (λ u has. all u (Contains-append_right (listing_order t) (listing_orders ts) u has)))

each_boolean : (t : Term) → ListsBooleans t → AreBoolean (listing_order t)
each_boolean t all u has = All-contains (λ (v : Term). is_boolean_term v ≡ true) (listing_order t) u all has

-- ---- What is listed with a term of the table

no_companion : (h : Head) (ts : Terms) → IsRow h ts → companions h ts ≡ []
no_companion (constant c) no_terms r = refl
no_companion verum no_terms r = refl
no_companion falsum no_terms r = refl
no_companion negation (terms t no_terms) r = refl
no_companion conjunction ts r = refl
no_companion disjunction ts r = refl
no_companion exclusion (terms t (terms u no_terms)) r = refl
no_companion equality (terms t (terms u no_terms)) r = refl
no_companion (choice bool_sort) (terms c (terms t (terms u no_terms))) r = refl
no_companion h ts r = absurd r

mutual
  gated_part : (t u : Term) → IsGated t → Contains (listing_order t) u → IsGated u
  gated_part (apply h ts) u g has =
      elim (Contains-push_cases (listing_orders ts ++ companions h ts) (apply h ts) u has) [
        | inl before ↦ elim (Contains-append_cases (listing_orders ts) (companions h ts) u before) [
          | inl part ↦ gated_parts ts u g.1 part
          | inr beside ↦ absurd (has_none u (subst (λ (us : List Term). Contains us u) (no_companion h ts g.0) beside))
        ]
        | inr is ↦ subst IsGated is g
      ]

  gated_parts : (ts : Terms) (u : Term) → AreGated ts → Contains (listing_orders ts) u → IsGated u
  gated_parts no_terms u g has = absurd (has_none u has)
  gated_parts (terms t ts) u g has =
      elim (Contains-append_cases (listing_order t) (listing_orders ts) u has) [
        | inl here ↦ gated_part t u g.0 here
        | inr later ↦ gated_parts ts u g.1 later
      ]

pub boolean_listings_are_gated : BooleanListingsAreGated
boolean_listings_are_gated = record {
  normal = λ t sorted all. normal_terms_are_gated t sorted (plain_listing (normal_of t) (each_boolean (normal_of t) all));
  taken = λ t taken all. gated t taken.sorted taken.heads (plain_listing t (each_boolean t all));
  parts = gated_part;
}
