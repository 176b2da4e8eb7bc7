-- What is listed of terms holds all that it is made of, and their companions.
use Rattle.std.proofs.Common.{◌≡◌, inl, inr, List, [], ◌∷◌, ◌++◌, flat_map, refl, ap, subst}
use Rattle.std.specs.Prelude.{Contains}
use Rattle.std.specs.List.{AllByRecursion}
use Rattle.std.proofs.lemmas.List.Elements.{Contains-append_cases, Contains-append_left, Contains-append_right, Contains-push_cases}
use Rattle.nz_lists.proofs.Elements.{AllByRecursion-weaker}
use Rattle.nz_lists.proofs.Members.{has_cases, has_first, has_none}
use Rattle.nz_spec.specs.terms.Term.{Head, integer_quotient, modulus, to_int, is_int, Term, apply, Terms, no_terms, terms}
use Rattle.nz_spec.specs.terms.Order.{companions, companions_of, listing_order, listing_orders}
use Rattle.nz_spec.specs.clauses.Gates.{list_of}
use Rattle.nz_spec.specs.laws.Renumbering.{ListingsMayRenumber}
use Rattle.nz_spec.proofs.FlatLists.{flat_from, flat_has}

-- a list has these
abbrev HoldAll : List Term → List Term → Type 0
HoldAll us ts = AllByRecursion (Contains us) ts

-- a term is the last of its own listing
own_last : (t : Term) → Contains (listing_order t) t
own_last (apply h ts) = Contains-append_right (listing_orders ts ++ companions h ts) (apply h ts ∷ []) (apply h ts) (has_first (apply h ts) [])

-- the arguments stand in their listing
arguments_listed : (ts : Terms) → HoldAll (listing_orders ts) (list_of ts)
arguments_listed no_terms = tt
arguments_listed (terms t ts) = (
  Contains-append_left (listing_order t) (listing_orders ts) t (own_last t),
  AllByRecursion-weaker (Contains (listing_orders ts)) (Contains (listing_order t ++ listing_orders ts)) (λ u has. Contains-append_right (listing_order t) (listing_orders ts) u has)
      (list_of ts) (arguments_listed ts),
)

-- what a list has with a term of it: its arguments and its companions
record IsWhole (us : List Term) (t : Term) : Type 0 where
  arguments : (h : Head) (ts : Terms) → t ≡ apply h ts → HoldAll us (list_of ts)
  beside : HoldAll us (companions_of t)

whole_in : (us vs : List Term) → ((u : Term) → Contains us u → Contains vs u) → (t : Term) → IsWhole us t → IsWhole vs t
whole_in us vs within t h = record {
  arguments = λ g ts e. AllByRecursion-weaker (Contains us) (Contains vs) within (list_of ts) (h.arguments g ts e);
  beside = AllByRecursion-weaker (Contains us) (Contains vs) within (companions_of t) h.beside;
}

arguments_of : Term → List Term
arguments_of (apply h ts) = list_of ts

-- a term over these arguments, where its companions are there
whole_over : (us : List Term) (h : Head) (ts : Terms) → HoldAll us (list_of ts) → HoldAll us (companions h ts) → IsWhole us (apply h ts)
unfolding arguments_of
whole_over us h ts all beside = record { arguments = λ g rs e. subst (HoldAll us) (ap arguments_of e) all; beside = beside }

-- a companion has the same arguments, and no companions
companion_whole : (us : List Term) (h : Head) (ts : Terms) → HoldAll us (list_of ts) → (u : Term) → Contains (companions h ts) u → IsWhole us u
companion_whole us modulus ts all u has =
    elim (has_cases (apply integer_quotient ts) u [] has) [
      | inl is ↦ subst (IsWhole us) is (whole_over us integer_quotient ts all tt)
      | inr none ↦ absurd (has_none u none)
    ]
companion_whole us is_int ts all u has =
    elim (has_cases (apply to_int ts) u [] has) [
      | inl is ↦ subst (IsWhole us) is (whole_over us to_int ts all tt)
      | inr none ↦ absurd (has_none u none)
    ]
companion_whole us h ts all u has = absurd (has_none u has)

-- each of a list stands in it
each_itself : (us : List Term) → HoldAll us us
each_itself [] = tt
each_itself (u ∷ us) = (
  has_first u us,
  AllByRecursion-weaker (Contains us) (Contains (u ∷ us)) (λ v has. Contains-append_right (u ∷ []) us v has) us (each_itself us),
)

mutual
  listed_whole : (t u : Term) → Contains (listing_order t) u → IsWhole (listing_order t) u
  listed_whole (apply h ts) u has =
      let parts = listing_orders ts in
      let beside = companions h ts in
      let all = parts ++ beside ++ apply h ts ∷ [] in
      let from_parts : (v : Term) → Contains parts v → Contains all v = λ v there.
      Contains-append_left (parts ++ beside) (apply h ts ∷ []) v (Contains-append_left parts beside v there) in
      let from_beside : (v : Term) → Contains beside v → Contains all v = λ v there.
      Contains-append_left (parts ++ beside) (apply h ts ∷ []) v (Contains-append_right parts beside v there) in
      let arguments = AllByRecursion-weaker (Contains parts) (Contains all) from_parts (list_of ts) (arguments_listed ts) in
      elim (Contains-push_cases (parts ++ beside) (apply h ts) u has) [
        | inl before ↦ elim (Contains-append_cases parts beside u before) [
          | inl part ↦ whole_in parts all from_parts u (all_listed_whole ts u part)
          | inr companion ↦ companion_whole all h ts arguments u companion
        ]
        | inr is ↦ subst (IsWhole all) is (whole_over all h ts arguments (AllByRecursion-weaker (Contains beside) (Contains all) from_beside beside (each_itself beside)))
      ]

  all_listed_whole : (ts : Terms) (u : Term) → Contains (listing_orders ts) u → IsWhole (listing_orders ts) u
  all_listed_whole no_terms u has = absurd (has_none u has)
  all_listed_whole (terms t ts) u has =
      elim (Contains-append_cases (listing_order t) (listing_orders ts) u has) [
        | inl here ↦ whole_in (listing_order t) (listing_order t ++ listing_orders ts) (λ v there. Contains-append_left (listing_order t) (listing_orders ts) v there) u (listed_whole t u here)
        | inr later ↦ whole_in (listing_orders ts) (listing_order t ++ listing_orders ts) (λ v there. Contains-append_right (listing_order t) (listing_orders ts) v there) u (all_listed_whole ts u later)
      ]

listing_whole : (us : List Term) (t : Term) → Contains (flat_map listing_order us) t → IsWhole (flat_map listing_order us) t
listing_whole us t has =
    let u = flat_from listing_order us t has in
    whole_in (listing_order u.0) (flat_map listing_order us) (λ v there. flat_has listing_order us u.0 v u.1 there) t (listed_whole u.0 t u.2)

pub listings_may_renumber : ListingsMayRenumber
listings_may_renumber m n us before after = record {
  before = before;
  after = after;
  arguments = λ h ts has. (listing_whole us (apply h ts) has).arguments h ts refl;
  companions = λ t has. (listing_whole us t has).beside;
}
