-- Term lists, made one term after another, each behind its companion.
use Rattle.std.proofs.Common.{◌≡◌, inl, inr, ℕ, ◌+◌, ◌<◌, ◌≤◌, Bool, true, false, List, [], ◌∷◌, ◌++◌, length, map, take, set, slice_index, slice_index_or, refl, sym, ap, subst, ◌∙◌, arith, true≢false, append_assoc, append-nil, length-set, get_or-set_same, get_or-set_other}
use Rattle.std.specs.Prelude.{◌↔◌, All, Contains, flat_map}
use Rattle.std.proofs.lemmas.Bool.Decides.{eqb_tells}
use Rattle.std.proofs.lemmas.Grind.{flat_map-append}
use Rattle.std.proofs.lemmas.List.{get_or_read, map-append, take_all, take_more}
use Rattle.std.proofs.lemmas.List.Elements.{All-push, Contains-append_left, Contains-append_right, Contains-append_cases}
use Rattle.nz_spec.specs.terms.Term.{Term, apply, Terms, no_terms, terms}
use Rattle.nz_spec.specs.terms.Table.{Node, term_in, HasOneNumberEach}
use Rattle.nz_spec.specs.terms.Order.{post_order, post_orders, companions, listing_order, listing_orders, AreFirst}
use Rattle.nz_term.specs.declared.listings.Listing.{Listing}
use Rattle.nz_term.specs.Listings.{with_companions, IsListing}
use Rattle.nz_term.proofs.Firsts.{again, anew, spread}
use Rattle.nz_term.proofs.Places.{number_back}
use Rattle.nz_term.proofs.Traversal.{none, alone}

-- ---- The order, term by term

mutual
  listing_is : (t : Term) → listing_order t ≡ flat_map with_companions (post_order t)
  listing_is (apply h ts) =
      let own = companions h ts ++ apply h ts ∷ [] in
      append_assoc (listing_orders ts) (companions h ts) (apply h ts ∷ []) ∙ ap (λ l. l ++ own) (listings_are ts) ∙ ap (λ l. flat_map with_companions (post_orders ts) ++ l) (sym (append-nil own))
      ∙ sym (flat_map-append with_companions (post_orders ts) (apply h ts ∷ []))

  listings_are : (ts : Terms) → listing_orders ts ≡ flat_map with_companions (post_orders ts)
  listings_are no_terms = refl
  listings_are (terms t ts) =
      ap (λ l. l ++ listing_orders ts) (listing_is t) ∙ ap (λ l. flat_map with_companions (post_order t) ++ l) (listings_are ts)
      ∙ sym (flat_map-append with_companions (post_order t) (post_orders ts))

roots_listing : (ts : List Term) → flat_map listing_order ts ≡ flat_map with_companions (flat_map post_order ts)
roots_listing [] = refl
roots_listing (t ∷ ts) =
    ap (λ l. l ++ flat_map listing_order ts) (listing_is t) ∙ ap (λ l. flat_map with_companions (post_order t) ++ l) (roots_listing ts)
    ∙ sym (flat_map-append with_companions (post_order t) (flat_map post_order ts))

-- ---- Marks

-- what is read at a number within the list
pub mark_read : (marks : List Bool) (i : ℕ) (x b : Bool) → i < length marks → x ≡ slice_index_or marks i x → x ≡ b → slice_index_or marks i false ≡ b
mark_read marks i x b below e k = sym (get_or_read marks i x below e false) ∙ k

-- ---- Numbers

number_on : (f : ℕ → Term) (is : List ℕ) (i : ℕ) → Contains is i → Contains (map f is) (f i)
number_on f [] i k = absurd (none i k)
number_on f (j ∷ is) i k =
    elim (Contains-append_cases (j ∷ []) is i k) [
      | inl l ↦ Contains-append_left (f j ∷ []) (map f is) (f i) (0, omega arith, ap f (alone j i l))
      | inr r ↦ Contains-append_right (f j ∷ []) (map f is) (f i) (number_on f is i r)
    ]

-- ---- The listing

-- a number that is listed already
pub list_again : (ns : List Node) (all : List Term) (s : Listing) (id : ℕ) → id < length ns → slice_index_or s.is_listed.items id false ≡ true
    → IsListing ns all s → IsListing ns (all ++ term_in ns id ∷ []) s
list_again ns all s id below m w =
    record {
      first = again [] all (map (term_in ns) s.ids.items) (term_in ns id) w.first (number_on (term_in ns) s.ids.items id ((w.told id below).0 m));
      told = w.told;
      room = w.room;
      within = w.within;
    }

-- another one
pub list_anew : (ns : List Node) (all : List Term) (s t : Listing) (id : ℕ) → HasOneNumberEach ns → id < length ns → slice_index_or s.is_listed.items id false ≡ false
    → t.ids.items ≡ s.ids.items ++ id ∷ [] → t.is_listed.items ≡ set s.is_listed.items id true → IsListing ns all s → IsListing ns (all ++ term_in ns id ∷ []) t
list_anew ns all s t id one below m more marks w =
    let f = term_in ns in
    record {
      first = subst (AreFirst [] (all ++ f id ∷ [])) (sym (ap (map f) more ∙ map-append f s.ids.items (id ∷ [])))
          (anew [] all (map f s.ids.items) (f id) w.first (λ k. new (number_back f (length ns) one s.ids.items w.within id below k)));
      told = λ i inside. subst (λ l. (slice_index_or t.is_listed.items i false ≡ true) ↔ Contains l i) (sym more)
          (subst (λ l. (slice_index_or l i false ≡ true) ↔ Contains (s.ids.items ++ id ∷ []) i) (sym marks) (tells i inside));
      room = ap length marks ∙ length-set s.is_listed.items id true ∙ w.room;
      within = subst (All (λ i. i < length ns)) (sym more) (All-push (λ i. i < length ns) s.ids.items id w.within below);
    }
  where
    new : Contains s.ids.items id → ⊥
    new k = true≢false (sym ((w.told id below).1 k) ∙ m)

    tells : (i : ℕ) → i < length ns → (slice_index_or (set s.is_listed.items id true) i false ≡ true) ↔ Contains (s.ids.items ++ id ∷ []) i
    tells i inside = elim (eqb_tells i id) [
      | inl e ↦ (
        λ n. Contains-append_right s.ids.items (id ∷ []) i (0, omega arith, sym e.1),
        λ k. ap (λ x. slice_index_or (set s.is_listed.items id true) x false) e.1 ∙ get_or-set_same s.is_listed.items id true false (omega (arith, w.room)),
      )
      | inr e ↦
          let same : slice_index_or (set s.is_listed.items id true) i false ≡ slice_index_or s.is_listed.items i false = get_or-set_other s.is_listed.items id i true false e.1 in (
            λ n. Contains-append_left s.ids.items (id ∷ []) i ((w.told i inside).0 (sym same ∙ n)),
            λ k. elim (Contains-append_cases s.ids.items (id ∷ []) i k) [
              | inl l ↦ same ∙ (w.told i inside).1 l
              | inr r ↦ absurd (e.1 (sym (alone id i r)))
            ],
          )
    ]

-- a term behind its companion, or alone
pub listed_both : (all cs : List Term) (companion t : Term) → cs ≡ companion ∷ [] → (all ++ companion ∷ []) ++ t ∷ [] ≡ all ++ (cs ++ t ∷ [])
listed_both all cs companion t e = append_assoc all (companion ∷ []) (t ∷ []) ∙ ap (λ l. all ++ (l ++ t ∷ [])) (sym e)

pub listed_alone : (all cs : List Term) (t : Term) → cs ≡ [] → all ++ t ∷ [] ≡ all ++ (cs ++ t ∷ [])
listed_alone all cs t e = ap (λ l. all ++ (l ++ t ∷ [])) (sym e)

-- ---- One after another

-- The first so many of these terms are listed, each behind its companion.
abbrev pub AreListed : List Node → List ℕ → Listing → ℕ → Type 0
AreListed ns order s count = IsListing ns (flat_map with_companions (map (term_in ns) (take count order))) s

module _ (ns : List Node) (order : List ℕ) where
  pub step : (s t : Listing) (count : ℕ) → AreListed ns order s count → count < length order
      → ((all : List Term) → IsListing ns all s → IsListing ns (all ++ with_companions (term_in ns (slice_index order count))) t)
      → AreListed ns order t (count + 1)
  step s t count w inside more =
      let f = term_in ns in
      let id = slice_index order count in
      let front = map f (take count order) in
      let taken : map f (take (count + 1) order) ≡ front ++ f id ∷ [] = ap (map f) (take_more order count 0 inside) ∙ map-append f (take count order) (id ∷ []) in
      let all : flat_map with_companions (map f (take (count + 1) order)) ≡ flat_map with_companions front ++ with_companions (f id) =
      ap (flat_map with_companions) taken ∙ flat_map-append with_companions front (f id ∷ [])
      ∙ ap (λ l. flat_map with_companions front ++ l) (append-nil (with_companions (f id))) in
      subst (λ l. IsListing ns l t) (sym all) (more (flat_map with_companions front) w)

  pub finish : (s : Listing) (count : ℕ) (roots : List ℕ) → AreListed ns order s count → length order ≤ count
      → AreFirst [] (flat_map post_order (map (term_in ns) roots)) (map (term_in ns) order)
      → AreFirst [] (flat_map listing_order (map (term_in ns) roots)) (map (term_in ns) s.ids.items)
  finish s count roots w all first =
      let f = term_in ns in
      let found = map f s.ids.items in
      subst (λ l. AreFirst [] l found) (sym (roots_listing (map f roots)))
      (spread with_companions (flat_map post_order (map f roots)) (map f order) [] [] found (λ t k. absurd (none t k)) first
      (subst (λ l. AreFirst [] (flat_map with_companions (map f l)) found) (take_all count order all) w.first))
