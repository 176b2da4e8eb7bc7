-- What a check lists is in the table, whose numbers tell it apart, but for negations that are assumed: of these the table may have the argument alone.
use Rattle.std.proofs.Common.{◌≡◌, ◌⊎◌, inl, inr, ℕ, ◌<◌, true, false, List, [], ◌∷◌, ◌++◌, get_or, length, map, Some, refl, sym, ap, ◌∙◌, subst, arith}
use Rattle.std.specs.Prelude.{Contains, flat_map, slice_get, ⊤}
use Rattle.std.specs.List.{AllByRecursion}
use Rattle.std.proofs.lemmas.Option.{slice_get-get_or}
use Rattle.std.proofs.lemmas.Grind.{flat_map-append}
use Rattle.std.proofs.lemmas.List.Elements.{Contains-append_cases, Contains-append_left, Contains-append_right, recursion_from_All}
use Rattle.nz_lists.proofs.Elements.{AllByRecursion-append}
use Rattle.nz_lists.proofs.Members.{each_of, has_cases, has_first, has_none}
use Rattle.nz_spec.specs.laws.LegalWork.{HasNoRows, NegationsHaveNoRows}
use Rattle.nz_spec.specs.terms.Term.{Head, Term, apply, Terms, no_terms, terms, falsum}
use Rattle.nz_spec.specs.terms.Form.{TellsApart}
use Rattle.nz_spec.specs.terms.FormOf.{TermHasItsNumber, number_in}
use Rattle.nz_spec.specs.terms.Normal.{negated, normal_of}
use Rattle.nz_spec.specs.terms.Table.{IsTable, Node, TermOfNode, term_in, terms_at}
use Rattle.nz_spec.specs.terms.Order.{HasCompanions, IsInTable, companions, companions_of, listing_order, listing_orders}
use Rattle.nz_spec.specs.clauses.Literal.{Literal, term_literal, is_at_most, is_below}
use Rattle.nz_script.specs.live.Live.{Item, item_terms}
use Rattle.nz_script.specs.replies.Right.{normals_in}
use Rattle.nz_sort.specs.Assuming.{IsAssumed, AreAssumed}
use Rattle.nz_sort.specs.Items.{StandForAll}
use Rattle.nz_term.specs.declared.term_lits.TermLit.{TermLit}

-- ---- Parts

-- each of some arguments
abbrev AllTerms : (Term → Type 0) → Terms → Type 0
AllTerms P no_terms = ⊤
AllTerms P (terms t ts) = P t × AllTerms P ts

module _ (node : TermOfNode) (ns : List Node) (table : IsTable ns) (has : HasCompanions ns) where
  are_in : (i : ℕ) → i < length ns → (ks : List ℕ) → AllByRecursion (λ k. k < i) ks → AllTerms (IsInTable ns) (terms_at (term_in ns) ks)
  are_in i low [] h = tt
  are_in i low (k ∷ ks) h = ((k, (let below : k < i = h.0 in omega (arith, below, low)), refl), are_in i low ks h.1)

  -- the arguments of a term of the table are in it
  closed : (h : Head) (ts : Terms) → IsInTable ns (apply h ts) → AllTerms (IsInTable ns) ts
  closed h ts here =
      let i = here.0 in
      let n : Node = get_or ns i (record { head = falsum; kids = [] }) in
      let at : slice_get ns i ≡ Some n = slice_get-get_or ns i (record { head = falsum; kids = [] }) here.1 in
      let both : apply n.head (terms_at (term_in ns) n.kids) ≡ apply h ts = sym (node ns table i n at) ∙ here.2 in
      let arguments : terms_at (term_in ns) n.kids ≡ ts = cc in
      subst (AllTerms (IsInTable ns)) arguments (are_in i here.1 n.kids (recursion_from_All (λ k. k < i) n.kids (table.before i n at)))

  -- and what it lists is
  mutual
    each_in : (t : Term) → IsInTable ns t → AllByRecursion (IsInTable ns) (listing_order t)
    each_in (apply h ts) here =
        AllByRecursion-append (IsInTable ns) (listing_orders ts ++ companions h ts) (apply h ts ∷ [])
        (AllByRecursion-append (IsInTable ns) (listing_orders ts) (companions h ts) (all_in ts (closed h ts here))
        (subst (λ (u : Term). AllByRecursion (IsInTable ns) (companions_of u)) here.2 (has here.0 here.1)))
        (here, tt)

    all_in : (ts : Terms) → AllTerms (IsInTable ns) ts → AllByRecursion (IsInTable ns) (listing_orders ts)
    all_in no_terms h = tt
    all_in (terms t ts) h = AllByRecursion-append (IsInTable ns) (listing_order t) (listing_orders ts) (each_in t h.0) (all_in ts h.1)

  each_listed : (us : List Term) → AllByRecursion (IsInTable ns) us → AllByRecursion (IsInTable ns) (flat_map listing_order us)
  each_listed [] h = tt
  each_listed (u ∷ us) h = AllByRecursion-append (IsInTable ns) (listing_order u) (flat_map listing_order us) (each_in u h.0) (each_listed us h.1)

-- ---- What stands in the table

module _ (ns : List Node) where
  mapped_in : (ids : List ℕ) → AllByRecursion (λ i. i < length ns) ids → AllByRecursion (IsInTable ns) (map (term_in ns) ids)
  mapped_in [] h = tt
  mapped_in (i ∷ ids) h = ((i, h.0, refl), mapped_in ids h.1)

  stand_in_table : (ids : List ℕ) (ts : List Term) → StandForAll ns ids ts → AllByRecursion (IsInTable ns) ts
  stand_in_table ids ts h = subst (AllByRecursion (IsInTable ns)) h.terms (mapped_in ids (recursion_from_All (λ i. i < length ns) ids h.within))

  -- so do the terms of what is assumed, by their numbers
  assumed_in_table : (ls : List TermLit) (ms : List Literal) → AreAssumed ns ls ms → AllByRecursion (IsInTable ns) (map (λ (l : TermLit). term_in ns l.term) ls)
  assumed_in_table [] [] h = tt
  assumed_in_table [] (m ∷ ms) h = absurd h
  assumed_in_table (l ∷ ls) [] h = absurd h
  assumed_in_table (l ∷ ls) (term_literal t sign ∷ ms) h = ((l.term, h.0.0.within, refl), assumed_in_table ls ms h.1)
  assumed_in_table (l ∷ ls) (is_at_most ps b ∷ ms) h = absurd h.0
  assumed_in_table (l ∷ ls) (is_below ps b ∷ ms) h = absurd h.0

-- ---- Numbers

-- the numbers of terms that are in the table tell them apart
tell_apart : TermHasItsNumber → (ns : List Node) → IsTable ns → (us : List Term) → AllByRecursion (IsInTable ns) us → TellsApart (number_in ns) us
tell_apart numbers ns table us all t u has_t has_u same =
    let a = each_of (IsInTable ns) us all t has_t in
    let b = each_of (IsInTable ns) us all u has_u in
    let number_a : number_in ns t ≡ a.0 = ap (number_in ns) (sym a.2) ∙ numbers ns table a.0 a.1 in
    let number_b : number_in ns u ≡ b.0 = ap (number_in ns) (sym b.2) ∙ numbers ns table b.0 b.1 in
    sym a.2 ∙ ap (term_in ns) (sym number_a ∙ same ∙ number_b) ∙ b.2

-- ---- What a check lists

-- what these items say, and the terms of what is assumed
abbrev pub told_terms : List Node → List Item → List TermLit → List Term
told_terms ns items ls = flat_map item_terms items ++ map (λ (l : TermLit). term_in ns l.term) ls

-- numbers of the table tell apart what that is made of
pub told_apart : TermOfNode → TermHasItsNumber → (ns : List Node) → IsTable ns → HasCompanions ns → (ids : List ℕ) (items : List Item) (ls : List TermLit) (ms : List Literal)
    → StandForAll ns ids (flat_map item_terms items) → AreAssumed ns ls ms → TellsApart (number_in ns) (flat_map listing_order (told_terms ns items ls))
told_apart node numbers ns table has ids items ls ms stand are =
    tell_apart numbers ns table (flat_map listing_order (told_terms ns items ls))
    (each_listed node ns table has (told_terms ns items ls)
    (AllByRecursion-append (IsInTable ns) (flat_map item_terms items) (map (λ (l : TermLit). term_in ns l.term) ls) (stand_in_table ns ids (flat_map item_terms items) stand)
    (assumed_in_table ns ls ms are)))

-- a list with nothing behind it
front_of : (ts : List Term) (t : Term) → Contains (ts ++ []) t → Contains ts t
front_of ts t has = elim (Contains-append_cases ts [] t has) [ inl here ↦ here | inr none ↦ absurd (has_none t none) ]

-- What a literal lists is what its term is made of, or a negation of it, of which the tables have nothing.
lit_cases : NegationsHaveNoRows → (ns : List Node) (l : TermLit) (m : Literal) → IsAssumed ns l m → (t : Term) → Contains (flat_map listing_order (normals_in m)) t
    → Contains (listing_order (term_in ns l.term)) t ⊎ HasNoRows t
lit_cases none ns l (term_literal u true) h t has = inl (subst (λ v. Contains (listing_order v) t) (sym h.0.term) (front_of (listing_order (normal_of u)) t has))
lit_cases none ns l (term_literal u false) h t has =
    let v = normal_of u in
    let arguments : Terms = terms v no_terms in
    elim (Contains-append_cases (listing_orders arguments ++ []) (negated v ∷ []) t (front_of (listing_order (negated v)) t has)) [
      | inl part ↦ inl (subst (λ w. Contains (listing_order w) t) (sym h.0.term) (front_of (listing_order v) t (front_of (listing_orders arguments) t part)))
      | inr own ↦ elim (has_cases (negated v) t [] own) [
        | inl is ↦ inr (subst HasNoRows is (none arguments))
        | inr no_more ↦ absurd (has_none t no_more)
      ]
    ]
lit_cases none ns l (is_at_most ps b) h t has = absurd h
lit_cases none ns l (is_below ps b) h t has = absurd h

lits_cases : NegationsHaveNoRows → (ns : List Node) (ls : List TermLit) (ms : List Literal) → AreAssumed ns ls ms → (t : Term) → Contains (flat_map listing_order (flat_map normals_in ms)) t
    → Contains (flat_map listing_order (map (λ (l : TermLit). term_in ns l.term) ls)) t ⊎ HasNoRows t
lits_cases none ns [] [] h t has = absurd (has_none t has)
lits_cases none ns [] (m ∷ ms) h t has = absurd h
lits_cases none ns (l ∷ ls) [] h t has = absurd h
lits_cases none ns (l ∷ ls) (m ∷ ms) h t has =
    let first = listing_order (term_in ns l.term) in
    let others = flat_map listing_order (map (λ (k : TermLit). term_in ns k.term) ls) in
    let mine = flat_map listing_order (normals_in m) in
    let theirs = flat_map listing_order (flat_map normals_in ms) in
    elim (Contains-append_cases mine theirs t (subst (λ ts. Contains ts t) (flat_map-append listing_order (normals_in m) (flat_map normals_in ms)) has)) [
      | inl here ↦ elim (lit_cases none ns l m h.0 t here) [
        | inl part ↦ inl (Contains-append_left first others t part)
        | inr without ↦ inr without
      ]
      | inr later ↦ elim (lits_cases none ns ls ms h.1 t later) [
        | inl part ↦ inl (Contains-append_right first others t part)
        | inr without ↦ inr without
      ]
    ]

-- so each that is listed is of what is told, or the tables have nothing of it
pub listed_cases : NegationsHaveNoRows → (ns : List Node) (items : List Item) (ls : List TermLit) (ms : List Literal) → AreAssumed ns ls ms → (t : Term)
    → Contains (flat_map listing_order (flat_map item_terms items ++ flat_map normals_in ms)) t → Contains (flat_map listing_order (told_terms ns items ls)) t ⊎ HasNoRows t
listed_cases none ns items ls ms are t has =
    let us = flat_map item_terms items in
    let assumed = map (λ (l : TermLit). term_in ns l.term) ls in
    let first = flat_map listing_order us in
    let others = flat_map listing_order assumed in
    let back : Contains (first ++ others) t → Contains (flat_map listing_order (us ++ assumed)) t = subst (λ ts. Contains ts t) (sym (flat_map-append listing_order us assumed)) in
    elim (Contains-append_cases first (flat_map listing_order (flat_map normals_in ms)) t (subst (λ ts. Contains ts t) (flat_map-append listing_order us (flat_map normals_in ms)) has)) [
      | inl here ↦ inl (back (Contains-append_left first others t here))
      | inr later ↦ elim (lits_cases none ns ls ms are t later) [
        | inl part ↦ inl (back (Contains-append_right first others t part))
        | inr without ↦ inr without
      ]
    ]

-- a term is the last of what it lists
own_last : (t : Term) → Contains (listing_order t) t
own_last (apply h ts) = Contains-append_right (listing_orders ts ++ companions h ts) (apply h ts ∷ []) (apply h ts) (has_first (apply h ts) [])

pub own_listed : (ts : List Term) (t : Term) → Contains ts t → Contains (flat_map listing_order ts) t
own_listed [] t has = absurd (has_none t has)
own_listed (u ∷ us) t has =
    let others = flat_map listing_order us in
    elim (has_cases u t us has) [
      | inl is ↦ subst (Contains (listing_order u ++ others)) is (Contains-append_left (listing_order u) others u (own_last u))
      | inr later ↦ Contains-append_right (listing_order u) others t (own_listed us t later)
    ]
