-- What is legal where units are numbered in one way is legal where they are numbered in another: what is asked of a list says the same of literals in another order.
use Rattle.std.proofs.Common.{◌≡◌, ◌⊎◌, inl, inr, Bool, true, List, [], ◌∷◌, ◌++◌, flat_map, Option, refl, sym, ap₂, ◌∙◌, subst}
use Rattle.std.specs.Prelude.{Contains}
use Rattle.std.specs.List.{AllByRecursion}
use Rattle.std.proofs.lemmas.List.Elements.{All-contains, Contains-append_cases, Contains-append_left, Contains-append_right, Contains-push_cases}
use Rattle.nz_lists.proofs.Members.{each_of, has_cases, has_first, has_more, has_none}
use Rattle.nz_fractions.specs.Fraction.{Operation}
use Rattle.nz_spec.specs.numbers.Computation.{Computation}
use Rattle.nz_spec.specs.terms.Term.{at_most, Term, apply, Terms, no_terms, terms}
use Rattle.nz_spec.specs.terms.Order.{companions, listing_order, listing_orders}
use Rattle.nz_spec.specs.terms.Form.{Numbering, Form}
use Rattle.nz_spec.specs.terms.FormOf.{form_of}
use Rattle.nz_spec.specs.clauses.Gates.{list_of}
use Rattle.nz_spec.specs.clauses.Literal.{Literal, Clause, negation_of, SayTheSame}
use Rattle.nz_spec.specs.clauses.Links.{at_most_literal, link_clauses}
use Rattle.nz_spec.specs.clauses.Met.{HasMetLiteral, MeetsClauses}
use Rattle.nz_spec.specs.simplex.Basis.{Valuation}
use Rattle.nz_spec.specs.clauses.Units.{unit_clauses}
use Rattle.nz_spec.specs.clauses.Farkas.{is_linear_literal}
use Rattle.nz_spec.specs.simplex.Climb.{linear_literals}
use Rattle.nz_spec.specs.search.Search.{Task}
use Rattle.nz_spec.specs.search.Atoms.{IsTabled, IsBoundOf, bounds_asserted}
use Rattle.nz_spec.specs.search.Places.{term_operations}
use Rattle.nz_spec.specs.laws.Renumbering.{GoTogether, AreEach, MayRenumber, ClausesRenumber, LiteralsRenumber}
use Rattle.nz_spec.specs.laws.LegalWork.{HasNoRows, NegationsHaveNoRows, MayRenumberTask, RenumberedWorkIsLegal}
use Rattle.nz_spec.proofs.FlatLists.{filter_from, filter_has, flat_from, flat_has}
use Rattle.nz_spec.proofs.Negations.{literal-back}
use Rattle.nz_spec.proofs.OtherTasks.{other_task, AreAmong, Allows, legal-more, spent-more, stopped-more}
use Rattle.nz_spec.proofs.RenumberedTerms.{most_renumbers, terms_renumber}
use Rattle.nz_spec.proofs.SameSums.{say_along, say_linear, say_met, say_negated, renumbered_says}

-- the element of one list that stands for one of the other
module _ {A B : Type 0} (R : A → B → Type 0) where
  each_first : (xs : List A) (ys : List B) → AreEach R xs ys → (x : A) → Contains xs x → (y : B) × Contains ys y × R x y
  each_first [] ys h x has = absurd (has_none x has)
  each_first (z ∷ xs) [] h x has = absurd h
  each_first (z ∷ xs) (y ∷ ys) h x has =
      elim (has_cases z x xs has) [
        | inl here ↦ (y, has_first y ys, subst (λ (w : A). R w y) here h.0)
        | inr later ↦ let found = each_first xs ys h.1 x later in (found.0, has_more y found.0 ys found.1, found.2)
      ]

-- ---- The other order

back : (m n : Numbering) (us : List Term) → MayRenumber m n us → MayRenumber n m us
back m n us h = record { before = h.after; after = h.before; arguments = h.arguments; companions = h.companions }

abbrev rows_of : Numbering → Term → List (Computation Clause)
rows_of number t = link_clauses number t ++ unit_clauses number t

-- among these terms, or without rows
abbrev IsCovered : List Term → Term → Type 0
IsCovered us t = Contains us t ⊎ HasNoRows t

module _ (m n : Numbering) (us : List Term) (may : MayRenumber m n us) where
  -- a literal of a row says the same as one of the row by the other numbering
  pub row_literal : (t : Term) → IsCovered us t → (row : Computation Clause) → Contains (rows_of m t) row → (l : Literal) → Contains row.result l
      → (other : Computation Clause) × Contains (rows_of n t) other × ((k : Literal) × Contains other.result k × LiteralsRenumber m n us l k)
  row_literal t (inr none) row has l in_row = absurd (has_none row (subst (λ (rs : List (Computation Clause)). Contains rs row) (none.rows m) has))
  row_literal t (inl there) row has l in_row =
      let R : Computation Clause → Computation Clause → Type 0 = GoTogether (ClausesRenumber m n us) in
      elim (Contains-append_cases (link_clauses m t) (unit_clauses m t) row has) [
        | inl link ↦
            let other = each_first R (link_clauses m t) (link_clauses n t) (terms_renumber.links m n us may t there) row link in
            (other.0, Contains-append_left (link_clauses n t) (unit_clauses n t) other.0 other.1, each_first (LiteralsRenumber m n us) row.result other.0.result other.2.result l in_row)
        | inr unit ↦
            let other = each_first R (unit_clauses m t) (unit_clauses n t) (terms_renumber.units m n us may t there) row unit in
            (other.0, Contains-append_right (link_clauses n t) (unit_clauses n t) other.0 other.1, each_first (LiteralsRenumber m n us) row.result other.0.result other.2.result l in_row)
      ]

  -- a literal of the tables says the same as one of those by the other numbering
  tabled_renumbers : (ts : List Term) → ((t : Term) → Contains ts t → IsCovered us t) → (l : Literal) → IsTabled m ts l → (k : Literal) × IsTabled n ts k × SayTheSame l k
  tabled_renumbers ts covered l h = by_sign h.has
    where
      by_sign : Contains h.row.result l ⊎ Contains h.row.result (negation_of l) → (k : Literal) × IsTabled n ts k × SayTheSame l k
      by_sign (inl own) =
          let (row, tabled, (k, has, same)) = row_literal h.term (covered h.term h.listed) h.row h.tabled l own in
          let says = renumbered_says m n us l k same in
          (k, record { term = h.term; listed = h.listed; row = row; tabled = tabled; linear = sym (say_linear l k says) ∙ h.linear; has = inl has }, says)
      by_sign (inr other) =
          let (row, tabled, (k, has, same)) = row_literal h.term (covered h.term h.listed) h.row h.tabled (negation_of l) other in
          let says : SayTheSame l (negation_of k) =
          subst (λ (j : Literal). SayTheSame j (negation_of k)) (literal-back l) (say_negated (negation_of l) k (renumbered_says m n us (negation_of l) k same)) in (
            negation_of k,
            record {
              term = h.term;
              listed = h.listed;
              row = row;
              tabled = tabled;
              linear = sym (say_linear l (negation_of k) says) ∙ h.linear;
              has = inr (subst (Contains row.result) (sym (literal-back k)) has);
            },
            says,
          )

  bound_renumbers : (ts : List Term) → ((t : Term) → Contains ts t → IsCovered us t) → (l : Literal) → IsBoundOf m ts l → IsBoundOf n ts l
  bound_renumbers ts covered l h =
      let (k, tabled, same) = tabled_renumbers ts covered h.plain h.tabled in
      record { plain = k; tabled = tabled; written = h.written; same = say_along h.written h.plain k h.same same; is_tight = h.is_tight; is = h.is }

  -- ---- Literals of terms

  linear_renumber : (ts : List Term) → ((t : Term) → Contains ts t → IsCovered us t) → AreAmong (linear_literals m ts) (linear_literals n ts)
  linear_renumber ts covered l has =
      let result : Computation Clause → List Literal = λ c. c.result in
      let linear = filter_from is_linear_literal (flat_map result (flat_map (rows_of m) ts)) l has in
      let row = flat_from result (flat_map (rows_of m) ts) l linear.0 in
      let term = flat_from (rows_of m) ts row.0 row.1 in
      let (other, there, (k, in_row, same)) = row_literal term.0 (covered term.0 term.1) row.0 term.2 l row.2 in
      let says = renumbered_says m n us l k same in
      let linear_there : is_linear_literal k ≡ true = subst (λ (b : Bool). b ≡ true) (say_linear l k says) linear.1 in (
        k,
        filter_has is_linear_literal (flat_map result (flat_map (rows_of n) ts)) k
            (flat_has result (flat_map (rows_of n) ts) other k (flat_has (rows_of n) ts term.0 other term.1 there) in_row) linear_there,
        says,
      )

  bound_of_term : (t : Term) → Contains us t → AreAmong (bounds_asserted m t) (bounds_asserted n t)
  bound_of_term (apply at_most (terms a (terms b no_terms))) there l has =
      let arguments = may.arguments at_most (terms a (terms b no_terms)) there in
      let own = (at_most_literal m a b).result in
      let other = (at_most_literal n a b).result in
      let same = renumbered_says m n us own other (most_renumbers m n us may a b arguments.0 arguments.1.0).result in
      elim (has_cases own l [] has) [
        | inl is ↦ (other, has_first other [], subst (λ (k : Literal). SayTheSame k other) is same)
        | inr none ↦ absurd (has_none l none)
      ]
  bound_of_term t there l has = absurd (has_none l has)

  bounds_renumber : (ts : List Term) → ((t : Term) → Contains ts t → Contains us t) → AreAmong (flat_map (bounds_asserted m) ts) (flat_map (bounds_asserted n) ts)
  bounds_renumber ts within l has =
      let term = flat_from (bounds_asserted m) ts l has in
      let (k, there, same) = bound_of_term term.0 (within term.0 term.1) l term.2 in
      (k, flat_has (bounds_asserted n) ts term.0 k term.1 there, same)

  -- ---- Operations of terms

  rows_together : (cs ds : List (Computation Clause)) → AreEach (GoTogether (ClausesRenumber m n us)) cs ds → (op : Operation)
      → Contains (flat_map (λ (c : Computation Clause). c.operations) ds) op → Contains (flat_map (λ (c : Computation Clause). c.operations) cs) op
  rows_together [] [] h op has = has
  rows_together [] (d ∷ ds) h op has = absurd h
  rows_together (c ∷ cs) [] h op has = absurd h
  rows_together (c ∷ cs) (d ∷ ds) h op has =
      let rest : List (Computation Clause) → List Operation = flat_map (λ (e : Computation Clause). e.operations) in
      elim (Contains-append_cases d.operations (rest ds) op has) [
        | inl here ↦ Contains-append_left c.operations (rest cs) op (h.0.operations op here)
        | inr later ↦ Contains-append_right c.operations (rest cs) op (rows_together cs ds h.1 op later)
      ]

  each_both : (cs ds es fs : List (Computation Clause)) → AreEach (GoTogether (ClausesRenumber m n us)) cs ds → AreEach (GoTogether (ClausesRenumber m n us)) es fs
      → AreEach (GoTogether (ClausesRenumber m n us)) (cs ++ es) (ds ++ fs)
  each_both [] [] es fs h k = k
  each_both [] (d ∷ ds) es fs h k = absurd h
  each_both (c ∷ cs) [] es fs h k = absurd h
  each_both (c ∷ cs) (d ∷ ds) es fs h k = (h.0, each_both cs ds es fs h.1 k)

  -- a term takes the same operations by both numberings
  operation_renumbers : (t : Term) → IsCovered us t → (op : Operation) → Contains (term_operations n t) op → Contains (term_operations m t) op
  operation_renumbers t (inl there) op has =
      let rest : Numbering → List Operation = λ number. flat_map (λ (c : Computation Clause). c.operations) (rows_of number t) in
      elim (Contains-append_cases (form_of n t).operations (rest n) op has) [
        | inl form ↦ Contains-append_left (form_of m t).operations (rest m) op ((terms_renumber.forms m n us may t there).operations op form)
        | inr row ↦
            Contains-append_right (form_of m t).operations (rest m) op
            (rows_together (rows_of m t) (rows_of n t)
            (each_both (link_clauses m t) (link_clauses n t) (unit_clauses m t) (unit_clauses n t) (terms_renumber.links m n us may t there) (terms_renumber.units m n us may t there)) op row)
      ]
  operation_renumbers t (inr none) op has =
      let operations : term_operations n t ≡ [] =
      ap₂ (λ (c : Computation Form) (rows : List (Computation Clause)). c.operations ++ flat_map (λ (d : Computation Clause). d.operations) rows) (none.form n) (none.rows n) in
      absurd (has_none op (subst (λ (os : List Operation). Contains os op) operations has))

  -- ---- What is met

  module _ (truths : Term → Option Bool) (v : Valuation) where
    clause_met : (c d : Clause) → ClausesRenumber m n us c d → HasMetLiteral truths v c → HasMetLiteral truths v d
    clause_met c d h (l, has, met) =
        let (k, there, same) = each_first (LiteralsRenumber m n us) c d h l has in (k, there, say_met truths v l k (renumbered_says m n us l k same) met)

    abbrev HasMetResult : Computation Clause → Type 0
    HasMetResult c = HasMetLiteral truths v c.result

    rows_met : (cs ds : List (Computation Clause)) → AreEach (GoTogether (ClausesRenumber m n us)) cs ds → AllByRecursion HasMetResult cs → AllByRecursion HasMetResult ds
    rows_met [] [] h met = tt
    rows_met [] (d ∷ ds) h met = absurd h
    rows_met (c ∷ cs) [] h met = absurd h
    rows_met (c ∷ cs) (d ∷ ds) h met = (clause_met c.result d.result h.0.result met.0, rows_met cs ds h.1 met.1)

    clauses_met : (ts : List Term) → ((t : Term) → Contains ts t → Contains us t) → MeetsClauses truths v m ts → MeetsClauses truths v n ts
    clauses_met ts within h = record {
      gates = h.gates;
      links = λ t sign at has. rows_met (link_clauses m t) (link_clauses n t) (terms_renumber.links m n us may t (within t at)) (h.links t sign at has);
      units = λ t at. rows_met (unit_clauses m t) (unit_clauses n t) (terms_renumber.units m n us may t (within t at)) (h.units t at);
    }

  -- ---- What a term is made of

  mutual
    order_within : (t : Term) → Contains us t → (u : Term) → Contains (listing_order t) u → Contains us u
    order_within (apply h ts) there u has =
        elim (Contains-push_cases (listing_orders ts ++ companions h ts) (apply h ts) u has) [
          | inl before ↦ elim (Contains-append_cases (listing_orders ts) (companions h ts) u before) [
            | inl part ↦ orders_within ts (may.arguments h ts there) u part
            | inr beside ↦ each_of (Contains us) (companions h ts) (may.companions (apply h ts) there) u beside
          ]
          | inr is ↦ subst (Contains us) is there
        ]

    orders_within : (ts : Terms) → AllByRecursion (Contains us) (list_of ts) → (u : Term) → Contains (listing_orders ts) u → Contains us u
    orders_within no_terms all u has = absurd (has_none u has)
    orders_within (terms t ts) all u has =
        elim (Contains-append_cases (listing_order t) (listing_orders ts) u has) [
          | inl here ↦ order_within t all.0 u here
          | inr later ↦ orders_within ts all.1 u later
        ]

-- ---- Tasks

allows : (q : Task) (numbering : Numbering) → MayRenumberTask q numbering → Allows q (other_task q q.listed q.earlier q.earlier_goals numbering)
allows q numbering h =
    let us = h.terms in
    let covered : (t : Term) → Contains q.listed t → IsCovered us t = λ t has. All-contains (IsCovered us) q.listed t h.listed has in
    let asserted : (t : Term) → Contains q.asserted t → Contains us t = λ t has. All-contains (Contains us) q.asserted t h.asserted has in
    let parts : (u : Term) → Contains (flat_map listing_order q.asserted) u → Contains us u = λ u has.
    let t = flat_from listing_order q.asserted u has in order_within q.numbering numbering us h.may t.0 (asserted t.0 t.1) u t.2 in
    let other = back q.numbering numbering us h.may in
    record {
      listed = λ t has. has;
      earlier = λ t has. has;
      goals = λ g has. has;
      bound = bound_renumbers q.numbering numbering us h.may q.listed covered;
      bounds = bounds_renumber numbering q.numbering us other q.asserted asserted;
      asserted = linear_renumber numbering q.numbering us other (flat_map listing_order q.asserted) (λ u has. inl (parts u has));
      literals = linear_renumber q.numbering numbering us h.may q.listed covered;
      met = λ truths v. clauses_met q.numbering numbering us h.may truths v (flat_map listing_order q.asserted) parts;
      operation = λ t op has. operation_renumbers numbering q.numbering us other t (covered t has) op;
    }

pub renumbered_work_is_legal : RenumberedWorkIsLegal
renumbered_work_is_legal = record {
  legal = λ q numbering lines h. legal-more q q.listed q.earlier q.earlier_goals numbering (allows q numbering h) lines;
  spent = λ q numbering work h. spent-more q q.listed q.earlier q.earlier_goals numbering (allows q numbering h) work;
  stopped = λ q numbering work place h. stopped-more q q.listed q.earlier q.earlier_goals numbering (allows q numbering h) work place;
}

pub negations_have_no_rows : NegationsHaveNoRows
negations_have_no_rows ts = record { form = λ number. refl; rows = λ number. refl }
