-- Work that is legal for what a search is asked, by the numbers of a table, is legal for what a check asks.
use Rattle.std.proofs.Common.{◌≡◌, ◌⊎◌, ℕ, true, false, List, [], ◌∷◌, ◌++◌, get_or, map, inl, inr, refl, sym, ap, ◌∙◌, subst, IsTrue, Option, None, Some, Result, Ok, Err, IfErr}
use Rattle.std.specs.Prelude.{Contains, flat_map}
use Rattle.std.proofs.lemmas.Grind.{flat_map-append}
use Rattle.std.proofs.lemmas.List.Elements.{All-from_recursion, All-map, Contains-append_left, Contains-append_right, Contains-append_cases}
use Rattle.nz_lists.proofs.Members.{by_each}
use Rattle.nz_spec.specs.terms.Term.{Term, apply, constant, no_terms, terms, Assignment, is_true, value_of}
use Rattle.nz_spec.specs.terms.FormOf.{PlacesTellApart, TermHasItsNumber, number_in, place_of}
use Rattle.nz_spec.specs.terms.Normal.{negated, normal_of, NormalKeepsValue}
use Rattle.nz_spec.specs.terms.Table.{IsTable, Node, TermOfNode, term_in}
use Rattle.nz_spec.specs.terms.Order.{listing_order, listing_orders}
use Rattle.nz_spec.specs.clauses.Literal.{Literal, term_literal, is_at_most, is_below, are_same_sign, is_literal_true, AreTrueLiterals}
use Rattle.nz_script.specs.live.Live.{Reason, units_spent, Item, declared, defined, asserted, sought, wished, cost_of, items_of, item_terms, assertions_in}
use Rattle.nz_spec.specs.search.Decide.{asserted_terms}
use Rattle.nz_spec.specs.search.Work.{WorkList}
use Rattle.nz_spec.specs.search.Notes.{Note}
use Rattle.nz_spec.specs.search.Search.{Task, terms_known}
use Rattle.nz_spec.specs.search.Legal.{IsSpentLegally}
use Rattle.nz_spec.specs.search.Places.{IsStoppedLegally}
use Rattle.nz_spec.specs.laws.LegalWork.{HasNoRows, IsOnTerm, MayRenumberTask, NegationsHaveNoRows, RenumberedWorkIsLegal}
use Rattle.nz_spec.specs.laws.MoreTerms.{MoreTermsEndLegally}
use Rattle.nz_spec.specs.laws.Renumbering.{ListingsMayRenumber}
use Rattle.nz_script.specs.replies.Reply.{unknown, Cause}
use Rattle.nz_script.specs.text.Tree.{Tree}
use Rattle.nz_script.specs.commands.Command.{check_sat, accepted}
use Rattle.nz_script.specs.commands.Script.{outcome_of}
use Rattle.nz_script.specs.replies.Right.{Context, normals_in, normal_literal, listed_under, task_of, asked_of, IsRightCheck}
use Rattle.nz_sort.specs.Assuming.{IsAssumed, AreAssumed}
use Rattle.nz_sort.specs.Live.{Standing, accepted_by, asserted_by, IsLive}
use Rattle.nz_search.specs.declared.note.Note as own
use Rattle.nz_place.specs.declared.place.Place as own_place
use Rattle.nz_search.specs.declared.decide.Verdict.{Verdict}
use Rattle.nz_search.specs.declared.stop.Stop.{Stop}
use Rattle.nz_search.specs.declared.stop.Stop.TheVariants.{Wide, Spent, Memory}
use Rattle.nz_search.specs.Notes.{noted_line, noted_list, AreNotedWithin}
use Rattle.nz_place.specs.Places as places
use Rattle.nz_place.specs.Places.{IsSiteWithin}
use Rattle.nz_search.specs.Places.{OnWide}
use Rattle.nz_term.specs.declared.term_lits.TermLit.{TermLit}
use Rattle.nz_term.specs.TermLits.{literal_of}
use Rattle.nz_search.specs.Asked.{ChecksMayStart, IsWithoutGoals, MayCheck}
use Rattle.nz_search.specs.Levels.{Level}
use Rattle.nz_search.specs.Verdicts.{OnSpent, task_in}
use Rattle.nz_reply.specs.Replies.{work_of}
use Rattle.nz_reply.specs.declared.reply.WorkDone.{WorkDone}
use Rattle.nz_session.specs.Desk.{asked_in}
use Rattle.nz_session.specs.Told.{only_asserted}
use Rattle.nz_session.specs.Undecided.{IfUndecided, IsUndecided, reason_by, cause_by}
use Rattle.nz_session.proofs.ListedTerms.{listed_cases, own_listed, told_apart, told_terms}
use Rattle.nz_session.proofs.ToldLevels.{added_only, asserted_only}

-- ---- What a check asks

-- what assertions are made of is among what the live items are made of
asserted_listed : (items : List Item) (t : Term) → Contains (flat_map listing_order (map normal_of (assertions_in items))) t → Contains (flat_map listing_order (flat_map item_terms items)) t
asserted_listed [] t h = h
asserted_listed (declared c ∷ items) t h = Contains-append_right (listing_order (apply (constant c) no_terms)) (flat_map listing_order (flat_map item_terms items)) t (asserted_listed items t h)
asserted_listed (defined d ∷ items) t h = asserted_listed items t h
asserted_listed (asserted u ∷ items) t h =
    let first = listing_order (normal_of u) in
    let others = flat_map listing_order (flat_map item_terms items) in
    elim (Contains-append_cases first (flat_map listing_order (map normal_of (assertions_in items))) t h) [
      | inl here ↦ Contains-append_left first others t here
      | inr later ↦ Contains-append_right first others t (asserted_listed items t later)
    ]
asserted_listed (sought g ∷ items) t h = Contains-append_right (listing_order (normal_of g.term)) (flat_map listing_order (flat_map item_terms items)) t (asserted_listed items t h)
asserted_listed (wished w ∷ items) t h = Contains-append_right (listing_order (normal_of (cost_of w))) (flat_map listing_order (flat_map item_terms items)) t (asserted_listed items t h)

-- beside assumed terms, where what some are made of is among what others are made of
all_listed : (items : List Item) (us vs : List Term) (t : Term) → (Contains (flat_map listing_order us) t → Contains (flat_map listing_order vs) t)
    → Contains (flat_map listing_order (map normal_of (assertions_in items) ++ us)) t → Contains (flat_map listing_order (flat_map item_terms items ++ vs)) t
all_listed items us vs t among h =
    let one = flat_map listing_order (map normal_of (assertions_in items)) in
    let all = flat_map listing_order (flat_map item_terms items) in
    let others = flat_map listing_order vs in
    subst (λ ts. Contains ts t) (sym (flat_map-append listing_order (flat_map item_terms items) vs))
    (elim (Contains-append_cases one (flat_map listing_order us) t (subst (λ ts. Contains ts t) (flat_map-append listing_order (map normal_of (assertions_in items)) us) h)) [
      | inl here ↦ Contains-append_left all others t (asserted_listed items t here)
      | inr later ↦ Contains-append_right all others t (among later)
    ])

-- a literal by its number says what the literal says
lit_true : NormalKeepsValue → (ns : List Node) (a : Assignment) (l : TermLit) (m : Literal) → IsAssumed ns l m → is_literal_true a (literal_of ns l) ≡ is_literal_true a m
lit_true keeps ns a l (term_literal t sign) h =
    ap (λ u. are_same_sign l.sign (is_true (value_of a u))) h.0.term ∙ ap (λ v. are_same_sign l.sign (is_true v)) (keeps a t) ∙ ap (λ b. are_same_sign b (is_true (value_of a t))) h.1
lit_true keeps ns a l (is_at_most ps b) h = absurd h
lit_true keeps ns a l (is_below ps b) h = absurd h

pub lits_true : NormalKeepsValue → (ns : List Node) (a : Assignment) (ls : List TermLit) (ms : List Literal) → AreAssumed ns ls ms → AreTrueLiterals a ms → AreTrueLiterals a (map (literal_of ns) ls)
lits_true keeps ns a [] [] h k = tt
lits_true keeps ns a [] (m ∷ ms) h k = absurd h
lits_true keeps ns a (l ∷ ls) [] h k = absurd h
lits_true keeps ns a (l ∷ ls) (m ∷ ms) h k = (subst IsTrue (sym (lit_true keeps ns a l m h.0)) k.0, lits_true keeps ns a ls ms h.1 k.1)

pub literals_true : NormalKeepsValue → (ns : List Node) (a : Assignment) (ls : List TermLit) (ms : List Literal) → AreAssumed ns ls ms → AreTrueLiterals a (map (literal_of ns) ls) → AreTrueLiterals a ms
literals_true keeps ns a [] [] h k = tt
literals_true keeps ns a [] (m ∷ ms) h k = absurd h
literals_true keeps ns a (l ∷ ls) [] h k = absurd h
literals_true keeps ns a (l ∷ ls) (m ∷ ms) h k = (subst IsTrue (lit_true keeps ns a l m h.0) k.0, literals_true keeps ns a ls ms h.1 k.1)

-- what a literal's term is made of is among what the literal adds, which may be its negation
lit_listed : (ns : List Node) (l : TermLit) (m : Literal) → IsAssumed ns l m → (t : Term) → Contains (listing_order (term_in ns l.term)) t → Contains (flat_map listing_order (normals_in m)) t
lit_listed ns l (term_literal u true) h t has = Contains-append_left (listing_order (normal_of u)) [] t (subst (λ v. Contains (listing_order v) t) h.0.term has)
lit_listed ns l (term_literal u false) h t has =
    let v = normal_of u in
    Contains-append_left (listing_order (negated v)) [] t
    (Contains-append_left (listing_orders (terms v no_terms) ++ []) (negated v ∷ []) t
    (Contains-append_left (listing_orders (terms v no_terms)) [] t
    (Contains-append_left (listing_order v) [] t (subst (λ w. Contains (listing_order w) t) h.0.term has))))
lit_listed ns l (is_at_most ps b) h t has = absurd h
lit_listed ns l (is_below ps b) h t has = absurd h

lits_listed : (ns : List Node) (ls : List TermLit) (ms : List Literal) → AreAssumed ns ls ms → (t : Term)
    → Contains (flat_map listing_order (map (λ (l : TermLit). term_in ns l.term) ls)) t → Contains (flat_map listing_order (flat_map normals_in ms)) t
lits_listed ns [] [] h t has = has
lits_listed ns [] (m ∷ ms) h t has = absurd h
lits_listed ns (l ∷ ls) [] h t has = absurd h
lits_listed ns (l ∷ ls) (m ∷ ms) h t has =
    let first = listing_order (term_in ns l.term) in
    let others = flat_map listing_order (map (λ (k : TermLit). term_in ns k.term) ls) in
    let mine = flat_map listing_order (normals_in m) in
    let theirs = flat_map listing_order (flat_map normals_in ms) in
    subst (λ ts. Contains ts t) (sym (flat_map-append listing_order (normals_in m) (flat_map normals_in ms)))
    (elim (Contains-append_cases first others t has) [
      | inl here ↦ Contains-append_left mine theirs t (lit_listed ns l m h.0 t here)
      | inr later ↦ Contains-append_right mine theirs t (lits_listed ns ls ms h.1 t later)
    ])

-- what the search lists is listed by the check
search_listed : (ns : List Node) (l : Standing) (c : Context) (ls : List TermLit) (ms : List Literal) → IsLive ns l c.state → AreAssumed ns ls ms
    → (t : Term) → Contains (task_in ns (map only_asserted (asserted_by l)) ls c.earlier).listed t → Contains (listed_under c.state ms) t
search_listed ns l c ls ms h k t has =
    let assumed = map (λ (i : TermLit). term_in ns i.term) ls in
    all_listed (items_of c.state.levels) assumed (flat_map normals_in ms) t (lits_listed ns ls ms k t)
    (subst (λ ts. Contains (flat_map listing_order (ts ++ assumed)) t) (ap (asserted_terms ns) (added_only (asserted_by l)) ∙ h.terms) has)

-- so what searches were asked of is, once the search was asked, what they were asked of once the check is told
pub search_known : (ns : List Node) (l : Standing) (c : Context) (t : Tree) (ls : List TermLit) (ms : List Literal) → IsLive ns l c.state → AreAssumed ns ls ms
    → outcome_of c.state t ≡ accepted (check_sat ms) → (u : Term) → Contains (terms_known (task_in ns (map only_asserted (asserted_by l)) ls c.earlier)) u → Contains (asked_in c t).earlier u
search_known ns l c t ls ms h k e u has =
    let listed = listed_under c.state ms in
    subst (λ o. Contains (c.earlier ++ asked_of c.state o) u) (sym e)
    (elim (Contains-append_cases c.earlier (task_in ns (map only_asserted (asserted_by l)) ls c.earlier).listed u has) [
      | inl before ↦ Contains-append_left c.earlier listed u before
      | inr here ↦ Contains-append_right c.earlier listed u (search_listed ns l c ls ms h k u here)
    ])

-- what is assumed, by numbers, is what is assumed on normal terms
same_literal : (ns : List Node) (l : TermLit) (m : Literal) → IsAssumed ns l m → literal_of ns l ≡ normal_literal m
same_literal ns l (term_literal t sign) h = λ i. term_literal (h.0.term i) (h.1 i)
same_literal ns l (is_at_most ps b) h = absurd h
same_literal ns l (is_below ps b) h = absurd h

same_literals : (ns : List Node) (ls : List TermLit) (ms : List Literal) → AreAssumed ns ls ms → map (literal_of ns) ls ≡ map normal_literal ms
same_literals ns [] [] h = refl
same_literals ns [] (m ∷ ms) h = absurd h
same_literals ns (l ∷ ls) [] h = absurd h
same_literals ns (l ∷ ls) (m ∷ ms) h =
    let first = same_literal ns l m h.0 in
    let rest = same_literals ns ls ms h.1 in
    λ i. first i ∷ rest i

-- what a check asks, by the numbers of a table
abbrev numbered_task : List Node → Context → List Literal → Task
numbered_task ns c ms = record (task_of c ms) { numbering = number_in ns }

-- the check asks what the search is asked, by the numbers of the table, and lists all that the live items are made of
asks_same : (ns : List Node) (l : Standing) (c : Context) (ls : List TermLit) (ms : List Literal) → IsLive ns l c.state → AreAssumed ns ls ms
    → record (task_in ns (map only_asserted (asserted_by l)) ls c.earlier) { listed = listed_under c.state ms; earlier = c.earlier; earlier_goals = [] } ≡ numbered_task ns c ms
asks_same ns l c ls ms h k =
    let terms = ap (asserted_terms ns) (asserted_only (asserted_by l)) ∙ h.terms in
    let literals = same_literals ns ls ms k in
    λ i.
    let q : Task = record {
      asserted = terms i;
      assumed = literals i;
      goals = [];
      groups = [];
      listed = listed_under c.state ms;
      numbering = number_in ns;
      earlier = c.earlier;
      earlier_goals = [];
    } in
    q

-- ---- A search that wasn't decided

-- a check may be made of a list without lines, and stands there
pub may_start : ChecksMayStart → (ns : List Node) (levels : List Level) (ls : List TermLit) (ts : List Term) (work : WorkList own.Note) → work.lines ≡ [] → (begins : List Term → Type 0) (Stands : Task → Type 0)
    → ((q : Task) → begins q.earlier → work.lines ≡ [] → Stands q) → begins ts → MayCheck ns levels ls (task_in ns levels ls ts) work × Stands (task_in ns levels ls ts)
may_start start ns levels ls ts work none begins Stands starts may = (start.asked ns levels ls (task_in ns levels ls ts) work (start.alone ns levels ls ts) none, starts (task_in ns levels ls ts) may none)

pub no_goals : (ns : List Node) (levels : List Level) (ls : List TermLit) (ts : List Term) → IsWithoutGoals (task_in ns levels ls ts)
no_goals ns levels ls ts =
    record {
      goals = refl;
      earlier = refl;
      assumed = All-map IsOnTerm (literal_of ns) ls (λ k d below. let l = get_or ls k d in (term_in ns l.term, l.sign, refl));
    }

-- so what is said of each task is so of those
pub started_spent : (r : Result Verdict Stop) (M S : Task → Type 0) (t : List Term → Task) (B : List Term → Type 0) (P : Task → Type 0) → ((ts : List Term) → B ts → M (t ts) × S (t ts))
    → IfErr r (λ s. OnSpent s ((q : Task) → M q → S q → P q)) → IfErr r (λ s. OnSpent s ((ts : List Term) → B ts → P (t ts)))
started_spent (Ok v) M S t B P at h = tt
started_spent (Err Memory) M S t B P at h = tt
started_spent (Err Spent) M S t B P at h = λ ts may. h (t ts) (at ts may).0 (at ts may).1
started_spent (Err (Wide place)) M S t B P at h = tt

pub started_stopped : (r : Result Verdict Stop) (M S : Task → Type 0) (t : List Term → Task) (B : List Term → Type 0) (P : Task → own_place.Place → Type 0) → ((ts : List Term) → B ts → M (t ts) × S (t ts))
    → IfErr r (λ s. OnWide s (λ p. (q : Task) → M q → S q → P q p)) → IfErr r (λ s. OnWide s (λ p. (ts : List Term) → B ts → P (t ts) p))
started_stopped (Ok v) M S t B P at h = tt
started_stopped (Err Memory) M S t B P at h = tt
started_stopped (Err Spent) M S t B P at h = tt
started_stopped (Err (Wide place)) M S t B P at h = λ ts may. h (t ts) (at ts may).0 (at ts may).1

-- of what the engine was told, where it may begin as it did
pub undecided_in_levels : (ns : List Node) (levels : List Level) (told : List (List ℕ)) (ls : List TermLit) (earlier : List Term) (begins : List Term → Type 0) (limit : ℕ) (work : WorkList own.Note)
    (r : Result Verdict Stop) → levels ≡ map only_asserted told → begins earlier → work.limit ≡ limit → AreNotedWithin ns work.lines
    → IfErr r (λ s. OnSpent s ((ts : List Term) → begins ts → IsSpentLegally (task_in ns levels ls ts) (noted_list ns work)))
    → IfErr r (λ s. OnWide s (λ p. (ts : List Term) → begins ts → IsStoppedLegally (task_in ns levels ls ts) (noted_list ns work) (places.place_of ns p)))
    → IfErr r (λ s. OnWide s (λ p. IsSiteWithin ns p.site)) → IfErr r (λ s. IfUndecided s (IsUndecided ns told ls earlier limit work))
undecided_in_levels ns levels told ls earlier begins limit work (Ok v) e may limited noted spent stopped sited = tt
undecided_in_levels ns levels told ls earlier begins limit work (Err Memory) e may limited noted spent stopped sited = tt
undecided_in_levels ns levels told ls earlier begins limit work (Err Spent) e may limited noted spent stopped sited =
    record {
      limited = limited;
      ends = subst (λ ks. IsSpentLegally (task_in ns ks ls earlier) (noted_list ns work)) e (spent earlier may);
      noted = noted;
      sited = tt;
    }
undecided_in_levels ns levels told ls earlier begins limit work (Err (Wide place)) e may limited noted spent stopped sited =
    record {
      limited = limited;
      ends = subst (λ ks. IsStoppedLegally (task_in ns ks ls earlier) (noted_list ns work) (places.place_of ns place)) e (stopped earlier may);
      noted = noted;
      sited = sited;
    }

module _ (more : MoreTermsEndLegally) (renumbered : RenumberedWorkIsLegal) (none : NegationsHaveNoRows) (tells : PlacesTellApart) (listings : ListingsMayRenumber)
    (numbers : TermHasItsNumber) (node : TermOfNode) (ns : List Node) (table : IsTable ns) (l : Standing) (c : Context) (live : IsLive ns l c.state)
    (ls : List TermLit) (ms : List Literal) (are : AreAssumed ns ls ms) (limit : ℕ) (bounded : limit ≡ c.limit) (work : WorkList own.Note) (done : WorkDone) (lines : done.work ≡ work.lines)
    (limited : done.limit ≡ limit) where
  abbrev asked : Task
  asked = task_in ns (map only_asserted (asserted_by l)) ls c.earlier

  -- the work that is told is that of the search
  same_work : work.limit ≡ limit → noted_list ns work ≡ work_of ns done
  same_work e = λ i. let w : WorkList Note = record { lines = map (noted_line ns) (sym lines i); limit = (e ∙ sym limited) i } in w

  abbrev items : List Item
  items = items_of c.state.levels

  -- all that is told to the search, and what it is made of
  abbrev told_list : List Term
  told_list = flat_map listing_order (told_terms ns items ls)

  -- the check lists it
  told_listed : (t : Term) → Contains told_list t → Contains (listed_under c.state ms) t
  told_listed t has =
      let us = flat_map item_terms items in
      let assumed = map (λ (i : TermLit). term_in ns i.term) ls in
      let first = flat_map listing_order us in
      let others = flat_map listing_order (flat_map normals_in ms) in
      subst (λ ts. Contains ts t) (sym (flat_map-append listing_order us (flat_map normals_in ms)))
      (elim (Contains-append_cases first (flat_map listing_order assumed) t (subst (λ ts. Contains ts t) (flat_map-append listing_order us assumed) has)) [
        | inl here ↦ Contains-append_left first others t here
        | inr later ↦ Contains-append_right first others t (lits_listed ns ls ms are t later)
      ])

  -- what is asserted is among it
  told_asserted : (t : Term) → Contains (map normal_of (assertions_in items)) t → Contains told_list t
  told_asserted t has =
      let us = flat_map item_terms items in
      let assumed = map (λ (i : TermLit). term_in ns i.term) ls in
      subst (λ ts. Contains ts t) (sym (flat_map-append listing_order us assumed))
      (Contains-append_left (flat_map listing_order us) (flat_map listing_order assumed) t (asserted_listed items t (own_listed (map normal_of (assertions_in items)) t has)))

  -- So the places of what the check lists may stand for the numbers of the table.
  may_renumber : MayRenumberTask (numbered_task ns c ms) (place_of (listed_under c.state ms))
  may_renumber =
      let listed = listed_under c.state ms in
      let asserts = map normal_of (assertions_in items) in
      let IsOfTold : Term → Type 0 = λ t. Contains told_list t ⊎ HasNoRows t in
      record {
        terms = told_list;
        may = listings (number_in ns) (place_of listed) (told_terms ns items ls) (told_apart node numbers ns table live.companions (accepted_by l) items ls ms live.accepted are)
            (λ t u has_t has_u same. tells listed t u (told_listed t has_t) (told_listed u has_u) same);
        asserted = All-from_recursion (Contains told_list) asserts (by_each (Contains told_list) asserts told_asserted);
        listed = All-from_recursion IsOfTold listed (by_each IsOfTold listed (listed_cases none ns items ls ms are));
      }

  -- so the answer that a check of the live state wasn't decided is right
  pub right_undecided : (place : Option own_place.Place) (r : Reason) (cause : Cause) → IsUndecided ns (asserted_by l) ls c.earlier limit work place → r ≡ reason_by limit place
      → cause ≡ cause_by ns done place → IsRightCheck c ms (unknown r) cause
  right_undecided None r cause u e f =
      let listed = search_listed ns l c ls ms live are in
      let legal = more.spent asked (listed_under c.state ms) c.earlier [] (noted_list ns work) listed (λ t h. h) (λ g h. h) u.ends in
      subst (IsRightCheck c ms (unknown r)) (sym f) (
        e ∙ ap units_spent bounded,
        limited ∙ bounded,
        subst (IsSpentLegally (task_of c ms)) (same_work u.limited)
            (renumbered.spent (numbered_task ns c ms) (place_of (listed_under c.state ms)) (noted_list ns work) may_renumber
            (subst (λ (q : Task). IsSpentLegally q (noted_list ns work)) (asks_same ns l c ls ms live are) legal)),
      )
  right_undecided (Some place) r cause u e f =
      let listed = search_listed ns l c ls ms live are in
      let legal = more.stopped asked (listed_under c.state ms) c.earlier [] (noted_list ns work) (places.place_of ns place) listed (λ t h. h) (λ g h. h) u.ends in
      subst (IsRightCheck c ms (unknown r)) (sym f) (
        e,
        limited ∙ bounded,
        subst (λ w. IsStoppedLegally (task_of c ms) w (places.place_of ns place)) (same_work u.limited)
            (renumbered.stopped (numbered_task ns c ms) (place_of (listed_under c.state ms)) (noted_list ns work) (places.place_of ns place) may_renumber
            (subst (λ (q : Task). IsStoppedLegally q (noted_list ns work) (places.place_of ns place)) (asks_same ns l c ls ms live are) legal)),
      )
