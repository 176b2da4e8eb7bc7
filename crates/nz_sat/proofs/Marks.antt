-- Marks of atoms, and how many entries of a level are marked.
use Rattle.std.proofs.Common.{◌≡◌, ◌≢◌, ℕ, zero, suc, ◌+◌, ◌<◌, ◌≤◌, Bool, true, false, not, ◌&&◌, ◌⊎◌, inl, inr, if◌then◌else◌, List, [], ◌∷◌, ◌++◌, length, take, drop, Option, Some, None, refl, sym, ap, subst, ◌∙◌, true≢false, arith, eqb-true}
use Rattle.std.specs.Prelude.{◌==◌, Contains, slice_get, slice_set, option_map}
use Rattle.std.proofs.Math.Seq.{take-suc}
use Rattle.std.proofs.lemmas.Bool.{and_from, and_parts, cases_eq, eq-eqb}
use Rattle.std.proofs.lemmas.Bool.Decides.{eqb_tells}
use Rattle.std.proofs.lemmas.List.{get_or-set_same, get_or-set_other, take-append-drop, take_all, take_more}
use Rattle.std.proofs.lemmas.List.Elements.{Contains-append_left, Contains-push, Contains-push_cases}
use Rattle.std.proofs.lemmas.List.Sums.{sum_by-cons, sum_by-take-le, sum_by_push}
use Rattle.std.proofs.lemmas.Option.{same_Some, slice_get_cases, slice_get_within, get_or_from_slice_get}
use Rattle.nz_lists.proofs.Members.{has_first, has_more}
use Rattle.nz_log.specs.declared.lits.Lit.{Lit}
use Rattle.nz_sat.specs.declared.trail.Assigned.{Assigned}
use Rattle.nz_sat.specs.Trails.{EachBehind, HasValue, IsFalseOn, IsNext, assigned, level_on}
use Rattle.nz_sat.specs.Conflicts.{AreFalseIn, MarksCounted, MarksFalse, is_marked, marked_of}
use Rattle.nz_sat.proofs.TrailEntries.{assigned_found, assigned_missing, assigned_place}

-- ---- One mark

pub marked_within : (marks : List Bool) (t : ℕ) → is_marked marks t ≡ true → t < length marks
marked_within [] t e = absurd (true≢false (sym e))
marked_within (m ∷ ms) zero e = omega arith
marked_within (m ∷ ms) (suc t) e = let h : t < length ms = marked_within ms t e in omega arith

pub other_mark : (marks : List Bool) (u t : ℕ) (b : Bool) → t ≢ u → is_marked (slice_set marks u b) t ≡ is_marked marks t
other_mark marks u t b other = get_or-set_other marks u t b false other

marks_cases : (marks : List Bool) (u t : ℕ) → is_marked (slice_set marks u true) t ≡ true → (t ≡ u) ⊎ (is_marked marks t ≡ true)
marks_cases marks u t on = elim (cases_eq t u) [ inl same ↦ inl same | inr other ↦ inr (sym (other_mark marks u t true other) ∙ on) ]

mark_keeps : (marks : List Bool) (u t : ℕ) → u < length marks → is_marked marks t ≡ true → is_marked (slice_set marks u true) t ≡ true
mark_keeps marks u t within on =
    elim (cases_eq t u) [
      | inl same ↦ ap (is_marked (slice_set marks u true)) same ∙ get_or-set_same marks u true false within
      | inr other ↦ other_mark marks u t true other ∙ on
    ]

-- what is marked after a mark is taken off was marked, and is another one
pub unmark_parts : (marks : List Bool) (u t : ℕ) → u < length marks → is_marked (slice_set marks u false) t ≡ true → (t ≢ u) × (is_marked marks t ≡ true)
unmark_parts marks u t within on =
    elim (cases_eq t u) [
      | inl same ↦
          absurd (true≢false (sym on ∙ ap (is_marked (slice_set marks u false)) same ∙ get_or-set_same marks u false false within))
      | inr other ↦ (other, sym (other_mark marks u t false other) ∙ on)
    ]

-- a mark that is taken off is off, and so are those that were
pub unmarked : (marks : List Bool) (u : ℕ) → u < length marks → is_marked (slice_set marks u false) u ≡ false
unmarked marks u within = get_or-set_same marks u false false within

pub unmark_keeps : (marks : List Bool) (u t : ℕ) → u < length marks → is_marked marks t ≡ false → is_marked (slice_set marks u false) t ≡ false
unmark_keeps marks u t within off =
    elim (cases_eq t u) [
      | inl same ↦ ap (is_marked (slice_set marks u false)) same ∙ unmarked marks u within
      | inr other ↦ other_mark marks u t false other ∙ off
    ]

-- ---- The marks of one more literal

module _ (es : List Assigned) (c : List Lit) (l : Lit) (old new : List Bool) where
  -- one that isn't false, or whose term is marked already
  marks_same : (IsFalseOn es l → is_marked new l.atom ≡ true) → MarksFalse es c old new → MarksFalse es (c ++ l ∷ []) old new
  marks_same f h = record {
    kept = h.kept;
    marked = λ m has false_too.
        elim (Contains-push_cases c l m has) [
          | inl before ↦ h.marked m before false_too
          | inr is ↦ subst (λ (k : Lit). is_marked new k.atom ≡ true) is (f (subst (IsFalseOn es) (sym is) false_too))
        ];
    only = λ t on. elim (h.only t on) [ inl o ↦ inl o | inr w ↦ inr (w.0, Contains-append_left c (l ∷ []) w.0 w.1, w.2, w.3) ];
  }

  marks_set : IsFalseOn es l → l.atom < length new → MarksFalse es c old new → MarksFalse es (c ++ l ∷ []) old (slice_set new l.atom true)
  marks_set falsified within h = record {
    kept = λ t on. mark_keeps new l.atom t within (h.kept t on);
    marked = λ m has false_too.
        elim (Contains-push_cases c l m has) [
          | inl before ↦ mark_keeps new l.atom m.atom within (h.marked m before false_too)
          | inr is ↦
              ap (λ (k : Lit). is_marked (slice_set new l.atom true) k.atom) (sym is) ∙ get_or-set_same new l.atom true false within
        ];
    only = λ t on.
        elim (marks_cases new l.atom t on) [
          | inl same ↦ inr (l, Contains-push c l, falsified, sym same)
          | inr before ↦ elim (h.only t before) [ inl o ↦ inl o | inr w ↦ inr (w.0, Contains-append_left c (l ∷ []) w.0 w.1, w.2, w.3) ]
        ];
  }

-- ---- How many are marked

abbrev pub one_if : Bool → ℕ
one_if b = if b then 1 else 0

-- what one entry adds
abbrev pub counted : List Bool → ℕ → Assigned → ℕ
counted marks level e = one_if (is_marked marks e.literal.atom && (e.level == level))

abbrev pub one_at : ℕ → ℕ → ℕ
one_at level n = one_if (n == level)

none_parts : (e : Assigned) (es : List Assigned) (t : ℕ) → assigned (e ∷ es) t ≡ None → (t ≢ e.literal.atom) × (assigned es t ≡ None)
none_parts e es t at =
    elim (eqb_tells e.literal.atom t) [
      | inl p ↦
          let found : Some e ≡ None = ap (λ (b : Bool). if b then Some e else assigned es t) (sym p.0) ∙ at in
          cc
      | inr p ↦ (λ same. p.1 (sym same), ap (λ (b : Bool). if b then Some e else assigned es t) (sym p.0) ∙ at)
    ]

-- a mark of a term without an entry counts nothing
pub marked_apart : (b : Bool) (marks : List Bool) (t level : ℕ) (es : List Assigned) → assigned es t ≡ None
    → marked_of (slice_set marks t b) level es ≡ marked_of marks level es
marked_apart b marks t level [] at = refl
marked_apart b marks t level (e ∷ es) at =
    let parts = none_parts e es t at in
    let here : counted (slice_set marks t b) level e ≡ counted marks level e =
    ap (λ (m : Bool). one_if (m && (e.level == level))) (other_mark marks t e.literal.atom b (λ same. parts.0 (sym same))) in
    let rest = marked_apart b marks t level es parts.1 in
    let left = sum_by-cons (counted (slice_set marks t b) level) e es in
    let right = sum_by-cons (counted marks level) e es in
    omega arith

pub one_found : (e : Assigned) (t : ℕ) (x : Assigned) → assigned (e ∷ []) t ≡ Some x → (e.literal.atom ≡ t) × (e ≡ x)
one_found e t x at =
    elim (eqb_tells e.literal.atom t) [
      | inl p ↦ (p.1, same_Some e x (ap (λ (b : Bool). if b then Some e else None) (sym p.0) ∙ at))
      | inr p ↦
          let found : None ≡ Some x = ap (λ (b : Bool). if b then Some e else None) (sym p.0) ∙ at in
          cc
    ]

module _ (size : ℕ) (es : List Assigned) (order : EachBehind (IsNext size) es) (marks : List Bool) (t level : ℕ) (off : is_marked marks t ≡ false) (within : t < length marks) where
  abbrev CountsOne : List Assigned → Assigned → Type 0
  CountsOne front x = marked_of (slice_set marks t true) level front ≡ marked_of marks level front + one_at level x.level

  old_step : (front : List Assigned) (e x : Assigned) → e.literal.atom ≢ t → CountsOne front x → CountsOne (front ++ e ∷ []) x
  old_step front e x other ih =
      let here : counted (slice_set marks t true) level e ≡ counted marks level e =
      ap (λ (m : Bool). one_if (m && (e.level == level))) (other_mark marks t e.literal.atom true other) in
      let left = sum_by_push (counted (slice_set marks t true) level) front e in
      let right = sum_by_push (counted marks level) front e in
      omega arith

  last_step : (front : List Assigned) (e : Assigned) → e.literal.atom ≡ t → assigned front t ≡ None → CountsOne (front ++ e ∷ []) e
  last_step front e same none =
      let before : counted marks level e ≡ 0 =
      ap (λ (m : Bool). one_if (m && (e.level == level))) (ap (is_marked marks) same ∙ off) in
      let after : counted (slice_set marks t true) level e ≡ one_at level e.level =
      ap (λ (m : Bool). one_if (m && (e.level == level)))
      (ap (is_marked (slice_set marks t true)) same ∙ get_or-set_same marks t true false within) in
      let apart = marked_apart true marks t level front none in
      let left = sum_by_push (counted (slice_set marks t true) level) front e in
      let right = sum_by_push (counted marks level) front e in
      omega arith

  new_step : (front : List Assigned) (e : Assigned) → assigned front e.literal.atom ≡ None
      → ((x : Assigned) → assigned front t ≡ Some x → CountsOne front x)
      → (x : Assigned) → assigned (front ++ e ∷ []) t ≡ Some x → CountsOne (front ++ e ∷ []) x
  new_step front e fresh f x at =
      elim (assigned front t) as (λ o. assigned front t ≡ o → CountsOne (front ++ e ∷ []) x) [
        | None ↦ λ none.
            let one = one_found e t x (sym (assigned_missing front (e ∷ []) t none) ∙ at) in
            subst (CountsOne (front ++ e ∷ [])) one.1 (last_step front e one.0 none)
        | Some y ↦ λ there.
            let same : y ≡ x = same_Some y x (sym (assigned_found front (e ∷ []) t y there) ∙ at) in
            old_step front e x (λ is. let clash : None ≡ Some y = sym fresh ∙ ap (assigned front) is ∙ there in cc) (subst (CountsOne front) same (f y there))
      ] refl

  -- the mark of an entry that wasn't marked counts one at its level
  marked_new : (n : ℕ) (x : Assigned) → assigned (take n es) t ≡ Some x
      → marked_of (slice_set marks t true) level (take n es) ≡ marked_of marks level (take n es) + one_at level x.level
  marked_new zero x at = let none : None ≡ Some x = at in cc
  marked_new (suc n) x at =
      elim (slice_get_cases es n).1 [
        | inl w ↦
            let more : take (suc n) es ≡ take n es ++ w.0 ∷ [] = take-suc es n w.0 w.1 ∙ ap (λ (y : Assigned). take n es ++ y ∷ []) w.3 in
            subst (λ (front : List Assigned). CountsOne front x) (sym more)
            (new_step (take n es) w.0 (order n w.0 w.2).fresh (marked_new n) x (subst (λ (front : List Assigned). assigned front t ≡ Some x) more at))
        | inr w ↦
            let same : take (suc n) es ≡ take n es = take_all (suc n) es (omega (arith, w.0)) ∙ sym (take_all n es w.0) in
            subst (λ (front : List Assigned). CountsOne front x) (sym same)
            (marked_new n x (subst (λ (front : List Assigned). assigned front t ≡ Some x) same at))
      ]

-- where no marked entry is of the level, none is counted
not_counted : (b : Bool) → (b ≡ true → ⊥) → one_if b ≡ 0
not_counted true f = absurd (f refl)
not_counted false f = refl

pub none_counted : (marks : List Bool) (level : ℕ) (es : List Assigned)
    → ((e : Assigned) → Contains es e → is_marked marks e.literal.atom ≡ true → e.level ≡ level → ⊥) → marked_of marks level es ≡ 0
none_counted marks level [] f = refl
none_counted marks level (e ∷ es) f =
    let here : counted marks level e ≡ 0 =
    not_counted (is_marked marks e.literal.atom && (e.level == level)) (λ both.
    let parts = and_parts (is_marked marks e.literal.atom) (e.level == level) both in
    f e (has_first e es) parts.0 (eqb-true e.level level parts.1)) in
    let rest = none_counted marks level es (λ x has on is. f x (has_more e x es has) on is) in
    let sum = sum_by-cons (counted marks level) e es in
    omega arith

pub is_counted : (marks : List Bool) (level : ℕ) (e : Assigned) → is_marked marks e.literal.atom ≡ true → e.level ≡ level → counted marks level e ≡ 1
is_counted marks level e on is = ap one_if (and_from (is_marked marks e.literal.atom) (e.level == level) on (eq-eqb e.level level is))

-- a marked entry of the level counts beside those before it
pub one_counted : (marks : List Bool) (level : ℕ) (es : List Assigned) (i : ℕ) (e : Assigned) → slice_get es i ≡ Some e → is_marked marks e.literal.atom ≡ true
    → e.level ≡ level → marked_of marks level (take i es) + 1 ≤ marked_of marks level es
one_counted marks level es i e at on is =
    let more : take (i + 1) es ≡ take i es ++ e ∷ [] =
    take_more es i e (slice_get_within es i e at) ∙ ap (λ (x : Assigned). take i es ++ x ∷ []) (get_or_from_slice_get es i e e at) in
    let front : marked_of marks level (take (i + 1) es) ≡ marked_of marks level (take i es) + counted marks level e =
    ap (marked_of marks level) more ∙ sum_by_push (counted marks level) (take i es) e in
    let here = is_counted marks level e on is in
    let less = sum_by-take-le (counted marks level) es (i + 1) in
    omega arith

slice_get_take : (n i : ℕ) (es : List Assigned) → i < n → slice_get (take n es) i ≡ slice_get es i
slice_get_take zero i es less = absurd (omega arith)
slice_get_take (suc n) i [] less = refl
slice_get_take (suc n) zero (e ∷ es) less = refl
slice_get_take (suc n) (suc i) (e ∷ es) less = slice_get_take n i es (omega arith)

-- two of them count two
pub two_counted : (marks : List Bool) (level : ℕ) (es : List Assigned) (i j : ℕ) (d e : Assigned) → i < j → slice_get es i ≡ Some d → slice_get es j ≡ Some e
    → is_marked marks d.literal.atom ≡ true → is_marked marks e.literal.atom ≡ true → d.level ≡ level → e.level ≡ level → 2 ≤ marked_of marks level es
two_counted marks level es i j d e less at to on also is same =
    let first = one_counted marks level (take j es) i d (slice_get_take j i es less ∙ at) on is in
    let second = one_counted marks level es j e to also same in
    omega arith

-- ---- False literals have entries

pub not_itself : (b : Bool) → b ≡ not b → ⊥
not_itself true e = true≢false e
not_itself false e = true≢false (sym e)

-- the entry of a literal that is false
pub false_entry : (es : List Assigned) (l : Lit) → IsFalseOn es l → (e : Assigned) × (assigned es l.atom ≡ Some e) × (e.literal.sign ≡ not l.sign)
false_entry es l falsified =
    elim (assigned es l.atom) as (λ o. assigned es l.atom ≡ o → (e : Assigned) × (assigned es l.atom ≡ Some e) × (e.literal.sign ≡ not l.sign)) [
      | None ↦ λ none. let clash : None ≡ Some (not l.sign) = sym (ap (option_map (λ (e : Assigned). e.literal.sign)) none) ∙ falsified in cc
      | Some e ↦ λ at. (e, at, same_Some e.literal.sign (not l.sign) (sym (ap (option_map (λ (x : Assigned). x.literal.sign)) at) ∙ falsified))
    ] refl

pub found_whole : (es : List Assigned) (n t : ℕ) (x : Assigned) → assigned (take n es) t ≡ Some x → assigned es t ≡ Some x
found_whole es n t x at =
    subst (λ (front : List Assigned). assigned front t ≡ Some x) (take-append-drop n es) (assigned_found (take n es) (drop n es) t x at)

-- it is below the size of the trail
pub false_within : (size : ℕ) (es : List Assigned) → EachBehind (IsNext size) es → (l : Lit) → IsFalseOn es l → l.atom < size
false_within size es order l falsified =
    let e = false_entry es l falsified in
    let p = assigned_place es l.atom e.0 e.1 in
    let within = (order p.1.0 e.0 p.1.1).within in
    omega (arith, p.0, within)

-- the table of the trail tells it so
pub told_false : (es : List Assigned) (l : Lit) (r : Option Bool) → HasValue es l r → IsFalseOn es l → r ≡ Some false
told_false es l None free falsified = let clash : None ≡ Some (not l.sign) = sym free ∙ falsified in cc
told_false es l (Some true) is falsified = absurd (not_itself l.sign (same_Some l.sign (not l.sign) (sym is ∙ falsified)))
told_false es l (Some false) is falsified = refl

pub level_found : (es : List Assigned) (t : ℕ) (x : Assigned) → assigned es t ≡ Some x → level_on es t ≡ x.level
level_found es t x at = ap (λ (o : Option Assigned). elim o [ None ↦ 0 | Some e ↦ e.level ]) at

-- ---- The marks of one more literal, counted

module _ (es : List Assigned) (c : List Lit) (l : Lit) (level : ℕ) (old new : List Bool) (count : ℕ) where
  fewer : (n : ℕ) → AreFalseIn es (take n es) (c ++ l ∷ []) → AreFalseIn es (take n es) c
  fewer n within m has falsified = within m (Contains-append_left c (l ∷ []) m has) falsified

  pub counted_same : (IsFalseOn es l → is_marked new l.atom ≡ true) → MarksCounted es c level old new count → MarksCounted es (c ++ l ∷ []) level old new count
  counted_same f h = record {
    marks = marks_same es c l old new f h.marks;
    count = λ n within. h.count n (fewer n within);
  }

  pub counted_set : (size : ℕ) → EachBehind (IsNext size) es → IsFalseOn es l → is_marked new l.atom ≡ false → l.atom < length new
      → MarksCounted es c level old new count → MarksCounted es (c ++ l ∷ []) level old (slice_set new l.atom true) (count + one_at level (level_on es l.atom))
  counted_set size order falsified off within h = record {
    marks = marks_set es c l old new falsified within h.marks;
    count = λ n front.
        let e = false_entry (take n es) l (front l (Contains-push c l) falsified) in
        let at : level_on es l.atom ≡ e.0.level = level_found es l.atom e.0 (found_whole es n l.atom e.0 e.1) in
        let one = marked_new size es order new l.atom level off within n e.0 e.1 in
        let added : one_at level (level_on es l.atom) ≡ one_at level e.0.level = ap (one_at level) at in
        let before = h.count n (fewer n front) in
        omega arith;
  }

pub counted_as : (es : List Assigned) (c d : List Lit) (level : ℕ) (old new seen : List Bool) (m n : ℕ) → c ≡ d → new ≡ seen → m ≡ n
    → MarksCounted es d level old seen n → MarksCounted es c level old new m
counted_as es c d level old new seen m n e f g h =
    subst (λ (k : List Lit). MarksCounted es k level old new m) (sym e)
    (subst (λ (s : List Bool). MarksCounted es d level old s m) (sym f) (subst (MarksCounted es d level old seen) (sym g) h))
