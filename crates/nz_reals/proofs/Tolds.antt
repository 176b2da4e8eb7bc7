-- What is known of bounds that were told stays so when one more is told, and when the last are taken back.
use Rattle.std.proofs.Common.{◌≡◌, ℕ, zero, suc, ◌<◌, ◌≤◌, ◌⊎◌, inl, inr, List, [], ◌∷◌, ◌++◌, take, length, Option, Some, None, refl, sym, ap, ◌∙◌, subst, arith, length-append}
use Rattle.std.specs.Prelude.{Contains, IfOk, IfSome, IsSome, Result, Ok, Err, slice_get, slice_index_or}
use Rattle.std.specs.List.{AllByRecursion}
use Rattle.std.proofs.lemmas.List.{length-take-le}
use Rattle.std.proofs.lemmas.List.Elements.{Contains-append_right}
use Rattle.std.proofs.lemmas.Option.{slice_get_within, slice_get-get_or}
use Rattle.nz_lists.proofs.Elements.{AllByRecursion-append, AllByRecursion-weaker}
use Rattle.nz_lists.proofs.Members.{at_of, each_of, has_first, has_found, map_has}
use Rattle.nz_lists.proofs.Places.{slice_get_kept, slice_get-push_cases}
use Rattle.nz_log.specs.declared.lits.Lit.{Lit}
use Rattle.nz_spec.specs.simplex.Bland.{zero_infinitesimal}
use Rattle.nz_trail.specs.declared.limits.Side.TheVariants.{Lower}
use Rattle.nz_spec.specs.numbers.Infinitesimal.{infinitesimal_cmp}
use Rattle.nz_spec.specs.clauses.Literal.{StandOnce}
use Rattle.nz_lin.specs.declared.form.Part.{Part}
use Rattle.nz_lin.specs.Forms.{AreUnits}
use Rattle.nz_log.specs.declared.atoms.Atom.{Atom}
use Rattle.nz_log.specs.declared.atoms.Atom.TheVariants.{AtMost}
use Rattle.nz_trail.specs.Bounds.{ClashesWith, IsImplied, asserted, other_side}
use Rattle.nz_simplex.specs.Moves.{IsBounded}
use Rattle.nz_simplex.specs.Standing.{Held}
use Rattle.nz_simplex.specs.State.{State}
use Rattle.nz_reals.specs.declared.reals.MarkedLiteral.{MarkedLiteral}
use Rattle.nz_reals.specs.Known.{Known, SideBound, said_by}
use Rattle.nz_reals.specs.State.{KnownAtom, Theory, empty_theory, known_among, known_at, told_lits}
use Rattle.nz_reals.specs.Stored.{AreForms, AreTolds, FindsForms, IsBacked, IsMark, IsStored}
use Rattle.nz_reals.specs.Sums.{IsFormSum}
use Rattle.nz_reals.specs.Tells.{AreKnown, AreOnTwoSides, Clashes, IsTold, both, held_by, told_now}

-- ---- Places of lists

pub slice_get_last : {X : Type 0} (xs : List X) (x : X) → slice_get (xs ++ x ∷ []) (length xs) ≡ Some x
slice_get_last [] x = refl
slice_get_last (y ∷ ys) x = slice_get_last ys x

pub slice_get_taken : {X : Type 0} (n : ℕ) (xs : List X) (i : ℕ) (x : X) → slice_get (take n xs) i ≡ Some x → (slice_get xs i ≡ Some x) × (i < n)
slice_get_taken zero xs i x at = absurd cc
slice_get_taken (suc n) [] i x at = absurd cc
slice_get_taken (suc n) (y ∷ ys) zero x at = (at, omega arith)
slice_get_taken (suc n) (y ∷ ys) (suc i) x at = let rest = slice_get_taken n ys i x at in (rest.0, omega (arith, rest.1))

pub slice_get_front : {X : Type 0} (n : ℕ) (xs : List X) (i : ℕ) (x : X) → slice_get xs i ≡ Some x → i < n → slice_get (take n xs) i ≡ Some x
slice_get_front zero xs i x at less = absurd (omega (arith, less))
slice_get_front (suc n) [] i x at less = absurd cc
slice_get_front (suc n) (y ∷ ys) zero x at less = at
slice_get_front (suc n) (y ∷ ys) (suc i) x at less = slice_get_front n ys i x at (omega (arith, less))

-- what is at each place is so of each
all_at : {X : Type 0} (P : X → Type 0) (xs : List X) → ((i : ℕ) (x : X) → slice_get xs i ≡ Some x → P x) → AllByRecursion P xs
all_at P [] f = tt
all_at P (x ∷ xs) f = (f 0 x refl, all_at P xs (λ i y at. f (suc i) y at))

-- ---- One more

module _ (old new : Theory) (l : Lit) (tolds : AreTolds old) (told : IsTold old new l) where
  old_told : (r : ℕ) (x : MarkedLiteral) → slice_get old.told r ≡ Some x → slice_get new.told r ≡ Some x
  old_told r x at = subst (λ (ts : List MarkedLiteral). slice_get ts r ≡ Some x) (sym told.told) (slice_get_kept old.told (told_now old l ∷ []) r x at)

  pub told_cases : (r : ℕ) (x : MarkedLiteral) → slice_get new.told r ≡ Some x → (slice_get old.told r ≡ Some x) ⊎ ((r ≡ length old.told) × (told_now old l ≡ x))
  told_cases r x at = slice_get-push_cases old.told (told_now old l) r x (subst (λ (ts : List MarkedLiteral). slice_get ts r ≡ Some x) told.told at)

  same_known : (i : ℕ) → known_at new i ≡ known_at old i
  same_known i = ap (λ (ks : List KnownAtom). known_among ks i) told.same

  abbrev b : Held
  b = held_by told.known l (length old.told)

  backed_kept : (h : Held) → IsBacked old h → IsBacked new h
  backed_kept h k = record {
    told = k.told;
    at = old_told h.reason k.told k.at;
    known = k.known;
    knows = same_known k.told.literal.atom ∙ k.knows;
    form = k.form;
    side = k.side;
    value = k.value;
  }

  backed_new : IsBacked new b
  backed_new = record {
    told = told_now old l;
    at = subst (λ (ts : List MarkedLiteral). slice_get ts (length old.told) ≡ Some (told_now old l)) (sym told.told) (slice_get_last old.told (told_now old l));
    known = told.known;
    knows = same_known l.atom ∙ told.knows;
    form = refl;
    side = refl;
    value = refl;
  }

  -- each reason is the place of a literal
  reasons : (i : ℕ) (h : Held) → slice_get old.simplex.asserted i ≡ Some h → h.reason < length old.told
  reasons i h at = let k = at_of (IsBacked old) old.simplex.asserted tolds.backed i h at in slice_get_within old.told h.reason k.told k.at

  abbrev Marks : List Held → Type 0
  Marks bs = (r : ℕ) (x : MarkedLiteral) → slice_get new.told r ≡ Some x → IsMark bs r x.mark

  same_marks : Marks old.simplex.asserted
  same_marks r x at =
      elim (told_cases r x at) [
        | inl was ↦ tolds.marks r x was
        | inr now ↦
            let mark : x.mark ≡ length old.simplex.asserted = ap (λ (y : MarkedLiteral). y.mark) (sym now.1) in
            record {
              within = omega (arith, mark);
              before = λ i h there less. let k = reasons i h there in omega (arith, k, now.0);
              behind = λ i h there past. let k = slice_get_within old.simplex.asserted i h there in absurd (omega (arith, k, past, mark));
            }
      ]

  more_marks : Marks (old.simplex.asserted ++ b ∷ [])
  more_marks r x at =
      let mark = same_marks r x at in
      let last : r ≤ length old.told = elim (told_cases r x at) [ inl was ↦ let k = slice_get_within old.told r x was in omega (arith, k) | inr now ↦ omega (arith, now.0) ] in
      record {
        within = let more = length-append old.simplex.asserted (b ∷ []) in let k = mark.within in omega (arith, k, more);
        before = λ i h there less. elim (slice_get-push_cases old.simplex.asserted b i h there) [
          | inl was ↦ mark.before i h was less
          | inr now ↦ let k = mark.within in absurd (omega (arith, k, less, now.0))
        ];
        behind = λ i h there past. elim (slice_get-push_cases old.simplex.asserted b i h there) [
          | inl was ↦ mark.behind i h was past
          | inr now ↦ let reason : length old.told ≡ h.reason = ap (λ (y : Held). y.reason) now.1 in omega (arith, last, reason)
        ];
      }

  knows_more : (r : ℕ) (x : MarkedLiteral) → slice_get new.told r ≡ Some x → (k : Known) × (known_at new x.literal.atom ≡ Some k)
  knows_more r x at =
      elim (told_cases r x at) [
        | inl was ↦ let k = tolds.knows r x was in (k.0, same_known x.literal.atom ∙ k.1)
        | inr now ↦ (told.known, ap (λ (y : MarkedLiteral). known_at new y.literal.atom) (sym now.1) ∙ same_known l.atom ∙ told.knows)
      ]

  listed_by : new.simplex.forms ≡ old.simplex.forms → (i : ℕ) (k : Known) → known_at new i ≡ Some k → k.form < length new.simplex.forms
  listed_by forms i k knows = let less = tolds.listed i k (sym (same_known i) ∙ knows) in let same = ap length forms in omega (arith, less, same)

  pub tolds_more : AreTolds new
  tolds_more = elim told.bound [
    | inl kept ↦ record {
      listed = listed_by (ap (λ (s : State). s.forms) kept.0);
      backed = subst (AllByRecursion (IsBacked new)) (sym (ap (λ (s : State). s.asserted) kept.0)) (AllByRecursion-weaker (IsBacked old) (IsBacked new) backed_kept old.simplex.asserted tolds.backed);
      knows = knows_more;
      marks = λ r x at. subst (λ (bs : List Held). IsMark bs r x.mark) (sym (ap (λ (s : State). s.asserted) kept.0)) (same_marks r x at);
    }
    | inr bounded ↦ record {
      listed = listed_by bounded.0.forms;
      backed = subst (AllByRecursion (IsBacked new)) (sym bounded.0.asserted)
          (AllByRecursion-append (IsBacked new) old.simplex.asserted (b ∷ []) (AllByRecursion-weaker (IsBacked old) (IsBacked new) backed_kept old.simplex.asserted tolds.backed) (backed_new, tt));
      knows = knows_more;
      marks = λ r x at. subst (λ (bs : List Held). IsMark bs r x.mark) (sym bounded.0.asserted) (more_marks r x at);
    }
  ]

  pub forms_same : new.simplex.forms ≡ old.simplex.forms
  forms_same = elim told.bound [ inl kept ↦ ap (λ (s : State). s.forms) kept.0 | inr bounded ↦ bounded.0.forms ]

-- ---- The last are taken back

-- after the first literals, so many of them, the bounds are those that stood before the next
pub record IsUndone (old new : Theory) (k : ℕ) (x : MarkedLiteral) : Type 0 where
  pub at : slice_get old.told k ≡ Some x
  pub known : new.known ≡ old.known
  pub told : new.told ≡ take k old.told
  pub simplex : new.simplex ≡ record old.simplex { asserted = take x.mark old.simplex.asserted }

module _ (old new : Theory) (k : ℕ) (x : MarkedLiteral) (tolds : AreTolds old) (undone : IsUndone old new k x) where
  own : IsMark old.simplex.asserted k x.mark
  own = tolds.marks k x undone.at

  was_told : (r : ℕ) (y : MarkedLiteral) → slice_get new.told r ≡ Some y → (slice_get old.told r ≡ Some y) × (r < k)
  was_told r y at = slice_get_taken k old.told r y (subst (λ (ts : List MarkedLiteral). slice_get ts r ≡ Some y) undone.told at)

  still : (i : ℕ) → known_at new i ≡ known_at old i
  still i = ap (λ (ks : List KnownAtom). known_among ks i) undone.known

  bounds_now : new.simplex.asserted ≡ take x.mark old.simplex.asserted
  bounds_now = ap (λ (s : State). s.asserted) undone.simplex

  long : length (take x.mark old.simplex.asserted) ≡ x.mark
  long = length-take-le x.mark old.simplex.asserted own.within

  backed_then : (i : ℕ) (h : Held) → slice_get (take x.mark old.simplex.asserted) i ≡ Some h → IsBacked new h
  backed_then i h there =
      let was = slice_get_taken x.mark old.simplex.asserted i h there in
      let less = own.before i h was.0 was.1 in
      let backed = at_of (IsBacked old) old.simplex.asserted tolds.backed i h was.0 in
      record {
        told = backed.told;
        at = subst (λ (ts : List MarkedLiteral). slice_get ts h.reason ≡ Some backed.told) (sym undone.told) (slice_get_front k old.told h.reason backed.told backed.at less);
        known = backed.known;
        knows = still backed.told.literal.atom ∙ backed.knows;
        form = backed.form;
        side = backed.side;
        value = backed.value;
      }

  -- earlier marks are no greater
  pub mark_within : (r : ℕ) (y : MarkedLiteral) → slice_get old.told r ≡ Some y → r < k → y.mark ≤ x.mark
  mark_within r y at less = by_order (order y.mark x.mark)
    where
      order : (m n : ℕ) → (m ≤ n) ⊎ (n < m)
      order m n = grind arith

      mine : IsMark old.simplex.asserted r y.mark
      mine = tolds.marks r y at

      by_order : (y.mark ≤ x.mark) ⊎ (x.mark < y.mark) → y.mark ≤ x.mark
      by_order (inl h) = h
      by_order (inr h) =
          let within = mine.within in
          let d : Held = record { var = 0; side = Lower; value = zero_infinitesimal; reason = 0 } in
          let next = slice_index_or old.simplex.asserted x.mark d in
          let there : slice_get old.simplex.asserted x.mark ≡ Some next = slice_get-get_or old.simplex.asserted x.mark d (omega (arith, h, within)) in
          let low = mine.before x.mark next there h in
          let high = own.behind x.mark next there (omega arith) in
          absurd (omega (arith, low, high, less))

  pub tolds_undone : AreTolds new
  tolds_undone = record {
    listed = λ i j knows. let less = tolds.listed i j (sym (still i) ∙ knows) in let same = ap (λ (s : State). length s.forms) undone.simplex in omega (arith, less, same);
    backed = subst (AllByRecursion (IsBacked new)) (sym bounds_now) (all_at (IsBacked new) (take x.mark old.simplex.asserted) backed_then);
    knows = λ r y at. let was = was_told r y at in let j = tolds.knows r y was.0 in (j.0, still y.literal.atom ∙ j.1);
    marks = λ r y at.
        let was = was_told r y at in
        let mine = tolds.marks r y was.0 in
        let within = mark_within r y was.0 was.1 in
        subst (λ (bs : List Held). IsMark bs r y.mark) (sym bounds_now) (record {
          within = omega (arith, within, long);
          before = λ i h there less. let this = slice_get_taken x.mark old.simplex.asserted i h there in mine.before i h this.0 less;
          behind = λ i h there past. let this = slice_get_taken x.mark old.simplex.asserted i h there in mine.behind i h this.0 past;
        });
  }

  pub forms_stay : new.simplex.forms ≡ old.simplex.forms
  forms_stay = ap (λ (s : State). s.forms) undone.simplex

-- ---- What the fields are

pub forms_move : (old new : State) → new.forms ≡ old.forms → AreForms old → AreForms new
forms_move old new same forms = record {
  table = forms.table;
  over = record { table = forms.over.table; units = subst (AllByRecursion (AreUnits forms.table)) (sym same) forms.over.units };
  sums = subst (AllByRecursion IsFormSum) (sym same) forms.sums;
  once = subst StandOnce (sym same) forms.once;
}

pub stored_more : (find : Atom → Option ℕ) (old new : Theory) (l : Lit) → IsStored find old → IsTold old new l → IsStored find new
stored_more find old new l stored told = record {
  forms = forms_move old.simplex new.simplex (forms_same old new l stored.tolds told) stored.forms;
  finds = subst (FindsForms find) (sym (forms_same old new l stored.tolds told)) stored.finds;
  tolds = tolds_more old new l stored.tolds told;
}

pub stored_undone : (find : Atom → Option ℕ) (old new : Theory) (k : ℕ) (x : MarkedLiteral) → IsStored find old → IsUndone old new k x → IsStored find new
stored_undone find old new k x stored undone = record {
  forms = forms_move old.simplex new.simplex (forms_stay old new k x stored.tolds undone) stored.forms;
  finds = subst (FindsForms find) (sym (forms_stay old new k x stored.tolds undone)) stored.finds;
  tolds = tolds_undone old new k x stored.tolds undone;
}

-- nothing but the values of the simplex, and what stands nonbasic, has changed
pub stored_moved : (find : Atom → Option ℕ) (t : Theory) (s : State) → s.forms ≡ t.simplex.forms → s.asserted ≡ t.simplex.asserted → IsStored find t → IsStored find (record t { simplex = s })
stored_moved find t s forms asserted stored = record {
  forms = forms_move t.simplex s forms stored.forms;
  finds = subst (FindsForms find) (sym forms) stored.finds;
  tolds = record {
    listed = λ i k knows. subst (λ (fs : List (List Part)). k.form < length fs) (sym forms) (stored.tolds.listed i k knows);
    backed = subst (AllByRecursion (IsBacked (record t { simplex = s }))) (sym asserted) (AllByRecursion-weaker (IsBacked t) (IsBacked (record t { simplex = s })) backed_still t.simplex.asserted stored.tolds.backed);
    knows = stored.tolds.knows;
    marks = λ r x at. subst (λ (bs : List Held). IsMark bs r x.mark) (sym asserted) (stored.tolds.marks r x at);
  };
}
  where
    backed_still : (h : Held) → IsBacked t h → IsBacked (record t { simplex = s }) h
    backed_still h k = record { told = k.told; at = k.at; known = k.known; knows = k.knows; form = k.form; side = k.side; value = k.value }

pub told_here : (old new : Theory) (l : Lit) (k : Known) (s : SideBound) (reason : ℕ) → known_at old l.atom ≡ Some k → s ≡ said_by k l.sign → reason ≡ length old.told → new.known ≡ old.known
    → new.told ≡ old.told ++ told_now old l ∷ []
    → (let b = asserted k.form s.side s.value reason in ((new.simplex ≡ old.simplex) × IsImplied infinitesimal_cmp old.simplex.asserted b) ⊎ (IsBounded old.simplex new.simplex b × (¬ IsImplied infinitesimal_cmp old.simplex.asserted b)))
    → IsTold old new l
told_here old new l k s reason knows said place known told bound = record {
  known = k;
  knows = knows;
  same = known;
  told = told;
  bound =
      subst (λ (b : Held). ((new.simplex ≡ old.simplex) × IsImplied infinitesimal_cmp old.simplex.asserted b) ⊎ (IsBounded old.simplex new.simplex b × (¬ IsImplied infinitesimal_cmp old.simplex.asserted b)))
      (λ i. asserted k.form (said i).side (said i).value (place i)) bound;
}

-- the bound that another one clashes with is one that was told
pub clash_among : (bs : List Held) (b : Held) (other : ℕ) → ClashesWith infinitesimal_cmp bs b other → (h : Held) × Contains bs h × (h.reason ≡ other)
clash_among bs b other clash =
    let h = asserted b.var (other_side b.side) clash.value other in
    let t = clash.tightest in
    (h, subst (λ (xs : List Held). Contains xs h) (sym t.parts) (Contains-append_right t.before (h ∷ t.after) h (has_first h t.after)), refl)

-- the literal that another one clashes with
pub clash_place : (t : Theory) (b : Held) (other : ℕ) → AreTolds t → ClashesWith infinitesimal_cmp t.simplex.asserted b other → (x : MarkedLiteral) × (slice_get t.told other ≡ Some x)
clash_place t b other tolds clash =
    let h = clash_among t.simplex.asserted b other clash in
    let k = each_of (IsBacked t) t.simplex.asserted tolds.backed h.0 h.1 in
    (k.told, ap (slice_get t.told) (sym h.2) ∙ k.at)

pub clashes_here : (t : Theory) (l : Lit) (k : Known) (s : SideBound) (reason other : ℕ) (o : Lit) → AreTolds t → s ≡ said_by k l.sign → reason ≡ length t.told
    → ClashesWith infinitesimal_cmp t.simplex.asserted (asserted k.form s.side s.value reason) other → ((x : MarkedLiteral) → slice_get t.told other ≡ Some x → x.literal ≡ o) → Clashes t l k o
clashes_here t l k s reason other o tolds said place clash is =
    let x = clash_place t (asserted k.form s.side s.value reason) other tolds clash in
    record {
      place = other;
      told = x.0;
      at = x.1;
      literal = is x.0 x.1;
      clash = subst (λ (b : Held). ClashesWith infinitesimal_cmp t.simplex.asserted b other) (λ i. asserted k.form (said i).side (said i).value (place i)) clash;
    }

pub clash_handed : {E : Type 0} (P Q : Lit → Type 0) → ((o : Lit) → P o → Q o) → (r : Result (Option Lit) E) → IfOk r (λ x. IfSome x P) → IfOk r (λ x. IfSome x Q)
clash_handed P Q f (Ok None) h = h
clash_handed P Q f (Ok (Some o)) h = f o h
clash_handed P Q f (Err e) h = h

pub clash_has : (t : Theory) (l : Lit) (k : Known) (o : Lit) → Clashes t l k o → Contains (told_lits t) o
clash_has t l k o c = subst (Contains (told_lits t)) c.literal (map_has (λ (x : MarkedLiteral). x.literal) t.told c.told (has_found t.told c.place c.told c.at))

-- the bounds of the two are of different sides
pub clash_sides : (t : Theory) (l : Lit) (k : Known) (o : Lit) → AreTolds t → known_at t l.atom ≡ Some k → Clashes t l k o → AreOnTwoSides t l o
clash_sides t l k o tolds knows c =
    let tightest = c.clash.tightest in
    let b : Held = asserted k.form (other_side (said_by k l.sign).side) c.clash.value c.place in
    let has : Contains t.simplex.asserted b = subst (λ (bs : List Held). Contains bs b) (sym tightest.parts) (Contains-append_right tightest.before (b ∷ tightest.after) b (has_first b tightest.after)) in
    let back = each_of (IsBacked t) t.simplex.asserted tolds.backed b has in
    let both : Some back.told ≡ Some c.told = sym back.at ∙ c.at in
    let told : back.told ≡ c.told = cc in
    let literal : back.told.literal ≡ o = ap (λ (x : MarkedLiteral). x.literal) told ∙ c.literal in
    record {
      first = k;
      knows = knows;
      second = back.known;
      knows_other = subst (λ (m : Lit). known_at t m.atom ≡ Some back.known) literal back.knows;
      sides = subst (λ (m : Lit). (said_by back.known m.sign).side ≡ b.side) literal (sym back.side);
    }

pub clash_known : (t : Theory) (l : Lit) (k : Known) (o : Lit) → AreTolds t → known_at t l.atom ≡ Some k → Clashes t l k o → AreKnown t (both l o)
clash_known t l k o tolds knows c =
    let other = tolds.knows c.place c.told c.at in
    (subst IsSome (sym knows) refl, (subst IsSome (sym (ap (λ (x : Lit). known_at t x.atom) (sym c.literal) ∙ other.1)) refl, tt))

-- nothing is stored at first
pub stored_empty : (find : Atom → Option ℕ) → ((a : Atom) → find a ≡ None) → IsStored find empty_theory
stored_empty find none = record {
  forms = record {
    table = [];
    over = record { table = record { before = λ i n at. absurd cc; once = λ i j n at to. absurd cc; fits = λ i n at. absurd cc; leaves = λ i n at. absurd cc }; units = tt };
    sums = tt;
    once = λ i j f at to. absurd cc;
  };
  finds = record { found = λ b v at. let no = none (AtMost b) in absurd cc; all = λ v f at. absurd cc };
  tolds = record { listed = λ i k at. absurd cc; backed = tt; knows = λ r x at. absurd cc; marks = λ r x at. absurd cc };
}
