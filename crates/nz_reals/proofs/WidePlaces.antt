-- Where an operation leaves the numbers, at the places of the definitions.
use Rattle.std.proofs.Common.{◌≡◌, ℕ, ◌==◌, ◌<◌, inl, Bool, true, false, List, [], ◌∷◌, ◌++◌, map, length, Option, Some, None, Result, Ok, Err, refl, sym, ap, ◌∙◌, subst, pos, append_assoc, append-nil}
use Rattle.std.specs.Prelude.{Contains, IsSome, fold, is_some, option_map, slice_index_or, if◌then◌else◌}
use Rattle.std.specs.List.{AllByRecursion}
use Rattle.std.proofs.Math.Path.{fun_ext}
use Rattle.std.proofs.lemmas.List.{length-map}
use Rattle.std.proofs.lemmas.List.Elements.{All-contains, All-from_recursion, Contains-append_left, Contains-push}
use Rattle.std.proofs.lemmas.Option.{slice_get-get_or, slice_get_within}
use Rattle.nz_lists.proofs.Members.{each_of, has_found, map_has}
use Rattle.nz_lists.proofs.Once.{two_once}
use Rattle.nz_fractions.specs.Fraction.{Fraction, whole}
use Rattle.nz_fractions.proofs.Laws.{=ℚ_refl}
use Rattle.nz_spec.specs.simplex.Basis.{Coefficients, IsRow}
use Rattle.nz_spec.specs.simplex.BasisMoves.{exchange}
use Rattle.nz_spec.specs.simplex.Bland.{Point, Position, is_nonbasic, row_value}
use Rattle.nz_spec.specs.clauses.Farkas as farkas
use Rattle.nz_spec.specs.terms.Form.{Part}
use Rattle.nz_spec.specs.terms.FormOf.{number_in}
use Rattle.nz_spec.specs.numbers.Infinitesimal.{Infinitesimal}
use Rattle.nz_spec.specs.clauses.Literal.{Literal, StandOnce, TellsLiterals}
use Rattle.nz_spec.specs.simplex.LiteralBounds.{FormBound, bound_said, moved_by, position_under}
use Rattle.nz_spec.specs.search.Notes as notes
use Rattle.nz_spec.specs.search.Notes.{sum_site}
use Rattle.nz_spec.specs.search.Places.{IsOfSum, IsOperationIn, IsSizeIn}
use Rattle.nz_spec.specs.simplex.PositionMoves.{AreConsistent, moved_within}
use Rattle.nz_spec.specs.simplex.Pivots.{Pivot, Lead, MayPivot}
use Rattle.nz_spec.specs.terms.Table.{Node, OneNumber}
use Rattle.nz_spec.specs.search.Work.{PivotEntry, UnitLine, WorkList, with_line}
use Rattle.nz_frac.specs.Operations.{operation_of}
use Rattle.nz_lin.specs.Forms.{parts_over}
use Rattle.nz_log.specs.declared.atoms.Atom.{Atom}
use Rattle.nz_log.specs.Atoms.{AreWithin, IsLitIn, literal_in}
use Rattle.nz_log.specs.Axioms.{AreMultiplesIn}
use Rattle.nz_log.specs.Leveled.{AreTold, Names}
use Rattle.nz_log.specs.Logs.{LogState, told_of}
use Rattle.nz_log.specs.declared.lits.Lit.{Lit}
use Rattle.nz_log.specs.declared.multiples.LitMultiple.{LitMultiple}
use Rattle.nz_search.specs.declared.note.Note.{Note}
use Rattle.nz_place.specs.declared.place.Place.{Place}
use Rattle.nz_place.specs.declared.place.Site.{Site}
use Rattle.nz_place.specs.declared.place.Site.TheVariants.{Term, Goal, Joining, Exchange, Value, Sum, Cut, Tight, Split, Move, Limit, Model, Worth, Line, GoalLine, Scaling}
use Rattle.nz_search.specs.declared.stop.Stop.{Stop}
use Rattle.nz_search.specs.declared.stop.Stop.TheVariants.{Wide, Spent, Memory}
use Rattle.nz_place.specs.Places.{IsSiteWithin, site_of}
use Rattle.nz_search.specs.Places.{OnWide}
use Rattle.nz_search.specs.Theories.{EndsAt, IsDueIn, IsPlaceOfStep, Leads}
use Rattle.nz_simplex.specs.declared.answer.SimplexStop.{SimplexStop}
use Rattle.nz_simplex.specs.declared.answer.SimplexStop.TheVariants as stops
use Rattle.nz_simplex.specs.Checks.{Answers, IsPlace, IsRefuted, IsSite, IsStepped, site_operations}
use Rattle.nz_simplex.specs.State as simplex
use Rattle.nz_simplex.specs.State.{IsSound, State, point_in, position_over}
use Rattle.nz_reals.specs.declared.reals.MarkedLiteral.{MarkedLiteral}
use Rattle.nz_reals.specs.Known.{Known}
use Rattle.nz_reals.specs.Stands.{IsAt, IsOf, IsOver}
use Rattle.nz_reals.specs.State.{Theory, known_at, lit_at, literal_over, told_lits}
use Rattle.nz_reals.specs.Stored.{AreForms, AreTolds, IsBacked}
use Rattle.nz_reals.specs.Tells.{AreKnown, AreOf, AreOnTwoSides, IsMoved, IsSumPlace, both, literals_of, multiple_at, multiples_over}
use Rattle.nz_fractions.proofs.FirstOperations.{first_wide-is}
use Rattle.nz_reals.proofs.AtomBounds.{literal_is}
use Rattle.nz_reals.proofs.TheoryPositions.{moved_at, nonbasic_is, position_is}
use Rattle.nz_reals.proofs.WhyForms.{sides_apart}
use Rattle.nz_reals.proofs.Whys.{why_each}

-- ---- Notes of steps

pub noted_joined : {T : Type 0} (w : WorkList T) (ps : List Pivot)
    → fold (λ (v : WorkList T) (p : Pivot). with_line v (UnitLine (PivotEntry p.leaves p.enters))) w ps ≡ record w { lines = w.lines ++ map (λ (p : Pivot). UnitLine (PivotEntry p.leaves p.enters)) ps }
noted_joined w [] = ap (λ ls. record w { lines = ls }) (sym (append-nil w.lines))
noted_joined w (p ∷ ps) =
    noted_joined (with_line w (UnitLine (PivotEntry p.leaves p.enters))) ps
    ∙ ap (λ ls. record w { lines = ls }) (append_assoc w.lines (UnitLine (PivotEntry p.leaves p.enters) ∷ []) (map (λ (q : Pivot). UnitLine (PivotEntry q.leaves q.enters)) ps))

-- check steps were made
pub stepped_moved : (t : Theory) (s : State) (before after : WorkList Note) → IsSound t.simplex → IsStepped (λ (w : WorkList Note) (leaves enters : ℕ). with_line w (UnitLine (PivotEntry leaves enters))) before after t.simplex s
    → IsMoved t (record t { simplex = s }) before after
stepped_moved t s before after sound steps = record {
  known = refl;
  told = refl;
  forms = steps.forms;
  asserted = steps.asserted;
  consistent = λ ns over. (sound.ready ns over).consistent;
  adds = record { pivots = steps.pivots; joined = steps.noted ∙ noted_joined before steps.pivots };
  lead = steps.lead;
}

-- or none
pub still_moved : (t : Theory) (work : WorkList Note) → IsSound t.simplex → IsMoved t t work work
still_moved t work sound = stepped_moved t t.simplex work work sound (record { pivots = []; noted = refl; lead = λ ns over. refl; forms = refl; asserted = refl })

-- ---- The places of a simplex

module _ (ns : List Node) (s : State) (sound : IsSound s) (over : simplex.IsOver ns s) (place : Place) (is : IsPlace ns s place) where
  count : length (position_over ns s).forms ≡ length s.forms
  count = length-map s.forms (parts_over ns)

  found : Contains (site_operations s is.rows place.site) (operation_of place.wide)
  found = (first_wide-is (site_operations s is.rows place.site) (operation_of place.wide) is.first).0

  operation : (ls : List Literal) → IsOperationIn ls (position_over ns s) (site_of ns place.site) (operation_of place.wide)
  operation ls = by_site place.site is.site found
    where
      by_site : (x : Site) → IsSite ns s x → Contains (site_operations s is.rows x) (operation_of place.wide) → IsOperationIn ls (position_over ns s) (site_of ns x) (operation_of place.wide)
      by_site (Exchange leaves enters) may has = record {
        rows = is.rows;
        are_rows = is.are_rows;
        of =
            subst (λ (n : ℕ). Contains (exchange n (is_nonbasic (point_in s)) is.rows leaves enters).operations (operation_of place.wide)) (sym count)
            (subst (λ (f : ℕ → Bool). Contains (exchange (length s.forms) f is.rows leaves enters).operations (operation_of place.wide)) (sym (fun_ext (nonbasic_is s sound))) has);
      }
      by_site (Value form) basic has = record {
        listed = subst (λ (n : ℕ). form < n) (sym count) basic.0;
        basic = nonbasic_is s sound form ∙ basic.1;
        rows = is.rows;
        are_rows = is.are_rows;
        of = subst (λ (n : ℕ). Contains (row_value n (is.rows form) (point_in s)).operations (operation_of place.wide)) (sym count) has;
      }
      by_site (Term term) none has = absurd none
      by_site (Goal goal) none has = absurd none
      by_site Joining none has = absurd none
      by_site (Sum multiples) none has = absurd none
      by_site (Cut multiples) none has = absurd none
      by_site (Tight bound) none has = absurd none
      by_site (Split unit) none has = absurd none
      by_site (Move form moves side) none has = absurd none
      by_site (Limit form side) none has = absurd none
      by_site (Model form) none has = absurd none
      by_site (Worth term model) none has = absurd none
      by_site (Line term family) none has = absurd none
      by_site (GoalLine goal family) none has = absurd none
      by_site (Scaling forms moves) none has = absurd none

  pub place_in : (fs : List (List Part)) (ls : List Literal) (x : Point) → position_under fs x ls ≡ position_over ns s → IsPlaceOfStep ns fs ls x place
  place_in fs ls x same = record {
    leaves = record {
      at = subst (λ (p : Position). IsOperationIn ls p (site_of ns place.site) (operation_of place.wide)) (sym same) (operation ls);
      leaves = record { left = is.left; right = is.right; wide = (first_wide-is (site_operations s is.rows place.site) (operation_of place.wide) is.first).1 };
      within = within place.site is.site;
    };
    due = subst (λ (p : Position). IsDueIn p place.site) (sym same) (due place.site is.site);
  }
    where
      within : (y : Site) → IsSite ns s y → IsSiteWithin ns y
      within (Exchange leaves enters) may = tt
      within (Value form) basic = tt
      within (Term term) none = absurd none
      within (Goal goal) none = absurd none
      within Joining none = absurd none
      within (Sum multiples) none = absurd none
      within (Cut multiples) none = absurd none
      within (Tight bound) none = absurd none
      within (Split unit) none = absurd none
      within (Move form moves side) none = absurd none
      within (Limit form side) none = absurd none
      within (Model form) none = absurd none
      within (Worth term model) none = absurd none
      within (Line term family) none = absurd none
      within (GoalLine goal family) none = absurd none
      within (Scaling forms moves) none = absurd none

      due : (y : Site) → IsSite ns s y → IsDueIn (position_over ns s) y
      due (Exchange leaves enters) may = ((sound.ready ns over).consistent, may)
      due (Value form) basic = tt
      due (Term term) none = absurd none
      due (Goal goal) none = absurd none
      due Joining none = absurd none
      due (Sum multiples) none = absurd none
      due (Cut multiples) none = absurd none
      due (Tight bound) none = absurd none
      due (Split unit) none = absurd none
      due (Move form moves side) none = absurd none
      due (Limit form side) none = absurd none
      due (Model form) none = absurd none
      due (Worth term model) none = absurd none
      due (Line term family) none = absurd none
      due (GoalLine goal family) none = absurd none
      due (Scaling forms moves) none = absurd none

pub stop_answer : (ns : List Node) (s : State) (left : ℕ) (e : SimplexStop) (place : Place) → Answers ns s left (Err e) → e ≡ stops.Wide place → IsPlace ns s place
stop_answer ns s left e place answer is = subst (λ (x : SimplexStop). Answers ns s left (Err x)) is answer

-- the operation at a place, wherever a theory with these bounds stands
abbrev pub Placed : List Node → State → Place → Type 0
Placed ns s place = (fs : List (List Part)) (ls : List Literal) (x : Point) → position_under fs x ls ≡ position_over ns s → IsPlaceOfStep ns fs ls x place

-- ---- Where a check ends

pub leads_by : {A : Type 0} (old new : Theory) (before after : WorkList Note) (ns : List Node) (fs : List (List Part)) (ls : List Literal) (x : Point) (result : Result A Stop) → IsMoved old new before after
    → IsAt old ns fs ls x → EndsAt (IsAt new ns fs ls) ns fs ls (point_in new.simplex) result → Leads (IsAt new ns fs ls) ns fs ls x before after result
leads_by old new before after ns fs ls x result moved at ends = record {
  consistent = subst AreConsistent (sym (position_is old ns fs ls x at)) (moved.consistent ns at.over);
  adds = moved.adds;
  end = position_over ns new.simplex;
  lead = subst (λ (p : Position). Lead p moved.adds.pivots (position_over ns new.simplex)) (sym (position_is old ns fs ls x at)) (moved.lead ns at.over);
  ends = ends;
}

-- ---- The places of sums

mapped : {X Y : Type 0} (P : Y → Type 0) (f : X → Y) (xs : List X) → AllByRecursion (λ (x : X). P (f x)) xs → AllByRecursion P (map f xs)
mapped P f [] h = tt
mapped P f (x ∷ xs) h = (h.0, mapped P f xs h.1)

lit_told : (t : Theory) (r : ℕ) → r < length t.told → Contains (told_lits t) (lit_at t r)
lit_told t r less =
    let d : MarkedLiteral = record { literal = record { atom = 0; sign = false }; mark = 0 } in
    map_has (λ (x : MarkedLiteral). x.literal) t.told (slice_index_or t.told r d) (has_found t.told r (slice_index_or t.told r d) (slice_get-get_or t.told r d less))

-- a literal that was told is among those where the theory stands
told_among : (t : Theory) (ns : List Node) (fs : List (List Part)) (ls : List Literal) (x : Point) (l : Lit) → IsAt t ns fs ls x → Contains (told_lits t) l → Contains ls (literal_over ns t l)
told_among t ns fs ls x l at has = subst (λ (ks : List Literal). Contains ks (literal_over ns t l)) (sym at.literals) (map_has (literal_over ns t) (told_lits t) l has)

-- each reason of a clash is the place of a literal that was told
pub why_told : (t : Theory) (ns : List Node) → AreTolds t → IsRefuted ns t.simplex → AllByRecursion (λ (w : ℕ × Fraction). w.0 < length t.told) t.simplex.why
why_told t ns tolds refuted =
    why_each ns t.simplex refuted (λ (w : ℕ × Fraction). w.0 < length t.told)
    (λ b m has size. let k = each_of (IsBacked t) t.simplex.asserted tolds.backed b has in slice_get_within t.told b.reason k.told k.at) (length-map t.simplex.forms (parts_over ns))

-- a place of a sum is due where it is found
due_sum : (ns : List Node) (p : Position) (ms : List farkas.Multiple) (y : Site) → site_of ns y ≡ sum_site ms → IsDueIn p y
due_sum ns p ms (Sum multiples) is = tt
due_sum ns p ms (Value form) is = tt
due_sum ns p ms (Exchange leaves enters) is = absurd cc
due_sum ns p ms (Term term) is = absurd cc
due_sum ns p ms (Goal goal) is = absurd cc
due_sum ns p ms Joining is = absurd cc
due_sum ns p ms (Cut multiples) is = absurd cc
due_sum ns p ms (Tight bound) is = absurd cc
due_sum ns p ms (Split unit) is = absurd cc
due_sum ns p ms (Move form moves side) is = absurd cc
due_sum ns p ms (Limit form side) is = absurd cc
due_sum ns p ms (Model form) is = absurd cc
due_sum ns p ms (Worth term model) is = absurd cc
due_sum ns p ms (Line term family) is = absurd cc
due_sum ns p ms (GoalLine goal family) is = absurd cc
due_sum ns p ms (Scaling forms moves) is = absurd cc

-- multiples of told literals that differ, by the sizes of a row's coefficients
module _ (ns : List Node) (fs : List (List Part)) (ls : List Literal) (x : Point) (t : Theory) (ms : List LitMultiple) (told : AllByRecursion (λ (m : farkas.Multiple). Contains ls m.literal) (multiples_over ns t ms))
    (apart : StandOnce (map (λ (m : farkas.Multiple). m.literal) (multiples_over ns t ms))) (form : ℕ) (listed : form < length fs) (row : Coefficients) (is_row : IsRow fs (is_nonbasic x) form row)
    (sizes : AllByRecursion (λ (m : farkas.Multiple). IsSizeIn (length fs) row m.multiplier) (multiples_over ns t ms)) where
  place_of_sum : (place : Place) → IsSumPlace ns t ms place → IsPlaceOfStep ns fs ls x place
  place_of_sum place sum =
      let of : IsOfSum ls (position_under fs x ls) (multiples_over ns t ms) (operation_of place.wide) = record {
        multiples = record {
          told = All-from_recursion (λ (m : farkas.Multiple). Contains ls m.literal) (multiples_over ns t ms) told;
          apart = apart;
          multiplied = sum.contradicts.multiples;
        };
        number = number_in ns;
        ordered = sum.ordered;
        form = form;
        listed = listed;
        row = row;
        is_row = is_row;
        sizes = All-from_recursion (λ (m : farkas.Multiple). IsSizeIn (length fs) row m.multiplier) (multiples_over ns t ms) sizes;
        contradicts = sum.contradicts.contradiction;
        first = sum.first;
      } in
      record {
        leaves = record {
          at = subst (λ (y : notes.Site). IsOperationIn ls (position_under fs x ls) y (operation_of place.wide)) (sym sum.site) of;
          leaves = sum.leaves;
          within = sum.within;
        };
        due = due_sum ns (position_under fs x ls) (multiples_over ns t ms) place.site sum.site;
      }

  pub stop_of_sum : (e : Stop) → OnWide e (IsSumPlace ns t ms) → OnWide e (IsPlaceOfStep ns fs ls x)
  stop_of_sum (Wide place) h = place_of_sum place h
  stop_of_sum Spent h = tt
  stop_of_sum Memory h = tt

module _ (t : Theory) (ns : List Node) (fs : List (List Part)) (ls : List Literal) (x : Point) (at : IsAt t ns fs ls x) (tolds : AreTolds t) (refuted : IsRefuted ns t.simplex) where
  abbrev ws : List (ℕ × Fraction)
  ws = t.simplex.why

  abbrev ms : List LitMultiple
  ms = map (multiple_at t) ws

  of_told : AllByRecursion (λ (m : farkas.Multiple). Contains ls m.literal) (multiples_over ns t ms)
  of_told =
      mapped (λ (m : farkas.Multiple). Contains ls m.literal) (λ (m : LitMultiple). record { literal = literal_over ns t m.literal; multiplier = m.multiplier }) ms
      (mapped (λ (m : LitMultiple). Contains ls (literal_over ns t m.literal)) (multiple_at t) ws
      (all ws (why_told t ns tolds refuted)))
    where
      all : (vs : List (ℕ × Fraction)) → AllByRecursion (λ (w : ℕ × Fraction). w.0 < length t.told) vs → AllByRecursion (λ (w : ℕ × Fraction). Contains ls (literal_over ns t (lit_at t w.0))) vs
      all [] h = tt
      all (v ∷ vs) h = (told_among t ns fs ls x (lit_at t v.0) at (lit_told t v.0 h.0), all vs h.1)

  count_forms : length (position_over ns t.simplex).forms ≡ length t.simplex.forms
  count_forms = length-map t.simplex.forms (parts_over ns)

  of_sizes : AllByRecursion (λ (m : farkas.Multiple). IsSizeIn (length fs) refuted.row m.multiplier) (multiples_over ns t ms)
  of_sizes =
      subst (λ (gs : List (List Part)). AllByRecursion (λ (m : farkas.Multiple). IsSizeIn (length gs) refuted.row m.multiplier) (multiples_over ns t ms)) (sym at.forms)
      (mapped (λ (m : farkas.Multiple). IsSizeIn (length (position_over ns t.simplex).forms) refuted.row m.multiplier) (λ (m : LitMultiple). record { literal = literal_over ns t m.literal; multiplier = m.multiplier }) ms
      (mapped (λ (m : LitMultiple). IsSizeIn (length (position_over ns t.simplex).forms) refuted.row m.multiplier) (multiple_at t) ws
      (why_each ns t.simplex refuted (λ (w : ℕ × Fraction). IsSizeIn (length (position_over ns t.simplex).forms) refuted.row w.1) (λ b m has size. size) count_forms)))

  pub sum_in_check : StandOnce (map (λ (m : farkas.Multiple). m.literal) (multiples_over ns t ms)) → (e : Stop) → OnWide e (IsSumPlace ns t ms) → OnWide e (IsPlaceOfStep ns fs ls x)
  sum_in_check apart =
      stop_of_sum ns fs ls x t ms of_told apart refuted.broken (subst (λ (gs : List (List Part)). refuted.broken < length gs) (sym at.forms) refuted.refutes.listed) refuted.row
      (subst (λ (p : Position). IsRow p.forms (is_nonbasic p.point) refuted.broken refuted.row) (sym (position_is t ns fs ls x at)) refuted.refutes.is_row) of_sizes

-- ---- Of two literals

-- a literal that is told moves no form into the basis or out of it
moved_nonbasic : (fs : List (List Part)) (l : Literal) (x : Point) (k : ℕ) → is_nonbasic (moved_by fs l x) k ≡ is_nonbasic x k
moved_nonbasic fs l x k = by_case (bound_said fs l)
  where
    same : (f : Infinitesimal → Infinitesimal) (o : Option Infinitesimal) → is_some (option_map f o) ≡ is_some o
    same f None = refl
    same f (Some y) = refl

    by_test : (b : FormBound) (t : Bool) → is_some (if t then option_map (moved_within b.side b.bound) (x k) else x k) ≡ is_some (x k)
    by_test b true = same (moved_within b.side b.bound) (x k)
    by_test b false = refl

    by_case : (o : Option FormBound) → (let y : Point = elim o [ Some b ↦ λ j. if j == b.form then option_map (moved_within b.side b.bound) (x j) else x j | None ↦ x ] in is_some (y k) ≡ is_some (x k))
    by_case None = refl
    by_case (Some b) = by_test b (k == b.form)

module _ (t : Theory) (ns : List Node) (fs : List (List Part)) (ls : List Literal) (x : Point) (at : IsAt t ns fs ls x) (sound : IsSound t.simplex) (l other : Lit) (k : Known)
    (listed : k.form < length t.simplex.forms) (has : Contains (told_lits t) other) where
  abbrev L : Literal
  L = literal_over ns t l

  abbrev P : Position
  P = position_under fs (moved_by fs L x) (ls ++ L ∷ [])

  inside : k.form < length fs
  inside = subst (λ (gs : List (List Part)). k.form < length gs) (sym at.forms) (subst (λ (n : ℕ). k.form < n) (sym (length-map t.simplex.forms (parts_over ns))) listed)

  row_here : (row : Coefficients) × IsRow fs (is_nonbasic (moved_by fs L x)) k.form row
  row_here =
      let basis = (sound.ready ns at.over).basis in
      let row = basis.some k.form (subst (λ (n : ℕ). k.form < n) (sym (length-map t.simplex.forms (parts_over ns))) listed) in
      let here : IsRow fs (is_nonbasic x) k.form row.0 =
      subst (λ (p : Position). IsRow p.forms (is_nonbasic p.point) k.form row.0) (sym (position_is t ns fs ls x at)) row.1 in
      (row.0, subst (λ (f : ℕ → Bool). IsRow fs f k.form row.0) (sym (fun_ext (moved_nonbasic fs L x))) here)

  pub sum_in_clash : (literal_over ns t l ≡ literal_over ns t other → ⊥) → (e : Stop) → OnWide e (IsSumPlace ns t (both l other)) → OnWide e (IsPlaceOfStep ns fs (ls ++ L ∷ []) (moved_by fs L x))
  sum_in_clash apart =
      stop_of_sum ns fs (ls ++ L ∷ []) (moved_by fs L x) t (both l other)
      (Contains-push ls L, (Contains-append_left ls (L ∷ []) (literal_over ns t other) (told_among t ns fs ls x other at has), tt))
      (two_once (literal_over ns t l) (literal_over ns t other) apart) k.form inside row_here.0 row_here.1
      (inl (=ℚ_refl (whole (pos 1))), (inl (=ℚ_refl (whole (pos 1))), tt))

-- and of the literal of a log
pub clash_stops : (t : Theory) (atoms : List Atom) (ids : List ℕ) (ns : List Node) (fs : List (List Part)) (ls : List Literal) (x : Point) (l other : Lit) (k : Known) (e : Stop) → OneNumber → TellsLiterals → IsOf t atoms ids
    → IsAt t ns fs ls x → AreForms t.simplex → IsSound t.simplex → AreTolds t → known_at t l.atom ≡ Some k → Contains (told_lits t) other → AreOnTwoSides t l other → OnWide e (IsSumPlace ns t (both l other))
    → OnWide e (IsPlaceOfStep ns fs (ls ++ literal_in ns atoms l ∷ []) (moved_by fs (literal_in ns atoms l) x))
clash_stops t atoms ids ns fs ls x l other k e one tells of at forms sound tolds knows has two place =
    subst (λ (m : Literal). OnWide e (IsPlaceOfStep ns fs (ls ++ m ∷ []) (moved_by fs m x))) (literal_is ns t atoms ids l k of knows)
    (sum_in_clash t ns fs ls x at sound l other k (tolds.listed l.atom k knows) has (sides_apart t ns atoms ids of at.over forms (one ns at.over.table) tells l other two) e place)

-- ---- What the literals of multiples have

-- a level was told of each term that they name
pub told_of_each : (log : LogState) (ls : List Lit) (ms : List LitMultiple) → AreOf ls ms → AreTold log ls → AreTold log (literals_of ms)
told_of_each log ls ms of told = All-from_recursion (Names (λ t. IsSome (told_of log t)) log.atoms) (literals_of ms) (each ms of)
  where
    each : (ns : List LitMultiple) → AreOf ls ns → AllByRecursion (Names (λ t. IsSome (told_of log t)) log.atoms) (literals_of ns)
    each [] h = tt
    each (n ∷ ns) h = (All-contains (Names (λ t. IsSome (told_of log t)) log.atoms) ls n.literal told h.0, each ns h.1)

-- they are over a table
pub in_of_each : (ns : List Node) (atoms : List Atom) (ls : List Lit) (ms : List LitMultiple) → AreOf ls ms → AreWithin ns atoms ls → AreMultiplesIn ns atoms ms
in_of_each ns atoms ls [] of within = tt
in_of_each ns atoms ls (m ∷ ms) of within = (each_of (IsLitIn ns atoms) ls within m.literal of.0, in_of_each ns atoms ls ms of.1 within)

-- two literals, of which the one was told
pub both_of : (ls : List Lit) (l other : Lit) → Contains ls other → AreOf (ls ++ l ∷ []) (both l other)
both_of ls l other has = (Contains-push ls l, (Contains-append_left ls (l ∷ []) other has, tt))

pub both_told : (log : LogState) (ls : List Lit) (l other : Lit) → Contains ls other → AreTold log (ls ++ l ∷ []) → AreTold log (literals_of (both l other))
both_told log ls l other has told = told_of_each log (ls ++ l ∷ []) (both l other) (both_of ls l other has) told

pub both_in : (ns : List Node) (atoms : List Atom) (ls : List Lit) (l other : Lit) → Contains ls other → AreWithin ns atoms (ls ++ l ∷ []) → AreMultiplesIn ns atoms (both l other)
both_in ns atoms ls l other has within = in_of_each ns atoms (ls ++ l ∷ []) (both l other) (both_of ls l other has) within

-- those of a clash of the simplex
pub why_known : (t : Theory) (ws : List (ℕ × Fraction)) → AreTolds t → AllByRecursion (λ (w : ℕ × Fraction). w.0 < length t.told) ws → AreKnown t (map (multiple_at t) ws)
why_known t [] tolds h = tt
why_known t (w ∷ ws) tolds h =
    let d : MarkedLiteral = record { literal = record { atom = 0; sign = false }; mark = 0 } in
    let k = tolds.knows w.0 (slice_index_or t.told w.0 d) (slice_get-get_or t.told w.0 d h.0) in
    (subst IsSome (sym k.1) refl, why_known t ws tolds h.1)

pub why_of : (t : Theory) (ls : List Lit) (ws : List (ℕ × Fraction)) → told_lits t ≡ ls → AllByRecursion (λ (w : ℕ × Fraction). w.0 < length t.told) ws → AreOf ls (map (multiple_at t) ws)
why_of t ls [] told h = tt
why_of t ls (w ∷ ws) told h = (subst (λ (ks : List Lit). Contains ks (lit_at t w.0)) told (lit_told t w.0 h.0), why_of t ls ws told h.1)

-- ---- The exits of a check

pub on_wide_at : (ns : List Node) (s : State) (fs : List (List Part)) (ls : List Literal) (x : Point) (e : Stop) → position_under fs x ls ≡ position_over ns s → OnWide e (Placed ns s) → OnWide e (IsPlaceOfStep ns fs ls x)
on_wide_at ns s fs ls x (Wide place) same h = h fs ls x same
on_wide_at ns s fs ls x Spent same h = tt
on_wide_at ns s fs ls x Memory same h = tt

module _ (old new : Theory) (before after : WorkList Note) (ns : List Node) (fs : List (List Part)) (ls : List Literal) (x : Point) (moved : IsMoved old new before after) (at : IsAt old ns fs ls x) where
  pub there : IsAt new ns fs ls (point_in new.simplex)
  there = moved_at old new ns fs ls x moved.known moved.told moved.forms moved.asserted at

  pub leads_on : {A : Type 0} (answer : A) → Leads (IsAt new ns fs ls) ns fs ls x before after (Ok answer)
  leads_on {A} answer = leads_by {A = A} old new before after ns fs ls x (Ok answer) moved at there

  pub leads_to_stop : {A : Type 0} (e : Stop) (result : Result A Stop) → result ≡ Err e → EndsAt {A = A} (IsAt new ns fs ls) ns fs ls (point_in new.simplex) (Err e) → Leads (IsAt new ns fs ls) ns fs ls x before after result
  leads_to_stop {A} e result is ends =
      subst (λ (r : Result A Stop). Leads (IsAt new ns fs ls) ns fs ls x before after r) (sym is) (leads_by {A = A} old new before after ns fs ls x (Err e) moved at ends)

  -- at a place, where no unit is wanted
  pub leads_to_sum : {A : Type 0} (e : Stop) (result : Result A Stop) → result ≡ Err e → (e ≡ Spent → ⊥) → OnWide e (IsPlaceOfStep ns fs ls (point_in new.simplex)) → Leads (IsAt new ns fs ls) ns fs ls x before after result
  leads_to_sum {A} e result is unspent place = leads_to_stop {A = A} e result is (ends e unspent place)
    where
      ends : (y : Stop) → (y ≡ Spent → ⊥) → OnWide y (IsPlaceOfStep ns fs ls (point_in new.simplex)) → EndsAt {A = A} (IsAt new ns fs ls) ns fs ls (point_in new.simplex) (Err y)
      ends (Wide p) other h = h
      ends Spent other h = absurd (other refl)
      ends Memory other h = tt

  pub leads_to_place : {A : Type 0} (e : Stop) (result : Result A Stop) → result ≡ Err e → (IsOver new ns → OnWide e (Placed ns new.simplex)) → (IsOver new ns → e ≡ Spent → (p : Pivot) × MayPivot (position_over ns new.simplex) p)
      → Leads (IsAt new ns fs ls) ns fs ls x before after result
  leads_to_place {A} e result is place wanted =
      leads_to_stop {A = A} e result is (ends e (on_wide_at ns new.simplex fs ls (point_in new.simplex) e same (place there.over)) (wanted there.over))
    where
      same : position_under fs (point_in new.simplex) ls ≡ position_over ns new.simplex
      same = position_is new ns fs ls (point_in new.simplex) there

      ends : (y : Stop) → OnWide y (IsPlaceOfStep ns fs ls (point_in new.simplex)) → (y ≡ Spent → (p : Pivot) × MayPivot (position_over ns new.simplex) p)
          → EndsAt {A = A} (IsAt new ns fs ls) ns fs ls (point_in new.simplex) (Err y)
      ends (Wide p) h may = h
      ends Spent h may = let m = may refl in (m.0, subst (λ (p : Position). MayPivot p m.0) (sym same) m.1)
      ends Memory h may = tt
