-- Where a theory stands, when a literal is told, when the last ones are taken back, and when a check moves the point.
use Rattle.std.proofs.Common.{◌≡◌, ℕ, zero, suc, ◌≤◌, ◌⊎◌, inl, inr, Bool, true, false, List, [], ◌∷◌, ◌++◌, map, take, length, Option, Some, None, refl, sym, ap, ◌∙◌, subst, arith}
use Rattle.std.specs.Prelude.{IsSome, is_some, option_map, slice_get, if◌then◌else◌}
use Rattle.std.specs.List.{AllByRecursion}
use Rattle.std.proofs.lemmas.List.{length-map, map-append, take-append-le, take_all}
use Rattle.std.proofs.lemmas.Option.{slice_get_within}
use Rattle.nz_spec.specs.simplex.Bland.{Point, Position, NonbasicFormsFit, is_nonbasic, lower_side, upper_side}
use Rattle.nz_spec.specs.terms.Form.{Part}
use Rattle.nz_spec.specs.numbers.Infinitesimal.{Infinitesimal, infinitesimal_cmp, InfinitesimalsAreOrdered}
use Rattle.nz_spec.specs.clauses.Literal.{Literal, TellsLiterals}
use Rattle.nz_spec.specs.simplex.LiteralBounds as bounds
use Rattle.nz_spec.specs.simplex.LiteralBounds.{FormBound, TellingSetsBounds, bound_said, moved_by, position_under}
use Rattle.nz_spec.specs.simplex.PositionMoves.{is_outside, with_bound}
use Rattle.nz_spec.specs.terms.Table.{Node, OneNumber}
use Rattle.nz_lin.specs.Forms.{AreUnits, parts_over}
use Rattle.nz_trail.specs.Bounds.{IsImplied}
use Rattle.nz_trail.specs.declared.limits.Side.{Side}
use Rattle.nz_trail.specs.declared.limits.Side.TheVariants.{Lower, Upper}
use Rattle.nz_log.specs.declared.atoms.Atom.{Atom}
use Rattle.nz_log.specs.declared.lits.Lit.{Lit}
use Rattle.nz_log.specs.Atoms.{literal_in}
use Rattle.nz_simplex.specs.Moves.{IsBounded}
use Rattle.nz_simplex.specs.Standing.{Held, half, is_news, standing}
use Rattle.nz_simplex.specs.State.{IsSound, State, nonbasic_in, point_in, position_over, value_in}
use Rattle.nz_reals.specs.declared.reals.MarkedLiteral.{MarkedLiteral}
use Rattle.nz_reals.specs.Known.{form_bound}
use Rattle.nz_reals.specs.Stands.{AreBounds, IsAt, IsOf, IsOver}
use Rattle.nz_reals.specs.State.{Theory, literal_over, told_lits}
use Rattle.nz_reals.specs.Stored.{AreForms, AreTolds}
use Rattle.nz_reals.specs.Tells.{IsTold, held_by, told_now}
use Rattle.nz_reals.proofs.LiteralForms.{said_bound}
use Rattle.nz_reals.proofs.News.{implied_old, other_news}
use Rattle.nz_reals.proofs.AtomBounds.{literal_is}
use Rattle.nz_reals.proofs.Tolds.{IsUndone, forms_same, forms_stay, mark_within, slice_get_taken, told_cases}

-- ---- Lists

take_map : {X Y : Type 0} (f : X → Y) (n : ℕ) (xs : List X) → map f (take n xs) ≡ take n (map f xs)
take_map f zero xs = refl
take_map f (suc n) [] = refl
take_map f (suc n) (x ∷ xs) = ap (λ ys. f x ∷ ys) (take_map f n xs)

take_twice : {X : Type 0} (m n : ℕ) (xs : List X) → m ≤ n → take m (take n xs) ≡ take m xs
take_twice zero n xs h = refl
take_twice (suc m) zero xs h = absurd (omega (arith, h))
take_twice (suc m) (suc n) [] h = refl
take_twice (suc m) (suc n) (x ∷ xs) h = ap (λ ys. x ∷ ys) (take_twice m n xs (omega (arith, h)))

map_same : {X Y : Type 0} (f g : X → Y) → ((x : X) → f x ≡ g x) → (xs : List X) → map f xs ≡ map g xs
map_same f g h [] = refl
map_same f g h (x ∷ xs) = λ i. h x i ∷ map_same f g h xs i

-- ---- The position

pub position_is : (t : Theory) (ns : List Node) (fs : List (List Part)) (ls : List Literal) (x : Point) → IsAt t ns fs ls x → position_under fs x ls ≡ position_over ns t.simplex
position_is t ns fs ls x at = λ i. record { forms = at.forms i; point = at.point i; lower = at.bounds.lower i; upper = at.bounds.upper i }

pub bounds_are : (fs : List (List Part)) (x : Point) (ls : List Literal) (ns : List Node) (s : State) → position_under fs x ls ≡ position_over ns s → AreBounds fs ls s.asserted
bounds_are fs x ls ns s same = record { lower = ap (λ (p : Position). p.lower) same; upper = ap (λ (p : Position). p.upper) same }

-- whether a bound is tighter than what stands, as the definitions ask it
pub news_is : (ns : List Node) (s : State) (side : Side) (v : ℕ) (value : Infinitesimal)
    → bounds.is_news (position_over ns s) (record { form = v; side = half side; bound = value }) ≡ is_news side value (standing s.asserted v side)
news_is ns s Lower v value = by_case (standing s.asserted v Lower)
  where
    by_case : (o : Option Held) → (elim (option_map (λ (b : Held). b.value) o) [ Some y ↦ is_outside lower_side value y | None ↦ true ]) ≡ is_news Lower value o
    by_case None = refl
    by_case (Some b) = refl
news_is ns s Upper v value = by_case (standing s.asserted v Upper)
  where
    by_case : (o : Option Held) → (elim (option_map (λ (b : Held). b.value) o) [ Some y ↦ is_outside upper_side value y | None ↦ true ]) ≡ is_news Upper value o
    by_case None = refl
    by_case (Some b) = refl

-- ---- The same literals

pub literal_kept : (ns : List Node) (old new : Theory) (l : Lit) → new.known ≡ old.known → new.simplex.forms ≡ old.simplex.forms → literal_over ns new l ≡ literal_over ns old l
literal_kept ns old new l known forms =
    λ i. literal_over ns (record { simplex = record old.simplex { forms = forms i }; known = known i; told = old.told }) l

pub over_kept : (ns : List Node) (old new : Theory) → new.simplex.forms ≡ old.simplex.forms → IsOver old ns → IsOver new ns
over_kept ns old new forms over = record { table = over.table; units = subst (AllByRecursion (AreUnits ns)) (sym forms) over.units }

-- ---- Nonbasic forms

pub nonbasic_is : (s : State) → IsSound s → (k : ℕ) → is_nonbasic (point_in s) k ≡ nonbasic_in s k
nonbasic_is s sound k = by_test (nonbasic_in s k) refl
  where
    some : (o : Option Infinitesimal) → IsSome o → is_some o ≡ true
    some None h = h
    some (Some x) h = refl

    by_test : (b : Bool) → nonbasic_in s k ≡ b → is_some (if b then value_in s k else None) ≡ b
    by_test true e = some (value_in s k) (sound.known k e)
    by_test false e = refl

-- ---- A literal that is told

module _ (old new : Theory) (l : Lit) (told : IsTold old new l) (atoms : List Atom) (ids : List ℕ) (of : IsOf old atoms ids) (forms : AreForms old.simplex) (tolds : AreTolds old) (sound : IsSound old.simplex)
    (sets : TellingSetsBounds) (order : InfinitesimalsAreOrdered) (one : OneNumber) (tells : TellsLiterals) (ns : List Node) (fs : List (List Part)) (ls : List Literal) (x : Point) (at : IsAt old ns fs ls x) where
  abbrev L : Literal
  L = literal_over ns old l

  abbrev b : FormBound
  b = form_bound told.known l.sign

  abbrev held : Held
  held = held_by told.known l (length old.told)

  says : bound_said fs L ≡ Some b
  says =
      let k = of.right l.atom told.known told.knows in
      ap (λ (gs : List (List Part)). bound_said gs L) at.forms ∙ said_bound ns old l k.0 told.known (one ns at.over.table) tells at.over forms told.knows k.2

  here : position_under fs x ls ≡ position_over ns old.simplex
  here = position_is old ns fs ls x at

  news : bounds.is_news (position_under fs x ls) b ≡ is_news held.side held.value (standing old.simplex.asserted held.var held.side)
  news = ap (λ (p : Position). bounds.is_news p b) here ∙ news_is ns old.simplex held.side held.var held.value

  after : position_under fs (moved_by fs L x) (ls ++ L ∷ []) ≡ position_over ns new.simplex
  after = by_case told.bound
    where
      by_case : ((new.simplex ≡ old.simplex) × IsImplied infinitesimal_cmp old.simplex.asserted held) ⊎ (IsBounded old.simplex new.simplex held × (¬ IsImplied infinitesimal_cmp old.simplex.asserted held))
          → position_under fs (moved_by fs L x) (ls ++ L ∷ []) ≡ position_over ns new.simplex
      by_case (inl (same, implied)) =
          sets.looser fs x ls L b says (news ∙ implied_old order old.simplex.asserted held implied) (subst NonbasicFormsFit (sym here) (sound.ready ns at.over).fit)
          ∙ here ∙ ap (position_over ns) (sym same)
      by_case (inr (bounded, other)) =
          sets.tighter fs x ls L b says (news ∙ other_news order old.simplex.asserted held other)
          ∙ ap (λ (p : Position). with_bound p b.side b.form b.bound) here ∙ sym (bounded.position ns at.over)

  same_forms : new.simplex.forms ≡ old.simplex.forms
  same_forms = forms_same old new l tolds told

  told_more : told_lits new ≡ told_lits old ++ l ∷ []
  told_more = ap (map (λ (y : MarkedLiteral). y.literal)) told.told ∙ map-append (λ (y : MarkedLiteral). y.literal) old.told (told_now old l ∷ [])

  literals : ls ++ L ∷ [] ≡ map (literal_over ns new) (told_lits new)
  literals =
      ap (λ (ks : List Literal). ks ++ L ∷ []) at.literals
      ∙ sym (map-append (literal_over ns old) (told_lits old) (l ∷ []))
      ∙ ap (map (literal_over ns old)) (sym told_more)
      ∙ sym (map_same (literal_over ns new) (literal_over ns old) (λ m. literal_kept ns old new m told.same same_forms) (told_lits new))

  long : length ls ≡ length old.told
  long = ap length at.literals ∙ length-map (told_lits old) (literal_over ns old) ∙ length-map old.told (λ (y : MarkedLiteral). y.literal)

  front_bounds : (n : ℕ) → n ≤ length old.simplex.asserted → take n new.simplex.asserted ≡ take n old.simplex.asserted
  front_bounds n h = by_case told.bound
    where
      by_case : ((new.simplex ≡ old.simplex) × IsImplied infinitesimal_cmp old.simplex.asserted held) ⊎ (IsBounded old.simplex new.simplex held × (¬ IsImplied infinitesimal_cmp old.simplex.asserted held))
          → take n new.simplex.asserted ≡ take n old.simplex.asserted
      by_case (inl (same, implied)) = ap (λ (s : State). take n s.asserted) same
      by_case (inr (bounded, other)) = ap (take n) bounded.asserted ∙ take-append-le n old.simplex.asserted (held ∷ []) h

  marks : (r : ℕ) (y : MarkedLiteral) → slice_get new.told r ≡ Some y → AreBounds fs (take r (ls ++ L ∷ [])) (take y.mark new.simplex.asserted)
  marks r y there = by_case (told_cases old new l tolds told r y there)
    where
      by_case : (slice_get old.told r ≡ Some y) ⊎ ((r ≡ length old.told) × (told_now old l ≡ y)) → AreBounds fs (take r (ls ++ L ∷ [])) (take y.mark new.simplex.asserted)
      by_case (inl was) =
          let less = slice_get_within old.told r y was in
          let mark = (tolds.marks r y was).within in
          subst (λ (bs : List Held). AreBounds fs (take r (ls ++ L ∷ [])) bs) (sym (front_bounds y.mark mark))
          (subst (λ (ks : List Literal). AreBounds fs ks (take y.mark old.simplex.asserted)) (sym (take-append-le r ls (L ∷ []) (omega (arith, less, long)))) (at.marks r y was))
      by_case (inr (last, now)) =
          let mark : y.mark ≡ length old.simplex.asserted = ap (λ (z : MarkedLiteral). z.mark) (sym now) in
          let bs : take y.mark new.simplex.asserted ≡ old.simplex.asserted =
          ap (λ (n : ℕ). take n new.simplex.asserted) mark ∙ front_bounds (length old.simplex.asserted) (omega arith) ∙ take_all (length old.simplex.asserted) old.simplex.asserted (omega arith) in
          let ks : take r (ls ++ L ∷ []) ≡ ls = take-append-le r ls (L ∷ []) (omega (arith, last, long)) ∙ take_all r ls (omega (arith, last, long)) in
          subst (λ (hs : List Held). AreBounds fs (take r (ls ++ L ∷ [])) hs) (sym bs) (subst (λ (qs : List Literal). AreBounds fs qs old.simplex.asserted) (sym ks) at.bounds)

  stands : IsAt new ns fs (ls ++ L ∷ []) (moved_by fs L x)
  stands = record {
    over = over_kept ns old new same_forms at.over;
    forms = ap (λ (p : Position). p.forms) after;
    literals = literals;
    point = ap (λ (p : Position). p.point) after;
    bounds = bounds_are fs (moved_by fs L x) (ls ++ L ∷ []) ns new.simplex after;
    marks = marks;
  }

  pub told_at : IsAt new ns fs (ls ++ literal_in ns atoms l ∷ []) (moved_by fs (literal_in ns atoms l) x)
  told_at =
      subst (λ (k : Literal). IsAt new ns fs (ls ++ k ∷ []) (moved_by fs k x)) (literal_is ns old atoms ids l told.known of told.knows) stands

-- ---- The last are taken back

module _ (old new : Theory) (k : ℕ) (z : MarkedLiteral) (tolds : AreTolds old) (undone : IsUndone old new k z) (ns : List Node) (fs : List (List Part)) (ls : List Literal) (x : Point) (at : IsAt old ns fs ls x) where
  kept_forms : new.simplex.forms ≡ old.simplex.forms
  kept_forms = forms_stay old new k z tolds undone

  bounds_then : new.simplex.asserted ≡ take z.mark old.simplex.asserted
  bounds_then = ap (λ (s : State). s.asserted) undone.simplex

  literals_then : take k ls ≡ map (literal_over ns new) (told_lits new)
  literals_then =
      ap (take k) at.literals
      ∙ sym (take_map (literal_over ns old) k (told_lits old))
      ∙ ap (map (literal_over ns old)) (sym (take_map (λ (y : MarkedLiteral). y.literal) k old.told) ∙ ap (map (λ (y : MarkedLiteral). y.literal)) (sym undone.told))
      ∙ sym (map_same (literal_over ns new) (literal_over ns old) (λ m. literal_kept ns old new m undone.known kept_forms) (told_lits new))

  marks_then : (r : ℕ) (y : MarkedLiteral) → slice_get new.told r ≡ Some y → AreBounds fs (take r (take k ls)) (take y.mark new.simplex.asserted)
  marks_then r y there =
      let was = slice_get_taken k old.told r y (subst (λ (ts : List MarkedLiteral). slice_get ts r ≡ Some y) undone.told there) in
      let within = mark_within old new k z tolds undone r y was.0 was.1 in
      subst (λ (bs : List Held). AreBounds fs (take r (take k ls)) bs) (sym (ap (take y.mark) bounds_then ∙ take_twice y.mark z.mark old.simplex.asserted within))
      (subst (λ (qs : List Literal). AreBounds fs qs (take y.mark old.simplex.asserted)) (sym (take_twice r k ls (let less = was.1 in omega (arith, less)))) (at.marks r y was.0))

  pub undone_at : IsAt new ns fs (take k ls) x
  undone_at = record {
    over = over_kept ns old new kept_forms at.over;
    forms = at.forms ∙ ap (map (parts_over ns)) (sym kept_forms);
    literals = literals_then;
    point = at.point ∙ ap point_in (sym undone.simplex);
    bounds = subst (λ (bs : List Held). AreBounds fs (take k ls) bs) (sym bounds_then) (at.marks k z undone.at);
    marks = marks_then;
  }

-- ---- The point moves

pub moved_at : (old new : Theory) (ns : List Node) (fs : List (List Part)) (ls : List Literal) (x : Point) → new.known ≡ old.known → new.told ≡ old.told → new.simplex.forms ≡ old.simplex.forms
    → new.simplex.asserted ≡ old.simplex.asserted → IsAt old ns fs ls x → IsAt new ns fs ls (point_in new.simplex)
moved_at old new ns fs ls x known told forms asserted at = record {
  over = over_kept ns old new forms at.over;
  forms = at.forms ∙ ap (map (parts_over ns)) (sym forms);
  literals =
      at.literals ∙ ap (λ (ts : List MarkedLiteral). map (literal_over ns old) (map (λ (y : MarkedLiteral). y.literal) ts)) (sym told)
      ∙ sym (map_same (literal_over ns new) (literal_over ns old) (λ m. literal_kept ns old new m known forms) (told_lits new));
  point = refl;
  bounds = subst (λ (bs : List Held). AreBounds fs ls bs) (sym asserted) at.bounds;
  marks = λ r y there. subst (λ (bs : List Held). AreBounds fs (take r ls) (take y.mark bs)) (sym asserted) (at.marks r y (subst (λ (ts : List MarkedLiteral). slice_get ts r ≡ Some y) told there));
}
