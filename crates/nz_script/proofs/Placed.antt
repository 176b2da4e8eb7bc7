-- Terms where terms of these sorts are wanted: each is of its sort, and what held of the terms holds of them.
use Rattle.std.proofs.Common.{◌≡◌, ℕ, zero, suc, Bool, true, false, ◌&&◌, List, [], ◌∷◌, Option, Some, None, refl, sym, ◌∙◌, true≢false, if◌then◌else◌}
use Rattle.std.specs.Bool.{⊤}
use Rattle.std.specs.Prelude.{slice_get}
use Rattle.std.proofs.lemmas.Option.{none-some, same_Some}
use Rattle.std.proofs.lemmas.Bool.{and_parts}
use Rattle.nz_lists.proofs.Options.{IfFound}
use Rattle.nz_spec.specs.terms.Term.{Sort, int_sort, real_sort, Head, to_real, Term, apply, Terms, no_terms, terms, sort_of, are_same_sort}
use Rattle.nz_spec.specs.terms.Operators.{has_sort, as_real, placed}
use Rattle.nz_spec.specs.terms.Definitions.{term_at, terms_onto, all_placed}
use Rattle.nz_spec.specs.terms.WellSorted.{SortsTell}

-- terms of these sorts, as many of them
abbrev pub HaveSorts : List Sort → Terms → Type 0
HaveSorts [] no_terms = ⊤
HaveSorts [] (terms t ts) = ⊥
HaveSorts (s ∷ ss) no_terms = ⊥
HaveSorts (s ∷ ss) (terms t ts) = (sort_of t ≡ s) × HaveSorts ss ts

real_sort_if : (b : Bool) (t : Term) → b ≡ true → sort_of (if b then apply to_real (terms t no_terms) else t) ≡ real_sort
real_sort_if true t e = refl
real_sort_if false t e = absurd (true≢false (sym e))

module _ (P : Term → Type 0) where
  -- each of the terms is so
  abbrev pub AllAre : Terms → Type 0
  AllAre no_terms = ⊤
  AllAre (terms t ts) = P t × AllAre ts

  -- a term of this sort
  abbrev pub IsPlaced : Sort → Term → Type 0
  IsPlaced s t = P t × (sort_of t ≡ s)

  abbrev pub ArePlaced : List Sort → Terms → Type 0
  ArePlaced rs ts = AllAre ts × HaveSorts rs ts

  -- the term that is put in a parameter's place
  pub at_place : (rs : List Sort) (us : Terms) (i : ℕ) (s : Sort) → HaveSorts rs us → AllAre us → slice_get rs i ≡ Some s → (h : Head) (ts : Terms)
      → IsPlaced s (elim (term_at us i) [ Some t ↦ t | None ↦ apply h ts ])
  at_place [] us i s m g e h ts = absurd (none-some s e)
  at_place (r ∷ rs) no_terms i s m g e h ts = absurd m
  at_place (r ∷ rs) (terms u us) zero s m g e h ts = (g.0, m.0 ∙ same_Some r s e)
  at_place (r ∷ rs) (terms u us) (suc i) s m g e h ts = at_place rs us i s m.1 g.1 e h ts

  module _ (told : SortsTell) (keeps : (t : Term) → P t → P (as_real t)) where
    placed_by : (b c : Bool) (s : Sort) (t : Term) → has_sort s t ≡ b → (are_same_sort s real_sort && has_sort int_sort t) ≡ c → P t
        → IfFound (IsPlaced s) (if b then Some t else (if c then Some (as_real t) else None))
    placed_by true c s t e f h = (h, sym (told.one s (sort_of t) e))
    placed_by false true s t e f h =
        let real = told.one s real_sort (and_parts (are_same_sort s real_sort) (has_sort int_sort t) f).0 in
        let whole = (and_parts (are_same_sort s real_sort) (has_sort int_sort t) f).1 in
        (keeps t h, real_sort_if (has_sort int_sort t) t whole ∙ sym real)
    placed_by false false s t e f h = tt

    pub is_placed : (s : Sort) (t : Term) → P t → IfFound (IsPlaced s) (placed s t)
    is_placed s t h = placed_by (has_sort s t) (are_same_sort s real_sort && has_sort int_sort t) s t refl refl h

    placed_onto : (s : Sort) (rs : List Sort) (o : Option Term) (r : Option Terms) → IfFound (IsPlaced s) o → IfFound (ArePlaced rs) r → IfFound (ArePlaced (s ∷ rs)) (terms_onto o r)
    placed_onto s rs (Some t) (Some ts) h i = ((h.0, i.0), (h.1, i.1))
    placed_onto s rs (Some t) None h i = tt
    placed_onto s rs None r h i = tt

    pub are_placed : (rs : List Sort) (ts : Terms) → AllAre ts → IfFound (ArePlaced rs) (all_placed rs ts)
    are_placed [] no_terms h = (tt, tt)
    are_placed [] (terms t ts) h = tt
    are_placed (s ∷ rs) no_terms h = tt
    are_placed (s ∷ rs) (terms t ts) h = placed_onto s rs (placed s t) (all_placed rs ts) (is_placed s t h.0) (are_placed rs ts h.1)
