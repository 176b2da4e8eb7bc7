-- What is told to a theory without forms moves nothing, and a check of it takes no step.
use Rattle.std.proofs.Common.{◌≡◌, ℕ, ◌+◌, List, [], ◌∷◌, ◌++◌, fold, Option, Ok, Some, None, refl, sym, ap, subst, ◌∙◌, arith}
use Rattle.std.proofs.lemmas.List.{length-append, append-nil}
use Rattle.nz_spec.specs.numbers.Infinitesimal.{Infinitesimal}
use Rattle.nz_spec.specs.simplex.Bland.{Point, Side, lower_side}
use Rattle.nz_spec.specs.simplex.PositionMoves.{AreConsistent}
use Rattle.nz_spec.specs.terms.Form.{Part}
use Rattle.nz_spec.specs.clauses.Literal.{Literal, term_literal, is_at_most, is_below}
use Rattle.nz_spec.specs.simplex.LiteralBounds.{moved_by, position_under, with_bound_said}
use Rattle.nz_spec.specs.terms.Table.{Node}
use Rattle.nz_spec.specs.search.Work.{WorkLine, WorkList}
use Rattle.nz_search.specs.declared.note.Note.{Note}
use Rattle.nz_search.specs.Theories.{IsWithoutForms, Leads}

nothing_moves : (l : Literal) (x : Point) → moved_by [] l x ≡ x
nothing_moves (term_literal t sign) x = refl
nothing_moves (is_at_most ps b) x = refl
nothing_moves (is_below ps b) x = refl

pub told_more : (count more : ℕ) (fs : List (List Part)) (ls : List Literal) (l : Literal) (x : Point) → more ≡ count + 1 → IsWithoutForms count fs ls x
    → IsWithoutForms more fs (ls ++ l ∷ []) (moved_by fs l x)
told_more count more fs ls l x one h =
    subst (λ (gs : List (List Part)). IsWithoutForms more gs (ls ++ l ∷ []) (moved_by gs l x)) (sym h.forms)
    (record {
      told = omega (arith, one, h.told, length-append ls (l ∷ []));
      forms = refl;
      point = λ k. ap (λ (y : Point). y k) (nothing_moves l x) ∙ h.point k;
    })

-- no literal says a bound, so none stands
says_nothing : (side : Side) (k : ℕ) (found : Option Infinitesimal) (l : Literal) → with_bound_said [] side k found l ≡ found
says_nothing side k found (term_literal t sign) = refl
says_nothing side k found (is_at_most ps b) = refl
says_nothing side k found (is_below ps b) = refl

none_stands : (side : Side) (k : ℕ) (found : Option Infinitesimal) (ls : List Literal) → fold (with_bound_said [] side k) found ls ≡ found
none_stands side k found [] = refl
none_stands side k found (l ∷ ls) =
    ap (λ (o : Option Infinitesimal). fold (with_bound_said [] side k) o ls) (says_nothing side k found l) ∙ none_stands side k found ls

agree : (fs : List (List Part)) (ls : List Literal) (x : Point) → fs ≡ [] → AreConsistent (position_under fs x ls)
agree fs ls x e =
    subst (λ (gs : List (List Part)). AreConsistent (position_under gs x ls)) (sym e)
    (λ k low high low_is high_is below. no_bound (sym (none_stands lower_side k None ls) ∙ low_is))
  where
    no_bound : {low : Infinitesimal} → None ≡ Some low → ⊥
    no_bound e = absurd cc

pub no_steps : (count : ℕ) (ns : List Node) (fs : List (List Part)) (ls : List Literal) (x : Point) (work : WorkList Note) → IsWithoutForms count fs ls x
    → Leads {A = Option ℕ} (IsWithoutForms count fs ls) ns fs ls x work work (Ok None)
no_steps count ns fs ls x work h =
    record {
      consistent = agree fs ls x h.forms;
      adds = record { pivots = []; joined = ap (λ (lines : List (WorkLine Note)). record work { lines = lines }) (sym (append-nil work.lines)) };
      end = position_under fs x ls;
      lead = refl;
      ends = h;
    }
