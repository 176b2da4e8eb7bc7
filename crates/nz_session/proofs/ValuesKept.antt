-- The values that are kept of a model.
use Rattle.std.proofs.Common.{◌≡◌, ℕ, zero, suc, ◌<◌, ◌≤◌, List, [], ◌∷◌, ◌++◌, length, drop, Option, Some, slice_get, refl, sym, ap, ◌∙◌, arith, length-take}
use Rattle.std.specs.Prelude.{if◌then◌else◌}
use Rattle.std.specs.List.{AllByRecursion}
use Rattle.std.proofs.Math.Path.{fun_ext}
use Rattle.std.proofs.lemmas.List.{take-append-drop}
use Rattle.nz_spec.specs.terms.Term.{Constant, Value}
use Rattle.nz_spec.specs.terms.Table.{Node, assignment_by, is_node_of}
use Rattle.nz_spec.specs.search.Decide.{IsFrontOfTable}
use Rattle.nz_session.specs.Desk.{KeepsValues}
use Rattle.nz_session.specs.declared.desk.LastAnswer.{LastAnswer}
use Rattle.nz_session.specs.declared.desk.LastAnswer.TheVariants.{Model}

in_front : (old more : List Node) (i : ℕ) → i < length old → slice_get (old ++ more) i ≡ slice_get old i
in_front [] more i below = absurd (omega arith)
in_front (n ∷ old) more zero below = refl
in_front (n ∷ old) more (suc i) below = in_front old more i (omega arith)

-- a node stays where a table goes on
node_stays : (old ns : List Node) → IsFrontOfTable old ns → (i : ℕ) → i < length old → slice_get ns i ≡ slice_get old i
node_stays old ns front i below =
    ap (λ l. slice_get l i) (sym (take-append-drop (length old) ns) ∙ ap (λ l. l ++ drop (length old) ns) front) ∙ in_front old (drop (length old) ns) i below

assigned_still : (old ns : List Node) → IsFrontOfTable old ns → (ps : List (ℕ × Value)) (c : Constant) → AllByRecursion (λ (p : ℕ × Value). p.0 < length old) ps
    → assignment_by ns ps c ≡ assignment_by old ps c
assigned_still old ns front [] c h = refl
assigned_still old ns front (p ∷ ps) c h =
    ap (λ n. if is_node_of n c then p.1 else assignment_by ns ps c) (node_stays old ns front p.0 h.0)
    ∙ ap (λ v. if is_node_of (slice_get old p.0) c then p.1 else v) (assigned_still old ns front ps c h.1)

within_still : (old ns : List Node) → IsFrontOfTable old ns → (ps : List (ℕ × Value)) → AllByRecursion (λ (p : ℕ × Value). p.0 < length old) ps → AllByRecursion (λ (p : ℕ × Value). p.0 < length ns) ps
within_still old ns front [] h = tt
within_still old ns front (p ∷ ps) h =
    let below : p.0 < length old = h.0 in
    let long : length old ≤ length ns = omega (arith, ap length front, length-take (length old) ns) in
    (omega arith, within_still old ns front ps h.1)

pub values_stay : (old ns : List Node) (last : Option LastAnswer) → IsFrontOfTable old ns → KeepsValues old last → KeepsValues ns last
values_stay old ns (Some (Model m)) front h =
    record { within = within_still old ns front m.values h.within; assigns = fun_ext (λ c. assigned_still old ns front m.values c h.within) ∙ h.assigns }
values_stay old ns last front h = tt
