-- Terms and bindings in a list.
use Rattle.std.proofs.Common.{◌≡◌, ℕ, ◌≤◌, Bool, true, false, true≢false, List, [], ◌∷◌, length, map, drop, Option, Some, None, is_none, refl, sym, ap, ◌∙◌}
use Rattle.std.proofs.Math.ListN.{drop_of_length-le}
use Rattle.nz_sexpr.specs.declared.tree.Tree as code
use Rattle.nz_sexpr.specs.View.{view, seen}
use Rattle.nz_script.specs.commands.Expression.{Expression, written_use, written_let, Expressions, no_expressions, expressions, Locals, no_locals}
use Rattle.nz_script.specs.commands.Parse.{expression_of, expressions_of, locals_of, expressions_onto, locals_onto, used, bound}
use Rattle.nz_command.specs.View.{expressions_from, locals_from}
use Rattle.nz_command.proofs.ParsedLists.{before}

none_is_not : {A : Type 0} (a : A) → None ≡ Some a → ⊥
none_is_not a h = true≢false (ap is_none h)

expressions_before : (es : List Expression) → before expressions_onto es (Some no_expressions) ≡ Some (expressions_from es)
expressions_before [] = refl
expressions_before (e ∷ es) = ap (expressions_onto (Some e)) (expressions_before es)

pub expressions_end : (xs : List code.Tree) (i : ℕ) (w : Option Expressions) (es : List Expression) → length xs ≤ i → w ≡ before expressions_onto es (expressions_of (seen (drop i xs))) → Some (expressions_from es) ≡ w
expressions_end xs i w es past so = sym (so ∙ ap (λ l. before expressions_onto es (expressions_of (seen l))) (drop_of_length-le xs past) ∙ expressions_before es)

locals_before : (ls : List (List ℕ × Expression)) → before locals_onto ls (Some no_locals) ≡ Some (locals_from ls)
locals_before [] = refl
locals_before (l ∷ ls) = ap (locals_onto (Some l)) (locals_before ls)

pub locals_end : (xs : List code.Tree) (i : ℕ) (w : Option Locals) (ls : List (List ℕ × Expression)) → length xs ≤ i → w ≡ before locals_onto ls (locals_of (seen (drop i xs))) → Some (locals_from ls) ≡ w
locals_end xs i w ls past so = sym (so ∙ ap (λ l. before locals_onto ls (locals_of (seen l))) (drop_of_length-le xs past) ∙ locals_before ls)

pub expressions_fail : (o : Option Expressions) → expressions_onto None o ≡ None
expressions_fail (Some es) = refl
expressions_fail None = refl

pub locals_fail : (o : Option Locals) → locals_onto None o ≡ None
locals_fail (Some ls) = refl
locals_fail None = refl

-- ---- Lists of one or more

abbrev has_terms : Option Expressions → Bool
has_terms (Some (expressions e es)) = true
has_terms m = false

onto_has : (a : Option Expression) (b : Option Expressions) → Some no_expressions ≡ expressions_onto a b → ⊥
onto_has (Some e) (Some es) h = true≢false (ap has_terms (sym h))
onto_has (Some e) None h = none_is_not no_expressions (sym h)
onto_has None b h = none_is_not no_expressions (sym h)

pub used_parsed : (name : List ℕ) (xs : List code.Tree) (es : Expressions) → (length xs ≡ 0 → ⊥) → Some es ≡ expressions_of (seen xs) → Some (written_use name es) ≡ used name (expressions_of (seen xs))
used_parsed name [] es some h = absurd (some refl)
used_parsed name (x ∷ xs) no_expressions some h = absurd (onto_has (expression_of (view x)) (expressions_of (seen xs)) h)
used_parsed name (x ∷ xs) (expressions e es) some h = ap (used name) h

pub bound_parsed : {X : Type 0} (f : X → List ℕ × Expression) (xs : List X) (body : Expression) (m : Option Locals) (n : Option Expression) → (length xs ≡ 0 → ⊥)
    → Some (locals_from (map f xs)) ≡ m → Some body ≡ n → Some (written_let (locals_from (map f xs)) body) ≡ bound m n
bound_parsed f [] body m n some h k = absurd (some refl)
bound_parsed f (x ∷ xs) body m n some h k = ap (λ o. bound o (Some body)) h ∙ ap (bound m) k
