-- Lists of trees of another length.
use Rattle.std.proofs.Common.{◌≡◌, ℕ, suc, List, [], ◌∷◌, length, None, refl, ap}
use Rattle.nz_sexpr.specs.declared.tree.Tree as code
use Rattle.nz_sexpr.specs.View.{seen}
use Rattle.nz_script.specs.commands.Request.{Attributes}
use Rattle.nz_script.specs.commands.Parse.{attributes_onto, level_count, info_of, each, question_of, some_questions, none}
use Rattle.nz_command.specs.Lists.{IsNotOne, IsNotTwo, IsNotThree, IsShort}

pub not_one : (xs : List code.Tree) → (length xs ≡ 1 → ⊥) → IsNotOne (seen xs)
not_one [] h = tt
not_one (x ∷ []) h = absurd (h refl)
not_one (x ∷ y ∷ xs) h = tt

pub not_two : (xs : List code.Tree) → (length xs ≡ 2 → ⊥) → IsNotTwo (seen xs)
not_two [] h = tt
not_two (x ∷ xs) h = not_one xs (λ e. h (ap suc e))

pub not_three : (xs : List code.Tree) → (length xs ≡ 3 → ⊥) → IsNotThree (seen xs)
not_three [] h = tt
not_three (x ∷ xs) h = not_two xs (λ e. h (ap suc e))

pub lone_attribute : (a : Attributes) (xs : List code.Tree) → IsShort (seen xs) → (length xs ≡ 0 → ⊥) → None ≡ attributes_onto a (seen xs)
lone_attribute a [] s some = absurd (some refl)
lone_attribute a (x ∷ []) s some = refl
lone_attribute a (x ∷ y ∷ xs) s some = absurd s

-- so many levels are told by one numeral at most
pub no_levels : (xs : List code.Tree) → (length xs ≡ 0 → ⊥) → IsNotOne (seen xs) → None ≡ level_count (seen xs)
no_levels [] some h = absurd (some refl)
no_levels (x ∷ []) some h = absurd h
no_levels (x ∷ y ∷ xs) some h = refl

-- an info has one value at most
pub no_info : (key : List ℕ) (xs : List code.Tree) → (length xs ≡ 0 → ⊥) → IsNotOne (seen xs) → None ≡ info_of key (seen xs)
no_info key [] some h = absurd (some refl)
no_info key (x ∷ []) some h = absurd h
no_info key (x ∷ y ∷ xs) some h = refl

pub some_listed : (xs : List code.Tree) → (length xs ≡ 0 → ⊥) → each question_of (seen xs) ≡ some_questions (seen xs)
some_listed [] some = absurd (some refl)
some_listed (x ∷ xs) some = refl

pub none_left : {A : Type 0} (made : A) (xs : List code.Tree) → (length xs ≡ 0 → ⊥) → None ≡ none made (seen xs)
none_left made [] some = absurd (some refl)
none_left made (x ∷ xs) some = refl
