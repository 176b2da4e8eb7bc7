-- The values of terms in a model, by the outcomes that the code computes, and as they are told.
use Rattle.std.specs.Prelude.{◌≡◌, ℕ, List, [], ◌∷◌, map}
use Rattle.nz_spec.specs.terms.Term.{Terms, no_terms, terms, Value, Assignment}
use Rattle.nz_spec.specs.terms.Table.{Node, assignment_by}
use Rattle.nz_script.specs.replies.Reply.{Shown, term_shown}
use Rattle.nz_reply.specs.Values.{shown_of}
use Rattle.nz_reply.specs.declared.reply.Shown.TheVariants as shows
use Rattle.nz_term.specs.declared.heads.Sort.{Sort}
use Rattle.nz_elaborate.specs.declared.typed.Typed.{Typed}
use Rattle.nz_elaborate.specs.Typed.{AreTyped}
use Rattle.nz_truth.specs.declared.walk.Outcome.{Outcome}
use Rattle.nz_truth.specs.declared.walk.Outcome.TheVariants as outcome

-- the numbers of terms
abbrev pub numbers_typed : List Typed → List ℕ
numbers_typed xs = map (λ (x : Typed). x.id) xs

-- what is told of the outcome of a term of a sort
abbrev pub outcome_shown : Sort → Outcome → Shown
outcome_shown sort (outcome.Value v) = shown_of (shows.Value sort v)
outcome_shown sort (outcome.Wide w) = shown_of (shows.Wide w)

-- so of terms, one for one
abbrev pub outcomes_shown : List Typed → List Outcome → List Shown
outcomes_shown (x ∷ xs) (o ∷ os) = outcome_shown x.sort o ∷ outcomes_shown xs os
outcomes_shown xs os = []

-- what is to be told of terms
abbrev pub terms_shown : Assignment → Terms → List Shown
terms_shown a no_terms = []
terms_shown a (terms t ts) = term_shown a t ∷ terms_shown a ts

-- This is what is to be told of the terms of these numbers, where the constants have the values that are listed with their numbers.
abbrev pub AreShown : List Node → List (ℕ × Value) → List Typed → List Shown → Type 0
AreShown ns ps xs shown = (ts : Terms) → AreTyped ns xs ts → shown ≡ terms_shown (assignment_by ns ps) ts
