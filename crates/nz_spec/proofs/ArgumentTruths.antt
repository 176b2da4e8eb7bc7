-- What `and` and `or` come to where each of the arguments, or one of them, has a truth.
use Rattle.std.proofs.Common.{◌≡◌, ◌⊎◌, inl, inr, Bool, true, false, ◌&&◌, ◌||◌, refl, ap, ◌∙◌}
use Rattle.std.specs.Prelude.{⊤}
use Rattle.std.specs.List.{list_all, list_any}
use Rattle.std.proofs.Math.Bool.{and-false, or-true}
use Rattle.nz_spec.specs.terms.Term.{Terms, no_terms, terms, truth, Assignment, is_true, all_true, some_true, value_of, values_of}

pub alone : (P : Type 0) → P ⊎ ⊥ → P
alone P (inl p) = p
alone P (inr e) = absurd e

module _ (a : Assignment) where
  -- each has this truth, or one of them has
  abbrev pub EachIs : Bool → Terms → Type 0
  EachIs sign no_terms = ⊤
  EachIs sign (terms t ts) = (value_of a t ≡ truth sign) × EachIs sign ts

  abbrev pub OneIs : Bool → Terms → Type 0
  OneIs sign no_terms = ⊥
  OneIs sign (terms t ts) = (value_of a t ≡ truth sign) ⊎ OneIs sign ts

  all_pass : (ts : Terms) → EachIs true ts → list_all is_true (values_of a ts) ≡ true
  all_pass no_terms h = refl
  all_pass (terms t ts) h = rw (h.0, all_pass ts h.1) refl

  some_fail : (ts : Terms) → OneIs false ts → list_all is_true (values_of a ts) ≡ false
  some_fail no_terms h = absurd h
  some_fail (terms t ts) (inl h) = rw h refl
  some_fail (terms t ts) (inr h) = ap (λ b. is_true (value_of a t) && b) (some_fail ts h) ∙ and-false (is_true (value_of a t))

  none_pass : (ts : Terms) → EachIs false ts → list_any is_true (values_of a ts) ≡ false
  none_pass no_terms h = refl
  none_pass (terms t ts) h = rw (h.0, none_pass ts h.1) refl

  some_pass : (ts : Terms) → OneIs true ts → list_any is_true (values_of a ts) ≡ true
  some_pass no_terms h = absurd h
  some_pass (terms t ts) (inl h) = rw h refl
  some_pass (terms t ts) (inr h) = ap (λ b. is_true (value_of a t) || b) (some_pass ts h) ∙ or-true (is_true (value_of a t))

  pub all_is : (ts : Terms) → EachIs true ts → all_true (values_of a ts) ≡ truth true
  all_is no_terms h = refl
  all_is (terms t no_terms) h = h.0
  all_is (terms t (terms u ts)) h = ap truth (all_pass (terms t (terms u ts)) h)

  pub all_fails : (ts : Terms) → OneIs false ts → all_true (values_of a ts) ≡ truth false
  all_fails no_terms h = absurd h
  all_fails (terms t no_terms) h = alone (value_of a t ≡ truth false) h
  all_fails (terms t (terms u ts)) h = ap truth (some_fail (terms t (terms u ts)) h)

  pub some_fails : (ts : Terms) → EachIs false ts → some_true (values_of a ts) ≡ truth false
  some_fails no_terms h = refl
  some_fails (terms t no_terms) h = h.0
  some_fails (terms t (terms u ts)) h = ap truth (none_pass (terms t (terms u ts)) h)

  pub some_is : (ts : Terms) → OneIs true ts → some_true (values_of a ts) ≡ truth true
  some_is no_terms h = absurd h
  some_is (terms t no_terms) h = alone (value_of a t ≡ truth true) h
  some_is (terms t (terms u ts)) h = ap truth (some_pass (terms t (terms u ts)) h)
