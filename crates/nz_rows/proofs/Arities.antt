-- Terms over other numbers of arguments than the tables have them have no rows.
use Rattle.std.proofs.Common.{◌≡◌, ℕ, ◌≤◌, List, [], ◌∷◌, length, refl, ap, arith, ◌∙◌}
use Rattle.nz_spec.specs.terms.Form.{Numbering}
use Rattle.nz_spec.specs.terms.FormOf.{number_in}
use Rattle.nz_spec.specs.clauses.Gates.{list_of}
use Rattle.nz_spec.specs.clauses.Links.{links_over}
use Rattle.nz_spec.specs.terms.Table.{Node, term_in, terms_at}
use Rattle.nz_spec.specs.terms.Term.{Sort, bool_sort, Head, Term, Terms, apply, less, at_most, equality, is_int, choice, integer_quotient, modulus, magnitude, to_int}
use Rattle.nz_spec.specs.clauses.Units.{units_over}
use Rattle.nz_rows.specs.Rows.{link_rows, unit_rows}

module _ (ns : List Node) (ks : List ℕ) (h k : Head) (is : h ≡ k) where
  abbrev kids : Terms
  kids = terms_at (term_in ns) ks

  -- the head is this one
  pub no_links : ((t : Term) → links_over (number_in ns) t k (list_of kids) ≡ []) → link_rows ns (apply h kids) ≡ []
  no_links none = ap (λ x. links_over (number_in ns) (apply h kids) x (list_of kids)) is ∙ none (apply h kids)

  pub no_units : ((t : Term) → units_over (number_in ns) t k (list_of kids) ≡ []) → unit_rows ns (apply h kids) ≡ []
  no_units none = ap (λ x. units_over (number_in ns) (apply h kids) x (list_of kids)) is ∙ none (apply h kids)

module _ (number : Numbering) (f : ℕ → Term) (t : Term) where
  -- ---- Links

  pub links_of_many : (ks : List ℕ) → 3 ≤ length ks
      → (links_over number t less (list_of (terms_at f ks)) ≡ []) × (links_over number t at_most (list_of (terms_at f ks)) ≡ []) × (links_over number t equality (list_of (terms_at f ks)) ≡ [])
  links_of_many [] h = absurd (let many : 3 ≤ 0 = h in omega (arith, many))
  links_of_many (a ∷ []) h = absurd (omega arith)
  links_of_many (a ∷ b ∷ []) h = absurd (omega arith)
  links_of_many (a ∷ b ∷ c ∷ ks) h = (refl, refl, refl)

  pub links_of_two : (ks : List ℕ) → 2 ≤ length ks → links_over number t is_int (list_of (terms_at f ks)) ≡ []
  links_of_two [] h = absurd (omega arith)
  links_of_two (a ∷ []) h = absurd (omega arith)
  links_of_two (a ∷ b ∷ ks) h = refl

  -- ---- Units

  pub choice_of_three : (s : Sort) (ks : List ℕ) → (length ks ≡ 3 → ⊥) → units_over number t (choice s) (list_of (terms_at f ks)) ≡ []
  choice_of_three bool_sort ks h = refl
  choice_of_three s [] h = refl
  choice_of_three s (a ∷ []) h = refl
  choice_of_three s (a ∷ b ∷ []) h = refl
  choice_of_three s (a ∷ b ∷ c ∷ []) h = absurd (h refl)
  choice_of_three s (a ∷ b ∷ c ∷ d ∷ ks) h = refl

  pub units_of_two : (ks : List ℕ) → (length ks ≡ 2 → ⊥)
      → (units_over number t integer_quotient (list_of (terms_at f ks)) ≡ []) × (units_over number t modulus (list_of (terms_at f ks)) ≡ [])
  units_of_two [] h = (refl, refl)
  units_of_two (a ∷ []) h = (refl, refl)
  units_of_two (a ∷ b ∷ []) h = absurd (h refl)
  units_of_two (a ∷ b ∷ c ∷ ks) h = (refl, refl)

  pub units_of_one : (ks : List ℕ) → (length ks ≡ 1 → ⊥)
      → (units_over number t magnitude (list_of (terms_at f ks)) ≡ []) × (units_over number t to_int (list_of (terms_at f ks)) ≡ [])
  units_of_one [] h = (refl, refl)
  units_of_one (a ∷ []) h = absurd (h refl)
  units_of_one (a ∷ b ∷ ks) h = (refl, refl)
