-- An operation answers `Err` exactly where its test says Wide.
use Rattle.std.proofs.Common.{◌≡◌, Bool, true, false, IsTrue, IsFalse, refl, sym, ◌∙◌, true≢false}

pub not_wide : (wide : Bool) → IsFalse wide → (false ≡ true → IsTrue wide) × (IsTrue wide → false ≡ true)
not_wide wide h = (λ e. absurd (true≢false (sym e)), λ t. sym h ∙ t)

pub some_wide : (wide : Bool) → (IsFalse wide → ⊥) → (true ≡ true → IsTrue wide) × (IsTrue wide → true ≡ true)
some_wide true h = (λ e. refl, λ t. refl)
some_wide false h = absurd (h refl)
