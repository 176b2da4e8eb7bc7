-- The argument of a command.
use Rattle.std.proofs.Common.{◌≡◌, List, [], ◌∷◌, length, None, refl}
use Rattle.nz_sexpr.specs.declared.tree.Tree as code
use Rattle.nz_script.specs.commands.Argument.{argument_in}
use Rattle.nz_sexpr.specs.View.{seen}

-- a list of another length than two has none
pub no_argument : (ts : List code.Tree) → (length ts ≡ 2 → ⊥) → argument_in (seen ts) ≡ None
no_argument [] h = refl
no_argument (t ∷ []) h = refl
no_argument (t ∷ u ∷ []) h = absurd (h refl)
no_argument (t ∷ u ∷ v ∷ vs) h = refl
