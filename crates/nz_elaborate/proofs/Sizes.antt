-- The parts of a term that is written are smaller than the term.
use Rattle.std.proofs.Common.{[], ◌≡◌, ℕ, zero, suc, ◌<◌, ◌+◌, List, ◌∷◌, length, map, get_or, ap, arith}
use Rattle.nz_script.specs.commands.Expression.{Expression, written_number, written_name, written_use, written_let, Expressions, no_expressions, expressions, Locals, no_locals, locals}
use Rattle.nz_command.specs.View.{expressions_from, locals_from}

abbrev mutual
  pub expression_size : Expression → ℕ
  expression_size (written_number n) = 1
  expression_size (written_name name) = 1
  expression_size (written_use name es) = suc (suc (expressions_size es))
  expression_size (written_let ls e) = suc (suc (locals_size ls + expression_size e))

  pub expressions_size : Expressions → ℕ
  expressions_size no_expressions = 0
  expressions_size (expressions e es) = suc (expression_size e + expressions_size es)

  pub locals_size : Locals → ℕ
  locals_size no_locals = 0
  locals_size (locals name e ls) = suc (expression_size e + locals_size ls)

pub item_smaller : {X : Type 0} (f : X → Expression) (xs : List X) (i : ℕ) (x : X) → i < length xs → x ≡ get_or xs i x → expression_size (f x) < expressions_size (expressions_from (map f xs))
item_smaller f [] i x below is = absurd (omega (arith, below))
item_smaller f (y ∷ ys) zero x below is = omega (arith, ap (λ z. expression_size (f z)) is)
item_smaller f (y ∷ ys) (suc i) x below is = omega (arith, item_smaller f ys i x (omega (arith, below)) is)

pub local_smaller : {X : Type 0} (f : X → List ℕ × Expression) (xs : List X) (i : ℕ) (x : X) (name : List ℕ) (e : Expression) → i < length xs → x ≡ get_or xs i x → f x ≡ (name, e)
    → expression_size e < locals_size (locals_from (map f xs))
local_smaller f [] i x name e below is shape = absurd (omega (arith, below))
local_smaller f (y ∷ ys) zero x name e below is shape =
    omega (arith, ap (λ z. expression_size (f z).1) is, ap (λ (p : List ℕ × Expression). expression_size p.1) shape)
local_smaller f (y ∷ ys) (suc i) x name e below is shape = omega (arith, local_smaller f ys i x name e (omega (arith, below)) is shape)
