-- The trees of a list are smaller than the list.
use Rattle.std.proofs.Common.{◌≡◌, ℕ, ◌<◌, zero, suc, List, [], ◌∷◌, ◌++◌, length, map, take, drop, get_or, ap, arith}
use Rattle.nz_script.specs.text.Tree.{Tree}
use Rattle.nz_script.specs.text.Reading.{trees_from}
use Rattle.nz_sexpr.specs.Sizes.{tree_size, trees_size}

-- a list of trees round one of its items
pub map_round : {X : Type 0} (f : X → Tree) (xs : List X) (i : ℕ) (x : X) → i < length xs → x ≡ get_or xs i x
    → map f (take i xs) ++ f x ∷ map f (drop (suc i) xs) ≡ map f xs
map_round f [] i x below is = absurd (omega (arith, below))
map_round f (y ∷ ys) zero x below is = ap (λ z. f z ∷ map f ys) is
map_round f (y ∷ ys) (suc i) x below is = ap (λ l. f y ∷ l) (map_round f ys i x (omega (arith, below)) is)

tree_smaller : (before : List Tree) (t : Tree) (more : List Tree) → tree_size t < trees_size (trees_from (before ++ t ∷ more))
tree_smaller [] t more = omega arith
tree_smaller (u ∷ us) t more = omega (arith, tree_smaller us t more)

pub item_smaller : {X : Type 0} (f : X → Tree) (xs : List X) (i : ℕ) (x : X) → i < length xs → x ≡ get_or xs i x → tree_size (f x) < trees_size (trees_from (map f xs))
item_smaller f xs i x below is =
    omega (arith, tree_smaller (map f (take i xs)) (f x) (map f (drop (suc i) xs)), ap (λ l. trees_size (trees_from l)) (map_round f xs i x below is))
