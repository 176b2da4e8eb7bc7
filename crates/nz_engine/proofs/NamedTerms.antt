-- Lists of two parts, and what literals name.
use Rattle.std.proofs.Common.{ℕ, List, [], ◌∷◌, ◌++◌}
use Rattle.std.specs.Prelude.{All}
use Rattle.std.specs.List.{AllByRecursion}
use Rattle.std.proofs.lemmas.List.Elements.{All-from_recursion, recursion_from_All}
use Rattle.nz_lists.proofs.Elements.{AllByRecursion-map}
use Rattle.nz_term.specs.declared.term_lits.TermLit.{TermLit}
use Rattle.nz_engine.specs.Checking.{terms_named}

-- ---- The first and the others

-- both, where what holds is told by recursion
pub each_of : {X : Type 0} (P : X → Type 0) (xs ys : List X) → AllByRecursion P (xs ++ ys) → AllByRecursion P xs × AllByRecursion P ys
each_of P [] ys h = (tt, h)
each_of P (x ∷ xs) ys h = let rest = each_of P xs ys h.1 in ((h.0, rest.0), rest.1)

-- what holds of the terms that literals name holds of those of the literals
pub all_named : (P : ℕ → Type 0) (ls : List TermLit) → All P (terms_named ls) → All (λ (l : TermLit). P l.term) ls
all_named P ls h = All-from_recursion (λ (l : TermLit). P l.term) ls (AllByRecursion-map P (λ (l : TermLit). l.term) ls (recursion_from_All P (terms_named ls) h))
