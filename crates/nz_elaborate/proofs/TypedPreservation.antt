-- Lemmas of a table that grows: what stood for a term stands for it still.
use Rattle.std.proofs.Common.{[], List, ◌∷◌, ◌∙◌, arith}
use Rattle.nz_spec.specs.terms.Term.{Term, Terms, no_terms, terms}
use Rattle.nz_spec.specs.terms.Table.{Node}
use Rattle.nz_elaborate.specs.declared.typed.Typed.{Typed}
use Rattle.nz_elaborate.specs.Typed.{Grows, IsTyped, AreTyped}
use Rattle.nz_elaborate.proofs.TableGrowth.{longer, term_kept}

pub typed_kept : (old new : List Node) → Grows old new → (x : Typed) (t : Term) → IsTyped old x t → IsTyped new x t
typed_kept old new g x t p =
    record { within = omega (arith, p.within, longer old new g); normal = term_kept old new g x.id p.within ∙ p.normal; sort = p.sort }

pub all_typed_kept : (old new : List Node) → Grows old new → (xs : List Typed) (ts : Terms) → AreTyped old xs ts → AreTyped new xs ts
all_typed_kept old new g [] no_terms a = tt
all_typed_kept old new g [] (terms t ts) a = absurd a
all_typed_kept old new g (x ∷ xs) no_terms a = absurd a
all_typed_kept old new g (x ∷ xs) (terms t ts) a = (typed_kept old new g x t a.0, all_typed_kept old new g xs ts a.1)
