-- The form of a group of wishes is renumbered.
use Rattle.std.proofs.Common.{List, [], ◌∷◌, Contains, pos}
use Rattle.std.specs.List.{AllByRecursion}
use Rattle.nz_fractions.specs.Fraction.{whole, Sum, Product}
use Rattle.nz_spec.specs.numbers.Computation.{operated}
use Rattle.nz_spec.specs.terms.Term.{Term}
use Rattle.nz_spec.specs.terms.Form.{Numbering, Form, constant_form, unit_form, joined}
use Rattle.nz_spec.specs.clauses.Wishes.{Wish, cost_of, weighted_cost, wish_joined, wishes_joined}
use Rattle.nz_spec.specs.laws.Renumbering.{GoTogether, MayRenumber, FormsRenumber, GroupsRenumber}
use Rattle.nz_spec.proofs.RenumberedTerms.{once_together, then_together, constant_renumbers, unit_renumbers, joined_renumbers, scaled_renumbers}

module _ (m n : Numbering) (us : List Term) (may : MayRenumber m n us) where
  abbrev Forms : Form → Form → Type 0
  Forms f g = FormsRenumber m n us f g

  wish_renumbers : (f g : Form) (w : Wish) → Forms f g → Contains us (cost_of w) → GoTogether Forms (wish_joined m f w) (wish_joined n g w)
  wish_renumbers f g w h has =
      then_together Forms Forms (λ x. joined m Sum f x) (λ y. joined n Sum g y) (weighted_cost w) (weighted_cost w)
      (scaled_renumbers m n us may (λ c. operated Product w.weight c) (unit_form (cost_of w)) (unit_form (cost_of w)) (unit_renumbers m n us may (cost_of w) has))
      (λ x y k. joined_renumbers m n us may Sum f x g y h k)

  wishes_renumber : (f g : Form) (ws : List Wish) → Forms f g → AllByRecursion (λ (w : Wish). Contains us (cost_of w)) ws
      → GoTogether Forms (wishes_joined m f ws) (wishes_joined n g ws)
  wishes_renumber f g [] h all = once_together Forms f g h
  wishes_renumber f g (w ∷ ws) h all =
      then_together Forms Forms (λ x. wishes_joined m x ws) (λ y. wishes_joined n y ws) (wish_joined m f w) (wish_joined n g w) (wish_renumbers f g w h all.0)
      (λ x y k. wishes_renumber x y ws k all.1)

pub groups_renumber : GroupsRenumber
groups_renumber m n us may ws all =
    wishes_renumber m n us may (constant_form (whole (pos 0))) (constant_form (whole (pos 0))) ws (constant_renumbers m n us may (whole (pos 0))) all
