use Rattle.std.proofs.Common.{List, ◌∷◌, [], ◌++◌, sym, ap, subst, ◌∙◌}
use Rattle.nz_lin.specs.declared.form.Part.{Part}
use Rattle.nz_lin.specs.Forms.{AreUnits}
use Rattle.nz_lin.proofs.Units.{one_unit}
use Rattle.nz_lin.proofs.form.Form.times_unit.Goals as goal

pub returns-clause-units : goal.returns-clause-units
returns-clause-units c ns named =
    let p : Part = record { unit = c.args.unit; sort = c.args.sort; coefficient = c.args.factor } in
    subst (AreUnits ns) (sym (c.in_ok-push.ensures.items ∙ ap (λ (l : List Part). l ++ p ∷ []) c.new-parts.ensures.items)) (one_unit ns p named)
