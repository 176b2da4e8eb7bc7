use Rattle.std.proofs.Common.{List, ◌∷◌, [], ◌++◌, sym, ap, subst, ◌∙◌}
use Rattle.nz_lin.specs.declared.form.Part.{Part}
use Rattle.nz_lin.specs.Forms.{AreUnits}
use Rattle.nz_lin.proofs.Units.{one_unit}
use Rattle.nz_lin.proofs.form.Form.unit.Goals as goal

pub returns-clause-names : goal.returns-clause-names
returns-clause-names c ns named =
    let p : Part = record { unit = c.args.unit; sort = c.args.sort; coefficient = c.whole.result } in
    subst (AreUnits ns) (sym (c.in_ok-push.ensures.items ∙ ap (λ (l : List Part). l ++ p ∷ []) c.new-parts.ensures.items)) (one_unit ns p (named c.whole.result))
