-- The data that terms of the code stand for.
use Rattle.std.specs.Prelude.{ℕ, List, [], ◌∷◌, map, Option, Some, None}
use Rattle.nz_script.specs.commands.Expression as spec
use Rattle.nz_command.specs.declared.expression.Number.{Number}
use Rattle.nz_command.specs.declared.expression.Number.TheVariants as number
use Rattle.nz_command.specs.declared.expression.Expression.{Expression, fold-Expression}
use Rattle.nz_command.specs.declared.expression.Expression.TheOpen.{Expression-F, Local-F}
use Rattle.nz_command.specs.declared.expression.Local.{Local, fold-Local}

abbrev pub number_view : Number → Option spec.Numeric
number_view (number.Integer n) = Some (spec.written_integer n)
number_view (number.Decimal n places) = Some (spec.written_decimal n places)
number_view number.OutOfBounds = None

abbrev pub expressions_from : List spec.Expression → spec.Expressions
expressions_from [] = spec.no_expressions
expressions_from (e ∷ es) = spec.expressions e (expressions_from es)

abbrev pub locals_from : List (List ℕ × spec.Expression) → spec.Locals
locals_from [] = spec.no_locals
locals_from (p ∷ ps) = spec.locals p.0 p.1 (locals_from ps)

-- one level, with all inside already seen as its data
abbrev pub expression_step : Expression-F spec.Expression (List ℕ × spec.Expression) → spec.Expression
expression_step (Expression-F.Number n) = spec.written_number (number_view n)
expression_step (Expression-F.Name name) = spec.written_name name.now
expression_step (Expression-F.Use name es) = spec.written_use name.now (expressions_from es.items)
expression_step (Expression-F.Let ls e) = spec.written_let (locals_from ls.items) e.value

abbrev pub local_step : Local-F spec.Expression (List ℕ × spec.Expression) → List ℕ × spec.Expression
local_step l = (l.name.now, l.term)

abbrev pub view : Expression → spec.Expression
view = fold-Expression spec.Expression (List ℕ × spec.Expression) expression_step local_step

-- terms in a list
abbrev pub seen : List Expression → spec.Expressions
seen es = expressions_from (map view es)

abbrev pub local_view : Local → List ℕ × spec.Expression
local_view = fold-Local spec.Expression (List ℕ × spec.Expression) expression_step local_step

abbrev pub seen_locals : List Local → spec.Locals
seen_locals ls = locals_from (map local_view ls)
