-- The data that commands of the code stand for.
use Rattle.std.specs.Prelude.{ℕ, Bool, true, false, List, map, Option, Some, None, option_map}
use Rattle.std.specs.Borrow.{Bor}
use Rattle.nz_sexpr.specs.View as trees
use Rattle.nz_script.specs.commands.Request as spec
use Rattle.nz_command.specs.View.{number_view, view}
use Rattle.nz_command.specs.declared.command.Direction as direction
use Rattle.nz_command.specs.declared.command.Direction.TheVariants as directions
use Rattle.nz_command.specs.declared.command.WrittenSort as sort
use Rattle.nz_command.specs.declared.command.WrittenSort.TheVariants as sorts
use Rattle.nz_command.specs.declared.command.Parameter as parameter
use Rattle.nz_command.specs.declared.command.Assumption as assumption
use Rattle.nz_command.specs.declared.command.Attributes as attributes
use Rattle.nz_command.specs.declared.command.Question as question
use Rattle.nz_command.specs.declared.command.LevelCount as count
use Rattle.nz_command.specs.declared.command.LevelCount.TheVariants as counts
use Rattle.nz_command.specs.declared.command.Priority as priority
use Rattle.nz_command.specs.declared.command.Priority.TheVariants as priorities
use Rattle.nz_command.specs.declared.command.Setting as setting
use Rattle.nz_command.specs.declared.command.Setting.TheVariants as settings
use Rattle.nz_command.specs.declared.command.InfoKey as key
use Rattle.nz_command.specs.declared.command.InfoKey.TheVariants as keys
use Rattle.nz_command.specs.declared.command.Command as command
use Rattle.nz_command.specs.declared.command.Command.TheVariants as commands

-- an entry of a table of words
abbrev pub entry : {A : Type 0} → Bor (List ℕ) × A → List ℕ × A
entry e = (e.0.now, e.1)

abbrev pub direction_view : direction.Direction → spec.Direction
direction_view directions.Minimize = spec.least
direction_view directions.Maximize = spec.greatest

abbrev pub sort_view : sort.WrittenSort → spec.WrittenSort
sort_view (sorts.Named name) = spec.named_sort name.now
sort_view sorts.Listed = spec.listed_sort

abbrev pub parameter_view : parameter.Parameter → spec.Parameter
parameter_view p = record { name = p.name.now; sort = sort_view p.sort }

abbrev pub assumption_view : assumption.Assumption → spec.Assumption
assumption_view a = record { name = a.name.now; is_true = a.is_true }

abbrev pub attributes_view : attributes.Attributes → spec.Attributes
attributes_view a = record { weight = option_map number_view a.weight; group = option_map (λ name. name.now) a.group }

abbrev pub question_view : question.Question → spec.Question
question_view q = record { tree = trees.view q.tree.now; expression = view q.expression }

abbrev pub count_view : count.LevelCount → Option ℕ
count_view (counts.Within n) = Some n
count_view counts.OutOfBounds = None

abbrev pub priority_view : priority.Priority → spec.Priority
priority_view priorities.Lex = spec.lex_priority
priority_view priorities.Box = spec.box_priority
priority_view priorities.Pareto = spec.pareto_priority

abbrev pub setting_view : setting.Setting → spec.Setting
setting_view (settings.PrintSuccess b) = spec.success_setting b
setting_view (settings.ProduceModels b) = spec.models_setting b
setting_view (settings.Priority p) = spec.priority_setting (priority_view p)
setting_view settings.Other = spec.other_setting

abbrev pub key_view : key.InfoKey → spec.InfoKey
key_view keys.Name = spec.name_key
key_view keys.Version = spec.version_key
key_view keys.Authors = spec.authors_key
key_view keys.ErrorBehavior = spec.behavior_key
key_view keys.AssertionStackLevels = spec.levels_key
key_view keys.ReasonUnknown = spec.reason_key
key_view keys.Other = spec.other_key

-- what a command asks
abbrev pub request : command.Command → spec.Request
request (commands.Declare name arguments sort) = spec.declares name.now (map sort_view arguments.items) (sort_view sort)
request (commands.Define name parameters sort body) = spec.defines name.now (map parameter_view parameters.items) (sort_view sort) (view body)
request (commands.Assert e) = spec.asserts (view e)
request (commands.AssertSoft e a) = spec.wishes (view e) (attributes_view a)
request (commands.Optimize d e) = spec.seeks (direction_view d) (view e)
request commands.CheckSat = spec.checks
request (commands.CheckSatAssuming assumptions) = spec.checks_assuming (map assumption_view assumptions.items)
request (commands.Push n) = spec.pushes (count_view n)
request (commands.Pop n) = spec.pops (count_view n)
request commands.Reset = spec.resets
request commands.ResetAssertions = spec.resets_assertions
request commands.GetModel = spec.shows_model
request (commands.GetValue qs) = spec.shows_values (map question_view qs.items)
request commands.GetObjectives = spec.shows_objectives
request (commands.GetInfo k) = spec.shows_info (key_view k)
request (commands.SetOption o) = spec.sets_option (setting_view o)
request commands.SetNothing = spec.sets_nothing
request (commands.Echo text) = spec.echoes text.now
request commands.Exit = spec.exits
request commands.Other = spec.other_request

-- Memory may be wanted where a tree is read as this, or as nothing, and carried out; for `pop`, `echo` and `exit` it isn't.
abbrev pub may_take_memory : Option spec.Request → Bool
may_take_memory (Some (spec.pops n)) = false
may_take_memory (Some (spec.echoes text)) = false
may_take_memory (Some spec.exits) = false
may_take_memory r = true
