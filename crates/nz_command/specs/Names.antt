-- The arguments of the commands of the code.
use Rattle.std.specs.Prelude.{[], Option, option_map}
use Rattle.nz_script.specs.text.Tree.{Trees}
use Rattle.nz_script.specs.commands.Request.{least, greatest, Request, declares, asserts, seeks, checks, checks_assuming, pushes, pops, resets, resets_assertions, shows_model, shows_values, shows_objectives, shows_info, sets_option, sets_nothing, echoes, exits}
use Rattle.nz_script.specs.commands.Parse.{name_of, keyword_of, expression_of, none, one, first, within, each, written_sort, assumption_of, some_questions, literal_of, level_count, wish_of, setting_of, info_key, info_of, function_of, written_definition}
use Rattle.nz_command.specs.declared.grammar.CommandName.{CommandName}
use Rattle.nz_command.specs.declared.grammar.CommandName.TheVariants as names

abbrev pub arguments_of : CommandName → Trees → Option Request
arguments_of names.Assert = one expression_of asserts
arguments_of names.AssertSoft = first expression_of wish_of
arguments_of names.CheckSat = none checks
arguments_of names.CheckSatAssuming = one (within (each assumption_of)) checks_assuming
arguments_of names.DeclareConst = first name_of (λ name. one written_sort (declares name []))
arguments_of names.DeclareFun = first name_of function_of
arguments_of names.DefineFun = first name_of written_definition
arguments_of names.Echo = one literal_of echoes
arguments_of names.Exit = none exits
arguments_of names.GetInfo = one keyword_of (λ name. shows_info (info_key name))
arguments_of names.GetModel = none shows_model
arguments_of names.GetObjectives = none shows_objectives
arguments_of names.GetValue = one (within some_questions) shows_values
arguments_of names.Maximize = one expression_of (seeks greatest)
arguments_of names.Minimize = one expression_of (seeks least)
arguments_of names.Pop = λ ts. option_map pops (level_count ts)
arguments_of names.Push = λ ts. option_map pushes (level_count ts)
arguments_of names.Reset = none resets
arguments_of names.ResetAssertions = none resets_assertions
arguments_of names.SetInfo = first keyword_of info_of
arguments_of names.SetLogic = one name_of (λ name. sets_nothing)
arguments_of names.SetOption = first keyword_of (λ name. one (setting_of name) sets_option)
