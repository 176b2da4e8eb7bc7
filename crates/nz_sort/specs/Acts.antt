-- What the acts of the code ask, and the errors by which it refuses.
use Rattle.std.specs.Prelude.{◌≡◌, Bool, true, false, List, Option, Some, None, Result, Ok, Err}
use Rattle.nz_spec.specs.terms.Table.{Node}
use Rattle.nz_script.specs.commands.Request.{Request}
use Rattle.nz_script.specs.live.Live.{State}
use Rattle.nz_script.specs.replies.Reply.{Reply}
use Rattle.nz_script.specs.replies.Right.{effect}
use Rattle.nz_script.specs.commands.Command as commands
use Rattle.nz_script.specs.commands.Command.{name_info, version_info, authors_info, error_behavior_info, Command, Outcome, accepted, refused, not_taken}
use Rattle.nz_spec.specs.outside.Error as spec
use Rattle.nz_base.specs.Errors.{error_of}
use Rattle.nz_base.specs.declared.reply_errors.Error.{Error}
use Rattle.nz_base.specs.declared.reply_errors.Error.TheVariants as code
use Rattle.nz_sort.specs.Live.{Ask, Asks, changed, popped, cleared, reset, check, show_model, show_values, show_reason, show_info, show_levels, print_success, nothing, echo, leave, unsupported}
use Rattle.nz_elaborate.specs.declared.faults.ElaborateError.{ElaborateError}
use Rattle.nz_elaborate.specs.declared.faults.ElaborateError.TheVariants as errors
use Rattle.nz_elaborate.specs.declared.names.Definition.{Definition}
use Rattle.nz_sort.specs.declared.acts.Act.{Act}
use Rattle.nz_sort.specs.declared.acts.Act.TheVariants.{Changed, Popped, Cleared, Reset, Check, ShowModel, ShowValues, ShowReason, ShowInfo, ShowLevels, PrintSuccess, Nothing, Echo, Leave, Unsupported}
use Rattle.nz_sort.specs.declared.acts.Info.{Info}
use Rattle.nz_sort.specs.declared.acts.Info.TheVariants.{Name, Version, Authors, ErrorBehavior}

abbrev pub info_meaning : Info → commands.Info
info_meaning Name = name_info
info_meaning Version = version_info
info_meaning Authors = authors_info
info_meaning ErrorBehavior = error_behavior_info

abbrev pub asked : Act → Ask
asked Changed = changed
asked Popped = popped
asked Cleared = cleared
asked Reset = reset
asked (Check v) = check v.items
asked ShowModel = show_model
asked (ShowValues v) = show_values v.items
asked ShowReason = show_reason
asked (ShowInfo i) = show_info (info_meaning i)
asked ShowLevels = show_levels
asked (PrintSuccess b) = print_success b
asked Nothing = nothing
asked Echo = echo
asked Leave = leave
asked Unsupported = unsupported

-- a check, or a change of the levels
abbrev pub is_plain : Ask → Bool
is_plain (check xs) = false
is_plain popped = false
is_plain ask = true

-- The command asks this, which is plain, and leaves the live items.
pub record AsksOnly (c : Command) (ask : Ask) : Type 0 where
  pub plain : is_plain ask ≡ true
  pub asks : (ns : List Node) (r : Request) → Asks ns ask r c
  pub keeps : (s : State) (reply : Reply) → (effect s c reply).levels ≡ s.levels
  pub counts : (s : State) (reply : Reply) → (effect s c reply).next ≡ s.next

-- an outcome that is the same in all states asks this
abbrev pub AsksBy : Outcome → Act → Type 0
AsksBy (accepted c) act = AsksOnly c (asked act)
AsksBy (refused e) act = ⊥
AsksBy not_taken act = asked act ≡ unsupported

-- the error of the rule that a command breaks; want of memory is no rule's
abbrev pub rule_of : Error → Option spec.Error
rule_of code.OutOfMemory = None
rule_of e = Some (error_of e)

-- that of a definition whose name is declared already: only an unknown symbol comes before
abbrev pub redeclared_by : Result Definition ElaborateError → Error
redeclared_by (Err errors.Unknown) = code.UnknownSymbol
redeclared_by (Err errors.Memory) = code.OutOfMemory
redeclared_by (Err errors.Clash) = code.AlreadyDeclared
redeclared_by (Err errors.Sort) = code.AlreadyDeclared
redeclared_by (Ok definition) = code.AlreadyDeclared
