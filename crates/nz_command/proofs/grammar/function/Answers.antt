use Rattle.std.proofs.Common.{◌≡◌, IfOk, option_map, sym, subst}
use Rattle.nz_script.specs.commands.Parse.{function_of}
use Rattle.nz_command.specs.Requests.{request}
use Rattle.nz_command.proofs.grammar.function.Goals as goal

pub returns-in-Some : goal.returns-in-Some
returns-in-Some c = record { parsed = subst (λ m. IfOk c.function_of.result (λ r. option_map request r ≡ m)) (sym (c.in-Some.ensures.name function_of)) c.function_of.ensures.parsed }
