use Rattle.std.proofs.Common.{◌≡◌, IfOk, option_map, sym, subst}
use Rattle.nz_script.specs.commands.Parse.{written_definition}
use Rattle.nz_command.specs.Requests.{request}
use Rattle.nz_command.proofs.grammar.definition.Goals as goal

pub returns-in-Some : goal.returns-in-Some
returns-in-Some c = record { parsed = subst (λ m. IfOk c.written_definition.result (λ r. option_map request r ≡ m)) (sym (c.in-Some.ensures.name written_definition)) c.written_definition.ensures.parsed }
