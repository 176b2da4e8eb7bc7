use Rattle.std.proofs.Common.{◌∙◌, sym}
use Rattle.nz_script.specs.commands.Parse.{info_of}
use Rattle.nz_command.proofs.grammar.set_info.Goals as goal

pub returns : goal.returns
returns c = record { parsed = c.info_value.ensures.parsed c.in_ok-_key._key.now ∙ sym (c.in_ok-_key.ensures.key info_of) }
