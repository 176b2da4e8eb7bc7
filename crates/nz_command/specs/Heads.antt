-- What a list begins with that may be a term.
use Rattle.nz_script.specs.commands.Parse as parse
use Rattle.nz_command.specs.declared.terms.TermHead.{TermHead}
use Rattle.nz_command.specs.declared.terms.TermHead.TheVariants as heads

abbrev pub head_view : TermHead → parse.TermHead
head_view heads.Let = parse.let_head
head_view (heads.Name name) = parse.name_head name.now
head_view heads.Other = parse.no_head
