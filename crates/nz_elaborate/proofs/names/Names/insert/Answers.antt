use Rattle.std.proofs.Common.{[], ◌++◌, ◌∷◌, ◌∙◌, ap}
use Rattle.nz_script.specs.commands.Elaboration.{listed}
use Rattle.nz_elaborate.proofs.NameLookup.{insert_entry-listed}
use Rattle.nz_elaborate.proofs.names.Names.insert.Goals as goal

pub returns-clause-added : goal.returns-clause-added
returns-clause-added c =
    c.in_ok-insert.ensures.entries
    ∙ insert_entry-listed c.self.inside.entries.entries c.args.name c.args.named (ap (λ ps. listed ps c.args.name) c.self.view_is ∙ c.requires)
    ∙ ap (λ ps. ps ++ (c.args.name, c.args.named) ∷ []) c.self.view_is
