use Rattle.std.proofs.Common.{◌≡◌, ◌∙◌, ap, option_copied}
use Rattle.nz_script.specs.commands.Elaboration.{listed}
use Rattle.nz_elaborate.proofs.NameLookup.{lookup-listed, found_listed, none_listed}
use Rattle.nz_elaborate.proofs.names.Names.get.Goals as goal

pub returns : goal.returns
returns c =
    let found : option_copied c.get.result ≡ listed c.args.self.now c.args.name.now =
    c.get.ensures.value ∙ lookup-listed c.self.inside.entries.entries c.args.name.now ∙ ap (λ ps. listed ps c.args.name.now) c.self.view_is in
    record { named = found_listed c.get.result c.args.self.now c.args.name.now found; none = none_listed c.get.result c.args.self.now c.args.name.now found }
