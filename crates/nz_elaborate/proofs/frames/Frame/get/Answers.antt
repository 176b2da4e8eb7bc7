use Rattle.std.proofs.Common.{◌∙◌, ap}
use Rattle.nz_script.specs.commands.Elaboration.{listed}
use Rattle.nz_elaborate.proofs.NameLookup.{lookup-frame}
use Rattle.nz_elaborate.proofs.frames.Frame.get.Goals as goal

pub returns : goal.returns
returns c =
    record {
      bound = c.copied.ensures ∙ c.get.ensures.value ∙ lookup-frame c.self.inside.entries.entries c.args.name.now ∙ ap (λ ps. listed ps c.args.name.now) c.self.view_is;
    }
