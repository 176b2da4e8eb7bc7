use Rattle.std.proofs.Common.{[], ◌≡◌, ◌++◌, ◌∷◌, None, map, option_copied, ◌∙◌, ap}
use Rattle.nz_script.specs.commands.Elaboration.{listed}
use Rattle.nz_elaborate.specs.Names.{bound_in, frame_entry}
use Rattle.nz_elaborate.proofs.NameLookup.{lookup-frame, insert_entry-frame, bound_there, bound_added, not_there}
use Rattle.nz_elaborate.proofs.frames.Frame.insert.Goals as goal

pub returns-then-is_some : goal.returns-then-is_some
returns-then-is_some c =
    let found : option_copied c.get.result ≡ listed c.args.self.now c.args.name.now =
    c.get.ensures.value ∙ lookup-frame c.self.inside.entries.entries c.args.name.now ∙ ap (λ ps. listed ps c.args.name.now) c.self.view_is in
    record { bound = bound_there c.get.result c.args.self.now c.args.name.now c.args.term found (cc) }

pub returns : goal.returns
returns c =
    let found : option_copied c.get.result ≡ listed c.args.self.now c.args.name.now =
    c.get.ensures.value ∙ lookup-frame c.self.inside.entries.entries c.args.name.now ∙ ap (λ ps. listed ps c.args.name.now) c.self.view_is in
    let none : listed c.args.self.now c.args.name.now ≡ None = not_there c.get.result c.args.self.now c.args.name.now found (cc) in
    record {
      bound = λ other.
          ap (λ ps. bound_in ps other)
          (ap (map frame_entry) c.in_ok-insert.ensures.entries
          ∙ insert_entry-frame c.self.inside.entries.entries c.args.name c.args.term (ap (λ ps. listed ps c.args.name.now) c.self.view_is ∙ none)
          ∙ ap (λ ps. ps ++ (c.args.name.now, c.args.term) ∷ []) c.self.view_is)
          ∙ bound_added c.args.self.now c.args.name.now c.args.term other;
    }
