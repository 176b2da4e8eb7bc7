-- An atom that is named anew.
use Rattle.std.proofs.Common.{◌∷◌, true≢false, [], sym, subst, ◌∙◌}
use Rattle.nz_engine.specs.Preparing.{Names}
use Rattle.nz_engine.proofs.NamedAtoms.{names_new}
use Rattle.nz_engine.proofs.prepared.atoms.name_atom.Goals as goal

pub returns-in_ok-push-clause-names : goal.returns-in_ok-push-clause-names
returns-in_ok-push-clause-names c =
    let old = c.args.atoms.now.items in
    subst (Names old (c.args.atom ∷ [])) (sym c.in_ok-push.ensures.items)
    (names_new old c.args.atom (λ has. true≢false (sym (c.requires.marked.all c.args.atom has) ∙ c.if-not-is_named-atom.true)))
