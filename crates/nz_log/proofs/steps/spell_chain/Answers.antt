-- The step of one link more.
use Rattle.std.proofs.Common.{◌≡◌, List, ◌∷◌, [], ◌++◌, length, get_or, ◌∙◌, rules}
use Rattle.std.specs.Prelude.{slice_index}
use Rattle.nz_spec.specs.clauses.Steps.{resolve_step}
use Rattle.nz_spec.specs.terms.Table.{Node}
use Rattle.nz_log.specs.declared.origins.Link.{Link}
use Rattle.nz_log.specs.declared.steps.Step.TheVariants.{Resolve}
use Rattle.nz_log.specs.Atoms.{literal_in}
use Rattle.nz_log.specs.Spelling.{step_of}
use Rattle.nz_log.proofs.StepLists.{chain_pushed, place_pushed}
use Rattle.nz_log.proofs.steps.spell_chain.Goals as goal

pub loop-link-preserved : goal.loop-link-preserved
loop-link-preserved c =
    let atoms = c.args.log.now.atoms in
    let places = c.args.places.now in
    let ks = c.args.links.now in
    let i = c.loop-link.link-index in
    let d : Link = c.link-item.result in
    let steps = c.loop-link.steps.items in
    let r = Resolve c.loop-link.current (slice_index places d.clause) c.literal.result in
    let pushed : c.push.new.self.items ≡ steps ++ r ∷ [] = search rules in
    let read : d ≡ get_or ks i d = c.link-item.is in
    let here : c.len-next.result ≡ length steps = search rules in
    let says : (ns : List Node) → step_of ns r ≡ resolve_step c.loop-link.current (slice_index places d.clause) (literal_in ns atoms d.literal) = λ ns. search rules in
    record {
      steps = λ ns.
          chain_pushed steps c.push.new.self.items r c.len-next.result pushed here c.loop-link.current ks i d c.loop-link-test.true read atoms places says ns
          ∙ c.loop-link.invariant.steps ns;
      place = place_pushed steps c.push.new.self.items r c.len-next.result pushed here c.loop-link.current ks i d c.loop-link-test.true read ∙ c.loop-link.invariant.place;
    }
