use Rattle.std.proofs.Common.{◌≡◌, ◌++◌, List, length, drop}
use Rattle.nz_spec.specs.terms.Table.{Node}
use Rattle.nz_log.specs.Spelling.{chain_place, chain_steps, steps_of}
use Rattle.nz_log.proofs.steps.spell_chain.Given as goal

-- the steps so far, with those of the links that are left, are all
abbrev pub invariant-loop-link : goal.invariant-loop-link
invariant-loop-link l =
    record {
      steps : (ns : List Node) → steps_of ns l.steps.items ++ chain_steps ns l.log.atoms l.places (length l.steps.items) l.current (drop l.link-index l.links)
          ≡ steps_of ns l.fn.steps.items ++ chain_steps ns l.log.atoms l.places (length l.fn.steps.items) l.first l.links;
      place : chain_place (length l.steps.items) l.current (drop l.link-index l.links) ≡ chain_place (length l.fn.steps.items) l.first l.links;
    }
