-- A number that has a first value, and one that gets it.
use Rattle.std.proofs.Common.{sym, ◌∙◌}
use Rattle.nz_term.proofs.Listed.{kept_firsts, new_firsts}
use Rattle.nz_term.proofs.assign.add_first.Goals as goal

pub returns-then-contains_key-clause-grown : goal.returns-then-contains_key-clause-grown
returns-then-contains_key-clause-grown c = λ ps h. kept_firsts c.args.firsts.now c.args.id c.args.value.now (sym c.contains_key.ensures ∙ c.if-contains_key.true) ps h

pub returns-clause-grown : goal.returns-clause-grown
returns-clause-grown c =
    λ ps h. new_firsts c.args.firsts.now c.insert.new.self c.args.id c.args.value.now (sym c.contains_key.ensures ∙ c.if-contains_key.false) c.in_ok-insert.ensures.updates.0 ps h
