-- The law, as it is proved over plain data.
use Rattle.nz_log.proofs.Truths as laws
use Rattle.nz_log.proofs.laws.clauses_are_true.Goals as goal

pub returns : goal.returns
returns c =
    let resolvents = c.resolvent_is_true.ensures in
    record {
      clauses = laws.clauses_are_true c.derived_clauses_are_true.ensures.clauses c.gates_are_true.ensures.gates resolvents.together resolvents.resolvent c.tells_literals.ensures.tells
          c.one_number.ensures.one;
    }
