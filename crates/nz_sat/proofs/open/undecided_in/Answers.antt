-- What is said of the clause's literals is said of the clause.
use Rattle.std.proofs.Common.{◌≡◌, None, rules, sym, subst}
use Rattle.nz_sat.specs.Clauses.{HasTrue, IsOpen}
use Rattle.nz_sat.proofs.open.undecided_in.Goals as goal

pub returns-in_err-literal-clause-none : goal.returns-in_err-literal-clause-none
returns-in_err-literal-clause-none c none needed is_open =
    let es = c.args.trail.now.entries in
    let missing : c.undecided.result ≡ None = search rules in
    subst (HasTrue es) c.clause.ensures.literals (c.undecided.ensures.none missing (subst (IsOpen es) (sym c.clause.ensures.literals) is_open))
