-- At the beginning nothing was read, kept or told.
use Rattle.std.proofs.Common.{[], rules, subst, sym}
use Rattle.nz_session.specs.Serve.{IsGoing}
use Rattle.nz_session.proofs.session.Session.new.Goals as goal

pub returns-clause-serves : goal.returns-clause-serves
returns-clause-serves g c =
    let desk = c.in_ok-new.field-0 in
    let going : IsGoing g.E.Decide.levels g.E.Decide.table g.E.Decide.begins c.args.limit desk [] =
    record { right = search rules; goes_on = search rules; holds = c.in_ok-new.ensures.start; within = search rules } in
    let none = sym c.new-3.ensures.items in
    record {
      going = subst (IsGoing g.E.Decide.levels g.E.Decide.table g.E.Decide.begins c.args.limit desk) none going;
      read = search rules;
    }
