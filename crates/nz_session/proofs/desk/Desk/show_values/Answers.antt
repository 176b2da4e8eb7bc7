use Rattle.std.proofs.Common.{◌≡◌, Some, rules}
use Rattle.nz_session.specs.declared.desk.LastAnswer.TheVariants.{Model}
use Rattle.nz_session.proofs.TermValues.{values_answer}
use Rattle.nz_session.proofs.desk.Desk.show_values.Goals as goal

pub returns-in-Ok : goal.returns-in-Ok
returns-in-Ok g c =
    let desk = c.args.self.now in
    let last : desk.last ≡ Some (Model c.in-Some-Model.model) = search rules in
    record {
      right = λ x t r k h parsed e q.
          values_answer g.E.Decide.levels g.E.Decide.table g.E.Decide.begins c.argument_tells.ensures.tells x t r k c.args.asked.now c.in-Ok.shows c.in-Some-Model.model c.said.result desk
          c.said.ensures.said h last parsed e q c.in-Ok.ensures.shown;
    }
