use Rattle.std.proofs.Common.{refl}
use Rattle.nz_reply.specs.declared.reply.Reply.TheVariants as code
use Rattle.nz_session.proofs.RightAnswers.{checked}
use Rattle.nz_session.proofs.desk.Desk.refuted.Goals as goal

pub returns-clause-right : goal.returns-clause-right
returns-clause-right g c x t ls h e none =
    checked g.E.Decide.levels g.E.Decide.table g.E.Decide.begins x t ls code.Unsat c.said.result _ c.args.self.now.last c.said.ensures.said h e refl (none, refl) tt
