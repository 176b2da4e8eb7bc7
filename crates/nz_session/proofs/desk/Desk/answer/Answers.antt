use Rattle.nz_session.proofs.desk.Desk.answer.Goals as goal

pub returns-in-Tree-clause-right : goal.returns-in-Tree-clause-right
returns-in-Tree-clause-right g c x h = rw c.in-Tree.is (c.command.ensures.right x h)
