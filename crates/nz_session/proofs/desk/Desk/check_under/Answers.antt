use Rattle.std.proofs.Common.{ap, rules}
use Rattle.nz_script.specs.live.Live.{assertions_of}
use Rattle.nz_script.specs.replies.Right.{may_want_memory}
use Rattle.nz_term.specs.TermLits.{AreConsistent}
use Rattle.nz_session.specs.Assumed.{DenyEachOther}
use Rattle.nz_session.proofs.ActAnswers.{memory_answer}
use Rattle.nz_session.proofs.RightAnswers.{holds_asked}
use Rattle.nz_session.proofs.OppositeLiterals.{no_model_denied}
use Rattle.nz_session.proofs.desk.Desk.check_under.Goals as goal

pub check-requires : goal.check-requires
check-requires g c =
    let agree : AreConsistent c.args.assumed.now = search (rules, c.in-Ok-true.ensures.yes) in
    record { holds = c.requires.holds; taken = c.requires.taken; consistent = agree }

pub returns-in-Ok-false-clause-right : goal.returns-in-Ok-false-clause-right
returns-in-Ok-false-clause-right g c x t ls h e k =
    let ns = c.args.self.now.terms in
    let denied : DenyEachOther c.args.assumed.now = search (rules, c.in-Ok-false.ensures.no) in
    c.refuted.ensures.right x t ls (holds_asked g.E.Decide.levels g.E.Decide.table g.E.Decide.begins c.args.self.now x t h) e
    (no_model_denied c.normal_keeps_value.ensures.keeps ns (assertions_of x.state) c.args.assumed.now ls k denied)

pub returns-in-Err-clause-right : goal.returns-in-Err-clause-right
returns-in-Err-clause-right g c x t ls h e k =
    memory_answer g.E.Decide.levels g.E.Decide.table g.E.Decide.begins c.args.self.now x t c.said.result (holds_asked g.E.Decide.levels g.E.Decide.table g.E.Decide.begins c.args.self.now x t h)
    (ap may_want_memory e) c.said.ensures.said
