use Rattle.std.proofs.Common.{◌≡◌, Err, ap, rules}
use Rattle.nz_script.specs.replies.Right.{may_want_memory}
use Rattle.nz_search.specs.declared.stop.Stop.TheVariants.{Wide, Spent}
use Rattle.nz_session.proofs.LegalWork.{lits_true, literals_true, search_known}
use Rattle.nz_session.proofs.ActAnswers.{memory_answer}
use Rattle.nz_session.proofs.RightAnswers.{holds_searched}
use Rattle.nz_session.proofs.LiveModels.{no_live_model}
use Rattle.nz_session.proofs.CheckedTerms.{live_taken}
use Rattle.nz_session.proofs.desk.Desk.check.Goals as goal

pub decide-decided-requires : goal.decide-decided-requires
decide-decided-requires g c =
    let known = c.requires.holds in
    let h = known.1 in
    record {
      told = h.told;
      front = h.front;
      companions = h.live.companions;
      taken = live_taken c.normal_terms_are_taken.ensures.taken c.normal_stays_sorted.ensures.stays c.args.self.now.terms c.args.self.now.live known.0.state h.live h.sorted known.2;
      assumed_taken = c.requires.taken;
      consistent = c.requires.consistent;
    }

pub returns-in-Ok-Sat-clause-right : goal.returns-in-Ok-Sat-clause-right
returns-in-Ok-Sat-clause-right g c x t ls h e k =
    let sat = rw c.in-Ok-Sat.field-0-is at c.in-Ok-Sat.ensures.sat in
    let assumed = rw c.in-Ok-Sat.field-0-is at c.in-Ok-Sat.ensures.sat_assumed in
    c.found.ensures.right x t ls
    (holds_searched g.E.Decide.levels g.E.Decide.table g.E.Decide.begins c.args.self.now x t c.decide-decided.new.engine c.decide-decided.new.told c.decide-decided.new.work _ h
    c.decide-decided.ensures.told c.decide-decided.ensures.front (c.decide-decided.ensures.begins x.earlier h.begun)
    (search_known c.args.self.now.terms c.args.self.now.live x t c.args.assumed.now ls h.live k e))
    e sat (literals_true c.normal_keeps_value.ensures.keeps c.args.self.now.terms _ c.args.assumed.now ls k assumed)

pub returns-in-Ok-Unsat-clause-right : goal.returns-in-Ok-Unsat-clause-right
returns-in-Ok-Unsat-clause-right g c x t ls h e k =
    let ns = c.args.self.now.terms in
    let keeps = c.normal_keeps_value.ensures.keeps in
    let unsat = rw c.in-Ok-Unsat.field-0-is at c.in-Ok-Unsat.ensures.unsat in
    c.refuted.ensures.right x t ls
    (holds_searched g.E.Decide.levels g.E.Decide.table g.E.Decide.begins c.args.self.now x t c.decide-decided.new.engine c.decide-decided.new.told c.decide-decided.new.work _ h
    c.decide-decided.ensures.told c.decide-decided.ensures.front (c.decide-decided.ensures.begins x.earlier h.begun)
    (search_known c.args.self.now.terms c.args.self.now.live x t c.args.assumed.now ls h.live k e))
    e (no_live_model keeps ns c.args.self.now.live x.state c.args.assumed.now ls h.live (λ a holds. lits_true keeps ns a c.args.assumed.now ls k holds) unsat)

pub returns-in-Err-Spent-clause-right : goal.returns-in-Err-Spent-clause-right
returns-in-Err-Spent-clause-right g c x t ls h e k =
    let stop : c.decide-decided.result ≡ Err Spent = search rules in
    let ended = rw stop at (c.decide-decided.ensures.undecided x.earlier (h.begun x.earlier (λ u has. has))) in
    c.undecided.ensures.right x t c.args.assumed.now ls
    (holds_searched g.E.Decide.levels g.E.Decide.table g.E.Decide.begins c.args.self.now x t c.decide-decided.new.engine c.decide-decided.new.told c.decide-decided.new.work _ h
    c.decide-decided.ensures.told c.decide-decided.ensures.front (c.decide-decided.ensures.begins x.earlier h.begun)
    (search_known c.args.self.now.terms c.args.self.now.live x t c.args.assumed.now ls h.live k e))
    e k ended

pub returns-in-Err-Wide-clause-right : goal.returns-in-Err-Wide-clause-right
returns-in-Err-Wide-clause-right g c x t ls h e k =
    let stop : c.decide-decided.result ≡ Err (Wide c.in-Err-Wide.place) = search rules in
    let ended = rw stop at (c.decide-decided.ensures.undecided x.earlier (h.begun x.earlier (λ u has. has))) in
    c.undecided-in-Err-Wide.ensures.right x t c.args.assumed.now ls
    (holds_searched g.E.Decide.levels g.E.Decide.table g.E.Decide.begins c.args.self.now x t c.decide-decided.new.engine c.decide-decided.new.told c.decide-decided.new.work _ h
    c.decide-decided.ensures.told c.decide-decided.ensures.front (c.decide-decided.ensures.begins x.earlier h.begun)
    (search_known c.args.self.now.terms c.args.self.now.live x t c.args.assumed.now ls h.live k e))
    e k ended

pub returns-in-Err-Memory-clause-right : goal.returns-in-Err-Memory-clause-right
returns-in-Err-Memory-clause-right g c x t ls h e k =
    memory_answer g.E.Decide.levels g.E.Decide.table g.E.Decide.begins _ x t _
    (holds_searched g.E.Decide.levels g.E.Decide.table g.E.Decide.begins c.args.self.now x t c.decide-decided.new.engine c.decide-decided.new.told c.decide-decided.new.work _ h
    c.decide-decided.ensures.told c.decide-decided.ensures.front (c.decide-decided.ensures.begins x.earlier h.begun)
    (search_known c.args.self.now.terms c.args.self.now.live x t c.args.assumed.now ls h.live k e))
    (ap may_want_memory e) c.said.ensures.said
