use Rattle.std.proofs.Common.{Some, refl, sym, ap, ◌∙◌, subst}
use Rattle.nz_script.specs.live.Live.{Reason, undecided}
use Rattle.nz_search.specs.Notes.{AreNotedWithin}
use Rattle.nz_reply.specs.Reasons.{reason_of}
use Rattle.nz_reply.specs.Replies.{cause_of}
use Rattle.nz_session.proofs.RightAnswers.{checked_answer}
use Rattle.nz_session.proofs.LegalWork.{right_undecided}
use Rattle.nz_session.proofs.desk.Desk.undecided.Goals as goal

pub returns-clause-right : goal.returns-clause-right
returns-clause-right g c x t lits ls h e are u =
    let desk = c.args.self.now in
    let right =
    right_undecided c.more_terms_end_legally.ensures.ends c.renumbered_work_is_legal.ensures.legal c.negations_have_no_rows.ensures.none c.places_tell_apart.ensures.apart
    c.listings_may_renumber.ensures.may c.term_has_its_number.ensures.number c.term_of_node.ensures.node desk.terms c.known_table.ensures.table desk.live x h.live lits ls are desk.limit h.bounded desk.work (record { limit = desk.limit; work = c.take.result })
    c.take.ensures.lines refl c.args.place (reason_of c.in-Ok.shown) (cause_of desk.terms c.in-Ok-cause_of.cause) u (c.in-Ok.ensures.shown) (c.in-Ok-cause_of.ensures.cause desk.terms) in
    checked_answer g.E.Decide.levels g.E.Decide.table g.E.Decide.begins x t ls _ _ desk.last
    (record { live = h.live; sorted = h.sorted; told = h.told; front = h.front; last = h.last; bound = h.bound; values = h.values; success = h.success; bounded = h.bounded; begun = h.begun }) refl e
    (ap (λ (r : Reason). Some (undecided r)) (c.in-Ok.ensures.kept ∙ sym c.in-Ok.ensures.shown)) right
    (c.in-Ok-cause_of.ensures.within desk.terms (subst (AreNotedWithin desk.terms) (sym c.take.ensures.lines) u.noted) u.sited) tt
