use Rattle.std.proofs.Common.{List, [], ◌∷◌, subst, sym}
use Rattle.nz_lists.proofs.Members.{has_first, has_more}
use Rattle.nz_log.specs.declared.multiples.LitMultiple.{LitMultiple}
use Rattle.nz_search.specs.declared.stop.Stop.{Stop}
use Rattle.nz_search.specs.Places.{OnWide}
use Rattle.nz_reals.specs.Tells.{AreOf, IsSumPlace, Refutes}
use Rattle.nz_reals.proofs.ExclusionClauses.{adds_refuted}
use Rattle.nz_reals.proofs.BoundClashes.{opposed_refute}
use Rattle.nz_reals.proofs.reals.Reals.exclusion.Goals as goal

pub refute-requires-clause-refutes : goal.refute-requires-clause-refutes
refute-requires-clause-refutes c =
    subst (Refutes c.args.self.now) (sym c.both_once.ensures.both)
    (opposed_refute c.args.self.now c.args.log.now.atoms c.requires.of.0 c.requires.of.1 c.literals_say_bounds.ensures.say c.sums_stay.ensures.stay c.term_has_its_number.ensures.number
    c.tells_literals.ensures.tells c.clashes_contradict.ensures.contradict c.args.literal c.args.other (c.are_opposed.ensures.apart c.if-not-are_opposed.false))

pub returns-in-Ok-clause-clash : goal.returns-in-Ok-clause-clash
returns-in-Ok-clause-clash c =
    let ls = c.args.literal ∷ c.args.other ∷ [] in
    c.in-Ok.ensures.clash ls (subst (AreOf ls) (sym c.both_once.ensures.both) (has_first c.args.literal (c.args.other ∷ []), (has_more c.args.literal c.args.other (c.args.other ∷ []) (has_first c.args.other []), tt)))

pub returns-in-Ok-clause-adds : goal.returns-in-Ok-clause-adds
returns-in-Ok-clause-adds c = λ ids on other_on.
    adds_refuted ids c.args.literal c.args.other on other_on c.args.log.now c.refute.new.log c.both_once.result c.both_once.ensures.both c.refute.ensures.keeps c.refute.ensures.grows c.refute.ensures.sound

pub returns-in-Err-Memory-clause-adds : goal.returns-in-Err-Memory-clause-adds
returns-in-Err-Memory-clause-adds c = λ ids on other_on.
    adds_refuted ids c.args.literal c.args.other on other_on c.args.log.now c.refute.new.log c.both_once.result c.both_once.ensures.both c.refute.ensures.keeps c.refute.ensures.grows c.refute.ensures.sound

pub returns-in-Err-Wide-clause-none : goal.returns-in-Err-Wide-clause-none
returns-in-Err-Wide-clause-none c = λ is opposed.
    let t = c.args.self.now in
    let place = c.in-Err-Wide.field-0-0 in
    record {
      place = place;
      leaves = λ ns over.
          subst (λ (ms : List LitMultiple). IsSumPlace ns t ms place) c.both_once.ensures.both
          (subst (λ (e : Stop). OnWide e (IsSumPlace ns t c.both_once.result)) c.in-Err-Wide.field-0-is (c.in-Err-Wide.ensures.place ns over));
    }

pub returns-in-Err-Wide-clause-adds : goal.returns-in-Err-Wide-clause-adds
returns-in-Err-Wide-clause-adds c = λ ids on other_on.
    adds_refuted ids c.args.literal c.args.other on other_on c.args.log.now c.refute.new.log c.both_once.result c.both_once.ensures.both c.refute.ensures.keeps c.refute.ensures.grows c.refute.ensures.sound
