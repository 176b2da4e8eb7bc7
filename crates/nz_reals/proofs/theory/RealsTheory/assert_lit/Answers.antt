use Rattle.std.proofs.Common.{rules, ◌≡◌, ◌++◌, ◌∷◌, [], List, Ok, Err, sym, ap, subst}
use Rattle.std.specs.Prelude.{Contains, IfErr, IfSome}
use Rattle.nz_spec.specs.simplex.LiteralBounds.{moved_by}
use Rattle.nz_log.specs.declared.lits.Lit.{Lit}
use Rattle.nz_log.specs.declared.multiples.LitMultiple.{LitMultiple}
use Rattle.nz_search.specs.declared.stop.Stop.{Stop}
use Rattle.nz_log.specs.Atoms.{literal_in}
use Rattle.nz_log.specs.Axioms.{AreMultiplesIn}
use Rattle.nz_log.specs.Leveled.{AreTold}
use Rattle.nz_search.specs.Places.{OnWide}
use Rattle.nz_search.specs.Theories.{IsPlaceOfStep}
use Rattle.nz_reals.specs.Stands.{IsOver}
use Rattle.nz_reals.specs.State.{Theory, told_lits}
use Rattle.nz_reals.specs.Tells.{AreKnown, AreOf, AreOnTwoSides, IsSumPlace, IsTold, Refutes, both, literals_of}
use Rattle.nz_reals.proofs.Contradictions.{some_known}
use Rattle.nz_reals.proofs.KnownAtoms.{is_known, of_kept}
use Rattle.nz_reals.proofs.WidePlaces.{both_in, both_of, both_told, clash_stops}
use Rattle.nz_reals.proofs.TheoryPositions.{told_at}
use Rattle.nz_reals.proofs.Tolds.{forms_same}
use Rattle.nz_reals.proofs.theory.RealsTheory.assert_lit.Goals as goal

pub tell-requires : goal.tell-requires
tell-requires c = record {
  known = is_known c.args.self.now c.args.log.now.atoms c.requires.known.0 c.args.literal.atom c.requires.bound.0 c.requires.known.1 c.requires.known.2 c.requires.bound.1;
}

pub refute-requires-clause-known : goal.refute-requires-clause-known
refute-requires-clause-known c =
    let l = c.args.literal in
    let same : c.tell.new.self ≡ c.args.self.now = search rules in
    let both_so = subst (λ o. IfSome o (λ (other : Lit). AreKnown c.args.self.now (both l other) × Refutes c.args.self.now (both l other))) c.in-Some.is (c.in_ok-tell.ensures.refutes c.args.log.now.atoms c.requires.known.0 c.requires.known.1) in
    subst (λ (t : Theory). AreKnown t c.both_once.result) (sym same) (subst (λ (ms : List LitMultiple). AreKnown c.args.self.now ms) (sym c.both_once.ensures.both) both_so.0)

pub refute-requires-clause-refutes : goal.refute-requires-clause-refutes
refute-requires-clause-refutes c =
    let l = c.args.literal in
    let same : c.tell.new.self ≡ c.args.self.now = search rules in
    let both_so = subst (λ o. IfSome o (λ (other : Lit). AreKnown c.args.self.now (both l other) × Refutes c.args.self.now (both l other))) c.in-Some.is (c.in_ok-tell.ensures.refutes c.args.log.now.atoms c.requires.known.0 c.requires.known.1) in
    subst (λ (t : Theory). Refutes t c.both_once.result) (sym same) (subst (λ (ms : List LitMultiple). Refutes c.args.self.now ms) (sym c.both_once.ensures.both) both_so.1)

pub returns-in_err-clause-in-Some-clause-place : goal.returns-in_err-clause-in-Some-clause-place
returns-in_err-clause-in-Some-clause-place c = λ ns fs ls x at.
    let t = c.args.self.now in
    let l = c.args.literal in
    let m = literal_in ns c.args.log.now.atoms l in
    let e = c.in_err-clause-in-Some.field-0.0 in
    let stop : c.from_residual-in_err-clause-in-Some.result ≡ Err e = search rules in
    let same : c.tell.new.self ≡ t = search rules in
    let has : Contains (told_lits t) c.in-Some.other = subst (λ o. IfSome o (Contains (told_lits t))) c.in-Some.is c.in_ok-tell.ensures.among in
    let k = some_known t l.atom (is_known t c.args.log.now.atoms c.requires.known.0 l.atom c.requires.bound.0 c.requires.known.1 c.requires.known.2 c.requires.bound.1) in
    let place : OnWide e (IsSumPlace ns t (both l c.in-Some.other)) =
    subst (λ (s : Theory). IsOver s ns → OnWide e (IsSumPlace ns s (both l c.in-Some.other))) same
    (subst (λ (ms : List LitMultiple). IsOver c.tell.new.self ns → OnWide e (IsSumPlace ns c.tell.new.self ms)) c.both_once.ensures.both (c.in_err-clause-in-Some.ensures.place ns)) at.over in
    let two : AreOnTwoSides t l c.in-Some.other = subst (λ o. IfSome o (AreOnTwoSides t l)) c.in-Some.is c.in_ok-tell.ensures.sides in
    subst (λ r. IfErr r (λ (y : Stop). OnWide y (IsPlaceOfStep ns fs (ls ++ m ∷ []) (moved_by fs m x)))) (sym stop)
    (clash_stops t c.args.log.now.atoms c.requires.known.0 ns fs ls x l c.in-Some.other k.0 e c.one_number.ensures.one c.tells_literals.ensures.tells c.requires.known.1 at c.stored.ensures.forms c.stored.ensures.sound
    c.stored.ensures.tolds k.1 has two place)

pub returns-in_err-clause-in-Some-clause-grows : goal.returns-in_err-clause-in-Some-clause-grows
returns-in_err-clause-in-Some-clause-grows c = λ ls told are.
    let has : Contains (told_lits c.args.self.now) c.in-Some.other = subst (λ o. IfSome o (Contains (told_lits c.args.self.now))) c.in-Some.is c.in_ok-tell.ensures.among in
    c.in_err-clause-in-Some.ensures.grows (subst (λ (ms : List LitMultiple). AreTold c.args.log.now (literals_of ms)) (sym c.both_once.ensures.both)
    (both_told c.args.log.now ls c.args.literal c.in-Some.other (subst (λ (ks : List Lit). Contains ks c.in-Some.other) told has) are))

pub returns-in_err-clause-in-Some-clause-sound : goal.returns-in_err-clause-in-Some-clause-sound
returns-in_err-clause-in-Some-clause-sound c = λ ls ns levels told over within is.
    let has : Contains (told_lits c.args.self.now) c.in-Some.other = subst (λ o. IfSome o (Contains (told_lits c.args.self.now))) c.in-Some.is c.in_ok-tell.ensures.among in
    c.in_err-clause-in-Some.ensures.sound ns levels (subst (λ (ms : List LitMultiple). AreMultiplesIn ns c.args.log.now.atoms ms) (sym c.both_once.ensures.both)
    (both_in ns c.args.log.now.atoms ls c.args.literal c.in-Some.other (subst (λ (ks : List Lit). Contains ks c.in-Some.other) told has) within)) is

pub returns-in-None-clause-of : goal.returns-in-None-clause-of
returns-in-None-clause-of c = λ atoms ids of.
    let told : IsTold c.args.self.now c.tell.new.self c.args.literal = c.in_ok-tell.ensures.told (ap Ok c.in-None.is) in
    of_kept c.args.self.now c.tell.new.self atoms ids told.same (forms_same c.args.self.now c.tell.new.self c.args.literal c.stored.ensures.tolds told) of

pub returns-in-None-clause-at : goal.returns-in-None-clause-at
returns-in-None-clause-at c = λ ns fs ls x at.
    let told : IsTold c.args.self.now c.tell.new.self c.args.literal = c.in_ok-tell.ensures.told (ap Ok c.in-None.is) in
    told_at c.args.self.now c.tell.new.self c.args.literal told c.args.log.now.atoms c.requires.known.0 c.requires.known.1 c.stored.ensures.forms c.stored.ensures.tolds c.stored.ensures.sound
    c.telling_sets_bounds.ensures.sets c.infinitesimals_are_ordered.ensures.ordered c.one_number.ensures.one c.tells_literals.ensures.tells ns fs ls x at

pub returns-in_ok-clause-in-Some-clause-clash : goal.returns-in_ok-clause-in-Some-clause-clash
returns-in_ok-clause-in-Some-clause-clash c = λ ls told.
    let has : Contains (told_lits c.args.self.now) c.in-Some.other = subst (λ o. IfSome o (Contains (told_lits c.args.self.now))) c.in-Some.is c.in_ok-tell.ensures.among in
    c.in_ok-clause-in-Some.ensures.clash (ls ++ c.args.literal ∷ []) (subst (λ (ms : List LitMultiple). AreOf (ls ++ c.args.literal ∷ []) ms) (sym c.both_once.ensures.both)
    (both_of ls c.args.literal c.in-Some.other (subst (λ (ks : List Lit). Contains ks c.in-Some.other) told has)))

pub returns-in_ok-clause-in-Some-clause-grows : goal.returns-in_ok-clause-in-Some-clause-grows
returns-in_ok-clause-in-Some-clause-grows c = λ ls told are.
    let has : Contains (told_lits c.args.self.now) c.in-Some.other = subst (λ o. IfSome o (Contains (told_lits c.args.self.now))) c.in-Some.is c.in_ok-tell.ensures.among in
    c.in_ok-clause-in-Some.ensures.grows (subst (λ (ms : List LitMultiple). AreTold c.args.log.now (literals_of ms)) (sym c.both_once.ensures.both)
    (both_told c.args.log.now ls c.args.literal c.in-Some.other (subst (λ (ks : List Lit). Contains ks c.in-Some.other) told has) are))

pub returns-in_ok-clause-in-Some-clause-sound : goal.returns-in_ok-clause-in-Some-clause-sound
returns-in_ok-clause-in-Some-clause-sound c = λ ls ns levels told over within is.
    let has : Contains (told_lits c.args.self.now) c.in-Some.other = subst (λ o. IfSome o (Contains (told_lits c.args.self.now))) c.in-Some.is c.in_ok-tell.ensures.among in
    c.in_ok-clause-in-Some.ensures.sound ns levels (subst (λ (ms : List LitMultiple). AreMultiplesIn ns c.args.log.now.atoms ms) (sym c.both_once.ensures.both)
    (both_in ns c.args.log.now.atoms ls c.args.literal c.in-Some.other (subst (λ (ks : List Lit). Contains ks c.in-Some.other) told has) within)) is
