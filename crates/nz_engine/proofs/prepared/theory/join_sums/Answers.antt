use Rattle.std.proofs.Common.{rules, ◌≡◌, ◌+◌, ◌-◌, ◌≤◌, List, Err, IfErr, length, drop, get_or, take, refl, ℕ, subst, arith}
use Rattle.std.specs.Prelude.{All}
use Rattle.std.proofs.lemmas.List.{length-drop, take_all}
use Rattle.std.proofs.lemmas.List.Elements.{Contains-get_or}
use Rattle.nz_spec.specs.search.Search.{Task}
use Rattle.nz_spec.specs.terms.Table.{Node}
use Rattle.nz_search.specs.declared.stop.Stop.{Stop}
use Rattle.nz_search.specs.Standing.{Stands}
use Rattle.nz_reals.specs.Stands.{IsAt, IsOf}
use Rattle.nz_sat.specs.Numbers.{IsAtomAt}
use Rattle.nz_engine.specs.Checking.{AreNumbered, EndsWith}
use Rattle.nz_engine.specs.Joining.{AreNumbersBelow}
use Rattle.nz_engine.proofs.TheoryAtoms.{atoms_at, begins, forms_after, learns, may_learn, of_all, stops}
use Rattle.nz_engine.proofs.AtomNotes.{joins_stopped}
use Rattle.nz_engine.proofs.MoreAtoms.{rest_is}
use Rattle.nz_engine.proofs.prepared.theory.join_sums.Goals as goal

pub loop-place-init : goal.loop-place-init
loop-place-init c = begins c.args.log.now.atoms c.args.atoms.now c.args.from c.args.theory.now c.args.work.now c.requires.untold c.requires.of

pub offset_bounds-atoms-number : goal.offset_bounds-atoms-number
offset_bounds-atoms-number c =
    let places = c.as_slice-place-items.result.now in
    let i = c.loop-place.place-index in
    let ids = c.args.atoms.now in
    let told : AreNumbersBelow (length (take (length ids - c.args.from) (drop c.args.from ids))) places = search rules in
    let listed = subst (λ (xs : List ℕ). AreNumbersBelow (length xs) places) (rest_is c.args.from ids) told in
    let sum : c.in-Some.number ≡ c.args.from + get_or places i 0 = c.in-Some.ensures.1 in
    let long = length-drop c.args.from c.args.atoms.now in
    let below = listed.below (get_or places i 0) (Contains-get_or places i 0 c.loop-place-test.true) in
    omega (arith, long, below, sum)

pub bounds-atoms-number : goal.bounds-atoms-number
bounds-atoms-number c =
    let places = c.as_slice-place-items.result.now in
    let i = c.loop-place.place-index in
    let ids = c.args.atoms.now in
    let told : AreNumbersBelow (length (take (length ids - c.args.from) (drop c.args.from ids))) places = search rules in
    let listed = subst (λ (xs : List ℕ). AreNumbersBelow (length xs) places) (rest_is c.args.from ids) told in
    let sum : c.in-Some.number ≡ c.args.from + get_or places i 0 = c.in-Some.ensures.1 in
    let long = length-drop c.args.from c.args.atoms.now in
    let below = listed.below (get_or places i 0) (Contains-get_or places i 0 c.loop-place-test.true) in
    omega (arith, long, below, sum)

pub add_atom-requires-clause-atom : goal.add_atom-requires-clause-atom
add_atom-requires-clause-atom c =
    let ids = c.args.atoms.now in
    let places = c.as_slice-place-items.result.now in
    let i = c.loop-place.place-index in
    let told : AreNumbersBelow (length (take (length ids - c.args.from) (drop c.args.from ids))) places = search rules in
    let listed = subst (λ (xs : List ℕ). AreNumbersBelow (length xs) places) (rest_is c.args.from ids) told in
    let sum : c.in-Some.number ≡ c.args.from + get_or places i 0 = c.in-Some.ensures.1 in
    may_learn c.args.log.now.atoms ids c.args.from places i c.args.theory.now c.args.work.now c.loop-place.work c.loop-place.theory c.loop-place.invariant listed c.loop-place-test.true
    c.in-Some.number (get_or ids c.in-Some.number 0) sum refl c.requires.learnable

pub loop-place-preserved : goal.loop-place-preserved
loop-place-preserved c =
    let ids = c.args.atoms.now in
    let places = c.as_slice-place-items.result.now in
    let i = c.loop-place.place-index in
    let h = c.loop-place.invariant in
    let told : AreNumbersBelow (length (take (length ids - c.args.from) (drop c.args.from ids))) places = search rules in
    let listed = subst (λ (xs : List ℕ). AreNumbersBelow (length xs) places) (rest_is c.args.from ids) told in
    let sum : c.in-Some.number ≡ c.args.from + get_or places i 0 = c.in-Some.ensures.1 in
    learns c.args.log.now.atoms ids c.args.from places i c.args.theory.now c.args.work.now c.loop-place.work c.loop-place.theory h listed c.loop-place-test.true c.in-Some.number (get_or ids c.in-Some.number 0) sum refl
    c.add_atom.new.self c.add_atom.new.work c.add_atom.ensures.lines c.add_atom.ensures.untold (c.in_ok-add_atom.ensures.of (atoms_at ids c.args.from (take i places)) h.of) c.add_atom.ensures.over
    (λ ns q within number stands. c.in_ok-add_atom.ensures.ends ns q within number stands)

pub returns-in_err-add_atom-clause-forms : goal.returns-in_err-add_atom-clause-forms
returns-in_err-add_atom-clause-forms c =
    let ids = c.args.atoms.now in
    let places = c.as_slice-place-items.result.now in
    let i = c.loop-place.place-index in
    let told : AreNumbersBelow (length (take (length ids - c.args.from) (drop c.args.from ids))) places = search rules in
    let listed = subst (λ (xs : List ℕ). AreNumbersBelow (length xs) places) (rest_is c.args.from ids) told in
    let sum : c.in-Some.number ≡ c.args.from + get_or places i 0 = c.in-Some.ensures.1 in
    forms_after c.args.log.now.atoms ids c.args.from places i c.args.theory.now c.args.work.now c.loop-place.work c.loop-place.theory c.loop-place.invariant listed c.loop-place-test.true
    c.in-Some.number (get_or ids c.in-Some.number 0) sum refl c.add_atom.new.self c.add_atom.new.work c.add_atom.ensures.lines

pub returns-in_err-add_atom-clause-stopped : goal.returns-in_err-add_atom-clause-stopped
returns-in_err-add_atom-clause-stopped c =
    let ids = c.args.atoms.now in
    let places = c.as_slice-place-items.result.now in
    let i = c.loop-place.place-index in
    let told : AreNumbersBelow (length (take (length ids - c.args.from) (drop c.args.from ids))) places = search rules in
    let listed = subst (λ (xs : List ℕ). AreNumbersBelow (length xs) places) (rest_is c.args.from ids) told in
    let sum : c.in-Some.number ≡ c.args.from + get_or places i 0 = c.in-Some.ensures.1 in
    let same : Err c.in_err-add_atom.field-0.0 ≡ c.from_residual-in_err-add_atom.result = search rules in
    let e : Stop = c.in_err-add_atom.field-0.0 in
    subst
    (λ r. IfErr r (λ (s : Stop). (ns : List Node) (q : Task) → All (IsAtomAt ns c.args.log.now.atoms) ids → AreNumbered ns c.args.log.now.atoms ids c.args.work.now
    → Stands (IsAt c.args.theory.now ns) ns q c.args.work.now → EndsWith ns q c.add_atom.new.work s)) same
    (stops c.args.log.now.atoms ids c.args.from places i c.args.theory.now c.args.work.now c.loop-place.work c.loop-place.theory c.loop-place.invariant listed c.loop-place-test.true
    c.in-Some.number (get_or ids c.in-Some.number 0) sum refl c.add_atom.new.self c.add_atom.new.work c.add_atom.ensures.lines e
    (λ ns q within number stands. joins_stopped (Unit {0}) (IsAt c.add_atom.new.self ns) ns q c.add_atom.new.work e (c.in_err-add_atom.ensures.ends ns q within number stands)))

pub returns-clause-of : goal.returns-clause-of
returns-clause-of c =
    let ids = c.args.atoms.now in
    let places = c.as_slice-place-items.result.now in
    let i = c.loop-place.place-index in
    let told : AreNumbersBelow (length (take (length ids - c.args.from) (drop c.args.from ids))) places = search rules in
    let listed = subst (λ (xs : List ℕ). AreNumbersBelow (length xs) places) (rest_is c.args.from ids) told in
    let past : length places ≤ i = omega arith in
    of_all c.loop-place.theory c.args.log.now.atoms ids c.args.from places listed
    (subst (λ (ks : List ℕ). IsOf c.loop-place.theory c.args.log.now.atoms (atoms_at ids c.args.from ks)) (take_all i places past) c.loop-place.invariant.of)

pub returns-in_default-clause-stopped : goal.returns-in_default-clause-stopped
returns-in_default-clause-stopped c = λ ns q within numbered stood. let h = c.loop-place.invariant.stands ns q within numbered stood in (h.point, h.legal)
