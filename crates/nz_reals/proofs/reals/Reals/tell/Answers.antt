use Rattle.std.proofs.Common.{◌≡◌, Some, sym, ap, ◌∙◌}
use Rattle.std.specs.Prelude.{Contains}
use Rattle.nz_log.specs.declared.lits.Lit.{Lit}
use Rattle.nz_reals.specs.Known.{known_of}
use Rattle.nz_reals.specs.State.{known_at, told_lits}
use Rattle.nz_reals.specs.Tells.{AreKnown, AreOnTwoSides, Clashes, Refutes, both}
use Rattle.nz_reals.proofs.BoundClashes.{clash_told}
use Rattle.nz_reals.proofs.Tolds.{clash_handed, clash_has, clash_sides}
use Rattle.nz_reals.proofs.reals.Reals.tell.Goals as goal

pub returns-clause-among : goal.returns-clause-among
returns-clause-among c =
    let t = c.args.self.now in
    let l = c.args.literal in
    let k = known_of c.known-bounded.result in
    clash_handed (Clashes t l k) (Contains (told_lits t)) (clash_has t l k) c.assert_said.result c.assert_said.ensures.clash

pub returns-clause-sides : goal.returns-clause-sides
returns-clause-sides c =
    let t = c.args.self.now in
    let l = c.args.literal in
    let k = known_of c.known-bounded.result in
    let known : known_at t l.atom ≡ Some k = ap (known_at t) (sym c.atom.ensures.atom) ∙ c.known-bounded.ensures.known in
    clash_handed (Clashes t l k) (AreOnTwoSides t l) (λ o. clash_sides t l k o c.stored.ensures.tolds known) c.assert_said.result c.assert_said.ensures.clash

pub returns-clause-refutes : goal.returns-clause-refutes
returns-clause-refutes c = λ atoms ids of.
    let t = c.args.self.now in
    let l = c.args.literal in
    let k = known_of c.known-bounded.result in
    let known : known_at t l.atom ≡ Some k = ap (known_at t) (sym c.atom.ensures.atom) ∙ c.known-bounded.ensures.known in
    clash_handed (Clashes t l k) (λ (o : Lit). AreKnown t (both l o) × Refutes t (both l o))
    (clash_told t atoms ids of c.literals_say_bounds.ensures.say c.sums_stay.ensures.stay c.term_has_its_number.ensures.number c.tells_literals.ensures.tells
    c.clashes_contradict.ensures.contradict c.stored.ensures.tolds l k known)
    c.assert_said.result c.assert_said.ensures.clash
