-- The pivots of the check lead on from where the theory was told the trail.
use Rattle.std.proofs.Common.{◌≡◌, ℕ, None, Ok, Option, subst, rules}
use Rattle.nz_sat.specs.Theories.{Consults, TheoryState, state_of}
use Rattle.nz_sat.proofs.ToldTrails.{consults_checked}
use Rattle.nz_sat.proofs.consult.consult.Goals as goal

-- Of the atoms it knows still, with those that joined since.
pub check-requires : goal.check-requires
check-requires g c =
    let told = c.tell.ensures.comes in
    record {
      known = (c.args.atoms.now, g.T.Theory.stays c.tell.new.theory c.args.log.now.atoms c.tell.new.log.atoms c.args.atoms.now (told.keeps.of c.args.log.now.atoms c.args.atoms.now c.requires.of) told.grows.atoms);
    }

pub returns-clause-comes : goal.returns-clause-comes
returns-clause-comes g c =
    let none : c.in_ok-clash.clash ≡ None = search rules in
    let theory : g.row.T.Denot → TheoryState = state_of g.T.Theory.is_over g.T.Theory.has_told g.T.Theory.is_feasible g.T.Theory.is_of g.T.Theory.is_at in
    let told : Consults (theory c.args.theory.now) (theory c.tell.new.theory) c.args.log.now c.tell.new.log c.args.atoms.now c.args.bounds.now c.tell.new.bounds c.args.trail.now c.args.work.now
    c.tell.new.work (Ok None) =
    subst
    (λ (o : Option ℕ). Consults (theory c.args.theory.now) (theory c.tell.new.theory) c.args.log.now c.tell.new.log c.args.atoms.now c.args.bounds.now c.tell.new.bounds c.args.trail.now
    c.args.work.now c.tell.new.work (Ok o))
    none c.in_ok-clash.ensures.comes in
    consults_checked c.pivots_are_legal.ensures.legal c.legal_work_goes_on.ensures.goes_on {m₂ = theory c.check.new.self} told (record { over = c.check.ensures.over; of = c.check.ensures.of }) c.check.ensures.pivots c.check.result
    c.check.ensures.told c.check.ensures.clash c.check.ensures.grows c.check.ensures.sound c.check.ensures.leads
