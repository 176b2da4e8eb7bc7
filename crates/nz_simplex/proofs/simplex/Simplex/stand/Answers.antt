-- The value of one nonbasic form changes, and no basic one has a value that would follow.
use Rattle.std.proofs.Common.{refl}
use Rattle.nz_simplex.proofs.StartBases.{stands_shown}
use Rattle.nz_simplex.proofs.StoredStates.{stored_again}
use Rattle.nz_simplex.proofs.simplex.Simplex.stand.Goals as goal

pub invariant_of-self : goal.invariant_of-self
invariant_of-self g c =
    let x = c.self.inside in
    let stored = c.self.invariant in
    stored_again stored
    (stands_shown g.S.Coordinate.stands_for x.tab x.trail x.values.items x.why.items c.args.self.now c.args.var c.args.value c.self.view_is stored.sound
    c.requires.nonbasic c.requires.unbounded c.requires.unknown c.nonbasic_form_is_itself.ensures.itself c.known_tableau.ensures.tableau).sound
    refl stored.basic_listed stored.nonbasic_listed refl refl refl

pub returns : goal.returns
returns g c =
    let x = c.self.inside in
    record {
      stands =
          (stands_shown g.S.Coordinate.stands_for x.tab x.trail x.values.items x.why.items c.args.self.now c.args.var c.args.value c.self.view_is c.self.invariant.sound
          c.requires.nonbasic c.requires.unbounded c.requires.unknown c.nonbasic_form_is_itself.ensures.itself c.known_tableau.ensures.tableau).shown;
    }
