-- The table with one more, where it wasn't there.
use Rattle.std.proofs.Common.{◌≡◌, ◌^◌, ◌<◌, List, length, subst, rules}
use Rattle.nz_log.specs.declared.atoms.Atom.{Atom}
use Rattle.nz_log.specs.Atoms.{JoinOnly, Stay}
use Rattle.nz_log.proofs.AtomTables.{put_atoms, put_stays, put_there, small_number}
use Rattle.nz_log.proofs.OnlyJoined.{put_only}
use Rattle.nz_log.proofs.atoms.Atoms.put.Goals as goal

pub invariant_of-self-2 : goal.invariant_of-self-2
invariant_of-self-2 c =
    let few : length c.self.inside.atoms.keys < 2 ^ 31 = search rules in
    put_atoms c.self.inside.atoms.keys c.insert_full.new.self.keys c.args.atom c.in_ok-id.ensures.keys c.insert_full.ensures.unique c.requires.normal few c.self.invariant

pub returns-clause-there : goal.returns-clause-there
returns-clause-there c = put_there c.insert_full.new.self.keys c.args.atom c.in_ok-id.id c.in_ok-id.ensures.stored

pub returns-clause-small : goal.returns-clause-small
returns-clause-small c =
    let old = c.self.inside.atoms.keys in
    let new = c.insert_full.new.self.keys in
    let few : length old < 2 ^ 31 = search rules in
    let atoms = put_atoms old new c.args.atom c.in_ok-id.ensures.keys c.insert_full.ensures.unique c.requires.normal few c.self.invariant in
    small_number new c.in_ok-id.id c.args.atom atoms (put_there new c.args.atom c.in_ok-id.id c.in_ok-id.ensures.stored)

pub returns-clause-stay : goal.returns-clause-stay
returns-clause-stay c =
    subst (λ (list : List Atom). Stay list c.insert_full.new.self.keys) c.self.view_is
    (put_stays c.self.inside.atoms.keys c.insert_full.new.self.keys c.args.atom c.in_ok-id.ensures.keys)

pub returns-clause-atoms : goal.returns-clause-atoms
returns-clause-atoms c =
    let few : length c.self.inside.atoms.keys < 2 ^ 31 = search rules in
    put_atoms c.self.inside.atoms.keys c.insert_full.new.self.keys c.args.atom c.in_ok-id.ensures.keys c.insert_full.ensures.unique c.requires.normal few c.self.invariant

pub returns-clause-only : goal.returns-clause-only
returns-clause-only c =
    let old = c.self.inside.atoms.keys in
    let new = c.insert_full.new.self.keys in
    let keys = c.in_ok-id.ensures.keys in
    let few : length old < 2 ^ 31 = search rules in
    let atoms = put_atoms old new c.args.atom keys c.insert_full.ensures.unique c.requires.normal few c.self.invariant in
    subst (λ (list : List Atom). JoinOnly list new (λ i. i ≡ c.in_ok-id.id)) c.self.view_is
    (put_only old new c.args.atom c.in_ok-id.id keys atoms (put_there new c.args.atom c.in_ok-id.id c.in_ok-id.ensures.stored))
