-- An atom that has a number is one of the search, so its literals have their codes.
use Rattle.std.proofs.Common.{◌≡◌, true, None, refl, rules, is_some}
use Rattle.nz_sat.specs.Numbers.{number_of}
use Rattle.nz_sat.specs.Trails.{assigned}
use Rattle.nz_sat.proofs.AtomNumbers.{has_numbered}
use Rattle.nz_sat.proofs.AtomTrails.{names_small}
use Rattle.nz_sat.proofs.order.Order.next.Goals as goal

pub is_wanted-requires-clause-small : goal.is_wanted-requires-clause-small
is_wanted-requires-clause-small c =
    let t = c.in-Some.atom in
    let some : is_some (number_of c.args.atoms.now t) ≡ true = search rules in
    names_small c.args.log.now c.args.atoms.now c.requires.there c.atom_count.ensures.atoms t (has_numbered c.args.atoms.now t (number_of c.args.atoms.now t) refl some)

pub returns-then-is_wanted : goal.returns-then-is_wanted
returns-then-is_wanted c =
    let t = c.in-Some.atom in
    let some : is_some (number_of c.args.atoms.now t) ≡ true = search rules in
    let free : assigned c.args.trail.now.entries t ≡ None = search rules in
    record { undecided = (has_numbered c.args.atoms.now t (number_of c.args.atoms.now t) refl some, free) }
