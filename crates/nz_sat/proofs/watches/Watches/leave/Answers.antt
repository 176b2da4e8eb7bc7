-- The watch of the place is the clause's.
use Rattle.std.proofs.lemmas.Option.{slice_get_within}
use Rattle.nz_sat.specs.Lists.{list_of}
use Rattle.nz_sat.proofs.watches.Watches.leave.Goals as goal

pub remove-requires-clause-inside : goal.remove-requires-clause-inside
remove-requires-clause-inside c =
    let at = c.place-i.ensures.at in
    slice_get_within (list_of c.args.self.now c.args.literal) c.place-i.result at.0 at.1

pub returns-clause-left : goal.returns-clause-left
returns-clause-left c =
    let at = c.place-i.ensures.at in
    record { place = c.place-i.result; watch = at.0; at = at.1; is = at.2; taken = c.remove.ensures.removed }
