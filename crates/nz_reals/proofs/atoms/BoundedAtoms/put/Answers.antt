use Rattle.nz_reals.proofs.KnownPlaces.{put_known}
use Rattle.nz_reals.proofs.atoms.BoundedAtoms.put.Goals as goal

pub returns-clause-put : goal.returns-clause-put
returns-clause-put c =
    put_known c.self.inside.entries.items c.put_at.new.entries.items (record { atom = c.args.atom; bounded = c.args.bounded }) c.args.self.now c.self.view_is c.put_at.result c.put_at.ensures.put
