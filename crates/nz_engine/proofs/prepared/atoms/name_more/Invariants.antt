-- The atoms so far are named.
use Rattle.std.proofs.Common.{◌≡◌, length, take}
use Rattle.nz_engine.specs.Checking.{AreMarksOf}
use Rattle.nz_engine.specs.Preparing.{Names}
use Rattle.nz_engine.proofs.prepared.atoms.name_more.Given as goal

abbrev pub invariant-loop-atom : goal.invariant-loop-atom
invariant-loop-atom l =
    record {
      marked : AreMarksOf l.atoms.items l.is_named;
      names : Names l.fn.atoms.items (take l.atom-index l.more) l.atoms.items;
      long : length l.is_named ≡ length l.fn.is_named;
    }
