-- The atoms so far are named, and one more.
use Rattle.std.proofs.Common.{◌∙◌}
use Rattle.nz_engine.proofs.NamedAtoms.{names_next}
use Rattle.nz_engine.proofs.prepared.atoms.name_more.Goals as goal

pub loop-atom-preserved : goal.loop-atom-preserved
loop-atom-preserved c =
    let before = c.loop-atom.invariant in
    record {
      marked = c.in_ok-name_atom.ensures.marked;
      names = names_next c.args.atoms.now.items c.loop-atom.atoms.items c.name_atom.new.atoms.items c.args.more.now c.loop-atom.atom-index 0 c.loop-atom-test.true before.names c.in_ok-name_atom.ensures.names;
      long = c.name_atom.ensures.long ∙ before.long;
    }
