use Rattle.std.proofs.Common.{◌≡◌, map, take}
use Rattle.std.specs.Prelude.{Contains}
use Rattle.std.specs.List.{AllByRecursion}
use Rattle.nz_log.specs.Atoms.{AreAtoms, HasTerm, JoinOnly, term_place}
use Rattle.nz_log.specs.Logs.{JoinsAtoms}
use Rattle.nz_log.proofs.log.Log.term_atoms.Given as goal

-- the numbers of the atoms of the terms so far, which are there
abbrev pub invariant-loop-term : goal.invariant-loop-term
invariant-loop-term l =
    record {
      so_far : l.atoms.items ≡ map (term_place l.self.atoms) (take l.term-index l.terms);
      there : AllByRecursion (HasTerm l.self.atoms) (take l.term-index l.terms);
      joins : JoinsAtoms l.fn.self l.self;
      all : AreAtoms l.self.atoms;
      only : JoinOnly l.fn.self.atoms l.self.atoms (Contains l.atoms.items);
    }
