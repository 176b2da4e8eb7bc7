use Rattle.std.proofs.Common.{◌≡◌, take}
use Rattle.std.specs.List.{AllByRecursion}
use Rattle.nz_term.specs.declared.term_lits.TermLit.{TermLit}
use Rattle.nz_log.specs.Atoms.{AreAtoms, HasTerm, IsAtomOf, JoinOnly, lits_of}
use Rattle.nz_log.specs.Logs.{JoinsAtoms}
use Rattle.nz_log.proofs.log.Log.lits_of.Given as goal

-- the literals on the terms so far, whose atoms are there
abbrev pub invariant-loop-literal : goal.invariant-loop-literal
invariant-loop-literal l =
    record {
      so_far : l.literals.items ≡ lits_of l.self.atoms (take l.literal-index l.clause);
      there : AllByRecursion (λ (k : TermLit). HasTerm l.self.atoms k.term) (take l.literal-index l.clause);
      joins : JoinsAtoms l.fn.self l.self;
      atoms : AreAtoms l.self.atoms;
      only : JoinOnly l.fn.self.atoms l.self.atoms (IsAtomOf l.literals.items);
    }
