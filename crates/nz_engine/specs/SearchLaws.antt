-- The laws that a search over what is prepared rests on.
use Rattle.nz_spec.specs.laws.LegalWork.{LegalWorkGoesOn}
use Rattle.nz_spec.specs.terms.FormOf.{FormsAreSums}
use Rattle.nz_spec.specs.terms.Table.{TermOfNode}
use Rattle.nz_spec.specs.terms.WellSorted.{OperandsAreSorted}
use Rattle.nz_log.specs.Atoms.{AtomsOfTerms, TellsLits}
use Rattle.nz_cform.specs.Laws.{CoversStay}
use Rattle.nz_reals.specs.Starts.{TheoriesRestart}

-- what rows of taken terms rest on
pub record RowLaws : Type 0 where
  pub sums : FormsAreSums
  pub operands : OperandsAreSorted

pub record SearchLaws : Type 0 where
  pub rows : RowLaws
  pub node : TermOfNode
  pub atoms : AtomsOfTerms
  pub tells : TellsLits
  pub covers : CoversStay
  pub restart : TheoriesRestart
  pub goes_on : LegalWorkGoesOn
