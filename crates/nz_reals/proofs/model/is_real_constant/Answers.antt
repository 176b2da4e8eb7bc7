use Rattle.std.proofs.Common.{ap}
use Rattle.nz_term.specs.Constants.{sort_of}
use Rattle.nz_term.specs.Heads.{head_of}
use Rattle.nz_reals.proofs.ConstantValues.{real_constant}
use Rattle.nz_reals.proofs.model.is_real_constant.Goals as goal

pub returns-in-Real-clause-constant : goal.returns-in-Real-clause-constant
returns-in-Real-clause-constant c = λ e.
    real_constant c.args.terms.now c.args.id c.head.result c.in-Constant.constant.now c.head.ensures.head (ap head_of c.in-Constant.is) (ap sort_of c.in-Real.is)
