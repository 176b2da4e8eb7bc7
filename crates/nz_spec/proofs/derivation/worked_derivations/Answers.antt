-- Each clause is computed.
use Rattle.std.proofs.Common.{refl}
use Rattle.nz_spec.proofs.derivation.worked_derivations.Goals as goal

pub returns : goal.returns
returns c =
    record {
      gates = record {
        truth = refl;
        falsehood = refl;
        negations = refl;
        conjunctions = refl;
        disjunctions = refl;
        exclusions = refl;
        equations = refl;
        choices = refl;
        constants = refl;
        number_equations = refl;
        number_choices = refl;
      };
      resolvents = record { goes = refl; once = refl; turned = refl; missing = refl; repeated = refl };
      refutation = refl;
    }
