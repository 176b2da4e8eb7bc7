-- Each normal term is computed.
use Rattle.std.proofs.Common.{refl}
use Rattle.nz_script.proofs.worked.worked_normal_terms.Goals as goal

pub returns : goal.returns
returns c =
    record {
      terms = record { implies = refl; excludes = refl; equals = refl; differs = refl; differs_once = refl; equals_once = refl };
      chains = record { greater_once = refl; at_least_once = refl; less_of_three = refl; at_most_of_three = refl; greater_of_three = refl; at_least_of_three = refl; equal_of_three = refl; distinct_of_three = refl; inside = refl };
      groups = record { quotients = refl; whole_quotients = refl; sum_of_one = refl; product_of_one = refl; sum_of_three = refl; difference_of_three = refl; negated_number = refl };
    }
