-- Each term is computed.
use Rattle.std.proofs.Common.{refl}
use Rattle.nz_script.proofs.worked.worked_terms.Goals as goal

pub returns : goal.returns
returns c =
    record {
      names = record { parallel = refl; hides = refl; nests = refl; defined = refl; keeps_constant = refl; exchanged = refl; nested = refl };
      sorts = record { mixed = refl; whole = refl; quotients = refl; branches = refl; floors = refl; tests = refl; differs = refl };
      none = record { compares_truth = refl; real_of_real = refl; constant_applied = refl; bound_applied = refl; unknown = refl; own_name = refl; branches = refl; divides_reals = refl; too_few = refl; too_many = refl; argument_sort = refl; argument_count = refl };
    }
