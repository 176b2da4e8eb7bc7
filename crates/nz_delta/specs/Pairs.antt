-- The pairs that `choose_delta` is handed, as pairs of infinitesimal numbers.
use Rattle.nz_spec.specs.numbers.Infinitesimal.{Pair}
use Rattle.nz_delta.specs.declared.delta.Delta.{Delta}
use Rattle.nz_delta.specs.DeltaSpace.{infinitesimal_of}

abbrev pub pair_of : Delta × Delta → Pair
pair_of p = (infinitesimal_of p.0, infinitesimal_of p.1)
