use Rattle.std.proofs.Common.{[], ◌∷◌}
use Rattle.std.proofs.lemmas.List.Elements.{All-nil, All-cons}
use Rattle.nz_spec.specs.numbers.Infinitesimal.{Pair, ◌≤δ◌}
use Rattle.nz_delta.specs.Pairs.{pair_of}
use Rattle.nz_number_tests.proofs.delta.test_chooses_the_least_limit.Goals as goal

abbrev InOrder : Pair → Type 0
InOrder x = x.0 ≤δ x.1

pub choose_delta-chosen-requires : goal.choose_delta-chosen-requires
choose_delta-chosen-requires g c =
    let free = All-cons InOrder (pair_of c.in_ok-free.free) [] c.in_ok-free.ensures (All-nil InOrder) in
    let quarter = All-cons InOrder (pair_of c.in_ok-quarter.quarter) (pair_of c.in_ok-free.free ∷ []) c.in_ok-quarter.ensures free in
    All-cons InOrder (pair_of c.in_ok-half.half) (pair_of c.in_ok-quarter.quarter ∷ pair_of c.in_ok-free.free ∷ []) c.in_ok-half.ensures quarter
