-- What the relations of the code are.
use Rattle.std.specs.Prelude.{Bool}
use Rattle.nz_spec.specs.terms.Term.{Value, are_equal, is_less, is_at_most}
use Rattle.nz_truth.specs.declared.chains.Relation.{Relation}
use Rattle.nz_truth.specs.declared.chains.Relation.TheVariants.{Equal, Less, AtMost}

abbrev pub relation_of : Relation → Value → Value → Bool
relation_of Equal v w = are_equal v w
relation_of Less v w = is_less v w
relation_of AtMost v w = is_at_most v w
