use Rattle.nz_sexpr.specs.View.{seen}
use Rattle.nz_sexpr.specs.Sizes.{trees_size}
use Rattle.nz_command.proofs.parts.+attributes_onto.Given as goal

abbrev pub decreases-attributes_onto : goal.decreases-attributes_onto
decreases-attributes_onto l = trees_size (seen l.list.now)
