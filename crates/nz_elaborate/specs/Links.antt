-- What is written in chains.
use Rattle.nz_spec.specs.terms.Term.{equality, less, at_most, Term}
use Rattle.nz_spec.specs.terms.Normal.{paired, turned}
use Rattle.nz_elaborate.specs.declared.normal.Link.{Link}
use Rattle.nz_elaborate.specs.declared.normal.Link.TheVariants.{Equal, Less, AtMost, Greater, AtLeast}

abbrev pub link_pair : Link → Term → Term → Term
link_pair Equal = paired equality
link_pair Less = paired less
link_pair AtMost = paired at_most
link_pair Greater = turned less
link_pair AtLeast = turned at_most
