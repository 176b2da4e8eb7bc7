-- What a sort, a sort of numbers and a constant of the code are.
use Rattle.nz_spec.specs.terms.Term as spec
use Rattle.nz_spec.specs.terms.Term.{bool_sort, int_sort, real_sort, over_int, over_real}
use Rattle.nz_term.specs.declared.heads.Sort.{Sort}
use Rattle.nz_term.specs.declared.heads.Sort.TheVariants.{Bool, Int, Real}
use Rattle.nz_term.specs.declared.heads.NumberSort.{NumberSort}
use Rattle.nz_term.specs.declared.heads.NumberSort.TheVariants.{Int as OverInt, Real as OverReal}
use Rattle.nz_term.specs.declared.heads.Constant.{Constant}

abbrev pub sort_of : Sort → spec.Sort
sort_of Bool = bool_sort
sort_of Int = int_sort
sort_of Real = real_sort

abbrev pub number_sort_of : NumberSort → spec.NumberSort
number_sort_of OverInt = over_int
number_sort_of OverReal = over_real

abbrev pub constant_of : Constant → spec.Constant
constant_of c = record { name = c.name; sort = sort_of c.sort }
