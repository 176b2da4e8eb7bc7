-- What the errors of the code are.
use Rattle.nz_spec.specs.outside.Error as spec
use Rattle.nz_base.specs.declared.reply_errors.Error.{Error}
use Rattle.nz_base.specs.declared.reply_errors.Error.TheVariants as code

abbrev pub error_of : Error → spec.Error
error_of code.Syntax = spec.bad_syntax
error_of code.UnknownSymbol = spec.unknown_symbol
error_of code.Sort = spec.wrong_sort
error_of code.NotLinear = spec.not_linear
error_of code.TooWide = spec.too_wide
error_of code.Limit = spec.past_limit
error_of code.NothingToShow = spec.nothing_to_show
error_of code.BelowZero = spec.below_zero
error_of code.AlreadyDeclared = spec.already_declared
error_of code.Incomplete = spec.incomplete
error_of code.OutOfMemory = spec.out_of_memory
