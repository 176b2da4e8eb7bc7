-- The errors by which a reply tells what was wrong, with their numbers and texts, which are this program's own.
use Rattle.std.specs.Prelude.{ℕ, List, ◌++◌, codes, decimal}

pub data Error : Type 0 where
  bad_syntax : Error  -- a bad or a stray token, or a command that isn't of its form
  unknown_symbol : Error  -- a symbol of a term or of a sort isn't in scope
  wrong_sort : Error  -- a count of arguments or a sort doesn't fit
  not_linear : Error  -- a product of variables, or a divisor that isn't a constant other than zero
  too_wide : Error  -- a number is beyond the bounds
  past_limit : Error  -- the command goes beyond a limit
  nothing_to_show : Error  -- the last answer has nothing of what is to be shown
  below_zero : Error  -- fewer levels were pushed than are to be popped
  already_declared : Error  -- a live name or an operator is declared again
  incomplete : Error  -- the text ends inside the command
  out_of_memory : Error  -- in the place of any other reply

abbrev pub error_number : Error → ℕ
error_number bad_syntax = 1
error_number unknown_symbol = 2
error_number wrong_sort = 3
error_number not_linear = 4
error_number too_wide = 5
error_number past_limit = 6
error_number nothing_to_show = 7
error_number below_zero = 8
error_number already_declared = 9
error_number incomplete = 10
error_number out_of_memory = 11

abbrev pub error_text : Error → List ℕ
error_text bad_syntax = codes "syntax"
error_text unknown_symbol = codes "unknown symbol"
error_text wrong_sort = codes "sort"
error_text not_linear = codes "not linear"
error_text too_wide = codes "number too wide"
error_text past_limit = codes "limit"
error_text nothing_to_show = codes "no answer to show"
error_text below_zero = codes "pop below zero"
error_text already_declared = codes "already declared"
error_text incomplete = codes "incomplete command"
error_text out_of_memory = codes "out of memory"

-- an error as a reply tells it
abbrev pub error_line : Error → List ℕ
error_line e = codes "(error \"" ++ decimal (error_number e) ++ codes " " ++ error_text e ++ codes "\")"
