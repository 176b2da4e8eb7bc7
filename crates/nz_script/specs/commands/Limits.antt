-- The limits of single commands.
use Rattle.std.specs.Prelude.{ℕ, ◌+◌, ◌==◌, not, nat_lt, Bool, true, false, length, Option, Some, None}
use Rattle.nz_script.specs.commands.Expression.{Numeric, written_integer, written_decimal}
use Rattle.nz_script.specs.commands.Request.{Request, declares, defines, asserts, wishes, seeks, checks, checks_assuming, pushes, pops, resets, resets_assertions, shows_model, shows_values, shows_objectives, shows_info, sets_option, sets_nothing, echoes, exits, other_request}
use Rattle.nz_script.specs.live.Live.{State, constants_of, pushed_levels}

-- the greatest number of live constants, and of pushed levels
abbrev pub constant_limit : ℕ
constant_limit = 65535

abbrev pub level_limit : ℕ
level_limit = 1000

abbrev pub has_most_constants : State → Bool
has_most_constants s = not (nat_lt (length (constants_of s)) constant_limit)

-- so many more levels are too many; a number beyond the bounds is
abbrev pub are_too_many : State → Option ℕ → Bool
are_too_many s (Some n) = nat_lt level_limit (pushed_levels s + n)
are_too_many s None = true

-- a weight of zero
abbrev pub is_zero_weight : Option (Option Numeric) → Bool
is_zero_weight (Some (Some (written_integer n))) = n == 0
is_zero_weight (Some (Some (written_decimal n places))) = n == 0
is_zero_weight w = false

-- The command goes beyond a limit, in its own way.
abbrev pub passes_limit : State → Request → Bool
passes_limit s (declares name arguments sort) = has_most_constants s
passes_limit s (defines name parameters sort body) = false
passes_limit s (asserts e) = false
passes_limit s (wishes e a) = is_zero_weight a.weight
passes_limit s (seeks direction e) = false
passes_limit s checks = false
passes_limit s (checks_assuming xs) = false
passes_limit s (pushes n) = are_too_many s n
passes_limit s (pops n) = false
passes_limit s resets = false
passes_limit s resets_assertions = false
passes_limit s shows_model = false
passes_limit s (shows_values qs) = false
passes_limit s shows_objectives = false
passes_limit s (shows_info k) = false
passes_limit s (sets_option o) = false
passes_limit s sets_nothing = false
passes_limit s (echoes text) = false
passes_limit s exits = false
passes_limit s other_request = false
