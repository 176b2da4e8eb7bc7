-- The words of the command line, by the definitions that `clap` gives of its own: which words a command takes, and what it
-- finds in them.
use Rattle.std.specs.Prelude.{◌≡◌, ◌<◌, ◌^◌, ℕ, true, List, [], Option, Some, None, codes, pos, option_and_then, unwrap_or}
use Rattle.std.specs.Str.Parse.{IsNumeral, digits_value, without_leading_plus}
use Rattle.nz_script.specs.run.Run.{solve_limit}
use Rattle.clap.specs.Words.{App, Row, Rule, Text, new_app, new_rule, one_of, subcommand_of, with_rule, with_subcommand}
use Rattle.clap.specs.Faults.{fault_of}
use Rattle.clap.specs.Simple.{on_top}
use Rattle.clap.specs.declared.builder.value_parser.ValueParser.TheVariants as parser

-- the most units of work that the words may allow
abbrev pub most_units : ℕ
most_units = 1000000

-- `--work N`, a whole number up to the most
abbrev pub work_option : Rule
work_option = record (new_rule (codes "work")) { long = Some (codes "work"); parser = Some (parser.Signed (pos 0) (pos most_units)) }

abbrev pub solve_command : App
solve_command = with_rule (new_app (codes "solve")) work_option

-- the command `nuz`, with `solve` as its one subcommand, which is required
abbrev pub nuz_command : App
nuz_command = with_subcommand (on_top (λ s. record s { subcommand_required = true }) (new_app (codes "nuz"))) solve_command.top

-- The command takes the words, the program's name first.
abbrev pub AreTaken : List Text → Type 0
AreTaken words = fault_of nuz_command words ≡ []

-- the number that the digits of a text spell, in base 10 and after a plus sign, if one stands there
abbrev pub spelled : Text → ℕ
spelled t = digits_value 10 (without_leading_plus t)

abbrev pub SpellsNumber : Text → Type 0
SpellsNumber t = IsNumeral 10 (without_leading_plus t) × (spelled t < 2 ^ 32)

-- the whole number that a text, if there is one, is read as
abbrev pub IsReadAs : Option Text → Option ℕ → Type 0
IsReadAs None r = r ≡ None
IsReadAs (Some t) (Some n) = SpellsNumber t × (n ≡ spelled t)
IsReadAs (Some t) None = SpellsNumber t → ⊥

-- So many units are allowed by this text, if there is one.
abbrev pub AreUnitsBy : Option Text → ℕ → Type 0
AreUnitsBy text n = (r : Option ℕ) × IsReadAs text r × (n ≡ unwrap_or r solve_limit)

-- the text of N in what a subcommand found
abbrev pub work_of : Option (Text × List Row) → Option Text
work_of found = option_and_then (λ p. one_of (codes "work") p.1) found

-- So many units are allowed by the words.
abbrev pub AreUnits : List Text → ℕ → Type 0
AreUnits words n = AreUnitsBy (work_of (subcommand_of nuz_command words)) n
