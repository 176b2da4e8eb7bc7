use Rattle.std.proofs.Common.{sym, ap, ◌∙◌}
use Rattle.std.specs.Prelude.{option_map}
use Rattle.std.specs.Str.Parse.{ParsesUnsigned, ExplainsUnsignedError, HasUnsignedDigitsIfOk}
use Rattle.clap.specs.Words.{found_of, rows_of, subcommand_rows_of}
use Rattle.nz_run.proofs.Units.{units_found}
use Rattle.nz_run.proofs.words.units_in.Goals as goal

pub returns-in-Some : goal.returns-in-Some
returns-in-Some c =
    let rows = sym c.subcommand.ensures.rows ∙ ap (option_map (λ p. rows_of (found_of p.1.now))) c.in-Some.is in
    let u = units_found (λ bs r. ParsesUnsigned 32 10 bs r × ExplainsUnsignedError 10 bs r × HasUnsignedDigitsIfOk bs r) (λ t x g. g.0)
    (subcommand_rows_of c.args.matches.now) (found_of c.in-Some.solve.now) c.get_one.result rows c.get_one.ensures.none c.get_one.ensures.value in
    record { units = (u.0, u.1, c.unwrap_or.ensures ∙ u.2) }
