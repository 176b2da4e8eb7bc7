use Rattle.std.proofs.Common.{◌∙◌, sym}
use Rattle.nz_sexpr.proofs.WordTokens.{symbol_simple, no_simple_symbol}
use Rattle.nz_sexpr.proofs.words.is_simple_symbol.Goals as goal

pub returns-in-Symbol : goal.returns-in-Symbol
returns-in-Symbol c = record { simple = sym (symbol_simple c.args.name.now (sym c.after_run.ensures ∙ c.in-Symbol.is)) }

pub returns-in_default : goal.returns-in_default
returns-in_default c = record { simple = sym (no_simple_symbol c.args.name.now (λ e. c.in_default.not-Symbol (c.after_run.ensures ∙ e))) }
