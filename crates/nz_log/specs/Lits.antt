-- Literals and clauses by the numbers of their atoms.
use Rattle.std.specs.Prelude.{Bool, not, ◌&&◌, ◌==◌, List, ◌++◌}
use Rattle.nz_spec.specs.clauses.Literal.{are_same_sign, once, without}
use Rattle.nz_log.specs.declared.lits.Lit.{Lit}

abbrev pub negated_lit : Lit → Lit
negated_lit l = record { atom = l.atom; sign = not l.sign }

abbrev pub are_same_lit : Lit → Lit → Bool
are_same_lit l m = (l.atom == m.atom) && are_same_sign l.sign m.sign

abbrev pub lit_resolvent : Lit → List Lit → List Lit → List Lit
lit_resolvent l c d = once are_same_lit (without are_same_lit l c ++ without are_same_lit (negated_lit l) d)
