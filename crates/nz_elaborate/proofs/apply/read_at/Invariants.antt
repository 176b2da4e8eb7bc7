use Rattle.std.proofs.Common.{◌<◌, length, drop, All}
use Rattle.nz_spec.specs.terms.Term.{Terms}
use Rattle.nz_term.specs.Constants.{sort_of}
use Rattle.nz_elaborate.specs.Typed.{Grows, AreTyped}
use Rattle.nz_elaborate.proofs.OperatorApplications.{IsReading}
use Rattle.nz_elaborate.proofs.apply.read_at.Given as goal

-- the numbers so far, and what is left to be read, are the whole
abbrev pub invariant-loop-argument : goal.invariant-loop-argument
invariant-loop-argument l = record {
  grown : Grows l.fn.terms l.terms;
  within : All (λ i. i < length l.terms) l.ids.items;
  reading : (ts : Terms) → AreTyped l.fn.terms l.arguments ts → IsReading (sort_of l.sort) l.fn.terms l.terms (drop l.argument-index l.arguments) l.ids.items ts;
}
