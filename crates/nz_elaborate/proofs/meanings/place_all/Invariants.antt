use Rattle.std.proofs.Common.{◌<◌, length, map, take, All}
use Rattle.nz_spec.specs.terms.Term.{Terms}
use Rattle.nz_term.specs.Constants.{sort_of}
use Rattle.nz_elaborate.specs.Typed.{Grows, AreTyped}
use Rattle.nz_elaborate.proofs.DefinitionUses.{EachPlaced}
use Rattle.nz_elaborate.proofs.meanings.place_all.Given as goal

abbrev pub invariant-loop-i : goal.invariant-loop-i
invariant-loop-i l = record {
  grown : Grows l.fn.terms l.terms;
  within : All (λ i. i < length l.terms) l.ids.items;
  placed : (ts : Terms) → AreTyped l.fn.terms l.arguments ts → EachPlaced l.terms (map sort_of (take l.i l.sorts)) ts l.ids.items;
}
