-- What a clause of the code is.
use Rattle.std.specs.Prelude.{ℕ, List, map, Option, option_map}
use Rattle.nz_log.specs.declared.atoms.Atom.{Atom}
use Rattle.nz_log.specs.declared.origins.Axiom as code
use Rattle.nz_log.specs.declared.origins.Axiom.TheVariants.{Link, Unit, Farkas, Branch, Cut}
use Rattle.nz_log.specs.declared.origins.Origin as origins
use Rattle.nz_log.specs.declared.origins.Origin.TheVariants as origin
use Rattle.nz_log.specs.declared.origins.Stored.{Stored}
use Rattle.nz_log.specs.Axioms.{Axiom, link_of, unit_of, farkas_of, branch_of, cut_of}
use Rattle.nz_log.specs.Logs.{Origin, assertion_of, gate_of, axiom_of, chain_of, Entry, LogState}

abbrev pub axiom_in : code.Axiom → Axiom
axiom_in (Link t j) = link_of t j
axiom_in (Unit t j) = unit_of t j
axiom_in (Farkas ms) = farkas_of ms.items
axiom_in (Branch l) = branch_of l
axiom_in (Cut ms) = cut_of ms.items

abbrev pub origin_of : origins.Origin → Origin
origin_of (origin.Assertion k) = assertion_of k
origin_of (origin.Gate t j) = gate_of t j
origin_of (origin.Axiom a) = axiom_of (axiom_in a)
origin_of (origin.Chain first links) = chain_of first links.items

abbrev pub entry_of : Stored → Entry
entry_of s = record { literals = s.literals.items; level = s.level; origin = origin_of s.origin }

abbrev pub log_of : List (Option Stored) → List (Option ℕ) → List Atom → LogState
log_of clauses told atoms = record { entries = map (option_map entry_of) clauses; told = told; atoms = atoms }
