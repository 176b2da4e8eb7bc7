-- What is found of assumptions.
use Rattle.std.specs.Prelude.{◌≡◌, ◌||◌, Bool, true, false, List, [], ◌∷◌, ◌++◌, Option, Some, None, ⊤}
use Rattle.std.specs.List.{list_any}
use Rattle.nz_spec.specs.clauses.Literal.{Literal}
use Rattle.nz_spec.specs.terms.Table.{Node}
use Rattle.nz_script.specs.commands.Request.{Assumption}
use Rattle.nz_script.specs.live.Live.{State}
use Rattle.nz_script.specs.commands.Script.{assumes_unknown, assumes_integer, assumed_literal, assumed_literals}
use Rattle.nz_term.specs.declared.term_lits.TermLit.{TermLit}
use Rattle.nz_sort.specs.declared.assuming.FoundAssumption.{FoundAssumption}
use Rattle.nz_sort.specs.declared.assuming.FoundAssumptions.{FoundAssumptions}
use Rattle.nz_sort.specs.Assuming.{IsAssumed, AreAssumed}

-- what an assumption assumes, where it assumes anything
abbrev pub IsFoundLiteral : List Node → Option TermLit → Option Literal → Type 0
IsFoundLiteral ns (Some x) (Some l) = IsAssumed ns x l
IsFoundLiteral ns None None = ⊤
IsFoundLiteral ns x l = ⊥

-- This is what is found of an assumption in this state.
pub record IsFoundAs (s : State) (x : Assumption) (ns : List Node) (f : FoundAssumption) : Type 0 where
  pub integer : f.holds_integer ≡ assumes_integer s x
  pub unknown : f.is_unknown ≡ assumes_unknown s x
  pub literal : IsFoundLiteral ns f.literal (assumed_literal s x)

-- they assume these literals, one for one, or one of them assumes none
abbrev pub AreFoundLiterals : List Node → Bool → List TermLit → Option (List Literal) → Type 0
AreFoundLiterals ns missorted xs (Some ls) = (missorted ≡ false) × AreAssumed ns xs ls
AreFoundLiterals ns missorted xs None = missorted ≡ true

-- This is what is found of assumptions.
pub record HasFound (s : State) (xs : List Assumption) (ns : List Node) (f : FoundAssumptions) : Type 0 where
  pub integers : f.holds_integer ≡ list_any (assumes_integer s) xs
  pub unknown : f.is_unknown ≡ list_any (assumes_unknown s) xs
  pub literals : AreFoundLiterals ns f.is_missorted f.literals.items (assumed_literals s xs)

-- the literals with one more, or without
abbrev pub IsWithLiteral : FoundAssumptions → Option TermLit → FoundAssumptions → Type 0
IsWithLiteral before (Some x) after = (after.literals.items ≡ before.literals.items ++ x ∷ []) × (after.is_missorted ≡ before.is_missorted)
IsWithLiteral before None after = after.is_missorted ≡ true

-- This is what is found of assumptions and of one more.
pub record IsWithOne (before : FoundAssumptions) (one : FoundAssumption) (after : FoundAssumptions) : Type 0 where
  pub integers : after.holds_integer ≡ (before.holds_integer || one.holds_integer)
  pub unknown : after.is_unknown ≡ (before.is_unknown || one.is_unknown)
  pub literals : IsWithLiteral before one.literal after
