-- Names in scope, and names that clash (SMT-LIB 2.6, section 3.6): what makes a symbol unknown, or declared already.
use Rattle.std.specs.Prelude.{ℕ, ◌||◌, not, Bool, false, List, [], ◌∷◌, ◌++◌}
use Rattle.nz_script.specs.commands.Expression.{Expression, written_number, written_name, written_use, written_let, Expressions, no_expressions, expressions, Locals, no_locals, locals, local_names}
use Rattle.nz_script.specs.commands.Parse.{is_one_of}
use Rattle.nz_script.specs.commands.Elaboration.{is_operator}

-- none of these bound names, and nothing was declared by it
abbrev pub is_unknown : (List ℕ → Bool) → List (List ℕ) → List ℕ → Bool
is_unknown is_live bound name = not (is_one_of bound name || is_live name)

-- Some name of a term isn't in scope, where these names are bound.
abbrev mutual
  pub has_unknown : (List ℕ → Bool) → List (List ℕ) → Expression → Bool
  has_unknown is_live bound (written_number n) = false
  has_unknown is_live bound (written_name name) = is_unknown is_live bound name
  has_unknown is_live bound (written_use name es) = is_unknown is_live bound name || have_unknown is_live bound es
  has_unknown is_live bound (written_let ls e) = locals_have_unknown is_live bound ls || has_unknown is_live (local_names ls ++ bound) e

  pub have_unknown : (List ℕ → Bool) → List (List ℕ) → Expressions → Bool
  have_unknown is_live bound no_expressions = false
  have_unknown is_live bound (expressions e es) = has_unknown is_live bound e || have_unknown is_live bound es

  pub locals_have_unknown : (List ℕ → Bool) → List (List ℕ) → Locals → Bool
  locals_have_unknown is_live bound no_locals = false
  locals_have_unknown is_live bound (locals name e ls) = has_unknown is_live bound e || locals_have_unknown is_live bound ls

-- Two of the names are one, or one is an operator's.
abbrev pub clash : List (List ℕ) → Bool
clash [] = false
clash (name ∷ names) = is_operator name || is_one_of names name || clash names

-- Some `let` of a term binds names that clash.
abbrev mutual
  pub has_clash : Expression → Bool
  has_clash (written_number n) = false
  has_clash (written_name name) = false
  has_clash (written_use name es) = have_clash es
  has_clash (written_let ls e) = clash (local_names ls) || locals_have_clash ls || has_clash e

  pub have_clash : Expressions → Bool
  have_clash no_expressions = false
  have_clash (expressions e es) = has_clash e || have_clash es

  pub locals_have_clash : Locals → Bool
  locals_have_clash no_locals = false
  locals_have_clash (locals name e ls) = has_clash e || locals_have_clash ls
