-- Clauses of which one literal is said to be so, by recursion on the clause.
use Rattle.std.proofs.Common.{◌⊎◌, inl, inr, [], ◌∷◌, ◌++◌, sym, subst, Contains}
use Rattle.nz_lists.proofs.Members.{has_cases, has_none}
use Rattle.nz_spec.specs.clauses.Literal.{Literal, Clause}

module _ (Says : Literal → Type 0) where
  abbrev pub OneSaid : Clause → Type 0
  OneSaid [] = ⊥
  OneSaid (l ∷ ls) = Says l ⊎ OneSaid ls

  pub said_from : (c : Clause) (l : Literal) → Contains c l → Says l → OneSaid c
  said_from [] l at has = absurd (has_none l at)
  said_from (m ∷ ms) l at has = elim (has_cases m l ms at) [ inl e ↦ inl (subst Says (sym e) has) | inr later ↦ inr (said_from ms l later has) ]

  pub said_parts : (c d : Clause) → OneSaid (c ++ d) → OneSaid c ⊎ OneSaid d
  said_parts [] d h = inr h
  said_parts (l ∷ ls) d (inl h) = inl (inl h)
  said_parts (l ∷ ls) d (inr h) = elim (said_parts ls d h) [ inl k ↦ inl (inr k) | inr k ↦ inr k ]
