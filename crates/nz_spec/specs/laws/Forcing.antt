-- Terms that are forced have their values under each assignment that agrees, so an answer may leave atoms open; and the clauses of the signs with which terms
-- are needed force what is asserted.
-- Sources: Kleene, Introduction to Metamathematics, 1952, section 64 (what the strong tables give stays, whatever the open truths turn out to be); Plaisted and
-- Greenbaum, A Structure-Preserving Clause Form Translation, 1986 (half of a gate's clauses suffices where it has one sign).
use Rattle.std.specs.Prelude.{◌≡◌, Bool, true, false, IsTrue, List, Some}
use Rattle.std.specs.List.{AllByRecursion}
use Rattle.nz_fractions.specs.Fraction.{◌=ℚ◌}
use Rattle.nz_spec.specs.terms.Term.{Term, truth, Assignment, value_of}
use Rattle.nz_spec.specs.terms.Model.{IsAssignment}
use Rattle.nz_spec.specs.terms.Order.{post_order}
use Rattle.nz_spec.specs.terms.Form.{Numbering, unit_value}
use Rattle.nz_spec.specs.clauses.Literal.{term_literal, is_literal_true, Clause, IsClauseTrue}
use Rattle.nz_spec.specs.clauses.Gates.{is_boolean_term}
use Rattle.nz_spec.specs.clauses.Forced.{Truths, worth_of, IsForced, IsKnown, Agrees}
use Rattle.nz_spec.specs.clauses.Polarity.{Need, conjuncts, literal_of, own_clauses, needed_clauses, needs_of, stating_clauses}
use Rattle.nz_spec.specs.simplex.Basis.{Valuation}
use Rattle.nz_spec.specs.terms.Taken.{IsTaken}
use Rattle.nz_spec.specs.clauses.Met.{IsMet, HasMetLiteral}

-- ---- Clauses that are met

abbrev pub HaveMetLiterals : Truths → Valuation → List Clause → Type 0
HaveMetLiterals truths v cs = AllByRecursion (HasMetLiteral truths v) cs

abbrev pub AreNeeded : (Term → Bool → Bool) → List Need → Type 0
AreNeeded is_needed ns = AllByRecursion (λ (n : Need). is_needed n.term n.sign ≡ true) ns

module _ (number : Numbering) (opened : Term → Bool) (truths : Truths) (v : Valuation) (is_needed : Term → Bool → Bool) where
  -- The clauses of all that is needed have literals that are met, and what that needs is needed too.
  pub record MeetsNeeds : Type 0 where
    pub clauses : (t : Term) (sign : Bool) → is_needed t sign ≡ true → HaveMetLiterals truths v (needed_clauses number opened t sign)
    pub closed : (t : Term) (sign : Bool) → is_needed t sign ≡ true → AreNeeded is_needed (needs_of number opened t sign)

  -- the clauses that state the term with this sign are met, and what it needs is needed
  pub record IsStated (t : Term) (sign : Bool) : Type 0 where
    pub clauses : HaveMetLiterals truths v (stating_clauses number opened t sign)
    pub needs : AreNeeded is_needed (needs_of number opened t sign)

  -- so of all that an asserted term says
  abbrev pub IsAsserted : Term → Bool → Type 0
  IsAsserted t sign = AllByRecursion (λ (n : Need). IsStated n.term n.sign) (conjuncts t sign)

  -- its own atom has this truth, as that of an assumed term has, and its clauses are met
  pub record IsNamed (t : Term) (sign : Bool) : Type 0 where
    pub atom : truths t ≡ Some sign
    pub clauses : HaveMetLiterals truths v (own_clauses number opened t sign)
    pub needs : AreNeeded is_needed (needs_of number opened t sign)

-- ---- Laws

-- Where an assignment agrees, a term has the truth that is forced, and a known number is what its form is worth. No term is forced to both truths.
pub record ForcedTermsHaveValues : Type 0 where
  pub truths : (number : Numbering) (a : Assignment) (truths : Truths) (v : Valuation) (t : Term) (sign : Bool) → IsTaken t → IsAssignment a
      → Agrees truths v a (post_order t) → is_boolean_term t ≡ true → IsForced number truths v t sign → value_of a t ≡ truth sign
  pub numbers : (number : Numbering) (a : Assignment) (truths : Truths) (v : Valuation) (t : Term) → IsTaken t → IsAssignment a
      → Agrees truths v a (post_order t) → is_boolean_term t ≡ false → IsKnown number truths v t → unit_value a t =ℚ worth_of number v t
  pub once : (number : Numbering) (truths : Truths) (v : Valuation) (t : Term) → IsForced number truths v t true → IsForced number truths v t false → ⊥

-- Clauses that are met force what is needed to be as the literals on it say, what is asserted, and what an atom of its own names.
pub record NeededClausesForce : Type 0 where
  pub needed : (number : Numbering) (opened : Term → Bool) (truths : Truths) (v : Valuation) (is_needed : Term → Bool → Bool)
      → MeetsNeeds number opened truths v is_needed → (t : Term) (sign : Bool) → IsTaken t → is_boolean_term t ≡ true
      → is_needed t sign ≡ true → IsMet truths v (literal_of number t sign) → IsForced number truths v t sign
  pub known : (number : Numbering) (opened : Term → Bool) (truths : Truths) (v : Valuation) (is_needed : Term → Bool → Bool)
      → MeetsNeeds number opened truths v is_needed → (t : Term) → IsTaken t → is_boolean_term t ≡ false
      → is_needed t true ≡ true → IsKnown number truths v t
  pub asserted : (number : Numbering) (opened : Term → Bool) (truths : Truths) (v : Valuation) (is_needed : Term → Bool → Bool)
      → MeetsNeeds number opened truths v is_needed → (t : Term) (sign : Bool) → IsTaken t → is_boolean_term t ≡ true
      → IsAsserted number opened truths v is_needed t sign → IsForced number truths v t sign
  pub named : (number : Numbering) (opened : Term → Bool) (truths : Truths) (v : Valuation) (is_needed : Term → Bool → Bool)
      → MeetsNeeds number opened truths v is_needed → (t : Term) (sign : Bool) → IsTaken t → is_boolean_term t ≡ true
      → IsNamed number opened truths v is_needed t sign → IsForced number truths v t sign

-- So they have these truths under each assignment that agrees.
pub record AssertedTermsAreTrue : Type 0 where
  pub asserted : (number : Numbering) (opened : Term → Bool) (a : Assignment) (truths : Truths) (v : Valuation) (is_needed : Term → Bool → Bool)
      → MeetsNeeds number opened truths v is_needed → (t : Term) (sign : Bool) → IsTaken t → is_boolean_term t ≡ true → IsAssignment a
      → Agrees truths v a (post_order t) → IsAsserted number opened truths v is_needed t sign → value_of a t ≡ truth sign
  pub named : (number : Numbering) (opened : Term → Bool) (a : Assignment) (truths : Truths) (v : Valuation) (is_needed : Term → Bool → Bool)
      → MeetsNeeds number opened truths v is_needed → (t : Term) (sign : Bool) → IsTaken t → is_boolean_term t ≡ true → IsAssignment a
      → Agrees truths v a (post_order t) → IsNamed number opened truths v is_needed t sign → value_of a t ≡ truth sign

-- The clauses exclude no model: they are true under each assignment of the sorts where atoms stand for their terms, and those that state a term where it is so.
pub record NeededClausesAreTrue : Type 0 where
  pub needed : (number : Numbering) (opened : Term → Bool) (a : Assignment) → IsAssignment a → (t : Term) (sign : Bool) → IsTaken t
      → AllByRecursion (IsClauseTrue a) (needed_clauses number opened t sign)
  pub own : (number : Numbering) (opened : Term → Bool) (a : Assignment) → IsAssignment a → (t : Term) (sign : Bool) → IsTaken t
      → AllByRecursion (IsClauseTrue a) (own_clauses number opened t sign)
  pub asserted : (number : Numbering) (opened : Term → Bool) (a : Assignment) → IsAssignment a → (t : Term) (sign : Bool) → IsTaken t
      → IsTrue (is_literal_true a (term_literal t sign))
      → AllByRecursion (λ (n : Need). AllByRecursion (IsClauseTrue a) (stating_clauses number opened n.term n.sign)) (conjuncts t sign)
