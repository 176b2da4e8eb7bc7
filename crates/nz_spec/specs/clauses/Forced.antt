-- Which truths and numbers of terms are settled while some Boolean constants are still open, by the truths of the others and by what units are worth.
-- Sources: Kleene, Introduction to Metamathematics, 1952, section 64 (the strong tables of three truth values); Dutertre and de Moura, A Fast
-- Linear-Arithmetic Solver for DPLL(T), CAV 2006, section 3 (numbers as sums of units).
use Rattle.std.specs.Prelude.{◌≡◌, Bool, false, true, not, List, Option, Some, Contains, ⊤, ◌⊎◌}
use Rattle.nz_fractions.specs.Fraction.{Fraction, ◌=ℚ◌, ◌+ℚ◌, fraction_eq, fraction_le, fraction_lt}
use Rattle.nz_spec.specs.terms.Term.{Constant, constant, verum, falsum, negation, conjunction, disjunction, exclusion, equality, choice, bool_sort, real_sort, less, at_most, Term, apply, Terms, no_terms, terms, truth, Assignment}
use Rattle.nz_spec.specs.terms.Form.{Numbering, unit_value}
use Rattle.nz_spec.specs.terms.FormOf.{form_of}
use Rattle.nz_spec.specs.clauses.Literal.{are_same_sign}
use Rattle.nz_spec.specs.clauses.Gates.{is_boolean_term}
use Rattle.nz_spec.specs.simplex.Basis.{Valuation, worth}

-- the truths of Boolean terms, none for those that are open
abbrev pub Truths : Type 0
Truths = Term → Option Bool

-- what a choice settles: its condition is true and so is what the first branch gives, or it is false and the second's is so, or both branches' are
abbrev pub GivesBranch : (holds fails first second : Type 0) → Type 0
GivesBranch holds fails first second = (holds × first) ⊎ ((fails × second) ⊎ (first × second))

-- what the form of a term is worth
abbrev pub worth_of : Numbering → Valuation → Term → Fraction
worth_of number v t = let f = (form_of number t).result in worth v f.parts +ℚ f.offset

module _ (number : Numbering) (truths : Truths) (v : Valuation) where
  abbrev mutual
    -- The term has this truth, whatever the open constants stand for.
    pub IsForced : Term → Bool → Type 0
    IsForced (apply (constant c) no_terms) sign = truths (apply (constant c) no_terms) ≡ Some sign
    IsForced (apply verum no_terms) true = ⊤
    IsForced (apply falsum no_terms) false = ⊤
    IsForced (apply negation (terms t no_terms)) sign = IsForced t (not sign)
    IsForced (apply conjunction ts) true = AreForced ts true
    IsForced (apply conjunction ts) false = IsOneForced ts false
    IsForced (apply disjunction ts) true = IsOneForced ts true
    IsForced (apply disjunction ts) false = AreForced ts false
    IsForced (apply exclusion (terms t (terms u no_terms))) sign = (b : Bool) × IsForced t b × IsForced u (are_same_sign (not sign) b)
    IsForced (apply equality (terms t (terms u no_terms))) sign =
        ((is_boolean_term t ≡ true) × (b : Bool) × IsForced t b × IsForced u (are_same_sign sign b))
        ⊎ ((is_boolean_term t ≡ false) × IsKnown t × IsKnown u × (fraction_eq (worth_of number v t) (worth_of number v u) ≡ sign))
    IsForced (apply less (terms t (terms u no_terms))) sign = IsKnown t × IsKnown u × (fraction_lt (worth_of number v t) (worth_of number v u) ≡ sign)
    IsForced (apply at_most (terms t (terms u no_terms))) sign = IsKnown t × IsKnown u × (fraction_le (worth_of number v t) (worth_of number v u) ≡ sign)
    IsForced (apply (choice bool_sort) (terms c (terms t (terms u no_terms)))) sign =
        GivesBranch (IsForced c true) (IsForced c false) (IsForced t sign) (IsForced u sign)
    IsForced t sign = ⊥

    -- each of them is forced so
    pub AreForced : Terms → Bool → Type 0
    AreForced no_terms sign = ⊤
    AreForced (terms t ts) sign = IsForced t sign × AreForced ts sign

    -- one of them is
    pub IsOneForced : Terms → Bool → Type 0
    IsOneForced no_terms sign = ⊥
    IsOneForced (terms t ts) sign = IsForced t sign ⊎ IsOneForced ts sign

    -- The number's form is worth what the number is, whatever the open constants stand for: where it chooses, the unit that it is has the worth of the branch.
    pub IsKnown : Term → Type 0
    IsKnown (apply (choice real_sort) (terms c (terms t (terms u no_terms)))) =
        GivesBranch (IsForced c true) (IsForced c false)
        (IsKnown t × (v (apply (choice real_sort) (terms c (terms t (terms u no_terms)))) =ℚ worth_of number v t))
        (IsKnown u × (v (apply (choice real_sort) (terms c (terms t (terms u no_terms)))) =ℚ worth_of number v u))
    IsKnown (apply h ts) = AreKnown ts

    pub AreKnown : Terms → Type 0
    AreKnown no_terms = ⊤
    AreKnown (terms t ts) = IsKnown t × AreKnown ts

-- The assignment gives the constants among these terms the truths that they have, and those that are numbers their worth.
pub record Agrees (truths : Truths) (v : Valuation) (a : Assignment) (parts : List Term) : Type 0 where
  pub constants : (c : Constant) (sign : Bool) → Contains parts (apply (constant c) no_terms) → truths (apply (constant c) no_terms) ≡ Some sign → a c ≡ truth sign
  pub numbers : (c : Constant) → Contains parts (apply (constant c) no_terms) → is_boolean_term (apply (constant c) no_terms) ≡ false
      → unit_value a (apply (constant c) no_terms) =ℚ v (apply (constant c) no_terms)
