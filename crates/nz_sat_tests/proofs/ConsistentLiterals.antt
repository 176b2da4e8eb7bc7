-- Literals none of which is the negation of another.
use Rattle.std.proofs.Common.{◌≡◌, ℕ, ◌+◌, ◌<◌, ◌≤◌, ◌==◌, true, false, true≢false, List, length, get_or, inl, inr, refl, sym, ap, subst, ◌∙◌, arith}
use Rattle.std.specs.Prelude.{Contains}
use Rattle.std.proofs.lemmas.Bool.{cases_eq, eq-eqb, eqb-true}
use Rattle.std.proofs.lemmas.List.{get_or_default}
use Rattle.std.proofs.lemmas.List.Elements.{All-contains}
use Rattle.nz_log.specs.declared.lits.Lit.{Lit}
use Rattle.nz_log.specs.Codes.{code_of}
use Rattle.nz_log.specs.Lits.{negated_lit}

-- none so far has its negation among these, nor has one more
pub one_consistent : (ls : List Lit) (i : ℕ) (n e : Lit) → i < length ls → n ≡ negated_lit (get_or ls i e)
    → ((k : ℕ) (d : Lit) → 0 ≤ k → k < length ls → (code_of (get_or ls k d) == code_of n) ≡ false)
    → ((k : ℕ) (d : Lit) → k < i → Contains ls (negated_lit (get_or ls k d)) → ⊥) → (k : ℕ) (d : Lit) → k < i + 1 → Contains ls (negated_lit (get_or ls k d)) → ⊥
one_consistent ls i n e inside is others before k d small has =
    elim (cases_eq k i) [
      | inl same ↦
          let there : Contains ls n =
          subst (Contains ls) (ap negated_lit (ap (λ (j : ℕ). get_or ls j d) same ∙ get_or_default ls i d e inside) ∙ sym is) has in
          true≢false (sym (eq-eqb (code_of n) (code_of n) refl)
          ∙ All-contains (λ (m : Lit). (code_of m == code_of n) ≡ false) ls n (λ j x below. others j x (omega arith) below) there)
      | inr differ ↦ before k d (omega (arith, differ)) has
    ]

-- the literals so far are on the atoms, and so is one more
pub one_on : (atoms : List ℕ) (ls : List Lit) (i : ℕ) (e : Lit) → i < length ls
    → ((k : ℕ) × (k < length atoms) × ((d : ℕ) → ((get_or atoms k d) == (get_or ls i e).atom) ≡ true))
    → ((k : ℕ) (d : Lit) → k < i → Contains atoms (get_or ls k d).atom) → (k : ℕ) (d : Lit) → k < i + 1 → Contains atoms (get_or ls k d).atom
one_on atoms ls i e inside at before k d small =
    elim (cases_eq k i) [
      | inl same ↦
          let it : (get_or ls k d).atom ≡ (get_or ls i e).atom = ap (λ (l : Lit). l.atom) (ap (λ (j : ℕ). get_or ls j d) same ∙ get_or_default ls i d e inside) in
          let a : ℕ = (get_or ls i e).atom in
          subst (Contains atoms) (sym it) (at.0, at.1, eqb-true (get_or atoms at.0 a) a (at.2 a))
      | inr differ ↦ before k d (omega (arith, differ))
    ]
