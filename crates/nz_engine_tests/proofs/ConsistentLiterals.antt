-- Literals none of which is the negation of another.
use Rattle.std.proofs.Common.{◌≡◌, ℕ, ◌+◌, ◌<◌, ◌≤◌, ◌==◌, ◌&&◌, Bool, true, false, true≢false, List, length, get_or, inl, inr, refl, sym, ap, subst, ◌∙◌, arith}
use Rattle.std.specs.Prelude.{Contains}
use Rattle.std.proofs.Math.Bool.{beq}
use Rattle.std.proofs.lemmas.Bool.{cases_eq, eq-eqb}
use Rattle.std.proofs.lemmas.List.{get_or_default}
use Rattle.std.proofs.lemmas.List.Elements.{All-contains}
use Rattle.nz_term.specs.declared.term_lits.TermLit.{TermLit}
use Rattle.nz_term.specs.TermLits.{turned}

same_sign : (s : Bool) → beq s s ≡ true
same_sign true = refl
same_sign false = refl

same_itself : (l : TermLit) → ((l.term == l.term) && beq l.sign l.sign) ≡ true
same_itself l = ap (λ (b : Bool). b && beq l.sign l.sign) (eq-eqb l.term l.term refl) ∙ same_sign l.sign

-- none so far has its negation among these, nor has one more
pub one_consistent : (ls : List TermLit) (i : ℕ) (n e : TermLit) → i < length ls → n ≡ turned (get_or ls i e)
    → ((k : ℕ) (d : TermLit) → 0 ≤ k → k < length ls → (((get_or ls k d).term == n.term) && beq (get_or ls k d).sign n.sign) ≡ false)
    → ((k : ℕ) (d : TermLit) → k < i → Contains ls (turned (get_or ls k d)) → ⊥) → (k : ℕ) (d : TermLit) → k < i + 1 → Contains ls (turned (get_or ls k d)) → ⊥
one_consistent ls i n e inside is others before k d small has =
    elim (cases_eq k i) [
      | inl same ↦
          let there : Contains ls n =
          subst (Contains ls) (ap turned (ap (λ (j : ℕ). get_or ls j d) same ∙ get_or_default ls i d e inside) ∙ sym is) has in
          true≢false (sym (same_itself n)
          ∙ All-contains (λ (m : TermLit). ((m.term == n.term) && beq m.sign n.sign) ≡ false) ls n (λ j x below. others j x (omega arith) below) there)
      | inr differ ↦ before k d (omega (arith, differ)) has
    ]
