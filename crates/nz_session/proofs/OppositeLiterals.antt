-- Assumed literals that deny each other.
use Rattle.std.proofs.Common.{◌≡◌, ◌==◌, ◌<◌, ◌+◌, inl, inr, ℕ, Bool, true, false, not, cond, IsTrue, List, [], ◌∷◌, ◌++◌, length, take, drop, get_or, Option, Some, refl, sym, ap, ◌∙◌, subst, arith}
use Rattle.std.specs.Prelude.{All, Contains}
use Rattle.std.proofs.lemmas.Bool.Decides.{eqb_tells}
use Rattle.std.proofs.lemmas.List.{take-append-drop, take_more}
use Rattle.std.proofs.lemmas.List.Elements.{All-contains, All-from_recursion, All-push, All-weaker, Contains-append_left, Contains-append_right, Contains-get_or}
use Rattle.nz_lists.proofs.Elements.{AllByRecursion-map}
use Rattle.nz_spec.specs.terms.Term.{Term, is_true, value_of}
use Rattle.nz_spec.specs.terms.Normal.{NormalKeepsValue}
use Rattle.nz_spec.specs.terms.Table.{Node, term_in}
use Rattle.nz_spec.specs.clauses.Literal.{Literal, are_same_sign, is_literal_true}
use Rattle.nz_spec.specs.terms.Model.{IsUnsatisfiable}
use Rattle.nz_term.specs.declared.term_lits.TermLit.{TermLit}
use Rattle.nz_term.specs.TermLits.{turned, literal_of}
use Rattle.nz_sort.specs.Assuming.{AreAssumed}
use Rattle.nz_session.specs.Assumed.{DenyEachOther}
use Rattle.nz_session.proofs.LegalWork.{lits_true}

-- ---- Literals that deny each other

-- a literal and its negation aren't both true
contradict : (sign value : Bool) → IsTrue (are_same_sign sign value) → IsTrue (are_same_sign (not sign) value) → ⊥
contradict true true h k = absurd cc
contradict true false h k = absurd cc
contradict false true h k = absurd cc
contradict false false h k = absurd cc

-- so there is no model under them
pub no_model_denied : NormalKeepsValue → (ns : List Node) (asserted : List Term) (lits : List TermLit) (ls : List Literal) → AreAssumed ns lits ls → DenyEachOther lits → IsUnsatisfiable asserted ls
no_model_denied keeps ns asserted lits ls are d a m =
    let holds : Literal → Type 0 = λ l. IsTrue (is_literal_true a l) in
    let each = All-from_recursion (λ (l : TermLit). holds (literal_of ns l)) lits (AllByRecursion-map holds (literal_of ns) lits (lits_true keeps ns a lits ls are m.assumed_hold)) in
    contradict d.one.sign (is_true (value_of a (term_in ns d.one.term)))
    (All-contains (λ (l : TermLit). holds (literal_of ns l)) lits d.one each d.stands)
    (All-contains (λ (l : TermLit). holds (literal_of ns l)) lits (turned d.one) each d.denied)

contained_in_front : (ls : List TermLit) (k : ℕ) (l : TermLit) → Contains (take k ls) l → Contains ls l
contained_in_front ls k l h = subst (λ ms. Contains ms l) (take-append-drop k ls) (Contains-append_left (take k ls) (drop k ls) l h)

-- ---- Signs by the numbers of terms

-- what a map gives terms are the signs of these literals
pub record HasSigns (signs : ℕ → Option Bool) (ls : List TermLit) : Type 0 where
  pub lists : All (λ (l : TermLit). signs l.term ≡ Some l.sign) ls
  pub has : (i : ℕ) (sign : Bool) → signs i ≡ Some sign → (l : TermLit) × Contains ls l × (l.term ≡ i) × (l.sign ≡ sign)

some_sign : (a b : Bool) → Some a ≡ Some b → a ≡ b
some_sign a b e = cc

-- of one more, where it denies none of them
module _ (signs new : ℕ → Option Bool) (ls : List TermLit) (l : TermLit) (agree : (sign : Bool) → signs l.term ≡ Some sign → sign ≡ l.sign)
    (put : (i : ℕ) → new i ≡ cond (l.term == i) (Some l.sign) (signs i)) (h : HasSigns signs ls) where
  put_here : (i : ℕ) → (l.term == i) ≡ true → new i ≡ Some l.sign
  put_here i e = put i ∙ ap (λ b. cond b (Some l.sign) (signs i)) e

  put_there : (i : ℕ) → (l.term == i) ≡ false → new i ≡ signs i
  put_there i e = put i ∙ ap (λ b. cond b (Some l.sign) (signs i)) e

  listed_still : (m : TermLit) → signs m.term ≡ Some m.sign → new m.term ≡ Some m.sign
  listed_still m e =
      elim (eqb_tells l.term m.term) [
        | inl same ↦ put_here m.term same.0 ∙ ap Some (sym (agree m.sign (ap signs same.1 ∙ e)))
        | inr other ↦ put_there m.term other.0 ∙ e
      ]

  listed_here : new l.term ≡ Some l.sign
  listed_here =
      elim (eqb_tells l.term l.term) [
        | inl same ↦ put_here l.term same.0
        | inr other ↦ absurd (other.1 refl)
      ]

  has_more : (i : ℕ) (sign : Bool) → new i ≡ Some sign → (m : TermLit) × Contains (ls ++ l ∷ []) m × (m.term ≡ i) × (m.sign ≡ sign)
  has_more i sign e =
      elim (eqb_tells l.term i) [
        | inl same ↦ (l, Contains-append_right ls (l ∷ []) l (0, omega arith, refl), same.1, some_sign l.sign sign (sym (put_here i same.0) ∙ e))
        | inr other ↦
            let m = h.has i sign (sym (put_there i other.0) ∙ e) in
            (m.0, Contains-append_left ls (l ∷ []) m.0 m.1, m.2, m.3)
      ]

  signs_push : HasSigns new (ls ++ l ∷ [])
  signs_push =
      let old : TermLit → Type 0 = λ m. signs m.term ≡ Some m.sign in
      let listed : TermLit → Type 0 = λ m. new m.term ≡ Some m.sign in
      record { lists = All-push listed ls l (All-weaker old listed listed_still ls h.lists) listed_here; has = has_more }

pub signs_more : (signs new : ℕ → Option Bool) (ls : List TermLit) (k : ℕ) (d l : TermLit) → k < length ls → l ≡ get_or ls k d → ((sign : Bool) → signs l.term ≡ Some sign → sign ≡ l.sign)
    → ((i : ℕ) → new i ≡ cond (l.term == i) (Some l.sign) (signs i)) → HasSigns signs (take k ls) → HasSigns new (take (k + 1) ls)
signs_more signs new ls k d l below is agree put h =
    subst (HasSigns new) (ap (λ m. take k ls ++ m ∷ []) is ∙ sym (take_more ls k d below)) (signs_push signs new (take k ls) l agree put h)

-- a literal of another sign than the map has is the negation of one of them
pub denies_one : (signs : ℕ → Option Bool) (ls : List TermLit) (k : ℕ) (d l : TermLit) → k < length ls → l ≡ get_or ls k d → signs l.term ≡ Some (not l.sign) → HasSigns signs (take k ls) → DenyEachOther ls
denies_one signs ls k d l below is e h =
    let one = h.has l.term (not l.sign) e in
    let denied : one.0 ≡ turned l = λ i. let m : TermLit = record { term = one.2 i; sign = one.3 i } in m in
    record {
      one = l;
      stands = subst (Contains ls) (sym is) (Contains-get_or ls k d below);
      denied = subst (Contains ls) denied (contained_in_front ls k one.0 one.1);
    }
