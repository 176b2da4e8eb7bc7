-- Operators over arguments that are in the table.
use Rattle.std.proofs.Common.{[], ◌≡◌, ℕ, suc, ◌+◌, ◌<◌, ◌≤◌, Bool, true, false, ◌&&◌, ◌||◌, List, ◌∷◌, ◌++◌, length, drop, get_or, All, Some, None, refl, sym, ap, ◌∙◌, subst, add-one}
use Rattle.std.specs.List.{list_all}
use Rattle.std.proofs.Math.Seq.{drop-cons}
use Rattle.std.proofs.lemmas.List.{drop_all}
use Rattle.nz_spec.specs.terms.Term as spec
use Rattle.nz_spec.specs.terms.Term.{Sort, bool_sort, int_sort, real_sort, Term, apply, Terms, no_terms, terms, head_sort, are_same_sort}
use Rattle.nz_spec.specs.terms.Normal.{normal_of, normals_of, normal_node}
use Rattle.nz_spec.specs.terms.Table.{Node, term_in, terms_at}
use Rattle.nz_spec.specs.terms.Operators.{Operator, Operands, all_terms, term_count, takes, operands_of, operand_sort, operator_head, read_at, applied}
use Rattle.nz_term.specs.Constants.{sort_of}
use Rattle.nz_elaborate.specs.declared.typed.Typed.{Typed}
use Rattle.nz_elaborate.specs.Typed.{Grows, StandsFor, IsTyped, AreTyped, HasApplied, HasRead, read_term, terms_before}
use Rattle.nz_elaborate.proofs.TableGrowth.{next_term, before-none}
use Rattle.nz_elaborate.proofs.TypedPreservation.{typed_kept}

-- ---- Arguments and their terms

pub count_typed : (ns : List Node) (xs : List Typed) (ts : Terms) → AreTyped ns xs ts → length xs ≡ term_count ts
count_typed ns [] no_terms a = refl
count_typed ns [] (terms t ts) a = absurd a
count_typed ns (x ∷ xs) no_terms a = absurd a
count_typed ns (x ∷ xs) (terms t ts) a = ap suc (count_typed ns xs ts a.1)

abbrev pub is_number_sort : Sort → Bool
is_number_sort s = are_same_sort int_sort s || are_same_sort real_sort s

-- a test of the sorts is one of the sorts of the terms
pub sorts_typed : (test : Sort → Bool) (ns : List Node) (xs : List Typed) (ts : Terms) → AreTyped ns xs ts
    → list_all (λ (x : Typed). test (sort_of x.sort)) xs ≡ all_terms (λ (t : Term). test (spec.sort_of t)) ts
sorts_typed test ns [] no_terms a = refl
sorts_typed test ns [] (terms t ts) a = absurd a
sorts_typed test ns (x ∷ xs) no_terms a = absurd a
sorts_typed test ns (x ∷ xs) (terms t ts) a =
    ap (λ s. test s && list_all (λ (y : Typed). test (sort_of y.sort)) xs) a.0.sort
    ∙ ap (λ b. test (spec.sort_of t) && b) (sorts_typed test ns xs ts a.1)

-- ---- Which operators take which arguments

pub applied_is : (o : Operator) (s : Sort) (ts : Terms) → takes o (term_count ts) ≡ true → operand_sort (operands_of o) ts ≡ Some s
    → applied o ts ≡ Some (apply (operator_head o s) (read_at s ts))
applied_is o s ts e f = rw (e, f) refl

pub applied_no_count : (o : Operator) (ts : Terms) → takes o (term_count ts) ≡ false → applied o ts ≡ None
applied_no_count o ts e = rw e refl

pub applied_no_operands : (o : Operator) (ts : Terms) → takes o (term_count ts) ≡ true → operand_sort (operands_of o) ts ≡ None → applied o ts ≡ None
applied_no_operands o ts e f = rw (e, f) refl

-- what an operator makes of arguments that are read at a sort
pub applied_makes : (o : Operator) (s : Sort) (ts : Terms) (mid new : List Node) (ids : List ℕ) (x : Typed)
    → takes o (term_count ts) ≡ true → operand_sort (operands_of o) ts ≡ Some s → HasRead s ts mid ids
    → StandsFor new x.id (normal_node (operator_head o s) (terms_at (term_in mid) ids)) → sort_of x.sort ≡ head_sort (operator_head o s)
    → HasApplied o ts new x
applied_makes o s ts mid new ids x e f read made sort =
    record {
      term = apply (operator_head o s) (read_at s ts);
      is = applied_is o s ts e f;
      typed = record { within = made.within; normal = made.term ∙ ap (normal_node (operator_head o s)) read.terms; sort = sort };
    }

-- ---- Arguments that are read at a sort

read_next : (s : Sort) (t : Term) (ts : Terms) → read_at s (terms t ts) ≡ terms (read_term s t) (read_at s ts)
read_next bool_sort t ts = refl
read_next int_sort t ts = refl
read_next real_sort t ts = refl

read_none : (s : Sort) → read_at s no_terms ≡ no_terms
read_none bool_sort = refl
read_none int_sort = refl
read_none real_sort = refl

-- The numbers so far, and what is left to be read, are the whole.
pub record IsReading (s : Sort) (old new : List Node) (left : List Typed) (ids : List ℕ) (ts : Terms) : Type 0 where
  pub rest : Terms
  pub typed : AreTyped old left rest
  pub whole : terms_before (term_in new) ids (normals_of (read_at s rest)) ≡ normals_of (read_at s ts)

reads : (s : Sort) (old mid new : List Node) (x : Typed) (left : List Typed) (ids items : List ℕ) (id : ℕ) (rest ts : Terms) → Grows old mid → Grows mid new
    → All (λ i. i < length mid) ids → ((t : Term) → IsTyped mid x t → StandsFor new id (normal_of (read_term s t))) → items ≡ ids ++ id ∷ []
    → AreTyped old (x ∷ left) rest → terms_before (term_in mid) ids (normals_of (read_at s rest)) ≡ normals_of (read_at s ts)
    → IsReading s old new left items ts
reads s old mid new x left ids items id no_terms ts g h within read e a whole = absurd a
reads s old mid new x left ids items id (terms t us) ts g h within read e a whole =
    record {
      rest = us;
      typed = a.1;
      whole = next_term mid new ids items id (normal_of (read_term s t)) (normals_of (read_at s us)) h within (read t (typed_kept old mid g x t a.0)) e
          ∙ ap (λ vs. terms_before (term_in mid) ids (normals_of vs)) (sym (read_next s t us))
          ∙ whole;
    }

-- one argument more
pub reading_next : (s : Sort) (old mid new : List Node) (x z : Typed) (xs : List Typed) (ids items : List ℕ) (i id : ℕ) (ts : Terms) → Grows old mid → Grows mid new
    → i < length xs → x ≡ get_or xs i z → All (λ j. j < length mid) ids → ((t : Term) → IsTyped mid x t → StandsFor new id (normal_of (read_term s t)))
    → items ≡ ids ++ id ∷ [] → IsReading s old mid (drop i xs) ids ts → IsReading s old new (drop (i + 1) xs) items ts
reading_next s old mid new x z xs ids items i id ts g h below is within read e reading =
    let cut : drop i xs ≡ x ∷ drop (i + 1) xs = drop-cons xs i z below ∙ ap (λ y. y ∷ drop (suc i) xs) (sym is) ∙ ap (λ n. x ∷ drop n xs) (sym (add-one i)) in
    reads s old mid new x (drop (i + 1) xs) ids items id reading.rest ts g h within read e (subst (λ l. AreTyped old l reading.rest) cut reading.typed) reading.whole

-- nothing is left
read_all : (s : Sort) (old new : List Node) (ids : List ℕ) (rest ts : Terms) → All (λ j. j < length new) ids → AreTyped old [] rest
    → terms_before (term_in new) ids (normals_of (read_at s rest)) ≡ normals_of (read_at s ts) → HasRead s ts new ids
read_all s old new ids no_terms ts within a whole =
    record { within = within; terms = sym (before-none (term_in new) ids) ∙ sym (ap (λ vs. terms_before (term_in new) ids (normals_of vs)) (read_none s)) ∙ whole }
read_all s old new ids (terms t us) ts within a whole = absurd a

pub reading_ends : (s : Sort) (old new : List Node) (xs : List Typed) (ids : List ℕ) (i : ℕ) (ts : Terms) → length xs ≤ i → All (λ j. j < length new) ids
    → IsReading s old new (drop i xs) ids ts → HasRead s ts new ids
reading_ends s old new xs ids i ts above within reading =
    read_all s old new ids reading.rest ts within (subst (λ l. AreTyped old l reading.rest) (drop_all i xs above) reading.typed) reading.whole

-- ---- An operator over such arguments

pub refused_count : (o : Operator) (ns : List Node) (xs : List Typed) (ts : Terms) → takes o (length xs) ≡ false → AreTyped ns xs ts → applied o ts ≡ None
refused_count o ns xs ts h a = applied_no_count o ts (ap (takes o) (sym (count_typed ns xs ts a)) ∙ h)

pub refused_operands : (o : Operator) (k : Operands) (ns : List Node) (xs : List Typed) (ts : Terms) → takes o (length xs) ≡ true → k ≡ operands_of o
    → None ≡ operand_sort k ts → AreTyped ns xs ts → applied o ts ≡ None
refused_operands o k ns xs ts h same none a =
    applied_no_operands o ts (ap (takes o) (sym (count_typed ns xs ts a)) ∙ h) (ap (λ j. operand_sort j ts) (sym same) ∙ sym none)

pub applied_to : (o : Operator) (k : Operands) (s : Sort) (ns mid new : List Node) (xs : List Typed) (ids : List ℕ) (x : Typed) (ts : Terms) → takes o (length xs) ≡ true
    → k ≡ operands_of o → Some s ≡ operand_sort k ts → HasRead s ts mid ids → StandsFor new x.id (normal_node (operator_head o s) (terms_at (term_in mid) ids))
    → sort_of x.sort ≡ head_sort (operator_head o s) → AreTyped ns xs ts → HasApplied o ts new x
applied_to o k s ns mid new xs ids x ts h same operands read made sort a =
    applied_makes o s ts mid new ids x (ap (takes o) (sym (count_typed ns xs ts a)) ∙ h) (ap (λ j. operand_sort j ts) (sym same) ∙ sym operands) read made sort
