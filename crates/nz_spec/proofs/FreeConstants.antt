-- Where nothing is asked for and only constants are listed, they can have all truths that were decided: the search comes to no dead end.
use Rattle.std.proofs.Common.{◌≡◌, ◌⊎◌, ℕ, Bool, true, false, List, [], ◌∷◌, Contains, map, slice_get, slice_index_or, Option, Some, inl, inr, refl, sym, ap, subst, ◌∙◌, true≢false}
use Rattle.std.specs.Prelude.{unwrap_or, IsTrue, if◌then◌else◌}
use Rattle.std.proofs.lemmas.List.Elements.{All-contains, Contains-append_left}
use Rattle.std.proofs.lemmas.Option.{slice_get-get_or}
use Rattle.nz_lists.proofs.Members.{by_each, has_cases, has_first, has_more, has_none, map_from, map_has}
use Rattle.nz_spec.specs.terms.Term.{Sort, bool_sort, int_sort, real_sort, Constant, are_same_constant, constant, Term, apply, no_terms, Value, truth, Assignment, is_true, default_value, IsOfSort, IsTrueUnder}
use Rattle.nz_spec.specs.terms.Model.{Binding, assignment_of, IsAssignment}
use Rattle.nz_spec.specs.clauses.Literal.{Literal, term_literal, are_same_sign, is_literal_true}
use Rattle.nz_spec.specs.clauses.Gates.{holds, IsGated}
use Rattle.nz_spec.specs.search.Search.{Task, literals_asked, Search, never, signed_literal, literal_by, literals_by, MayBe}
use Rattle.nz_spec.specs.search.Legal.{IsDeadEnd}
use Rattle.nz_spec.specs.laws.BooleanWork.{IsConstantTerm, IsBooleanTask}
use Rattle.nz_spec.proofs.BooleanDecisions.{IsCounted, atom_listed, one_atom, one_decision, term_said, term_at}
use Rattle.nz_spec.proofs.BooleanStates.{IsPlain, gated}
use Rattle.nz_spec.proofs.LegalWork.{StandApart}
use Rattle.nz_spec.proofs.Tables.{same_constant, constant_itself}

-- ---- Bindings

default_is : (s : Sort) → IsOfSort s (default_value s)
default_is bool_sort = tt
default_is int_sort = refl
default_is real_sort = tt

-- values of their constants' sorts make an assignment
assigned : (bs : List Binding) → ((b : Binding) → Contains bs b → IsOfSort b.constant.sort b.value) → IsAssignment (assignment_of bs)
assigned [] fit c = default_is c.sort
assigned (b ∷ bs) fit c = by_test (are_same_constant b.constant c) refl (assigned bs (λ d has. fit d (has_more b d bs has)) c)
  where
    by_test : (t : Bool) → are_same_constant b.constant c ≡ t → IsOfSort c.sort (assignment_of bs c) → IsOfSort c.sort (if t then b.value else assignment_of bs c)
    by_test true e rest = subst (λ (d : Constant). IsOfSort d.sort b.value) (same_constant b.constant c e) (fit b (has_first b bs))
    by_test false e rest = rest

-- a constant has the value of its binding, where no other is bound to it
value_found : (bs : List Binding) (b : Binding) → Contains bs b → ((d : Binding) → Contains bs d → d.constant ≡ b.constant → d.value ≡ b.value)
    → assignment_of bs b.constant ≡ b.value
value_found [] b has one = absurd (has_none b has)
value_found (d ∷ bs) b has one =
    by_test (are_same_constant d.constant b.constant) refl (has_cases d b bs has) (λ more. value_found bs b more (λ e there. one e (has_more d e bs there)))
  where
    by_test : (t : Bool) → are_same_constant d.constant b.constant ≡ t → (d ≡ b) ⊎ Contains bs b → (Contains bs b → assignment_of bs b.constant ≡ b.value)
        → (if t then d.value else assignment_of bs b.constant) ≡ b.value
    by_test true e where_it_is behind = one d (has_first d bs) (same_constant d.constant b.constant e)
    by_test false e (inl same) behind =
        absurd (true≢false (sym (constant_itself b.constant) ∙ ap (λ (c : Binding). are_same_constant c.constant b.constant) (sym same) ∙ e))
    by_test false e (inr more) behind = behind more

-- what a literal on a constant binds it to
abbrev binding_said : Literal → Binding
binding_said (term_literal (apply (constant c) ts) sign) = record { constant = c; value = truth sign }
binding_said l = record { constant = record { name = []; sort = bool_sort }; value = truth false }

abbrev on_constant : Constant → Bool → Literal
on_constant c sign = term_literal (apply (constant c) no_terms) sign

-- a signed literal on a constant is one on it
signed_constant : (c : Constant) (a b : Bool) → (sign : Bool) × (signed_literal (on_constant c a) b ≡ on_constant c sign)
signed_constant c true true = (true, refl)
signed_constant c true false = (false, refl)
signed_constant c false true = (false, refl)
signed_constant c false false = (true, refl)

same_signs : (b : Bool) → are_same_sign b b ≡ true
same_signs true = refl
same_signs false = refl

constant_true : (a : Assignment) (c : Constant) (sign : Bool) → a c ≡ truth sign → IsTrue (is_literal_true a (on_constant c sign))
constant_true a c sign e = ap (λ (v : Value). are_same_sign sign (is_true v)) e ∙ same_signs sign

-- ---- The decided constants

module _ (q : Task) (boolean : IsBooleanTask q) (nothing : literals_asked q ≡ []) (s : Search) (plain : IsPlain q boolean s) (apart : StandApart s) (counted : IsCounted q boolean s) where
  -- what is decided is that a Boolean constant is true, or false
  record IsOfConstant (p : ℕ × Bool) : Type 0 where
    which : Constant
    sort : which.sort ≡ bool_sort
    sign : Bool
    is : literal_by s.atoms p ≡ on_constant which sign
    term : term_at s p.0 ≡ apply (constant which) no_terms

  decided_constant : (p : ℕ × Bool) → Contains s.decided p → IsOfConstant p
  decided_constant p has =
      let (t, a, listed, own) = atom_listed q boolean s plain apart p.0 (counted.named p has) in
      let (c, alone) = All-contains IsConstantTerm q.listed t (boolean.constants nothing) listed in
      let atom : slice_index_or s.atoms p.0 never ≡ on_constant c a = own ∙ ap (λ (u : Term). term_literal u a) alone in
      let (sign, signed) = signed_constant c a p.1 in
      record {
        which = c;
        sort = (subst IsGated alone (gated q boolean t listed)).0;
        sign = sign;
        is = ap (λ (l : Literal). signed_literal l p.1) atom ∙ signed;
        term = ap term_said atom;
      }

  abbrev bound_by : ℕ × Bool → Binding
  bound_by p = binding_said (literal_by s.atoms p)

  abbrev bindings : List Binding
  bindings = map bound_by s.decided

  binding_is : (p : ℕ × Bool) (o : IsOfConstant p) → bound_by p ≡ record { constant = o.which; value = truth o.sign }
  binding_is p o = ap binding_said o.is

  place_of_decision : (p : ℕ × Bool) → Contains s.decided p → (i : ℕ) × (slice_get s.decided i ≡ Some p)
  place_of_decision p (i, within, at) = (i, slice_get-get_or s.decided i p within ∙ ap Some at)

  -- decisions on one atom are one
  same_decision : (p r : ℕ × Bool) → Contains s.decided p → Contains s.decided r → p.0 ≡ r.0 → p ≡ r
  same_decision p r has there same =
      let (i, at_i) = place_of_decision p has in
      let (j, at_j) = place_of_decision r there in
      let places = one_decision q boolean s plain apart counted i j p r at_i at_j same in
      ap (λ (o : Option (ℕ × Bool)). unwrap_or o p) (sym at_i ∙ ap (slice_get s.decided) places ∙ at_j)

  one_binding : (b d : Binding) → Contains bindings b → Contains bindings d → d.constant ≡ b.constant → d.value ≡ b.value
  one_binding b d has there same =
      let (p, in_p, is_p) = map_from bound_by s.decided b has in
      let (r, in_r, is_r) = map_from bound_by s.decided d there in
      let o = decided_constant p in_p in
      let e = decided_constant r in_r in
      let of_b : o.which ≡ b.constant = ap (λ (c : Binding). c.constant) (sym (binding_is p o) ∙ is_p) in
      let of_d : e.which ≡ d.constant = ap (λ (c : Binding). c.constant) (sym (binding_is r e) ∙ is_r) in
      let terms : term_at s r.0 ≡ term_at s p.0 =
      e.term ∙ ap (λ (c : Constant). apply (constant c) no_terms) (of_d ∙ same ∙ sym of_b) ∙ sym o.term in
      let numbers = one_atom q boolean s plain apart r.0 p.0 (counted.named r in_r) (counted.named p in_p) terms in
      ap (λ (c : Binding). c.value) (sym is_r ∙ ap bound_by (same_decision r p in_r in_p numbers) ∙ is_p)

  abbrev chosen : Assignment
  chosen = assignment_of bindings

  chosen_sorted : IsAssignment chosen
  chosen_sorted =
      assigned bindings
      (λ b has.
      let (p, there, is) = map_from bound_by s.decided b has in
      let o = decided_constant p there in
      subst (λ (c : Binding). IsOfSort c.constant.sort c.value) (sym (binding_is p o) ∙ is) (subst (λ (t : Sort). IsOfSort t (truth o.sign)) (sym o.sort) tt))

  decided_true : (l : Literal) → Contains (literals_by s.atoms s.decided) l → IsTrue (is_literal_true chosen l)
  decided_true l has =
      let (p, there, is) = map_from (literal_by s.atoms) s.decided l has in
      let o = decided_constant p there in
      let b : Binding = record { constant = o.which; value = truth o.sign } in
      let bound : Contains bindings b = subst (Contains bindings) (binding_is p o) (map_has bound_by s.decided p there) in
      let found : chosen o.which ≡ truth o.sign = value_found bindings b bound (λ d also same. one_binding b d bound also same) in
      subst (λ (m : Literal). IsTrue (is_literal_true chosen m)) (sym o.is ∙ is) (constant_true chosen o.which o.sign found)

  nothing_asked : (l : Literal) → Contains (literals_asked q) l → ⊥
  nothing_asked l has = has_none l (subst (λ (ls : List Literal). Contains ls l) nothing has)

  pub no_dead_end : IsDeadEnd q s → ⊥
  no_dead_end dead =
      let may : MayBe q s chosen = record {
        model = record {
          sorts = chosen_sorted;
          asserted_hold =
              by_each (IsTrueUnder chosen) q.asserted
              (λ t has. absurd (nothing_asked (holds t) (Contains-append_left (map holds q.asserted) q.assumed (holds t) (map_has holds q.asserted t has))));
          assumed_hold = by_each (λ (l : Literal). IsTrue (is_literal_true chosen l)) s.under (λ l has. absurd (nothing_asked l (plain.under l has)));
        };
        decided = by_each (λ (l : Literal). IsTrue (is_literal_true chosen l)) (literals_by s.atoms s.decided) decided_true;
      } in
      dead chosen may
