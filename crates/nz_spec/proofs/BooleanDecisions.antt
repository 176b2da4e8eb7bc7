-- How many atoms and decisions there are in a check over Booleans alone, and that it comes to no dead end where nothing is asked for.
use Rattle.std.proofs.Common.{◌≡◌, ℕ, zero, suc, ◌<◌, ◌≤◌, Bool, true, false, List, ◌∷◌, Contains, length, map, slice_get, slice_index_or, Some, inl, inr, refl, sym, ap, subst, ◌∙◌, arith}
use Rattle.std.specs.Prelude.{option_map, unwrap_or}
use Rattle.std.proofs.lemmas.List.{length-map}
use Rattle.std.proofs.lemmas.List.Elements.{All-contains, Contains-append_cases, Contains-append_left, Contains-append_right, Contains-get_or}
use Rattle.std.proofs.lemmas.Option.{slice_get_within, get_or_from_slice_get, slice_get-get_or, slice_get-map}
use Rattle.nz_lists.proofs.Members.{has_cases, has_found, map_from}
use Rattle.nz_spec.specs.terms.Term.{falsum, Term, apply, no_terms}
use Rattle.nz_spec.specs.clauses.Gates.{holds}
use Rattle.nz_spec.specs.clauses.Literal.{Literal, term_literal, are_same_sign, StandOnce}
use Rattle.nz_spec.specs.search.Search.{Task, literals_asked, Search, never, signed_literal, literal_by, literals_held, IsUnderAll}
use Rattle.nz_spec.specs.laws.BooleanWork.{IsOfListed, IsBooleanTask, AreAllListed}
use Rattle.nz_spec.proofs.BooleanStates.{IsPlain}
use Rattle.nz_spec.proofs.ClauseCounts.{IsOver, mapped_at, once_within}
use Rattle.nz_spec.proofs.LegalWork.{StandApart, AreOpposite}

-- ---- Lists

placed : {X : Type 0} (xs : List X) (i : ℕ) (y x : X) → slice_get xs i ≡ Some y → y ≡ x → Contains xs x
placed xs i y x at same = subst (Contains xs) same (has_found xs i y at)

cons_once : {X : Type 0} (x : X) (xs : List X) → (Contains xs x → ⊥) → StandOnce xs → StandOnce (x ∷ xs)
cons_once x xs new once zero zero y at_i at_j = refl
cons_once x xs new once zero (suc j) y at_i at_j = absurd (new (placed xs j y x at_j (sym (ap (λ o. unwrap_or o x) at_i))))
cons_once x xs new once (suc i) zero y at_i at_j = absurd (new (placed xs i y x at_i (sym (ap (λ o. unwrap_or o x) at_j))))
cons_once x xs new once (suc i) (suc j) y at_i at_j = ap suc (once i j y at_i at_j)

-- ---- Terms of atoms

abbrev pub term_said : Literal → Term
term_said (term_literal t sign) = t
term_said l = apply falsum no_terms

abbrev pub term_at : Search → ℕ → Term
term_at s i = term_said (slice_index_or s.atoms i never)

opposite : (t : Term) (a b : Bool) → AreOpposite (term_literal t a) (term_literal t b)
opposite t true true = inl (refl, refl)
opposite t true false = inr (refl, refl)
opposite t false true = inr (refl, refl)
opposite t false false = inl (refl, refl)

-- a literal on a term is another of the same term with one of the two signs
pub signed_other : (t : Term) (a b : Bool) → signed_literal (term_literal t a) (are_same_sign a b) ≡ term_literal t b
signed_other t true true = refl
signed_other t true false = refl
signed_other t false true = refl
signed_other t false false = refl

module _ (q : Task) (boolean : IsBooleanTask q) where
  -- What was decided is named and free, and what was learned names atoms once.
  pub record IsCounted (s : Search) : Type 0 where
    pub named : (p : ℕ × Bool) → Contains s.decided p → p.0 < length s.atoms
    pub free : (p : ℕ × Bool) → Contains s.decided p → (sign : Bool) → Contains (literals_held q s) (literal_by s.atoms (p.0, sign)) → ⊥
    pub learned : (c : List (ℕ × Bool)) → Contains s.learned c → IsOver (length s.atoms) c

  module _ (s : Search) (plain : IsPlain q boolean s) (apart : StandApart s) where
    pub atom_listed : (i : ℕ) → i < length s.atoms → IsOfListed q (slice_index_or s.atoms i never)
    atom_listed i within = plain.atoms (slice_index_or s.atoms i never) (Contains-get_or s.atoms i never within)

    -- no two atoms are on one term
    pub one_atom : (i j : ℕ) → i < length s.atoms → j < length s.atoms → term_at s i ≡ term_at s j → i ≡ j
    one_atom i j low high same =
        let l = slice_index_or s.atoms i never in
        let m = slice_index_or s.atoms j never in
        let (t, a, there, is) = atom_listed i low in
        let (u, b, beside, as_well) = atom_listed j high in
        let terms : t ≡ u = sym (ap term_said is) ∙ same ∙ ap term_said as_well in
        let both : AreOpposite (term_literal t a) (term_literal u b) = subst (λ (v : Term). AreOpposite (term_literal t a) (term_literal v b)) terms (opposite t a b) in
        apart.atoms i j l m (slice_get-get_or s.atoms i never low) (slice_get-get_or s.atoms j never high)
        (subst (λ (k : Literal). AreOpposite k m) (sym is) (subst (AreOpposite (term_literal t a)) (sym as_well) both))

    term_listed : (i : ℕ) → i < length s.atoms → Contains q.listed (term_at s i)
    term_listed i within = let (t, a, there, is) = atom_listed i within in subst (Contains q.listed) (sym (ap term_said is)) there

    pub atoms_few : (ts : List Term) → AreAllListed q ts → length s.atoms ≤ length ts
    atoms_few ts all =
        let said = map term_said s.atoms in
        let few = once_within said ts
        (λ i j t at_i at_j.
        let (l, at_l, is_l) = mapped_at term_said s.atoms i t at_i in
        let (m, at_m, is_m) = mapped_at term_said s.atoms j t at_j in
        one_atom i j (slice_get_within s.atoms i l at_l) (slice_get_within s.atoms j m at_m)
        (ap term_said (get_or_from_slice_get s.atoms i l never at_l) ∙ is_l ∙ sym (ap term_said (get_or_from_slice_get s.atoms j m never at_m) ∙ is_m)))
        (λ t has.
        let (l, there, is) = map_from term_said s.atoms t has in
        let (u, a, listed, own) = plain.atoms l there in
        all t (subst (Contains q.listed) (sym (ap term_said own) ∙ is) listed)) in
        omega (arith, few, length-map s.atoms term_said)

    -- what is asked for is held where the search goes under all that is assumed
    asked_held : IsUnderAll q s → (l : Literal) → Contains (literals_asked q) l → Contains (literals_held q s) l
    asked_held under l asked =
        let terms = map holds q.asserted in
        elim (Contains-append_cases terms q.assumed l asked) [
          | inl asserted ↦ Contains-append_left terms s.under l asserted
          | inr assumed ↦ Contains-append_right terms s.under l (All-contains (Contains s.under) q.assumed l under assumed)
        ]

    module _ (counted : IsCounted s) where
      abbrev terms_decided : List Term
      terms_decided = map (λ (p : ℕ × Bool). term_at s p.0) s.decided

      pub one_decision : (i j : ℕ) (p r : ℕ × Bool) → slice_get s.decided i ≡ Some p → slice_get s.decided j ≡ Some r → p.0 ≡ r.0 → i ≡ j
      one_decision i j p r at_i at_j same =
          apart.decided i j p.0 (slice_get-map (λ (v : ℕ × Bool). v.0) s.decided i ∙ ap (option_map (λ (v : ℕ × Bool). v.0)) at_i)
          (slice_get-map (λ (v : ℕ × Bool). v.0) s.decided j ∙ ap (option_map (λ (v : ℕ × Bool). v.0)) at_j ∙ ap Some (sym same))

      decided_once : StandOnce terms_decided
      decided_once i j t at_i at_j =
          let (p, at_p, is_p) = mapped_at (λ (v : ℕ × Bool). term_at s v.0) s.decided i t at_i in
          let (r, at_r, is_r) = mapped_at (λ (v : ℕ × Bool). term_at s v.0) s.decided j t at_j in
          one_decision i j p r at_p at_r
          (one_atom p.0 r.0 (counted.named p (has_found s.decided i p at_p)) (counted.named r (has_found s.decided j r at_r)) (is_p ∙ sym is_r))

      decided_listed : (t : Term) → Contains terms_decided t → Contains q.listed t
      decided_listed t has =
          let (p, there, is) = map_from (λ (v : ℕ × Bool). term_at s v.0) s.decided t has in
          subst (Contains q.listed) is (term_listed p.0 (counted.named p there))

      pub decided_few : (ts : List Term) → AreAllListed q ts → length s.decided ≤ length ts
      decided_few ts all =
          let few = once_within terms_decided ts decided_once (λ t has. all t (decided_listed t has)) in
          omega (arith, few, length-map s.decided (λ (v : ℕ × Bool). term_at s v.0))

      -- a term that is asserted or gone under isn't decided
      not_decided : (t : Term) (sign : Bool) → Contains (literals_held q s) (term_literal t sign) → Contains terms_decided t → ⊥
      not_decided t sign held has =
          let (p, there, is) = map_from (λ (v : ℕ × Bool). term_at s v.0) s.decided t has in
          let l = slice_index_or s.atoms p.0 never in
          let (u, a, listed, own) = atom_listed p.0 (counted.named p there) in
          let same : u ≡ t = sym (ap term_said own) ∙ is in
          let said : literal_by s.atoms (p.0, are_same_sign a sign) ≡ term_literal t sign =
          ap (λ (m : Literal). signed_literal m (are_same_sign a sign)) own ∙ signed_other u a sign ∙ ap (λ (v : Term). term_literal v sign) same in
          counted.free p there (are_same_sign a sign) (subst (Contains (literals_held q s)) (sym said) held)

      pub decided_fewer : IsUnderAll q s → (ts : List Term) → AreAllListed q ts → (t : Term) (sign : Bool) → Contains (literals_asked q) (term_literal t sign)
          → Contains q.listed t → length s.decided < length ts
      decided_fewer under ts all t sign asked listed =
          let within : (u : Term) → Contains (t ∷ terms_decided) u → Contains ts u =
          λ u has. elim (has_cases t u terms_decided has) [ inl same ↦ all u (subst (Contains q.listed) same listed) | inr more ↦ all u (decided_listed u more) ] in
          let held = asked_held under (term_literal t sign) asked in
          let few = once_within (t ∷ terms_decided) ts (cons_once t terms_decided (not_decided t sign held) decided_once) within in
          omega (arith, few, length-map s.decided (λ (v : ℕ × Bool). term_at s v.0))
