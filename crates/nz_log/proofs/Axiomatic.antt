-- Clauses that hold by arithmetic alone, and logs that they are put into.
use Rattle.std.proofs.Common.{◌≡◌, ℕ, ◌<◌, Bool, List, [], ◌∷◌, ◌++◌, Some, None, Result, if◌then◌else◌, inl, inr, refl, sym, ap, subst, ◌∙◌, arith, true≢false}
use Rattle.std.specs.Prelude.{IsTrue, IfOk, IsSome, OnErr}
use Rattle.std.proofs.lemmas.Bool.Decides.{eqb_tells}
use Rattle.nz_lists.proofs.Elements.{AllByRecursion-put}
use Rattle.nz_spec.specs.numbers.Computation.{at_once, turned_into}
use Rattle.nz_spec.specs.clauses.Farkas as farkas
use Rattle.nz_spec.specs.clauses.Farkas.{farkas_clause, is_contradiction, negations_of}
use Rattle.nz_spec.specs.terms.FormOf.{number_in}
use Rattle.nz_fractions.specs.Fraction.{first_wide}
use Rattle.nz_spec.specs.clauses.Literal.{Clause, clause_of, once}
use Rattle.nz_spec.specs.clauses.Steps.{farkas_step, step_clause, IsSortedStep, asserting}
use Rattle.nz_spec.specs.terms.Table.{Node, IsTable, TermStays}
use Rattle.nz_lin.specs.Comes.{IsDone}
use Rattle.nz_log.specs.declared.atoms.Atom.{Atom}
use Rattle.nz_log.specs.declared.lits.Lit.{Lit}
use Rattle.nz_log.specs.declared.multiples.LitMultiple.{LitMultiple}
use Rattle.nz_log.specs.Atoms.{AreAtoms, AreWithin, IsLitIn, LiteralsAgree, clause_in}
use Rattle.nz_log.specs.Axioms.{AreMultiples, AreMultiplesIn, Axiom, IsAxiom, IsAxiomIn, IsClauseOf, axiom_step, farkas_of, first_wide_in_step, multiples_in, negated_lits, sum_in}
use Rattle.nz_log.specs.Leveled.{AreTold}
use Rattle.nz_log.specs.Lits.{are_same_lit}
use Rattle.nz_log.specs.Logs.{Entry, JoinsAtoms, LogState, Puts, axiom_entry, axiom_of, entry_at, row_term}
use Rattle.nz_log.specs.Sound.{IsLog}
use Rattle.nz_log.specs.Growth.{Grows}
use Rattle.nz_log.proofs.LiteralAgreement.{clause_named, literal_turned}
use Rattle.nz_log.proofs.LiteralPreservation.{all_stay, all_wider, axiom_in_wider, clause_stays, step_stays}
use Rattle.nz_log.proofs.Leveled.{logs_stay_leveled}
use Rattle.nz_log.proofs.Soundness.{rule_in_order}

-- ---- Any of them

-- what is so over every table that goes on from this one stays so when atoms join
pub axiom_made : TermStays → (ns : List Node) (atoms : List Atom) (a : Axiom) (c : List Lit) → IsAxiomIn ns atoms a → IsSortedStep (axiom_step ns atoms a) → AreWithin ns atoms c
    → ((more : List Node) → IsTable (ns ++ more) → IsAxiomIn (ns ++ more) atoms a → AreWithin (ns ++ more) atoms c
    → IsClauseOf (ns ++ more) atoms a c) → IsAxiom ns atoms a c
axiom_made stays ns atoms a c within sorted w gives =
    record {
      within = within;
      sorted = sorted;
      taken = λ more later table still.
          let there = axiom_in_wider stays ns more atoms a within in
          let all = all_wider stays ns more atoms c w in
          let is = gives more table there all in
          let same = step_stays (ns ++ more) atoms later still a there in
          record {
            within = all_stay (ns ++ more) atoms later still c all;
            clause = ap (step_clause (number_in (ns ++ more)) (asserting []) []) same ∙ is.clause ∙ ap Some (sym (clause_stays (ns ++ more) atoms later still c all));
            fits = ap (first_wide_in_step (ns ++ more)) same ∙ is.fits;
          };
    }

-- the log in which one is put stays in order
pub axiom_in_order : {E : Type 0} (s r : LogState) (a : Axiom) (c : List Lit) (result : Result ℕ E) → IfOk result (λ id. Puts s id (axiom_entry r a c) r)
    → OnErr result (JoinsAtoms s r) → AreAtoms r.atoms → (ns : List Node) (levels : List (List ℕ)) → AreWithin ns r.atoms c → IsAxiom ns r.atoms a c → IsLog ns levels s → IsLog ns levels r
axiom_in_order s r a c result made unchanged atoms ns levels within axiom_ order =
    rule_in_order s r (axiom_entry r a c) result made unchanged atoms ns levels (λ id above. record { within = within; made = axiom_ }) order

-- and grows
pub axiom_grows : (old new : LogState) (id : ℕ) (a : Axiom) (c : List Lit) → row_term (axiom_of a) ≡ None → Puts old id (axiom_entry new a c) new → AreTold new c
    → Grows old new
axiom_grows old new id a c no_row puts told =
    record {
      live = puts.stay;
      kept = λ i h. puts.kept i (λ same. let below : i < id = puts.above i h in absurd (omega (arith, below, same)));
      told = puts.told;
      atoms = puts.atoms;
      rows = λ i e at row. elim (eqb_tells i id) [
        | inl here ↦
            let both : Some (axiom_entry new a c) ≡ Some e = sym puts.made ∙ ap (entry_at new) (sym here.1) ∙ at in
            let one : axiom_entry new a c ≡ e = cc in
            let none : IsSome (row_term (axiom_of a)) = subst (λ (x : Entry). IsSome (row_term x.origin)) (sym one) row in
            absurd (true≢false (sym (subst (λ o. IsSome o) no_row none)))
        | inr other ↦ subst (λ o. IsSome o) (sym (sym (puts.kept i other.1) ∙ at)) refl
      ];
      leveled = logs_stay_leveled.arithmetic old new id a c puts told;
    }

-- ---- Sums that are contradictions

module _ (ns : List Node) (atoms : List Atom) where
  pub negations_within : (ms : List LitMultiple) → AreMultiplesIn ns atoms ms → AreWithin ns atoms (negated_lits ms)
  negations_within [] h = tt
  negations_within (m ∷ ms) h = (record { atom = h.0.atom; at = h.0.at; within = h.0.within }, negations_within ms h.1)

  pub negations_named : (ms : List LitMultiple) → AreMultiplesIn ns atoms ms → clause_in ns atoms (negated_lits ms) ≡ negations_of (multiples_in ns atoms ms)
  negations_named [] h = refl
  negations_named (m ∷ ms) h = λ i. literal_turned ns atoms m.literal h.0 i ∷ negations_named ms h.1 i

  abbrev pub refuted : List LitMultiple → List Lit
  refuted ms = once are_same_lit (negated_lits ms)

  pub refuted_within : (ms : List LitMultiple) → AreMultiplesIn ns atoms ms → AreWithin ns atoms (refuted ms)
  refuted_within ms h = AllByRecursion-put (IsLitIn ns atoms) are_same_lit (negated_lits ms) [] tt (negations_within ms h)

  module _ (agree : LiteralsAgree ns atoms) (ms : List LitMultiple) (within : AreMultiplesIn ns atoms ms) (multiples : AreMultiples ns atoms ms) where
    pub farkas_gives : IsTrue (is_contradiction (sum_in ns atoms ms).result)
        → step_clause (number_in ns) (asserting []) [] (farkas_step (multiples_in ns atoms ms)) ≡ Some (clause_in ns atoms (refuted ms))
    farkas_gives contradiction =
        let qs = multiples_in ns atoms ms in
        let some : Clause = clause_of (negations_of qs) in
        ap (λ (b : Bool). (if b then turned_into (λ x. if is_contradiction x then Some some else None) (sum_in ns atoms ms) else at_once None).result) multiples
        ∙ ap (λ (b : Bool). if b then Some some else None) contradiction
        ∙ ap (λ c. Some (clause_of c)) (sym (negations_named ms within))
        ∙ ap Some (sym (clause_named ns atoms agree (negated_lits ms) (negations_within ms within)))

    pub farkas_operations : (farkas_clause (number_in ns) (multiples_in ns atoms ms)).operations ≡ (sum_in ns atoms ms).operations
    farkas_operations =
        let some : Clause = clause_of (negations_of (multiples_in ns atoms ms)) in
        ap (λ (b : Bool). (if b then turned_into (λ x. if is_contradiction x then Some some else None) (sum_in ns atoms ms) else at_once None).operations) multiples

    pub farkas_is : IsTrue (is_contradiction (sum_in ns atoms ms).result) → (x : farkas.Bound) → IsDone (sum_in ns atoms ms) x → IsClauseOf ns atoms (farkas_of ms) (refuted ms)
    farkas_is contradiction x done =
        record {
          within = refuted_within ms within;
          clause = farkas_gives contradiction;
          fits = ap first_wide farkas_operations ∙ done.fits;
        }
