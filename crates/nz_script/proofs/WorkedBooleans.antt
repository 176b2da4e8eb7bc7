-- The eight terms of four clauses over two constants, and under which limits their check is answered.
use Rattle.std.proofs.Common.{◌≡◌, ℕ, true, false, List, [], ◌∷◌, Contains, inl, inr, refl, sym, subst, ◌∙◌, true≢false, arith}
use Rattle.std.specs.Prelude.{◌==◌, codes}
use Rattle.std.specs.Fmt.{digits}
use Rattle.std.specs.List.{AllByRecursion}
use Rattle.std.proofs.lemmas.List.Elements.{All-from_recursion, All-nil}
use Rattle.nz_lists.proofs.Members.{each_of}
use Rattle.nz_lists.proofs.Numbers.{equal-number}
use Rattle.nz_spec.specs.terms.Term.{Term}
use Rattle.nz_spec.specs.terms.Normal.{negated}
use Rattle.nz_spec.specs.terms.Order.{AreFirst}
use Rattle.nz_spec.specs.terms.FormOf.{place_of}
use Rattle.nz_spec.specs.clauses.Gates.{is_boolean_term, IsGated}
use Rattle.nz_script.specs.live.TermList.{terms_added}
use Rattle.nz_script.specs.laws.BooleanChecks.{ListsBooleans, BooleanChecksAreAnswered}
use Rattle.nz_script.specs.worked.Samples.{tree_in}
use Rattle.nz_script.specs.worked.WorkedBooleans.{p_term, q_term, either, clauses_kept, clauses_context, eight_terms, HasFourClauses}

-- what stands at another place of the eight
abbrev IsOther : Term → Term → Type 0
IsOther t u = (place_of eight_terms u == place_of eight_terms t) ≡ false

-- a term was not seen where only others were
not_seen : (seen : List Term) (t : Term) → AllByRecursion (IsOther t) seen → Contains seen t → ⊥
not_seen seen t others has = true≢false (sym (equal-number (place_of eight_terms t) (place_of eight_terms t) refl) ∙ each_of (IsOther t) seen others t has)

-- what the items add, one after another
abbrev all_added : List Term
all_added =
    p_term ∷ q_term ∷ p_term ∷ q_term ∷ either p_term q_term ∷ p_term ∷ negated p_term ∷ q_term ∷ either (negated p_term) q_term ∷ p_term ∷ q_term ∷ negated q_term ∷ either p_term (negated q_term) ∷ p_term ∷ negated p_term ∷ q_term ∷ negated q_term ∷ either (negated p_term) (negated q_term) ∷ []

added : (limit : ℕ) → terms_added (clauses_context limit).state [] ≡ all_added
unfolding digits
added limit = refl

each_first : AreFirst [] all_added eight_terms
each_first =
    inr (
      not_seen ([]) p_term tt,
      q_term ∷ either p_term q_term ∷ negated p_term ∷ either (negated p_term) q_term ∷ negated q_term ∷ either p_term (negated q_term) ∷ either (negated p_term) (negated q_term) ∷ [],
      refl,
      inr (
        not_seen (p_term ∷ []) q_term (refl, tt),
        either p_term q_term ∷ negated p_term ∷ either (negated p_term) q_term ∷ negated q_term ∷ either p_term (negated q_term) ∷ either (negated p_term) (negated q_term) ∷ [],
        refl,
        inl (
          (1, omega arith, refl),
          inl (
            (0, omega arith, refl),
            inr (
              not_seen (q_term ∷ p_term ∷ []) (either p_term q_term) (refl, (refl, tt)),
              negated p_term ∷ either (negated p_term) q_term ∷ negated q_term ∷ either p_term (negated q_term) ∷ either (negated p_term) (negated q_term) ∷ [],
              refl,
              inl (
                (2, omega arith, refl),
                inr (
                  not_seen (either p_term q_term ∷ q_term ∷ p_term ∷ []) (negated p_term) (refl, (refl, (refl, tt))),
                  either (negated p_term) q_term ∷ negated q_term ∷ either p_term (negated q_term) ∷ either (negated p_term) (negated q_term) ∷ [],
                  refl,
                  inl (
                    (2, omega arith, refl),
                    inr (
                      not_seen (negated p_term ∷ either p_term q_term ∷ q_term ∷ p_term ∷ []) (either (negated p_term) q_term) (refl, (refl, (refl, (refl, tt)))),
                      negated q_term ∷ either p_term (negated q_term) ∷ either (negated p_term) (negated q_term) ∷ [],
                      refl,
                      inl (
                        (4, omega arith, refl),
                        inl (
                          (3, omega arith, refl),
                          inr (
                            not_seen (either (negated p_term) q_term ∷ negated p_term ∷ either p_term q_term ∷ q_term ∷ p_term ∷ []) (negated q_term) (refl, (refl, (refl, (refl, (refl, tt))))),
                            either p_term (negated q_term) ∷ either (negated p_term) (negated q_term) ∷ [],
                            refl,
                            inr (
                              not_seen (negated q_term ∷ either (negated p_term) q_term ∷ negated p_term ∷ either p_term q_term ∷ q_term ∷ p_term ∷ []) (either p_term (negated q_term)) (refl, (refl, (refl, (refl, (refl, (refl, tt)))))),
                              either (negated p_term) (negated q_term) ∷ [],
                              refl,
                              inl (
                                (6, omega arith, refl),
                                inl (
                                  (3, omega arith, refl),
                                  inl (
                                    (5, omega arith, refl),
                                    inl (
                                      (1, omega arith, refl),
                                      inr (
                                        not_seen (either p_term (negated q_term) ∷ negated q_term ∷ either (negated p_term) q_term ∷ negated p_term ∷ either p_term q_term ∷ q_term ∷ p_term ∷ []) (either (negated p_term) (negated q_term)) (refl, (refl, (refl, (refl, (refl, (refl, (refl, tt))))))),
                                        [],
                                        refl,
                                        refl,
                                      ),
                                    ),
                                  ),
                                ),
                              ),
                            ),
                          ),
                        ),
                      ),
                    ),
                  ),
                ),
              ),
            ),
          ),
        ),
      ),
    )

lists : (limit : ℕ) → ListsBooleans (clauses_context limit).state [] eight_terms
unfolding digits
lists limit = record {
  stated = (tt, (tt, (tt, (tt, (tt, (tt, tt))))));
  listed = subst (λ (ts : List Term). AreFirst [] ts eight_terms) (sym (added limit)) each_first;
  boolean = All-from_recursion (λ (t : Term). is_boolean_term t ≡ true) eight_terms (refl, (refl, (refl, (refl, (refl, (refl, (refl, (refl, tt))))))));
}

pub four_clauses : BooleanChecksAreAnswered → HasFourClauses
unfolding digits
four_clauses answered = record {
  lists = lists;
  bound = refl;
  answered = λ limit r cause right. answered.any limit clauses_kept (tree_in (codes "(check-sat)")) [] eight_terms r cause refl (lists limit) (All-nil IsGated) right;
}
