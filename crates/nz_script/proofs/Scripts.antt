-- The worked scripts: what is heard in them by reading, and that each reply is right.
use Rattle.std.proofs.Common.{◌≡◌, Bool, true, false, List, [], ◌∷◌, length, refl, sym, ap, ◌∙◌, subst, inl, append-nil, true≢false, arith}
use Rattle.std.specs.Fmt.{digits}
use Rattle.std.specs.Prelude.{⊤, bytes_eq, codes, if◌then◌else◌}
use Rattle.std.specs.List.{AllByRecursion}
use Rattle.std.proofs.lemmas.Bool.{and_parts}
use Rattle.nz_ints.specs.Division.{gcd_within, gcd, lcm, floor_div}
use Rattle.nz_lists.proofs.Tests.{no_contradiction}
use Rattle.nz_fractions.specs.Fraction.{denominator, over, fraction_eq, fraction_le, fraction_lt, neg_ℚ, ◌+ℚ◌, ◌-ℚ◌, ◌*ℚ◌, ◌/ℚ◌, flipped, reciprocal, floor, reduce, is_wide_sum, is_wide_product, exact, outcome, is_wide, first_wide}
use Rattle.nz_spec.specs.terms.Term.{are_same_constant, Sort, bool_sort, int_sort, real_sort, are_same_sort, Value, IsOfSort, default_value, is_true, div_of, mod_of}
use Rattle.nz_spec.specs.terms.Model.{Binding, assignment_of, IsAssignment}
use Rattle.nz_script.specs.text.Text.{What, intact, faulty, unclosed, unread, Heard, Hears, script_limits}
use Rattle.nz_script.specs.text.ToldAs.{IsToldWhat, AreToldAs}
use Rattle.nz_script.specs.text.Reading.{hear_on, reading_start}
use Rattle.nz_script.specs.commands.Command.{exit, Outcome, accepted}
use Rattle.nz_script.specs.commands.Script.{outcome_of}
use Rattle.nz_script.specs.replies.Reply.{Reply}
use Rattle.nz_script.specs.replies.Right.{Context, beginning, IsRight, IsExit, context_after}
use Rattle.nz_script.specs.run.Transcript.{Kept, AreRight, things_of, IsTranscript}
use Rattle.nz_script.specs.run.Run.{solve_limit}
use Rattle.nz_script.specs.worked.WorkedScripts.{Worked, replied, kept_of_worked, IsWorked, express_is, prices, errors, p_fails, levelled, renamed}
use Rattle.nz_spec.specs.worked.TermSamples.{constant_of_sort}
use Rattle.nz_script.proofs.Readings.{hears}
use Rattle.nz_spec.specs.terms.WellSorted.{SortsTell}

-- ---- What is told is what is heard

what_itself : (w : What) → IsToldWhat w w
what_itself (intact t) = refl
what_itself (faulty n) = refl
what_itself unclosed = refl
what_itself unread = refl

told_replied : (hs : List Heard) (rs : List Reply) → length hs ≡ length rs → AreToldAs (things_of (replied hs rs)) hs
told_replied [] rs e = tt
told_replied (h ∷ hs) [] e = absurd (omega (arith, e))
told_replied (h ∷ hs) (r ∷ rs) e = (record { from = refl; to = refl; what = what_itself h.what }, told_replied hs rs (omega (arith, e)))

-- a script with a reply to each thing that is heard in it
worked_by : (w : Worked) → length (hear_on script_limits reading_start w.text) ≡ length w.replies → AreRight (beginning solve_limit) (kept_of_worked w) → IsTranscript solve_limit w.text (kept_of_worked w)
worked_by w long right =
    record {
      heard = hear_on script_limits reading_start w.text;
      rest = [];
      hears = subst (Hears script_limits w.text) (sym (append-nil (hear_on script_limits reading_start w.text))) (hears script_limits w.text);
      told = told_replied (hear_on script_limits reading_start w.text) w.replies long;
      right = right;
      whole = inl refl;
    }

-- ---- One reply after another

abbrev is_exit : Outcome → Bool
is_exit (accepted exit) = true
is_exit o = false

-- whether a thing heard is an exit
abbrev asks_exit : Context → What → Bool
asks_exit c (intact t) = is_exit (outcome_of c.state t)
asks_exit c what = false

no_exit : (c : Context) (what : What) (reply : Reply) → asks_exit c what ≡ false → IsExit c.state what reply → ⊥
no_exit c (intact t) reply e x = true≢false (sym (ap is_exit x.0) ∙ e)
no_exit c (faulty n) reply e x = x
no_exit c unclosed reply e x = x
no_exit c unread reply e x = x

-- each reply is right, and none is that to an exit
abbrev StepsAreRight : Context → List Kept → Type 0
StepsAreRight c [] = ⊤
StepsAreRight c (k ∷ ks) = IsRight c k.heard.what k.reply k.cause × (asks_exit c k.heard.what ≡ false) × StepsAreRight (context_after c k.heard.what k.reply) ks

all_right : (c : Context) (ks : List Kept) → StepsAreRight c ks → AreRight c ks
all_right c [] h = tt
all_right c (k ∷ ks) h = (h.0, λ x. absurd (no_exit c k.heard.what k.reply h.1 x), all_right (context_after c k.heard.what k.reply) ks h.2)

errors_right : AreRight (beginning solve_limit) (kept_of_worked errors)
unfolding digits gcd_within gcd lcm floor_div denominator over fraction_eq fraction_le fraction_lt neg_ℚ ◌+ℚ◌ ◌-ℚ◌ ◌*ℚ◌ ◌/ℚ◌ flipped reciprocal floor reduce is_wide_sum is_wide_product exact outcome is_wide first_wide div_of mod_of
errors_right =
    all_right (beginning solve_limit) (kept_of_worked errors) (
      inl (refl, refl),
      refl,
      (
        (refl, refl),
        refl,
        (
          (refl, refl),
          refl,
          (
            inl (refl, refl),
            refl,
            (
              inl (refl, refl),
              refl,
              (
                inl (refl, refl),
                refl,
                (
                  inl (refl, refl),
                  refl,
                  (
                    inl (refl, refl),
                    refl,
                    (
                      inl (refl, refl),
                      refl,
                      (
                        inl (refl, refl),
                        refl,
                        (
                          inl (refl, refl),
                          refl,
                          (
                            inl (refl, refl),
                            refl,
                            (
                              (refl, refl),
                              refl,
                              tt,
                            ),
                          ),
                        ),
                      ),
                    ),
                  ),
                ),
              ),
            ),
          ),
        ),
      ),
    )

pub errors_worked : IsWorked errors
unfolding digits
errors_worked = record { transcript = worked_by errors refl errors_right; output = refl }

-- ---- Models

default_is : (s : Sort) → IsOfSort s (default_value s)
default_is bool_sort = tt
default_is int_sort = refl
default_is real_sort = tt

-- what is bound where a constant is found, and the default where it isn't
bound_or_default : (b : Bool) (s t : Sort) (v w : Value) → (b ≡ true → s ≡ t) → IsOfSort s v → IsOfSort t w → IsOfSort t (if b then v else w)
bound_or_default true s t v w same h k = subst (λ r. IsOfSort r v) (same refl) h
bound_or_default false s t v w same h k = k

bindings_assign : SortsTell → (bs : List Binding) → AllByRecursion (λ (b : Binding). IsOfSort b.constant.sort b.value) bs → IsAssignment (assignment_of bs)
bindings_assign told [] h c = default_is c.sort
bindings_assign told (b ∷ bs) h c =
    bound_or_default (are_same_constant b.constant c) b.constant.sort c.sort b.value (assignment_of bs c)
    (λ e. told.one b.constant.sort c.sort (and_parts (bytes_eq b.constant.name c.name) (are_same_sort b.constant.sort c.sort) e).1) h.0 (bindings_assign told bs h.1 c)

prices_right : SortsTell → AreRight (beginning solve_limit) (kept_of_worked prices)
unfolding digits gcd_within gcd lcm floor_div denominator over fraction_eq fraction_le fraction_lt neg_ℚ ◌+ℚ◌ ◌-ℚ◌ ◌*ℚ◌ ◌/ℚ◌ flipped reciprocal floor reduce is_wide_sum is_wide_product exact outcome is_wide first_wide div_of mod_of
prices_right told =
    all_right (beginning solve_limit) (kept_of_worked prices) (
      inl (refl, refl),
      refl,
      (
        inl (refl, refl),
        refl,
        (
          inl (refl, refl),
          refl,
          (
            inl (record { constants = refl; numbers = (tt, tt); makes = record { sorts = bindings_assign told express_is (tt, tt); asserted_hold = (refl, tt); assumed_hold = tt } }, refl),
            refl,
            (
              inl (refl, refl),
              refl,
              (
                inl (refl, refl),
                refl,
                (
                  inl (refl, refl),
                  refl,
                  (
                    inl (λ a m. no_contradiction (is_true (a (constant_of_sort bool_sort (codes "express")))) m.asserted_hold.0 m.asserted_hold.1.0, refl),
                    refl,
                    (
                      inl (refl, refl),
                      refl,
                      tt,
                    ),
                  ),
                ),
              ),
            ),
          ),
        ),
      ),
    )

pub prices_worked : SortsTell → IsWorked prices
unfolding digits over denominator
prices_worked told = record { transcript = worked_by prices refl (prices_right told); output = refl }

-- ---- Levels

levelled_right : SortsTell → AreRight (beginning solve_limit) (kept_of_worked levelled)
unfolding digits gcd_within gcd lcm floor_div denominator over fraction_eq fraction_le fraction_lt neg_ℚ ◌+ℚ◌ ◌-ℚ◌ ◌*ℚ◌ ◌/ℚ◌ flipped reciprocal floor reduce is_wide_sum is_wide_product exact outcome is_wide first_wide div_of mod_of
levelled_right told = all_right (beginning solve_limit) (kept_of_worked levelled) (inl (refl, refl), refl, (inl (refl, refl), refl, (inl (refl, refl), refl, (inl (λ a m. no_contradiction (is_true (a (constant_of_sort bool_sort (codes "p")))) m.asserted_hold.0 m.assumed_hold.0, refl), refl, (inl (refl, refl), refl, (inl (record { constants = refl; numbers = (tt, tt); makes = record { sorts = bindings_assign told p_fails (tt, tt); asserted_hold = tt; assumed_hold = (refl, tt) } }, refl), refl, (inl (refl, refl), refl, (inl (refl, refl), refl, (inl (refl, refl), refl, (inl (refl, refl), refl, (inl (refl, refl), refl, (inl (refl, refl), refl, (inl (refl, refl), refl, (inl (refl, refl), refl, (inl (refl, refl), refl, (inl (refl, refl), refl, (inl (record { constants = refl; numbers = tt; makes = record { sorts = bindings_assign told [] tt; asserted_hold = tt; assumed_hold = tt } }, refl), refl, (inl (refl, refl), refl, (inl (refl, refl), refl, tt)))))))))))))))))))

pub levelled_worked : SortsTell → IsWorked levelled
unfolding digits
levelled_worked told = record { transcript = worked_by levelled refl (levelled_right told); output = refl }

renamed_right : AreRight (beginning solve_limit) (kept_of_worked renamed)
unfolding digits gcd_within gcd lcm floor_div denominator over fraction_eq fraction_le fraction_lt neg_ℚ ◌+ℚ◌ ◌-ℚ◌ ◌*ℚ◌ ◌/ℚ◌ flipped reciprocal floor reduce is_wide_sum is_wide_product exact outcome is_wide first_wide div_of mod_of
renamed_right = all_right (beginning solve_limit) (kept_of_worked renamed) (inl (refl, refl), refl, (inl (refl, refl), refl, (inl (refl, refl), refl, (inl (refl, refl), refl, (inl (refl, refl), refl, (inl (refl, refl), refl, (inl (refl, refl), refl, (inl (refl, refl), refl, (inl (refl, refl), refl, tt)))))))))

pub renamed_worked : IsWorked renamed
unfolding digits
renamed_worked = record { transcript = worked_by renamed refl renamed_right; output = refl }
