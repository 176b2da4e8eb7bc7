-- Levels that are pushed and popped, and resets: the rules on them, and what they leave.
use Rattle.std.proofs.Common.{◌≡◌, ◌≤◌, ◌<◌, ℕ, List, length, Some, Ok, Err, Bool, true, false, nat_lt, cond, refl, sym, ap, ◌∙◌, subst}
use Rattle.std.proofs.lemmas.Bool.{lt-ltb, le-ltb}
use Rattle.nz_spec.specs.terms.Table.{Node}
use Rattle.nz_script.specs.commands.Request.{pushes, pops, resets, resets_assertions}
use Rattle.nz_script.specs.live.Live.{State, pushed_levels}
use Rattle.nz_script.specs.commands.Command.{push_levels, pop_levels, reset_assertions, accepted, refused}
use Rattle.nz_script.specs.commands.Command as commands
use Rattle.nz_spec.specs.outside.Error.{below_zero}
use Rattle.nz_script.specs.commands.Script.{push_of, pop_of}
use Rattle.nz_base.specs.declared.reply_errors.Error.TheVariants as errors
use Rattle.nz_sort.specs.declared.acts.Act.TheVariants as acts
use Rattle.nz_script.specs.replies.Right.{effect}
use Rattle.nz_sort.specs.Live.{Standing, asserted_by, IsLive, GoesOn}
use Rattle.nz_sort.specs.Changes.{Comes, with_levels, DropsMany, IsCleared}
use Rattle.nz_sort.proofs.LevelChanges.{is_live, levels_pushed, levels_more, next_with_levels, levels_less, next_dropped, levels_cleared, goes_on_levels, cut_back_by}
use Rattle.nz_sort.proofs.LiveStates.{kept_where_same}
use Rattle.nz_sort.proofs.CommandRules.{comes_refused}

-- ---- Levels more

pub comes_pushed : (ns : List Node) (before after : Standing) (n : ℕ) → after ≡ with_levels n before → Comes ns ns before after (pushes (Some n)) (λ s. push_of (Some n)) (Ok acts.Changed)
comes_pushed ns before after n e =
    record {
      accepted = λ s live.
          record {
            command = push_levels n;
            is = refl;
            asks = tt;
            live = λ reply. subst (λ st. IsLive ns st (effect s (push_levels n) reply)) (sym e)
                (is_live ns (with_levels n before) (effect s (push_levels n) reply) (levels_more ns before n s.levels live.levels) live.companions (next_with_levels n before ∙ live.next));
          };
      refused = tt;
      kept = kept_where_same ns;
      unchanged = tt;
      skipped_terms = tt;
      skipped = tt;
      moves = subst (λ st. GoesOn (asserted_by before) (asserted_by st)) (sym e) (goes_on_levels n before);
    }

-- ---- Levels less

pop_by : (s : State) (n : ℕ) (b : Bool) → nat_lt (pushed_levels s) n ≡ b → pop_of s (Some n) ≡ cond b (refused below_zero) (accepted (pop_levels n))
pop_by s n b e = ap (λ c. cond c (refused below_zero) (accepted (pop_levels n))) e

pop_below_zero : (ns : List Node) (standing : Standing) (s : State) (n : ℕ) → length standing.below < n → IsLive ns standing s → pop_of s (Some n) ≡ refused below_zero
pop_below_zero ns standing s n few live =
    pop_by s n true (ap (λ m. nat_lt m n) (sym (levels_pushed ns standing s live)) ∙ lt-ltb (length standing.below) n few)

pub comes_below_zero : (ns : List Node) (standing : Standing) (n : ℕ) → length standing.below < n → Comes ns ns standing standing (pops (Some n)) (λ s. pop_of s (Some n)) (Err errors.BelowZero)
comes_below_zero ns standing n few =
    comes_refused ns ns standing standing (pops (Some n)) (λ s. pop_of s (Some n)) errors.BelowZero (λ s live. pop_below_zero ns standing s n few live) (kept_where_same ns) refl

pub comes_popped : (ns : List Node) (before after : Standing) (n : ℕ) → n ≤ length before.below → DropsMany n before after
    → Comes ns ns before after (pops (Some n)) (λ s. pop_of s (Some n)) (Ok acts.Popped)
comes_popped ns before after n enough d =
    record {
      accepted = λ s live.
          record {
            command = pop_levels n;
            is = pop_by s n false (ap (λ m. nat_lt m n) (sym (levels_pushed ns before s live)) ∙ le-ltb (length before.below) n enough);
            asks = (n, refl);
            live = λ reply.
                is_live ns after (effect s (pop_levels n) reply) (levels_less ns n before after s.levels d live.levels) live.companions (next_dropped n before after d ∙ live.next);
          };
      refused = tt;
      kept = kept_where_same ns;
      unchanged = tt;
      skipped_terms = tt;
      skipped = tt;
      moves = cut_back_by n before after d;
    }

-- ---- Resets

pub comes_reset : (ns : List Node) (before after : Standing) → IsCleared before after → Comes ns ns before after resets (λ s. accepted commands.reset) (Ok acts.Reset)
comes_reset ns before after h =
    record {
      accepted = λ s live.
          record {
            command = commands.reset;
            is = refl;
            asks = refl;
            live = λ reply. is_live ns after (effect s commands.reset reply) (levels_cleared ns before after s.levels h live.levels) live.companions h.next;
          };
      refused = tt;
      kept = kept_where_same ns;
      unchanged = tt;
      skipped_terms = tt;
      skipped = tt;
      moves = tt;
    }

pub comes_cleared : (ns : List Node) (before after : Standing) → IsCleared before after → Comes ns ns before after resets_assertions (λ s. accepted reset_assertions) (Ok acts.Cleared)
comes_cleared ns before after h =
    record {
      accepted = λ s live.
          record {
            command = reset_assertions;
            is = refl;
            asks = refl;
            live = λ reply. is_live ns after (effect s reset_assertions reply) (levels_cleared ns before after s.levels h live.levels) live.companions h.next;
          };
      refused = tt;
      kept = kept_where_same ns;
      unchanged = tt;
      skipped_terms = tt;
      skipped = tt;
      moves = tt;
    }
