-- Terms whose values are asked for: the rules on them, and what asking leaves.
use Rattle.std.proofs.Common.{◌&&◌, ◌≡◌, List, [], ◌∷◌, Option, None, Some, Ok, true, Bool, refl, sym, ap, ◌∙◌, subst}
use Rattle.std.specs.List.{list_all}
use Rattle.nz_spec.specs.terms.Term.{Terms, no_terms, terms}
use Rattle.nz_spec.specs.terms.Normal.{normal_of}
use Rattle.nz_spec.specs.terms.Table.{Node, term_in, TermStays}
use Rattle.nz_spec.specs.terms.Order.{HasCompanions}
use Rattle.nz_spec.specs.terms.Linear.{is_linear}
use Rattle.nz_script.specs.commands.Elaboration.{terms_of}
use Rattle.nz_script.specs.commands.Request.{Question, shows_values}
use Rattle.nz_script.specs.live.Live.{State}
use Rattle.nz_script.specs.commands.Script.{scope_of, asked_expressions, asked_of, all_linear, linear_outcome, values_asked}
use Rattle.nz_script.specs.commands.Command.{get_value, Outcome, refused}
use Rattle.nz_spec.specs.outside.Error.{wrong_sort}
use Rattle.nz_script.specs.commands.Scoping.{have_clash}
use Rattle.nz_elaborate.specs.declared.typed.Typed.{Typed}
use Rattle.nz_elaborate.specs.Elaborate.{StandAs, are_unknown_in, IsWellNamed}
use Rattle.nz_elaborate.specs.Typed.{Grows, AreTyped}
use Rattle.nz_sort.specs.declared.acts.Act.{Act}
use Rattle.nz_sort.specs.Acts.{asked}
use Rattle.nz_sort.specs.Live.{Standing, asserted_by, IsLive, Leaves, IfSkipped, Moves, show_values}
use Rattle.nz_sort.specs.Changes.{Comes, Shows}
use Rattle.nz_sort.proofs.LiveStates.{kept_where_grown, live_grown}
use Rattle.nz_sort.proofs.CommandRules.{past_names}

-- what becomes of the terms, behind the rules on names
abbrev pub terms_outcome : List Question → Option Terms → Outcome
terms_outcome qs o = elim o [ Some us ↦ linear_outcome (all_linear us) (get_value (asked_of qs us)) | None ↦ refused wrong_sort ]

past : (s : State) (qs : List Question) (ns : List Node) (xs : List Typed) (linear : Bool)
    → (h : IsWellNamed (are_unknown_in (scope_of s) (asked_expressions qs)) (have_clash (asked_expressions qs)) (StandAs (terms_of (scope_of s) (asked_expressions qs)) ns xs))
    → ((us : Terms) → AreTyped ns xs us → linear ≡ all_linear us) → values_asked s qs ≡ linear_outcome linear (get_value (asked_of qs h.holds.terms))
past s qs ns xs linear h told =
    past_names (are_unknown_in (scope_of s) (asked_expressions qs)) (have_clash (asked_expressions qs)) (terms_outcome qs (terms_of (scope_of s) (asked_expressions qs))) h.known h.distinct
    ∙ ap (terms_outcome qs) h.holds.are
    ∙ ap (λ b. linear_outcome b (get_value (asked_of qs h.holds.terms))) (sym (told h.holds.terms h.holds.typed))

-- the table may have grown by companions since
pub linear_values : (s : State) (qs : List Question) (mid new : List Node) (xs : List Typed)
    → IsWellNamed (are_unknown_in (scope_of s) (asked_expressions qs)) (have_clash (asked_expressions qs)) (StandAs (terms_of (scope_of s) (asked_expressions qs)) mid xs)
    → ((us : Terms) → AreTyped mid xs us → true ≡ all_linear us) → ((us : Terms) → AreTyped mid xs us → AreTyped new xs us) → Shows qs (values_asked s qs) new xs
linear_values s qs mid new xs h straight stays =
    record { terms = h.holds.terms; is = past s qs mid xs true h straight; typed = stays h.holds.terms h.holds.typed }

pub comes_values : TermStays → (old new : List Node) (standing : Standing) (qs : List Question) (xs : List Typed) (act : Act) → asked act ≡ show_values xs → Grows old new → HasCompanions new
    → ((s : State) → IsLive old standing s → Shows qs (values_asked s qs) new xs) → Comes old new standing standing (shows_values qs) (λ s. values_asked s qs) (Ok act)
comes_values stays old new standing qs xs act e g companions may =
    record {
      accepted = λ s live.
          let h = may s live in
          subst (λ ask. Leaves s (shows_values qs) (values_asked s qs) ask new standing) (sym e)
          (record {
            command = get_value (asked_of qs h.terms);
            is = h.is;
            asks = record { questions = qs; terms = h.terms; request = refl; typed = h.typed; is = refl };
            live = λ reply. live_grown stays old new standing s g companions live;
          });
      refused = tt;
      kept = kept_where_grown old new g;
      unchanged = tt;
      skipped_terms = subst (λ ask. IfSkipped ask (new ≡ old)) (sym e) tt;
      skipped = subst (λ ask. IfSkipped ask (standing ≡ standing)) (sym e) tt;
      moves = subst (λ ask. Moves ask (asserted_by standing) (asserted_by standing)) (sym e) refl;
    }

-- all terms of a list are linear, where all that are numbered so are
pub linear_each : (ns : List Node) (xs : List Typed) (ts : Terms) → AreTyped ns xs ts → list_all (λ (x : Typed). is_linear (term_in ns x.id)) xs ≡ all_linear ts
linear_each ns [] no_terms typed = refl
linear_each ns [] (terms t ts) typed = absurd typed
linear_each ns (x ∷ xs) no_terms typed = absurd typed
linear_each ns (x ∷ xs) (terms t ts) typed =
    ap (λ u. is_linear u && list_all (λ (y : Typed). is_linear (term_in ns y.id)) xs) typed.0.normal
    ∙ ap (λ b. is_linear (normal_of t) && b) (linear_each ns xs ts typed.1)
