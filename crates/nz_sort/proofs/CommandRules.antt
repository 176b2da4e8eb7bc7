-- What becomes of a command, by the rules in their order.
use Rattle.std.proofs.Common.{◌≡◌, ◌||◌, ℕ, List, [], length, take, Option, Some, None, IfSome, IfErr, IsErrAnd, Result, Ok, Err, Bool, true, false, cond, refl, sym, ap, ◌∙◌, subst}
use Rattle.nz_script.specs.text.Tree.{Tree}
use Rattle.nz_script.specs.text.Bounds.{has_token, is_wide_token, is_long_decimal}
use Rattle.nz_spec.specs.terms.Table.{Node}
use Rattle.nz_script.specs.commands.Request.{Request, checks, other_request}
use Rattle.nz_script.specs.commands.Parse.{request_of}
use Rattle.nz_script.specs.live.Live.{State, constants_of, pushed_levels, start}
use Rattle.nz_script.specs.commands.Limits.{passes_limit}
use Rattle.nz_script.specs.commands.Command.{check_sat, Outcome, accepted, refused, not_taken}
use Rattle.nz_spec.specs.outside.Error as spec
use Rattle.nz_spec.specs.outside.Error.{bad_syntax, unknown_symbol, wrong_sort, too_wide, past_limit, already_declared}
use Rattle.nz_script.specs.commands.Script.{outcome_of, outcome_requested, outcome_by}
use Rattle.nz_base.specs.declared.reply_errors.Error.{Error}
use Rattle.nz_elaborate.specs.declared.faults.ElaborateError.{ElaborateError}
use Rattle.nz_elaborate.specs.declared.faults.ElaborateError.TheVariants as errors
use Rattle.nz_elaborate.specs.Elaborate.{ClashesFirst, IsWellNamed}
use Rattle.nz_elaborate.specs.Faults.{refusal_by}
use Rattle.nz_sort.specs.declared.acts.Act.{Act}
use Rattle.nz_term.specs.declared.term_lits.TermLit.{TermLit}
use Rattle.nz_sort.specs.Acts.{asked, rule_of, is_plain, AsksBy}
use Rattle.nz_sort.specs.Changes.{Comes, ComesBy}
use Rattle.nz_sort.specs.Live.{Standing, IsLive, IsCarriedOut, Leaves, Moves, asserted_by, Ask, changed, popped, cleared, reset, check, show_model, show_values, show_reason, show_info, show_levels, print_success, nothing, echo, leave, unsupported}
use Rattle.nz_sort.proofs.LevelChanges.{goes_on_same, levels_pushed}
use Rattle.nz_sort.proofs.LiveStates.{as_many, leaves_asked, leaves_by, live_integers, if_skipped, kept_where_same}

pub if_some_weaker : {P Q : spec.Error → Type 0} (o : Option spec.Error) → ((e : spec.Error) → P e → Q e) → IfSome o P → IfSome o Q
if_some_weaker None f h = tt
if_some_weaker (Some e) f h = f e h

-- a rule that is broken in each live state
pub broken_in_each : (ns : List Node) (standing : Standing) (becomes : State → Outcome) (o : Option spec.Error) → ((s : State) → IsLive ns standing s → IfSome o (λ e. becomes s ≡ refused e))
    → IfSome o (λ e. (s : State) → IsLive ns standing s → becomes s ≡ refused e)
broken_in_each ns standing becomes None f = tt
broken_in_each ns standing becomes (Some e) f = f

-- ---- The rules on names

-- what comes behind the rules on names
abbrev pub named_first : Bool → Bool → Outcome → Outcome
named_first unknown clashes o = cond unknown (refused unknown_symbol) (cond clashes (refused already_declared) o)

pub unknown_first : (unknown clashes : Bool) (o : Outcome) → unknown ≡ true → named_first unknown clashes o ≡ refused unknown_symbol
unknown_first unknown clashes o e = ap (λ b. cond b (refused unknown_symbol) (cond clashes (refused already_declared) o)) e

pub clash_next : (unknown clashes : Bool) (o : Outcome) → unknown ≡ false → clashes ≡ true → named_first unknown clashes o ≡ refused already_declared
clash_next unknown clashes o e f = ap (λ b. cond b (refused unknown_symbol) (cond clashes (refused already_declared) o)) e ∙ ap (λ b. cond b (refused already_declared) o) f

pub past_names : (unknown clashes : Bool) (o : Outcome) → unknown ≡ false → clashes ≡ false → named_first unknown clashes o ≡ o
past_names unknown clashes o e f = ap (λ b. cond b (refused unknown_symbol) (cond clashes (refused already_declared) o)) e ∙ ap (λ b. cond b (refused already_declared) o) f

-- a term that isn't elaborated breaks the rule of its error
pub refused_by : (error : ElaborateError) (unknown clashes : Bool) (o : Outcome)
    → (error ≡ errors.Unknown → unknown ≡ true) → (error ≡ errors.Clash → ClashesFirst unknown clashes) → (error ≡ errors.Sort → IsWellNamed unknown clashes (o ≡ refused wrong_sort))
    → IfSome (rule_of (refusal_by error)) (λ e. named_first unknown clashes o ≡ refused e)
refused_by errors.Unknown unknown clashes o a b c = unknown_first unknown clashes o (a refl)
refused_by errors.Clash unknown clashes o a b c = let h = b refl in clash_next unknown clashes o h.known h.clashes
refused_by errors.Sort unknown clashes o a b c = let h = c refl in past_names unknown clashes o h.known h.distinct ∙ h.holds
refused_by errors.Memory unknown clashes o a b c = tt

-- a `?` hands on its error as that of the command
pub broken_by : {T : Type 0} (ns : List Node) (standing : Standing) (becomes : State → Outcome) (error : ElaborateError) (result : Result T Error)
    → IsErrAnd result (λ refusal. refusal ≡ refusal_by error) → ((s : State) → IsLive ns standing s → IfSome (rule_of (refusal_by error)) (λ e. becomes s ≡ refused e))
    → IfErr result (λ refusal. IfSome (rule_of refusal) (λ e. (s : State) → IsLive ns standing s → becomes s ≡ refused e))
broken_by ns standing becomes error (Err refusal) is f =
    broken_in_each ns standing becomes (rule_of refusal) (λ s live. subst (λ x. IfSome (rule_of x) (λ e. becomes s ≡ refused e)) (sym is) (f s live))
broken_by ns standing becomes error (Ok x) is f = absurd is

-- ---- The rules before them

pub breaks_limit : (s : State) (t : Tree) (r : Request) → (passes_limit s r || has_token is_long_decimal t) ≡ true → outcome_requested s t r ≡ refused past_limit
breaks_limit s t r l = rw l refl

pub breaks_width : (s : State) (t : Tree) (r : Request) → (passes_limit s r || has_token is_long_decimal t) ≡ false → has_token is_wide_token t ≡ true → outcome_requested s t r ≡ refused too_wide
breaks_width s t r l w = rw (l, w) refl

pub within_bounds : (s : State) (t : Tree) (r : Request) → (passes_limit s r || has_token is_long_decimal t) ≡ false → has_token is_wide_token t ≡ false
    → outcome_requested s t r ≡ outcome_by s r
within_bounds s t r l w = rw (l, w) refl

or_true : (b : Bool) → (b || true) ≡ true
or_true true = refl
or_true false = refl

-- a decimal of too many places is past a limit, and so is a command that goes beyond one of its own
pub breaks_places : (s : State) (t : Tree) (r : Request) → has_token is_long_decimal t ≡ true → outcome_requested s t r ≡ refused past_limit
breaks_places s t r long = breaks_limit s t r (ap (λ b. passes_limit s r || b) long ∙ or_true (passes_limit s r))

pub breaks_own : (s : State) (t : Tree) (r : Request) → passes_limit s r ≡ true → outcome_requested s t r ≡ refused past_limit
breaks_own s t r own = breaks_limit s t r (ap (λ b. b || has_token is_long_decimal t) own)

-- what is told of a limit by how many constants and levels are live
pub limit_told : (ns : List Node) (standing : Standing) (s : State) (r : Request) (count pushed : ℕ) (told : Bool)
    → ((s : State) → pushed_levels s ≡ pushed → length (constants_of s) ≡ count → told ≡ passes_limit s r) → count ≡ standing.top.constant_count → pushed ≡ length standing.below → IsLive ns standing s
    → told ≡ passes_limit s r
limit_told ns standing s r count pushed told tells e f live = tells s (sym (levels_pushed ns standing s live) ∙ sym f) (sym (as_many ns standing s live) ∙ sym e)

-- ---- What comes of a command

-- a refusal leaves what stood
pub comes_refused : (old new : List Node) (before after : Standing) (r : Request) (becomes : State → Outcome) (refusal : Error)
    → IfSome (rule_of refusal) (λ e. (s : State) → IsLive old before s → becomes s ≡ refused e) → take (length old) new ≡ old → after ≡ before
    → Comes old new before after r becomes (Err refusal)
comes_refused old new before after r becomes refusal told kept same =
    record {
      accepted = tt;
      refused = told;
      kept = kept;
      unchanged = same;
      skipped_terms = tt;
      skipped = tt;
      moves = tt;
    }

-- what asks only leaves what stood
pub comes_by_leaving : (ns : List Node) (standing : Standing) (r : Request) (becomes : State → Outcome) (act : Act) → Moves (asked act) (asserted_by standing) (asserted_by standing)
    → ((s : State) → IsLive ns standing s → Leaves s r (becomes s) (asked act) ns standing) → Comes ns ns standing standing r becomes (Ok act)
comes_by_leaving ns standing r becomes act moved h =
    record {
      accepted = h;
      refused = tt;
      kept = kept_where_same ns;
      unchanged = tt;
      skipped_terms = if_skipped (asked act) refl;
      skipped = if_skipped (asked act) refl;
      moves = moved;
    }

leaves_only : (ns : List Node) (standing : Standing) (s : State) (r : Request) (outcome : Outcome) (act : Act) → AsksBy outcome act → IsLive ns standing s
    → Leaves s r outcome (asked act) ns standing
leaves_only ns standing s r (accepted c) act h live =
    leaves_by s r (accepted c) (asked act) ns standing c h.plain (h.asks ns r)
    (leaves_asked ns standing s r (accepted c) (asked act) c refl (h.asks ns r) (h.keeps s) (h.counts s) live)
leaves_only ns standing s r (refused e) act h live = absurd h
leaves_only ns standing s r not_taken act h live = subst (λ ask. Leaves s r not_taken ask ns standing) (sym h) (record { is = refl; live = live })

-- nothing comes of the assertions where what is asked is plain
plain_stays : (ask : Ask) (standing : Standing) → is_plain ask ≡ true → Moves ask (asserted_by standing) (asserted_by standing)
plain_stays changed standing e = goes_on_same (asserted_by standing)
plain_stays popped standing e = cc
plain_stays cleared standing e = tt
plain_stays reset standing e = tt
plain_stays (check xs) standing e = cc
plain_stays show_model standing e = refl
plain_stays (show_values xs) standing e = refl
plain_stays show_reason standing e = refl
plain_stays (show_info i) standing e = refl
plain_stays show_levels standing e = refl
plain_stays (print_success b) standing e = refl
plain_stays nothing standing e = refl
plain_stays echo standing e = refl
plain_stays leave standing e = refl
plain_stays unsupported standing e = refl

asked_plain : (outcome : Outcome) (act : Act) → AsksBy outcome act → is_plain (asked act) ≡ true
asked_plain (accepted c) act h = h.plain
asked_plain (refused e) act h = absurd h
asked_plain not_taken act h = ap is_plain h

stays_put : (standing : Standing) (act : Act) (becomes : State → Outcome) → ((s : State) → AsksBy (becomes s) act) → Moves (asked act) (asserted_by standing) (asserted_by standing)
stays_put standing act becomes h = plain_stays (asked act) standing (asked_plain (becomes start) act (h start))

pub comes_only : (ns : List Node) (standing : Standing) (r : Request) (becomes : State → Outcome) (act : Act) → ((s : State) → AsksBy (becomes s) act)
    → Comes ns ns standing standing r becomes (Ok act)
comes_only ns standing r becomes act h = comes_by_leaving ns standing r becomes act (stays_put standing act becomes h) (λ s live. leaves_only ns standing s r (becomes s) act (h s) live)

leaves_checked : (ns : List Node) (standing : Standing) (s : State) (act : Act) (holds : Bool) → standing.top.holds_integers ≡ holds → asked act ≡ cond holds unsupported (check []) → IsLive ns standing s
    → Leaves s checks (outcome_by s checks) (asked act) ns standing
leaves_checked ns standing s act true e a live =
    subst (λ ask. Leaves s checks (outcome_by s checks) ask ns standing) (sym a)
    (record { is = ap (λ b. cond b not_taken (accepted (check_sat []))) (live_integers ns standing s live ∙ e); live = live })
leaves_checked ns standing s act false e a live =
    let none = live_integers ns standing s live ∙ e in
    subst (λ ask. Leaves s checks (outcome_by s checks) ask ns standing) (sym a)
    ((
      leaves_asked ns standing s checks (outcome_by s checks) (check []) (check_sat []) (ap (λ b. cond b not_taken (accepted (check_sat []))) none)
          (record { literals = []; assumes = tt; is = refl }) (λ reply. refl) (λ reply. refl) live,
      none,
    ))

check_stays : (ask : Ask) (standing : Standing) (holds : Bool) (xs : List TermLit) → ask ≡ cond holds unsupported (check xs) → Moves ask (asserted_by standing) (asserted_by standing)
check_stays ask standing true xs a = subst (λ x. Moves x (asserted_by standing) (asserted_by standing)) (sym a) refl
check_stays ask standing false xs a = subst (λ x. Moves x (asserted_by standing) (asserted_by standing)) (sym a) refl

pub comes_checked : (ns : List Node) (standing : Standing) (act : Act) → asked act ≡ cond standing.top.holds_integers unsupported (check [])
    → Comes ns ns standing standing checks (λ s. outcome_by s checks) (Ok act)
comes_checked ns standing act a =
    comes_by_leaving ns standing checks (λ s. outcome_by s checks) act (check_stays (asked act) standing standing.top.holds_integers [] a)
    (λ s live. leaves_checked ns standing s act standing.top.holds_integers refl a live)

-- an outcome that is another
pub comes_alike : (old new : List Node) (before after : Standing) (r : Request) (becomes others : State → Outcome) (result : Result Act Error)
    → ((s : State) → IsLive old before s → others s ≡ becomes s) → Comes old new before after r becomes result → Comes old new before after r others result
comes_alike old new before after r becomes others (Ok act) alike h =
    record {
      accepted = λ s live. subst (λ o. Leaves s r o (asked act) new after) (sym (alike s live)) (h.accepted s live);
      refused = tt;
      kept = h.kept;
      unchanged = h.unchanged;
      skipped_terms = h.skipped_terms;
      skipped = h.skipped;
      moves = h.moves;
    }
comes_alike old new before after r becomes others (Err refusal) alike h =
    record {
      accepted = tt;
      refused = if_some_weaker (rule_of refusal) (λ e told s live. alike s live ∙ told s live) h.refused;
      kept = h.kept;
      unchanged = h.unchanged;
      skipped_terms = tt;
      skipped = tt;
      moves = tt;
    }

-- ---- Trees that are commands, or none

outcome_parsed : (s : State) (t : Tree) (o : Option Request) → request_of t ≡ o → outcome_of s t ≡ elim o [ Some r ↦ outcome_requested s t r | None ↦ refused bad_syntax ]
outcome_parsed s t o e = ap (λ (p : Option Request). elim p [ Some r ↦ outcome_requested s t r | None ↦ refused bad_syntax ]) e

-- what is refused leaves nothing
no_leaving : (s : State) (r : Request) (e : spec.Error) (ask : Ask) (ns : List Node) (standing : Standing) → Leaves s r (refused e) ask ns standing → ⊥
no_leaving s r e changed ns standing h = let no = h.is in cc
no_leaving s r e popped ns standing h = let no = h.is in cc
no_leaving s r e cleared ns standing h = let no = h.is in cc
no_leaving s r e reset ns standing h = let no = h.is in cc
no_leaving s r e (check xs) ns standing h = let no = h.0.is in cc
no_leaving s r e show_model ns standing h = let no = h.is in cc
no_leaving s r e (show_values xs) ns standing h = let no = h.is in cc
no_leaving s r e show_reason ns standing h = let no = h.is in cc
no_leaving s r e (show_info i) ns standing h = let no = h.is in cc
no_leaving s r e show_levels ns standing h = let no = h.is in cc
no_leaving s r e (print_success b) ns standing h = let no = h.is in cc
no_leaving s r e nothing ns standing h = let no = h.is in cc
no_leaving s r e echo ns standing h = let no = h.is in cc
no_leaving s r e leave ns standing h = let no = h.is in cc
no_leaving s r e unsupported ns standing h = let no = h.is in cc

pub carried : (old new : List Node) (before after : Standing) (t : Tree) (o : Option Request) (act : Act) (s : State) → request_of t ≡ o → ComesBy old new before after t o (Ok act)
    → IsLive old before s → IsCarriedOut s t (asked act) new after
carried old new before after t None act s e h live = absurd (no_leaving s other_request bad_syntax (asked act) new after (h.accepted s live))
carried old new before after t (Some r) act s e h live =
    record { request = r; parsed = e; leaves = subst (λ o. Leaves s r o (asked act) new after) (sym (outcome_parsed s t (Some r) e)) (h.accepted s live) }

pub broken : (old new : List Node) (before after : Standing) (t : Tree) (o : Option Request) (refusal : Error) → request_of t ≡ o → ComesBy old new before after t o (Err refusal)
    → IfSome (rule_of refusal) (λ e. (s : State) → IsLive old before s → outcome_of s t ≡ refused e)
broken old new before after t None refusal p h = if_some_weaker (rule_of refusal) (λ e told s live. outcome_parsed s t None p ∙ told s live) h.refused
broken old new before after t (Some r) refusal p h = if_some_weaker (rule_of refusal) (λ e told s live. outcome_parsed s t (Some r) p ∙ told s live) h.refused

-- what comes, of whatever command
pub some_comes : (old new : List Node) (before after : Standing) (t : Tree) (o : Option Request) (result : Result Act Error) → ComesBy old new before after t o result
    → (r : Request) × (becomes : State → Outcome) × Comes old new before after r becomes result
some_comes old new before after t None result h = (other_request, λ s. refused bad_syntax, h)
some_comes old new before after t (Some r) result h = (r, λ s. outcome_requested s t r, h)
