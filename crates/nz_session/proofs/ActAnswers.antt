-- The answer to a command that was carried out, by what it asks.
use Rattle.std.proofs.Common.{◌≡◌, inl, inr, ℕ, Bool, true, false, true≢false, List, Some, None, refl, sym, ap, ◌∙◌, subst}
use Rattle.std.specs.Prelude.{All, IfSome, if◌then◌else◌}
use Rattle.nz_lists.proofs.Fronts.{front_of_more}
use Rattle.nz_script.specs.text.Tree.{Tree}
use Rattle.nz_script.specs.text.Text.{What, intact}
use Rattle.nz_spec.specs.terms.Table.{Node}
use Rattle.nz_spec.specs.terms.Term.{Term}
use Rattle.nz_spec.specs.clauses.Literal.{Literal}
use Rattle.nz_spec.specs.search.Decide.{IsFrontOfTable}
use Rattle.nz_script.specs.commands.Request.{Request}
use Rattle.nz_script.specs.commands.Parse.{request_of}
use Rattle.nz_script.specs.commands.Argument.{ArgumentTells}
use Rattle.nz_spec.specs.outside.Error.{Error}
use Rattle.nz_script.specs.live.Live.{State, Options, items_of, items_hold_integers, pushed_levels}
use Rattle.nz_script.specs.commands.Command.{Info, Command, pop_levels, reset, reset_assertions, check_sat, get_model, get_value, get_info, get_levels, get_reason, set_print_success, no_effect, echo, exit, accepted, refused, not_taken}
use Rattle.nz_script.specs.commands.Script.{asked_of, outcome_of}
use Rattle.nz_script.specs.laws.Sorts.{IsSortedState, StatesStaySorted, AssumptionsAreTaken}
use Rattle.nz_script.specs.replies.Reply.{quiet, success, info, levels as levels_reply, echoed, unsupported, error, plain}
use Rattle.nz_script.specs.replies.Right.{Context, IsRight, IsRightOutcome, may_want_memory, done, effect, effect_of}
use Rattle.nz_base.specs.Errors.{error_of}
use Rattle.nz_base.specs.declared.reply_errors.Error as fault
use Rattle.nz_base.specs.declared.reply_errors.Error.TheVariants.{OutOfMemory}
use Rattle.nz_elaborate.specs.declared.typed.Typed.{Typed}
use Rattle.nz_elaborate.specs.Typed.{AreTyped}
use Rattle.nz_sort.specs.Live as wants
use Rattle.nz_sort.specs.Live.{Standing, Ask, IsLive, IsAccepted, IsSkipped, IsCarriedOut, AsksValues, AsksCheck, AsksEcho, Moves, IsCutBack, asserted_by}
use Rattle.nz_sort.specs.Acts.{asked, rule_of}
use Rattle.nz_sort.specs.Assuming.{AreAssumed}
use Rattle.nz_sort.specs.declared.acts.Act.{Act}
use Rattle.nz_term.specs.declared.term_lits.TermLit.{TermLit}
use Rattle.nz_reply.specs.Replies.{reply_of}
use Rattle.nz_reply.specs.declared.reply.Reply as said
use Rattle.nz_reply.specs.declared.reply.Reply.TheVariants as code
use Rattle.nz_reply.specs.declared.reply.Cause.TheVariants as why
use Rattle.nz_search.specs.Levels.{Level}
use Rattle.nz_session.specs.Assumed.{IsTakenAt}
use Rattle.nz_session.specs.Told.{IsTold, IsToldNothing}
use Rattle.nz_session.specs.Desk.{BeginsOver, Holds, IsAnswer, Succeeds, asked_in}
use Rattle.nz_session.specs.declared.told.ToldExtent.{ToldExtent}
use Rattle.nz_session.specs.declared.desk.Desk.{Desk}
use Rattle.nz_session.specs.declared.desk.Answer.{Answer}
use Rattle.nz_session.proofs.RightAnswers.{Continues, IsStill, accepted_as, answers_too, change_ends, change_keeps, done_answer, ended_answer, exit_answer, goes_on_after_echo, goes_on_after_info, goes_on_after_levels, goes_on_after_nothing, goes_on_after_setting, holds_asked, holds_kept, holds_set, kept_after, next, plainly, standing, still_as, succeeds_too, tells_done, told_answer}
use Rattle.nz_session.proofs.CheckedTerms.{assumed_taken}
use Rattle.nz_session.proofs.ToldAssertions.{told_goes_on}
use Rattle.nz_session.proofs.TermValues.{echo_told}

-- ---- What is known once a command was carried out

-- The desk held the context, its table goes on, and what stands is what a command leaves which asks this.
pub record IsActed {E : Type 0} (levels : E → List Level) (table : E → List Node) (begins : E → List Term → Type 0) (old : Desk E) (ns : List Node) (l : Standing) (x : Context) (t : Tree) (ask : Ask) : Type 0 where
  pub held : Holds levels table begins old x
  pub kept : IsFrontOfTable old.terms ns
  pub carried : IsCarriedOut x.state t ask ns l
  pub moves : Moves ask (asserted_by old.live) (asserted_by l)

-- The command is this one, and the desk holds the context with what stands after it, where searches were asked of what it asks.
pub record IsKept {E : Type 0} (levels : E → List Level) (table : E → List Node) (begins : E → List Term → Type 0) (old : Desk E) (ns : List Node) (l : Standing) (x : Context) (t : Tree) (k : Command) : Type 0 where
  pub is : outcome_of x.state t ≡ accepted k
  pub holds : Holds levels table begins (standing old ns l) (asked_in x t)

-- The command asks for the values of these terms, and leaves the levels as they are.
pub record IsValuesAsked {E : Type 0} (levels : E → List Level) (table : E → List Node) (begins : E → List Term → Type 0) (old : Desk E) (ns : List Node) (l : Standing) (x : Context) (t : Tree) (xs : List Typed) : Type 0 where
  pub request : Request
  pub parsed : request_of t ≡ Some request
  pub command : Command
  pub asks : AsksValues ns xs request command
  pub kept : IsKept levels table begins old ns l x t command

-- The command is a check under these assumptions, and no live item holds a unit of sort Int.
pub record IsCheckAsked {E : Type 0} (levels : E → List Level) (table : E → List Node) (begins : E → List Term → Type 0) (old : Desk E) (ns : List Node) (l : Standing) (x : Context) (t : Tree) (xs : List TermLit) : Type 0 where
  pub literals : List Literal
  pub assumes : AreAssumed ns xs literals
  pub is : outcome_of x.state t ≡ accepted (check_sat literals)
  pub holds : Holds levels table begins (standing old ns l) x
  pub integers : items_hold_integers (items_of x.state.levels) ≡ false

-- ---- Errors

-- an error tells the rule that is broken, or want of memory where the command may be so answered
error_right : (c : Context) (t : Tree) (ns : List Node) (l : Standing) (e : fault.Error) → IsLive ns l c.state → (e ≡ OutOfMemory → may_want_memory (outcome_of c.state t) ≡ true)
    → IfSome (rule_of e) (λ r. (s : State) → IsLive ns l s → outcome_of s t ≡ refused r) → IsRight c (intact t) (error (error_of e)) plain
error_right c t ns l OutOfMemory live wants h = inr (wants refl, (refl, refl))
error_right c t ns l e live wants h = inl (subst (λ o. IsRightOutcome c o (error (error_of e)) plain) (sym (h c.state live)) (refl, refl))

no_error_done : (e : Error) (b : Bool) → error e ≡ (if b then success else quiet) → ⊥
no_error_done e true same = cc
no_error_done e false same = cc

skipped_or_exit : not_taken ≡ accepted exit → ⊥
skipped_or_exit e = cc

error_answer : {E : Type 0} (levels : E → List Level) (table : E → List Node) (begins : E → List Term → Type 0) (desk : Desk E) (c : Context) (t : Tree) (e : fault.Error) → Holds levels table begins desk (asked_in c t)
    → IsRight c (intact t) (error (error_of e)) plain → IsAnswer levels table begins c (intact t) (plainly (code.Error e)) desk
error_answer {E} levels table begins desk c t e h right =
    record {
      right = right;
      within = tt;
      holds = h;
      exits = λ y. absurd (true≢false (sym y));
      stays = λ y z. no_error_done (error_of e) c.state.options.prints_success z.1;
    }

-- want of memory
pub memory_answer : {E : Type 0} (levels : E → List Level) (table : E → List Node) (begins : E → List Term → Type 0) (desk : Desk E) (c : Context) (t : Tree) (answer : Answer)
    → Holds levels table begins desk (asked_in c t) → may_want_memory (outcome_of c.state t) ≡ true → answer ≡ plainly (code.Error OutOfMemory) → IsAnswer levels table begins c (intact t) answer desk
memory_answer {E} levels table begins desk c t answer h wants is =
    subst (λ (a : Answer). IsAnswer levels table begins c (intact t) a desk) (sym is) (error_answer levels table begins desk c t OutOfMemory h (inr (wants, (refl, refl))))

module _ {E : Type 0} {levels : E → List Level} {table : E → List Node} {begins : E → List Term → Type 0} {old : Desk E} {ns : List Node} {l : Standing} {x : Context} {t : Tree} where
  -- the answer to a command that is refused: what stands is what stood
  pub refused_answered : {answer : Answer} (e : fault.Error) → Holds levels table begins old x → ns ≡ old.terms → l ≡ old.live
      → (e ≡ OutOfMemory → (s : State) → may_want_memory (outcome_of s t) ≡ true) → IfSome (rule_of e) (λ r. (s : State) → IsLive old.terms old.live s → outcome_of s t ≡ refused r) → answer ≡ plainly (code.Error e)
      → IsAnswer levels table begins x (intact t) answer (standing old ns l)
  refused_answered {answer} e h same_terms same_live wants rule is =
      let right = error_right x t old.terms old.live e h.live (λ y. wants y x.state) rule in
      let stood : IsAnswer levels table begins x (intact t) answer old = subst (λ (a : Answer). IsAnswer levels table begins x (intact t) a old) (sym is) (error_answer levels table begins old x t e (holds_asked levels table begins old x t h) right) in
      let with_terms : IsAnswer levels table begins x (intact t) answer (standing old ns old.live) =
      subst (λ (ms : List Node). IsAnswer levels table begins x (intact t) answer (standing old ms old.live)) (sym same_terms) stood in
      subst (λ (m : Standing). IsAnswer levels table begins x (intact t) answer (standing old ns m)) (sym same_live) with_terms

  -- so it is of a command that was carried out, where the act of the code is this one
  pub acted : {act want : Act} → act ≡ want → Holds levels table begins old x → IsFrontOfTable old.terms ns
      → ((s : State) → IsLive old.terms old.live s → IsCarriedOut s t (asked act) ns l) → Moves (asked act) (asserted_by old.live) (asserted_by l)
      → IsActed levels table begins old ns l x t (asked want)
  acted {act} {want} e h kept carried moves =
      let known : IsActed levels table begins old ns l x t (asked act) = record { held = h; kept = kept; carried = carried x.state h.live; moves = moves } in
      subst (λ (a : Act). IsActed levels table begins old ns l x t (asked a)) e known

  -- ---- Commands that leave the levels as they are

  held_by : {ask : Ask} {r : Request} (k : Command) → IsActed levels table begins old ns l x t ask → asserted_by l ≡ asserted_by old.live
      → (b : IsAccepted x.state r (outcome_of x.state t) ask ns l) → b.command ≡ k → IsStill k → Holds levels table begins (standing old ns l) x
  held_by {ask} {r} k a same b e still =
      let on : Continues old ns l = record { terms = a.kept; asserted = same } in
      kept_after levels table begins old x ns l b.command (still_as b.command k e still) a.held on b.live

  kept_by : {ask : Ask} {r : Request} (k : Command) → IsActed levels table begins old ns l x t ask → asserted_by l ≡ asserted_by old.live
      → (b : IsAccepted x.state r (outcome_of x.state t) ask ns l) → b.command ≡ k → IsStill k → IsKept levels table begins old ns l x t k
  kept_by {ask} {r} k a same b e still =
      record {
        is = accepted_as x.state t b.command k b.is e;
        holds = holds_asked levels table begins (standing old ns l) x t (held_by k a same b e still);
      }

  pub model_asked : IsActed levels table begins old ns l x t wants.show_model → IsKept levels table begins old ns l x t get_model
  model_asked a = let b = a.carried.leaves in kept_by get_model a a.moves b b.asks tt

  pub reason_asked : IsActed levels table begins old ns l x t wants.show_reason → IsKept levels table begins old ns l x t get_reason
  reason_asked a = let b = a.carried.leaves in kept_by get_reason a a.moves b b.asks tt

  pub values_asked : {xs ys : List Typed} → ys ≡ xs → IsActed levels table begins old ns l x t (wants.show_values xs) → IsValuesAsked levels table begins old ns l x t ys
  values_asked {xs} {ys} same a =
      let b = a.carried.leaves in
      let q : AsksValues ns xs a.carried.request b.command = b.asks in
      let k : Command = get_value (asked_of q.questions q.terms) in
      let typed : AreTyped ns ys q.terms = subst (λ (zs : List Typed). AreTyped ns zs q.terms) (sym same) q.typed in
      record {
        request = a.carried.request;
        parsed = a.carried.parsed;
        command = k;
        asks = record { questions = q.questions; terms = q.terms; request = q.request; typed = typed; is = refl };
        kept = kept_by k a a.moves b q.is tt;
      }

  pub check_asked : {xs ys : List TermLit} → ys ≡ xs → IsActed levels table begins old ns l x t (wants.check xs) → IsCheckAsked levels table begins old ns l x t ys
  check_asked {xs} {ys} same a =
      let b = a.carried.leaves in
      let q : AsksCheck ns xs b.0.command = b.0.asks in
      record {
        literals = q.literals;
        assumes = subst (λ (zs : List TermLit). AreAssumed ns zs q.literals) (sym same) q.assumes;
        is = accepted_as x.state t b.0.command (check_sat q.literals) b.0.is q.is;
        holds = held_by (check_sat q.literals) a a.moves b.0 q.is tt;
        integers = b.1;
      }

  -- what is assumed are terms that checks take
  pub check_taken : {xs : List TermLit} → AssumptionsAreTaken → IsSortedState x.state → IsCheckAsked levels table begins old ns l x t xs → All (λ (y : TermLit). IsTakenAt ns y.term) xs
  check_taken {xs} takes sorted q = assumed_taken ns x.state xs q.literals q.assumes (takes x.state sorted t q.literals q.is)

  pub info_answered : {i : Info} {answer : Answer} (q : said.Reply) → IsActed levels table begins old ns l x t (wants.show_info i) → answer ≡ plainly q → reply_of (intact t) q ≡ info i
      → IsAnswer levels table begins x (intact t) answer (standing old ns l)
  info_answered {i} {answer} q a is tells =
      let b = a.carried.leaves in
      let k : IsKept levels table begins old ns l x t (get_info i) = kept_by (get_info i) a a.moves b b.asks tt in
      told_answer levels table begins x t (get_info i) q (info i) answer (standing old ns l) is tells tt k.is (refl, refl) k.holds (goes_on_after_info i)

  pub echo_answered : {answer : Answer} → ArgumentTells → IsActed levels table begins old ns l x t wants.echo → answer ≡ plainly code.Echo → IsAnswer levels table begins x (intact t) answer (standing old ns l)
  echo_answered {answer} tells a is =
      let b = a.carried.leaves in
      let q : AsksEcho a.carried.request b.command = b.asks in
      let k : IsKept levels table begins old ns l x t (echo q.text) = kept_by (echo q.text) a a.moves b q.is tt in
      told_answer levels table begins x t (echo q.text) code.Echo (echoed q.text) answer (standing old ns l) is
      (ap echoed (echo_told tells t a.carried.request q.text a.carried.parsed q.request)) tt k.is (refl, refl)
      k.holds (goes_on_after_echo q.text)

  pub levels_answered : {answer : Answer} (n : ℕ) → IsActed levels table begins old ns l x t wants.show_levels → answer ≡ plainly (code.Levels n)
      → ((ms : List Node) (s : State) → IsLive ms l s → n ≡ pushed_levels s) → IsAnswer levels table begins x (intact t) answer (standing old ns l)
  levels_answered {answer} n a is count =
      let b = a.carried.leaves in
      let k : IsKept levels table begins old ns l x t get_levels = kept_by get_levels a a.moves b b.asks tt in
      told_answer levels table begins x t get_levels (code.Levels n) (levels_reply (pushed_levels x.state)) answer (standing old ns l) is
      (ap levels_reply (count ns x.state k.holds.live)) tt k.is (refl, refl) k.holds goes_on_after_levels

  pub setting_answered : {answer : Answer} {b : Bool} → IsActed levels table begins old ns l x t (wants.print_success b) → Succeeds b answer
      → IsAnswer levels table begins x (intact t) answer (record (standing old ns l) { prints_success = b })
  setting_answered {answer} {b} a succeeds =
      let k = a.carried.leaves in
      let o : Options = record { prints_success = b } in
      let on : Continues old ns l = record { terms = a.kept; asserted = a.moves } in
      let live : IsLive ns l (effect x.state (set_print_success b) (done o)) = subst (λ (d : Command). IsLive ns l (effect x.state d (done o))) k.asks (k.live (done o)) in
      done_answer levels table begins x t (set_print_success b) b answer (record (standing old ns l) { prints_success = b }) succeeds
      (accepted_as x.state t k.command (set_print_success b) k.is k.asks) (refl, refl) (holds_set levels table begins old x t ns l b (done o) a.held on live) (goes_on_after_setting b)

  pub nothing_answered : {answer : Answer} → IsActed levels table begins old ns l x t wants.nothing → Succeeds old.prints_success answer → IsAnswer levels table begins x (intact t) answer (standing old ns l)
  nothing_answered {answer} a succeeds =
      let b = a.carried.leaves in
      let k : IsKept levels table begins old ns l x t no_effect = kept_by no_effect a a.moves b b.asks tt in
      done_answer levels table begins x t no_effect old.prints_success answer (standing old ns l) succeeds k.is
      (ap (λ y. if y then success else quiet) a.held.success, refl) k.holds goes_on_after_nothing

  pub exit_answered : (q : said.Reply) → IsActed levels table begins old ns l x t wants.leave → ((what : What) → reply_of what q ≡ done (record { prints_success = old.prints_success }))
      → IsAnswer levels table begins x (intact t) (record { reply = q; cause = why.Plain; exits = true }) (standing old ns l)
  exit_answered q a tells =
      let b = a.carried.leaves in
      let k : IsKept levels table begins old ns l x t exit = kept_by exit a a.moves b b.asks tt in
      exit_answer levels table begins x t q (standing old ns l) (tells_done x.state t old.prints_success q (tells (intact t)) a.held.success) k.is k.holds

  -- the answer to a command that isn't taken
  pub skipped_answered : {answer : Answer} → IsActed levels table begins old ns l x t wants.unsupported → answer ≡ plainly code.Unsupported → IsAnswer levels table begins x (intact t) answer (standing old ns l)
  skipped_answered {answer} a is =
      let b : IsSkipped x.state (outcome_of x.state t) ns l = a.carried.leaves in
      let on : Continues old ns l = record { terms = a.kept; asserted = a.moves } in
      let desk : Desk E = standing old ns l in
      let holds : Holds levels table begins desk (asked_in x t) = holds_asked levels table begins desk x t (holds_kept levels table begins old x ns l a.held on b.live) in
      let plain_answer : IsAnswer levels table begins x (intact t) (plainly code.Unsupported) desk =
      record {
        right = inl (subst (λ o. IsRightOutcome x o unsupported plain) (sym b.is) (refl, refl));
        within = tt;
        holds = subst (λ o. Holds levels table begins desk (next x t (effect_of x.state o unsupported))) (sym b.is) holds;
        exits = λ y. absurd (true≢false (sym y));
        stays = λ y z. skipped_or_exit (sym b.is ∙ z.0);
      } in
      subst (λ (q : Answer). IsAnswer levels table begins x (intact t) q desk) (sym is) plain_answer

  -- ---- Commands that end the last answer

  pub changed_answered : {answer : Answer} {desk : Desk E} → StatesStaySorted → IsActed levels table begins old ns l x t wants.changed → desk ≡ record (standing old ns l) { last = None }
      → Succeeds old.prints_success answer → IsAnswer levels table begins x (intact t) answer desk
  changed_answered {answer} {desk} stay a rest succeeds =
      let h = a.held in
      let k = a.carried.leaves in
      subst (IsAnswer levels table begins x (intact t) answer) (sym rest)
      (ended_answer levels table begins stay x t k.command answer (record (standing old ns l) { last = None }) h.sorted k.is (change_ends k.command k.asks) succeeds k.live
      (told_goes_on (levels old.engine) old.told (asserted_by old.live) (asserted_by l) a.moves h.told) (front_of_more (table old.engine) old.terms ns h.front a.kept) h.begun refl
      (λ q. h.success ∙ change_keeps x.state k.command q k.asks) h.bounded)

  -- the engine's table is a front still, where it is as it was
  front_still : {ask : Ask} (engine : E) → IsActed levels table begins old ns l x t ask → table engine ≡ table old.engine → IsFrontOfTable (table engine) ns
  front_still engine a same = subst (λ ms. IsFrontOfTable ms ns) (sym same) (front_of_more (table old.engine) old.terms ns a.held.front a.kept)

  -- so a search may begin with what it keeps
  begins_still : {ask : Ask} (engine : E) → IsActed levels table begins old ns l x t ask → ((us : List Term) → begins old.engine us → begins engine us) → BeginsOver begins engine x.earlier
  begins_still engine a keeps us has = keeps us (a.held.begun us has)

  -- what was told before, some of which is cut off
  pub popped_told : IsActed levels table begins old ns l x t wants.popped → (before : List (List ℕ)) × IsTold (levels old.engine) old.told before × IsCutBack before (asserted_by l)
  popped_told a = (asserted_by old.live, a.held.told, a.moves)

  pub popped_answered : {answer : Answer} {desk : Desk E} (engine : E) (told : ToldExtent) → StatesStaySorted → IsActed levels table begins old ns l x t wants.popped → IsTold (levels engine) told (asserted_by l)
      → table engine ≡ table old.engine → ((us : List Term) → begins old.engine us → begins engine us) → desk ≡ record (standing old ns l) { engine = engine; told = told; last = None } → Succeeds old.prints_success answer
      → IsAnswer levels table begins x (intact t) answer desk
  popped_answered {answer} {desk} engine told stay a are same keeps rest succeeds =
      let h = a.held in
      let k = a.carried.leaves in
      let q : (n : ℕ) × (k.command ≡ pop_levels n) = k.asks in
      subst (IsAnswer levels table begins x (intact t) answer) (sym rest)
      (ended_answer levels table begins stay x t (pop_levels q.0) answer (record (standing old ns l) { engine = engine; told = told; last = None }) h.sorted
      (accepted_as x.state t k.command (pop_levels q.0) k.is q.1) tt succeeds (λ r. subst (λ (d : Command). IsLive ns l (effect x.state d r)) q.1 (k.live r)) are
      (front_still engine a same) (begins_still engine a keeps) refl (λ r. h.success) h.bounded)

  pub cleared_answered : {answer : Answer} (desk : Desk E) → StatesStaySorted → IsActed levels table begins old ns l x t wants.cleared → IsToldNothing (levels desk.engine) desk.told
      → table desk.engine ≡ table old.engine → ((us : List Term) → begins old.engine us → begins desk.engine us) → desk ≡ record (standing old ns l) { engine = desk.engine; told = desk.told; last = None } → Succeeds desk.prints_success answer
      → IsAnswer levels table begins x (intact t) answer desk
  cleared_answered {answer} desk stay a none same keeps rest succeeds =
      let h = a.held in
      let k = a.carried.leaves in
      let now : Desk E = record (standing old ns l) { engine = desk.engine; told = desk.told; last = None } in
      subst (IsAnswer levels table begins x (intact t) answer) (sym rest)
      (ended_answer levels table begins stay x t reset_assertions answer now h.sorted (accepted_as x.state t k.command reset_assertions k.is k.asks) tt (succeeds_too desk now answer rest succeeds)
      (λ q. subst (λ (d : Command). IsLive ns l (effect x.state d q)) k.asks (k.live q)) (inl none) (front_still desk.engine a same) (begins_still desk.engine a keeps) refl (λ q. h.success) h.bounded)

  pub reset_answered : {answer : Answer} (desk : Desk E) → StatesStaySorted → IsActed levels table begins old ns l x t wants.reset → IsToldNothing (levels desk.engine) desk.told
      → table desk.engine ≡ table old.engine → ((us : List Term) → begins old.engine us → begins desk.engine us) → desk ≡ record (standing old ns l) { engine = desk.engine; told = desk.told; last = None } → Succeeds false answer
      → IsAnswer levels table begins x (intact t) answer (record desk { prints_success = false })
  reset_answered {answer} desk stay a none same keeps rest succeeds =
      let h = a.held in
      let k = a.carried.leaves in
      let now : Desk E = record (standing old ns l) { engine = desk.engine; told = desk.told; last = None } in
      answers_too levels table begins x t answer desk now rest
      (ended_answer levels table begins stay x t reset answer (record now { prints_success = false }) h.sorted (accepted_as x.state t k.command reset k.is k.asks) tt succeeds
      (λ q. subst (λ (d : Command). IsLive ns l (effect x.state d q)) k.asks (k.live q)) (inl none) (front_still desk.engine a same) (begins_still desk.engine a keeps) refl (λ q. refl) h.bounded)
