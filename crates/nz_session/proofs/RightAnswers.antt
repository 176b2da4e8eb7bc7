-- What the desk holds after a command, and that its answer is right.
use Rattle.std.proofs.Common.{◌≡◌, inl, inr, ℕ, Bool, true, false, List, ◌++◌, Option, Some, None, option_map, refl, sym, ap, ◌∙◌, subst}
use Rattle.std.specs.Prelude.{⊤, Contains, if◌then◌else◌}
use Rattle.std.proofs.lemmas.List.Elements.{Contains-append_cases, Contains-append_left, Contains-append_right}
use Rattle.nz_lists.proofs.Fronts.{front_of_more}
use Rattle.nz_script.specs.text.Tree.{Tree}
use Rattle.nz_script.specs.text.Text.{intact}
use Rattle.nz_spec.specs.terms.Table.{Node}
use Rattle.nz_spec.specs.terms.Term.{Term}
use Rattle.nz_spec.specs.clauses.Literal.{Literal}
use Rattle.nz_spec.specs.search.Decide.{IsFrontOfTable}
use Rattle.nz_script.specs.live.Live.{LastAnswer, model_found, State, Options}
use Rattle.nz_script.specs.commands.Command.{Command, Info, declare_const, define, assert_term, push_levels, pop_levels, reset, reset_assertions, check_sat, get_model, get_value, get_info, get_levels, get_reason, set_print_success, no_effect, echo, exit, accepted}
use Rattle.nz_script.specs.commands.Script.{outcome_of}
use Rattle.nz_script.specs.laws.Sorts.{IsSortedState, StatesStaySorted}
use Rattle.nz_script.specs.replies.Reply.{Reply, quiet, success, sat, unsat, unknown, model, values, info, levels as levels_reply, reason, echoed, unsupported, error, Cause, plain}
use Rattle.nz_script.specs.replies.Right.{Context, done, asked_of, IsRightCheck, IsRightCommand, IsRightOutcome, IsRight, IsExit, last_after, effect, effect_of, after}
use Rattle.nz_sort.specs.Live.{Standing, asserted_by, IsLive, IsChange}
use Rattle.nz_session.specs.Told.{IsTold}
use Rattle.nz_reply.specs.Replies.{reply_of, cause_of, IsCauseWithin}
use Rattle.nz_session.specs.Desk.{last_of, BeginsOver, BindsConstants, KeepsValues, Holds, IsAnswer, Succeeds, asked_in}
use Rattle.nz_session.proofs.ValuesKept.{values_stay}
use Rattle.nz_session.specs.declared.desk.Desk.{Desk}
use Rattle.nz_session.specs.declared.told.ToldExtent.{ToldExtent}
use Rattle.nz_spec.specs.search.Work.{WorkList}
use Rattle.nz_search.specs.declared.note.Note.{Note}
use Rattle.nz_search.specs.Levels.{Level}
use Rattle.nz_session.specs.declared.desk.Answer.{Answer}
use Rattle.nz_session.specs.declared.desk.LastAnswer as shown
use Rattle.nz_reply.specs.declared.reply.Reply as said
use Rattle.nz_reply.specs.declared.reply.Cause.TheVariants as why

-- ---- What stands after a command

-- it is of the levels and the next number alone
live_still : (ns : List Node) (l : Standing) (s : State) (x y : Option LastAnswer) (o p : Options) → IsLive ns l (record s { last = x; options = o })
    → IsLive ns l (record s { last = y; options = p })
live_still ns l s x y o p h =
    record { levels = h.levels; companions = h.companions; within = h.within; terms = h.terms; constants = h.constants; accepted = h.accepted; next = h.next }

-- what a model binds is of the levels alone
binds_still : (last : Option LastAnswer) (s : State) (x y : Option LastAnswer) (o p : Options) → BindsConstants last (record s { last = x; options = o })
    → BindsConstants last (record s { last = y; options = p })
binds_still (Some (model_found bs)) s x y o p h = h
binds_still last s x y o p h = tt

-- the command leaves the levels as they are
abbrev pub IsStill : Command → Type 0
IsStill (check_sat ls) = ⊤
IsStill get_model = ⊤
IsStill (get_value xs) = ⊤
IsStill (get_info i) = ⊤
IsStill get_levels = ⊤
IsStill get_reason = ⊤
IsStill (set_print_success b) = ⊤
IsStill no_effect = ⊤
IsStill (echo bs) = ⊤
IsStill exit = ⊤
IsStill k = ⊥

-- so what stood stands
stands : (ns : List Node) (l : Standing) (s : State) (k : Command) → IsStill k → ((r : Reply) → IsLive ns l (effect s k r)) → IsLive ns l s
stands ns l s (declare_const c) n h = absurd n
stands ns l s (define d) n h = absurd n
stands ns l s (assert_term t) n h = absurd n
stands ns l s (push_levels m) n h = absurd n
stands ns l s (pop_levels m) n h = absurd n
stands ns l s reset n h = absurd n
stands ns l s reset_assertions n h = absurd n
stands ns l s (check_sat ls) n h = live_still ns l s None s.last s.options s.options (h quiet)
stands ns l s get_model n h = h quiet
stands ns l s (get_value xs) n h = h quiet
stands ns l s (get_info i) n h = h quiet
stands ns l s get_levels n h = h quiet
stands ns l s get_reason n h = h quiet
stands ns l s (set_print_success b) n h = live_still ns l s s.last s.last (record { prints_success = b }) s.options (h quiet)
stands ns l s no_effect n h = h quiet
stands ns l s (echo bs) n h = h quiet
stands ns l s exit n h = h quiet

-- so does a command that is another one
pub still_as : (k d : Command) → k ≡ d → IsStill d → IsStill k
still_as k d e n = subst IsStill (sym e) n

-- a command that is accepted as another is that one
pub accepted_as : (s : State) (t : Tree) (k d : Command) → outcome_of s t ≡ accepted k → k ≡ d → outcome_of s t ≡ accepted d
accepted_as s t k d e f = e ∙ ap accepted f

-- ---- What a desk holds

-- the context that a command leaves, and this state
abbrev pub next : Context → Tree → State → Context
next c t s = record (asked_in c t) { state = s }

-- the desk where this stands in this table
abbrev pub standing : {E : Type 0} → Desk E → List Node → Standing → Desk E
standing desk ns l = record desk { terms = ns; live = l }

-- What may begin where searches were asked of some terms may where they were asked of more.
pub begins_more : {E : Type 0} (begins : E → List Term → Type 0) (old new : E) (ts more : List Term) → ((us : List Term) → begins old us → begins new us) → BeginsOver begins old ts
    → BeginsOver begins new (ts ++ more)
begins_more begins old new ts more keeps h us has = keeps us (h us (λ t k. has t (Contains-append_left ts more t k)))

-- So it is after a search, among what was asked.
pub begins_searched : {E : Type 0} (begins : E → List Term → Type 0) (old new : E) (ts listed : List Term)
    → ((ts us : List Term) → begins old ts → ((t : Term) → Contains (ts ++ listed) t → Contains us t) → begins new us) → BeginsOver begins old ts → BeginsOver begins new (ts ++ listed)
begins_searched begins old new ts listed searched h us has =
    searched us us (h us (λ t k. has t (Contains-append_left ts listed t k)))
    (λ t k. elim (Contains-append_cases us listed t k) [ inl here ↦ here | inr later ↦ has t (Contains-append_right ts listed t later) ])

-- The table of a desk goes on, and what is asserted stays.
pub record Continues {E : Type 0} (old : Desk E) (ns : List Node) (l : Standing) : Type 0 where
  pub terms : IsFrontOfTable old.terms ns
  pub asserted : asserted_by l ≡ asserted_by old.live

module _ {E : Type 0} (levels : E → List Level) (table : E → List Node) (begins : E → List Term → Type 0) where
  -- so where searches were asked of what a command asks too
  pub holds_asked : (desk : Desk E) (c : Context) (t : Tree) → Holds levels table begins desk c → Holds levels table begins desk (asked_in c t)
  holds_asked desk c t h =
      record {
        live = h.live;
        sorted = h.sorted;
        told = h.told;
        front = h.front;
        last = h.last;
        bound = h.bound;
        values = h.values;
        success = h.success;
        bounded = h.bounded;
        begun = begins_more begins desk.engine desk.engine c.earlier (asked_of c.state (outcome_of c.state t)) (λ us x. x) h.begun;
      }

  -- the desk holds the context where what stands is another that stands for its state
  pub holds_kept : (old : Desk E) (c : Context) (ns : List Node) (l : Standing) → Holds levels table begins old c → Continues old ns l → IsLive ns l c.state
      → Holds levels table begins (standing old ns l) c
  holds_kept old c ns l h on live =
      record {
        live = live;
        sorted = h.sorted;
        told = subst (IsTold (levels old.engine) old.told) (sym on.asserted) h.told;
        front = front_of_more (table old.engine) old.terms ns h.front on.terms;
        last = h.last;
        bound = h.bound;
        values = values_stay old.terms ns old.last on.terms h.values;
        success = h.success;
        bounded = h.bounded;
        begun = h.begun;
      }

  -- after a command that leaves the levels as they are
  pub kept_after : (old : Desk E) (c : Context) (ns : List Node) (l : Standing) (k : Command) → IsStill k → Holds levels table begins old c → Continues old ns l
      → ((r : Reply) → IsLive ns l (effect c.state k r)) → Holds levels table begins (standing old ns l) c
  kept_after old c ns l k none h on live = holds_kept old c ns l h on (stands ns l c.state k none live)

  -- where success is told from now on, or not
  pub holds_set : (old : Desk E) (c : Context) (t : Tree) (ns : List Node) (l : Standing) (b : Bool) (r : Reply) → Holds levels table begins old c → Continues old ns l
      → IsLive ns l (effect c.state (set_print_success b) r) → Holds levels table begins (record (standing old ns l) { prints_success = b }) (next c t (effect c.state (set_print_success b) r))
  holds_set old c t ns l b r h on live =
      record {
        live = live;
        sorted = h.sorted;
        told = subst (IsTold (levels old.engine) old.told) (sym on.asserted) h.told;
        front = front_of_more (table old.engine) old.terms ns h.front on.terms;
        last = h.last;
        bound = binds_still c.state.last c.state c.state.last c.state.last c.state.options (record { prints_success = b }) h.bound;
        values = values_stay old.terms ns old.last on.terms h.values;
        success = refl;
        bounded = h.bounded;
        begun = (holds_asked old c t h).begun;
      }

  -- After a search, where what it was asked, and those before, is among what searches were asked of then.
  pub holds_searched : (desk : Desk E) (c : Context) (t : Tree) (engine : E) (told : ToldExtent) (work : WorkList Note) (known : List Term) → Holds levels table begins desk c
      → IsTold (levels engine) told (asserted_by desk.live) → IsFrontOfTable (table engine) desk.terms → BeginsOver begins engine known
      → ((u : Term) → Contains known u → Contains (asked_in c t).earlier u) → Holds levels table begins (record desk { engine = engine; told = told; work = work }) (asked_in c t)
  holds_searched desk c t engine told work known h are front begun within =
      record {
        live = h.live;
        sorted = h.sorted;
        told = are;
        front = front;
        last = h.last;
        bound = h.bound;
        values = h.values;
        success = h.success;
        bounded = h.bounded;
        begun = λ us has. begun us (λ u k. has u (within u k));
      }

-- ---- Commands that end the last answer

-- an item more, levels more or less, or none
abbrev pub EndsAnswer : Command → Type 0
EndsAnswer (declare_const c) = ⊤
EndsAnswer (define d) = ⊤
EndsAnswer (assert_term t) = ⊤
EndsAnswer (push_levels n) = ⊤
EndsAnswer (pop_levels n) = ⊤
EndsAnswer reset = ⊤
EndsAnswer reset_assertions = ⊤
EndsAnswer k = ⊥

-- an item more, or levels more
pub change_ends : (k : Command) → IsChange k → EndsAnswer k
change_ends (declare_const c) h = tt
change_ends (define d) h = tt
change_ends (assert_term t) h = tt
change_ends (push_levels n) h = tt
change_ends k h = absurd h

pub change_keeps : (s : State) (k : Command) (r : Reply) → IsChange k → s.options.prints_success ≡ (effect s k r).options.prints_success
change_keeps s (declare_const c) r h = refl
change_keeps s (define d) r h = refl
change_keeps s (assert_term t) r h = refl
change_keeps s (push_levels n) r h = refl
change_keeps s k r h = absurd h

-- it leaves no answer, whatever the reply
none_after : (s : State) (k : Command) (r : Reply) → EndsAnswer k → (effect s k r).last ≡ None
none_after s (declare_const c) r h = refl
none_after s (define d) r h = refl
none_after s (assert_term t) r h = refl
none_after s (push_levels n) r h = refl
none_after s (pop_levels n) r h = refl
none_after s reset r h = refl
none_after s reset_assertions r h = refl
none_after s k r h = absurd h

-- its right reply tells success, or nothing, by the options that it leaves
right_ending : (c : Context) (k : Command) (r : Reply) → EndsAnswer k → IsRightCommand c k (done (effect c.state k r).options) plain
right_ending c (declare_const d) r h = (refl, refl)
right_ending c (define d) r h = (refl, refl)
right_ending c (assert_term t) r h = (refl, refl)
right_ending c (push_levels n) r h = (refl, refl)
right_ending c (pop_levels n) r h = (refl, refl)
right_ending c reset r h = (refl, refl)
right_ending c reset_assertions r h = (refl, refl)
right_ending c k r h = absurd h

-- ---- Answers that tell no error

abbrev pub TellsNoError : Reply → Type 0
TellsNoError (error n) = ⊥
TellsNoError r = ⊤

done_tells : (b : Bool) → TellsNoError (if b then success else quiet)
done_tells true = tt
done_tells false = tt

after_accepted : (s : State) (t : Tree) (k : Command) (r : Reply) → TellsNoError r → outcome_of s t ≡ accepted k → after s (intact t) r ≡ effect s k r
after_accepted s t k quiet n e = ap (λ o. effect_of s o quiet) e
after_accepted s t k success n e = ap (λ o. effect_of s o success) e
after_accepted s t k (sat bs) n e = ap (λ o. effect_of s o (sat bs)) e
after_accepted s t k unsat n e = ap (λ o. effect_of s o unsat) e
after_accepted s t k (unknown w) n e = ap (λ o. effect_of s o (unknown w)) e
after_accepted s t k (model bs) n e = ap (λ o. effect_of s o (model bs)) e
after_accepted s t k (values ps) n e = ap (λ o. effect_of s o (values ps)) e
after_accepted s t k (info i) n e = ap (λ o. effect_of s o (info i)) e
after_accepted s t k (levels_reply m) n e = ap (λ o. effect_of s o (levels_reply m)) e
after_accepted s t k (reason w) n e = ap (λ o. effect_of s o (reason w)) e
after_accepted s t k (echoed bs) n e = ap (λ o. effect_of s o (echoed bs)) e
after_accepted s t k unsupported n e = ap (λ o. effect_of s o unsupported) e
after_accepted s t k (error m) n e = absurd n

one_command : (k d : Command) → accepted k ≡ accepted d → k ≡ d
one_command k d e = cc

-- commands that are no exit
pub goes_on_after_levels : get_levels ≡ exit → ⊥
goes_on_after_levels e = cc

pub goes_on_after_setting : (b : Bool) → set_print_success b ≡ exit → ⊥
goes_on_after_setting b e = cc

pub goes_on_after_info : (i : Info) → get_info i ≡ exit → ⊥
goes_on_after_info i e = cc

pub goes_on_after_echo : (bytes : List ℕ) → echo bytes ≡ exit → ⊥
goes_on_after_echo bytes e = cc

pub goes_on_after_nothing : no_effect ≡ exit → ⊥
goes_on_after_nothing e = cc

-- a reply by what the desk holds of the options
pub tells_done : (s : State) (t : Tree) (b : Bool) (q : said.Reply) → reply_of (intact t) q ≡ done (record { prints_success = b }) → b ≡ s.options.prints_success
    → reply_of (intact t) q ≡ done s.options
tells_done s t b q tells e = tells ∙ ap (λ x. if x then success else quiet) e

-- ---- Right answers, by what they tell

check_tells : (c : Context) (ls : List Literal) (r : Reply) (w : Cause) → IsRightCheck c ls r w → TellsNoError r
check_tells c ls (error m) w h = absurd h
check_tells c ls r w h = tt

-- a model that a check finds binds the live constants
bound_after : (c : Context) (ls : List Literal) (r : Reply) (w : Cause) → IsRightCheck c ls r w → BindsConstants (last_after r) c.state
bound_after c ls (sat bs) w h = h.0.constants
bound_after c ls r w h = tt

-- ---- Answers

-- an answer by its reply alone
abbrev pub plainly : said.Reply → Answer
plainly q = record { reply = q; cause = why.Plain; exits = false }

-- so it is by a desk that is another one
pub succeeds_too : {E : Type 0} (d e : Desk E) (answer : Answer) → d ≡ e → Succeeds d.prints_success answer → Succeeds e.prints_success answer
succeeds_too {E} d e answer same h = subst (λ (x : Desk E). Succeeds x.prints_success answer) same h

module _ {E : Type 0} (levels : E → List Level) (table : E → List Node) (begins : E → List Term → Type 0) where
  pub answers_too : (c : Context) (t : Tree) (answer : Answer) (d e : Desk E) → d ≡ e → IsAnswer levels table begins c (intact t) answer (record e { prints_success = false })
      → IsAnswer levels table begins c (intact t) answer (record d { prints_success = false })
  answers_too c t answer d e same h = subst (λ (x : Desk E). IsAnswer levels table begins c (intact t) answer (record x { prints_success = false })) (sym same) h

  accepted_answer : (c : Context) (t : Tree) (k : Command) (r : Reply) (w : Cause) (answer : Answer) (desk : Desk E)
      → reply_of (intact t) answer.reply ≡ r → cause_of desk.terms answer.cause ≡ w → IsCauseWithin desk.terms answer.cause → TellsNoError r → outcome_of c.state t ≡ accepted k
      → IsRightCommand c k r w → Holds levels table begins desk (next c t (effect c.state k r)) → (answer.exits ≡ true → k ≡ exit) → (answer.exits ≡ false → k ≡ exit → ⊥)
      → IsAnswer levels table begins c (intact t) answer desk
  accepted_answer c t k r w answer desk tells cause within n e right holds ends goes =
      let replied : Reply → Type 0 = λ q. IsRight c (intact t) q (cause_of desk.terms answer.cause) in
      let caused : Cause → Type 0 = λ q. IsRight c (intact t) r q in
      let exit_right : answer.exits ≡ true → IsExit c.state (intact t) r = λ x. (e ∙ ap accepted (ends x), (subst (λ d. IsRightCommand c d r w) (ends x) right).0) in
      record {
        right = subst replied (sym tells) (subst caused (sym cause) (inl (subst (λ o. IsRightOutcome c o r w) (sym e) right)));
        within = within;
        holds = subst (λ q. Holds levels table begins desk (next c t (after c.state (intact t) q))) (sym tells) (subst (λ s. Holds levels table begins desk (next c t s)) (sym (after_accepted c.state t k r n e)) holds);
        exits = λ x. subst (IsExit c.state (intact t)) (sym tells) (exit_right x);
        stays = λ x y. goes x (one_command k exit (sym e ∙ y.0));
      }

  -- to no exit
  pub told_answer : (c : Context) (t : Tree) (k : Command) (q : said.Reply) (r : Reply) (answer : Answer) (desk : Desk E)
      → answer ≡ plainly q → reply_of (intact t) q ≡ r → TellsNoError r → outcome_of c.state t ≡ accepted k
      → IsRightCommand c k r plain → Holds levels table begins desk (next c t (effect c.state k r)) → (k ≡ exit → ⊥) → IsAnswer levels table begins c (intact t) answer desk
  told_answer c t k q r answer desk is tells n e right holds goes =
      subst (λ (a : Answer). IsAnswer levels table begins c (intact t) a desk) (sym is)
      (accepted_answer c t k r plain (plainly q) desk tells refl tt n e right holds (λ x. cc) (λ x. goes))

  -- one that tells success or nothing, to no exit
  pub done_answer : (c : Context) (t : Tree) (k : Command) (b : Bool) (answer : Answer) (desk : Desk E) → Succeeds b answer → outcome_of c.state t ≡ accepted k
      → IsRightCommand c k (done (record { prints_success = b })) plain → Holds levels table begins desk (next c t (effect c.state k (done (record { prints_success = b })))) → (k ≡ exit → ⊥)
      → IsAnswer levels table begins c (intact t) answer desk
  done_answer c t k b answer desk s e right holds goes =
      told_answer c t k answer.reply (done (record { prints_success = b })) answer desk s.plain (s.tells (intact t)) (done_tells b) e right holds goes

  -- one that ends the session
  pub exit_answer : (c : Context) (t : Tree) (q : said.Reply) (desk : Desk E) → reply_of (intact t) q ≡ done c.state.options → outcome_of c.state t ≡ accepted exit
      → Holds levels table begins desk (asked_in c t) → IsAnswer levels table begins c (intact t) (record { reply = q; cause = why.Plain; exits = true }) desk
  exit_answer c t q desk tells e h =
      accepted_answer c t exit (done c.state.options) plain (record { reply = q; cause = why.Plain; exits = true }) desk tells refl tt (done_tells c.state.options.prints_success) e
      (refl, refl) h (λ x. refl) (λ x. cc)

  -- one to a command that ends the last answer
  pub ended_answer : StatesStaySorted → (c : Context) (t : Tree) (k : Command) (answer : Answer) (desk : Desk E) → IsSortedState c.state → outcome_of c.state t ≡ accepted k → EndsAnswer k
      → Succeeds desk.prints_success answer → ((r : Reply) → IsLive desk.terms desk.live (effect c.state k r)) → IsTold (levels desk.engine) desk.told (asserted_by desk.live)
      → IsFrontOfTable (table desk.engine) desk.terms → BeginsOver begins desk.engine c.earlier → desk.last ≡ None → ((r : Reply) → desk.prints_success ≡ (effect c.state k r).options.prints_success) → desk.limit ≡ c.limit
      → IsAnswer levels table begins c (intact t) answer desk
  ended_answer stay c t k answer desk sorted e ends s live told front begun none same bounded =
      let b = desk.prints_success in
      let r : Reply = done (record { prints_success = b }) in
      let after : State = effect c.state k r in
      let last : after.last ≡ None = none_after c.state k r ends in
      done_answer c t k b answer desk s e
      (subst (λ x. IsRightCommand c k (done (record { prints_success = x })) plain) (sym (same r)) (right_ending c k r ends))
      (record {
        live = live r;
        sorted = stay.by_command c.state t k r e sorted;
        told = told;
        front = front;
        last = ap (option_map last_of) none ∙ sym last;
        bound = subst (λ (o : Option LastAnswer). BindsConstants o after) (sym last) tt;
        values = subst (KeepsValues desk.terms) (sym none) tt;
        success = same r;
        bounded = bounded;
        begun = begins_more begins desk.engine desk.engine c.earlier (asked_of c.state (outcome_of c.state t)) (λ us x. x) begun;
      })
      (λ x. subst EndsAnswer x ends)

  -- ---- Checks

  -- the desk holds what it held before the check, but for what the last answer was
  pub checked_answer : (c : Context) (t : Tree) (ls : List Literal) (answer : Answer) (desk : Desk E) (last : Option shown.LastAnswer) → Holds levels table begins (record desk { last = last }) (asked_in c t)
      → answer.exits ≡ false → outcome_of c.state t ≡ accepted (check_sat ls) → option_map last_of desk.last ≡ last_after (reply_of (intact t) answer.reply)
      → IsRightCheck c ls (reply_of (intact t) answer.reply) (cause_of desk.terms answer.cause) → IsCauseWithin desk.terms answer.cause → KeepsValues desk.terms desk.last
      → IsAnswer levels table begins c (intact t) answer desk
  checked_answer c t ls answer desk last h stays e told right within keeps =
      let r = reply_of (intact t) answer.reply in
      let w = cause_of desk.terms answer.cause in
      let kept : Holds levels table begins desk (next c t (effect c.state (check_sat ls) r)) =
      record {
        live = live_still desk.terms desk.live c.state c.state.last (last_after r) c.state.options c.state.options h.live;
        sorted = h.sorted;
        told = h.told;
        front = h.front;
        last = told;
        bound = binds_still (last_after r) c.state c.state.last (last_after r) c.state.options c.state.options (bound_after c ls r w right);
        values = keeps;
        success = h.success;
        bounded = h.bounded;
        begun = h.begun;
      } in
      accepted_answer c t (check_sat ls) r w answer desk refl refl within (check_tells c ls r w right) e right kept
      (λ x. let y = sym x ∙ stays in cc) (λ x. λ y. cc)

  pub checked : (c : Context) (t : Tree) (ls : List Literal) (q : said.Reply) (answer : Answer) (desk : Desk E) (last : Option shown.LastAnswer) → answer ≡ plainly q
      → Holds levels table begins (record desk { last = last }) (asked_in c t) → outcome_of c.state t ≡ accepted (check_sat ls) → option_map last_of desk.last ≡ last_after (reply_of (intact t) q)
      → IsRightCheck c ls (reply_of (intact t) q) plain → KeepsValues desk.terms desk.last → IsAnswer levels table begins c (intact t) answer desk
  checked c t ls q answer desk last is h e told right keeps =
      subst (λ (a : Answer). IsAnswer levels table begins c (intact t) a desk) (sym is) (checked_answer c t ls (plainly q) desk last h refl e told right tt keeps)
