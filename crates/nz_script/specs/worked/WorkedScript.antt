-- A worked script: what becomes of commands, one at a time, where a few constants and definitions are live.
use Rattle.std.specs.Prelude.{◌≡◌, ℕ, true, false, List, [], ◌∷◌, map, Some, None, codes}
use Rattle.nz_script.specs.text.Tree.{Tree, leaf, symbol, numeral}
use Rattle.nz_spec.specs.terms.Term.{bool_sort, int_sort, real_sort, over_int, parameter, verum, falsum, less, magnitude, sum, decimal_number}
use Rattle.nz_spec.specs.terms.Normal.{paired}
use Rattle.nz_spec.specs.clauses.Literal.{term_literal}
use Rattle.nz_script.specs.live.Live.{State, start, declared, defined, asserted, model_found, refutation}
use Rattle.nz_script.specs.commands.Command.{declare_const, define, assert_term, get_model, get_value, get_info, name_info, get_levels, get_reason, set_print_success, no_effect, echo, exit, push_levels, pop_levels, reset, reset_assertions, check_sat, Outcome, accepted, refused, not_taken}
use Rattle.nz_script.specs.commands.Script.{outcome_of}
use Rattle.nz_script.specs.text.Text.{intact}
use Rattle.nz_script.specs.replies.Reply.{Reply, quiet, success, unsat, values, error, unsupported}
use Rattle.nz_spec.specs.outside.Error as fault
use Rattle.nz_script.specs.replies.Right.{may_want_memory, after}
use Rattle.nz_spec.specs.worked.TruthTables.{of_three}
use Rattle.nz_spec.specs.worked.TermSamples.{constant_of_sort, alone, over_one, a_term, x_term, u_term, numeral_term, real_of, sample_constants}
use Rattle.nz_script.specs.worked.Samples.{half, above, below, tree_in, state_with, outcome_in}

abbrev pub outcomes_in : List (List ℕ) → List Outcome
outcomes_in texts = map outcome_in texts

-- as many as these texts, each so
abbrev pub all_end : Outcome → List (List ℕ) → List Outcome
all_end o texts = map (λ text. o) texts

-- ---- Refused

-- Not of the form of its command: refused as syntax.
abbrev pub formless : List (List ℕ)
formless =
    codes "()" ∷ codes "(1 2)" ∷ codes "((assert) a)" ∷ codes "(let)" ∷ codes "(assert)" ∷ codes "(assert x y)" ∷ codes "(assert ())" ∷
    codes "(assert (a))" ∷ codes "(assert ((f) x))" ∷ codes "(assert \"a\")" ∷ codes "(assert #b1)" ∷ codes "(assert #xF)" ∷ codes "(assert :k)" ∷
    codes "(assert (! a :named n))" ∷ codes "(assert (_ a 1))" ∷ codes "(assert (as a Bool))" ∷ codes "(assert (forall ((z Int)) a))" ∷
    codes "(assert let)" ∷ codes "(assert (let () a))" ∷ codes "(assert (let ((z)) a))" ∷ codes "(assert (let ((1 z)) a))" ∷
    codes "(declare-const z)" ∷ codes "(declare-const let Int)" ∷ codes "(declare-const 1 Int)" ∷ codes "(declare-fun z Int)" ∷
    codes "(define-fun g (k) Int 1)" ∷ codes "(set-option :print-success 1)" ∷ codes "(set-option :print-success maybe)" ∷
    codes "(set-option :opt.priority other)" ∷ codes "(set-option :foo)" ∷ codes "(set-option foo 1)" ∷ codes "(get-info :name 1)" ∷
    codes "(get-info name)" ∷ codes "(set-info :foo let)" ∷ codes "(set-info :foo :bar)" ∷ codes "(echo a)" ∷ codes "(echo)" ∷
    codes "(get-value ())" ∷ codes "(get-value x)" ∷ codes "(get-model x)" ∷ codes "(check-sat a)" ∷ codes "(exit 1)" ∷ codes "(push a)" ∷
    codes "(pop 1 1)" ∷ codes "(assert-soft a :weight x)" ∷ codes "(assert-soft a :weight 1 :weight 2)" ∷ codes "(assert-soft a :dweight 1)" ∷
    codes "(assert-soft a :id)" ∷ codes "(check-sat-assuming ((and a)))" ∷ codes "(check-sat-assuming a)" ∷ codes "(minimize)" ∷ []

-- A symbol that isn't in scope, also where another rule is broken.
abbrev pub unknown_names : List (List ℕ)
unknown_names =
    codes "(assert q)" ∷ codes "(assert (f x))" ∷ codes "(assert (and a (< q true)))" ∷ codes "(assert (let ((z z)) a))" ∷
    codes "(assert (let ((z 1)) (let ((w 1) (v w)) a)))" ∷ codes "(assert (and (let ((z a)) z) z))" ∷ codes "(assert (let ((z 1) (z 2)) (< z q)))" ∷
    codes "(get-value (x q))" ∷ codes "(declare-const z Foo)" ∷ codes "(declare-const x Foo)" ∷ codes "(declare-fun f (Foo) Int)" ∷
    codes "(declare-fun f (Int Foo) (Array Int))" ∷ codes "(define-fun g () Foo 1)" ∷ codes "(define-fun g ((k Foo)) Int 1)" ∷
    codes "(define-fun g ((k Int)) Int (+ k l))" ∷ codes "(define-fun g ((k Int)) Int (g k))" ∷ []

-- A name that is declared, or an operator's, is declared again, or one list binds a name twice.
abbrev pub declared_names : List (List ℕ)
declared_names =
    codes "(declare-const x Bool)" ∷ codes "(declare-fun x () Int)" ∷ codes "(declare-fun x (Int) Int)" ∷ codes "(declare-const half Int)" ∷
    codes "(declare-const and Bool)" ∷ codes "(declare-const <= Bool)" ∷ codes "(declare-const is_int Int)" ∷ codes "(define-fun x () Int 1)" ∷
    codes "(define-fun half ((r Real)) Real (/ r 2))" ∷ codes "(define-fun true () Bool a)" ∷ codes "(define-fun g ((k Int) (k Int)) Int k)" ∷
    codes "(define-fun g ((and Int)) Int 1)" ∷ codes "(define-fun g () Int (let ((z 1) (z 2)) z))" ∷ codes "(assert (let ((and true)) and))" ∷
    codes "(assert (let ((z 1) (z 2)) (+ z 1)))" ∷ codes "(get-value ((let ((z 1) (z 2)) z)))" ∷ []

-- A number of arguments or a sort that doesn't fit; a function; a sort that is a list.
abbrev pub ill_sorted : List (List ℕ)
ill_sorted =
    codes "(assert (+ x 1))" ∷ codes "(assert x)" ∷ codes "(assert (< true 1))" ∷ codes "(assert (x 1))" ∷ codes "(assert (let ((z a)) (z 1)))" ∷
    codes "(assert and)" ∷ codes "(assert half)" ∷ codes "(assert (half u u))" ∷ codes "(assert (not a a))" ∷ codes "(assert (< true (* x x)))" ∷
    codes "(get-value (x (not x)))" ∷ codes "(declare-fun f (Int) Int)" ∷ codes "(declare-const z (Array Int Int))" ∷
    codes "(declare-fun f ((Array Foo)) Int)" ∷ codes "(define-fun g () Bool 1)" ∷ codes "(define-fun g () Int 1.0)" ∷
    codes "(define-fun g () (Foo) 1)" ∷ codes "(define-fun g ((k (Foo))) Int 1)" ∷ codes "(define-fun g ((k Real)) Int (div k 2))" ∷ []

-- Well sorted, and not linear.
abbrev pub nonlinear : List (List ℕ)
nonlinear =
    codes "(assert (> (* x x) 0))" ∷ codes "(assert (= (half (* x x)) 1))" ∷ codes "(assert (= (/ 1 u) 2))" ∷ codes "(get-value (x (mod 1 0)))" ∷
    codes "(define-fun g ((k Int) (l Int)) Int (* k l))" ∷ codes "(define-fun g ((k Int)) Int (div 6 k))" ∷ []

-- A number above the greatest, wherever it stands.
abbrev pub wide_numbers : List (List ℕ)
wide_numbers =
    codes "(assert (< x 170141183460469231731687303715884105728))" ∷ codes "(assert (< u 17014118346046923173168730371588410572.8))" ∷
    codes "(set-info :foo 170141183460469231731687303715884105728)" ∷ codes "(set-info :foo (170141183460469231731687303715884105728))" ∷
    codes "(frob 170141183460469231731687303715884105728)" ∷ codes "(pop 170141183460469231731687303715884105728)" ∷
    codes "(assert (q 170141183460469231731687303715884105728))" ∷ []

-- Past a limit, also where a number is too wide.
abbrev pub past_limits : List (List ℕ)
past_limits =
    codes "(push 1001)" ∷ codes "(push 170141183460469231731687303715884105728)" ∷ codes "(assert-soft a :weight 0)" ∷
    codes "(assert-soft a :id g :weight 0.00)" ∷ codes "(assert (< u 0.000000000000000000000000000000000000001))" ∷
    codes "(frob 0.000000000000000000000000000000000000001)" ∷
    codes "(frob 0.000000000000000000000000000000000000001 170141183460469231731687303715884105728)" ∷ []

-- What the program doesn't take.
abbrev pub unsupported_texts : List (List ℕ)
unsupported_texts =
    codes "(frob)" ∷ codes "(frob (x) :y \"z\")" ∷ codes "(|check sat|)" ∷ codes "(set-option :opt.priority box)" ∷
    codes "(set-option :opt.priority pareto)" ∷ codes "(set-option :foo 1)" ∷ codes "(set-option :foo (let))" ∷ codes "(get-info :foo)" ∷
    codes "(define-sort S () Int)" ∷ []

-- What the program takes and heeds nowhere.
abbrev pub without_effect : List (List ℕ)
without_effect =
    codes "(set-logic QF_LRA)" ∷ codes "(set-logic whatever)" ∷ codes "(set-info :status sat)" ∷ codes "(set-info :foo)" ∷
    codes "(set-info :foo (a \"b\"))" ∷ codes "(set-option :produce-models true)" ∷ codes "(set-option :produce-models false)" ∷
    codes "(set-option :opt.priority lex)" ∷ []

-- Of the rules that a command breaks the first decides: the form, the limits, the width of numbers, what isn't taken, names
-- that aren't in scope, names that are declared, sorts, and what isn't linear.
pub record HasRefusals : Type 0 where
  pub syntax : outcomes_in formless ≡ all_end (refused fault.bad_syntax) formless
  pub limits : outcomes_in past_limits ≡ all_end (refused fault.past_limit) past_limits
  pub width : outcomes_in wide_numbers ≡ all_end (refused fault.too_wide) wide_numbers
  pub others : outcomes_in unsupported_texts ≡ all_end not_taken unsupported_texts
  pub unknown : outcomes_in unknown_names ≡ all_end (refused fault.unknown_symbol) unknown_names
  pub known : outcomes_in declared_names ≡ all_end (refused fault.already_declared) declared_names
  pub sorts : outcomes_in ill_sorted ≡ all_end (refused fault.wrong_sort) ill_sorted
  pub linear : outcomes_in nonlinear ≡ all_end (refused fault.not_linear) nonlinear

-- ---- Accepted

-- the same constants, and no definition
abbrev pub constants_state : State
constants_state = state_with (map declared sample_constants) None

-- Declarations, definitions and assertions: the definitions among them are those that the samples of terms go by. A body and
-- an assertion are linear, and a body of sort Int where a Real is wanted is read as `to_real` of it.
pub record HasAdditions : Type 0 where
  pub constants : outcome_in (codes "(declare-const z Real)") ≡ accepted (declare_const (constant_of_sort real_sort (codes "z")))
  pub functions : outcome_in (codes "(declare-fun |a b| () Bool)") ≡ accepted (declare_const (constant_of_sort bool_sort (codes "a b")))
  pub sort_names : outcome_in (codes "(declare-const Int Int)") ≡ accepted (declare_const (constant_of_sort int_sort (codes "Int")))
  pub halves : outcome_of constants_state (tree_in (codes "(define-fun half ((r Real)) Real (/ r 2))")) ≡ accepted (define half)
  pub over_constant : outcome_of constants_state (tree_in (codes "(define-fun above ((y Int)) Bool (< x y))")) ≡ accepted (define above)
  pub parameters_hide : outcome_of constants_state (tree_in (codes "(define-fun below ((x Int) (y Int)) Bool (< x y))")) ≡ accepted (define below)
  pub widened : outcome_in (codes "(define-fun one () Real 1)") ≡ accepted (define (record { name = codes "one"; parameters = []; body = real_of (numeral_term 1) }))
  pub hides_definition : outcome_in (codes "(define-fun next ((half Int)) Int (+ half 1))")
      ≡ accepted (define (record { name = codes "next"; parameters = int_sort ∷ []; body = paired (sum over_int) (alone (parameter 0 int_sort)) (numeral_term 1) }))
  pub asserts : outcome_in (codes "(assert (< x u 2))") ≡ accepted (assert_term (of_three less (real_of x_term) u_term (real_of (numeral_term 2))))
  pub vanishes : outcome_in (codes "(assert (let ((z (* x x))) a))") ≡ accepted (assert_term a_term)
  pub greatest : outcome_in (codes "(assert (< 170141183460469231731687303715884105727 x))") ≡ accepted (assert_term (paired less (numeral_term 170141183460469231731687303715884105727) x_term))
  pub most_places : outcome_in (codes "(assert (< 0.00000000000000000000000000000000000001 u))") ≡ accepted (assert_term (paired less (alone (decimal_number 1 38)) u_term))

abbrev pub tree_x : Tree
tree_x = leaf (symbol (codes "x"))

abbrev pub tree_one : Tree
tree_one = leaf (numeral (codes "1"))

-- Commands that ask or set.
pub record HasAsking : Type 0 where
  pub shows : outcome_in (codes "(get-value (x 1))") ≡ accepted (get_value (record { tree = tree_x; term = x_term } ∷ record { tree = tree_one; term = numeral_term 1 } ∷ []))
  pub models : outcome_in (codes "(get-model)") ≡ accepted get_model
  pub names : outcome_in (codes "(get-info :name)") ≡ accepted (get_info name_info)
  pub levels : outcome_in (codes "(get-info :assertion-stack-levels)") ≡ accepted get_levels
  pub reasons : outcome_in (codes "(get-info :reason-unknown)") ≡ accepted get_reason
  pub echoes : outcome_in (codes "(echo \"a\"\"b\")") ≡ accepted (echo (codes "a\"b"))
  pub reports : outcome_in (codes "(set-option :print-success true)") ≡ accepted (set_print_success true)
  pub is_quiet : outcome_in (codes "(set-option :print-success false)") ≡ accepted (set_print_success false)
  pub unheeded : outcomes_in without_effect ≡ all_end (accepted no_effect) without_effect
  pub ends : outcome_in (codes "(exit)") ≡ accepted exit

-- ---- What they leave

-- a state with an answer to show
abbrev pub answered : State
answered = state_with (declared (constant_of_sort bool_sort (codes "a")) ∷ []) (Some (model_found []))

-- the state after the command of a text and its reply
abbrev pub left_by : State → List ℕ → Reply → State
left_by s text reply = after s (intact (tree_in text)) reply

-- what may be answered with want of memory: all but `pop`, `echo` and `exit` where they are accepted
abbrev pub answerable_texts : List (List ℕ)
answerable_texts =
    codes "(pop 0)" ∷ codes "(echo \"a\")" ∷ codes "(exit)" ∷ codes "(pop 1)" ∷ codes "(echo a)" ∷ codes "(exit 1)" ∷ codes "(push 0)" ∷ codes "(reset)" ∷
    codes "(get-model)" ∷ codes "(assert a)" ∷ codes "(frob)" ∷ []

-- An accepted addition stands last, and ends the answer; what shows the answer leaves it, and so does whatever is refused.
pub record HasEffects : Type 0 where
  pub declares : left_by start (codes "(declare-const x Int)") quiet ≡ state_with (declared (constant_of_sort int_sort (codes "x")) ∷ []) None
  pub asserts : left_by answered (codes "(assert a)") quiet
      ≡ state_with (declared (constant_of_sort bool_sort (codes "a")) ∷ asserted a_term ∷ []) None
  pub shows : left_by answered (codes "(get-value (a))") (values []) ≡ answered
  pub refuses : left_by answered (codes "(assert q)") (error fault.unknown_symbol) ≡ answered
  pub passes : left_by answered (codes "(frob)") unsupported ≡ answered
  pub lacks_memory : left_by answered (codes "(assert a)") (error fault.out_of_memory) ≡ answered
  pub wants_memory : map may_want_memory (outcomes_in answerable_texts) ≡ false ∷ false ∷ false ∷ true ∷ true ∷ true ∷ true ∷ true ∷ true ∷ true ∷ true ∷ []
  pub denies : left_by answered (codes "(check-sat)") unsat ≡ record answered { last = Some refutation }
  pub sets : left_by answered (codes "(set-option :print-success true)") success ≡ record answered { options = record { prints_success = true } }

-- ---- Levels and assumptions

-- the Boolean a, the real number u, and definitions: of a truth, of a function, of what asks something of an integer, and of what u is below
abbrev pub taken_state : State
taken_state =
    state_with
    (declared (constant_of_sort bool_sort (codes "a")) ∷ declared (constant_of_sort real_sort (codes "u"))
    ∷ defined (record { name = codes "b"; parameters = []; body = a_term }) ∷ defined half
    ∷ defined (record { name = codes "c"; parameters = []; body = paired less (numeral_term 1) (over_one magnitude (numeral_term 2)) })
    ∷ defined (record { name = codes "d"; parameters = []; body = paired less u_term (real_of (numeral_term 1)) }) ∷ [])
    None

abbrev pub outcomes_over : List (List ℕ) → List Outcome
outcomes_over texts = map (λ text. outcome_of taken_state (tree_in text)) texts

-- one level beside the first, in which a is asserted, and a model to show
abbrev pub pushed : State
pushed =
    record {
      levels =
          (record { number = 1; item = asserted a_term } ∷ [])
          ∷ (record { number = 0; item = declared (constant_of_sort bool_sort (codes "a")) } ∷ []) ∷ [];
      next = 2;
      last = Some (model_found []);
      options = record { prints_success = true };
    }

-- A check is of what is live and assumed, a name of sort Bool without parameters, or true or false, or the negation of one. The program takes none
-- that is of integers, whatever rule it breaks. No more is taken off than was pushed, and the numbers of items go on.
pub record HasLevels : Type 0 where
  pub pushes : outcomes_over (codes "(push)" ∷ codes "(push 0)" ∷ codes "(push 1000)" ∷ []) ≡ accepted (push_levels 1) ∷ accepted (push_levels 0) ∷ accepted (push_levels 1000) ∷ []
  pub pops : outcomes_over (codes "(pop 0)" ∷ codes "(pop)" ∷ codes "(pop 2)" ∷ []) ≡ accepted (pop_levels 0) ∷ refused fault.below_zero ∷ refused fault.below_zero ∷ []
  pub takes_off : outcome_of pushed (tree_in (codes "(pop)")) ≡ accepted (pop_levels 1)
  pub wide : outcome_in (codes "(pop 170141183460469231731687303715884105728)") ≡ refused fault.too_wide
  pub resets : outcomes_over (codes "(reset)" ∷ codes "(reset-assertions)" ∷ []) ≡ accepted reset ∷ accepted reset_assertions ∷ []
  pub assumes : outcome_of taken_state (tree_in (codes "(check-sat-assuming (a (not b) true (not false)))"))
      ≡ accepted
      (check_sat (term_literal a_term true ∷ term_literal a_term false ∷ term_literal (alone verum) true ∷ term_literal (alone falsum) false ∷ []))
  pub none : outcome_of taken_state (tree_in (codes "(check-sat-assuming ())")) ≡ accepted (check_sat [])
  pub unknown : outcome_of taken_state (tree_in (codes "(check-sat-assuming (and z))")) ≡ refused fault.unknown_symbol
  pub sorts : outcomes_over (codes "(check-sat-assuming (and))" ∷ codes "(check-sat-assuming (a half))" ∷ []) ≡ refused fault.wrong_sort ∷ refused fault.wrong_sort ∷ []
  pub reals : outcome_of taken_state (tree_in (codes "(check-sat-assuming (d))"))
      ≡ accepted (check_sat (term_literal (paired less u_term (real_of (numeral_term 1))) true ∷ []))
  pub integers : outcome_of taken_state (tree_in (codes "(check-sat-assuming (z c))")) ≡ not_taken
  pub live_integers : outcome_in (codes "(check-sat-assuming (z))") ≡ not_taken
  pub begins : left_by answered (codes "(push 2)") quiet
      ≡ record {
        levels = [] ∷ [] ∷ (record { number = 0; item = declared (constant_of_sort bool_sort (codes "a")) } ∷ []) ∷ [];
        next = 1;
        last = None;
        options = record { prints_success = false };
      }
  pub ends : left_by pushed (codes "(pop)") success
      ≡ record {
        levels = (record { number = 0; item = declared (constant_of_sort bool_sort (codes "a")) } ∷ []) ∷ [];
        next = 2;
        last = None;
        options = record { prints_success = true };
      }
  pub stays : left_by pushed (codes "(pop 2)") (error fault.below_zero) ≡ pushed
  pub starts_anew : left_by pushed (codes "(reset)") quiet ≡ start
  pub keeps_options : left_by pushed (codes "(reset-assertions)") success ≡ record start { options = record { prints_success = true } }
