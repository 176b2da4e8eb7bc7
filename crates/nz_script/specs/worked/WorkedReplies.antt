-- Worked texts: values, trees and replies, byte for byte.
use Rattle.std.specs.Prelude.{◌≡◌, ℕ, true, false, List, [], ◌∷◌, ◌++◌, map, pos, negsuc, Option, Some, None, codes}
use Rattle.nz_fractions.specs.Fraction.{Fraction, whole, over, largest, Sum, Difference, Product, Quotient}
use Rattle.nz_spec.specs.terms.Term.{bool_sort, int_sort, real_sort, Value, truth, number, whole_number}
use Rattle.nz_spec.specs.terms.Model.{Binding, assignment_of}
use Rattle.nz_script.specs.live.Live.{units_spent}
use Rattle.nz_script.specs.commands.Command.{name_info, error_behavior_info, Outcome, accepted, get_value}
use Rattle.nz_script.specs.replies.Reply.{value_text, wide_text, tree_text, quiet, success, sat, unsat, unknown, model, values, info, levels, reason, echoed, unsupported, error, reply_text}
use Rattle.nz_spec.specs.outside.Error as fault
use Rattle.nz_script.specs.replies.Right.{shown_under}
use Rattle.nz_spec.specs.worked.TermSamples.{constant_of_sort}
use Rattle.nz_script.specs.worked.Samples.{tree_in, outcome_in, value_in}

-- Values by their sorts. One of sort Real is a quotient in lowest terms, or a decimal where it is whole.
pub record HasValueTexts : Type 0 where
  pub truths : map (value_text bool_sort) (truth true ∷ truth false ∷ []) ≡ codes "true" ∷ codes "false" ∷ []
  pub integers : map (λ n. value_text int_sort (whole_number n)) (pos 7 ∷ negsuc 6 ∷ pos 0 ∷ []) ≡ codes "7" ∷ codes "(- 7)" ∷ codes "0" ∷ []
  pub reals : map (λ q. value_text real_sort (number q)) (whole (pos 2) ∷ whole (negsuc 1) ∷ over (pos 3) 2 ∷ over (negsuc 2) 2 ∷ whole (pos 0) ∷ [])
      ≡ codes "2.0" ∷ codes "(- 2.0)" ∷ codes "(/ 3.0 2.0)" ∷ codes "(- (/ 3.0 2.0))" ∷ codes "0.0" ∷ []
  pub wide : map wide_text
      (record { operator = Sum; left = whole (pos largest); right = whole (pos 1) } ∷ record { operator = Difference; left = whole (negsuc 6); right = over (pos 3) 2 }
      ∷ record { operator = Product; left = over (negsuc 2) 2; right = whole (pos 0) } ∷ record { operator = Quotient; left = whole (pos 1); right = over (pos 1) 3 } ∷ [])
      ≡ codes "(wide add 170141183460469231731687303715884105727 1)" ∷ codes "(wide sub (- 7) (/ 3 2))" ∷ codes "(wide mul (- (/ 3 2)) 0)" ∷ codes "(wide div 1 (/ 1 3))" ∷ []

-- The normal spelling of a tree, however it was written.
abbrev pub spelled : List ℕ → List ℕ
spelled text = tree_text (tree_in text)

pub record HasSpellings : Type 0 where
  pub blanks : spelled (codes "( +  x\t(f ; a comment\n1.50)  )") ≡ codes "(+ x (f 1.50))"
  pub bars : spelled (codes "(|a| |a b| || |1| b|c|)") ≡ codes "(a |a b| || |1| b c)"
  pub tokens : spelled (codes "(#xFf #b01 :k \"a\"\"b\" 0)") ≡ codes "(#xFf #b01 :k \"a\"\"b\" 0)"
  pub nested : spelled (codes "(()(a)((b)))") ≡ codes "(() (a) ((b)))"

-- ---- Texts that are read again

abbrev pub sample_values : List Fraction
sample_values = whole (pos 2) ∷ whole (negsuc 1) ∷ over (pos 3) 2 ∷ over (negsuc 2) 2 ∷ whole (pos 0) ∷ over (negsuc 0) 17014118346046923173168730371588410572 ∷ []

-- the value of a sum of this one term
abbrev pub value_again : List ℕ → Option Value
value_again text = value_in (codes "(+ " ++ text ++ codes ")")

-- The text of a value is a term of that value, where the digits of each of its decimals make a number.
pub record HasReadings : Type 0 where
  pub reals : map (λ q. value_again (value_text real_sort (number q))) sample_values ≡ map (λ q. Some (number q)) sample_values
  pub long : value_again (value_text real_sort (number (over (negsuc 0) largest))) ≡ None
  pub integers : map (λ n. value_again (value_text int_sort (whole_number n))) (pos 7 ∷ negsuc 6 ∷ pos largest ∷ []) ≡ map (λ n. Some (whole_number n)) (pos 7 ∷ negsuc 6 ∷ pos largest ∷ [])

-- ---- Values that are asked for

abbrev pub sample_model : List Binding
sample_model =
    record { constant = constant_of_sort bool_sort (codes "a"); value = truth true }
    ∷ record { constant = constant_of_sort int_sort (codes "x"); value = whole_number (pos 3) }
    ∷ record { constant = constant_of_sort int_sort (codes "y"); value = whole_number (negsuc 3) }
    ∷ record { constant = constant_of_sort real_sort (codes "u"); value = number (over (pos 3) 2) }
    ∷ []

abbrev pub values_text : Outcome → List ℕ
values_text (accepted (get_value xs)) = reply_text (values (map (shown_under (assignment_of sample_model)) xs))
values_text o = []

-- the text of the values that a command asks for, under this model
abbrev pub values_told : List ℕ → List ℕ
values_told text = values_text (outcome_in text)

-- A term is told by its normal spelling. Where an operation leaves the numbers the first one is told, in both branches of `ite`
-- too, and none of those on integers alone.
pub record HasValuesTold : Type 0 where
  pub integers : values_told (codes "(get-value (x (+ x 1)))") ≡ codes "((x 3) ((+ x 1) 4))\n"
  pub negatives : values_told (codes "(get-value (y (- y) (div y 3) (mod y 3) (abs y)))") ≡ codes "((y (- 4)) ((- y) 4) ((div y 3) (- 2)) ((mod y 3) 2) ((abs y) 4))\n"
  pub reals : values_told (codes "(get-value ((/ u  2) (* u 2) (half y) (- u) 1.50))") ≡ codes "(((/ u 2) (/ 3.0 4.0)) ((* u 2) 3.0) ((half y) (- 2.0)) ((- u) (- (/ 3.0 2.0))) (1.50 (/ 3.0 2.0)))\n"
  pub truths : values_told (codes "(get-value (a (< x u) (let ((x y)) (above x)) (is_int u)))") ≡ codes "((a true) ((< x u) false) ((let ((x y)) (above x)) false) ((is_int u) false))\n"
  pub wide_sum : values_told (codes "(get-value ((+ 170141183460469231731687303715884105727 x) (+ 170141183460469231731687303715884105726 1)))") ≡ codes "(((+ 170141183460469231731687303715884105727 x) (wide add 170141183460469231731687303715884105727 3)) ((+ 170141183460469231731687303715884105726 1) 170141183460469231731687303715884105727))\n"
  pub first_wide : values_told (codes "(get-value ((- (* 2 170141183460469231731687303715884105727) 1)))") ≡ codes "(((- (* 2 170141183460469231731687303715884105727) 1) (wide mul 2 170141183460469231731687303715884105727)))\n"
  pub both_branches : values_told (codes "(get-value ((ite a 1 (- (- 170141183460469231731687303715884105727) 1))))") ≡ codes "(((ite a 1 (- (- 170141183460469231731687303715884105727) 1)) (wide sub (- 170141183460469231731687303715884105727) 1)))\n"
  pub small : values_told (codes "(get-value ((* (/ 1 170141183460469231731687303715884105727) 0.5)))") ≡ codes "(((* (/ 1 170141183460469231731687303715884105727) 0.5) (wide mul (/ 1 170141183460469231731687303715884105727) (/ 1 2))))\n"
  pub through_truth : values_told (codes "(get-value ((< 0 (+ 170141183460469231731687303715884105727 1))))") ≡ codes "(((< 0 (+ 170141183460469231731687303715884105727 1)) (wide add 170141183460469231731687303715884105727 1)))\n"

-- ---- Replies

-- what is written for each reply
pub record HasReplyTexts : Type 0 where
  pub answers : map reply_text (sat [] ∷ unsat ∷ unknown (units_spent 5) ∷ []) ≡ codes "sat\n" ∷ codes "unsat\n" ∷ codes "unknown\n" ∷ []
  pub done : map reply_text (quiet ∷ success ∷ unsupported ∷ []) ≡ [] ∷ codes "success\n" ∷ codes "unsupported\n" ∷ []
  pub no_constants : reply_text (model []) ≡ codes "(\n)\n"
  pub models : reply_text (model sample_model) ≡ codes "(\n(define-fun a () Bool true)\n(define-fun x () Int 3)\n(define-fun y () Int (- 4))\n(define-fun u () Real (/ 3.0 2.0))\n)\n"
  pub quoted_names : reply_text (model (record { constant = constant_of_sort real_sort (codes "a b"); value = whole_number (pos 2) } ∷ [])) ≡ codes "(\n(define-fun |a b| () Real 2.0)\n)\n"
  pub reasons : reply_text (reason (units_spent 200000)) ≡ codes "(:reason-unknown (spent 200000))\n"
  pub infos : map reply_text (info name_info ∷ info error_behavior_info ∷ levels 2 ∷ []) ≡ codes "(:name \"nuz\")\n" ∷ codes "(:error-behavior continued-execution)\n" ∷ codes "(:assertion-stack-levels 2)\n" ∷ []
  pub echoes : map reply_text (echoed (codes "a\"b") ∷ echoed [] ∷ []) ≡ codes "\"a\"\"b\"\n" ∷ codes "\"\"\n" ∷ []

-- the texts of the errors, by their numbers
pub record HasErrorTexts : Type 0 where
  pub syntax : reply_text (error fault.bad_syntax) ≡ codes "(error \"1 syntax\")\n"
  pub unknown_symbol : reply_text (error fault.unknown_symbol) ≡ codes "(error \"2 unknown symbol\")\n"
  pub sorts : reply_text (error fault.wrong_sort) ≡ codes "(error \"3 sort\")\n"
  pub nonlinear : reply_text (error fault.not_linear) ≡ codes "(error \"4 not linear\")\n"
  pub width : reply_text (error fault.too_wide) ≡ codes "(error \"5 number too wide\")\n"
  pub limits : reply_text (error fault.past_limit) ≡ codes "(error \"6 limit\")\n"
  pub no_answer : reply_text (error fault.nothing_to_show) ≡ codes "(error \"7 no answer to show\")\n"
  pub below_zero : reply_text (error fault.below_zero) ≡ codes "(error \"8 pop below zero\")\n"
  pub declared_before : reply_text (error fault.already_declared) ≡ codes "(error \"9 already declared\")\n"
  pub incomplete : reply_text (error fault.incomplete) ≡ codes "(error \"10 incomplete command\")\n"
  pub memory : reply_text (error fault.out_of_memory) ≡ codes "(error \"11 out of memory\")\n"
