-- Worked scripts: whole texts, the replies to what is heard in them, and what is written.
use Rattle.std.specs.Prelude.{◌≡◌, ℕ, true, false, List, [], ◌∷◌, pos, negsuc, codes}
use Rattle.nz_fractions.specs.Fraction.{whole, over}
use Rattle.nz_script.specs.text.Text.{Heard, script_limits}
use Rattle.nz_script.specs.text.Reading.{reading_start, hear_on}
use Rattle.nz_spec.specs.terms.Term.{bool_sort, int_sort, real_sort, truth, number}
use Rattle.nz_spec.specs.terms.Model.{Binding}
use Rattle.nz_script.specs.replies.Reply.{Reply, quiet, success, sat, unsat, model, values, levels, echoed, unsupported, error, shown_value, plain}
use Rattle.nz_spec.specs.outside.Error.{bad_syntax, unknown_symbol, wrong_sort, not_linear, too_wide, past_limit, nothing_to_show, below_zero, already_declared, incomplete}
use Rattle.nz_script.specs.run.Transcript.{Kept, IsTranscript, texts_of}
use Rattle.nz_script.specs.run.Run.{solve_limit}
use Rattle.nz_spec.specs.worked.TermSamples.{constant_of_sort}
use Rattle.nz_script.specs.worked.Samples.{tree_in}

-- what is kept where these things are heard and so replied to
abbrev pub replied : List Heard → List Reply → List Kept
replied [] rs = []
replied (h ∷ hs) [] = []
replied (h ∷ hs) (r ∷ rs) = record { heard = h; reply = r; cause = plain } ∷ replied hs rs

-- a script, the replies to it, and what is written
pub record Worked : Type 0 where
  pub text : List ℕ
  pub replies : List Reply
  pub output : List ℕ

abbrev pub kept_of_worked : Worked → List Kept
kept_of_worked w = replied (hear_on script_limits reading_start w.text) w.replies

-- The replies make a transcript of the text, and their texts are the output.
pub record IsWorked (w : Worked) : Type 0 where
  pub transcript : IsTranscript solve_limit w.text (kept_of_worked w)
  pub output : texts_of (kept_of_worked w) ≡ w.output

abbrev pub express_is : List Binding
express_is = record { constant = constant_of_sort bool_sort (codes "express"); value = truth true } ∷ []

-- Values in a model; an assertion ends the answer; and what contradicts is unsatisfiable.
abbrev pub prices : Worked
prices =
    record {
      text =
          codes
          "(declare-const express Bool)\n(define-fun price ((weight Int)) Int (ite express (+ 5 (* 3 weight)) (+ 2 weight)))\n(assert express)\n(check-sat)\n(get-value ((price 4) (/ (price 4) 3) (div (- 7) 2)))\n(assert (not express))\n(get-value (express))\n(check-sat)\n(get-model)\n";
      replies =
          quiet ∷ quiet ∷ quiet ∷ sat express_is
          ∷ values
          ((tree_in (codes "(price 4)"), shown_value int_sort (number (whole (pos 17))))
          ∷ (tree_in (codes "(/ (price 4) 3)"), shown_value real_sort (number (over (pos 17) 3)))
          ∷ (tree_in (codes "(div (- 7) 2)"), shown_value int_sort (number (whole (negsuc 3))))
          ∷ [])
          ∷ quiet ∷ error nothing_to_show ∷ unsat ∷ error nothing_to_show ∷ [];
      output = codes "sat\n(((price 4) 17) ((/ (price 4) 3) (/ 17.0 3.0)) ((div (- 7) 2) (- 4)))\n(error \"7 no answer to show\")\nunsat\n(error \"7 no answer to show\")\n";
    }

-- Each error that a command can meet, and what isn't taken.
abbrev pub errors : Worked
errors =
    record {
      text =
          codes
          "(declare-const p Bool)(assert 007))(assert q)(assert (+ 1 p))(define-fun square ((x Int)) Int (* x x))(assert (< 0 170141183460469231731687303715884105728))(push 1001)(get-model)(declare-const p Int)(frob)(echo \"a\"\"b\") (check-sat";
      replies =
          quiet ∷ error bad_syntax ∷ error bad_syntax ∷ error unknown_symbol ∷ error wrong_sort ∷ error not_linear ∷ error too_wide ∷ error past_limit ∷ error nothing_to_show ∷ error already_declared ∷ unsupported ∷ echoed (codes "a\"b") ∷ error incomplete ∷ [];
      output =
          codes
          "(error \"1 syntax\")\n(error \"1 syntax\")\n(error \"2 unknown symbol\")\n(error \"3 sort\")\n(error \"4 not linear\")\n(error \"5 number too wide\")\n(error \"6 limit\")\n(error \"7 no answer to show\")\n(error \"9 already declared\")\nunsupported\n\"a\"\"b\"\n(error \"10 incomplete command\")\n";
    }

abbrev pub p_fails : List Binding
p_fails = record { constant = constant_of_sort bool_sort (codes "p"); value = truth false } ∷ []

-- What is asserted in a level goes with it, and what is assumed with its check; a level pushed or taken off ends the answer, and so do
-- both resets, of which one keeps the options.
abbrev pub levelled : Worked
levelled =
    record {
      text =
          codes
          "(declare-const p Bool)(push 1)(assert p)(check-sat-assuming ((not p)))(pop 1)(check-sat-assuming ((not p)))(get-model)(push 0)(get-model)(pop)(push)(get-info :assertion-stack-levels)(set-option :print-success true)(push 2)(reset-assertions)(assert p)(check-sat)(reset)(get-model)";
      replies =
          quiet ∷ quiet ∷ quiet ∷ unsat ∷ quiet ∷ sat p_fails ∷ model p_fails ∷ quiet ∷ error nothing_to_show ∷ error below_zero ∷ quiet ∷ levels 1 ∷ success ∷ success
          ∷ success ∷ error unknown_symbol ∷ sat [] ∷ quiet ∷ error nothing_to_show ∷ [];
      output =
          codes
          "unsat\nsat\n(\n(define-fun p () Bool false)\n)\n(error \"7 no answer to show\")\n(error \"8 pop below zero\")\n(:assertion-stack-levels 1)\nsuccess\nsuccess\nsuccess\n(error \"2 unknown symbol\")\nsat\n(error \"7 no answer to show\")\n";
    }

-- A name of a level that is taken off may be declared again, of another sort.
abbrev pub renamed : Worked
renamed =
    record {
      text = codes "(push)(declare-const x Bool)(assert x)(declare-const x Int)(pop)(assert x)(declare-const x Int)(check-sat)(assert (< x 1))";
      replies = quiet ∷ quiet ∷ quiet ∷ error already_declared ∷ quiet ∷ error unknown_symbol ∷ quiet ∷ unsupported ∷ quiet ∷ [];
      output = codes "(error \"9 already declared\")\n(error \"2 unknown symbol\")\nunsupported\n";
    }
