-- A worked example of the definitions: one script, what is heard in it, and its transcript.
use Rattle.std.specs.Prelude.{ℕ, List, [], ◌∷◌, codes, true}
use Rattle.nz_script.specs.text.Tree.{symbol, leaf, node, Trees, no_trees, trees}
use Rattle.nz_script.specs.text.Text.{intact}
use Rattle.nz_spec.specs.terms.Term.{bool_sort, truth}
use Rattle.nz_spec.specs.terms.Model.{Binding}
use Rattle.nz_script.specs.replies.Reply.{Reply, quiet, sat, model, plain}
use Rattle.nz_script.specs.run.Transcript.{Kept}

abbrev pub example_script : List ℕ
example_script = codes "(declare-const p Bool)(assert p)\n(check-sat) (get-model)(exit)"

-- a list of symbols
abbrev pub symbols : List (List ℕ) → Trees
symbols [] = no_trees
symbols (name ∷ names) = trees (leaf (symbol name)) (symbols names)

abbrev pub p_is_true : List Binding
p_is_true = record { constant = record { name = codes "p"; sort = bool_sort }; value = truth true } ∷ []

abbrev pub example_kept : ℕ → ℕ → List (List ℕ) → Reply → Kept
example_kept from to names reply = record { heard = record { from = from; to = to; what = intact (node (symbols names)) }; reply = reply; cause = plain }

-- what a run of it keeps
abbrev pub example_transcript : List Kept
example_transcript =
    example_kept 0 22 (codes "declare-const" ∷ codes "p" ∷ codes "Bool" ∷ []) quiet
    ∷ example_kept 22 32 (codes "assert" ∷ codes "p" ∷ []) quiet
    ∷ example_kept 33 44 (codes "check-sat" ∷ []) (sat p_is_true)
    ∷ example_kept 45 56 (codes "get-model" ∷ []) (model p_is_true)
    ∷ example_kept 56 62 (codes "exit" ∷ []) quiet
    ∷ []

abbrev pub example_output : List ℕ
example_output = codes "sat\n(\n(define-fun p () Bool true)\n)\n"
