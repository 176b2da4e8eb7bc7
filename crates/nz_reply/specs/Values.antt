-- What is told of values, which trees of a command it is told of, and which text a command repeats.
use Rattle.std.specs.Prelude.{ℕ, List, [], ◌∷◌}
use Rattle.nz_script.specs.replies.Reply as spec
use Rattle.nz_script.specs.text.Text as script
use Rattle.nz_script.specs.text.Tree.{Tree, Trees, no_trees, trees}
use Rattle.nz_script.specs.commands.Argument.{argument_of, trees_within, text_within}
use Rattle.nz_frac.specs.Operations.{operation_of}
use Rattle.nz_term.specs.Constants.{sort_of}
use Rattle.nz_term.specs.Values.{value_of}
use Rattle.nz_reply.specs.declared.reply.Shown.{Shown}
use Rattle.nz_reply.specs.declared.reply.Shown.TheVariants as shown

abbrev pub shown_of : Shown → spec.Shown
shown_of (shown.Value sort value) = spec.shown_value (sort_of sort) (value_of value)
shown_of (shown.Wide wide) = spec.shown_wide (operation_of wide)

-- ---- The argument of a command

-- the trees of the terms that a get-value asks for
abbrev pub asked_by : Tree → Trees
asked_by t = trees_within (argument_of t)

abbrev pub asked_trees : script.What → Trees
asked_trees (script.intact t) = asked_by t
asked_trees what = no_trees

-- the text that an echo repeats
abbrev pub echoed_by : Tree → List ℕ
echoed_by t = text_within (argument_of t)

abbrev pub echoed_in : script.What → List ℕ
echoed_in (script.intact t) = echoed_by t
echoed_in what = []

-- ---- Pairs

-- each tree with what is told of its term
abbrev pub with_shown : Trees → List spec.Shown → List (Tree × spec.Shown)
with_shown (trees t ts) (s ∷ ss) = (t, s) ∷ with_shown ts ss
with_shown ts ss = []
