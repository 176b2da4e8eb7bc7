-- The argument of a command, by which its reply shows what it was asked for: the trees of a get-value, and the text of an echo.
use Rattle.std.specs.Prelude.{◌≡◌, ℕ, List, [], map, Option, Some, None, ⊤}
use Rattle.nz_script.specs.text.Tree.{Token, literal, Tree, leaf, node, Trees, no_trees, trees}
use Rattle.nz_script.specs.text.Reading.{trees_from}
use Rattle.nz_script.specs.commands.Request.{Question, Request, shows_values, echoes}
use Rattle.nz_script.specs.commands.Parse.{request_of}

-- the tree that stands alone behind the name of a command
abbrev pub argument_in : Trees → Option Tree
argument_in (trees k (trees t no_trees)) = Some t
argument_in ts = None

abbrev pub argument_of : Tree → Option Tree
argument_of (leaf t) = None
argument_of (node ts) = argument_in ts

-- its trees where it is a list, and its text where it is a literal
abbrev pub trees_within : Option Tree → Trees
trees_within (Some (node ts)) = ts
trees_within t = no_trees

abbrev pub literal_bytes : Token → List ℕ
literal_bytes (literal bs) = bs
literal_bytes t = []

abbrev pub text_within : Option Tree → List ℕ
text_within (Some (leaf t)) = literal_bytes t
text_within t = []

-- The trees that are asked for are those of the argument, and so is the text that is to be told.
abbrev pub Tells : Option Tree → Option Request → Type 0
Tells argument (Some (shows_values qs)) = trees_within argument ≡ trees_from (map (λ (q : Question). q.tree) qs)
Tells argument (Some (echoes text)) = text_within argument ≡ text
Tells argument r = ⊤

-- So it is of each command.
abbrev pub ArgumentTells : Type 0
ArgumentTells = (t : Tree) → Tells (argument_of t) (request_of t)
