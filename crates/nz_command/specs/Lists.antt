-- Lists of trees of another length, or that begin with no token.
use Rattle.std.specs.Prelude.{⊤}
use Rattle.nz_script.specs.text.Tree.{Tree, leaf, node, Trees, no_trees, trees}

-- no token stands first
abbrev pub IsHeadless : Trees → Type 0
IsHeadless no_trees = ⊤
IsHeadless (trees (leaf t) ts) = ⊥
IsHeadless (trees (node us) ts) = ⊤

-- there are fewer trees or more
abbrev pub IsNotOne : Trees → Type 0
IsNotOne no_trees = ⊤
IsNotOne (trees t no_trees) = ⊥
IsNotOne (trees t (trees u us)) = ⊤

abbrev pub IsNotTwo : Trees → Type 0
IsNotTwo no_trees = ⊤
IsNotTwo (trees t ts) = IsNotOne ts

abbrev pub IsNotThree : Trees → Type 0
IsNotThree no_trees = ⊤
IsNotThree (trees t ts) = IsNotTwo ts

-- a tree that is a token
abbrev pub IsWord : Tree → Type 0
IsWord (leaf t) = ⊤
IsWord (node ts) = ⊥

-- there is no one tree that is a list
abbrev pub IsNotOneList : Trees → Type 0
IsNotOneList no_trees = ⊤
IsNotOneList (trees t no_trees) = IsWord t
IsNotOneList (trees t (trees u us)) = ⊤

-- there are fewer than two trees
abbrev pub IsShort : Trees → Type 0
IsShort no_trees = ⊤
IsShort (trees t no_trees) = ⊤
IsShort (trees t (trees u us)) = ⊥
