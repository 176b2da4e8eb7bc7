-- Lists of texts with spaces, and the sizes of trees.
use Rattle.std.proofs.Common.{◌≡◌, ℕ, ◌+◌, ◌<◌, ◌≤◌, zero, suc, List, [], ◌∷◌, ◌++◌, length, get_or, drop, flat_map, refl, sym, ap, ◌∙◌, append-nil, append_assoc, arith, drop-cons, add-one}
use Rattle.std.proofs.lemmas.List.{drop_all}
use Rattle.nz_script.specs.replies.Reply.{spaced, tree_text, tree_texts}
use Rattle.nz_sexpr.specs.View.{view, seen}
use Rattle.nz_sexpr.specs.declared.tree.Tree as code
use Rattle.nz_reply.specs.Trees.{space_before}
use Rattle.nz_sexpr.specs.Sizes.{tree_size, trees_size}

-- the texts of a list from a place on, each behind what stands before it
abbrev pub spaced_from : ℕ → List (List ℕ) → List ℕ
spaced_from zero ts = spaced ts
spaced_from (suc i) ts = flat_map (λ (t : List ℕ). 32 ∷ t) ts

spaced_first : (t : List ℕ) (ts : List (List ℕ)) → spaced (t ∷ ts) ≡ t ++ spaced_from 1 ts
spaced_first t [] = sym (append-nil t)
spaced_first t (u ∷ us) = ap (λ (l : List ℕ). t ++ 32 ∷ l) (spaced_first u us)

-- the first of them, and then the others
pub spaced_next : (i : ℕ) (t : List ℕ) (ts : List (List ℕ)) → spaced_from i (t ∷ ts) ≡ (space_before i ++ t) ++ spaced_from (i + 1) ts
spaced_next zero t ts = spaced_first t ts
spaced_next (suc i) t ts = rw (add-one (suc i)) refl

pub spaced_end : (i : ℕ) → spaced_from i [] ≡ []
spaced_end zero = refl
spaced_end (suc i) = refl

-- what is left of the trees of a list, and of its closing parenthesis
abbrev pub trees_left : List code.Tree → ℕ → List ℕ
trees_left ts i = spaced_from i (tree_texts (seen (drop i ts))) ++ 41 ∷ []

pub trees_next : (ts : List code.Tree) (i : ℕ) (t : code.Tree) → i < length ts → t ≡ get_or ts i t → trees_left ts i ≡ space_before i ++ (tree_text (view t) ++ trees_left ts (i + 1))
trees_next ts i t below is =
    let text : List ℕ = tree_text (view t) in
    let later : List (List ℕ) = tree_texts (seen (drop (i + 1) ts)) in
    ap (λ (l : List code.Tree). spaced_from i (tree_texts (seen l)) ++ 41 ∷ []) (drop-cons ts i t below ∙ ap (λ (u : code.Tree). u ∷ drop (suc i) ts) (sym is))
    ∙ ap (λ (k : ℕ). spaced_from i (text ∷ tree_texts (seen (drop k ts))) ++ 41 ∷ []) (sym (add-one i))
    ∙ ap (λ (l : List ℕ). l ++ 41 ∷ []) (spaced_next i text later)
    ∙ append_assoc (space_before i ++ text) (spaced_from (i + 1) later) (41 ∷ [])
    ∙ append_assoc (space_before i) text (spaced_from (i + 1) later ++ 41 ∷ [])

pub trees_end : (ts : List code.Tree) (i : ℕ) → length ts ≤ i → trees_left ts i ≡ 41 ∷ []
trees_end ts i past =
    ap (λ (l : List code.Tree). spaced_from i (tree_texts (seen l)) ++ 41 ∷ []) (drop_all i ts past)
    ∙ ap (λ (l : List ℕ). l ++ 41 ∷ []) (spaced_end i)

-- ---- Sizes

-- a tree is smaller than its list
pub tree_smaller : (ts : List code.Tree) (i : ℕ) (t : code.Tree) → i < length ts → t ≡ get_or ts i t → tree_size (view t) < trees_size (seen ts)
tree_smaller [] i t below is = absurd (omega (arith, below))
tree_smaller (u ∷ us) zero t below is = omega (arith, ap (λ (x : code.Tree). tree_size (view x)) is)
tree_smaller (u ∷ us) (suc i) t below is = let inner : tree_size (view t) < trees_size (seen us) = tree_smaller us i t (omega (arith, below)) is in omega arith
