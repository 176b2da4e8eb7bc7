-- The texts of terms with what is told of them.
use Rattle.std.proofs.Common.{◌≡◌, ℕ, ◌+◌, ◌<◌, ◌≤◌, zero, suc, List, [], ◌∷◌, ◌++◌, length, get_or, drop, map, codes, refl, sym, ap, ◌∙◌, append_assoc, arith, drop-cons, add-one, min}
use Rattle.nz_script.specs.replies.Reply.{list_text, shown_pair_text, shown_text, tree_text}
use Rattle.nz_sexpr.specs.View.{view, seen}
use Rattle.nz_sexpr.specs.declared.tree.Tree as code
use Rattle.nz_reply.specs.Trees.{space_before}
use Rattle.nz_reply.specs.Values.{shown_of, with_shown}
use Rattle.nz_reply.specs.declared.reply.Shown.{Shown}
use Rattle.nz_reply.proofs.Spaces.{spaced_from, spaced_next}

-- the texts of the pairs of these lists
abbrev pub pair_texts : List code.Tree → List Shown → List (List ℕ)
pair_texts ts ss = map shown_pair_text (with_shown (seen ts) (map shown_of ss))

-- a pair's text, as it is written
abbrev pub pair_written : code.Tree → Shown → List ℕ
pair_written t s = codes "(" ++ tree_text (view t) ++ codes " " ++ shown_text (shown_of s) ++ codes ")"

pair_whole : (tree shown : List ℕ) → list_text (tree ∷ shown ∷ []) ≡ codes "(" ++ tree ++ codes " " ++ shown ++ codes ")"
pair_whole tree shown = simp append_assoc

-- the pairs from a place on: what stands before the one there, that one, and the others
pub pairs_next : (ts : List code.Tree) (ss : List Shown) (i : ℕ) (t : code.Tree) (s : Shown) → i < length ts → i < length ss → t ≡ get_or ts i t → s ≡ get_or ss i s
    → spaced_from i (pair_texts (drop i ts) (drop i ss)) ≡ (space_before i ++ pair_written t s) ++ spaced_from (i + 1) (pair_texts (drop (i + 1) ts) (drop (i + 1) ss))
pairs_next ts ss i t s below within is it =
    ap (λ (l : List code.Tree). spaced_from i (pair_texts l (drop i ss))) (drop-cons ts i t below ∙ ap (λ (u : code.Tree). u ∷ drop (suc i) ts) (sym is))
    ∙ ap (λ (l : List Shown). spaced_from i (pair_texts (t ∷ drop (suc i) ts) l)) (drop-cons ss i s within ∙ ap (λ (u : Shown). u ∷ drop (suc i) ss) (sym it))
    ∙ ap (λ (k : ℕ). spaced_from i (shown_pair_text (view t, shown_of s) ∷ pair_texts (drop k ts) (drop k ss))) (sym (add-one i))
    ∙ spaced_next i (shown_pair_text (view t, shown_of s)) (pair_texts (drop (i + 1) ts) (drop (i + 1) ss))
    ∙ ap (λ (p : List ℕ). (space_before i ++ p) ++ spaced_from (i + 1) (pair_texts (drop (i + 1) ts) (drop (i + 1) ss))) (pair_whole (tree_text (view t)) (shown_text (shown_of s)))

pairs_of_none : (ts : List code.Tree) → pair_texts ts [] ≡ []
pairs_of_none [] = refl
pairs_of_none (t ∷ ts) = refl

-- behind the shorter list there are none
pub pairs_end : (ts : List code.Tree) (ss : List Shown) (i : ℕ) → min (length ts) (length ss) ≤ i → pair_texts (drop i ts) (drop i ss) ≡ []
pairs_end [] ss zero h = refl
pairs_end (t ∷ ts) [] zero h = refl
pairs_end (t ∷ ts) (s ∷ ss) zero h = absurd (omega (arith, h))
pairs_end [] ss (suc i) h = refl
pairs_end (t ∷ ts) [] (suc i) h = pairs_of_none (drop i ts)
pairs_end (t ∷ ts) (s ∷ ss) (suc i) h = pairs_end ts ss i (omega (arith, h))
