-- The bytes of a packed tree say that tree.
use Rattle.std.proofs.Common.{◌≡◌, ℕ, ◌+◌, ◌<◌, Bool, true, false, List, [], ◌∷◌, ◌++◌, length, get_or, drop, suc, refl, sym, ap, ◌∙◌, append-nil, append_assoc, drop-cons, add-one}
use Rattle.std.specs.Prelude.{nat_lt, not, if◌then◌else◌}
use Rattle.nz_script.specs.text.Tree.{Token, symbol, keyword, numeral, decimal, hexadecimal, binary, literal, Tree, leaf, node, Trees, no_trees, trees}
use Rattle.nz_script.specs.text.Reading.{trees_from, with_trees}
use Rattle.nz_sexpr.specs.declared.tree.Tree as code
use Rattle.nz_sexpr.specs.Packed.{escaped_byte, escaped, packed_token, packed_tree, packed_trees, packed, Unpacking, after_byte, after_mark, unpacked_on, unpacked, whole_of}
use Rattle.nz_sexpr.specs.View.{view, seen}

-- between two bytes, no escape among them
abbrev state : List ℕ → List (List Tree) → Unpacking
state text levels = record { text = text; levels = levels; escapes = false }

-- bytes behind bytes
on-append : (xs ys : List ℕ) (u : Unpacking) → unpacked_on (xs ++ ys) u ≡ unpacked_on ys (unpacked_on xs u)
on-append [] ys u = refl
on-append (x ∷ xs) ys u = on-append xs ys (after_byte x u)

-- ---- Tokens

byte_by : (low : Bool) (b : ℕ) (text : List ℕ) (levels : List (List Tree)) → nat_lt b 10 ≡ low → unpacked_on (escaped_byte b) (state text levels) ≡ state (text ++ b ∷ []) levels
byte_by true b text levels e = rw e refl
byte_by false b text levels e =
    ap (λ (low : Bool). unpacked_on (if low then 0 ∷ b ∷ [] else b ∷ []) (state text levels)) e
    ∙ ap (λ (low : Bool). if not low then state (text ++ b ∷ []) levels else after_mark b (state text levels)) e

text_read : (bs text : List ℕ) (levels : List (List Tree)) → unpacked_on (escaped bs) (state text levels) ≡ state (text ++ bs) levels
text_read [] text levels = ap (λ (l : List ℕ). state l levels) (sym (append-nil text))
text_read (b ∷ bs) text levels =
    on-append (escaped_byte b) (escaped bs) (state text levels)
    ∙ ap (unpacked_on (escaped bs)) (byte_by (nat_lt b 10) b text levels refl)
    ∙ text_read bs (text ++ b ∷ []) levels
    ∙ ap (λ (l : List ℕ). state l levels) (append_assoc text (b ∷ []) bs)

-- a text and the mark behind it
marked : (mark : ℕ) (bs : List ℕ) (levels : List (List Tree)) → unpacked_on (escaped bs ++ mark ∷ []) (state [] levels) ≡ after_byte mark (state bs levels)
marked mark bs levels = on-append (escaped bs) (mark ∷ []) (state [] levels) ∙ ap (unpacked_on (mark ∷ [])) (text_read bs [] levels)

token_read : (t : Token) (levels : List (List Tree)) → unpacked_on (packed_token t) (state [] levels) ≡ state [] (with_trees (leaf t ∷ []) levels)
token_read (symbol bs) levels = marked 3 bs levels
token_read (keyword bs) levels = marked 4 bs levels
token_read (numeral bs) levels = marked 5 bs levels
token_read (decimal bs) levels = marked 6 bs levels
token_read (hexadecimal bs) levels = marked 7 bs levels
token_read (binary bs) levels = marked 8 bs levels
token_read (literal bs) levels = marked 9 bs levels

-- ---- Trees

-- the trees of a list
abbrev listed : Trees → List Tree
listed no_trees = []
listed (trees t ts) = t ∷ listed ts

trees_from-listed : (ts : Trees) → trees_from (listed ts) ≡ ts
trees_from-listed no_trees = refl
trees_from-listed (trees t ts) = ap (trees t) (trees_from-listed ts)

mutual
  tree_read : (t : Tree) (levels : List (List Tree)) → unpacked_on (packed_tree t) (state [] levels) ≡ state [] (with_trees (t ∷ []) levels)
  tree_read (leaf t) levels = token_read t levels
  tree_read (node ts) levels =
      on-append (packed_trees ts) (2 ∷ []) (state [] ([] ∷ levels))
      ∙ ap (unpacked_on (2 ∷ [])) (trees_read ts [] levels)
      ∙ ap (λ (k : Trees). state [] (with_trees (node k ∷ []) levels)) (trees_from-listed ts)

  trees_read : (ts : Trees) (l : List Tree) (levels : List (List Tree)) → unpacked_on (packed_trees ts) (state [] (l ∷ levels)) ≡ state [] ((l ++ listed ts) ∷ levels)
  trees_read no_trees l levels = ap (λ (m : List Tree). state [] (m ∷ levels)) (sym (append-nil l))
  trees_read (trees t ts) l levels =
      on-append (packed_tree t) (packed_trees ts) (state [] (l ∷ levels))
      ∙ ap (unpacked_on (packed_trees ts)) (tree_read t (l ∷ levels))
      ∙ trees_read ts (l ++ t ∷ []) levels
      ∙ ap (λ (m : List Tree). state [] (m ∷ levels)) (append_assoc l (t ∷ []) (listed ts))

-- so two trees of the same bytes are one
pub unpacked-packed : (t : Tree) → unpacked (packed t) ≡ t
unpacked-packed (leaf t) = ap (λ (u : Unpacking). whole_of u.levels) (token_read t ([] ∷ [] ∷ []))
unpacked-packed (node ts) = ap (λ (u : Unpacking). whole_of u.levels) (trees_read ts [] []) ∙ ap node (trees_from-listed ts)

-- ---- The loops

-- the bytes of the text from a place on: of the one there, and of the others
pub escaped-next : (bs : List ℕ) (i b : ℕ) → i < length bs → escaped (drop i bs) ≡ escaped_byte (get_or bs i b) ++ escaped (drop (i + 1) bs)
escaped-next bs i b below = ap escaped (drop-cons bs i b below) ∙ ap (λ (k : ℕ). escaped_byte (get_or bs i b) ++ escaped (drop k bs)) (sym (add-one i))

-- the same of trees
pub packed-next : (ts : List code.Tree) (i : ℕ) (t : code.Tree) → i < length ts → t ≡ get_or ts i t
    → packed_trees (seen (drop i ts)) ≡ packed_tree (view t) ++ packed_trees (seen (drop (i + 1) ts))
packed-next ts i t below is =
    ap (λ (l : List code.Tree). packed_trees (seen l)) (drop-cons ts i t below)
    ∙ ap (λ (u : code.Tree). packed_trees (seen (u ∷ drop (suc i) ts))) (sym is)
    ∙ ap (λ (k : ℕ). packed_tree (view t) ++ packed_trees (seen (drop k ts))) (sym (add-one i))

-- one piece of the bytes more
pub piece_more : (all done new piece rest later : List ℕ) → done ++ rest ≡ all → rest ≡ piece ++ later → new ≡ done ++ piece → new ++ later ≡ all
piece_more all done new piece rest later so_far next is = ap (λ (l : List ℕ). l ++ later) is ∙ append_assoc done piece later ∙ ap (λ (l : List ℕ). done ++ l) (sym next) ∙ so_far
