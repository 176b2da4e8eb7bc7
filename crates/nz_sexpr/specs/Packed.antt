-- The bytes of a packed tree, and the tree that they say.
use Rattle.std.specs.Prelude.{ℕ, ◌==◌, nat_lt, not, ◌||◌, Bool, true, false, List, [], ◌∷◌, ◌++◌, flat_map, if◌then◌else◌}
use Rattle.nz_script.specs.text.Tree.{Token, symbol, keyword, numeral, decimal, hexadecimal, binary, literal, Tree, leaf, node, Trees, no_trees, trees}
use Rattle.nz_script.specs.text.Reading.{trees_from, with_trees, with_closed}
use Rattle.nz_script.specs.text.Text as script
use Rattle.nz_base.specs.Errors.{error_of}
use Rattle.nz_sexpr.specs.declared.packed.Packed as code
use Rattle.nz_sexpr.specs.declared.packed.PackedWhat as whats
use Rattle.nz_sexpr.specs.declared.packed.PackedWhat.TheVariants as what
use Rattle.nz_sexpr.specs.declared.packed.PackedHeard as things

-- ---- The bytes of a tree

-- Bytes below 10 are marks. Where a text has one of them, it stands behind the escape, 0.
abbrev pub escaped_byte : ℕ → List ℕ
escaped_byte b = if nat_lt b 10 then 0 ∷ b ∷ [] else b ∷ []

abbrev pub escaped : List ℕ → List ℕ
escaped bs = flat_map escaped_byte bs

-- the text of a token, and behind it the mark of its kind
abbrev pub packed_token : Token → List ℕ
packed_token (symbol bs) = escaped bs ++ 3 ∷ []
packed_token (keyword bs) = escaped bs ++ 4 ∷ []
packed_token (numeral bs) = escaped bs ++ 5 ∷ []
packed_token (decimal bs) = escaped bs ++ 6 ∷ []
packed_token (hexadecimal bs) = escaped bs ++ 7 ∷ []
packed_token (binary bs) = escaped bs ++ 8 ∷ []
packed_token (literal bs) = escaped bs ++ 9 ∷ []

-- a list opens with the mark 1, and closes with 2
abbrev mutual
  pub packed_tree : Tree → List ℕ
  packed_tree (leaf t) = packed_token t
  packed_tree (node ts) = 1 ∷ (packed_trees ts ++ 2 ∷ [])

  pub packed_trees : Trees → List ℕ
  packed_trees no_trees = []
  packed_trees (trees t ts) = packed_tree t ++ packed_trees ts

-- The whole tree: most are lists, whose trees stand alone. A token alone is told by a list that stays open.
abbrev pub packed : Tree → List ℕ
packed (leaf t) = 1 ∷ packed_token t
packed (node ts) = packed_trees ts

-- ---- The tree of bytes

-- the text so far of a token, the trees of the open lists, the innermost first, and whether the next byte is the text's
pub record Unpacking : Type 0 where
  pub text : List ℕ
  pub levels : List (List Tree)
  pub escapes : Bool

abbrev pub unpacking_start : Unpacking
unpacking_start = record { text = []; levels = [] ∷ []; escapes = false }

-- the token of this mark
abbrev pub token_marked : ℕ → List ℕ → Token
token_marked mark bs =
    if mark == 3 then symbol bs
    else (if mark == 4 then keyword bs
    else (if mark == 5 then numeral bs
    else (if mark == 6 then decimal bs
    else (if mark == 7 then hexadecimal bs
    else (if mark == 8 then binary bs
    else literal bs)))))

abbrev pub after_mark : ℕ → Unpacking → Unpacking
after_mark mark u =
    if mark == 0 then record u { escapes = true }
    else (if mark == 1 then record u { levels = [] ∷ u.levels }
    else (if mark == 2 then record u { levels = with_closed u.levels }
    else record u { text = []; levels = with_trees (leaf (token_marked mark u.text) ∷ []) u.levels }))

abbrev pub after_byte : ℕ → Unpacking → Unpacking
after_byte b u = if u.escapes || not (nat_lt b 10) then record u { text = u.text ++ b ∷ []; escapes = false } else after_mark b u

abbrev pub unpacked_on : List ℕ → Unpacking → Unpacking
unpacked_on [] u = u
unpacked_on (b ∷ bs) u = unpacked_on bs (after_byte b u)

-- the whole tree by the lists that are open at the end
abbrev pub whole_of : List (List Tree) → Tree
whole_of (l ∷ []) = node (trees_from l)
whole_of ((t ∷ ts) ∷ l ∷ ls) = t
whole_of ls = node no_trees

abbrev pub unpacked : List ℕ → Tree
unpacked bs = whole_of (unpacked_on bs unpacking_start).levels

-- ---- What is packed

abbrev pub packed_view : code.Packed → Tree
packed_view p = unpacked p.bytes

abbrev pub packed_what_view : whats.PackedWhat → script.What
packed_what_view (what.Tree p) = script.intact (packed_view p)
packed_what_view (what.Bad e) = script.faulty (error_of e)
packed_what_view what.Unclosed = script.unclosed
packed_what_view what.Unread = script.unread

abbrev pub packed_heard_view : things.PackedHeard → script.Heard
packed_heard_view h = record { from = h.from; to = h.to; what = packed_what_view h.what }
