-- The data that tokens, trees and things heard stand for.
use Rattle.std.specs.Prelude.{List, map}
use Rattle.nz_script.specs.text.Tree as text
use Rattle.nz_script.specs.text.Reading.{trees_from}
use Rattle.nz_script.specs.text.Text as script
use Rattle.nz_base.specs.Errors.{error_of}
use Rattle.nz_sexpr.specs.declared.tree.Token.{Token}
use Rattle.nz_sexpr.specs.declared.tree.Token.TheVariants as token
use Rattle.nz_sexpr.specs.declared.tree.Tree.{Tree, fold-Tree}
use Rattle.nz_sexpr.specs.declared.tree.Tree.TheOpen.{Tree-F, TreeList-F}
use Rattle.nz_sexpr.specs.declared.tree.TreeList.{TreeList}
use Rattle.nz_sexpr.specs.declared.heard.What as code
use Rattle.nz_sexpr.specs.declared.heard.What.TheVariants as what
use Rattle.nz_sexpr.specs.declared.heard.Heard as thing

abbrev pub token_view : Token → text.Token
token_view (token.Symbol name) = text.symbol name
token_view (token.Keyword bs) = text.keyword bs
token_view (token.Numeral bs) = text.numeral bs
token_view (token.Decimal bs) = text.decimal bs
token_view (token.Hexadecimal bs) = text.hexadecimal bs
token_view (token.Binary bs) = text.binary bs
token_view (token.Literal bs) = text.literal bs

-- one level, with each tree inside already seen as its data
abbrev pub view_step : Tree-F text.Tree (List text.Tree) → text.Tree
view_step (Tree-F.Word t) = text.leaf (token_view t)
view_step (Tree-F.List l) = text.node (trees_from l)

abbrev pub list_step : TreeList-F text.Tree (List text.Tree) → List text.Tree
list_step l = l.trees.items

abbrev pub view : Tree → text.Tree
view = fold-Tree text.Tree (List text.Tree) view_step list_step

-- the trees of a list of the code
abbrev pub seen : List Tree → text.Trees
seen list = trees_from (map view list)

-- the trees of a list, and their data
abbrev pub items : TreeList → List Tree
items l = l.trees.items

abbrev pub list_view : TreeList → List text.Tree
list_view l = map view (items l)

abbrev pub what_view : code.What → script.What
what_view (what.Tree t) = script.intact (view t)
what_view (what.Bad e) = script.faulty (error_of e)
what_view what.Unclosed = script.unclosed
what_view what.Unread = script.unread

abbrev pub heard_view : thing.Heard → script.Heard
heard_view h = record { from = h.from; to = h.to; what = what_view h.what }
