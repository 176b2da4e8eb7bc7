-- What the reader keeps of an open command.
use Rattle.std.specs.Prelude.{◌≡◌, ℕ, List, [], ◌∷◌, map, reverse, Bool, true, false, Option, Some, None, ⊤}
use Rattle.nz_script.specs.text.Tree.{Tree, leaf}
use Rattle.nz_script.specs.text.Reading.{with_trees}
use Rattle.nz_sexpr.specs.Words.{token_by}
use Rattle.nz_sexpr.specs.View.{list_view}
use Rattle.nz_sexpr.specs.declared.store.Store.{Store}
use Rattle.nz_sexpr.specs.declared.words.TokenKind.{TokenKind}

-- the text so far of a token, and the trees of the open lists, the innermost first
pub record OpenCommand : Type 0 where
  pub text : List ℕ
  pub levels : List (List Tree)

abbrev pub kept_if : Bool → OpenCommand → Option OpenCommand
kept_if true k = Some k
kept_if false k = None

abbrev pub kept_of : Store → Option OpenCommand
kept_of s = kept_if s.keeps (record { text = s.text; levels = list_view s.inner ∷ reverse (map list_view s.outer.items) })

-- What was kept has changed so, or nothing is kept any more.
abbrev pub Keeps : Option OpenCommand → Option OpenCommand → (OpenCommand → OpenCommand) → Type 0
Keeps old None f = ⊤
Keeps None (Some new) f = ⊥
Keeps (Some old) (Some new) f = new ≡ f old

-- A token of this kind has joined the innermost list, or nothing is kept any more.
abbrev pub TakesToken : Option TokenKind → Option OpenCommand → Option OpenCommand → Type 0
TakesToken (Some kind) old new = Keeps old new (λ k. record { text = []; levels = with_trees (leaf (token_by kind k.text) ∷ []) k.levels })
TakesToken None old new = new ≡ None
