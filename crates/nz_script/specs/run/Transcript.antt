-- The transcript of a run: what was heard, what was replied, and what was written.
use Rattle.std.specs.Prelude.{◌≡◌, ℕ, Bool, true, false, List, [], ◌∷◌, ◌++◌, map, flat_map, ⊤, ◌⊎◌}
use Rattle.nz_script.specs.text.Text.{Heard, Hears, script_limits}
use Rattle.nz_script.specs.text.ToldAs.{AreToldAs}
use Rattle.nz_script.specs.text.Told.{AreComplete, IsToldFirst}
use Rattle.nz_script.specs.live.Live.{State, start}
use Rattle.nz_script.specs.replies.Reply.{Reply, error, Cause, reply_text}
use Rattle.nz_spec.specs.outside.Error.{out_of_memory}
use Rattle.nz_script.specs.replies.Right.{Context, beginning, IsRight, IsExit, after, context_after}

-- a thing told, its reply, and the reply's cause
pub record Kept : Type 0 where
  pub heard : Heard
  pub reply : Reply
  pub cause : Cause

-- the context that these leave
abbrev pub context_of : Context → List Kept → Context
context_of c [] = c
context_of c (k ∷ ks) = context_of (context_after c k.heard.what k.reply) ks

-- Each reply is right for its command in the context that those before it left, and nothing follows an accepted exit.
abbrev pub AreRight : Context → List Kept → Type 0
AreRight c [] = ⊤
AreRight c (k ∷ ks) =
    IsRight c k.heard.what k.reply k.cause × (IsExit c.state k.heard.what k.reply → ks ≡ []) × AreRight (context_after c k.heard.what k.reply) ks

-- no reply is that to an accepted exit
abbrev pub GoesOn : State → List Kept → Type 0
GoesOn s [] = ⊤
GoesOn s (k ∷ ks) = (IsExit s k.heard.what k.reply → ⊥) × GoesOn (after s k.heard.what k.reply) ks

-- the last reply is that to an accepted exit
abbrev pub EndsByExit : State → List Kept → Type 0
EndsByExit s [] = ⊥
EndsByExit s (k ∷ []) = IsExit s k.heard.what k.reply
EndsByExit s (k ∷ l ∷ ks) = EndsByExit (after s k.heard.what k.reply) (l ∷ ks)

-- what was told
abbrev pub things_of : List Kept → List Heard
things_of ks = map (λ (k : Kept). k.heard) ks

-- the texts of the replies, in order
abbrev pub texts_of : List Kept → List ℕ
texts_of ks = flat_map (λ (k : Kept). reply_text k.reply) ks

-- ---- What was kept, beside what is heard

-- These are heard first: in the bytes as a whole text, where it has ended with them; else however it goes on after them.
abbrev pub AreHeardFirst : Bool → List ℕ → List Heard → Type 0
AreHeardFirst true bytes things = (rest : List Heard) × Hears script_limits bytes (things ++ rest)
AreHeardFirst false bytes things = AreComplete script_limits bytes things

-- What was kept is told of the first things heard in the bytes, one for one, and each reply is right; these come next.
pub record IsFrontOf (limit : ℕ) (ended : Bool) (bytes : List ℕ) (kept : List Kept) (next : List Heard) : Type 0 where
  pub heard : List Heard
  pub first : AreHeardFirst ended bytes (heard ++ next)
  pub told : AreToldAs (things_of kept) heard
  pub right : AreRight (beginning limit) kept

-- Something heard is left unanswered, and none of the replies is that to an accepted exit.
pub record IsCutOff (limit : ℕ) (ended : Bool) (bytes : List ℕ) (kept : List Kept) : Type 0 where
  pub unanswered : Heard
  pub front : IsFrontOf limit ended bytes kept (unanswered ∷ [])
  pub goes_on : GoesOn start kept

-- What was kept is all that is heard in the bytes, or all up to an accepted exit.
pub record IsTranscript (limit : ℕ) (bytes : List ℕ) (kept : List Kept) : Type 0 where
  pub heard : List Heard
  pub rest : List Heard
  pub hears : Hears script_limits bytes (heard ++ rest)
  pub told : AreToldAs (things_of kept) heard
  pub right : AreRight (beginning limit) kept
  pub whole : (rest ≡ []) ⊎ EndsByExit start kept

-- What was kept is all that is complete in the bytes, whatever follows them; each reply is right, and none is that to an
-- accepted exit.
pub record IsTranscriptSoFar (limit : ℕ) (bytes : List ℕ) (kept : List Kept) : Type 0 where
  pub complete : IsToldFirst script_limits bytes (things_of kept)
  pub right : AreRight (beginning limit) kept
  pub goes_on : GoesOn start kept

-- The replies of the first were written whole, and then a text was begun: that of the one reply that was kept beside them, or,
-- where none was, the line for want of memory.
pub data BeginsText (kept first : List Kept) (text : List ℕ) : Type 0 where
  last_reply : (last : Kept) → kept ≡ first ++ last ∷ [] → text ≡ reply_text last.reply → BeginsText kept first text
  memory_line : kept ≡ first → text ≡ reply_text (error out_of_memory) → BeginsText kept first text

-- What was kept is told of the first things heard, and only where something is left unanswered was the line for want of memory
-- begun.
pub record IsFrontBegun (limit : ℕ) (ended : Bool) (bytes : List ℕ) (kept first : List Kept) : Type 0 where
  pub front : IsFrontOf limit ended bytes kept []
  pub cut_off : kept ≡ first → IsCutOff limit ended bytes kept

-- ---- Laws

-- A transcript goes on by one thing told and its right reply, where no exit came before.
pub record GrowsByOne (limit : ℕ) (kept : List Kept) (k : Kept) : Type 0 where
  pub right : AreRight (beginning limit) (kept ++ k ∷ [])
  pub context : context_of (beginning limit) (kept ++ k ∷ []) ≡ context_after (context_of (beginning limit) kept) k.heard.what k.reply
  pub texts : texts_of (kept ++ k ∷ []) ≡ texts_of kept ++ reply_text k.reply
  pub goes_on : (IsExit (context_of (beginning limit) kept).state k.heard.what k.reply → ⊥) → GoesOn start (kept ++ k ∷ [])
  pub ends : IsExit (context_of (beginning limit) kept).state k.heard.what k.reply → EndsByExit start (kept ++ k ∷ [])

abbrev pub TranscriptGrows : Type 0
TranscriptGrows =
    (limit : ℕ) (kept : List Kept) (k : Kept) → AreRight (beginning limit) kept → GoesOn start kept
    → IsRight (context_of (beginning limit) kept) k.heard.what k.reply k.cause → GrowsByOne limit kept k
