-- What a session has read, kept and answered.
use Rattle.std.specs.Prelude.{◌≡◌, ℕ, ◌<◌, ◌^◌, Bool, true, false, List, [], ◌∷◌, ◌++◌, length, take, Option, None, Some}
use Rattle.std.specs.Io.KnownBytes.{Appends}
use Rattle.nz_script.specs.text.Text.{Heard, script_limits}
use Rattle.nz_script.specs.live.Live.{start}
use Rattle.nz_spec.specs.outside.Error.{out_of_memory}
use Rattle.nz_script.specs.replies.Reply.{reply_text, error}
use Rattle.nz_script.specs.replies.Right.{beginning}
use Rattle.nz_script.specs.run.Transcript.{BeginsText, Kept, AreRight, GoesOn, EndsByExit, context_of, things_of, texts_of, IsFrontBegun, IsCutOff, IsTranscript}
use Rattle.nz_script.specs.text.Told.{IsToldFirst}
use Rattle.nz_spec.specs.outside.Outside.{AddsFrontOf}
use Rattle.nz_sexpr.specs.Fits.{Fits, owes}
use Rattle.nz_spec.specs.terms.Table.{Node}
use Rattle.nz_spec.specs.terms.Term.{Term}
use Rattle.nz_search.specs.Levels.{Level}
use Rattle.nz_session.specs.Desk.{Holds, table_of}
use Rattle.nz_reply.specs.declared.reply.Kept as code
use Rattle.nz_reply.specs.Replies.{all_kept, AreKeptWithin}
use Rattle.nz_session.specs.declared.desk.Desk.{Desk}
use Rattle.nz_session.specs.declared.session.Fed.{Fed}
use Rattle.nz_session.specs.declared.session.Fed.TheVariants.{SinkFault}
use Rattle.nz_session.specs.declared.session.Session.{Session}

-- the sink failed
abbrev pub is_sink_fault : Fed → Bool
is_sink_fault SinkFault = true
is_sink_fault fed = false

-- so where one thing was answered, or none
abbrev pub fails_at : Option Fed → Bool
fails_at None = false
fails_at (Some fed) = is_sink_fault fed

-- what was kept, by the table of a desk
abbrev pub kept_at : {E : Type 0} → Desk E → List code.Kept → List Kept
kept_at desk ks = all_kept (table_of desk) ks

-- Each reply so far is right, none was to an exit, and the desk holds what they left.
pub record IsGoing {E : Type 0} (levels : E → List Level) (table : E → List Node) (begins : E → List Term → Type 0) (limit : ℕ) (desk : Desk E) (ks : List code.Kept) : Type 0 where
  pub right : AreRight (beginning limit) (kept_at desk ks)
  pub goes_on : GoesOn start (kept_at desk ks)
  pub holds : Holds levels table begins desk (context_of (beginning limit) (kept_at desk ks))
  pub within : AreKeptWithin (table_of desk) ks

-- what a session has kept
abbrev pub kept_by : {E : Type 0} → Session E → List Kept
kept_by session = kept_at session.desk session.kept.items

-- the table of the terms that its journal names by their numbers
abbrev pub table_by : {E : Type 0} → Session E → List Node
table_by session = table_of session.desk

-- The reader has read these bytes, and what is complete in them was answered.
pub record HasRead {E : Type 0} (session : Session E) (bytes : List ℕ) : Type 0 where
  pub reads : Fits script_limits session.reader bytes (things_of (kept_by session))
  pub settled : owes session.reader ≡ false
  pub complete : IsToldFirst script_limits bytes (things_of (kept_by session))

-- places are told as they are below so many bytes
abbrev pub IsShort : List ℕ → Type 0
IsShort bytes = length bytes < 2 ^ 64

-- The session has read these bytes; its replies are right, and while the bytes aren't too many, they are those to what is
-- complete in them.
pub record Serves {E : Type 0} (levels : E → List Level) (table : E → List Node) (begins : E → List Term → Type 0) (limit : ℕ) (session : Session E) (bytes : List ℕ) : Type 0 where
  pub going : IsGoing levels table begins limit session.desk session.kept.items
  pub read : IsShort bytes → HasRead session bytes

-- Of these bytes and the rest the session has read the bytes; its replies are right, and while all of them aren't too many, they are those
-- to what the reader told. The reader may owe a thing that is complete.
pub record IsServing {E : Type 0} (levels : E → List Level) (table : E → List Node) (begins : E → List Term → Type 0) (limit : ℕ) (session : Session E) (bytes rest : List ℕ) : Type 0 where
  pub going : IsGoing levels table begins limit session.desk session.kept.items
  pub reads : IsShort (bytes ++ rest) → Fits script_limits session.reader bytes (things_of (kept_by session))

-- its reader owes a thing that is complete
abbrev pub owes_thing : {E : Type 0} → Session E → Bool
owes_thing session = owes session.reader

-- more was kept, and its replies were written
pub record Writes (old new : List Kept) (before after : Option (List ℕ)) : Type 0 where
  pub more : List Kept
  pub kept : new ≡ old ++ more
  pub written : Appends before after (texts_of more)

-- more was kept, and its replies were written, and then that memory is wanted
pub record WritesCut (old new : List Kept) (before after : Option (List ℕ)) : Type 0 where
  pub more : List Kept
  pub kept : new ≡ old ++ more
  pub written : Appends before after (texts_of more ++ reply_text (error out_of_memory))

-- The replies end with that to an accepted exit, and are right; they are those to what is heard first in these bytes.
pub record HasExited (limit : ℕ) (bytes : List ℕ) (ks : List Kept) : Type 0 where
  pub right : AreRight (beginning limit) ks
  pub ends : EndsByExit start ks
  pub transcript : IsShort bytes → IsTranscript limit bytes ks

-- The replies are right, and are those to all that is heard in these bytes.
pub record HasEnded (limit : ℕ) (bytes : List ℕ) (ks : List Kept) : Type 0 where
  pub right : AreRight (beginning limit) ks
  pub transcript : IsShort bytes → IsTranscript limit bytes ks

-- The replies are right, none was to an exit, and something heard is left unanswered; the text has ended with these bytes, or goes on.
pub record IsCut (limit : ℕ) (ended : Bool) (bytes : List ℕ) (ks : List Kept) : Type 0 where
  pub right : AreRight (beginning limit) ks
  pub goes_on : GoesOn start ks
  pub cut_off : IsShort bytes → IsCutOff limit ended bytes ks

-- More was kept, and its replies were written, but of the text that was written last only a front; the replies are right.
pub record BreaksOff (limit : ℕ) (ended : Bool) (bytes : List ℕ) (old new : List Kept) (before after : Option (List ℕ)) : Type 0 where
  pub more : List Kept
  pub text : List ℕ
  pub begins : BeginsText new (old ++ more) text
  pub count : ℕ
  pub written : Appends before after (texts_of more ++ take count text)
  pub right : AreRight (beginning limit) new
  pub front : IsShort bytes → IsFrontBegun limit ended bytes new (old ++ more)

-- One thing more was kept, and its reply was written.
pub record Answers (thing : Heard) (old new : List Kept) (before after : Option (List ℕ)) : Type 0 where
  pub one : Kept
  pub kept : new ≡ old ++ one ∷ []
  pub heard : one.heard ≡ thing
  pub written : Appends before after (reply_text one.reply)

-- One thing more was answered, whichever it was.
abbrev pub AnswersOne : List Kept → List Kept → Option (List ℕ) → Option (List ℕ) → Type 0
AnswersOne old new before after = (thing : Heard) × Answers thing old new before after

-- One thing more was kept, and of its reply a front was written; or none was kept, and of the line for want of memory.
pub record AnswersInPart (thing : Heard) (old new : List Kept) (before after : Option (List ℕ)) : Type 0 where
  pub later : List Heard
  pub heard : things_of old ++ thing ∷ [] ≡ things_of new ++ later
  pub text : List ℕ
  pub begins : BeginsText new old text
  pub written : AddsFrontOf before after text
