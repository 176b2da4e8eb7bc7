-- What a run of the program claims, from its command line, the bytes that it read and the bytes that it wrote.
use Rattle.std.specs.Prelude.{◌≡◌, ℕ, ◌≤◌, ◌||◌, length, Bool, true, false, List, [], ◌++◌, take, Option, ◌⊎◌, if◌then◌else◌}
use Rattle.std.specs.List.{list_any}
use Rattle.std.specs.Io.KnownBytes.{Keeps, Appends, Consumes, IsAtEnd}
use Rattle.nz_script.specs.text.Text.{Heard, script_limits}
use Rattle.nz_script.specs.text.ToldAs.{AreToldAs}
use Rattle.nz_script.specs.text.Told.{AreComplete}
use Rattle.nz_script.specs.live.Live.{start}
use Rattle.nz_script.specs.replies.Reply.{error, reply_text}
use Rattle.nz_spec.specs.outside.Error.{out_of_memory}
use Rattle.nz_script.specs.run.Transcript.{Kept, EndsByExit, things_of, texts_of, IsCutOff, IsTranscript, IsTranscriptSoFar, BeginsText, IsFrontBegun}

-- the most units of work that one check may use, where the command line doesn't say
abbrev pub solve_limit : ℕ
solve_limit = 200000

-- ---- Statuses

abbrev pub is_memory_error : Kept → Bool
is_memory_error k = elim k.reply [ error out_of_memory ↦ true | _ ↦ false ]

abbrev pub is_error : Kept → Bool
is_error k = elim k.reply [ error e ↦ true | _ ↦ false ]

-- the status of a run that met no fault and came to its end: want of memory first, then any error
abbrev pub status_of : Bool → List Kept → ℕ
status_of cut kept = if cut || list_any is_memory_error kept then 5 else (if list_any is_error kept then 1 else 0)

-- ---- What was read and written
-- What was read of a source, and what was added to a sink, holds where they tell their bytes; where the source doesn't, the
-- replies are right for some bytes.

-- the most bytes that a read may bring
abbrev pub buffer_size : ℕ
buffer_size = 4096

-- The exit that ends the replies isn't complete in the bytes before the last read, which brought none where it is heard as the text ends.
pub record ExitsInTime (bytes : List ℕ) (kept : List Kept) : Type 0 where
  pub earlier : List ℕ
  pub last : List ℕ
  pub split : bytes ≡ earlier ++ last
  pub short : length last ≤ buffer_size
  pub incomplete : (heard : List Heard) → AreToldAs (things_of kept) heard → AreComplete script_limits earlier heard → ⊥

-- A run that came to its end: the input's front was read, to its end or to an accepted exit, and behind an exit no further; what
-- was kept is the transcript of these bytes; and the texts of its replies were written.
pub record IsAnswered (limit : ℕ) (input rest before after : Option (List ℕ)) (kept : List Kept) : Type 0 where
  pub read : List ℕ
  pub taken : Consumes input rest read
  pub transcript : IsTranscript limit read kept
  pub whole : IsAtEnd rest ⊎ EndsByExit start kept
  pub in_time : EndsByExit start kept → ExitsInTime read kept
  pub written : Appends before after (texts_of kept)

-- A run that want of memory cut short: what was kept is a front of what is complete in the bytes read, or of what is heard in
-- them where the input ended there; something is left unanswered; and a last line says so.
pub record IsCutShort (limit : ℕ) (input rest before after : Option (List ℕ)) (kept : List Kept) : Type 0 where
  pub read : List ℕ
  pub taken : Consumes input rest read
  pub ended : Bool
  pub at_end : ended ≡ true → IsAtEnd rest
  pub front : IsCutOff limit ended read kept
  pub written : Appends before after (texts_of kept ++ reply_text (error out_of_memory))

-- A run that a fault of the input or the last of the reads interrupted: what was kept is the transcript so far of the bytes
-- read, and the texts of its replies were written.
pub record IsInterrupted (limit : ℕ) (input rest before after : Option (List ℕ)) (kept : List Kept) : Type 0 where
  pub read : List ℕ
  pub taken : Consumes input rest read
  pub transcript : IsTranscriptSoFar limit read kept
  pub written : Appends before after (texts_of kept)

-- A run that a fault of the output broke off: what was kept is a front of what is complete in the bytes read, or of what is
-- heard in them where the input ended there; the texts of its replies were written, but of the last text only a front.
pub record IsBrokenOff (limit : ℕ) (input rest before after : Option (List ℕ)) (kept : List Kept) : Type 0 where
  pub read : List ℕ
  pub taken : Consumes input rest read
  pub ended : Bool
  pub at_end : ended ≡ true → IsAtEnd rest
  pub first : List Kept
  pub text : List ℕ
  pub begins : BeginsText kept first text
  pub front : IsFrontBegun limit ended read kept first
  pub count : ℕ
  pub written : Appends before after (texts_of first ++ take count text)

-- What a run claims where it met no fault.
abbrev pub IsRun : ℕ → Bool → Option (List ℕ) → Option (List ℕ) → Option (List ℕ) → Option (List ℕ) → List Kept → Type 0
IsRun limit true input rest before after kept = IsCutShort limit input rest before after kept
IsRun limit false input rest before after kept = IsAnswered limit input rest before after kept

-- Nothing was read, nothing was written, and nothing was kept.
pub record HasNotBegun (input rest before after : Option (List ℕ)) (cut : Bool) (kept : List Kept) : Type 0 where
  pub unread : Keeps input rest
  pub unwritten : Keeps before after
  pub whole : cut ≡ false
  pub nothing : kept ≡ []

-- so many reads were made, each of a byte or more
abbrev pub TookMany : Option (List ℕ) → Option (List ℕ) → ℕ → Type 0
TookMany input rest count = (read : List ℕ) × Consumes input rest read × (count ≤ length read)
