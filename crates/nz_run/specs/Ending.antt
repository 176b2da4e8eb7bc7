-- How a run ends.
use Rattle.std.specs.Prelude.{◌≡◌, ◌⊎◌, ℕ, Bool, true, false, List, Option, Some, None}
use Rattle.nz_script.specs.run.Transcript.{Kept}
use Rattle.nz_script.specs.run.Run.{IsBrokenOff, IsInterrupted, IsRun, status_of}
use Rattle.nz_run.specs.declared.program.End.{End}
use Rattle.nz_run.specs.declared.program.End.TheVariants.{Finished, Cut, ReadFault, WriteFault, Reads}

-- a status by which a run ended otherwise than at its end: bad words, a fault, no memory to begin with, or the last read
abbrev pub Ends : ℕ → Type 0
Ends status = (status ≡ 2) ⊎ ((status ≡ 3) ⊎ ((status ≡ 4) ⊎ ((status ≡ 5) ⊎ (status ≡ 6))))

-- what a run claims that ended so
abbrev pub EndsAs : End → ℕ → Option (List ℕ) → Option (List ℕ) → Option (List ℕ) → Option (List ℕ) → List Kept → Type 0
EndsAs Finished limit input rest before after kept = IsRun limit false input rest before after kept
EndsAs Cut limit input rest before after kept = IsRun limit true input rest before after kept
EndsAs ReadFault limit input rest before after kept = IsInterrupted limit input rest before after kept
EndsAs Reads limit input rest before after kept = IsInterrupted limit input rest before after kept
EndsAs WriteFault limit input rest before after kept = IsBrokenOff limit input rest before after kept

-- want of memory cut it short
abbrev pub is_cut : End → Bool
is_cut Cut = true
is_cut end = false

abbrev pub ends_by_read : End → Bool
ends_by_read ReadFault = true
ends_by_read end = false

abbrev pub ends_by_write : End → Bool
ends_by_write WriteFault = true
ends_by_write end = false

-- a read, or a write, failed where the run goes on or ends so
abbrev pub reads_fail : Option End → Bool
reads_fail None = false
reads_fail (Some e) = ends_by_read e

abbrev pub writes_fail : Option End → Bool
writes_fail None = false
writes_fail (Some e) = ends_by_write e

-- the status of a run that ended so
abbrev pub status_by : End → List Kept → ℕ
status_by Finished kept = status_of false kept
status_by Cut kept = status_of true kept
status_by ReadFault kept = 3
status_by WriteFault kept = 4
status_by Reads kept = 6
