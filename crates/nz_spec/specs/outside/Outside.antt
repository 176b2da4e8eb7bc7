-- What a program knows of the outside: a source of bytes that it reads, and a sink of bytes that it writes.
-- Either may tell its bytes or not, and each counts its own faults.
use Rattle.std.specs.Prelude.{◌≡◌, ℕ, suc, ◌-◌, ◌^◌, ◌≤◌, min, Bool, false, ◌&&◌, ◌||◌, IsTrue, nat_eq, nat_lt, if◌then◌else◌, List, ◌++◌, length, take, drop, Option, is_some, Result, Ok, Err, MatchResult}
use Rattle.std.specs.List.{list_any}
use Rattle.std.specs.Io.KnownBytes.{Keeps, Appends, Consumes, IsAtEnd}

-- ---- the count of faults

-- the last value of a count that is kept in 64 bits
abbrev pub last_count : ℕ
last_count = 2 ^ 64 - 1

-- a count after one more; at its last value it stays
abbrev pub raised : ℕ → ℕ → ℕ
raised last n = if nat_lt n last then suc n else n

-- the count of faults after a call that failed, or didn't
abbrev pub counted : ℕ → Bool → ℕ → ℕ
counted last failed n = if failed then raised last n else n

-- ---- reads and writes

-- bytes that were told are told still, and bytes that weren't aren't
abbrev pub TellsAlike : Option (List ℕ) → Option (List ℕ) → Type 0
TellsAlike old new = is_some new ≡ is_some old

-- a read that answered n gave the first n bytes left, which stand at the front of the buffer, and
-- the others are left; one that failed left them all
abbrev pub GivesFront : {E : Type 0} → Option (List ℕ) → Option (List ℕ) → Result ℕ E → List ℕ → Type 0
GivesFront old new result buffer = MatchResult result (λ n. Consumes old new (take n buffer)) (λ _. Keeps old new)

-- a read that finds the end: it answered 0, and the buffer has room
abbrev pub finds_end : {E : Type 0} → Result ℕ E → List ℕ → Bool
finds_end (Ok n) buffer = nat_eq n 0 && nat_lt 0 (length buffer)
finds_end (Err _) buffer = false

-- where a read found the end, no byte is left
abbrev pub EndsAtZero : {E : Type 0} → Option (List ℕ) → Result ℕ E → List ℕ → Type 0
EndsAtZero new result buffer = IsTrue (finds_end result buffer) → IsAtEnd new

-- a write that answered n added the first n bytes of the piece to those held; one that failed added none
abbrev pub TakesFront : {E : Type 0} → Option (List ℕ) → Option (List ℕ) → Result ℕ E → List ℕ → Type 0
TakesFront old new result piece = MatchResult result (λ n. Appends old new (take n piece)) (λ _. Keeps old new)

-- a front of these bytes was added to those held
abbrev pub AddsFrontOf : Option (List ℕ) → Option (List ℕ) → List ℕ → Type 0
AddsFrontOf old new bytes = (n : ℕ) × (n ≤ length bytes) × Appends old new (take n bytes)

-- a write that took nothing of a piece that isn't empty
abbrev pub is_refusal : {E : Type 0} → Result ℕ E → List ℕ → Bool
is_refusal (Ok n) piece = nat_eq n 0 && nat_lt 0 (length piece)
is_refusal (Err _) piece = false

-- ---- what a source's reads found so far

-- whether one has found the end, and whether one was made after that
pub record Reads : Type 0 where
  pub has_ended : Bool
  pub read_late : Bool

-- after one more read, which found the end or didn't
abbrev pub one_more : Reads → Bool → Reads
one_more reads found = record { has_ended = reads.has_ended || found; read_late = reads.read_late || reads.has_ended }

-- ---- readers and writers of std

-- a reader, whether it has failed, and what its reads found
pub record InputStream (R : Type 0) : Type 0 where
  pub inner : R
  pub has_failed : Bool
  pub reads : Reads

-- a writer, and whether it has failed
pub record OutputStream (W : Type 0) : Type 0 where
  pub inner : W
  pub has_failed : Bool

-- ---- sources and sinks in memory

-- the bytes that are left to read, the most that one read gives, and what the reads found
pub record MemoryInput : Type 0 where
  pub left : List ℕ
  pub piece : ℕ
  pub reads : Reads

-- how many bytes a read with a buffer of this length gives
abbrev pub given_count : MemoryInput → ℕ → ℕ
given_count input room = min (min (length input.left) input.piece) room

-- a read with a buffer of this length finds the end
abbrev pub ends : MemoryInput → ℕ → Bool
ends input room = nat_eq (given_count input room) 0 && nat_lt 0 room

-- the input after that read
abbrev pub after_read : MemoryInput → ℕ → MemoryInput
after_read input room = record input { left = drop (given_count input room) input.left; reads = one_more input.reads (ends input room) }

-- the input after a read that failed
abbrev pub after_failed_read : MemoryInput → MemoryInput
after_failed_read input = record input { reads = one_more input.reads false }

-- that buffer after that read: the bytes given, and what stood behind them
abbrev pub read_buffer : MemoryInput → List ℕ → List ℕ
read_buffer input buffer = let n = given_count input (length buffer) in take n input.left ++ drop n buffer

-- the bytes that were written, those of them that were handed on, how many may be held in all, and the faults so far
pub record MemoryOutput : Type 0 where
  pub held : List ℕ
  pub handed : List ℕ
  pub room : ℕ
  pub faults : ℕ

-- how many bytes of a piece a write takes: those that fit
abbrev pub taken_count : MemoryOutput → List ℕ → ℕ
taken_count output piece = min (length piece) (output.room - length output.held)

-- a write of this piece takes nothing of it, though it isn't empty
abbrev pub refuses : MemoryOutput → List ℕ → Bool
refuses output piece = nat_eq (taken_count output piece) 0 && nat_lt 0 (length piece)

-- the output after one more fault
abbrev pub after_fault : MemoryOutput → MemoryOutput
after_fault output = record output { faults = raised last_count output.faults }

-- the output after that write
abbrev pub after_write : MemoryOutput → List ℕ → MemoryOutput
after_write output piece =
    record output {
      held = output.held ++ take (taken_count output piece) piece;
      faults = counted last_count (refuses output piece) output.faults;
    }

-- the output after a flush: all that is held was handed on
abbrev pub after_flush : MemoryOutput → MemoryOutput
after_flush output = record output { handed = output.held }

-- ---- faults that are planned

-- the numbers of the calls that are to fail, and the number of the next call
pub record PlannedFaults : Type 0 where
  pub fails : List ℕ
  pub next : ℕ

-- whether the next call is to fail
abbrev pub fails_next : PlannedFaults → Bool
fails_next plan = list_any (λ call. nat_eq call plan.next) plan.fails

-- the plan after one more call, whose number stays at its last value
abbrev pub after_call : PlannedFaults → PlannedFaults
after_call plan = record plan { next = raised last_count plan.next }

-- an input whose reads fail where that is planned, and the faults so far
pub record FaultyInput : Type 0 where
  pub input : MemoryInput
  pub plan : PlannedFaults
  pub faults : ℕ

-- the faulty input after a read with a buffer of this length
abbrev pub after_faulty_read : FaultyInput → ℕ → FaultyInput
after_faulty_read source room =
    record {
      input = if fails_next source.plan then after_failed_read source.input else after_read source.input room;
      plan = after_call source.plan;
      faults = counted last_count (fails_next source.plan) source.faults;
    }

-- an output whose writes and flushes fail where that is planned
pub record FaultyOutput : Type 0 where
  pub output : MemoryOutput
  pub plan : PlannedFaults

-- the faulty output after a write of this piece
abbrev pub after_faulty_write : FaultyOutput → List ℕ → FaultyOutput
after_faulty_write sink piece =
    record {
      output = if fails_next sink.plan then after_fault sink.output else after_write sink.output piece;
      plan = after_call sink.plan;
    }

-- the faulty output after a flush, which hands on nothing where it fails
abbrev pub after_faulty_flush : FaultyOutput → FaultyOutput
after_faulty_flush sink =
    record {
      output = if fails_next sink.plan then after_fault sink.output else after_flush sink.output;
      plan = after_call sink.plan;
    }
