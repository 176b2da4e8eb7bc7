-- What one read leads to.
use Rattle.std.proofs.Common.{◌≡◌, inl, inr, true≢false, ℕ, suc, nat_eq, nat_lt, ◌&&◌, ◌||◌, ◌+◌, ◌*◌, ◌^◌, ◌<◌, ◌≤◌, Bool, true, false, List, [], ◌∷◌, ◌++◌, length, take, Option, refl, sym, ap, ◌∙◌, subst, append_assoc, append-nil, arith}
use Rattle.std.proofs.Math.Bool.{or-false}
use Rattle.std.proofs.lemmas.Bool.Decides.{nat_tests}
use Rattle.std.proofs.lemmas.List.{length-append}
use Rattle.std.proofs.lemmas.Grind.{flat_map-append}
use Rattle.std.specs.Io.KnownBytes.{Appends, Consumes, IsAtEnd, Keeps}
use Rattle.std.proofs.KnownBytes.{Appends-nil, Appends-trans, Consumes-kept, Consumes-nil, Consumes-trans}
use Rattle.nz_script.specs.text.Text.{Heard, script_limits}
use Rattle.nz_script.specs.text.ToldAs.{AreToldAs}
use Rattle.nz_script.specs.text.Told.{AreComplete, IsToldFirst}
use Rattle.nz_script.specs.live.Live.{State, start}
use Rattle.nz_spec.specs.outside.Error.{out_of_memory}
use Rattle.nz_script.specs.replies.Reply.{reply_text, error}
use Rattle.nz_script.specs.replies.Right.{after}
use Rattle.nz_spec.specs.terms.Table.{Node}
use Rattle.nz_spec.specs.terms.Term.{Term}
use Rattle.nz_script.specs.run.Transcript.{Kept, GoesOn, EndsByExit, things_of, texts_of}
use Rattle.nz_script.specs.run.Run.{buffer_size, ExitsInTime, IsAnswered, IsBrokenOff, IsCutShort, IsInterrupted, TookMany}
use Rattle.nz_search.specs.Levels.{Level}
use Rattle.nz_session.specs.declared.session.Session.{Session}
use Rattle.nz_session.specs.Serve.{BreaksOff, HasEnded, HasExited, IsCut, IsShort, Serves, Writes, WritesCut, kept_by}
use Rattle.nz_run.specs.Reading.{IsInTime, IsReading}

-- ---- What was written

texts-more : (old new more : List Kept) → new ≡ old ++ more → texts_of new ≡ texts_of old ++ texts_of more
texts-more old new more e = ap texts_of e ∙ flat_map-append (λ (k : Kept). reply_text k.reply) old more

written_more : (old new : List Kept) (a b c : Option (List ℕ)) → Appends a b (texts_of old) → Writes old new b c → Appends a c (texts_of new)
written_more old new a b c w n =
    subst (Appends a c) (sym (texts-more old new n.more n.kept)) (Appends-trans a b c (texts_of old) (texts_of n.more) w n.written)

written_cut : (old new : List Kept) (a b c : Option (List ℕ)) → Appends a b (texts_of old) → WritesCut old new b c → Appends a c (texts_of new ++ reply_text (error out_of_memory))
written_cut old new a b c w n =
    let all : texts_of old ++ (texts_of n.more ++ reply_text (error out_of_memory)) ≡ texts_of new ++ reply_text (error out_of_memory) =
    sym (append_assoc (texts_of old) (texts_of n.more) (reply_text (error out_of_memory))) ∙ ap (λ l. l ++ reply_text (error out_of_memory)) (sym (texts-more old new n.more n.kept)) in
    subst (Appends a c) all (Appends-trans a b c (texts_of old) (texts_of n.more ++ reply_text (error out_of_memory)) w n.written)

-- ---- An exit is complete only in the bytes of the last read

exits_or_goes : (s : State) (ks : List Kept) → GoesOn s ks → EndsByExit s ks → ⊥
exits_or_goes s [] g e = e
exits_or_goes s (k ∷ []) g e = g.0 e
exits_or_goes s (k ∷ l ∷ ks) g e = exits_or_goes (after s k.heard.what k.reply) (l ∷ ks) g.1 e

as_many : (ts hs : List Heard) → AreToldAs ts hs → length ts ≡ length hs
as_many [] [] h = refl
as_many [] (x ∷ xs) h = absurd h
as_many (t ∷ ts) [] h = absurd h
as_many (t ∷ ts) (x ∷ xs) h = omega (arith, as_many ts xs h.1)

things_count : (ks : List Kept) → length (things_of ks) ≡ length ks
things_count [] = refl
things_count (k ∷ ks) = ap suc (things_count ks)

none_more : (old more : List Kept) → length more ≡ 0 → old ++ more ≡ old
none_more old [] e = append-nil old
none_more old (k ∷ ks) e = absurd (omega (arith, e))

incomplete : (read : List ℕ) (old new more : List Kept) → IsToldFirst script_limits read (things_of old) → GoesOn start old → new ≡ old ++ more → EndsByExit start new
    → (heard : List Heard) → AreToldAs (things_of new) heard → AreComplete script_limits read heard → ⊥
incomplete read old new more told goes kept ends heard alike complete =
    let longer = told.longest heard complete in
    let all : length told.front ≡ length heard + length longer.0 = ap length longer.1 ∙ length-append heard longer.0 in
    let before : length told.front ≡ length old = sym (as_many (things_of old) told.front told.are_told) ∙ things_count old in
    let now : length heard ≡ length old + length more = sym (as_many (things_of new) heard alike) ∙ things_count new ∙ ap length kept ∙ length-append old more in
    let none : length more ≡ 0 = omega (arith, all, before, now) in
    exits_or_goes start old goes (subst (EndsByExit start) (kept ∙ none_more old more none) ends)

-- ---- The end of the input

-- a read that brought no byte though there was room for one
pub zero_ends : (n : ℕ) (buffer : List ℕ) → n ≡ 0 → 0 < length buffer → (nat_eq n 0 && nat_lt 0 (length buffer)) ≡ true
zero_ends n buffer e room =
    let none : nat_eq n 0 ≡ true = grind (arith, nat_tests, e) in
    let some : nat_lt 0 (length buffer) ≡ true = grind (arith, nat_tests, room) in
    ap (λ b. b && nat_lt 0 (length buffer)) none ∙ some

-- one that brought a byte, of an input that hadn't ended
goes_on : (before now found : Bool) → now ≡ (before || found) → found ≡ false → before ≡ false → now ≡ false
goes_on before now found is none e = is ∙ ap (λ b. b || found) e ∙ none

-- a read before the end isn't late
pub in_time_still : (late now ended : Bool) → now ≡ (late || ended) → ended ≡ false → now ≡ late
in_time_still late now ended is e = is ∙ ap (λ b. late || b) e ∙ or-false late

pub read_on : (ended late first now_ended now_late found : Bool) → now_ended ≡ (ended || found) → now_late ≡ (late || ended) → found ≡ false → IsInTime ended late first → IsInTime now_ended now_late first
read_on ended late first now_ended now_late found ends lates none h =
    record { unended = goes_on ended now_ended found ends none h.unended; as_first = in_time_still late now_late ended lates h.unended ∙ h.as_first }

pub some_read : (n : ℕ) (buffer : List ℕ) → (n ≡ 0 → ⊥) → (nat_eq n 0 && nat_lt 0 (length buffer)) ≡ false
some_read n buffer some =
    let more : nat_eq n 0 ≡ false = grind (arith, nat_tests, some) in
    ap (λ b. b && nat_lt 0 (length buffer)) more

-- ---- The run

module _ {E : Type 0} (levels : E → List Level) (table : E → List Node) (begins : E → List Term → Type 0) (limit : ℕ) (session : Session E) (first left held now : Option (List ℕ)) (count : ℕ)
    (reading : IsReading levels table begins limit session first left held now count) where
  -- fewer than 2^32 reads bring fewer than 2^64 bytes, whatever one more brings
  pub is_short : count ≤ 2 ^ 32 → IsShort reading.read
  is_short few = let short : length reading.read ≤ 4096 * count = reading.short in omega (arith, short, few)

  is_short_more : count < 2 ^ 32 → (piece : List ℕ) → length piece ≤ buffer_size → IsShort (reading.read ++ piece)
  is_short_more few piece small =
      let short : length reading.read ≤ 4096 * count = reading.short in
      omega (arith, short, few, small, length-append reading.read piece)

  pub interrupted_run : count ≤ 2 ^ 32 → (after : Option (List ℕ)) → Keeps left after → IsInterrupted limit first after held now (kept_by session)
  interrupted_run few after kept =
      let has_read = reading.serves.read (is_short few) in
      record {
        read = reading.read;
        taken = Consumes-kept first left after reading.read reading.taken kept;
        transcript = record { complete = has_read.complete; right = reading.serves.going.right; goes_on = reading.serves.going.goes_on };
        written = reading.written;
      }

  -- so many reads took a byte each
  pub took_many : (least : ℕ) → least ≤ count → TookMany first left least
  took_many least enough = (reading.read, reading.taken, let long : count ≤ length reading.read = reading.long in omega (arith, long, enough))

  module _ (few : count < 2 ^ 32) (after later : Option (List ℕ)) (new : List Kept) where
    -- a read that brought nothing consumed nothing
    consumes_none : Consumes left after [] → Consumes first after reading.read
    consumes_none d = subst (Consumes first after) (append-nil reading.read) (Consumes-trans first left after reading.read [] reading.taken d)

    short_now : IsShort reading.read
    short_now = is_short (omega (arith, few))

    -- an exit that ends what is kept by now isn't complete in what was read before
    exits_in_time : (bytes last : List ℕ) → bytes ≡ reading.read ++ last → length last ≤ buffer_size → Writes (kept_by session) new now later → EndsByExit start new → ExitsInTime bytes new
    exits_in_time bytes last split small w ends =
        let has_read = reading.serves.read short_now in
        record {
          earlier = reading.read;
          last = last;
          split = split;
          short = small;
          incomplete = incomplete reading.read (kept_by session) new w.more has_read.complete reading.serves.going.goes_on w.kept ends;
        }

    pub ended_run : Consumes left after [] → IsAtEnd after → Writes (kept_by session) new now later → HasEnded limit reading.read new → IsAnswered limit first after held later new
    ended_run d at_end w e =
        record {
          read = reading.read;
          taken = consumes_none d;
          transcript = e.transcript short_now;
          whole = inl at_end;
          in_time = exits_in_time reading.read [] (sym (append-nil reading.read)) (omega arith) w;
          written = written_more (kept_by session) new held now later reading.written w;
        }

    pub ended_cut : Consumes left after [] → IsAtEnd after → WritesCut (kept_by session) new now later → IsCut limit true reading.read new → IsCutShort limit first after held later new
    ended_cut d at_end w e =
        record {
          read = reading.read;
          taken = consumes_none d;
          ended = true;
          at_end = λ _. at_end;
          front = e.cut_off short_now;
          written = written_cut (kept_by session) new held now later reading.written w;
        }

    broken : (read : List ℕ) → Consumes first after read → (ended : Bool) → (ended ≡ true → IsAtEnd after) → IsShort read → BreaksOff limit ended read (kept_by session) new now later → IsBrokenOff limit first after held later new
    broken read taken ended at_end short n =
        let old = kept_by session in
        let last : List ℕ = take n.count n.text in
        let all : texts_of old ++ (texts_of n.more ++ last) ≡ texts_of (old ++ n.more) ++ last =
        sym (append_assoc (texts_of old) (texts_of n.more) last) ∙ ap (λ l. l ++ last) (sym (texts-more old (old ++ n.more) n.more refl)) in
        record {
          read = read;
          taken = taken;
          ended = ended;
          at_end = at_end;
          first = old ++ n.more;
          text = n.text;
          begins = n.begins;
          front = n.front short;
          count = n.count;
          written = subst (Appends held later) all (Appends-trans held now later (texts_of old) (texts_of n.more ++ last) reading.written n.written);
        }

    pub ended_broken : Consumes left after [] → IsAtEnd after → BreaksOff limit true reading.read (kept_by session) new now later → IsBrokenOff limit first after held later new
    ended_broken d at_end n = broken reading.read (consumes_none d) true (λ _. at_end) short_now n

    -- ---- A read that brought a piece

    module _ (piece : List ℕ) (d : Consumes left after piece) (small : length piece ≤ buffer_size) where
      consumes_more : Consumes first after (reading.read ++ piece)
      consumes_more = Consumes-trans first left after reading.read piece reading.taken d

      pub fed_run : Writes (kept_by session) new now later → HasExited limit (reading.read ++ piece) new → IsAnswered limit first after held later new
      fed_run w e =
          record {
            read = reading.read ++ piece;
            taken = consumes_more;
            transcript = e.transcript (is_short_more few piece small);
            whole = inr e.ends;
            in_time = exits_in_time (reading.read ++ piece) piece refl small w;
            written = written_more (kept_by session) new held now later reading.written w;
          }

      pub fed_cut : WritesCut (kept_by session) new now later → IsCut limit false (reading.read ++ piece) new → IsCutShort limit first after held later new
      fed_cut w e =
          record {
            read = reading.read ++ piece;
            taken = consumes_more;
            ended = false;
            at_end = λ h. absurd (true≢false (sym h));
            front = e.cut_off (is_short_more few piece small);
            written = written_cut (kept_by session) new held now later reading.written w;
          }

      pub fed_broken : BreaksOff limit false (reading.read ++ piece) (kept_by session) new now later → IsBrokenOff limit first after held later new
      fed_broken n = broken (reading.read ++ piece) consumes_more false (λ h. absurd (true≢false (sym h))) (is_short_more few piece small) n

  pub reads_more : (next : Session E) (after later : Option (List ℕ)) (piece : List ℕ) → Consumes left after piece → 0 < length piece → length piece ≤ buffer_size
      → Serves levels table begins limit next (reading.read ++ piece) → Writes (kept_by session) (kept_by next) now later → IsReading levels table begins limit next first after held later (count + 1)
  reads_more next after later piece d some small serves writes =
      let all : length (reading.read ++ piece) ≡ length reading.read + length piece = length-append reading.read piece in
      let long : count ≤ length reading.read = reading.long in
      let short : length reading.read ≤ 4096 * count = reading.short in
      record {
        read = reading.read ++ piece;
        taken = Consumes-trans first left after reading.read piece reading.taken d;
        long = omega (arith, all, long, some);
        short = omega (arith, all, short, small);
        serves = serves;
        written = written_more (kept_by session) (kept_by next) held now later reading.written writes;
      }

-- ---- The beginning

-- a session that has read nothing
pub reading_begins : {E : Type 0} (levels : E → List Level) (table : E → List Node) (begins : E → List Term → Type 0) (limit : ℕ) (session : Session E) (first held : Option (List ℕ)) → Serves levels table begins limit session [] → kept_by session ≡ []
    → IsReading levels table begins limit session first first held held 0
reading_begins levels table begins limit session first held serves nothing = record {
  read = [];
  taken = Consumes-nil first;
  long = omega arith;
  short = omega arith;
  serves = serves;
  written = subst (λ ks. Appends held held (texts_of ks)) (sym nothing) (Appends-nil held);
}
