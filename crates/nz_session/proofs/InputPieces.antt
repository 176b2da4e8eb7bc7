-- How a session reads on in a piece, and ends.
use Rattle.std.proofs.Common.{◌≡◌, ℕ, ◌+◌, ◌^◌, ◌<◌, Bool, false, true, IsNone, IsSome, ◌⊎◌, inl, inr, List, [], ◌∷◌, ◌++◌, length, take, drop, Option, None, Some, Vec, refl, sym, ap, ◌∙◌, subst, append_assoc, append-nil, take-append-drop, arith}
use Rattle.std.proofs.lemmas.List.{map-append, length-append, take_all}
use Rattle.std.proofs.lemmas.Grind.{flat_map-append}
use Rattle.std.specs.Io.KnownBytes.{Appends, Keeps}
use Rattle.std.specs.declared.alloc.Global.{Global}
use Rattle.std.proofs.KnownBytes.{Appends-kept, Appends-nil, Appends-trans}
use Rattle.nz_script.specs.text.Text.{Limits, Heard, script_limits, OneReading}
use Rattle.nz_script.specs.text.Told.{IsTold, IsToldFirst, ReadingTellsFirst}
use Rattle.nz_spec.specs.outside.Outside.{AddsFrontOf}
use Rattle.nz_spec.specs.terms.Table.{Node}
use Rattle.nz_spec.specs.terms.Term.{Term}
use Rattle.nz_script.specs.live.Live.{start}
use Rattle.nz_spec.specs.outside.Error.{out_of_memory}
use Rattle.nz_script.specs.replies.Reply.{reply_text, error}
use Rattle.nz_script.specs.replies.Right.{beginning}
use Rattle.nz_script.specs.run.Transcript.{BeginsText, Kept, AreRight, GoesOn, EndsByExit, IsCutOff, IsFrontBegun, things_of, texts_of}
use Rattle.nz_sexpr.specs.declared.reader.Reader.{Reader}
use Rattle.nz_sexpr.specs.declared.heard.Heard as code
use Rattle.nz_sexpr.specs.View.{heard_view}
use Rattle.nz_sexpr.specs.Matches.{told}
use Rattle.nz_sexpr.specs.Fits.{Fits, owes}
use Rattle.nz_search.specs.Levels.{Level}
use Rattle.nz_session.specs.declared.desk.Desk.{Desk}
use Rattle.nz_reply.specs.declared.reply.Kept as kept
use Rattle.nz_session.specs.declared.session.Session.{Session}
use Rattle.nz_session.specs.declared.session.Fed.{Fed}
use Rattle.nz_session.specs.Serve.{IsGoing, IsServing, Serves, IsShort, Writes, WritesCut, Answers, AnswersOne, AnswersInPart, BreaksOff, HasExited, HasEnded, IsCut, kept_at, kept_by}
use Rattle.nz_session.proofs.Fronts.{IsHeardOf, heard_by_reader, heard_at_end, front_of, cut_off, transcript_to_exit, transcript_to_end}

-- ---- What is written

pub writes_nothing : (ks : List Kept) (held : Option (List ℕ)) → Writes ks ks held held
writes_nothing ks held = record { more = []; kept = sym (append-nil ks); written = Appends-nil held }

texts-append : (ks : List Kept) (k : Kept) → texts_of (ks ++ k ∷ []) ≡ texts_of ks ++ reply_text k.reply
texts-append ks k = flat_map-append (λ (j : Kept). reply_text j.reply) ks (k ∷ []) ∙ ap (λ l. texts_of ks ++ l) (append-nil (reply_text k.reply))

pub writes_more : (old mid new : List Kept) (thing : Heard) (a b c : Option (List ℕ)) → Writes old mid a b → Answers thing mid new b c → Writes old new a c
writes_more old mid new thing a b c w n =
    record {
      more = w.more ++ n.one ∷ [];
      kept = n.kept ∙ ap (λ l. l ++ n.one ∷ []) w.kept ∙ append_assoc old w.more (n.one ∷ []);
      written = subst (Appends a c) (sym (texts-append w.more n.one)) (Appends-trans a b c (texts_of w.more) (reply_text n.one.reply) w.written n.written);
    }

-- and then that memory is wanted
pub writes_cut : (old mid new : List Kept) (a b c : Option (List ℕ)) → Writes old mid a b → new ≡ mid → Appends b c (reply_text (error out_of_memory)) → WritesCut old new a c
writes_cut old mid new a b c w e n =
    record {
      more = w.more;
      kept = e ∙ w.kept;
      written = Appends-trans a b c (texts_of w.more) (reply_text (error out_of_memory)) w.written n;
    }

-- and then what was written in part
pub breaks_on : (limit : ℕ) (ended : Bool) (bytes : List ℕ) (old mid new : List Kept) (a b c : Option (List ℕ)) → Writes old mid a b → BreaksOff limit ended bytes mid new b c → BreaksOff limit ended bytes old new a c
breaks_on limit ended bytes old mid new a b c w n =
    let same : mid ++ n.more ≡ old ++ (w.more ++ n.more) = ap (λ l. l ++ n.more) w.kept ∙ append_assoc old w.more n.more in
    let last : List ℕ = take n.count n.text in
    let all : texts_of w.more ++ (texts_of n.more ++ last) ≡ texts_of (w.more ++ n.more) ++ last =
    sym (append_assoc (texts_of w.more) (texts_of n.more) last) ∙ ap (λ l. l ++ last) (sym (flat_map-append (λ (k : Kept). reply_text k.reply) w.more n.more)) in
    record {
      more = w.more ++ n.more;
      text = n.text;
      begins = subst (λ (l : List Kept). BeginsText new l n.text) same n.begins;
      count = n.count;
      written = subst (Appends a c) all (Appends-trans a b c (texts_of w.more) (texts_of n.more ++ last) w.written n.written);
      right = n.right;
      front = λ short. subst (IsFrontBegun limit ended bytes new) same (n.front short);
    }

-- a text that was written whole is a front of itself
pub front_whole : (a b c : Option (List ℕ)) (text : List ℕ) → Appends a b text → Keeps b c → AddsFrontOf a c text
front_whole a b c text p k =
    let all : take (length text) text ≡ text = take_all (length text) text (omega arith) in
    (length text, omega arith, subst (Appends a c) (sym all) (Appends-kept a b c text p k))

-- ---- The things kept

pub things-answered : (thing : Heard) (old new : List Kept) (b c : Option (List ℕ)) → Answers thing old new b c → things_of new ≡ things_of old ++ thing ∷ []
things-answered thing old new b c n =
    ap things_of n.kept ∙ map-append (λ (k : Kept). k.heard) old (n.one ∷ []) ∙ ap (λ h. things_of old ++ h ∷ []) n.heard

-- by the table of a desk, where it and its things are as they were
pub kept_alike : {E : Type 0} (old new : Desk E) (ks ls : List kept.Kept) → new ≡ old → ls ≡ ks → kept_at new ls ≡ kept_at old ks
kept_alike old new ks ls d e = ap (λ x. kept_at x ls) d ∙ ap (kept_at old) e

-- ---- One thing heard that isn't answered, or in part

module _ (limit : ℕ) (ended : Bool) (bytes : List ℕ) (ks : List Kept) (thing : Heard) (right : AreRight (beginning limit) ks) (goes : GoesOn start ks)
    (heard : IsShort bytes → IsHeardOf ended bytes (things_of ks ++ thing ∷ [])) where
  pub is_cut : IsCut limit ended bytes ks
  is_cut = record { right = right; goes_on = goes; cut_off = λ short. cut_off limit ended bytes ks right thing goes (heard short) }

  pub breaks_off : (old new : List Kept) (a b c : Option (List ℕ)) → Writes old ks a b → AnswersInPart thing ks new b c → AreRight (beginning limit) new
      → BreaksOff limit ended bytes old new a c
  breaks_off old new a b c w n right_new =
      record {
        more = w.more;
        text = n.text;
        begins = subst (λ (l : List Kept). BeginsText new l n.text) w.kept n.begins;
        count = n.written.0;
        written = Appends-trans a b c (texts_of w.more) (take n.written.0 n.text) w.written n.written.2;
        right = right_new;
        front = λ short. record {
          front = front_of limit ended bytes new right_new n.later (subst (IsHeardOf ended bytes) n.heard (heard short));
          cut_off = λ e. subst (IsCutOff limit ended bytes) (w.kept ∙ sym e) (cut_off limit ended bytes ks right thing goes (heard short));
        };
      }

-- ---- One thing of a piece

-- what a reader promises of one call
abbrev pub ReadsOn : Reader → Reader → List ℕ → ℕ → Option code.Heard → Type 0
ReadsOn old new rest used h =
    (limits : Limits) (bytes : List ℕ) (things : List Heard) → Fits limits old bytes things → length bytes + length rest < 2 ^ 64
    → Fits limits new (bytes ++ take used rest) (things ++ told h)

pub none_is : (h : Option code.Heard) → h ≡ None → IsNone h
none_is h e = subst IsNone (sym e) refl

pub some_is : {A : Type 0} (o : Option A) {x : A} → o ≡ Some x → IsSome o
some_is {A} o {x} e = subst IsSome (sym e) refl

module _ {E : Type 0} (levels : E → List Level) (table : E → List Node) (begins : E → List Term → Type 0) (limit : ℕ) (bytes rest : List ℕ) (reader next : Reader) (desk : Desk E) (ks : Vec kept.Kept Global)
    (used : ℕ) (h : Option code.Heard) (serving : IsServing levels table begins limit (record { reader = reader; desk = desk; kept = ks }) bytes rest) (reads_on : ReadsOn reader next rest used h) where
  -- the reader has read the bytes used too, and told what it told
  reads_more : IsShort (bytes ++ rest) → Fits script_limits next (bytes ++ take used rest) (things_of (kept_at desk ks.items) ++ told h)
  reads_more short =
      let whole : length (bytes ++ rest) ≡ length bytes + length rest = length-append bytes rest in
      reads_on script_limits bytes (things_of (kept_at desk ks.items)) (serving.reads short) (omega (arith, whole, short))

  -- the bytes used, and those behind them
  all_bytes : (bytes ++ take used rest) ++ drop used rest ≡ bytes ++ rest
  all_bytes = append_assoc bytes (take used rest) (drop used rest) ∙ ap (λ l. bytes ++ l) (take-append-drop used rest)

  -- at the end of the piece
  pub fed_all : h ≡ None → used ≡ length rest → owes next ≡ false
      → ((all : List ℕ) (things : List Heard) → Fits script_limits next all things → IsToldFirst script_limits all things)
      → Serves levels table begins limit (record { reader = next; desk = desk; kept = ks }) (bytes ++ rest)
  fed_all none all settled complete =
      let things : List Heard = things_of (kept_at desk ks.items) in
      let taken : take used rest ≡ rest = ap (λ n. take n rest) all ∙ take_all (length rest) rest (omega arith) in
      let nothing : things ++ told h ≡ things = ap (λ x. things ++ told x) none ∙ append-nil things in
      record {
        going = serving.going;
        read = λ short.
            let fit = subst (λ (l : List ℕ). Fits script_limits next (bytes ++ l) (things ++ told h)) taken (reads_more short) in
            let reads : Fits script_limits next (bytes ++ rest) things = subst (Fits script_limits next (bytes ++ rest)) nothing fit in
            record { reads = reads; settled = settled; complete = complete (bytes ++ rest) things reads };
      }

  module _ (heard : code.Heard) (some : h ≡ Some heard) where
    -- what was kept, and then this thing, is told of what is heard first
    heard_fed : ReadingTellsFirst → IsShort (bytes ++ rest) → IsHeardOf false (bytes ++ rest) (things_of (kept_at desk ks.items) ++ heard_view heard ∷ [])
    heard_fed tells short =
        let things = things_of (kept_at desk ks.items) in
        let fit = subst (λ x. Fits script_limits next (bytes ++ take used rest) (things ++ told x)) some (reads_more short) in
        subst (λ (l : List ℕ). IsHeardOf false l (things ++ heard_view heard ∷ [])) all_bytes
        (heard_by_reader tells next (bytes ++ take used rest) (drop used rest) (things ++ heard_view heard ∷ []) fit)

    -- the session was cut short
    pub cut_fed : ReadingTellsFirst → IsCut limit false (bytes ++ rest) (kept_at desk ks.items)
    cut_fed tells =
        is_cut limit false (bytes ++ rest) (kept_at desk ks.items) (heard_view heard) serving.going.right serving.going.goes_on (heard_fed tells)

    -- the sink failed
    pub broken_fed : (new : List Kept) (b c : Option (List ℕ)) → AnswersInPart (heard_view heard) (kept_at desk ks.items) new b c → AreRight (beginning limit) new → ReadingTellsFirst
        → BreaksOff limit false (bytes ++ rest) (kept_at desk ks.items) new b c
    broken_fed new b c part right tells =
        breaks_off limit false (bytes ++ rest) (kept_at desk ks.items) (heard_view heard) serving.going.right serving.going.goes_on (heard_fed tells)
        (kept_at desk ks.items) new b b c (writes_nothing (kept_at desk ks.items) b) part right

    module _ (desk' : Desk E) (ks' : Vec kept.Kept Global) (b c : Option (List ℕ)) (answers : Answers (heard_view heard) (kept_at desk ks.items) (kept_at desk' ks'.items) b c) where
      things_fed : things_of (kept_at desk ks.items) ++ heard_view heard ∷ [] ≡ things_of (kept_at desk' ks'.items)
      things_fed = sym (things-answered (heard_view heard) (kept_at desk ks.items) (kept_at desk' ks'.items) b c answers)

      -- the session goes on
      pub fed_more : IsGoing levels table begins limit desk' ks'.items
          → IsServing levels table begins limit (record { reader = next; desk = desk'; kept = ks' }) (bytes ++ take used rest) (drop used rest)
      fed_more going =
          record {
            going = going;
            reads = λ short.
                subst (Fits script_limits next (bytes ++ take used rest)) (ap (λ x. things_of (kept_at desk ks.items) ++ told x) some ∙ things_fed) (reads_more (subst IsShort all_bytes short));
          }

      -- the session has exited
      pub exited_fed : OneReading → ReadingTellsFirst → AreRight (beginning limit) (kept_at desk' ks'.items) × EndsByExit start (kept_at desk' ks'.items)
          → HasExited limit (bytes ++ rest) (kept_at desk' ks'.items)
      exited_fed one tells ends =
          record {
            right = ends.0;
            ends = ends.1;
            transcript = λ short. transcript_to_exit one limit (bytes ++ rest) (kept_at desk' ks'.items) ends.0 ends.1 (subst (IsHeardOf false (bytes ++ rest)) things_fed (heard_fed tells short));
          }

-- ---- A piece

-- Of the piece a front was read, and this is the rest; what the reader told of it was answered.
pub record IsFeeding {E : Type 0} (levels : E → List Level) (table : E → List Node) (begins : E → List Term → Type 0) (first now : Session E) (piece rest : List ℕ) (old new : Option (List ℕ)) : Type 0 where
  pub done : List ℕ
  pub all : piece ≡ done ++ rest
  pub serving : (limit : ℕ) (bytes : List ℕ) → Serves levels table begins limit first bytes → IsServing levels table begins limit now (bytes ++ done) rest
  pub writes : Writes (kept_by first) (kept_by now) old new

pub feeding_start : {E : Type 0} (levels : E → List Level) (table : E → List Node) (begins : E → List Term → Type 0) (session : Session E) (piece : List ℕ) (held : Option (List ℕ))
    → IsFeeding levels table begins session session piece piece held held
feeding_start levels table begins session piece held =
    record {
      done = [];
      all = refl;
      serving = λ limit bytes serves.
          record {
            going = serves.going;
            reads = λ short.
                let whole : length ((bytes ++ []) ++ piece) ≡ length (bytes ++ []) + length piece = length-append (bytes ++ []) piece in
                let same : length (bytes ++ []) ≡ length bytes = ap length (append-nil bytes) in
                subst (λ (l : List ℕ). Fits script_limits session.reader l (things_of (kept_by session))) (sym (append-nil bytes)) (serves.read (omega (arith, short, whole, same))).reads;
          };
      writes = writes_nothing (kept_by session) held;
    }

-- how the session stands, where one thing was answered
pub stands : (x y : Fed) → Some x ≡ Some y → x ≡ y
stands x y e = cc

pub one_of : (x y z : Fed) → (Some x ≡ Some y) ⊎ (Some x ≡ Some z) → (x ≡ y) ⊎ (x ≡ z)
one_of x y z (inl e) = inl (stands x y e)
one_of x y z (inr e) = inr (stands x z e)

module _ {E : Type 0} (levels : E → List Level) (table : E → List Node) (begins : E → List Term → Type 0) (first now : Session E) (piece rest : List ℕ) (a b : Option (List ℕ))
    (feeding : IsFeeding levels table begins first now piece rest a b) where
  -- what the session has read, and the rest
  whole : (bytes : List ℕ) → (bytes ++ feeding.done) ++ rest ≡ bytes ++ piece
  whole bytes = append_assoc bytes feeding.done rest ∙ ap (λ l. bytes ++ l) (sym feeding.all)

  -- what holds of what was read and the rest, where the session has read on, holds of the whole
  pub of_whole : (P : List ℕ → Type 0) (limit : ℕ) (bytes : List ℕ) → Serves levels table begins limit first bytes
      → ((bytes : List ℕ) → IsServing levels table begins limit now bytes rest → P (bytes ++ rest)) → P (bytes ++ piece)
  of_whole P limit bytes serves h = subst P (whole bytes) (h (bytes ++ feeding.done) (feeding.serving limit bytes serves))

  -- the session goes on behind one answer
  pub feeding_more : (next : Session E) (used : ℕ) (c : Option (List ℕ)) → AnswersOne (kept_by now) (kept_by next) b c
      → ((limit : ℕ) (bytes : List ℕ) → IsServing levels table begins limit now bytes rest → IsServing levels table begins limit next (bytes ++ take used rest) (drop used rest))
      → IsFeeding levels table begins first next piece (drop used rest) a c
  feeding_more next used c answers serving =
      record {
        done = feeding.done ++ take used rest;
        all = feeding.all ∙ ap (λ l. feeding.done ++ l) (sym (take-append-drop used rest)) ∙ sym (append_assoc feeding.done (take used rest) (drop used rest));
        serving = λ limit bytes serves.
            subst (λ (l : List ℕ). IsServing levels table begins limit next l (drop used rest)) (append_assoc bytes feeding.done (take used rest)) (serving limit (bytes ++ feeding.done) (feeding.serving limit bytes serves));
        writes = writes_more (kept_by first) (kept_by now) (kept_by next) answers.0 a b c feeding.writes answers.1;
      }

-- ---- The end of the text

module _ {E : Type 0} (levels : E → List Level) (table : E → List Node) (begins : E → List Term → Type 0) (limit : ℕ) (bytes : List ℕ) (session : Session E) (serves : Serves levels table begins limit session bytes)
    (h : Option code.Heard)
    (told_all : (limits : Limits) (all : List ℕ) (things : List Heard) → Fits limits session.reader all things → owes session.reader ≡ false → length all < 2 ^ 64
    → IsTold limits all (things ++ told h)) where
  told_whole : IsShort bytes → IsTold script_limits bytes (things_of (kept_by session) ++ told h)
  told_whole short = let read = serves.read short in told_all script_limits bytes (things_of (kept_by session)) read.reads read.settled short

  has_ended : (new : List Kept) → things_of (kept_by session) ++ told h ≡ things_of new → AreRight (beginning limit) new → HasEnded limit bytes new
  has_ended new all right =
      record {
        right = right;
        transcript = λ short. transcript_to_end limit bytes new right (subst (IsTold script_limits bytes) all (told_whole short));
      }

  -- nothing was left to answer
  pub finish_quiet : h ≡ None → HasEnded limit bytes (kept_by session)
  finish_quiet none =
      has_ended (kept_by session) (ap (λ x. things_of (kept_by session) ++ told x) none ∙ append-nil (things_of (kept_by session))) serves.going.right

  module _ (heard : code.Heard) (some : h ≡ Some heard) where
    last_heard : IsShort bytes → IsHeardOf true bytes (things_of (kept_by session) ++ heard_view heard ∷ [])
    last_heard short =
        heard_at_end bytes (things_of (kept_by session) ++ heard_view heard ∷ [])
        (subst (λ x. IsTold script_limits bytes (things_of (kept_by session) ++ told x)) some (told_whole short))

    -- the last thing heard was answered
    pub finished : (new : List Kept) (b c : Option (List ℕ)) → Answers (heard_view heard) (kept_by session) new b c → AreRight (beginning limit) new → HasEnded limit bytes new
    finished new b c answers right =
        has_ended new (ap (λ x. things_of (kept_by session) ++ told x) some ∙ sym (things-answered (heard_view heard) (kept_by session) new b c answers)) right

    -- it wasn't answered, for want of memory
    pub finish_cut : IsCut limit true bytes (kept_by session)
    finish_cut = is_cut limit true bytes (kept_by session) (heard_view heard) serves.going.right serves.going.goes_on last_heard

    -- the sink failed
    pub finish_broken : (new : List Kept) (b c : Option (List ℕ)) → AnswersInPart (heard_view heard) (kept_by session) new b c → AreRight (beginning limit) new
        → BreaksOff limit true bytes (kept_by session) new b c
    finish_broken new b c part right =
        breaks_off limit true bytes (kept_by session) (heard_view heard) serves.going.right serves.going.goes_on last_heard
        (kept_by session) new b b c (writes_nothing (kept_by session) b) part right
