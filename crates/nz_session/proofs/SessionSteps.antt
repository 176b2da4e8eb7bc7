-- How a session goes on by one answer.
use Rattle.std.proofs.Common.{◌≡◌, ℕ, true, false, List, [], ◌∷◌, ◌++◌, length, drop, Option, refl, sym, ap, ◌∙◌, subst, append-nil, take-append-drop}
use Rattle.std.proofs.lemmas.List.{map-append}
use Rattle.std.specs.Io.KnownBytes.{Appends}
use Rattle.nz_sexpr.specs.declared.packed.PackedHeard.{PackedHeard}
use Rattle.nz_sexpr.specs.Packed.{packed_heard_view}
use Rattle.nz_script.specs.text.Text as spec
use Rattle.nz_spec.specs.terms.Table.{Node}
use Rattle.nz_spec.specs.terms.Term.{Term}
use Rattle.nz_spec.specs.search.Decide.{IsFrontOfTable}
use Rattle.nz_spec.specs.outside.Outside.{AddsFrontOf}
use Rattle.nz_spec.specs.outside.Error.{out_of_memory}
use Rattle.nz_script.specs.replies.Reply.{error, reply_text}
use Rattle.nz_script.specs.live.Live.{start}
use Rattle.nz_script.specs.replies.Right.{beginning}
use Rattle.nz_script.specs.run.Transcript.{Kept, AreRight, GoesOn, EndsByExit, context_of, things_of, GrowsByOne, TranscriptGrows, last_reply, memory_line}
use Rattle.nz_search.specs.Levels.{Level}
use Rattle.nz_session.specs.declared.desk.Desk.{Desk}
use Rattle.nz_session.specs.declared.desk.Answer.{Answer}
use Rattle.nz_reply.specs.declared.reply.Kept as code
use Rattle.nz_reply.specs.Replies.{all_kept, kept_of, reply_of, IsCauseWithin, AreKeptWithin, StayKept, KeptStay}
use Rattle.nz_session.specs.Desk.{Holds, IsAnswer, table_of}
use Rattle.nz_session.specs.Serve.{Answers, AnswersInPart, IsGoing, kept_at}

-- what is kept of an answer
abbrev pub kept_answer : PackedHeard → Answer → code.Kept
kept_answer h a = record { heard = h; reply = a.reply; cause = a.cause }

within-append : (ns : List Node) (ks : List code.Kept) (k : code.Kept) → AreKeptWithin ns ks → IsCauseWithin ns k.cause → AreKeptWithin ns (ks ++ k ∷ [])
within-append ns [] k w i = (i, tt)
within-append ns (j ∷ js) k w i = (w.0, within-append ns js k w.1 i)

-- ---- What was kept, by a table that has grown, with one answer more

module _ (stay : KeptStay) (ns ms : List Node) (front : IsFrontOfTable ns ms) (ks : List code.Kept) (within : AreKeptWithin ns ks) (h : PackedHeard) (a : Answer) where
  whole : ns ++ drop (length ns) ms ≡ ms
  whole = ap (λ l. l ++ drop (length ns) ms) (sym front) ∙ take-append-drop (length ns) ms

  stayed : StayKept ns (drop (length ns) ms) ks
  stayed = stay ns (drop (length ns) ms) ks within

  kept_after : all_kept ms (ks ++ kept_answer h a ∷ []) ≡ all_kept ns ks ++ kept_of ms (kept_answer h a) ∷ []
  kept_after =
      map-append (kept_of ms) ks (kept_answer h a ∷ [])
      ∙ ap (λ l. l ++ kept_of ms (kept_answer h a) ∷ []) (ap (λ l. all_kept l ks) (sym whole) ∙ stayed.same)

  within_after : IsCauseWithin ms a.cause → AreKeptWithin ms (ks ++ kept_answer h a ∷ [])
  within_after named = within-append ms ks (kept_answer h a) (subst (λ (l : List Node). AreKeptWithin l ks) whole stayed.within) named

  -- the reply was kept, and its text was written
  pub answered : (thing : spec.Heard) → packed_heard_view h ≡ thing → (b c : Option (List ℕ)) → Appends b c (reply_text (reply_of thing.what a.reply))
      → Answers thing (all_kept ns ks) (all_kept ms (ks ++ kept_answer h a ∷ [])) b c
  answered thing same b c w =
      record {
        one = kept_of ms (kept_answer h a);
        kept = kept_after;
        heard = same;
        written = subst (λ (t : spec.Heard). Appends b c (reply_text (reply_of t.what a.reply))) (sym same) w;
      }

  -- the reply to the thing that was packed was kept, and a front of its text was written
  packed_in_part : (b c : Option (List ℕ)) → AddsFrontOf b c (reply_text (reply_of (packed_heard_view h).what a.reply))
      → AnswersInPart (packed_heard_view h) (all_kept ns ks) (all_kept ms (ks ++ kept_answer h a ∷ [])) b c
  packed_in_part b c f =
      let new : List Kept = all_kept ms (ks ++ kept_answer h a ∷ []) in
      let things : things_of new ≡ things_of (all_kept ns ks) ++ packed_heard_view h ∷ [] =
      ap things_of kept_after ∙ map-append (λ (k : Kept). k.heard) (all_kept ns ks) (kept_of ms (kept_answer h a) ∷ []) in
      record {
        later = [];
        heard = sym (append-nil (things_of new) ∙ things);
        text = reply_text (reply_of (packed_heard_view h).what a.reply);
        begins = last_reply (kept_of ms (kept_answer h a)) kept_after refl;
        written = f;
      }

  -- so of the thing heard
  pub answered_in_part : (thing : spec.Heard) → packed_heard_view h ≡ thing → (b c : Option (List ℕ)) → AddsFrontOf b c (reply_text (reply_of thing.what a.reply))
      → AnswersInPart thing (all_kept ns ks) (all_kept ms (ks ++ kept_answer h a ∷ [])) b c
  answered_in_part thing same b c f =
      subst (λ (t : spec.Heard). AnswersInPart t (all_kept ns ks) (all_kept ms (ks ++ kept_answer h a ∷ [])) b c) same
      (packed_in_part b c (subst (λ (t : spec.Heard). AddsFrontOf b c (reply_text (reply_of t.what a.reply))) (sym same) f))

-- nothing was kept, and a front of the line for want of memory was written
pub cut_in_part : (thing : spec.Heard) (ks : List Kept) (b c : Option (List ℕ)) → AddsFrontOf b c (reply_text (error out_of_memory)) → AnswersInPart thing ks ks b c
cut_in_part thing ks b c f = record { later = thing ∷ []; heard = refl; text = reply_text (error out_of_memory); begins = memory_line refl refl; written = f }

-- ---- Right replies, with one more

module _ {E : Type 0} (levels : E → List Level) (table : E → List Node) (begins : E → List Term → Type 0) (stay : KeptStay) (grows : TranscriptGrows) (limit : ℕ) (old new : Desk E)
    (front : IsFrontOfTable (table_of old) (table_of new)) (ks : List code.Kept) (h : PackedHeard) (a : Answer) (going : IsGoing levels table begins limit old ks)
    (thing : spec.Heard) (same : packed_heard_view h ≡ thing) (told : IsAnswer levels table begins (context_of (beginning limit) (kept_at old ks)) thing.what a new) where
  answer : IsAnswer levels table begins (context_of (beginning limit) (kept_at old ks)) (packed_heard_view h).what a new
  answer = subst (λ (t : spec.Heard). IsAnswer levels table begins (context_of (beginning limit) (kept_at old ks)) t.what a new) (sym same) told

  abbrev one : Kept
  one = kept_of (table_of new) (kept_answer h a)

  grown : GrowsByOne limit (kept_at old ks) one
  grown = grows limit (kept_at old ks) one going.right going.goes_on answer.right

  after : kept_at old ks ++ one ∷ [] ≡ kept_at new (ks ++ kept_answer h a ∷ [])
  after = sym (kept_after stay (table_of old) (table_of new) front ks going.within h a)

  pub right_on : AreRight (beginning limit) (kept_at new (ks ++ kept_answer h a ∷ []))
  right_on = subst (AreRight (beginning limit)) after grown.right

  pub exits_on : a.exits ≡ true → AreRight (beginning limit) (kept_at new (ks ++ kept_answer h a ∷ [])) × EndsByExit start (kept_at new (ks ++ kept_answer h a ∷ []))
  exits_on exits = (right_on, subst (EndsByExit start) after (grown.ends (answer.exits exits)))

  pub going_on : a.exits ≡ false → IsGoing levels table begins limit new (ks ++ kept_answer h a ∷ [])
  going_on stays =
      record {
        right = right_on;
        goes_on = subst (GoesOn start) after (grown.goes_on (answer.stays stays));
        holds = subst (λ (l : List Kept). Holds levels table begins new (context_of (beginning limit) l)) after (subst (Holds levels table begins new) (sym grown.context) answer.holds);
        within = within_after stay (table_of old) (table_of new) front ks going.within h a answer.within;
      }
