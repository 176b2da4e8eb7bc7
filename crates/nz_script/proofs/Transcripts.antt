-- How a transcript grows.
use Rattle.std.proofs.Common.{◌≡◌, List, [], ◌∷◌, ◌++◌, refl, sym, ap, ◌∙◌, append_assoc, append-nil}
use Rattle.nz_script.specs.live.Live.{State}
use Rattle.nz_script.specs.replies.Reply.{reply_text}
use Rattle.nz_script.specs.replies.Right.{Context, beginning, IsRight, IsExit, after, context_after}
use Rattle.nz_script.specs.run.Transcript.{Kept, context_of, AreRight, GoesOn, EndsByExit, texts_of, TranscriptGrows}

right-append : (c : Context) (ks : List Kept) (k : Kept) → AreRight c ks → GoesOn c.state ks
    → IsRight (context_of c ks) k.heard.what k.reply k.cause → AreRight c (ks ++ k ∷ [])
right-append c [] k r g i = (i, λ e. refl, tt)
right-append c (j ∷ js) k r g i =
    (r.0, λ e. absurd (g.0 e), right-append (context_after c j.heard.what j.reply) js k r.2 g.1 i)

context-append : (c : Context) (ks : List Kept) (k : Kept) → context_of c (ks ++ k ∷ []) ≡ context_after (context_of c ks) k.heard.what k.reply
context-append c [] k = refl
context-append c (j ∷ js) k = context-append (context_after c j.heard.what j.reply) js k

goes-append : (c : Context) (ks : List Kept) (k : Kept) → GoesOn c.state ks → (IsExit (context_of c ks).state k.heard.what k.reply → ⊥) → GoesOn c.state (ks ++ k ∷ [])
goes-append c [] k g n = (n, tt)
goes-append c (j ∷ js) k g n = (g.0, goes-append (context_after c j.heard.what j.reply) js k g.1 n)

ends-cons : (s : State) (j : Kept) (ks : List Kept) (k : Kept) → EndsByExit (after s j.heard.what j.reply) (ks ++ k ∷ []) → EndsByExit s (j ∷ (ks ++ k ∷ []))
ends-cons s j [] k e = e
ends-cons s j (i ∷ is) k e = e

ends-append : (c : Context) (ks : List Kept) (k : Kept) → IsExit (context_of c ks).state k.heard.what k.reply → EndsByExit c.state (ks ++ k ∷ [])
ends-append c [] k e = e
ends-append c (j ∷ js) k e = ends-cons c.state j js k (ends-append (context_after c j.heard.what j.reply) js k e)

texts-append : (ks : List Kept) (k : Kept) → texts_of (ks ++ k ∷ []) ≡ texts_of ks ++ reply_text k.reply
texts-append [] k = append-nil (reply_text k.reply)
texts-append (j ∷ js) k =
    ap (λ l. reply_text j.reply ++ l) (texts-append js k) ∙ sym (append_assoc (reply_text j.reply) (texts_of js) (reply_text k.reply))

pub transcript_grows : TranscriptGrows
transcript_grows limit ks k r g i =
    let c = beginning limit in
    record {
      right = right-append c ks k r g i;
      context = context-append c ks k;
      texts = texts-append ks k;
      goes_on = λ n. goes-append c ks k g n;
      ends = λ e. ends-append c ks k e;
    }
