-- Writing a text piece by piece.
use Rattle.std.proofs.Math.Seq.{drop-cons, take-append-add}
use Rattle.std.proofs.lemmas.Bool.{false≢true}
use Rattle.std.proofs.lemmas.List.{take-append-le, length-append}
use Rattle.std.specs.Prelude.{IsErr, ⊤}
use Rattle.nz_reply.specs.Writes.{Writes}
use Rattle.std.proofs.Common.{◌≡◌, ℕ, suc, ◌+◌, ◌≤◌, ◌<◌, true, length, get_or, add-one, List, [], ◌++◌, take, drop, flat_map, Option, Result, Ok, Err, sym, ap, ◌∙◌, append_assoc, arith, subst, append-nil}
use Rattle.std.specs.Io.KnownBytes.{Appends}
use Rattle.std.proofs.KnownBytes.{Appends-trans}
use Rattle.nz_spec.specs.outside.Outside.{AddsFrontOf, counted}

-- a front of a text is one of that text and more
front_within : (old new : Option (List ℕ)) (text more : List ℕ) → AddsFrontOf old new text → AddsFrontOf old new (text ++ more)
front_within old new text more f =
    let within : f.0 ≤ length text = f.1 in
    (f.0, omega (arith, within, length-append text more), subst (Appends old new) (sym (take-append-le f.0 text more within)) f.2)

-- a text, and then a front of the next
front_behind : (old mid new : Option (List ℕ)) (text next : List ℕ) → Appends old mid text → AddsFrontOf mid new next → AddsFrontOf old new (text ++ next)
front_behind old mid new text next p f =
    let within : f.0 ≤ length next = f.1 in (
      length text + f.0,
      omega (arith, within, length-append text next),
      subst (Appends old new) (sym (take-append-add text next f.0)) (Appends-trans old mid new text (take f.0 next) p f.2),
    )

module _ {S E : Type 0} {held : S → Option (List ℕ)} {faults : S → ℕ} {last : ℕ} where
  -- what a call wrote, by another name
  pub written_as : {old new : S} {text all : List ℕ} {r : Result ⊤ E} → all ≡ text → Writes held faults last old new text r → Writes held faults last old new all r
  written_as {old} {new} {text} {all} {r} is w = subst (λ (t : List ℕ). Writes held faults last old new t r) (sym is) w

  -- a call that failed wrote a front of what was to come behind its text too
  pub cut_off : {old new : S} {text all : List ℕ} {e : E} {r : Result ⊤ E} (next : List ℕ) → all ≡ text ++ next → Writes held faults last old new text (Err e) → IsErr r
      → Writes held faults last old new all r
  cut_off {r = Ok x} next is w err = absurd (false≢true err)
  cut_off {old} {new} {text} {r = Err x} next is w err =
      written_as is (record { whole = tt; front = front_within (held old) (held new) text next w.front; fault = w.fault })

  -- a text is written, and then what a call wrote
  pub written_behind : {old mid new : S} {text next all : List ℕ} {r : Result ⊤ E} → all ≡ text ++ next → Writes {E = E} held faults last old mid text (Ok tt)
      → Writes held faults last mid new next r → Writes held faults last old new all r
  written_behind {old} {mid} {new} {text} {next} {r = Ok x} is v w =
      written_as is (record { whole = Appends-trans (held old) (held mid) (held new) text next v.whole w.whole; front = tt; fault = w.fault ∙ v.fault })
  written_behind {old} {mid} {new} {text} {next} {r = Err x} is v w =
      written_as is (record { whole = tt; front = front_behind (held old) (held mid) (held new) text next v.whole w.front; fault = w.fault ∙ ap (counted last true) v.fault })

-- A front of the bytes was written without a fault, and this is the rest.
pub record HasWrittenTo {S : Type 0} (held : S → Option (List ℕ)) (faults : S → ℕ) (old new : S) (bytes rest : List ℕ) : Type 0 where
  pub front : List ℕ
  pub all : bytes ≡ front ++ rest
  pub whole : Appends (held old) (held new) front
  pub no_fault : faults new ≡ faults old

module _ {S : Type 0} {held : S → Option (List ℕ)} {faults : S → ℕ} {old : S} {bytes rest : List ℕ} where
  -- what is left, by another name
  pub left_as : {new : S} {later : List ℕ} → rest ≡ later → HasWrittenTo held faults old new bytes rest → HasWrittenTo held faults old new bytes later
  left_as {new} {later} e h = subst (HasWrittenTo held faults old new bytes) e h

  -- what is left is written as a call wrote it
  pub rest_written : {E : Type 0} {last : ℕ} {mid new : S} {r : Result ⊤ E} → HasWrittenTo held faults old mid bytes rest → Writes held faults last mid new rest r
      → Writes held faults last old new bytes r
  rest_written {E} h w = written_behind {E = E} h.all (record { whole = h.whole; front = tt; fault = h.no_fault }) w

  -- where nothing is left, all is written
  pub all_written : {E : Type 0} {last : ℕ} {new : S} → HasWrittenTo held faults old new bytes rest → rest ≡ []
      → Writes {E = E} held faults last old new bytes (Ok tt)
  all_written {E} {last} {new} h e =
      record { whole = subst (Appends (held old) (held new)) (sym (h.all ∙ ap (λ (r : List ℕ). h.front ++ r) e ∙ append-nil h.front)) h.whole; front = tt; fault = h.no_fault }

  -- a text is written behind those before it
  pub written_on : {E : Type 0} {last : ℕ} {mid new : S} {text later : List ℕ} → HasWrittenTo held faults old mid bytes rest → rest ≡ text ++ later
      → Writes {E = E} held faults last mid new text (Ok tt) → HasWrittenTo held faults old new bytes later
  written_on {E} {last} {mid} {new} {text} {later} h e w =
      record {
        front = h.front ++ text;
        all = h.all ∙ ap (λ (r : List ℕ). h.front ++ r) e ∙ sym (append_assoc h.front text later);
        whole = Appends-trans (held old) (held mid) (held new) h.front text h.whole w.whole;
        no_fault = w.fault ∙ h.no_fault;
      }

-- the texts from a place on are the one there and the others
pub texts_next : {T : Type 0} (f : T → List ℕ) (xs : List T) (i : ℕ) (x : T) → i < length xs → x ≡ get_or xs i x → flat_map f (drop i xs) ≡ f x ++ flat_map f (drop (i + 1) xs)
texts_next {T} f xs i x below is = rw (add-one, drop-cons xs i x) (ap (λ (y : T). f y ++ flat_map f (drop (suc i) xs)) (sym is))
