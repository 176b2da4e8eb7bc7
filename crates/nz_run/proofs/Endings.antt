-- What the status of a run tells of how it ended.
use Rattle.std.proofs.Common.{◌≡◌, ◌⊎◌, inl, inr, ℕ, ◌==◌, ◌||◌, Bool, true, false, List, Option, refl, sym, ap, ◌∙◌, true≢false, arith, if◌then◌else◌}
use Rattle.std.specs.List.{list_any}
use Rattle.nz_script.specs.run.Transcript.{Kept}
use Rattle.nz_script.specs.run.Run.{IsBrokenOff, IsInterrupted, IsRun, is_error, is_memory_error, status_of}
use Rattle.nz_run.specs.declared.program.End.{End}
use Rattle.nz_run.specs.declared.program.End.TheVariants.{Finished, Cut, ReadFault, WriteFault, Reads}
use Rattle.nz_run.specs.Ending.{EndsAs, ends_by_read, ends_by_write, is_cut, status_by}

-- ---- The status of what was kept is 0, 1 or 5

-- a test of a status that fails for these three
abbrev IsOther : (ℕ → Bool) → Type 0
IsOther test = (test 0 ≡ false) × (test 1 ≡ false) × (test 5 ≡ false)

chosen : (test : ℕ → Bool) → IsOther test → (b c : Bool) → test (if b then 5 else (if c then 1 else 0)) ≡ false
chosen test o true c = o.2
chosen test o false true = o.1
chosen test o false false = o.0

kept_status : (test : ℕ → Bool) → IsOther test → (cut : Bool) (ks : List Kept) → test (status_of cut ks) ≡ false
kept_status test o cut ks = chosen test o (cut || list_any is_memory_error ks) (list_any is_error ks)

-- it is no other number
no_status : (n : ℕ) → IsOther (λ m. m == n) → (n == n) ≡ true → (cut : Bool) (ks : List Kept) → status_of cut ks ≡ n → ⊥
no_status n o same cut ks e = true≢false (sym same ∙ ap (λ m. m == n) (sym e) ∙ kept_status (λ m. m == n) o cut ks)

module _ (limit : ℕ) (input rest before after : Option (List ℕ)) (ks : List Kept) where
  pub answered : (e : End) → EndsAs e limit input rest before after ks → status_by e ks ≡ status_of (is_cut e) ks → IsRun limit (is_cut e) input rest before after ks
  answered Finished h s = h
  answered Cut h s = h
  answered ReadFault h s = absurd (no_status 3 (refl, refl, refl) refl false ks (sym s))
  answered WriteFault h s = absurd (no_status 4 (refl, refl, refl) refl false ks (sym s))
  answered Reads h s = absurd (no_status 6 (refl, refl, refl) refl false ks (sym s))

  pub interrupted : (e : End) → EndsAs e limit input rest before after ks → (status_by e ks ≡ 3) ⊎ (status_by e ks ≡ 6) → IsInterrupted limit input rest before after ks
  interrupted Finished h (inl s) = absurd (no_status 3 (refl, refl, refl) refl false ks s)
  interrupted Finished h (inr s) = absurd (no_status 6 (refl, refl, refl) refl false ks s)
  interrupted Cut h (inl s) = absurd (no_status 3 (refl, refl, refl) refl true ks s)
  interrupted Cut h (inr s) = absurd (no_status 6 (refl, refl, refl) refl true ks s)
  interrupted ReadFault h s = h
  interrupted Reads h s = h
  interrupted WriteFault h (inl s) = absurd (omega (arith, s))
  interrupted WriteFault h (inr s) = absurd (omega (arith, s))

  pub broken_off : (e : End) → EndsAs e limit input rest before after ks → status_by e ks ≡ 4 → IsBrokenOff limit input rest before after ks
  broken_off Finished h s = absurd (no_status 4 (refl, refl, refl) refl false ks s)
  broken_off Cut h s = absurd (no_status 4 (refl, refl, refl) refl true ks s)
  broken_off ReadFault h s = absurd (omega (arith, s))
  broken_off Reads h s = absurd (omega (arith, s))
  broken_off WriteFault h s = h

pub reads_told : (e : End) (ks : List Kept) → status_by e ks ≡ 6 → e ≡ Reads
reads_told Finished ks s = absurd (no_status 6 (refl, refl, refl) refl false ks s)
reads_told Cut ks s = absurd (no_status 6 (refl, refl, refl) refl true ks s)
reads_told ReadFault ks s = absurd (omega (arith, s))
reads_told WriteFault ks s = absurd (omega (arith, s))
reads_told Reads ks s = refl

-- a fault of the input has its status, and no other end has
pub read_status : (e : End) (ks : List Kept) → (status_by e ks == 3) ≡ ends_by_read e
read_status Finished ks = kept_status (λ m. m == 3) (refl, refl, refl) false ks
read_status Cut ks = refl
read_status ReadFault ks = refl
read_status WriteFault ks = refl
read_status Reads ks = refl

pub write_status : (e : End) (ks : List Kept) → (status_by e ks == 4) ≡ ends_by_write e
write_status Finished ks = kept_status (λ m. m == 4) (refl, refl, refl) false ks
write_status Cut ks = refl
write_status ReadFault ks = refl
write_status WriteFault ks = refl
write_status Reads ks = refl
