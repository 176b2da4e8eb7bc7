-- Facts about the bytes that are read and written.
use Rattle.std.proofs.Common.{subst, ◌≡◌, ℕ, ◌+◌, ◌-◌, List, ◌++◌, length, take, drop, ap, sym, ◌∙◌}
use Rattle.std.proofs.lemmas.List.{take-append-drop, take_at, take_rest, drop-drop}
use Rattle.std.proofs.Math.Seq.{take-add}
use Rattle.std.proofs.KnownBytes.{Appends-trans}
use Rattle.std.specs.Prelude.{Option}
use Rattle.std.specs.Io.KnownBytes.{Appends}

-- what was given stands at the buffer's front, and with what is left behind it makes what was left before
pub given_and_left : (bytes given rest : List ℕ) (at n : ℕ) → length given ≡ n → given ≡ take n (take (length bytes - at) (drop at bytes))
    → take n (given ++ rest) ++ drop (at + n) bytes ≡ drop at bytes
given_and_left bytes given rest at n h e =
    ap (λ (xs : List ℕ). xs ++ drop (at + n) bytes) (take_at given rest n h ∙ e ∙ ap (take n) (take_rest bytes at))
    ∙ (ap (λ (ys : List ℕ). take n (drop at bytes) ++ ys) (sym (drop-drop n at bytes)) ∙ take-append-drop n (drop at bytes))

-- one more piece was added
pub one_more_piece : (a b c : Option (List ℕ)) (bytes : List ℕ) (at n : ℕ) → Appends a b (take at bytes)
    → Appends b c (take n (take (length bytes - at) (drop at bytes))) → Appends a c (take (at + n) bytes)
one_more_piece a b c bytes at n before now =
    let piece = ap (λ (rest : List ℕ). take at bytes ++ take n rest) (take_rest bytes at) ∙ sym (take-add at n bytes) in
    subst (Appends a c) piece (Appends-trans a b c _ _ before now)
