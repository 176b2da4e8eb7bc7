-- A text with each quote twice, run by run.
use Rattle.std.proofs.Common.{◌≡◌, ℕ, ◌+◌, ◌-◌, ◌<◌, ◌≤◌, ◌==◌, Bool, false, List, [], ◌∷◌, ◌++◌, length, get_or, take, drop, if◌then◌else◌, sym, ap, ◌∙◌, append-nil, append_assoc, arith}
use Rattle.std.proofs.lemmas.List.{take_more, get_or-drop, length-drop, take_all, drop_all, drop_more}
use Rattle.nz_script.specs.text.Text.{with_quotes_doubled}

-- the run from its start up to a place
abbrev pub run : List ℕ → ℕ → ℕ → List ℕ
run bytes start end = take (end - start) (drop start bytes)

-- a run with one byte more
pub run_more : (bytes : List ℕ) (start index d : ℕ) → start ≤ index → index < length bytes → run bytes start (index + 1) ≡ run bytes start index ++ get_or bytes index d ∷ []
run_more bytes start index d before below =
    let size : index + 1 - start ≡ (index - start) + 1 = omega arith in
    let within : index - start < length (drop start bytes) = omega (arith, length-drop start bytes) in
    let place : start + (index - start) ≡ index = omega arith in
    ap (λ (n : ℕ). take n (drop start bytes)) size
    ∙ take_more (drop start bytes) (index - start) d within
    ∙ ap (λ (b : ℕ). run bytes start index ++ b ∷ []) (get_or-drop start bytes (index - start) d ∙ ap (λ (i : ℕ). get_or bytes i d) place)

-- what is still to be written where the run has come to a place
abbrev pub rest_of_run : List ℕ → ℕ → ℕ → List ℕ
rest_of_run bytes start index = run bytes start index ++ with_quotes_doubled (drop index bytes)

plain_byte : (b : ℕ) (bs : List ℕ) → (b == 34) ≡ false → with_quotes_doubled (b ∷ bs) ≡ (b ∷ []) ++ with_quotes_doubled bs
plain_byte b bs e = ap (λ (q : Bool). if q then 34 ∷ 34 ∷ with_quotes_doubled bs else b ∷ with_quotes_doubled bs) e

quote_byte : (b : ℕ) (bs : List ℕ) → b ≡ 34 → with_quotes_doubled (b ∷ bs) ≡ (34 ∷ []) ++ (34 ∷ with_quotes_doubled bs)
quote_byte b bs e = ap (λ (x : ℕ). with_quotes_doubled (x ∷ bs)) e

-- the run takes a byte that is no quote
pub run_on : (bytes : List ℕ) (start index d : ℕ) → start ≤ index → index < length bytes → (get_or bytes index d == 34) ≡ false
    → rest_of_run bytes start index ≡ rest_of_run bytes start (index + 1)
run_on bytes start index d before below plain =
    let b : ℕ = get_or bytes index d in
    let more : List ℕ = with_quotes_doubled (drop (index + 1) bytes) in
    ap (λ (l : List ℕ). run bytes start index ++ l) (ap with_quotes_doubled (drop_more bytes index d below) ∙ plain_byte b (drop (index + 1) bytes) plain)
    ∙ sym (append_assoc (run bytes start index) (b ∷ []) more)
    ∙ ap (λ (l : List ℕ). l ++ more) (sym (run_more bytes start index d before below))

-- the run of one byte
run_of_one : (bytes : List ℕ) (index d : ℕ) → index < length bytes → run bytes index (index + 1) ≡ get_or bytes index d ∷ []
run_of_one bytes index d below =
    let none : index - index ≡ 0 = omega arith in
    run_more bytes index index d (omega arith) below ∙ ap (λ (n : ℕ). take n (drop index bytes) ++ get_or bytes index d ∷ []) none

-- a run ends with a quote, which begins the next one
pub run_ends : (bytes : List ℕ) (start index d : ℕ) → start ≤ index → index < length bytes → get_or bytes index d ≡ 34
    → rest_of_run bytes start index ≡ run bytes start (index + 1) ++ rest_of_run bytes index (index + 1)
run_ends bytes start index d before below is =
    let more : List ℕ = with_quotes_doubled (drop (index + 1) bytes) in
    let ended : run bytes start (index + 1) ≡ run bytes start index ++ 34 ∷ [] = run_more bytes start index d before below ∙ ap (λ (b : ℕ). run bytes start index ++ b ∷ []) is in
    let begun : run bytes index (index + 1) ≡ 34 ∷ [] = run_of_one bytes index d below ∙ ap (λ (b : ℕ). b ∷ []) is in
    ap (λ (l : List ℕ). run bytes start index ++ l) (ap with_quotes_doubled (drop_more bytes index d below) ∙ quote_byte (get_or bytes index d) (drop (index + 1) bytes) is)
    ∙ sym (append_assoc (run bytes start index) (34 ∷ []) (34 ∷ more))
    ∙ ap (λ (l : List ℕ). l ++ (34 ∷ more)) (sym ended)
    ∙ ap (λ (l : List ℕ). run bytes start (index + 1) ++ (l ++ more)) (sym begun)

-- at the end the run is all that is left
pub run_last : (bytes : List ℕ) (start index : ℕ) → length bytes ≤ index → rest_of_run bytes start index ≡ run bytes start (length bytes)
run_last bytes start index past =
    ap (λ (l : List ℕ). run bytes start index ++ with_quotes_doubled l) (drop_all index bytes past)
    ∙ append-nil (run bytes start index)
    ∙ take_all (index - start) (drop start bytes) (omega (arith, past, length-drop start bytes))
    ∙ sym (take_all (length bytes - start) (drop start bytes) (omega (arith, length-drop start bytes)))
