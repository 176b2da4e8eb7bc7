-- Words by their kind: what the machine of kinds says of a word is the token that the word is.
use Rattle.std.proofs.Common.{◌≡◌, ℕ, ◌==◌, ◌&&◌, not, Bool, true, false, if◌then◌else◌, List, [], ◌∷◌, refl, sym, ◌∙◌, ap, ap₂, subst, Option, Some, None, eqb-true, ne_eqb}
use Rattle.std.specs.Prelude.{option_map}
use Rattle.std.specs.List.{list_all}
use Rattle.std.proofs.lemmas.Bool.{and_right}
use Rattle.nz_script.specs.text.Tree.{Token, symbol, keyword, numeral, decimal, hexadecimal, binary, literal, is_digit, is_symbol_byte, is_hexadecimal_digit, is_simple_symbol, is_numeral, is_decimal, is_keyword, is_hexadecimal, is_binary, are_digits, before_point, after_point, word_token}
use Rattle.nz_script.specs.text.Text.{string, quoted, token_of, is_literal_byte, is_quoted_byte}
use Rattle.nz_script.specs.text.Reading.{after_quote, in_quoted}
use Rattle.nz_sexpr.specs.Words.{kind_of_word, kind_after, kinds_after, token_kind, token_by, is_binary_digit}
use Rattle.nz_sexpr.specs.Part.{part_of, kind_where, kind_of_part}
use Rattle.nz_sexpr.specs.declared.words.WordKind.{WordKind}
use Rattle.nz_sexpr.specs.declared.words.WordKind.TheVariants as kind
use Rattle.nz_sexpr.specs.declared.words.TokenKind.{TokenKind}
use Rattle.nz_sexpr.specs.declared.words.TokenKind.TheVariants as token

-- the token of a kind, if there is one
abbrev pub of_kind : List ℕ → Option TokenKind → Option Token
of_kind w o = option_map (λ k. token_by k w) o

-- ---- The machine over a run of bytes

bad_stays : (bs : List ℕ) → kinds_after kind.Bad bs ≡ kind.Bad
bad_stays [] = refl
bad_stays (b ∷ bs) = bad_stays bs

abbrev Loops : WordKind → (ℕ → Bool) → WordKind → Type 0
Loops p test k = (b : ℕ) → kind_after p b ≡ (if test b then k else kind.Bad)

loop : (k : WordKind) (test : ℕ → Bool) → Loops k test k → (bs : List ℕ) → kinds_after k bs ≡ (if list_all test bs then k else kind.Bad)
loop k test h [] = refl
loop k test h (b ∷ bs) =
    ap (λ x. kinds_after x bs) (h b)
    ∙ elim (test b) as (λ t. kinds_after (if t then k else kind.Bad) bs ≡ (if t && list_all test bs then k else kind.Bad)) [ true ↦ loop k test h bs | false ↦ bad_stays bs ]

loop_token : (k : WordKind) (t : TokenKind) (test : ℕ → Bool) → Loops k test k → token_kind k ≡ Some t → (bs : List ℕ) → token_kind (kinds_after k bs) ≡ kind_where (list_all test bs) t
loop_token k t test h e bs =
    ap token_kind (loop k test h bs)
    ∙ elim (list_all test bs) as (λ a. token_kind (if a then k else kind.Bad) ≡ kind_where a t) [ true ↦ e | false ↦ refl ]

-- one byte or more
abbrev some_all : (ℕ → Bool) → List ℕ → Bool
some_all test [] = false
some_all test (b ∷ bs) = list_all test (b ∷ bs)

-- a kind that is no token, which one byte more makes one
first_token : (p k : WordKind) (t : TokenKind) (test : ℕ → Bool) → Loops p test k → Loops k test k → token_kind p ≡ None → token_kind k ≡ Some t → (bs : List ℕ) → token_kind (kinds_after p bs) ≡ kind_where (some_all test bs) t
first_token p k t test g h n e [] = n
first_token p k t test g h n e (b ∷ bs) =
    ap (λ x. token_kind (kinds_after x bs)) (g b)
    ∙ elim (test b) as (λ a. token_kind (kinds_after (if a then k else kind.Bad) bs) ≡ kind_where (a && list_all test bs) t) [ true ↦ loop_token k t test h e bs | false ↦ ap token_kind (bad_stays bs) ]

digits_some : (bs : List ℕ) → are_digits bs ≡ some_all is_digit bs
digits_some [] = refl
digits_some (b ∷ bs) = refl

point_token : (bs : List ℕ) → token_kind (kinds_after kind.Point bs) ≡ kind_where (are_digits bs) token.Decimal
point_token bs =
    first_token kind.Point kind.Decimal token.Decimal is_digit (λ b. refl) (λ b. refl) refl refl bs
    ∙ ap (λ t. kind_where t token.Decimal) (sym (digits_some bs))

-- what digits are, by whether only digits follow, and whether a fraction does
abbrev digits_then : Bool → Bool → Option TokenKind
digits_then true f = Some token.Numeral
digits_then false f = kind_where f token.Decimal

-- a fraction follows
abbrev is_fraction : List ℕ → Bool
is_fraction bs = list_all is_digit (before_point bs) && are_digits (after_point bs)

point_is : (b : ℕ) → (b == 46) ≡ true → is_digit b ≡ false
point_is b h = ap is_digit (eqb-true b 46 h)

digits_step : (b : ℕ) (bs : List ℕ) (t : Bool) → (b == 46) ≡ t → token_kind (kinds_after kind.Digits bs) ≡ digits_then (list_all is_digit bs) (is_fraction bs) → token_kind (kinds_after (kind_after kind.Digits b) bs) ≡ digits_then (list_all is_digit (b ∷ bs)) (is_fraction (b ∷ bs))
digits_step b bs true e i =
    ap (λ t. token_kind (kinds_after (if t then kind.Point else (if is_digit b then kind.Digits else kind.Bad)) bs)) e
    ∙ point_token bs
    ∙ sym (ap₂ (λ (d t : Bool). digits_then (d && list_all is_digit bs) (list_all is_digit (if t then [] else b ∷ before_point bs) && are_digits (if t then bs else after_point bs))) (point_is b e) e)
digits_step b bs false e i =
    ap (λ t. token_kind (kinds_after (if t then kind.Point else (if is_digit b then kind.Digits else kind.Bad)) bs)) e
    ∙ elim (is_digit b) as (λ d. token_kind (kinds_after (if d then kind.Digits else kind.Bad) bs) ≡ digits_then (d && list_all is_digit bs) ((d && list_all is_digit (before_point bs)) && are_digits (after_point bs))) [ true ↦ i | false ↦ ap token_kind (bad_stays bs) ]
    ∙ sym (ap (λ (t : Bool). digits_then (is_digit b && list_all is_digit bs) (list_all is_digit (if t then [] else b ∷ before_point bs) && are_digits (if t then bs else after_point bs))) e)

digits_token : (bs : List ℕ) → token_kind (kinds_after kind.Digits bs) ≡ digits_then (list_all is_digit bs) (is_fraction bs)
digits_token [] = refl
digits_token (b ∷ bs) = digits_step b bs (b == 46) refl (digits_token bs)

zero_step : (b : ℕ) (bs : List ℕ) (t : Bool) → (b == 46) ≡ t → token_kind (kinds_after (kind_after kind.Zero b) bs) ≡ kind_where (t && are_digits bs) token.Decimal
zero_step b bs true e = ap (λ t. token_kind (kinds_after (if t then kind.Point else kind.Bad) bs)) e ∙ point_token bs
zero_step b bs false e = ap (λ t. token_kind (kinds_after (if t then kind.Point else kind.Bad) bs)) e ∙ ap token_kind (bad_stays bs)

-- ---- The tests of words by their first byte

-- a byte that passes a test is none that doesn't
not_here : (test : ℕ → Bool) (c n : ℕ) → test c ≡ true → test n ≡ false → (c == n) ≡ false
not_here test c n h k = ne_eqb c n (λ e. let f : true ≡ false = sym h ∙ ap test e ∙ k in cc)

no_numeral : (c : ℕ) (bs : List ℕ) → is_digit c ≡ false → is_numeral (c ∷ bs) ≡ false
no_numeral c [] d = d
no_numeral c (b ∷ bs) d = and_right (not (c == 48)) (is_digit c && list_all is_digit (b ∷ bs)) (ap (λ t. t && list_all is_digit (b ∷ bs)) d)

no_decimal : (c : ℕ) (bs : List ℕ) → is_digit c ≡ false → is_decimal (c ∷ bs) ≡ false
no_decimal c bs d =
    elim (c == 46) as (λ t. is_numeral (if t then [] else c ∷ before_point bs) && are_digits (if t then bs else after_point bs) ≡ false) [
      | true ↦ refl
      | false ↦ ap (λ t. t && are_digits (after_point bs)) (no_numeral c (before_point bs) d)
    ]

no_keyword : (c : ℕ) (bs : List ℕ) → (c == 58) ≡ false → is_keyword (c ∷ bs) ≡ false
no_keyword c [] h = refl
no_keyword c (b ∷ bs) h = ap (λ t. t && list_all is_symbol_byte (b ∷ bs)) h

no_hexadecimal : (c : ℕ) (bs : List ℕ) → (c == 35) ≡ false → is_hexadecimal (c ∷ bs) ≡ false
no_hexadecimal c [] h = refl
no_hexadecimal c (b ∷ []) h = refl
no_hexadecimal c (b ∷ d ∷ bs) h = ap (λ t. t && (b == 120) && list_all is_hexadecimal_digit (d ∷ bs)) h

no_binary : (c : ℕ) (bs : List ℕ) → (c == 35) ≡ false → is_binary (c ∷ bs) ≡ false
no_binary c [] h = refl
no_binary c (b ∷ []) h = refl
no_binary c (b ∷ d ∷ bs) h = ap (λ t. t && (b == 98) && list_all is_binary_digit (d ∷ bs)) h

-- the token by the tests
abbrev picked : List ℕ → Bool → Bool → Bool → Bool → Bool → Bool → Option Token
picked w s n d k h b =
    if s then Some (symbol w)
    else (if n then Some (numeral w)
    else (if d then Some (decimal w)
    else (if k then Some (keyword w)
    else (if h then Some (hexadecimal w)
    else (if b then Some (binary w)
    else None)))))

picks : (w : List ℕ) (s n d k h b : Bool) → is_simple_symbol w ≡ s → is_numeral w ≡ n → is_decimal w ≡ d → is_keyword w ≡ k → is_hexadecimal w ≡ h → is_binary w ≡ b → word_token w ≡ picked w s n d k h b
picks w s n d k h b es en ed ek eh eb =
    ap (λ t. picked w t (is_numeral w) (is_decimal w) (is_keyword w) (is_hexadecimal w) (is_binary w)) es
    ∙ ap (λ t. picked w s t (is_decimal w) (is_keyword w) (is_hexadecimal w) (is_binary w)) en
    ∙ ap (λ t. picked w s n t (is_keyword w) (is_hexadecimal w) (is_binary w)) ed
    ∙ ap (λ t. picked w s n d t (is_hexadecimal w) (is_binary w)) ek
    ∙ ap (λ t. picked w s n d k t (is_binary w)) eh
    ∙ ap (λ t. picked w s n d k h t) eb

-- the first kind by the tests of the first byte
abbrev first_by : Bool → Bool → Bool → Bool → Bool → WordKind
first_by d z s k h =
    if d then (if z then kind.Zero else kind.Digits)
    else (if s then kind.Symbol
    else (if k then kind.Colon
    else (if h then kind.Hash
    else kind.Bad)))

firsts : (c : ℕ) (d z s k h : Bool) → is_digit c ≡ d → (c == 48) ≡ z → is_symbol_byte c ≡ s → (c == 58) ≡ k → (c == 35) ≡ h → kind_after kind.Empty c ≡ first_by d z s k h
firsts c d z s k h ed ez es ek eh =
    ap (λ t. first_by t (c == 48) (is_symbol_byte c) (c == 58) (c == 35)) ed
    ∙ ap (λ t. first_by d t (is_symbol_byte c) (c == 58) (c == 35)) ez
    ∙ ap (λ t. first_by d z t (c == 58) (c == 35)) es
    ∙ ap (λ t. first_by d z s t (c == 35)) ek
    ∙ ap (λ t. first_by d z s k t) eh

-- ---- Words by their first byte

abbrev IsTokenOfKind : ℕ → List ℕ → Type 0
IsTokenOfKind c bs = word_token (c ∷ bs) ≡ of_kind (c ∷ bs) (token_kind (kinds_after (kind_after kind.Empty c) bs))

symbol_picked : (w : List ℕ) (s : Bool) → picked w s false false false false false ≡ of_kind w (kind_where s token.Symbol)
symbol_picked w true = refl
symbol_picked w false = refl

symbol_told : (c : ℕ) (bs : List ℕ) → is_digit c ≡ false → is_symbol_byte c ≡ true → IsTokenOfKind c bs
symbol_told c bs d s =
    let w : List ℕ = c ∷ bs in
    let colon : (c == 58) ≡ false = not_here is_symbol_byte c 58 s refl in
    let hash : (c == 35) ≡ false = not_here is_symbol_byte c 35 s refl in
    let simple : is_simple_symbol w ≡ list_all is_symbol_byte bs = ap₂ (λ (d t : Bool). not d && (t && list_all is_symbol_byte bs)) d s in
    let first : kind_after kind.Empty c ≡ kind.Symbol = firsts c false (c == 48) true false false d refl s colon hash in
    picks w (list_all is_symbol_byte bs) false false false false false simple (no_numeral c bs d) (no_decimal c bs d) (no_keyword c bs colon) (no_hexadecimal c bs hash) (no_binary c bs hash)
    ∙ symbol_picked w (list_all is_symbol_byte bs)
    ∙ sym (ap (of_kind w) (ap (λ k. token_kind (kinds_after k bs)) first ∙ loop_token kind.Symbol token.Symbol is_symbol_byte (λ b. refl) refl bs))

bad_told : (c : ℕ) (bs : List ℕ) → is_digit c ≡ false → is_symbol_byte c ≡ false → (c == 58) ≡ false → (c == 35) ≡ false → IsTokenOfKind c bs
bad_told c bs d s colon hash =
    let w : List ℕ = c ∷ bs in
    let simple : is_simple_symbol w ≡ false = ap₂ (λ (d t : Bool). not d && (t && list_all is_symbol_byte bs)) d s in
    let first : kind_after kind.Empty c ≡ kind.Bad = firsts c false (c == 48) false false false d refl s colon hash in
    picks w false false false false false false simple (no_numeral c bs d) (no_decimal c bs d) (no_keyword c bs colon) (no_hexadecimal c bs hash) (no_binary c bs hash)
    ∙ sym (ap (of_kind w) (ap (λ k. token_kind (kinds_after k bs)) first ∙ ap token_kind (bad_stays bs)))

keyword_is : (bs : List ℕ) → is_keyword (58 ∷ bs) ≡ some_all is_symbol_byte bs
keyword_is [] = refl
keyword_is (b ∷ bs) = refl

keyword_picked : (w : List ℕ) (k : Bool) → picked w false false false k false false ≡ of_kind w (kind_where k token.Keyword)
keyword_picked w true = refl
keyword_picked w false = refl

colon_told : (bs : List ℕ) → IsTokenOfKind 58 bs
colon_told bs =
    let w : List ℕ = 58 ∷ bs in
    picks w false false false (some_all is_symbol_byte bs) false false refl (no_numeral 58 bs refl) (no_decimal 58 bs refl) (keyword_is bs) (no_hexadecimal 58 bs refl) (no_binary 58 bs refl)
    ∙ keyword_picked w (some_all is_symbol_byte bs)
    ∙ sym (ap (of_kind w) (first_token kind.Colon kind.Keyword token.Keyword is_symbol_byte (λ b. refl) (λ b. refl) refl refl bs))

hexadecimal_is : (b : ℕ) (bs : List ℕ) → is_hexadecimal (35 ∷ b ∷ bs) ≡ (b == 120) && some_all is_hexadecimal_digit bs
hexadecimal_is b [] = sym (and_right (b == 120) false refl)
hexadecimal_is b (d ∷ bs) = refl

binary_is : (b : ℕ) (bs : List ℕ) → is_binary (35 ∷ b ∷ bs) ≡ (b == 98) && some_all is_binary_digit bs
binary_is b [] = sym (and_right (b == 98) false refl)
binary_is b (d ∷ bs) = refl

hexadecimal_picked : (w : List ℕ) (k : Bool) → picked w false false false false k false ≡ of_kind w (kind_where k token.Hexadecimal)
hexadecimal_picked w true = refl
hexadecimal_picked w false = refl

binary_picked : (w : List ℕ) (k : Bool) → picked w false false false false false k ≡ of_kind w (kind_where k token.Binary)
binary_picked w true = refl
binary_picked w false = refl

hash_then : (b : ℕ) (bs : List ℕ) (x y : Bool) → (b == 120) ≡ x → (b == 98) ≡ y → IsTokenOfKind 35 (b ∷ bs)
hash_then b bs true y ex ey =
    let w : List ℕ = 35 ∷ b ∷ bs in
    let other : (b == 98) ≡ false = ap (λ k. k == 98) (eqb-true b 120 ex) in
    picks w false false false false (some_all is_hexadecimal_digit bs) false refl (no_numeral 35 (b ∷ bs) refl) (no_decimal 35 (b ∷ bs) refl) (no_keyword 35 (b ∷ bs) refl) (hexadecimal_is b bs ∙ ap (λ t. t && some_all is_hexadecimal_digit bs) ex) (binary_is b bs ∙ ap (λ t. t && some_all is_binary_digit bs) other)
    ∙ hexadecimal_picked w (some_all is_hexadecimal_digit bs)
    ∙ sym (ap (of_kind w) (ap (λ t. token_kind (kinds_after (if t then kind.HexadecimalPrefix else (if b == 98 then kind.BinaryPrefix else kind.Bad)) bs)) ex ∙ first_token kind.HexadecimalPrefix kind.Hexadecimal token.Hexadecimal is_hexadecimal_digit (λ b. refl) (λ b. refl) refl refl bs))
hash_then b bs false true ex ey =
    let w : List ℕ = 35 ∷ b ∷ bs in
    picks w false false false false false (some_all is_binary_digit bs) refl (no_numeral 35 (b ∷ bs) refl) (no_decimal 35 (b ∷ bs) refl) (no_keyword 35 (b ∷ bs) refl) (hexadecimal_is b bs ∙ ap (λ t. t && some_all is_hexadecimal_digit bs) ex) (binary_is b bs ∙ ap (λ t. t && some_all is_binary_digit bs) ey)
    ∙ binary_picked w (some_all is_binary_digit bs)
    ∙ sym (ap (of_kind w) (ap₂ (λ (s t : Bool). token_kind (kinds_after (if s then kind.HexadecimalPrefix else (if t then kind.BinaryPrefix else kind.Bad)) bs)) ex ey ∙ first_token kind.BinaryPrefix kind.Binary token.Binary is_binary_digit (λ b. refl) (λ b. refl) refl refl bs))
hash_then b bs false false ex ey =
    let w : List ℕ = 35 ∷ b ∷ bs in
    picks w false false false false false false refl (no_numeral 35 (b ∷ bs) refl) (no_decimal 35 (b ∷ bs) refl) (no_keyword 35 (b ∷ bs) refl) (hexadecimal_is b bs ∙ ap (λ t. t && some_all is_hexadecimal_digit bs) ex) (binary_is b bs ∙ ap (λ t. t && some_all is_binary_digit bs) ey)
    ∙ sym (ap (of_kind w) (ap₂ (λ (s t : Bool). token_kind (kinds_after (if s then kind.HexadecimalPrefix else (if t then kind.BinaryPrefix else kind.Bad)) bs)) ex ey ∙ ap token_kind (bad_stays bs)))

hash_told : (bs : List ℕ) → IsTokenOfKind 35 bs
hash_told [] = refl
hash_told (b ∷ bs) = hash_then b bs (b == 120) (b == 98) refl refl

number_picked : (w : List ℕ) (n d : Bool) → picked w false n d false false false ≡ of_kind w (digits_then n d)
number_picked w true d = refl
number_picked w false true = refl
number_picked w false false = refl

numeral_tail : (c : ℕ) (bs : List ℕ) → is_digit c ≡ true → (c == 48) ≡ false → is_numeral (c ∷ bs) ≡ list_all is_digit bs
numeral_tail c [] d z = d
numeral_tail c (b ∷ bs) d z = ap₂ (λ (z d : Bool). not z && (d && list_all is_digit (b ∷ bs))) z d

digits_told : (c : ℕ) (bs : List ℕ) → is_digit c ≡ true → (c == 48) ≡ false → IsTokenOfKind c bs
digits_told c bs d z =
    let w : List ℕ = c ∷ bs in
    let point : (c == 46) ≡ false = not_here is_digit c 46 d refl in
    let colon : (c == 58) ≡ false = not_here is_digit c 58 d refl in
    let hash : (c == 35) ≡ false = not_here is_digit c 35 d refl in
    let simple : is_simple_symbol w ≡ false = ap (λ t. not t && list_all is_symbol_byte w) d in
    let fraction : is_decimal w ≡ is_fraction bs =
    ap (λ t. is_numeral (if t then [] else c ∷ before_point bs) && are_digits (if t then bs else after_point bs)) point
    ∙ ap (λ t. t && are_digits (after_point bs)) (numeral_tail c (before_point bs) d z) in
    let first : kind_after kind.Empty c ≡ kind.Digits = firsts c true false (is_symbol_byte c) false false d z refl colon hash in
    picks w false (list_all is_digit bs) (is_fraction bs) false false false simple (numeral_tail c bs d z) fraction (no_keyword c bs colon) (no_hexadecimal c bs hash) (no_binary c bs hash)
    ∙ number_picked w (list_all is_digit bs) (is_fraction bs)
    ∙ sym (ap (of_kind w) (ap (λ k. token_kind (kinds_after k bs)) first ∙ digits_token bs))

zero_then : (b : ℕ) (bs : List ℕ) (t : Bool) → (b == 46) ≡ t → is_decimal (48 ∷ b ∷ bs) ≡ t && are_digits bs
zero_then b bs true e = ap (λ (t : Bool). is_numeral (48 ∷ (if t then [] else b ∷ before_point bs)) && are_digits (if t then bs else after_point bs)) e
zero_then b bs false e = ap (λ (t : Bool). is_numeral (48 ∷ (if t then [] else b ∷ before_point bs)) && are_digits (if t then bs else after_point bs)) e

zero_told : (bs : List ℕ) → IsTokenOfKind 48 bs
zero_told [] = refl
zero_told (b ∷ bs) =
    let w : List ℕ = 48 ∷ b ∷ bs in
    picks w false false ((b == 46) && are_digits bs) false false false refl refl (zero_then b bs (b == 46) refl) (no_keyword 48 (b ∷ bs) refl) (no_hexadecimal 48 (b ∷ bs) refl) (no_binary 48 (b ∷ bs) refl)
    ∙ number_picked w false ((b == 46) && are_digits bs)
    ∙ sym (ap (of_kind w) (zero_step b bs (b == 46) refl))

digit_told : (c : ℕ) (bs : List ℕ) (z : Bool) → is_digit c ≡ true → (c == 48) ≡ z → IsTokenOfKind c bs
digit_told c bs true d e = subst (λ k. IsTokenOfKind k bs) (sym (eqb-true c 48 e)) (zero_told bs)
digit_told c bs false d e = digits_told c bs d e

other_told : (c : ℕ) (bs : List ℕ) (k h : Bool) → is_digit c ≡ false → is_symbol_byte c ≡ false → (c == 58) ≡ k → (c == 35) ≡ h → IsTokenOfKind c bs
other_told c bs true h d s ek eh = subst (λ k. IsTokenOfKind k bs) (sym (eqb-true c 58 ek)) (colon_told bs)
other_told c bs false true d s ek eh = subst (λ k. IsTokenOfKind k bs) (sym (eqb-true c 35 eh)) (hash_told bs)
other_told c bs false false d s ek eh = bad_told c bs d s ek eh

first_told : (c : ℕ) (bs : List ℕ) (d s : Bool) → is_digit c ≡ d → is_symbol_byte c ≡ s → IsTokenOfKind c bs
first_told c bs true s ed es = digit_told c bs (c == 48) ed refl
first_told c bs false true ed es = symbol_told c bs ed es
first_told c bs false false ed es = other_told c bs (c == 58) (c == 35) ed es refl refl

pub word_told : (w : List ℕ) → word_token w ≡ of_kind w (token_kind (kind_of_word w))
word_told [] = refl
word_told (c ∷ bs) = first_told c bs (is_digit c) (is_symbol_byte c) refl refl

-- ---- Parts that end

string_told : (w : List ℕ) (t : Bool) → (if t then Some (literal w) else None) ≡ of_kind w (kind_where t token.Literal)
string_told w true = refl
string_told w false = refl

quoted_told : (w : List ℕ) (t : Bool) → (if t then Some (symbol w) else None) ≡ of_kind w (kind_where t token.Symbol)
quoted_told w true = refl
quoted_told w false = refl

pub string_ends : (w : List ℕ) → token_of (string w) ≡ of_kind w (kind_of_part (part_of (after_quote w)))
string_ends w = string_told w (list_all is_literal_byte w)

pub quoted_ends : (w : List ℕ) → token_of (quoted w) ≡ of_kind w (kind_of_part (part_of (in_quoted w)))
quoted_ends w = quoted_told w (list_all is_quoted_byte w)

-- ---- Simple symbols

only_simple : (w : List ℕ) (n d k h b : Bool) → picked w false n d k h b ≡ Some (symbol w) → ⊥
only_simple w true d k h b e = cc
only_simple w false true k h b e = cc
only_simple w false false true h b e = cc
only_simple w false false false true b e = cc
only_simple w false false false false true e = cc
only_simple w false false false false false e = cc

simple_by : (w : List ℕ) (s : Bool) → is_simple_symbol w ≡ s → picked w s (is_numeral w) (is_decimal w) (is_keyword w) (is_hexadecimal w) (is_binary w) ≡ Some (symbol w) → s ≡ true
simple_by w true e h = refl
simple_by w false e h = absurd (only_simple w (is_numeral w) (is_decimal w) (is_keyword w) (is_hexadecimal w) (is_binary w) h)

-- a word whose kind is that of symbols is a simple symbol
pub symbol_simple : (w : List ℕ) → kind_of_word w ≡ kind.Symbol → is_simple_symbol w ≡ true
symbol_simple w h = simple_by w (is_simple_symbol w) refl (word_told w ∙ ap (λ k. of_kind w (token_kind k)) h)

kind_by : (w : List ℕ) (k : WordKind) → of_kind w (token_kind k) ≡ Some (symbol w) → k ≡ kind.Symbol
kind_by w kind.Empty e = cc
kind_by w kind.Symbol e = refl
kind_by w kind.Zero e = cc
kind_by w kind.Digits e = cc
kind_by w kind.Point e = cc
kind_by w kind.Decimal e = cc
kind_by w kind.Colon e = cc
kind_by w kind.Keyword e = cc
kind_by w kind.Hash e = cc
kind_by w kind.HexadecimalPrefix e = cc
kind_by w kind.Hexadecimal e = cc
kind_by w kind.BinaryPrefix e = cc
kind_by w kind.Binary e = cc
kind_by w kind.Bad e = cc

-- and the other way round
pub simple_kind : (w : List ℕ) → is_simple_symbol w ≡ true → kind_of_word w ≡ kind.Symbol
simple_kind w h =
    kind_by w (kind_of_word w) (sym (word_told w) ∙ ap (λ t. picked w t (is_numeral w) (is_decimal w) (is_keyword w) (is_hexadecimal w) (is_binary w)) h)

pub no_simple_symbol : (w : List ℕ) → (kind_of_word w ≡ kind.Symbol → ⊥) → is_simple_symbol w ≡ false
no_simple_symbol w h = elim (is_simple_symbol w) as (λ s. is_simple_symbol w ≡ s → s ≡ false) [ true ↦ λ e. absurd (h (simple_kind w e)) | false ↦ λ e. refl ] refl
