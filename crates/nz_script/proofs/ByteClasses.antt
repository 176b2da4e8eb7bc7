-- What the class of a byte tells of it.
use Rattle.std.proofs.Common.{◌≡◌, ℕ, ◌||◌, Bool, true, false, refl, ap, subst, if◌then◌else◌, ◌==◌}
use Rattle.std.proofs.lemmas.Bool.{eqb-true}
use Rattle.std.specs.Bool.{⊤}
use Rattle.nz_script.specs.text.Text.{ByteClass, blank_byte, left_byte, right_byte, comment_byte, quote_byte, bar_byte, word_byte, class_of, is_line_end}

-- the class by the outcomes of the tests
abbrev class_by : Bool → Bool → Bool → Bool → Bool → Bool → ByteClass
class_by p q r s t u = if p then blank_byte else (if q then left_byte else (if r then right_byte else (if s then comment_byte else (if t then quote_byte else (if u then bar_byte else word_byte)))))

-- the one byte of a class that has just one
abbrev pub IsByteOf : ByteClass → ℕ → Type 0
IsByteOf blank_byte b = ⊤
IsByteOf left_byte b = b ≡ 40
IsByteOf right_byte b = b ≡ 41
IsByteOf comment_byte b = b ≡ 59
IsByteOf quote_byte b = b ≡ 34
IsByteOf bar_byte b = b ≡ 124
IsByteOf word_byte b = ⊤

class-says : (b : ℕ) (p q r s t u : Bool) → (b == 40) ≡ q → (b == 41) ≡ r → (b == 59) ≡ s → (b == 34) ≡ t → (b == 124) ≡ u → IsByteOf (class_by p q r s t u) b
class-says b true q r s t u hq hr hs ht hu = tt
class-says b false true r s t u hq hr hs ht hu = eqb-true b 40 hq
class-says b false false true s t u hq hr hs ht hu = eqb-true b 41 hr
class-says b false false false true t u hq hr hs ht hu = eqb-true b 59 hs
class-says b false false false false true u hq hr hs ht hu = eqb-true b 34 ht
class-says b false false false false false true hq hr hs ht hu = eqb-true b 124 hu
class-says b false false false false false false hq hr hs ht hu = tt

pub byte-is : (c : ByteClass) (b : ℕ) → class_of b ≡ c → IsByteOf c b
byte-is c b h =
    let P : ByteClass → Type 0 = λ k. IsByteOf k b in
    subst P h (class-says b ((b == 9) || (b == 10) || (b == 13) || (b == 32)) (b == 40) (b == 41) (b == 59) (b == 34) (b == 124) refl refl refl refl refl)

or-between : (p q r s : Bool) → q || r ≡ true → p || q || r || s ≡ true
or-between true q r s h = refl
or-between false true r s h = refl
or-between false false true s h = refl
or-between false false false s h = cc

-- a line's end is white space
pub line_end-blank : (b : ℕ) → is_line_end b ≡ true → class_of b ≡ blank_byte
line_end-blank b h =
    ap (λ (p : Bool). class_by p (b == 40) (b == 41) (b == 59) (b == 34) (b == 124)) (or-between (b == 9) (b == 10) (b == 13) (b == 32) h)
