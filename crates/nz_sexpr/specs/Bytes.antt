-- The kinds of bytes that the code tells apart.
use Rattle.std.specs.Prelude.{ℕ, Bool, true, false}
use Rattle.nz_script.specs.text.Text.{ByteClass, blank_byte, left_byte, right_byte, comment_byte, quote_byte, bar_byte, word_byte, class_of}
use Rattle.nz_sexpr.specs.declared.bytes.Kind.{Kind}
use Rattle.nz_sexpr.specs.declared.bytes.Kind.TheVariants as kind

abbrev pub class_view : Kind → ByteClass
class_view kind.Blank = blank_byte
class_view kind.Left = left_byte
class_view kind.Right = right_byte
class_view kind.Comment = comment_byte
class_view kind.Quote = quote_byte
class_view kind.Bar = bar_byte
class_view kind.Word = word_byte

-- a word ends before a byte of any other class
abbrev pub is_no_word : ByteClass → Bool
is_no_word blank_byte = true
is_no_word left_byte = true
is_no_word right_byte = true
is_no_word comment_byte = true
is_no_word quote_byte = true
is_no_word bar_byte = true
is_no_word word_byte = false

abbrev pub ends_word : ℕ → Bool
ends_word b = is_no_word (class_of b)
