-- The parts that the code tells apart, against those of the reading.
use Rattle.std.specs.Prelude.{ℕ, ◌==◌, ◌&&◌, Bool, true, false, List, [], ◌++◌, Option, Some, None, if◌then◌else◌}
use Rattle.std.specs.List.{list_all}
use Rattle.nz_script.specs.text.Text.{is_line_end, is_quote, is_bar, is_literal_byte, is_quoted_byte, Filler, word, string, quoted}
use Rattle.nz_script.specs.text.Reading as reading
use Rattle.nz_sexpr.specs.Bytes.{ends_word}
use Rattle.nz_sexpr.specs.Words.{kind_of_word, kinds_after, token_kind}
use Rattle.nz_sexpr.specs.declared.part.Part.{Part}
use Rattle.nz_sexpr.specs.declared.part.Part.TheVariants as part
use Rattle.nz_sexpr.specs.declared.words.TokenKind.{TokenKind}
use Rattle.nz_sexpr.specs.declared.words.TokenKind.TheVariants as token

abbrev pub part_of : reading.Part → Part
part_of reading.no_part = part.Absent
part_of reading.in_comment = part.Comment
part_of (reading.in_word w) = part.Word (kind_of_word w)
part_of (reading.in_string w) = part.String (list_all is_literal_byte w)
part_of (reading.after_quote w) = part.AfterQuote (list_all is_literal_byte w)
part_of (reading.in_quoted w) = part.Quoted (list_all is_quoted_byte w)

-- the text so far of what is being read
abbrev pub text_of_part : reading.Part → List ℕ
text_of_part reading.no_part = []
text_of_part reading.in_comment = []
text_of_part (reading.in_word w) = w
text_of_part (reading.in_string w) = w
text_of_part (reading.after_quote w) = w
text_of_part (reading.in_quoted w) = w

-- what the part is, where it may end here
abbrev pub filler_of : reading.Part → Option Filler
filler_of reading.no_part = None
filler_of reading.in_comment = None
filler_of (reading.in_word w) = Some (word w)
filler_of (reading.in_string w) = None
filler_of (reading.after_quote w) = Some (string w)
filler_of (reading.in_quoted w) = Some (quoted w)

-- a run of the part's bytes ends before such a byte
abbrev pub ends : Part → ℕ → Bool
ends part.Absent = ends_word
ends part.Comment = is_line_end
ends (part.Word k) = ends_word
ends (part.String c) = is_quote
ends (part.AfterQuote c) = λ _. true
ends (part.Quoted c) = is_bar

-- the part after a run of its bytes
abbrev pub part_after : Part → List ℕ → Part
part_after part.Absent run = part.Word (kind_of_word run)
part_after part.Comment run = part.Comment
part_after (part.Word k) run = part.Word (kinds_after k run)
part_after (part.String c) run = part.String (c && list_all is_literal_byte run)
part_after (part.AfterQuote c) run = part.AfterQuote c
part_after (part.Quoted c) run = part.Quoted (c && list_all is_quoted_byte run)

-- the bytes of its runs are a token's
abbrev pub keeps_text : Part → Bool
keeps_text part.Absent = true
keeps_text part.Comment = false
keeps_text (part.Word k) = true
keeps_text (part.String c) = true
keeps_text (part.AfterQuote c) = true
keeps_text (part.Quoted c) = true

-- no token is being read
abbrev pub holds_no_token : Part → Bool
holds_no_token part.Absent = true
holds_no_token part.Comment = true
holds_no_token (part.Word k) = false
holds_no_token (part.String c) = false
holds_no_token (part.AfterQuote c) = false
holds_no_token (part.Quoted c) = false

-- the text after a run of the part's bytes
abbrev pub text_after : Part → List ℕ → List ℕ → List ℕ
text_after part.Absent text run = text ++ run
text_after part.Comment text run = text
text_after (part.Word k) text run = text ++ run
text_after (part.String c) text run = text ++ run
text_after (part.AfterQuote c) text run = text ++ run
text_after (part.Quoted c) text run = text ++ run

-- a kind where its test holds
abbrev pub kind_where : Bool → TokenKind → Option TokenKind
kind_where true k = Some k
kind_where false k = None

-- what token the part is, if it ends here
abbrev pub kind_of_part : Part → Option TokenKind
kind_of_part part.Absent = None
kind_of_part part.Comment = None
kind_of_part (part.Word k) = token_kind k
kind_of_part (part.String c) = None
kind_of_part (part.AfterQuote c) = kind_where c token.Literal
kind_of_part (part.Quoted c) = kind_where c token.Symbol

-- where the thing begins that is open when a byte is read here
abbrev pub begins_here : Part → ℕ → ℕ → ℕ → ℕ
begins_here part.Absent depth at from = if depth == 0 then at else from
begins_here part.Comment depth at from = from
begins_here (part.Word k) depth at from = from
begins_here (part.String c) depth at from = from
begins_here (part.AfterQuote c) depth at from = from
begins_here (part.Quoted c) depth at from = from
