-- Replies and their texts (SMT-LIB 2.6, section 4.2; the texts of errors are this program's own).
use Rattle.std.specs.Prelude.{ℕ, ◌==◌, true, false, List, [], ◌∷◌, ◌++◌, map, flat_map, ℤ, pos, negsuc, unsigned_abs, Some, None, codes, decimal, if◌then◌else◌}
use Rattle.nz_fractions.specs.Fraction.{Fraction, denominator, Arithmetic, Sum, Difference, Product, Quotient, Operation, first_wide}
use Rattle.nz_script.specs.text.Tree.{is_simple_symbol, Token, symbol, keyword, numeral, hexadecimal, binary, literal, decimal as decimal_token, Tree, leaf, node, Trees, no_trees, trees}
use Rattle.nz_script.specs.text.Text.{string, spelling_of}
use Rattle.nz_spec.specs.terms.Term.{Sort, bool_sort, int_sort, real_sort, Term, sort_of, Value, truth, number, Assignment, value_of}
use Rattle.nz_spec.specs.terms.Normal.{normal_of}
use Rattle.nz_spec.specs.terms.Operations.{operations_of}
use Rattle.nz_spec.specs.terms.Model.{Binding}
use Rattle.nz_script.specs.live.Live.{Reason, units_spent, number_left}
use Rattle.nz_script.specs.commands.Command.{Info, name_info, version_info, authors_info, error_behavior_info}
use Rattle.nz_spec.specs.outside.Error.{Error, error_line}
use Rattle.nz_spec.specs.search.Work.{WorkList}
use Rattle.nz_spec.specs.search.Notes.{Note, Place}

-- what is told of the value of a term: the value, or the first operation that left the numbers
pub data Shown : Type 0 where
  shown_value : Sort → Value → Shown
  shown_wide : Operation → Shown

-- the value of a term, or the first operation of its normal term, in post-order, that leaves the numbers
abbrev pub term_shown : Assignment → Term → Shown
term_shown a t = elim (first_wide (operations_of a (normal_of t))) [ Some w ↦ shown_wide w | None ↦ shown_value (sort_of t) (value_of a t) ]

pub data Reply : Type 0 where
  quiet : Reply  -- nothing is written
  success : Reply
  sat : List Binding → Reply  -- with the model that was found
  unsat : Reply
  unknown : Reason → Reply  -- and why
  model : List Binding → Reply
  values : List (Tree × Shown) → Reply
  info : Info → Reply
  levels : ℕ → Reply
  reason : Reason → Reply
  echoed : List ℕ → Reply
  unsupported : Reply
  error : Error → Reply

-- Why a reply is what it is, where the reply alone doesn't tell: the work of a check that ended for want of units, or where an operation left the
-- numbers.
pub data Cause : Type 0 where
  plain : Cause
  spent : WorkList Note → Cause
  stopped : Place → WorkList Note → Cause

-- ---- Texts

abbrev pub line_feed : List ℕ
line_feed = 10 ∷ []

-- A symbol as it is spelled: bare where it is a simple symbol, else between bars.
abbrev pub symbol_text : List ℕ → List ℕ
symbol_text name = if is_simple_symbol name then name else 124 ∷ name ++ 124 ∷ []

abbrev pub sort_text : Sort → List ℕ
sort_text bool_sort = codes "Bool"
sort_text int_sort = codes "Int"
sort_text real_sort = codes "Real"

-- a text, or its negation
abbrev pub signed_text : ℤ → List ℕ → List ℕ
signed_text (pos n) text = text
signed_text (negsuc n) text = codes "(- " ++ text ++ codes ")"

-- a fraction by its numerator and denominator, and by the numerator alone where the denominator is 1
abbrev pub quotient_text : List ℕ → ℕ → ℕ → List ℕ
quotient_text point n d =
    if d == 1 then decimal n ++ point
    else codes "(/ " ++ decimal n ++ point ++ codes " " ++ decimal d ++ point ++ codes ")"

-- a number of sort Int, one of sort Real, and one as the operand of an operation
abbrev pub int_text : Fraction → List ℕ
int_text q = signed_text q.numerator (decimal (unsigned_abs q.numerator))

abbrev pub real_text : Fraction → List ℕ
real_text q = signed_text q.numerator (quotient_text (codes ".0") (unsigned_abs q.numerator) (denominator q))

abbrev pub plain_text : Fraction → List ℕ
plain_text q = signed_text q.numerator (quotient_text [] (unsigned_abs q.numerator) (denominator q))

abbrev pub number_text : Sort → Fraction → List ℕ
number_text bool_sort q = plain_text q
number_text int_sort q = int_text q
number_text real_sort q = real_text q

abbrev pub value_text : Sort → Value → List ℕ
value_text s (truth true) = codes "true"
value_text s (truth false) = codes "false"
value_text s (number q) = number_text s q

abbrev pub binding_text : Binding → List ℕ
binding_text b =
    codes "(define-fun " ++ symbol_text b.constant.name ++ codes " () " ++ sort_text b.constant.sort ++ codes " " ++ value_text b.constant.sort b.value ++ codes ")\n"

abbrev pub operator_text : Arithmetic → List ℕ
operator_text Sum = codes "add"
operator_text Difference = codes "sub"
operator_text Product = codes "mul"
operator_text Quotient = codes "div"

-- an operation that left the numbers
abbrev pub wide_text : Operation → List ℕ
wide_text w = codes "(wide " ++ operator_text w.operator ++ codes " " ++ plain_text w.left ++ codes " " ++ plain_text w.right ++ codes ")"

abbrev pub shown_text : Shown → List ℕ
shown_text (shown_value s v) = value_text s v
shown_text (shown_wide w) = wide_text w

-- a string literal as it is written: between quotes, each quote in it twice
abbrev pub literal_text : List ℕ → List ℕ
literal_text bs = spelling_of (string bs)

abbrev pub token_text : Token → List ℕ
token_text (symbol name) = symbol_text name
token_text (literal bs) = literal_text bs
token_text (keyword bs) = bs
token_text (numeral bs) = bs
token_text (decimal_token bs) = bs
token_text (hexadecimal bs) = bs
token_text (binary bs) = bs

-- Texts between parentheses, one space between neighbours.
abbrev pub spaced : List (List ℕ) → List ℕ
spaced [] = []
spaced (t ∷ []) = t
spaced (t ∷ u ∷ ts) = t ++ 32 ∷ spaced (u ∷ ts)

abbrev pub list_text : List (List ℕ) → List ℕ
list_text ts = 40 ∷ spaced ts ++ 41 ∷ []

-- the normal spelling of a tree
abbrev mutual
  pub tree_text : Tree → List ℕ
  tree_text (leaf t) = token_text t
  tree_text (node ts) = list_text (tree_texts ts)

  pub tree_texts : Trees → List (List ℕ)
  tree_texts no_trees = []
  tree_texts (trees t ts) = tree_text t ∷ tree_texts ts

-- a term with what is shown of its value
abbrev pub shown_pair_text : Tree × Shown → List ℕ
shown_pair_text p = list_text (tree_text p.0 ∷ shown_text p.1 ∷ [])

-- why a check wasn't decided
abbrev pub reason_text : Reason → List ℕ
reason_text (units_spent n) = codes "(spent " ++ decimal n ++ codes ")"
reason_text (number_left w) = wide_text w

abbrev pub info_text : Info → List ℕ
info_text name_info = codes "(:name \"nuz\")"
info_text version_info = codes "(:version \"1\")"
info_text authors_info = codes "(:authors \"nuz\")"
info_text error_behavior_info = codes "(:error-behavior continued-execution)"

abbrev pub reply_text : Reply → List ℕ
reply_text quiet = []
reply_text success = codes "success" ++ line_feed
reply_text (values ps) = list_text (map shown_pair_text ps) ++ line_feed
reply_text (info i) = info_text i ++ line_feed
reply_text (levels n) = codes "(:assertion-stack-levels " ++ decimal n ++ codes ")\n"
reply_text (echoed bs) = literal_text bs ++ line_feed
reply_text (sat bs) = codes "sat" ++ line_feed
reply_text unsat = codes "unsat" ++ line_feed
reply_text (unknown r) = codes "unknown" ++ line_feed
reply_text (model bs) = codes "(\n" ++ flat_map binding_text bs ++ codes ")\n"
reply_text (reason r) = codes "(:reason-unknown " ++ reason_text r ++ codes ")\n"
reply_text unsupported = codes "unsupported" ++ line_feed
reply_text (error e) = error_line e ++ line_feed
