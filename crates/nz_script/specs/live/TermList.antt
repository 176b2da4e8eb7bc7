-- The list of the terms of a live state, by which they are numbered.
use Rattle.std.specs.Prelude.{◌≡◌, ◌&&◌, Bool, true, false, List, [], ◌++◌, flat_map}
use Rattle.std.specs.List.{list_any}
use Rattle.nz_spec.specs.terms.Term.{Head, constant, choice, integer_quotient, modulus, magnitude, to_int, Term, apply, sort_of, is_int_sort}
use Rattle.nz_spec.specs.terms.Order.{listing_order, AreFirst}
use Rattle.nz_script.specs.live.Live.{State, items_of, item_terms, items_hold_integers}

-- the terms that the live items and the assumed terms add, in order, some of them more than once
abbrev pub terms_added : State → List Term → List Term
terms_added s assumed = flat_map listing_order (flat_map item_terms (items_of s.levels) ++ assumed)

-- The live items add their terms in the order of acceptance, and then the assumed terms are added. A term is added behind all
-- that it is made of, a `mod` behind the `div` of the same arguments, and an `is_int` behind the `to_int`. What is in the list
-- already isn't added again. So a constant adds itself.
abbrev pub IsTermList : State → List Term → List Term → Type 0
IsTermList s assumed list = AreFirst [] (terms_added s assumed) list

-- a constant, and what is made by a choice, a division, a size or a rounding, is a unit of linear forms where it is a number
abbrev pub is_unit_head : Head → Bool
is_unit_head (constant c) = true
is_unit_head (choice s) = true
is_unit_head integer_quotient = true
is_unit_head modulus = true
is_unit_head magnitude = true
is_unit_head to_int = true
is_unit_head h = false

abbrev pub is_unit : Term → Bool
is_unit (apply h ts) = is_unit_head h

-- a unit of sort Int
abbrev pub is_integer_unit : Term → Bool
is_integer_unit t = is_unit t && is_int_sort (sort_of t)

abbrev pub lists_integer : List Term → Bool
lists_integer list = list_any is_integer_unit list

-- The live items hold such a term exactly where their term list has one.
abbrev pub IntegersAreListed : Type 0
IntegersAreListed = (s : State) (list : List Term) → IsTermList s [] list → lists_integer list ≡ items_hold_integers (items_of s.levels)
