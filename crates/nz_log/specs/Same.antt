-- The test tells which atoms are the same.
use Rattle.std.proofs.Common.{◌≡◌, ◌==◌, ◌&&◌, ◌∙◌, Bool, true, false, List, [], ◌∷◌, refl, sym, ap, true≢false, eqb-true, eq-eqb}
use Rattle.std.specs.Bool.{Decides}
use Rattle.std.specs.Cmp.{first_so, second_so, signed_Decides}
use Rattle.std.specs.Ordering.{int_eq}
use Rattle.nz_fractions.specs.Fraction.{Fraction}
use Rattle.nz_spec.specs.clauses.Literal.{are_same_sign}
use Rattle.nz_spec.specs.terms.Same.{are_same_fraction}
use Rattle.nz_spec.specs.terms.Term.{are_same_sort}
use Rattle.nz_term.specs.declared.heads.Sort.{Sort}
use Rattle.nz_term.specs.declared.heads.Sort.TheVariants as sort
use Rattle.nz_term.specs.Constants.{sort_of}
use Rattle.nz_lin.specs.declared.bound.Bound.{Bound}
use Rattle.nz_lin.specs.declared.form.Part.{Part}
use Rattle.nz_log.specs.declared.atoms.Atom.{Atom}
use Rattle.nz_log.specs.declared.atoms.Atom.TheVariants.{Term, AtMost}
use Rattle.nz_log.specs.Keys.{are_same_atom, are_same_bound, are_same_part, are_same_units}

both : (a b : Bool) → a ≡ true → b ≡ true → (a && b) ≡ true
both a b e f = ap (λ (c : Bool). c && b) e ∙ f

-- ---- What is the same is one

same_number : (p q : Fraction) → are_same_fraction p q ≡ true → p ≡ q
same_number p q e =
    let numerator = (signed_Decides p.numerator q.numerator).0 (first_so (int_eq p.numerator q.numerator) (p.below == q.below) e) in
    let below = eqb-true p.below q.below (second_so (int_eq p.numerator q.numerator) (p.below == q.below) e) in
    λ i. record { numerator = numerator i; below = below i }

number_same : (p : Fraction) → are_same_fraction p p ≡ true
number_same p = both (int_eq p.numerator p.numerator) (p.below == p.below) ((signed_Decides p.numerator p.numerator).1 refl) (eq-eqb p.below p.below refl)

pub same_sort : (s t : Sort) → are_same_sort (sort_of s) (sort_of t) ≡ true → s ≡ t
same_sort sort.Bool sort.Bool e = refl
same_sort sort.Bool sort.Int e = absurd (true≢false (sym e))
same_sort sort.Bool sort.Real e = absurd (true≢false (sym e))
same_sort sort.Int sort.Bool e = absurd (true≢false (sym e))
same_sort sort.Int sort.Int e = refl
same_sort sort.Int sort.Real e = absurd (true≢false (sym e))
same_sort sort.Real sort.Bool e = absurd (true≢false (sym e))
same_sort sort.Real sort.Int e = absurd (true≢false (sym e))
same_sort sort.Real sort.Real e = refl

pub sort_same : (s : Sort) → are_same_sort (sort_of s) (sort_of s) ≡ true
sort_same sort.Bool = refl
sort_same sort.Int = refl
sort_same sort.Real = refl

same_part : (p q : Part) → are_same_part p q ≡ true → p ≡ q
same_part p q e =
    let sorts = are_same_sort (sort_of p.sort) (sort_of q.sort) in
    let numbers = are_same_fraction p.coefficient q.coefficient in
    let unit = eqb-true p.unit q.unit (first_so (p.unit == q.unit) (sorts && numbers) e) in
    let rest = second_so (p.unit == q.unit) (sorts && numbers) e in
    let sort = same_sort p.sort q.sort (first_so sorts numbers rest) in
    let coefficient = same_number p.coefficient q.coefficient (second_so sorts numbers rest) in
    λ i. record { unit = unit i; sort = sort i; coefficient = coefficient i }

part_same : (p : Part) → are_same_part p p ≡ true
part_same p =
    both (p.unit == p.unit) (are_same_sort (sort_of p.sort) (sort_of p.sort) && are_same_fraction p.coefficient p.coefficient) (eq-eqb p.unit p.unit refl)
    (both (are_same_sort (sort_of p.sort) (sort_of p.sort)) (are_same_fraction p.coefficient p.coefficient) (sort_same p.sort) (number_same p.coefficient))

same_units : (ps qs : List Part) → are_same_units ps qs ≡ true → ps ≡ qs
same_units [] [] e = refl
same_units [] (q ∷ qs) e = absurd (true≢false (sym e))
same_units (p ∷ ps) [] e = absurd (true≢false (sym e))
same_units (p ∷ ps) (q ∷ qs) e =
    let first = same_part p q (first_so (are_same_part p q) (are_same_units ps qs) e) in
    let rest = same_units ps qs (second_so (are_same_part p q) (are_same_units ps qs) e) in
    λ i. first i ∷ rest i

units_same : (ps : List Part) → are_same_units ps ps ≡ true
units_same [] = refl
units_same (p ∷ ps) = both (are_same_part p p) (are_same_units ps ps) (part_same p) (units_same ps)

same_flag : (p q : Bool) → are_same_sign p q ≡ true → p ≡ q
same_flag true true e = refl
same_flag true false e = absurd (true≢false (sym e))
same_flag false true e = absurd (true≢false (sym e))
same_flag false false e = refl

flag_same : (p : Bool) → are_same_sign p p ≡ true
flag_same true = refl
flag_same false = refl

same_bound : (b c : Bound) → are_same_bound b c ≡ true → b ≡ c
same_bound b c e =
    let flags = are_same_sign b.strict c.strict in
    let limits = are_same_fraction b.sides.offset c.sides.offset in
    let units = are_same_units b.sides.parts c.sides.parts in
    let strict = same_flag b.strict c.strict (first_so flags (limits && units) e) in
    let rest = second_so flags (limits && units) e in
    let limit = same_number b.sides.offset c.sides.offset (first_so limits units rest) in
    let parts = same_units b.sides.parts c.sides.parts (second_so limits units rest) in
    let sides : b.sides ≡ c.sides = λ i. record { parts = parts i; offset = limit i } in
    λ i. record { sides = sides i; strict = strict i }

bound_same : (b : Bound) → are_same_bound b b ≡ true
bound_same b =
    let limits = are_same_fraction b.sides.offset b.sides.offset in
    let units = are_same_units b.sides.parts b.sides.parts in
    both (are_same_sign b.strict b.strict) (limits && units) (flag_same b.strict) (both limits units (number_same b.sides.offset) (units_same b.sides.parts))

same_atom : (a b : Atom) → are_same_atom a b ≡ true → a ≡ b
same_atom (Term t) (Term u) e = ap Term (eqb-true t u e)
same_atom (Term t) (AtMost c) e = absurd (true≢false (sym e))
same_atom (AtMost b) (Term u) e = absurd (true≢false (sym e))
same_atom (AtMost b) (AtMost c) e = ap AtMost (same_bound b c e)

atom_same : (a : Atom) → are_same_atom a a ≡ true
atom_same (Term t) = eq-eqb t t refl
atom_same (AtMost b) = bound_same b

pub atom_decides : (a b : Atom) → Decides (are_same_atom a b) (a ≡ b)
atom_decides a b = (same_atom a b, λ e. ap (are_same_atom a) (sym e) ∙ atom_same a)
