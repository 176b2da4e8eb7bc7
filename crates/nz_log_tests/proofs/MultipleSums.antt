-- Sums of multiples, one after another; sums of integers.
use Rattle.std.proofs.Common.{◌≡◌, ℕ, ◌<◌, ◌+◌, ◌&&◌, Bool, true, false, List, [], ◌∷◌, length, drop, get_or, Some, None, refl, sym, ap, ap₂, subst, ◌∙◌}
use Rattle.std.specs.Prelude.{slice_get, Result, Ok, Err, OnOk}
use Rattle.std.proofs.lemmas.List.Elements.{All-from_recursion, All-get_or}
use Rattle.std.specs.List.{AllByRecursion, list_all}
use Rattle.std.proofs.Math.Bool.{and-false, and-true}
use Rattle.nz_lists.proofs.Places.{drop_read}
use Rattle.nz_fractions.specs.Fraction.{Fraction}
use Rattle.nz_spec.specs.numbers.Computation.{and_then}
use Rattle.nz_spec.specs.clauses.Farkas as farkas
use Rattle.nz_spec.specs.clauses.Farkas.{bound_of, bound_scaled, bounds_joined, multiples_onto}
use Rattle.nz_spec.specs.terms.Form as form
use Rattle.nz_spec.specs.terms.FormOf.{number_in}
use Rattle.nz_spec.specs.clauses.LinearLiteral.{are_integral, is_whole}
use Rattle.nz_spec.specs.clauses.Literal.{negation_of, term_literal}
use Rattle.nz_spec.specs.terms.Table.{Node, IsTable, term_in}
use Rattle.nz_spec.specs.terms.Term as term
use Rattle.nz_spec.specs.terms.Term.{are_same_sort, int_sort}
use Rattle.nz_term.specs.Constants as sorts
use Rattle.nz_term.specs.declared.heads.Sort.{Sort}
use Rattle.nz_term.specs.declared.heads.Sort.TheVariants.{Bool as Truth, Int, Real}
use Rattle.nz_lin.specs.declared.bound.Bound.{Bound}
use Rattle.nz_lin.specs.declared.form.Part.{Part}
use Rattle.nz_lin.specs.Bounds.{HasUnits, bound_over, bounded, is_integral, is_integral_of, literal_over}
use Rattle.nz_term.specs.declared.stops.ArithmeticStop.{ArithmeticStop}
use Rattle.nz_lin.specs.Comes.{Comes}
use Rattle.nz_lin.specs.Forms.{NamesUnit, parts_over}
use Rattle.nz_log.specs.declared.atoms.Atom.{Atom}
use Rattle.nz_log.specs.declared.atoms.Atom.TheVariants.{AtMost}
use Rattle.nz_log.specs.declared.lits.Lit.{Lit}
use Rattle.nz_log.specs.declared.multiples.LitMultiple.{LitMultiple}
use Rattle.nz_log.specs.Atoms.{IsAtomIn, IsLitIn, atom_in, literal_in, with_sign}
use Rattle.nz_log.specs.Axioms.{multiples_in, sum_in}
use Rattle.nz_log_tests.specs.Sums.{IsAdded, IsAddedOver}

-- ---- One multiple after another

module _ (ns : List Node) (atoms : List Atom) (ms : List LitMultiple) (i : ℕ) (x : Bound)
    (left : (multiples_onto (number_in ns) (bound_over ns x) (multiples_in ns atoms (drop i ms))).result ≡ (sum_in ns atoms ms).result) where
  pub sum_next : (m : LitMultiple) → i < length ms → m ≡ get_or ms i m → (z : Bound) → IsAddedOver ns atoms m x z
      → (multiples_onto (number_in ns) (bound_over ns z) (multiples_in ns atoms (drop (i + 1) ms))).result ≡ (sum_in ns atoms ms).result
  sum_next m within read z added =
      ap (λ (b : farkas.Bound). (multiples_onto (number_in ns) b (multiples_in ns atoms (drop (i + 1) ms))).result) added.sum
      ∙ sym (ap (λ (ks : List LitMultiple). (multiples_onto (number_in ns) (bound_over ns x) (multiples_in ns atoms ks)).result) (drop_read ms i m within read))
      ∙ left

  pub sum_done : drop i ms ≡ [] → bound_over ns x ≡ (sum_in ns atoms ms).result
  sum_done none = sym (ap (λ (ks : List LitMultiple). (multiples_onto (number_in ns) (bound_over ns x) (multiples_in ns atoms ks)).result) none) ∙ left

-- ---- One multiple

said_by : (s : Bool) (ps : List form.Part) (q : Fraction) → bound_of (bounded s ps q) ≡ record { parts = ps; limit = q; is_strict = s }
said_by true ps q = refl
said_by false ps q = refl

module _ (ns : List Node) (atoms : List Atom) (l : Lit) (b : Bound) (at : slice_get atoms l.atom ≡ Some (AtMost b)) where
  said : (o : Bound) → with_sign l.sign (literal_over ns b) ≡ literal_over ns o → bound_of (literal_in ns atoms l) ≡ bound_over ns o
  said o is =
      ap bound_of (ap (λ a. elim a [ None ↦ term_literal (term_in ns 0) l.sign | Some c ↦ with_sign l.sign (atom_in ns c) ]) at ∙ is)
      ∙ said_by o.strict (parts_over ns o.sides.parts) o.sides.offset

  -- the bound itself, or its negation
  pub said_own : l.sign ≡ true → bound_of (literal_in ns atoms l) ≡ bound_over ns b
  said_own sign = said b (ap (λ (s : Bool). with_sign s (literal_over ns b)) sign)

  pub said_other : (o : Bound) → l.sign ≡ false → literal_over ns o ≡ negation_of (literal_over ns b) → bound_of (literal_in ns atoms l) ≡ bound_over ns o
  said_other o sign is = said o (ap (λ (s : Bool). with_sign s (literal_over ns b)) sign ∙ sym is)

  pub units_at : IsLitIn ns atoms l → HasUnits ns b
  units_at h =
      let both : Some h.atom ≡ Some (AtMost b) = sym h.at ∙ at in
      let same : h.atom ≡ AtMost b = cc in
      subst (IsAtomIn ns) same h.within

-- the multiple that is added is the literal's
pub added_by : (ns : List Node) (atoms : List Atom) (m : LitMultiple) (o old new : Bound) → bound_of (literal_in ns atoms m.literal) ≡ bound_over ns o
    → bound_over ns new ≡ (and_then (bound_scaled m.multiplier (bound_over ns o)) (λ y. bounds_joined (number_in ns) (bound_over ns old) y)).result
    → HasUnits ns new → IsAddedOver ns atoms m old new
added_by ns atoms m o old new same is units =
    record {
      sum = is ∙ sym (ap (λ (b : farkas.Bound). (and_then (bound_scaled m.multiplier b) (λ y. bounds_joined (number_in ns) (bound_over ns old) y)).result) same);
      units = units;
    }

pub adds : {X : Type 0} (r : Result X ArithmeticStop) (atoms : List Atom) (m : LitMultiple) (o old new : Bound)
    → ((ns : List Node) → IsLitIn ns atoms m.literal → (bound_of (literal_in ns atoms m.literal) ≡ bound_over ns o) × HasUnits ns o)
    → ((ns : List Node) → IsTable ns → HasUnits ns old → HasUnits ns o
    → Comes (and_then (bound_scaled m.multiplier (bound_over ns o)) (λ y. bounds_joined (number_in ns) (bound_over ns old) y)) (bound_over ns new) r)
    → OnOk r ((ns : List Node) → HasUnits ns old → HasUnits ns o → HasUnits ns new) → OnOk r (IsAdded atoms m old new)
adds (Ok x) atoms m o old new is comes units = λ ns table h within.
    let own = is ns within in
    added_by ns atoms m o old new own.0 (comes ns table h own.1).result (units ns h own.1)
adds (Err e) atoms m o old new is comes units = tt

-- what holds of each holds of the one that is read
pub each_read : {X : Type 0} (P : X → Type 0) (xs : List X) (i : ℕ) (x : X) → i < length xs → x ≡ get_or xs i x → AllByRecursion P xs → P x
each_read P xs i x within read h = subst P (sym read) (All-get_or P xs i x within (All-from_recursion P xs h))

-- ---- Integers

integral_by : (s : Sort) (c : Fraction) (t : term.Sort) → sorts.sort_of s ≡ t → is_integral_of s c ≡ (is_whole c && are_same_sort t int_sort)
integral_by Int c t e = subst (λ (u : term.Sort). is_whole c ≡ (is_whole c && are_same_sort u int_sort)) e (sym (and-true (is_whole c)))
integral_by Real c t e = subst (λ (u : term.Sort). false ≡ (is_whole c && are_same_sort u int_sort)) e (sym (and-false (is_whole c)))
integral_by Truth c t e = subst (λ (u : term.Sort). false ≡ (is_whole c && are_same_sort u int_sort)) e (sym (and-false (is_whole c)))

-- numbers of units and their sorts tell what sums are of integers over each table
pub integral_each : (ns : List Node) (ps : List Part) → AllByRecursion (NamesUnit ns) ps → list_all is_integral ps ≡ are_integral (parts_over ns ps)
integral_each ns [] h = refl
integral_each ns (p ∷ ps) h = ap₂ (λ (a b : Bool). a && b) (integral_by p.sort p.coefficient _ h.0.1) (integral_each ns ps h.1)
