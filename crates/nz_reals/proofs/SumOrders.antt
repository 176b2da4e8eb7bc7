-- The sums of literals that the theory knows are in one order: their units have numbers in a table, which rise in each sum.
use Rattle.std.proofs.Common.{◌≡◌, ℕ, Bool, true, false, List, [], ◌∷◌, map, Some, refl, sym, ap, ◌∙◌, subst}
use Rattle.std.specs.Prelude.{IsSome, flat_map}
use Rattle.std.specs.List.{AllByRecursion}
use Rattle.std.proofs.lemmas.List.Elements.{All-from_recursion}
use Rattle.nz_lists.proofs.Elements.{AllByRecursion-append}
use Rattle.nz_lists.proofs.Members.{each_of}
use Rattle.nz_fractions.specs.Fraction.{Fraction}
use Rattle.nz_spec.specs.clauses.Farkas.{bound_of, sums_of}
use Rattle.nz_spec.specs.clauses.Literal.{Literal, is_at_most, TellsLiterals}
use Rattle.nz_spec.specs.terms.Form as spec
use Rattle.nz_spec.specs.terms.Form.{AreRising, IsOrderOf, TellsApart, negated_part}
use Rattle.nz_spec.specs.terms.FormOf.{TermHasItsNumber, number_in}
use Rattle.nz_spec.specs.terms.Order.{IsInTable}
use Rattle.nz_spec.specs.terms.Table.{Node, IsTable, term_in}
use Rattle.nz_spec.specs.terms.Term.{Term}
use Rattle.nz_lin.specs.declared.form.Part.{Part}
use Rattle.nz_lin.specs.Forms.{AreUnits, NamesUnit, parts_over}
use Rattle.nz_log.specs.declared.atoms.Atom.{Atom}
use Rattle.nz_log.specs.declared.atoms.Atom.TheVariants.{AtMost}
use Rattle.nz_log.specs.declared.multiples.LitMultiple.{LitMultiple}
use Rattle.nz_log.specs.Atoms.{IsAtomIn, IsLitIn, with_sign}
use Rattle.nz_log.specs.Axioms.{AreMultiplesIn}
use Rattle.nz_simplex.specs.SaidBounds.{SumsStay}
use Rattle.nz_reals.specs.Stands.{IsOf}
use Rattle.nz_reals.specs.State.{Theory, known_at, literal_over}
use Rattle.nz_reals.specs.Tells.{AreKnown, multiples_over}
use Rattle.nz_reals.proofs.AtomBounds.{literal_of_known, signed_sum}
use Rattle.nz_reals.proofs.Contradictions.{some_known}

abbrev units_of : List spec.Part → List Term
units_of ps = map (λ (p : spec.Part). p.unit) ps

module _ (ns : List Node) (table : IsTable ns) (numbers : TermHasItsNumber) where
  -- the numbers tell apart what the table has
  tell_apart : (us : List Term) → AllByRecursion (IsInTable ns) us → TellsApart (number_in ns) us
  tell_apart us all t u has_t has_u same =
      let a = each_of (IsInTable ns) us all t has_t in
      let b = each_of (IsInTable ns) us all u has_u in
      let number_a : number_in ns t ≡ a.0 = ap (number_in ns) (sym a.2) ∙ numbers ns table a.0 a.1 in
      let number_b : number_in ns u ≡ b.0 = ap (number_in ns) (sym b.2) ∙ numbers ns table b.0 b.1 in
      sym a.2 ∙ ap (term_in ns) (sym number_a ∙ same ∙ number_b) ∙ b.2

  parts_there : (ps : List Part) → AllByRecursion (NamesUnit ns) ps → AllByRecursion (IsInTable ns) (units_of (parts_over ns ps))
  parts_there [] h = tt
  parts_there (p ∷ ps) h = ((p.unit, h.0.0, refl), parts_there ps h.1)

  negated_there : (ps : List spec.Part) → AllByRecursion (IsInTable ns) (units_of ps) → AllByRecursion (IsInTable ns) (units_of (map negated_part ps))
  negated_there [] h = tt
  negated_there (p ∷ ps) h = (h.0, negated_there ps h.1)

  signed_there : (ps : List Part) (b : Fraction) (sign : Bool) → AllByRecursion (NamesUnit ns) ps
      → AllByRecursion (IsInTable ns) (units_of (bound_of (with_sign sign (is_at_most (parts_over ns ps) b))).parts)
  signed_there ps b true h = parts_there ps h
  signed_there ps b false h = negated_there (parts_over ns ps) (parts_there ps h)

  -- a sum whose units the table has, in their order
  record IsOrdered (ps : List spec.Part) : Type 0 where
    rising : AreRising (number_in ns) ps
    there : AllByRecursion (IsInTable ns) (units_of ps)

  module _ (t : Theory) (atoms : List Atom) (ids : List ℕ) (of : IsOf t atoms ids) (tells : TellsLiterals) (sums : SumsStay) where
    abbrev sum_of : LitMultiple → List spec.Part
    sum_of m = (bound_of (literal_over ns t m.literal)).parts

    one_ordered : (m : LitMultiple) → IsSome (known_at t m.literal.atom) → IsLitIn ns atoms m.literal → IsOrdered (sum_of m)
    one_ordered m has is =
        let k = some_known t m.literal.atom has in
        let b = of.right m.literal.atom k.0 k.1 in
        let ps = b.0.sides.parts in
        let q = b.0.sides.offset in
        let sign = m.literal.sign in
        let both : Some is.atom ≡ Some (AtMost b.0) = sym is.at ∙ b.1 in
        let same : is.atom ≡ AtMost b.0 = cc in
        let units : AreUnits ns ps = subst (IsAtomIn ns) same is.within in
        let sum = signed_sum ns table numbers tells sums ps q sign units b.2.sum in
        let here : IsOrdered (bound_of (with_sign sign (is_at_most (parts_over ns ps) q))).parts = record { rising = sum.rising; there = signed_there ps q sign units.names } in
        subst (λ (l : Literal). IsOrdered (bound_of l).parts) (sym (literal_of_known ns t m.literal b.0 k.0 k.1 b.2)) here

    all_rising : (ms : List LitMultiple) → AreKnown t ms → AreMultiplesIn ns atoms ms → AllByRecursion (AreRising (number_in ns)) (sums_of (multiples_over ns t ms))
    all_rising [] known is = tt
    all_rising (m ∷ ms) known is = ((one_ordered m known.0 is.0).rising, all_rising ms known.1 is.1)

    all_there : (ms : List LitMultiple) → AreKnown t ms → AreMultiplesIn ns atoms ms → AllByRecursion (IsInTable ns) (flat_map units_of (sums_of (multiples_over ns t ms)))
    all_there [] known is = tt
    all_there (m ∷ ms) known is =
        AllByRecursion-append (IsInTable ns) (units_of (sum_of m)) (flat_map units_of (sums_of (multiples_over ns t ms))) (one_ordered m known.0 is.0).there (all_there ms known.1 is.1)

    -- the numbers order the sums of these multiples
    pub sums_in_order : (ms : List LitMultiple) → AreKnown t ms → AreMultiplesIn ns atoms ms → IsOrderOf (number_in ns) (sums_of (multiples_over ns t ms))
    sums_in_order ms known is =
        record {
          apart = tell_apart (flat_map units_of (sums_of (multiples_over ns t ms))) (all_there ms known is);
          rising = All-from_recursion (AreRising (number_in ns)) (sums_of (multiples_over ns t ms)) (all_rising ms known is);
        }
