-- An atom that the theory learns of.
use Rattle.std.proofs.Common.{◌≡◌, ◌==◌, ℕ, Bool, true, false, List, [], ◌∷◌, ◌++◌, Some, refl, sym, ap, ◌∙◌, subst, if◌then◌else◌}
use Rattle.std.specs.Prelude.{IsSome, IsTrue, slice_get, slice_index_or}
use Rattle.std.proofs.lemmas.List.Elements.{All-push, All-weaker}
use Rattle.std.proofs.lemmas.Option.{slice_get-get_or}
use Rattle.nz_lists.proofs.Members.{at_of}
use Rattle.nz_lists.proofs.Numbers.{equal-number, same-number}
use Rattle.nz_spec.specs.clauses.Farkas.{is_linear_literal}
use Rattle.nz_spec.specs.clauses.LinearLiteral.{parts_of}
use Rattle.nz_spec.specs.search.Search.{never}
use Rattle.nz_spec.specs.clauses.Literal.{Literal, is_at_most}
use Rattle.nz_spec.specs.simplex.LiteralBounds.{turned}
use Rattle.nz_spec.specs.terms.Table.{IsTable, Node}
use Rattle.nz_spec.specs.search.Work.{WorkList}
use Rattle.nz_lin.specs.declared.bound.Bound.{Bound}
use Rattle.nz_lin.specs.Bounds.{HasUnits}
use Rattle.nz_lin.specs.Forms.{AreUnits, parts_over}
use Rattle.nz_log.specs.declared.atoms.Atom.{Atom}
use Rattle.nz_log.specs.declared.atoms.Atom.TheVariants.{Term, AtMost}
use Rattle.nz_search.specs.declared.note.Note.{Note}
use Rattle.nz_log.specs.Atoms.{AreAtoms, IsLitIn, IsNormal}
use Rattle.nz_search.specs.Standing.{search_after}
use Rattle.nz_reals.specs.Joins.{AddsForm, IsAtomFor, IsNamedSum, IsNumberIn, MayAddSum, MayJoinBound, MayLearn}
use Rattle.nz_reals.specs.Known.{IsSaidOf, Known}
use Rattle.nz_reals.specs.Stands.{IsKnown, IsKnownAtom, IsOf}
use Rattle.nz_reals.specs.State.{KnownAtom, Theory, known_among, known_at}
use Rattle.nz_reals.specs.Sums.{AreNonzero, IsFormSum, turned_sum, zero_bound}
use Rattle.nz_simplex.specs.State.{State}
use Rattle.nz_reals.proofs.RefutationClauses.{own_units}
use Rattle.nz_reals.proofs.AtomBounds.{bound_in_log}
use Rattle.nz_reals.proofs.Sums.{turned_form, turned_over, turned_units}

-- an atom on a term is learned at once
pub of_term : (t : Theory) (atoms : List Atom) (ids : List ℕ) (id : ℕ) (a : Atom) (term : ℕ) → IsOf t atoms ids → slice_get atoms id ≡ Some a → a ≡ Term term → IsOf t atoms (ids ++ id ∷ [])
of_term t atoms ids id a term of at is = record {
  all = All-push (λ (i : ℕ). (x : Atom) × (slice_get atoms i ≡ Some x) × IsKnownAtom t i x) ids id of.all (a, at, subst (IsKnownAtom t id) (sym is) tt);
  right = of.right;
}

-- the sum of a bound may join
pub may_add : (t : Theory) (b s : Bound) (j : MayJoinBound t b) → s ≡ zero_bound (turned_sum b.sides.parts) → MayAddSum t s.sides.parts
may_add t b s j is = record {
  table = j.table;
  over = j.over;
  units = subst (λ (x : Bound). AreUnits j.table x.sides.parts) (sym is) (turned_units j.table b.sides.parts j.units);
  sum = subst (λ (x : Bound). IsFormSum x.sides.parts) (sym is) (turned_form b.sides.parts j.nonzero);
}

-- a table that has the units of a bound has those of the sum that joins
pub sum_units : (ns : List Node) (atoms : List Atom) (id : ℕ) (b s : Bound) → slice_get atoms id ≡ Some (AtMost b) → s ≡ zero_bound (turned_sum b.sides.parts) → IsLitIn ns atoms (record { atom = id; sign = true })
    → AreUnits ns s.sides.parts
sum_units ns atoms id b s at is lit =
    subst (λ (x : Bound). AreUnits ns x.sides.parts) (sym is) (turned_units ns b.sides.parts (own_units ns atoms (record { atom = id; sign = true }) b at lit))

-- bounds of a log aren't strict
pub normal_at : (atoms : List Atom) (id : ℕ) (b : Bound) → AreAtoms atoms → slice_get atoms id ≡ Some (AtMost b) → b.strict ≡ false
normal_at atoms id b are at = at_of IsNormal atoms are.normal id (AtMost b) at

-- the list names the sum by the number of the atom
pub named_sum : (ns : List Node) (atoms : List Atom) (id number : ℕ) (work : WorkList Note) (b s : Bound) → slice_get atoms id ≡ Some (AtMost b) → b.strict ≡ false → s ≡ zero_bound (turned_sum b.sides.parts)
    → IsNumberIn ns atoms id number work → IsNamedSum ns s.sides.parts number work
named_sum ns atoms id number work b s at normal is known =
    let atom : Literal = slice_index_or (search_after ns work).atoms number never in
    let says : atom ≡ is_at_most (parts_over ns b.sides.parts) b.sides.offset = known.says ∙ bound_in_log ns atoms (record { atom = id; sign = true }) b at normal in
    record {
      bound = atom;
      named = slice_get-get_or (search_after ns work).atoms number never known.named;
      linear = subst (λ (l : Literal). IsTrue (is_linear_literal l)) (sym says) refl;
      sum = ap (λ (l : Literal). turned (parts_of l)) says ∙ sym (turned_over ns b.sides.parts) ∙ ap (λ (x : Bound). parts_over ns x.sides.parts) (sym is);
    }

-- what is known of one atom more
pub of_added : (old mid new : Theory) (atoms : List Atom) (ids : List ℕ) (id : ℕ) (b s : Bound) (k : Known) → IsOf old atoms ids → AddsForm old mid s.sides.parts → new.simplex ≡ mid.simplex
    → slice_get atoms id ≡ Some (AtMost b) → b.strict ≡ false → AreNonzero b.sides.parts → s ≡ zero_bound (turned_sum b.sides.parts) → slice_get mid.simplex.forms k.form ≡ Some s.sides.parts → IsSaidOf b.sides.parts b.sides.offset k
    → ((i : ℕ) → known_at new i ≡ (if i == id then Some k else known_at mid i)) → IsOf new atoms (ids ++ id ∷ [])
of_added old mid new atoms ids id b s k of adds simplex at normal nonzero sum form says kept = record {
  all =
      All-push (λ (i : ℕ). (x : Atom) × (slice_get atoms i ≡ Some x) × IsKnownAtom new i x) ids id
      (All-weaker (λ (i : ℕ). (x : Atom) × (slice_get atoms i ≡ Some x) × IsKnownAtom old i x) (λ (i : ℕ). (x : Atom) × (slice_get atoms i ≡ Some x) × IsKnownAtom new i x)
      (λ i a. (a.0, a.1, still i a.0 a.2)) ids of.all)
      (AtMost b, at, subst IsSome (sym (kept id ∙ ap (λ (t : Bool). if t then Some k else known_at mid id) (equal-number id id refl))) refl);
  right = λ i j knows. by_test i j (i == id) refl (sym (kept i) ∙ knows);
}
  where
    same : (i : ℕ) → known_at mid i ≡ known_at old i
    same i = ap (λ (ks : List KnownAtom). known_among ks i) adds.known

    has : (i : ℕ) (t : Bool) → IsSome (known_at old i) → IsSome (if t then Some k else known_at mid i)
    has i true h = refl
    has i false h = subst IsSome (sym (same i)) h

    still : (i : ℕ) (a : Atom) → IsKnownAtom old i a → IsKnownAtom new i a
    still i (Term t) h = h
    still i (AtMost c) h = subst IsSome (sym (kept i)) (has i (i == id) h)

    by_test : (i : ℕ) (j : Known) (t : Bool) → (i == id) ≡ t → (if t then Some k else known_at mid i) ≡ Some j → (c : Bound) × (slice_get atoms i ≡ Some (AtMost c)) × IsKnown new c j
    by_test i j true e f =
        let equal : k ≡ j = cc in (
          b,
          ap (slice_get atoms) (same-number i id e) ∙ at,
          subst (IsKnown new b) equal (record {
            normal = normal;
            sum = nonzero;
            form = subst (λ (x : State). slice_get x.forms k.form ≡ Some (turned_sum b.sides.parts)) (sym simplex) (form ∙ ap (λ (x : Bound). Some x.sides.parts) sum);
            says = says;
          }),
        )
    by_test i j false e f =
        let c = of.right i j (sym (same i) ∙ f) in (
          c.0,
          c.1,
          record {
            normal = c.2.normal;
            sum = c.2.sum;
            form = subst (λ (x : State). slice_get x.forms j.form ≡ Some (turned_sum c.0.sides.parts)) (sym simplex) (adds.kept j.form (turned_sum c.0.sides.parts) c.2.form);
            says = c.2.says;
          },
        )

-- What is known of the atom of a call, and of its sum.
pub record IsLearned (t : Theory) (atoms : List Atom) (id : ℕ) (b s : Bound) : Type 0 where
  pub at : slice_get atoms id ≡ Some (AtMost b)
  pub may : MayJoinBound t b
  pub is : s ≡ zero_bound (turned_sum b.sides.parts)

pub learned : (t : Theory) (atoms : List Atom) (id : ℕ) (y : Atom) (b s : Bound) → IsAtomFor t atoms id → slice_get atoms id ≡ Some y → y ≡ AtMost b
    → ((ns : List Node) → IsTable ns → HasUnits ns b → s ≡ zero_bound (turned_sum b.sides.parts)) → IsLearned t atoms id b s
learned t atoms id y b s atom at is zeroed =
    let same : atom.atom ≡ AtMost b = cc in
    let may : MayJoinBound t b = subst (MayLearn t) same atom.may in
    record { at = at ∙ ap Some is; may = may; is = zeroed may.table may.over.table may.units }
