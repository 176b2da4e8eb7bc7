-- What is known of atoms, where the theory changes otherwise.
use Rattle.std.proofs.Common.{◌≡◌, ℕ, ◌^◌, ◌<◌, arith, length, List, Some, map, take, refl, sym, ap, ◌∙◌, subst, zero, suc, [], ◌∷◌}
use Rattle.std.specs.Prelude.{Contains, IsSome, slice_get}
use Rattle.std.proofs.lemmas.List.Elements.{All-contains, All-weaker}
use Rattle.std.proofs.lemmas.Option.{slice_get_within}
use Rattle.nz_lin.specs.declared.bound.Bound.{Bound}
use Rattle.nz_lin.specs.declared.form.Part.{Part}
use Rattle.nz_log.specs.declared.atoms.Atom.{Atom}
use Rattle.nz_log.specs.declared.atoms.Atom.TheVariants.{Term, AtMost}
use Rattle.nz_log.specs.declared.lits.Lit.{Lit}
use Rattle.nz_log.specs.Atoms.{AreAtoms}
use Rattle.nz_reals.specs.declared.reals.MarkedLiteral.{MarkedLiteral}
use Rattle.nz_reals.specs.Known.{Known}
use Rattle.nz_reals.specs.Stands.{IsKnownAtom, IsOf}
use Rattle.nz_reals.specs.State.{KnownAtom, Theory, known_among, known_at}
use Rattle.nz_reals.specs.Sums.{turned_sum}
use Rattle.nz_reals.proofs.Contradictions.{some_known}

pub of_kept : (old new : Theory) (atoms : List Atom) (ids : List ℕ) → new.known ≡ old.known → new.simplex.forms ≡ old.simplex.forms → IsOf old atoms ids → IsOf new atoms ids
of_kept old new atoms ids known forms of = record {
  all =
      All-weaker (λ (id : ℕ). (a : Atom) × (slice_get atoms id ≡ Some a) × IsKnownAtom old id a) (λ (id : ℕ). (a : Atom) × (slice_get atoms id ≡ Some a) × IsKnownAtom new id a)
      (λ id a. (a.0, a.1, one id a.0 a.2)) ids of.all;
  right = λ id k knows.
      let b = of.right id k (sym (same id) ∙ knows) in (
        b.0,
        b.1,
        record { normal = b.2.normal; sum = b.2.sum; form = subst (λ (fs : List (List Part)). slice_get fs k.form ≡ Some (turned_sum b.0.sides.parts)) (sym forms) b.2.form; says = b.2.says },
      );
}
  where
    same : (id : ℕ) → known_at new id ≡ known_at old id
    same id = ap (λ (ks : List KnownAtom). known_among ks id) known

    one : (id : ℕ) (a : Atom) → IsKnownAtom old id a → IsKnownAtom new id a
    one id (Term t) h = h
    one id (AtMost b) h = subst IsSome (sym (same id)) h

-- a bound of these atoms is known
pub is_known : (t : Theory) (atoms : List Atom) (ids : List ℕ) (i : ℕ) (b : Bound) → IsOf t atoms ids → Contains ids i → slice_get atoms i ≡ Some (AtMost b) → IsSome (known_at t i)
is_known t atoms ids i b of has at =
    let a = All-contains (λ (id : ℕ). (a : Atom) × (slice_get atoms id ≡ Some a) × IsKnownAtom t id a) ids i of.all has in
    let same : a.0 ≡ AtMost b = cc in
    subst (IsKnownAtom t i) same a.2

-- a literal on a known atom has a number of 32 bits
pub known_small : (t : Theory) (atoms : List Atom) (ids : List ℕ) → IsOf t atoms ids → AreAtoms atoms → (i : ℕ) → IsSome (known_at t i) → i < 2 ^ 31
known_small t atoms ids of are i known =
    let k = some_known t i known in
    let b = of.right i k.0 k.1 in
    let within : i < length atoms = slice_get_within atoms i (AtMost b.0) b.1 in
    omega (arith, within, are.few)

-- the first literals that were told
pub told_then : (ts : List MarkedLiteral) (n : ℕ) → map (λ (x : MarkedLiteral). x.literal) (take n ts) ≡ take n (map (λ (x : MarkedLiteral). x.literal) ts)
told_then ts zero = refl
told_then [] (suc n) = refl
told_then (t ∷ ts) (suc n) = ap (λ (ls : List Lit). t.literal ∷ ls) (told_then ts n)
