-- What is known of atoms stays known where atoms join.
use Rattle.std.proofs.Common.{◌≡◌, ℕ, List, Some}
use Rattle.std.specs.Prelude.{slice_get}
use Rattle.std.proofs.lemmas.List.Elements.{All-weaker}
use Rattle.nz_log.specs.declared.atoms.Atom.{Atom}
use Rattle.nz_log.specs.declared.atoms.Atom.TheVariants.{AtMost}
use Rattle.nz_log.specs.Atoms.{Stay}
use Rattle.nz_reals.specs.State.{Theory}
use Rattle.nz_reals.specs.Stands.{IsKnownAtom, IsOf}

pub of_stays : (t : Theory) (old new : List Atom) (ids : List ℕ) → IsOf t old ids → Stay old new → IsOf t new ids
of_stays t old new ids of stay = record {
  all =
      All-weaker (λ (id : ℕ). (a : Atom) × (slice_get old id ≡ Some a) × IsKnownAtom t id a) (λ (id : ℕ). (a : Atom) × (slice_get new id ≡ Some a) × IsKnownAtom t id a)
      (λ id a. (a.0, stay id a.0 a.1, a.2)) ids of.all;
  right = λ id k knows. let b = of.right id k knows in (b.0, stay id (AtMost b.0) b.1, b.2);
}
