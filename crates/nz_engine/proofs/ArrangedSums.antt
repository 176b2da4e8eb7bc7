-- A theory whose sums were arranged before it begins anew.
use Rattle.std.proofs.Common.{◌≡◌, ℕ, ◌++◌, Bool, true, false, List, Option, Some, None, Result, Ok, Err, ap, subst, inl, inr}
use Rattle.std.specs.Prelude.{All, slice_get}
use Rattle.std.proofs.lemmas.Option.{get_or_from_slice_get}
use Rattle.std.proofs.lemmas.List.Elements.{All-weaker, Contains-append_right}
use Rattle.nz_fractions.specs.Fraction.{Fraction}
use Rattle.nz_spec.specs.terms.Form.{Part, Numbering}
use Rattle.nz_spec.specs.search.Search.{Task, terms_known}
use Rattle.nz_spec.specs.search.Atoms.{IsTabled, IsTruth}
use Rattle.nz_spec.specs.clauses.Literal.{Literal, term_literal, is_at_most, is_below}
use Rattle.nz_spec.specs.terms.Table.{Node, term_in}
use Rattle.nz_spec.specs.terms.Term as spec
use Rattle.nz_spec.specs.search.Work.{WorkList}
use Rattle.nz_lin.specs.declared.bound.Bound.{Bound}
use Rattle.nz_lin.specs.Bounds.{bounded, literal_over}
use Rattle.nz_lin.specs.Forms.{parts_over}
use Rattle.nz_log.specs.declared.atoms.Atom.{Atom}
use Rattle.nz_log.specs.declared.atoms.Atom.TheVariants.{Term, AtMost}
use Rattle.nz_search.specs.declared.note.Note.{Note}
use Rattle.nz_search.specs.declared.stop.Stop.{Stop}
use Rattle.nz_log.specs.Atoms.{atom_in, with_sign}
use Rattle.nz_reals.specs.Arranging.{IsTabledAtom, MayArrange}
use Rattle.nz_reals.specs.Stands.{IsOver}
use Rattle.nz_reals.specs.Starts.{MayRestart}
use Rattle.nz_reals.specs.State.{Theory}
use Rattle.nz_reals.specs.Sums.{AreNonzero}
use Rattle.nz_sat.specs.Numbers.{IsAtomAt, atom_literal}
use Rattle.nz_engine.specs.Checking.{AreLearnable, BeginsAnew, HasBegun, IsLearnable, IsNonzero, MayBegin, IsPlainAtom}

-- sums may be arranged of atoms that a theory may learn of
pub may_arrange : (t : Theory) (all : List Atom) (ids : List ℕ) → AreLearnable t all ids → MayArrange all ids
may_arrange t all ids h =
    record {
      table = h.table;
      is_table = h.over.table;
      within = All-weaker (IsLearnable h.table all) (IsAtomAt h.table all) (λ id one. one.within) ids h.each;
      nonzero = All-weaker (IsLearnable h.table all) (λ id. (b : Bound) → slice_get all id ≡ Some (AtMost b) → AreNonzero b.sides.parts)
          (λ id one b at. subst IsNonzero (get_or_from_slice_get all id (AtMost b) (Term 0) at) one.nonzero) ids h.each;
    }

-- what is a bound of these terms' tables is one of more terms' tables
tabled_more : (number : Numbering) (ts us : List spec.Term) (l : Literal) → IsTabled number us l → IsTabled number (ts ++ us) l
tabled_more number ts us l h =
    record { term = h.term; listed = Contains-append_right ts us h.term h.listed; row = h.row; tabled = h.tabled; linear = h.linear; has = h.has }

-- no bound says that a term is true
no_truth : (us : List spec.Term) (strict : Bool) (ps : List Part) (limit : Fraction) → IsTruth us (bounded strict ps limit) → ⊥
no_truth us true ps limit h = let is : is_below ps limit ≡ term_literal h.term true = h.is in absurd cc
no_truth us false ps limit h = let is : is_at_most ps limit ≡ term_literal h.term true = h.is in absurd cc

-- the bounds that a search may name are of the tables of the terms that it knows
tabled_atom : (ns : List Node) (q : Task) (all : List Atom) (id : ℕ) → IsPlainAtom q (atom_literal ns all id) → IsTabledAtom ns (terms_known q) all id
tabled_atom ns q all id (inr tabled) b at =
    (q.numbering, tabled_more q.numbering q.earlier q.listed (atom_literal ns all id) tabled)
tabled_atom ns q all id (inl truth) b at =
    let says : atom_literal ns all id ≡ literal_over ns b = ap (λ (o : Option Atom). elim o [ None ↦ term_literal (term_in ns 0) true | Some a ↦ with_sign true (atom_in ns a) ]) at in
    absurd (no_truth q.listed b.strict (parts_over ns b.sides.parts) b.sides.offset (subst (IsTruth q.listed) says truth))

module _ (all : List Atom) (ids : List ℕ) (t mid : Theory) (over : (ns : List Node) → IsOver t ns → All (IsAtomAt ns all) ids → IsOver mid ns) where
  -- a search that may begin with a theory may with the one that was arranged
  pub may_arranged : ((ns : List Node) (ts : List spec.Term) → All (IsAtomAt ns all) ids → All (IsTabledAtom ns ts all) ids → IsOver t ns → MayRestart t ns ts → MayRestart mid ns ts)
      → (ns : List Node) (q : Task) → MayBegin t ns q all ids → MayBegin mid ns q all ids
  may_arranged restarts ns q may =
      let tabled = All-weaker (λ i. IsPlainAtom q (atom_literal ns all i)) (IsTabledAtom ns (terms_known q) all) (tabled_atom ns q all) ids may.nameable in
      record {
        over = over ns may.over may.within;
        numbering = may.numbering;
        rest = restarts ns (terms_known q) may.within tabled may.over may.rest;
        within = may.within;
        nameable = may.nameable;
        once = may.once;
        atoms = may.atoms;
      }

  -- and what comes of it then comes of the theory
  module _ (rest : (ns : List Node) (q : Task) → MayBegin t ns q all ids → MayBegin mid ns q all ids) (new : Theory) (before after : WorkList Note) where
    begun_arranged : HasBegun mid all ids before after → HasBegun t all ids before after
    begun_arranged b = record { within = λ ns was within. b.within ns (over ns was within) within; units = b.units; limit = b.limit }

    pub begins_arranged : (r : Result (Unit {0}) Stop) → BeginsAnew all ids mid new before after r → BeginsAnew all ids t new before after r
    begins_arranged (Ok u) b =
        record {
          untold = b.untold;
          of = b.of;
          over = λ ns was within. b.over ns (over ns was within) within;
          begun = begun_arranged b.begun;
          noted = b.noted;
          stands = λ ns q may. b.stands ns q (rest ns q may);
          stopped = tt;
          plain = λ ns q may. b.plain ns q (rest ns q may);
          unspent = tt;
        }
    begins_arranged (Err e) b =
        record {
          untold = tt;
          of = tt;
          over = tt;
          begun = begun_arranged b.begun;
          noted = tt;
          stands = tt;
          stopped = λ ns q may. b.stopped ns q (rest ns q may);
          plain = λ ns q may. b.plain ns q (rest ns q may);
          unspent = b.unspent;
        }
