-- What literals say stays when atoms join, and when the table of terms grows.
use Rattle.std.proofs.Common.{◌≡◌, ℕ, ◌<◌, true, List, [], ◌∷◌, ◌++◌, length, Some, None, refl, sym, ap, subst, ◌∙◌, append_assoc, arith}
use Rattle.std.specs.Prelude.{slice_get}
use Rattle.std.specs.List.{AllByRecursion}
use Rattle.std.proofs.lemmas.List.{length-append}
use Rattle.nz_spec.specs.clauses.Farkas as farkas
use Rattle.nz_spec.specs.clauses.Farkas.{bound_of}
use Rattle.nz_spec.specs.clauses.Literal.{term_literal}
use Rattle.nz_spec.specs.clauses.Steps.{link_step, unit_step, farkas_step, branch_step, cut_step, IsSortedStep}
use Rattle.nz_spec.specs.terms.Table.{Node, IsTable, TermStays, term_in}
use Rattle.nz_spec.specs.terms.Term.{sort_of}
use Rattle.nz_lin.specs.declared.form.Part.{Part}
use Rattle.nz_lin.specs.Bounds.{bounded}
use Rattle.nz_lin.specs.Forms.{NamesUnit, parts_over}
use Rattle.nz_log.specs.declared.atoms.Atom.{Atom}
use Rattle.nz_log.specs.declared.atoms.Atom.TheVariants.{Term, AtMost}
use Rattle.nz_log.specs.declared.lits.Lit.{Lit}
use Rattle.nz_log.specs.declared.multiples.LitMultiple.{LitMultiple}
use Rattle.nz_log.specs.Atoms.{AreWithin, IsAtomIn, IsLitIn, Stay, atom_in, clause_in, literal_in, with_sign}
use Rattle.nz_log.specs.Axioms.{AreMultiplesIn, Axiom, link_of, unit_of, farkas_of, branch_of, cut_of, IsAxiom, IsAxiomIn, IsClauseOf, axiom_step, multiples_in}

-- what a literal says by its atom
pub literal_at : (ns : List Node) (atoms : List Atom) (l : Lit) (a : Atom) → slice_get atoms l.atom ≡ Some a → literal_in ns atoms l ≡ with_sign l.sign (atom_in ns a)
literal_at ns atoms l a at = ap (λ o. elim o [ None ↦ term_literal (term_in ns 0) l.sign | Some b ↦ with_sign l.sign (atom_in ns b) ]) at

-- ---- Atoms join

module _ (ns : List Node) (old new : List Atom) (stay : Stay old new) where
  pub lit_stays : (l : Lit) → IsLitIn ns old l → IsLitIn ns new l
  lit_stays l h = record { atom = h.atom; at = stay l.atom h.atom h.at; within = h.within }

  pub literal_stays : (l : Lit) → IsLitIn ns old l → literal_in ns new l ≡ literal_in ns old l
  literal_stays l h = literal_at ns new l h.atom (stay l.atom h.atom h.at) ∙ sym (literal_at ns old l h.atom h.at)

  pub all_stay : (c : List Lit) → AreWithin ns old c → AreWithin ns new c
  all_stay [] h = tt
  all_stay (l ∷ ls) h = (lit_stays l h.0, all_stay ls h.1)

  pub clause_stays : (c : List Lit) → AreWithin ns old c → clause_in ns new c ≡ clause_in ns old c
  clause_stays [] h = refl
  clause_stays (l ∷ ls) h = λ i. literal_stays l h.0 i ∷ clause_stays ls h.1 i

  multiples_in_stay : (ms : List LitMultiple) → AreMultiplesIn ns old ms → AreMultiplesIn ns new ms
  multiples_in_stay [] h = tt
  multiples_in_stay (m ∷ ms) h = (lit_stays m.literal h.0, multiples_in_stay ms h.1)

  pub multiples_stay : (ms : List LitMultiple) → AreMultiplesIn ns old ms → multiples_in ns new ms ≡ multiples_in ns old ms
  multiples_stay [] h = refl
  multiples_stay (m ∷ ms) h =
      λ i. (let n : farkas.Multiple = record { literal = literal_stays m.literal h.0 i; multiplier = m.multiplier } in n) ∷ multiples_stay ms h.1 i

  pub axiom_in_stays : (a : Axiom) → IsAxiomIn ns old a → IsAxiomIn ns new a
  axiom_in_stays (link_of t j) h = h
  axiom_in_stays (unit_of t j) h = h
  axiom_in_stays (farkas_of ms) h = multiples_in_stay ms h
  axiom_in_stays (branch_of l) h = lit_stays l h
  axiom_in_stays (cut_of ms) h = multiples_in_stay ms h

  pub step_stays : (a : Axiom) → IsAxiomIn ns old a → axiom_step ns new a ≡ axiom_step ns old a
  step_stays (link_of t j) h = refl
  step_stays (unit_of t j) h = refl
  step_stays (farkas_of ms) h = ap farkas_step (multiples_stay ms h)
  step_stays (branch_of l) h = ap (λ k. branch_step (bound_of k).parts (bound_of k).limit) (literal_stays l h)
  step_stays (cut_of ms) h = ap cut_step (multiples_stay ms h)

  pub axiom_stays : (a : Axiom) (c : List Lit) → IsAxiom ns old a c → IsAxiom ns new a c
  axiom_stays a c h =
      record {
        within = axiom_in_stays a h.within;
        sorted = subst IsSortedStep (sym (step_stays a h.within)) h.sorted;
        taken = λ more later table still. h.taken more later table (λ i b at. still i b (stay i b at));
      }

-- ---- Terms join

module _ (stays : TermStays) (ns more : List Node) where
  pub wider : (i : ℕ) → i < length ns → i < length (ns ++ more)
  wider i h = omega (arith, length-append ns more)

  units_wider : (ps : List Part) → AllByRecursion (NamesUnit ns) ps → AllByRecursion (NamesUnit (ns ++ more)) ps
  units_wider [] h = tt
  units_wider (p ∷ ps) h = ((wider p.unit h.0.0, h.0.1 ∙ ap sort_of (sym (stays ns more p.unit h.0.0))), units_wider ps h.1)

  parts_stay : (ps : List Part) → AllByRecursion (NamesUnit ns) ps → parts_over (ns ++ more) ps ≡ parts_over ns ps
  parts_stay [] h = refl
  parts_stay (p ∷ ps) h = λ i. record { coefficient = p.coefficient; unit = stays ns more p.unit h.0.0 i } ∷ parts_stay ps h.1 i

  pub atom_wider : (a : Atom) → IsAtomIn ns a → IsAtomIn (ns ++ more) a
  atom_wider (Term t) h = wider t h
  atom_wider (AtMost b) h = record { names = units_wider b.sides.parts h.names; in_order = h.in_order }

  same_atom : (a : Atom) → IsAtomIn ns a → atom_in (ns ++ more) a ≡ atom_in ns a
  same_atom (Term t) h = ap (λ u. term_literal u true) (stays ns more t h)
  same_atom (AtMost b) h = ap (λ ps. bounded b.strict ps b.sides.offset) (parts_stay b.sides.parts h.names)

  module _ (atoms : List Atom) where
    pub lit_wider : (l : Lit) → IsLitIn ns atoms l → IsLitIn (ns ++ more) atoms l
    lit_wider l h = record { atom = h.atom; at = h.at; within = atom_wider h.atom h.within }

    pub same_literal : (l : Lit) → IsLitIn ns atoms l → literal_in (ns ++ more) atoms l ≡ literal_in ns atoms l
    same_literal l h =
        literal_at (ns ++ more) atoms l h.atom h.at ∙ ap (with_sign l.sign) (same_atom h.atom h.within) ∙ sym (literal_at ns atoms l h.atom h.at)

    pub all_wider : (c : List Lit) → AreWithin ns atoms c → AreWithin (ns ++ more) atoms c
    all_wider [] h = tt
    all_wider (l ∷ ls) h = (lit_wider l h.0, all_wider ls h.1)

    pub same_clause : (c : List Lit) → AreWithin ns atoms c → clause_in (ns ++ more) atoms c ≡ clause_in ns atoms c
    same_clause [] h = refl
    same_clause (l ∷ ls) h = λ i. same_literal l h.0 i ∷ same_clause ls h.1 i

    multiples_wider : (ms : List LitMultiple) → AreMultiplesIn ns atoms ms → AreMultiplesIn (ns ++ more) atoms ms
    multiples_wider [] h = tt
    multiples_wider (m ∷ ms) h = (lit_wider m.literal h.0, multiples_wider ms h.1)

    same_multiples : (ms : List LitMultiple) → AreMultiplesIn ns atoms ms → multiples_in (ns ++ more) atoms ms ≡ multiples_in ns atoms ms
    same_multiples [] h = refl
    same_multiples (m ∷ ms) h =
        λ i. (let n : farkas.Multiple = record { literal = same_literal m.literal h.0 i; multiplier = m.multiplier } in n) ∷ same_multiples ms h.1 i

    pub axiom_in_wider : (a : Axiom) → IsAxiomIn ns atoms a → IsAxiomIn (ns ++ more) atoms a
    axiom_in_wider (link_of t j) h = wider t h
    axiom_in_wider (unit_of t j) h = wider t h
    axiom_in_wider (farkas_of ms) h = multiples_wider ms h
    axiom_in_wider (branch_of l) h = lit_wider l h
    axiom_in_wider (cut_of ms) h = multiples_wider ms h

    pub same_step : (a : Axiom) → IsAxiomIn ns atoms a → axiom_step (ns ++ more) atoms a ≡ axiom_step ns atoms a
    same_step (link_of t j) h = ap (λ u. link_step u j) (stays ns more t h)
    same_step (unit_of t j) h = ap (λ u. unit_step u j) (stays ns more t h)
    same_step (farkas_of ms) h = ap farkas_step (same_multiples ms h)
    same_step (branch_of l) h = ap (λ k. branch_step (bound_of k).parts (bound_of k).limit) (same_literal l h)
    same_step (cut_of ms) h = ap cut_step (same_multiples ms h)

    pub axiom_wider : (a : Axiom) (c : List Lit) → IsAxiom ns atoms a c → IsAxiom (ns ++ more) atoms a c
    axiom_wider a c h =
        record {
          within = axiom_in_wider a h.within;
          sorted = subst IsSortedStep (sym (same_step a h.within)) h.sorted;
          taken = λ rest later table still.
              subst (λ ms. IsClauseOf ms later a c) (sym (append_assoc ns more rest))
              (h.taken (more ++ rest) later (subst IsTable (append_assoc ns more rest) table) still);
        }
