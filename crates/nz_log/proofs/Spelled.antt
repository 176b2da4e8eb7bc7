-- Steps that are spelled out derive their clauses.
use Rattle.std.proofs.Common.{◌≡◌, ℕ, zero, suc, ◌<◌, ◌≤◌, ◌+◌, Bool, true, false, List, [], ◌∷◌, ◌++◌, length, Some, None, inl, inr, refl, sym, ap, subst, ◌∙◌, true≢false, append_assoc, arith}
use Rattle.std.specs.Prelude.{flat_map, slice_get, slice_set, slice_index, option_map}
use Rattle.std.specs.List.{AllByRecursion}
use Rattle.std.proofs.lemmas.Option.{option_and_then_some, slice_get-map}
use Rattle.std.proofs.lemmas.List.{append-nil, length-append}
use Rattle.std.proofs.lemmas.List.Elements.{recursion_from_All}
use Rattle.std.proofs.lemmas.Grind.{flat_map-append}
use Rattle.nz_fractions.specs.Fraction.{first_wide}
use Rattle.nz_fractions.proofs.FirstOperations.{first_wide-none, no_operation}
use Rattle.nz_spec.specs.terms.Table.{Node, IsTable, term_in}
use Rattle.nz_spec.specs.terms.Form.{Numbering}
use Rattle.nz_spec.specs.terms.FormOf.{number_in}
use Rattle.nz_spec.specs.clauses.Literal.{Clause, resolvent}
use Rattle.nz_spec.specs.clauses.Gates.{holds}
use Rattle.nz_spec.specs.clauses.Steps as spec
use Rattle.nz_spec.specs.clauses.Steps.{Premises, asserting, given_step, gate_step, resolve_step, step_clause, step_operations, clauses_behind, IsDerivation, StepsFit, Derives, DerivationsGrow}
use Rattle.nz_lists.proofs.Places.{slice_get_kept}
use Rattle.nz_lists.proofs.Numbers.{same_or_other}
use Rattle.nz_log.specs.declared.atoms.Atom.{Atom}
use Rattle.nz_log.specs.declared.lits.Lit.{Lit}
use Rattle.nz_log.specs.declared.origins.Link.{Link}
use Rattle.nz_log.specs.declared.steps.Step as own
use Rattle.nz_log.specs.Atoms.{AreWithin, IsLitIn, LiteralsAgree, clause_in, literal_in}
use Rattle.nz_log.specs.Axioms.{axiom_step}
use Rattle.nz_log.specs.Lits.{lit_resolvent}
use Rattle.nz_log.specs.Logs.{RestsOn, Origin, assertion_of, gate_of, axiom_of, chain_of, Entry, LogState, entry_at, literals_at, level_at, chained}
use Rattle.nz_log.specs.Sound.{live_at, live_terms, IsLink, IsMade, IsLog}
use Rattle.nz_log.specs.Spelling.{is_marked, AreMarked, chain_steps, chain_place, origin_steps, origin_place, steps_of}
use Rattle.nz_log.proofs.Members.{each-resolvent}
use Rattle.nz_log.proofs.LiteralAgreement.{resolvent_named}
use Rattle.nz_log.proofs.Taken.{axiom_fits, axiom_taken}
use Rattle.nz_log.proofs.Soundness.{live_grows, within_at}

-- ---- Derivations that go on

-- there is a clause for each step
lengths : (number : Numbering) (premises : Premises) (steps : List spec.Step) (earlier clauses : List Clause) → clauses_behind number premises earlier steps ≡ Some clauses
    → length clauses ≡ length earlier + length steps
lengths number premises [] earlier clauses e = let same : earlier ≡ clauses = cc in omega (arith, ap length same)
lengths number premises (s ∷ ss) earlier clauses e =
    option_and_then_some (λ c. clauses_behind number premises (earlier ++ c ∷ []) ss) (step_clause number premises earlier s) clauses e
    (λ c at rest. omega (arith, lengths number premises ss (earlier ++ c ∷ []) clauses rest, length-append earlier (c ∷ [])))

-- no operation of one step more leaves the numbers
fits_more : (number : Numbering) (premises : Premises) (steps : List spec.Step) (s : spec.Step) → StepsFit number premises steps
    → first_wide (step_operations number premises s) ≡ None → StepsFit number premises (steps ++ s ∷ [])
fits_more number premises steps s fit one =
    let of = step_operations number premises in
    ap first_wide (flat_map-append of steps (s ∷ [])) ∙ first_wide-none (flat_map of steps) (of s ++ []) fit ∙ ap first_wide (append-nil (of s)) ∙ one

seam : {X : Type 0} (xs : List X) (x : X) (n : ℕ) → n ≡ length xs → slice_get (xs ++ x ∷ []) n ≡ Some x
seam [] x zero e = refl
seam [] x (suc n) e = absurd (omega arith)
seam (y ∷ ys) x zero e = absurd (omega arith)
seam (y ∷ ys) x (suc n) e = seam ys x n (omega arith)

-- The steps fit, and derive clauses that begin with those from before, and at this place this one.
pub record IsBehind (number : Numbering) (premises : Premises) (steps : List spec.Step) (before : List Clause) (place : ℕ) (c : Clause) : Type 0 where
  pub clauses : List Clause
  pub derivation : IsDerivation number premises steps clauses
  pub fits : StepsFit number premises steps
  pub kept : (i : ℕ) (x : Clause) → slice_get before i ≡ Some x → slice_get clauses i ≡ Some x
  pub here : slice_get clauses place ≡ Some c

one_more : DerivationsGrow → (number : Numbering) (premises : Premises) (steps : List spec.Step) (before : List Clause) (s : spec.Step) (c : Clause) (n : ℕ) → n ≡ length steps
    → IsDerivation number premises steps before → StepsFit number premises steps → step_clause number premises before s ≡ Some c → first_wide (step_operations number premises s) ≡ None
    → IsBehind number premises (steps ++ s ∷ []) before n c
one_more grow number premises steps before s c n long d fit e one =
    let count = lengths number premises steps [] before d in
    record {
      clauses = before ++ c ∷ [];
      derivation = grow.step number premises steps before s c d e;
      fits = fits_more number premises steps s fit one;
      kept = λ i x at. slice_get_kept before (c ∷ []) i x at;
      here = seam before c n (omega (arith, long, count));
    }

module _ (grow : DerivationsGrow) (ns : List Node) (levels : List (List ℕ)) (s : LogState) (agree : LiteralsAgree ns s.atoms) (order : IsLog ns levels s) (premises : Premises) where
  -- a link whose clause has its place
  abbrev IsPlaced : List ℕ → List Clause → Link → Type 0
  IsPlaced places before k = (slice_get before (slice_index places k.clause) ≡ Some (clause_in ns s.atoms (literals_at s k.clause))) × IsLitIn ns s.atoms k.literal

  placed_kept : (places : List ℕ) (before after : List Clause) → ((i : ℕ) (x : Clause) → slice_get before i ≡ Some x → slice_get after i ≡ Some x)
      → (ks : List Link) → AllByRecursion (IsPlaced places before) ks → AllByRecursion (IsPlaced places after) ks
  placed_kept places before after kept [] h = tt
  placed_kept places before after kept (k ∷ ks) h = ((kept _ _ h.0.0, h.0.1), placed_kept places before after kept ks h.1)

  chain_behind : (places : List ℕ) (ks : List Link) (steps : List spec.Step) (before : List Clause) (c : List Lit) (current n : ℕ) → AreWithin ns s.atoms c → n ≡ length steps
      → IsDerivation (number_in ns) premises steps before → StepsFit (number_in ns) premises steps → slice_get before current ≡ Some (clause_in ns s.atoms c) → AllByRecursion (IsPlaced places before) ks
      → IsBehind (number_in ns) premises (steps ++ chain_steps ns s.atoms places n current ks) before (chain_place n current ks) (clause_in ns s.atoms (chained s c ks))
  chain_behind places [] steps before c current n w long d fit here h =
      subst (λ rs. IsBehind (number_in ns) premises rs before current (clause_in ns s.atoms c)) (sym (append-nil steps))
      (record { clauses = before; derivation = d; fits = fit; kept = λ i x at. at; here = here })
  chain_behind places (k ∷ ks) steps before c current n w long d fit here h =
      let l = literal_in ns s.atoms k.literal in
      let e = literals_at s k.clause in
      let within = within_at ns levels s order k.clause (entry_at s k.clause) refl in
      let place = slice_index places k.clause in
      let r = resolve_step current place l in
      let next = lit_resolvent k.literal c e in
      let gives : step_clause (number_in ns) premises before r ≡ Some (clause_in ns s.atoms next) =
      ap (λ o. elim o [ None ↦ None | Some x ↦ option_map (resolvent l x) (slice_get before place) ]) here
      ∙ ap (option_map (resolvent l (clause_in ns s.atoms c))) h.0.0
      ∙ ap Some (sym (resolvent_named ns s.atoms agree k.literal c e h.0.1 w within)) in
      let pushed = one_more grow (number_in ns) premises steps before r (clause_in ns s.atoms next) n long d fit gives no_operation in
      let rest = chain_behind places ks (steps ++ r ∷ []) pushed.clauses next n (suc n)
      (each-resolvent (IsLitIn ns s.atoms) k.literal c e w within)
      (omega (arith, long, length-append steps (r ∷ [])))
      pushed.derivation pushed.fits pushed.here (placed_kept places before pushed.clauses pushed.kept ks h.1) in
      subst (λ rs. IsBehind (number_in ns) premises rs before (chain_place (suc n) n ks) (clause_in ns s.atoms (chained s next ks)))
      (append_assoc steps (r ∷ []) (chain_steps ns s.atoms places (suc n) n ks))
      (record { clauses = rest.clauses; derivation = rest.derivation; fits = rest.fits; kept = λ i x at. rest.kept i x (pushed.kept i x at); here = rest.here })

-- ---- The steps of a clause

module _ (grow : DerivationsGrow) (ns : List Node) (table : IsTable ns) (levels : List (List ℕ)) (s : LogState) (agree : LiteralsAgree ns s.atoms) (order : IsLog ns levels s)
    (level : ℕ) (marks : List Bool) (places : List ℕ) (before : List Clause) where
  abbrev live : Premises
  live = asserting (live_terms ns levels level)

  links_placed : (id n : ℕ) → ((j : ℕ) → j < id → is_marked marks j ≡ true → slice_get before (slice_index places j) ≡ Some (clause_in ns s.atoms (literals_at s j)))
      → (ks : List Link) → AllByRecursion (IsLink ns s id n) ks → AllByRecursion (λ (k : Link). is_marked marks k.clause ≡ true) ks
      → AllByRecursion (IsPlaced grow ns levels s agree order live places before) ks
  links_placed id n at [] h m = tt
  links_placed id n at (k ∷ ks) h m = ((at k.clause h.0.premise.before m.0, h.0.within), links_placed id n at ks h.1 m.1)

  origin_behind : (id : ℕ) (e : Entry) → e.level ≤ level → (o : Origin) → IsMade ns levels s id e o → AreMarked marks o
      → ((j : ℕ) → j < id → is_marked marks j ≡ true → slice_get before (slice_index places j) ≡ Some (clause_in ns s.atoms (literals_at s j)))
      → (steps : List spec.Step) (n : ℕ) → n ≡ length steps → IsDerivation (number_in ns) live steps before → StepsFit (number_in ns) live steps
      → IsBehind (number_in ns) live (steps ++ origin_steps ns s.atoms places n o) before (origin_place places n o) (clause_in ns s.atoms e.literals)
  origin_behind id e below (assertion_of k) m marked at steps n long d fit =
      let there = live_grows levels (suc e.level) (suc level) (omega arith) k m.0 m.1 in
      one_more grow (number_in ns) live steps before (given_step k) (clause_in ns s.atoms e.literals) n long d fit
      (ap (option_map (λ t. holds t ∷ [])) (slice_get-map (term_in ns) (live_at levels level) k ∙ ap (option_map (term_in ns)) there)
      ∙ ap Some (sym m.3)) no_operation
  origin_behind id e below (gate_of t j) m marked at steps n long d fit =
      one_more grow (number_in ns) live steps before (gate_step (term_in ns t) j) (clause_in ns s.atoms e.literals) n long d fit m.2 no_operation
  origin_behind id e below (axiom_of a) m marked at steps n long d fit =
      one_more grow (number_in ns) live steps before (axiom_step ns s.atoms a) (clause_in ns s.atoms e.literals) n long d fit
      (axiom_taken ns table s.atoms a e.literals live m before) (axiom_fits ns table s.atoms a e.literals live m)
  origin_behind id e below (chain_of first ks) m marked at steps n long d fit =
      subst (λ c. IsBehind (number_in ns) live (steps ++ chain_steps ns s.atoms places n (slice_index places first) ks) before
      (chain_place n (slice_index places first) ks) (clause_in ns s.atoms c)) (sym m.2)
      (chain_behind grow ns levels s agree order live places ks steps before (literals_at s first) (slice_index places first) n
      (within_at ns levels s order first (entry_at s first) refl) long d fit (at first m.0.before marked.0)
      (links_placed id e.level at ks m.1 (recursion_from_All (λ (k : Link). is_marked marks k.clause ≡ true) ks marked.1)))

-- ---- The steps of all that a clause rests on

-- The steps so far fit, and derive the marked clauses below a number, each at its place.
pub record ArePlaced (ns : List Node) (levels : List (List ℕ)) (s : LogState) (level : ℕ) (marks : List Bool) (places : List ℕ) (steps : List spec.Step) (i : ℕ) : Type 0 where
  pub clauses : List Clause
  pub derivation : IsDerivation (number_in ns) (asserting (live_terms ns levels level)) steps clauses
  pub fits : StepsFit (number_in ns) (asserting (live_terms ns levels level)) steps
  pub at : (j : ℕ) → j < i → is_marked marks j ≡ true → slice_get clauses (slice_index places j) ≡ Some (clause_in ns s.atoms (literals_at s j))

-- without a step nothing is derived yet
placed_none : (ns : List Node) (levels : List (List ℕ)) (s : LogState) (level : ℕ) (marks : List Bool) (places : List ℕ) → ArePlaced ns levels s level marks places [] 0
placed_none ns levels s level marks places = record { clauses = []; derivation = refl; fits = no_operation; at = λ j less m. absurd (omega (arith, less)) }

pub placed_first : (ns : List Node) (levels : List (List ℕ)) (s : LogState) (level : ℕ) (marks : List Bool) (places : List ℕ) (ss : List own.Step) → ss ≡ []
    → ArePlaced ns levels s level marks places (steps_of ns ss) 0
placed_first ns levels s level marks places ss none =
    subst (λ (xs : List own.Step). ArePlaced ns levels s level marks places (steps_of ns xs) 0) (sym none) (placed_none ns levels s level marks places)

index_here : (xs : List ℕ) (i v : ℕ) → i < length xs → slice_index (slice_set xs i v) i ≡ v
index_here [] i v h = absurd (omega arith)
index_here (x ∷ xs) zero v h = refl
index_here (x ∷ xs) (suc i) v h = index_here xs i v (omega arith)

index_other : (xs : List ℕ) (i j v : ℕ) → (j ≡ i → ⊥) → slice_index (slice_set xs i v) j ≡ slice_index xs j
index_other [] i j v other = refl
index_other (x ∷ xs) zero zero v other = absurd (other refl)
index_other (x ∷ xs) zero (suc j) v other = refl
index_other (x ∷ xs) (suc i) zero v other = refl
index_other (x ∷ xs) (suc i) (suc j) v other = index_other xs i j v (λ same. other (ap suc same))

module _ (grow : DerivationsGrow) (ns : List Node) (table : IsTable ns) (levels : List (List ℕ)) (s : LogState) (agree : LiteralsAgree ns s.atoms) (order : IsLog ns levels s)
    (level : ℕ) (marks : List Bool) (places : List ℕ) (steps : List spec.Step) (n : ℕ) (long : n ≡ length steps) (i : ℕ)
    (placed : ArePlaced ns levels s level marks places steps i) where
  -- the steps of the clause of the next number derive it
  next_behind : (e : Entry) → entry_at s i ≡ Some e → e.level ≤ level → AreMarked marks e.origin
      → IsBehind (number_in ns) (asserting (live_terms ns levels level)) (steps ++ origin_steps ns s.atoms places n e.origin) placed.clauses
      (origin_place places n e.origin) (clause_in ns s.atoms e.literals)
  next_behind e at below marked =
      origin_behind grow ns table levels s agree order level marks places placed.clauses i e below e.origin (order.clauses i e at).made marked placed.at steps n long
      placed.derivation placed.fits

  pub placed_next : (e : Entry) → entry_at s i ≡ Some e → e.level ≤ level → AreMarked marks e.origin → i < length places
      → (next : List spec.Step) → next ≡ steps ++ origin_steps ns s.atoms places n e.origin → (place : ℕ) → place ≡ origin_place places n e.origin
      → ArePlaced ns levels s level marks (slice_set places i place) next (suc i)
  placed_next e at below marked within next steps_are place place_is =
      let b = next_behind e at below marked in
      record {
        clauses = b.clauses;
        derivation = subst (λ rs. IsDerivation (number_in ns) (asserting (live_terms ns levels level)) rs b.clauses) (sym steps_are) b.derivation;
        fits = subst (StepsFit (number_in ns) (asserting (live_terms ns levels level))) (sym steps_are) b.fits;
        at = λ j less m.
            elim (same_or_other j i) [
              | inl same ↦
                  ap (λ k. slice_get b.clauses (slice_index (slice_set places i place) k)) same
                  ∙ ap (slice_get b.clauses) (index_here places i place within ∙ place_is)
                  ∙ b.here
                  ∙ ap (λ c. Some (clause_in ns s.atoms c)) (sym (ap (λ o. elim o [ None ↦ [] | Some f ↦ f.literals ]) (ap (entry_at s) same ∙ at)))
              | inr other ↦
                  ap (slice_get b.clauses) (index_other places i j place other)
                  ∙ b.kept (slice_index places j) (clause_in ns s.atoms (literals_at s j)) (placed.at j (omega (arith, other)) m)
            ];
      }

  pub placed_skip : is_marked marks i ≡ false → ArePlaced ns levels s level marks places steps (suc i)
  placed_skip unmarked =
      record {
        clauses = placed.clauses;
        derivation = placed.derivation;
        fits = placed.fits;
        at = λ j less m.
            elim (same_or_other j i) [
              | inl same ↦ absurd (true≢false (sym m ∙ ap (is_marked marks) same ∙ unmarked))
              | inr other ↦ placed.at j (omega (arith, other)) m
            ];
      }

-- ---- The last step

-- a list whose last element is known
last_split : {X : Type 0} (xs : List X) (n : ℕ) (x : X) → length xs ≡ suc n → slice_get xs n ≡ Some x → (front : List X) × (xs ≡ front ++ x ∷ [])
last_split [] n x long at = absurd (omega arith)
last_split (y ∷ []) zero x long at = let same : y ≡ x = cc in ([], ap (λ z. z ∷ []) same)
last_split (y ∷ []) (suc n) x long at = absurd (omega arith)
last_split (y ∷ z ∷ zs) zero x long at = absurd (omega arith)
last_split (y ∷ z ∷ zs) (suc n) x long at =
    let rest = last_split (z ∷ zs) n x (omega arith) at in (y ∷ rest.0, ap (λ ys. y ∷ ys) rest.1)

-- a chain's last step is the last
chain_last : (ns : List Node) (atoms : List Atom) (places : List ℕ) (n first : ℕ) (ks : List Link) → 0 < length ks
    → suc (chain_place n first ks) ≡ n + length (chain_steps ns atoms places n first ks)
chain_last ns atoms places n first [] some = absurd (omega arith)
chain_last ns atoms places n first (k ∷ []) some = omega arith
chain_last ns atoms places n first (k ∷ l ∷ ks) some = omega (arith, chain_last ns atoms places (suc n) n (l ∷ ks) (omega arith))

origin_last : (ns : List Node) (s : LogState) (id level : ℕ) (places : List ℕ) (n : ℕ) (o : Origin) → RestsOn s id level o
    → suc (origin_place places n o) ≡ n + length (origin_steps ns s.atoms places n o)
origin_last ns s id level places n (assertion_of k) r = omega arith
origin_last ns s id level places n (gate_of t j) r = omega arith
origin_last ns s id level places n (axiom_of a) r = omega arith
origin_last ns s id level places n (chain_of first ks) r = chain_last ns s.atoms places n (slice_index places first) ks r.1

module _ (grow : DerivationsGrow) (ns : List Node) (table : IsTable ns) (levels : List (List ℕ)) (s : LogState) (agree : LiteralsAgree ns s.atoms) (order : IsLog ns levels s)
    (marks : List Bool) (places : List ℕ) (steps : List spec.Step) (n : ℕ) (long : n ≡ length steps) (id : ℕ)
    (placed : ArePlaced ns levels s (level_at s id) marks places steps id) where
  pub all_derive : (e : Entry) → entry_at s id ≡ Some e → RestsOn s id e.level e.origin → AreMarked marks e.origin
      → (next : List spec.Step) → next ≡ steps ++ origin_steps ns s.atoms places n e.origin
      → Derives (number_in ns) (asserting (live_terms ns levels (level_at s id))) next (clause_in ns s.atoms (literals_at s id))
  all_derive e at rests marked next steps_are =
      let same : level_at s id ≡ e.level = ap (λ o. elim o [ None ↦ 0 | Some f ↦ f.level ]) at in
      let all = steps ++ origin_steps ns s.atoms places n e.origin in
      let live = asserting (live_terms ns levels (level_at s id)) in
      let b = next_behind grow ns table levels s agree order (level_at s id) marks places steps n long id placed e at (omega (arith, same)) marked in
      let count = lengths (number_in ns) live all [] b.clauses b.derivation in
      let place = origin_last ns s id e.level places n e.origin rests in
      let added = length-append steps (origin_steps ns s.atoms places n e.origin) in
      let full : length b.clauses ≡ suc (origin_place places n e.origin) = omega (arith, count, place, added, long) in
      let split = last_split b.clauses (origin_place places n e.origin) (clause_in ns s.atoms e.literals) full b.here in
      let literals : literals_at s id ≡ e.literals = ap (λ o. elim o [ None ↦ [] | Some f ↦ f.literals ]) at in
      subst (λ rs. Derives (number_in ns) live rs (clause_in ns s.atoms (literals_at s id))) (sym steps_are)
      (subst (λ c. Derives (number_in ns) live all (clause_in ns s.atoms c)) (sym literals)
      (record { front = split.0; derivation = b.derivation ∙ ap Some split.1; fits = b.fits }))
