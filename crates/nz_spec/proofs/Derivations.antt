-- Derivations: what they derive is true, and how they go on.
use Rattle.std.proofs.Common.{◌≡◌, ℕ, zero, suc, Bool, false, not, ◌||◌, List, [], ◌∷◌, ◌++◌, Option, Some, None, refl, sym, ap, ap₂, subst, ◌∙◌, true≢false}
use Rattle.std.specs.Prelude.{Contains, IsTrue, slice_get, option_map}
use Rattle.std.specs.List.{AllByRecursion}
use Rattle.nz_spec.specs.numbers.Computation.{Computation, at_once, turned_into}
use Rattle.nz_spec.specs.terms.Term.{Term, Assignment, is_true, value_of, IsTrueUnder}
use Rattle.nz_spec.specs.terms.Form.{Numbering}
use Rattle.nz_spec.specs.terms.Model.{IsAssignment}
use Rattle.nz_spec.specs.clauses.Literal.{Literal, negation_of, is_literal_true, AreTrueLiterals, Clause, clause_of, resolvent, is_clause_true, IsClauseTrue}
use Rattle.nz_spec.specs.clauses.Gates.{holds, gate_clauses}
use Rattle.nz_spec.specs.clauses.Goals.{goal_value, compared, beats}
use Rattle.nz_spec.specs.clauses.Links.{link_clauses}
use Rattle.nz_spec.specs.clauses.Units.{unit_clauses}
use Rattle.nz_spec.specs.clauses.Steps.{Held, Claim, Premises, asserting, IsClaimed, AreMet, Step, given_step, hold_step, beat_step, gate_step, link_step, unit_step, farkas_step, branch_step, cut_step, resolve_step, step_clause, clauses_behind, Derives, hold_clause, claim_clause, IsSortedStep, DerivedClausesAreTrue, EmptyClauseRefutes, DerivationsGrow}
use Rattle.nz_lists.proofs.Members.{each_of}
use Rattle.nz_fractions.specs.Fraction.{◌=ℚ◌}
use Rattle.nz_spec.proofs.ComparedGoals.{held_compared, beaten}
use Rattle.nz_spec.proofs.Literals.{negation_is, or_first, together, resolvent_is_true}
use Rattle.nz_spec.proofs.GateTruths.{all-append, gates_are_true}
use Rattle.nz_spec.proofs.CutSums.{cuts_are_true}
use Rattle.nz_spec.proofs.FarkasSums.{farkas_clauses_are_true}
use Rattle.nz_spec.proofs.IntegerSums.{branches_are_true}
use Rattle.nz_spec.proofs.LinkTruths.{links_are_true}
use Rattle.nz_spec.proofs.UnitTruths.{units_are_true}

-- ---- Lists and options

-- what holds of each holds of the one at a place
pub at_place : {X : Type 0} (P : X → Type 0) (xs : List X) (i : ℕ) (x : X) → AllByRecursion P xs → slice_get xs i ≡ Some x → P x
at_place P [] i x h e = cc
at_place P (y ∷ ys) zero x h e = let same : y ≡ x = cc in subst P same h.0
at_place P (y ∷ ys) (suc i) x h e = at_place P ys i x h.1 e

-- and of the last
last_of : {X : Type 0} (P : X → Type 0) (xs : List X) (x : X) → AllByRecursion P (xs ++ x ∷ []) → P x
last_of P [] x h = h.0
last_of P (y ∷ ys) x h = last_of P ys x h.1

-- the first elements of a list stay when it grows
pub get_stays : {X : Type 0} (xs ys : List X) (i : ℕ) (x : X) → slice_get xs i ≡ Some x → slice_get (xs ++ ys) i ≡ Some x
get_stays [] ys i x e = cc
get_stays (z ∷ zs) ys zero x e = e
get_stays (z ∷ zs) ys (suc i) x e = get_stays zs ys i x e

pub mapped : {X Y : Type 0} (f : X → Y) (o : Option X) (y : Y) → option_map f o ≡ Some y → (x : X) × (o ≡ Some x) × (f x ≡ y)
mapped f None y e = cc
mapped f (Some x) y e = let same : f x ≡ y = cc in (x, refl, same)

pub taken : {X Y : Type 0} (o : Option X) (f : X → Option Y) (y : Y) → elim o [ None ↦ None | Some x ↦ f x ] ≡ Some y
    → (x : X) × (o ≡ Some x) × (f x ≡ Some y)
taken None f y e = cc
taken (Some x) f y e = (x, refl, e)

-- ---- What is derived is true

-- the clause that was found in a table, if one was
abbrev row_of : Option (Computation Clause) → Computation (Option Clause)
row_of o = elim o [ None ↦ at_once None | Some d ↦ turned_into (λ ls. Some (clause_of ls)) d ]

-- of a table whose clauses are true
row_is_true : (a : Assignment) (cs : List (Computation Clause)) (o : Option (Computation Clause)) (j : ℕ) (c : Clause) → AllByRecursion (λ (d : Computation Clause). IsClauseTrue a d.result) cs
    → slice_get cs j ≡ o → (row_of o).result ≡ Some c → IsClauseTrue a c
row_is_true a cs None j c h e f = absurd (cc)
row_is_true a cs (Some d) j c h e f =
    let same : clause_of d.result ≡ c = cc in
    subst (IsClauseTrue a) same (together a d.result ∙ at_place (λ (d : Computation Clause). IsClauseTrue a d.result) cs j d h e)

-- ---- Goals that are held, and claims

held_is_true : (a : Assignment) (hs : List Held) → AllByRecursion (λ (h : Held). goal_value a h.goal =ℚ h.value) hs → (from_above : Bool) (o : Option Held) (i : ℕ) (c : Clause)
    → slice_get hs i ≡ o → (hold_clause from_above o).result ≡ Some c → IsClauseTrue a c
held_is_true a hs all from_above None i c at e = absurd (cc)
held_is_true a hs all from_above (Some h) i c at e =
    let same : (compared h.goal from_above false h.value).result ∷ [] ≡ c = cc in
    subst (IsClauseTrue a) same
    (or_first (is_literal_true a (compared h.goal from_above false h.value).result) false
    (held_compared a h.goal from_above h.value (at_place (λ (x : Held). goal_value a x.goal =ℚ x.value) hs i h all at)))

claim_is_true : (a : Assignment) (o : Option Claim) → IsClaimed o a → (c : Clause) → (claim_clause o).result ≡ Some c
    → IsClauseTrue a c
claim_is_true a None claimed c e = absurd (cc)
claim_is_true a (Some d) claimed c e =
    let same : (beats d.goal d.strict d.value).result ∷ [] ≡ c = cc in
    subst (IsClauseTrue a) same (or_first (is_literal_true a (beats d.goal d.strict d.value).result) false (beaten a d.goal d.strict d.value claimed))

step_is_true : (number : Numbering) (p : Premises) (a : Assignment) → IsAssignment a → AreMet p a
    → (earlier : List Clause) → AllByRecursion (IsClauseTrue a) earlier → (s : Step) (c : Clause) → IsSortedStep s
    → step_clause number p earlier s ≡ Some c → IsClauseTrue a c
step_is_true number p a good model earlier facts (given_step k) c b e =
    let m = mapped (λ t. holds t ∷ []) (slice_get p.asserted k) c e in
    subst (IsClauseTrue a) m.2 (or_first (is_true (value_of a m.0)) false (at_place (IsTrueUnder a) p.asserted k m.0 model.asserted m.1))
step_is_true number p a good model earlier facts (hold_step i from_above) c b e = held_is_true a p.held model.held from_above (slice_get p.held i) i c refl e
step_is_true number p a good model earlier facts beat_step c b e = claim_is_true a p.claim model.claimed c e
step_is_true number p a good model earlier facts (gate_step t j) c b e =
    let m = mapped clause_of (slice_get (gate_clauses t) j) c e in
    subst (IsClauseTrue a) m.2 (together a m.0 ∙ at_place (IsClauseTrue a) (gate_clauses t) j m.0 (gates_are_true a good t b) m.1)
step_is_true number p a good model earlier facts (link_step t j) c b e =
    row_is_true a (link_clauses number t) (slice_get (link_clauses number t) j) j c (links_are_true number a good t b) refl e
step_is_true number p a good model earlier facts (unit_step t j) c b e =
    row_is_true a (unit_clauses number t) (slice_get (unit_clauses number t) j) j c (units_are_true number a good t b) refl e
step_is_true number p a good model earlier facts (farkas_step ms) c b e = farkas_clauses_are_true number ms c e a
step_is_true number p a good model earlier facts (branch_step ps k) c b e = branches_are_true ps k c b e a good
step_is_true number p a good model earlier facts (cut_step ms) c b e = cuts_are_true number ms c b e a good
step_is_true number p a good model earlier facts (resolve_step i j l) c b e =
    let m = taken (slice_get earlier i) (λ d. option_map (resolvent l d) (slice_get earlier j)) c e in
    let n = mapped (resolvent l m.0) (slice_get earlier j) c m.2 in
    subst (IsClauseTrue a) n.2
    (resolvent_is_true a l m.0 n.0 (at_place (IsClauseTrue a) earlier i m.0 facts m.1) (at_place (IsClauseTrue a) earlier j n.0 facts n.1))

are_true : (number : Numbering) (p : Premises) (a : Assignment) → IsAssignment a → AreMet p a
    → (steps : List Step) (earlier clauses : List Clause) → AllByRecursion (IsClauseTrue a) earlier → AllByRecursion IsSortedStep steps
    → clauses_behind number p earlier steps ≡ Some clauses → AllByRecursion (IsClauseTrue a) clauses
are_true number p a good model [] earlier clauses facts b e = let same : earlier ≡ clauses = cc in subst (AllByRecursion (IsClauseTrue a)) same facts
are_true number p a good model (s ∷ ss) earlier clauses facts b e =
    let m = taken (step_clause number p earlier s) (λ c. clauses_behind number p (earlier ++ c ∷ []) ss) clauses e in
    are_true number p a good model ss (earlier ++ m.0 ∷ []) clauses
    (all-append (IsClauseTrue a) earlier m.0 facts (step_is_true number p a good model earlier facts s m.0 b.0 m.1))
    b.1 m.2

pub derived_clauses_are_true : DerivedClausesAreTrue
derived_clauses_are_true number p steps clauses b e a good model = are_true number p a good model steps [] clauses tt b e

-- a clause of negations of literals that are all true isn't
none_is_true : (a : Assignment) (assumed : List Literal) → AreTrueLiterals a assumed → (c : Clause) → AllByRecursion (λ (l : Literal). (m : Literal) × Contains assumed m × (l ≡ negation_of m)) c
    → is_clause_true a c ≡ false
none_is_true a assumed true_ls [] h = refl
none_is_true a assumed true_ls (l ∷ c) (first, rest) =
    ap₂ (λ (x y : Bool). x || y)
    (ap (is_literal_true a) first.2 ∙ negation_is a first.0 ∙ ap not (each_of (λ (m : Literal). IsTrue (is_literal_true a m)) assumed true_ls first.0 first.1))
    (none_is_true a assumed true_ls c rest)

refutes : (number : Numbering) (p : Premises) (assumed : List Literal) (steps : List Step) (c : Clause) → AllByRecursion IsSortedStep steps → Derives number p steps c
    → AllByRecursion (λ (l : Literal). (m : Literal) × Contains assumed m × (l ≡ negation_of m)) c
    → (a : Assignment) → IsAssignment a → AreMet p a → AreTrueLiterals a assumed → ⊥
refutes number p assumed steps c b d ends a good met true_ls =
    true≢false (sym (last_of (IsClauseTrue a) d.front c (derived_clauses_are_true number p steps (d.front ++ c ∷ []) b d.derivation a good met)) ∙ none_is_true a assumed true_ls c ends)

pub empty_clause_refutes : EmptyClauseRefutes
empty_clause_refutes = record {
  asserted = λ number asserted steps b d a m. refutes number (asserting asserted) [] steps [] b d tt a m.sorts (record { asserted = m.asserted_hold; held = tt; claimed = tt }) tt;
  premises = refutes;
}

-- ---- How derivations go on

goes_on : (number : Numbering) (p : Premises) (s : Step) (c : Clause) (steps : List Step) (earlier clauses : List Clause)
    → clauses_behind number p earlier steps ≡ Some clauses → step_clause number p clauses s ≡ Some c
    → clauses_behind number p earlier (steps ++ s ∷ []) ≡ Some (clauses ++ c ∷ [])
goes_on number p s c [] earlier clauses e f =
    let same : clauses ≡ earlier = cc in
    ap (λ o. elim o [ None ↦ None | Some d ↦ Some (earlier ++ d ∷ []) ]) (ap (λ cs. step_clause number p cs s) (sym same) ∙ f)
    ∙ ap (λ cs. Some (cs ++ c ∷ [])) (sym same)
goes_on number p s c (r ∷ rs) earlier clauses e f =
    let m = taken (step_clause number p earlier r) (λ d. clauses_behind number p (earlier ++ d ∷ []) rs) clauses e in
    ap (λ o. elim o [ None ↦ None | Some d ↦ clauses_behind number p (earlier ++ d ∷ []) (rs ++ s ∷ []) ]) m.1
    ∙ goes_on number p s c rs (earlier ++ m.0 ∷ []) clauses m.2 f

step_stays : (number : Numbering) (p : Premises) (more : List Term) (earlier : List Clause) (s : Step) (c : Clause)
    → step_clause number p earlier s ≡ Some c → step_clause number (record p { asserted = p.asserted ++ more }) earlier s ≡ Some c
step_stays number p more earlier (given_step k) c e =
    let m = mapped (λ t. holds t ∷ []) (slice_get p.asserted k) c e in
    ap (option_map (λ t. holds t ∷ [])) (get_stays p.asserted more k m.0 m.1) ∙ ap Some m.2
step_stays number p more earlier (hold_step i from_above) c e = e
step_stays number p more earlier beat_step c e = e
step_stays number p more earlier (gate_step t j) c e = e
step_stays number p more earlier (link_step t j) c e = e
step_stays number p more earlier (unit_step t j) c e = e
step_stays number p more earlier (farkas_step ms) c e = e
step_stays number p more earlier (branch_step ps k) c e = e
step_stays number p more earlier (cut_step ms) c e = e
step_stays number p more earlier (resolve_step i j l) c e = e

stays : (number : Numbering) (p : Premises) (more : List Term) (steps : List Step) (earlier clauses : List Clause)
    → clauses_behind number p earlier steps ≡ Some clauses → clauses_behind number (record p { asserted = p.asserted ++ more }) earlier steps ≡ Some clauses
stays number p more [] earlier clauses e = e
stays number p more (s ∷ ss) earlier clauses e =
    let m = taken (step_clause number p earlier s) (λ c. clauses_behind number p (earlier ++ c ∷ []) ss) clauses e in
    ap (λ o. elim o [ None ↦ None | Some c ↦ clauses_behind number (record p { asserted = p.asserted ++ more }) (earlier ++ c ∷ []) ss ]) (step_stays number p more earlier s m.0 m.1)
    ∙ stays number p more ss (earlier ++ m.0 ∷ []) clauses m.2

pub derivations_grow : DerivationsGrow
derivations_grow =
    record {
      step = λ number p steps clauses s c e f. goes_on number p s c steps [] clauses e f;
      asserted = λ number p more steps clauses e. stays number p more steps [] clauses e;
    }
