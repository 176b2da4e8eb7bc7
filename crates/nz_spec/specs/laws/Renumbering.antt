-- Sums, forms, clauses and derivations whose units are numbered anew: they stay the same, with the parts of each sum in another order.
-- The order of a sum's parts, and so of the operations on it, is this solver's own.
use Rattle.std.specs.Prelude.{◌≡◌, ◌<◌, List, [], ◌∷◌, map, flat_map, Contains, Option, Some, None, ⊤}
use Rattle.std.specs.List.{AllByRecursion}
use Rattle.nz_fractions.specs.Fraction.{Fraction, Arithmetic, Operation}
use Rattle.nz_spec.specs.numbers.Computation.{Computation}
use Rattle.nz_spec.specs.terms.Term.{Head, Term, apply, Terms}
use Rattle.nz_spec.specs.terms.Order.{companions_of, listing_order}
use Rattle.nz_spec.specs.terms.Form.{Numbering, TellsApart, Part, Form, AreAlike, negated_part, parts_joined, parts_scaled}
use Rattle.nz_spec.specs.terms.FormOf.{form_of}
use Rattle.nz_spec.specs.clauses.Literal.{Literal, term_literal, is_at_most, is_below, Clause}
use Rattle.nz_spec.specs.clauses.Gates.{list_of}
use Rattle.nz_spec.specs.clauses.Links.{link_clauses}
use Rattle.nz_spec.specs.clauses.Units.{unit_clauses}
use Rattle.nz_spec.specs.clauses.Farkas.{Multiple}
use Rattle.nz_spec.specs.clauses.Goals.{Goal}
use Rattle.nz_spec.specs.clauses.Wishes.{Wish, cost_of, wishes_form}
use Rattle.nz_spec.specs.clauses.Steps.{Held, Claim, Premises, Step, given_step, hold_step, beat_step, gate_step, link_step, unit_step, farkas_step, branch_step, cut_step, resolve_step, IsDerivation, StepsFit}

-- ---- Sums by their units

-- The units are of these, and stand in the order of their numbers.
abbrev pub IsOrdered : Numbering → List Term → List Part → Type 0
IsOrdered number us [] = ⊤
IsOrdered number us (p ∷ ps) = Contains us p.unit × AllByRecursion (λ (q : Part). number p.unit < number q.unit) ps × IsOrdered number us ps

-- one sum in the orders of two numberings
pub record IsRenumbered (m n : Numbering) (us : List Term) (ps qs : List Part) : Type 0 where
  pub before : IsOrdered m us ps
  pub after : IsOrdered n us qs
  pub alike : AreAlike ps qs

-- Two computations come to what is related, and each operation of the second is one of the first.
pub record GoTogether {A B : Type 0} (R : A → B → Type 0) (c : Computation A) (d : Computation B) : Type 0 where
  pub result : R c.result d.result
  pub operations : (op : Operation) → Contains d.operations op → Contains c.operations op

-- ---- Forms and clauses

module _ {A B : Type 0} where
  -- one list by another, element by element
  abbrev pub AreEach : (A → B → Type 0) → List A → List B → Type 0
  AreEach R [] [] = ⊤
  AreEach R [] (y ∷ ys) = ⊥
  AreEach R (x ∷ xs) [] = ⊥
  AreEach R (x ∷ xs) (y ∷ ys) = R x y × AreEach R xs ys

-- Both numberings tell these terms apart, and the terms hold what they are made of and what is listed with them.
pub record MayRenumber (m n : Numbering) (us : List Term) : Type 0 where
  pub before : TellsApart m us
  pub after : TellsApart n us
  pub arguments : (h : Head) (ts : Terms) → Contains us (apply h ts) → AllByRecursion (Contains us) (list_of ts)
  pub companions : (t : Term) → Contains us t → AllByRecursion (Contains us) (companions_of t)

module _ (m n : Numbering) (us : List Term) where
  pub record FormsRenumber (f g : Form) : Type 0 where
    pub parts : IsRenumbered m n us f.parts g.parts
    pub offset : f.offset ≡ g.offset

  -- one literal, whose sum is in the other order
  abbrev pub LiteralsRenumber : Literal → Literal → Type 0
  LiteralsRenumber (term_literal t sign) (term_literal u side) = (t ≡ u) × (sign ≡ side)
  LiteralsRenumber (is_at_most ps b) (is_at_most qs c) = IsRenumbered m n us ps qs × (b ≡ c)
  LiteralsRenumber (is_below ps b) (is_below qs c) = IsRenumbered m n us ps qs × (b ≡ c)
  LiteralsRenumber l k = ⊥

  abbrev pub ClausesRenumber : Clause → Clause → Type 0
  ClausesRenumber c d = AreEach LiteralsRenumber c d

  -- so are two tables of clauses, row by row
  abbrev pub TablesRenumber : List (Computation Clause) → List (Computation Clause) → Type 0
  TablesRenumber cs ds = AreEach (GoTogether ClausesRenumber) cs ds

-- ---- Derivations

module _ {A B : Type 0} where
  -- neither is there, or both are, and one is by the other
  abbrev pub AreBoth : (A → B → Type 0) → Option A → Option B → Type 0
  AreBoth R None None = ⊤
  AreBoth R None (Some y) = ⊥
  AreBoth R (Some x) None = ⊥
  AreBoth R (Some x) (Some y) = R x y

module _ (m n : Numbering) (us : List Term) where
  pub record GoalsRenumber (g h : Goal) : Type 0 where
    pub form : FormsRenumber m n us g.form h.form
    pub up : g.up ≡ h.up

  pub record HoldsRenumber (h k : Held) : Type 0 where
    pub goal : GoalsRenumber h.goal k.goal
    pub value : h.value ≡ k.value

  pub record ClaimsRenumber (c d : Claim) : Type 0 where
    pub goal : GoalsRenumber c.goal d.goal
    pub strict : c.strict ≡ d.strict
    pub value : c.value ≡ d.value

  -- the same assertions, and goals whose forms are renumbered
  pub record PremisesRenumber (p q : Premises) : Type 0 where
    pub asserted : p.asserted ≡ q.asserted
    pub held : AreEach HoldsRenumber p.held q.held
    pub claim : AreBoth ClaimsRenumber p.claim q.claim

  pub record MultiplesRenumber (x y : Multiple) : Type 0 where
    pub literal : LiteralsRenumber m n us x.literal y.literal
    pub multiplier : x.multiplier ≡ y.multiplier

  -- The same step, with its sums in the other order. The rows that it names are of these terms.
  abbrev pub StepsRenumber : Step → Step → Type 0
  StepsRenumber (given_step k) (given_step i) = k ≡ i
  StepsRenumber (hold_step i above) (hold_step j from_above) = (i ≡ j) × (above ≡ from_above)
  StepsRenumber beat_step beat_step = ⊤
  StepsRenumber (gate_step t j) (gate_step u i) = (t ≡ u) × (j ≡ i)
  StepsRenumber (link_step t j) (link_step u i) = (t ≡ u) × (j ≡ i) × Contains us t
  StepsRenumber (unit_step t j) (unit_step u i) = (t ≡ u) × (j ≡ i) × Contains us t
  StepsRenumber (farkas_step xs) (farkas_step ys) = AreEach MultiplesRenumber xs ys
  StepsRenumber (branch_step ps k) (branch_step qs i) = IsRenumbered m n us ps qs × (k ≡ i)
  StepsRenumber (cut_step xs) (cut_step ys) = AreEach MultiplesRenumber xs ys
  StepsRenumber (resolve_step i j l) (resolve_step k o r) = (i ≡ k) × (j ≡ o) × LiteralsRenumber m n us l r
  StepsRenumber s t = ⊥

-- ---- Laws

-- One sum has one order by one numbering. Renumbered sums have renumbered sums, multiples and negations.
pub record SumsRenumber : Type 0 where
  pub one : (number : Numbering) (us : List Term) (ps qs : List Part) → IsOrdered number us ps → IsOrdered number us qs → AreAlike ps qs → ps ≡ qs
  pub joined : (m n : Numbering) (us : List Term) (op : Arithmetic) (ps qs rs ss : List Part) → TellsApart m us → TellsApart n us
      → IsRenumbered m n us ps rs → IsRenumbered m n us qs ss → GoTogether (IsRenumbered m n us) (parts_joined m op ps qs) (parts_joined n op rs ss)
  pub scaled : (m n : Numbering) (us : List Term) (times : Fraction → Computation Fraction) (ps qs : List Part)
      → IsRenumbered m n us ps qs → GoTogether (IsRenumbered m n us) (parts_scaled times ps) (parts_scaled times qs)
  pub negated : (m n : Numbering) (us : List Term) (ps qs : List Part) → IsRenumbered m n us ps qs → IsRenumbered m n us (map negated_part ps) (map negated_part qs)

-- The form of a term is renumbered, and so are its rows in the tables.
pub record TermsRenumber : Type 0 where
  pub forms : (m n : Numbering) (us : List Term) → MayRenumber m n us → (t : Term) → Contains us t → GoTogether (FormsRenumber m n us) (form_of m t) (form_of n t)
  pub links : (m n : Numbering) (us : List Term) → MayRenumber m n us → (t : Term) → Contains us t → TablesRenumber m n us (link_clauses m t) (link_clauses n t)
  pub units : (m n : Numbering) (us : List Term) → MayRenumber m n us → (t : Term) → Contains us t → TablesRenumber m n us (unit_clauses m t) (unit_clauses n t)

-- So is the form of a group of wishes, whose costs are among the terms.
abbrev pub GroupsRenumber : Type 0
GroupsRenumber = (m n : Numbering) (us : List Term) → MayRenumber m n us → (ws : List Wish) → AllByRecursion (λ (w : Wish). Contains us (cost_of w)) ws
    → GoTogether (FormsRenumber m n us) (wishes_form m ws) (wishes_form n ws)

-- What terms are made of, with companions, holds what it is made of, and their companions: so numberings that tell that apart may take one another's place.
abbrev pub ListingsMayRenumber : Type 0
ListingsMayRenumber = (m n : Numbering) (us : List Term) → TellsApart m (flat_map listing_order us) → TellsApart n (flat_map listing_order us)
    → MayRenumber m n (flat_map listing_order us)

-- A derivation stays one where the units are numbered anew, and fits where it fitted: with its sums in the other order it derives its clauses with theirs in
-- that order.
pub record DerivationsRenumber : Type 0 where
  pub clauses : (m n : Numbering) (us : List Term) → MayRenumber m n us → (p q : Premises) → PremisesRenumber m n us p q
      → (steps others : List Step) → AreEach (StepsRenumber m n us) steps others
      → (cs : List Clause) → IsDerivation m p steps cs → (ds : List Clause) × IsDerivation n q others ds × AreEach (ClausesRenumber m n us) cs ds
  pub fits : (m n : Numbering) (us : List Term) → MayRenumber m n us → (p q : Premises) → PremisesRenumber m n us p q
      → (steps others : List Step) → AreEach (StepsRenumber m n us) steps others → StepsFit m p steps → StepsFit n q others
