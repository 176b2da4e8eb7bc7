-- A clause of negations of assumed literals refutes them.
use Rattle.std.proofs.Common.{◌≡◌, ℕ, suc, Bool, true, false, not, ◌||◌, true≢false, List, [], ◌∷◌, ◌++◌, take, drop, map, Option, Some, None, Result, Ok, Err, IfOk, refl, sym, ap, ◌∙◌, subst, Vec, Global}
use Rattle.std.specs.Prelude.{All, Contains, flat_map, IsSome, IfSome, IsTrue, option_map, slice_get}
use Rattle.std.specs.List.{AllByRecursion}
use Rattle.std.proofs.lemmas.List.{take-append-drop, map-append}
use Rattle.std.proofs.Math.Bool.{not-not}
use Rattle.std.proofs.lemmas.Option.{same_Some}
use Rattle.std.proofs.lemmas.Grind.{flat_map-append}
use Rattle.std.proofs.lemmas.List.Elements.{All-contains, All-contains_itself, All-from_recursion, All-weaker, recursion_from_All}
use Rattle.nz_lists.proofs.Elements.{AllByRecursion-map}
use Rattle.nz_fractions.specs.Fraction.{first_wide}
use Rattle.nz_spec.specs.terms.Term.{Assignment, IsTrueUnder, is_true, value_of}
use Rattle.nz_spec.specs.terms.Term as Term
use Rattle.nz_spec.specs.terms.Table.{Node, IsTable, assignment_by, term_in}
use Rattle.nz_spec.specs.search.Decide.{AreModelValues, asserted_numbers, asserted_terms}
use Rattle.nz_spec.specs.clauses.Literal.{Clause, term_literal, are_same_sign, is_literal_true, is_clause_true, AreTrueLiterals}
use Rattle.nz_spec.specs.terms.Model.{IsUnsatisfiable}
use Rattle.nz_spec.specs.terms.Form.{Numbering}
use Rattle.nz_spec.specs.terms.FormOf.{number_in}
use Rattle.nz_spec.specs.clauses.Steps.{Step, given_step, hold_step, beat_step, gate_step, link_step, unit_step, farkas_step, branch_step, cut_step, resolve_step, asserting, step_operations, IsDerivation, DerivationsGrow, Derives}
use Rattle.nz_search.specs.declared.decide.Verdict.{Verdict}
use Rattle.nz_search.specs.declared.decide.Verdict.TheVariants.{Sat, Unsat}
use Rattle.nz_log.specs.declared.atoms.Atom.{Atom}
use Rattle.nz_log.specs.declared.atoms.Atom.TheVariants.{Term, AtMost}
use Rattle.nz_log.specs.declared.lits.Lit.{Lit}
use Rattle.nz_term.specs.declared.term_lits.TermLit.{TermLit}
use Rattle.nz_log.specs.Atoms.{HasTerm, atom_in, clause_in, lit_of, lits_of, literal_in, term_place, with_sign}
use Rattle.nz_log.specs.Lits.{negated_lit}
use Rattle.nz_log.specs.declared.steps.Step as own
use Rattle.nz_log.specs.Logs.{LogState, Entry, entry_at, IsLive, level_at, literals_at}
use Rattle.nz_log.specs.Spelling.{AreStepsOf, steps_of}
use Rattle.nz_log.specs.Sound.{IsLog, live_terms, ClausesAreTrue}
use Rattle.nz_term.specs.TermLits.{AreNegations, clause_of_terms, literal_of, turned}
use Rattle.nz_search.specs.Verdicts.{IfSat, IfUnsat, OnUnsat}
use Rattle.nz_sat.specs.Conflicts.{Refutes}
use Rattle.nz_search.specs.Levels.{Level, asserted_by_level}
use Rattle.nz_engine.specs.Engines.{literals_in, on_term, on_terms}
use Rattle.nz_engine.specs.Checking.{IsAnswer}
use Rattle.nz_engine.proofs.NamedTerms.{each_of}
use Rattle.nz_engine.proofs.ClausePreservation.{from_lits}

-- ---- Assertions of a level

live_front : (ns : List Node) (levels : List (List ℕ)) (level : ℕ)
    → live_terms ns levels level ++ map (term_in ns) (asserted_numbers (drop (suc level) levels)) ≡ asserted_terms ns levels
live_front ns levels level =
    let front = take (suc level) levels in
    let back = drop (suc level) levels in
    sym (map-append (term_in ns) (asserted_numbers front) (asserted_numbers back))
    ∙ ap (map (term_in ns)) (sym (flat_map-append (λ (l : List ℕ). l) front back) ∙ ap asserted_numbers (take-append-drop (suc level) levels))

live_true : (ns : List Node) (levels : List (List ℕ)) (level : ℕ) (a : Assignment) → AllByRecursion (IsTrueUnder a) (asserted_terms ns levels)
    → AllByRecursion (IsTrueUnder a) (live_terms ns levels level)
live_true ns levels level a h =
    (each_of (IsTrueUnder a) (live_terms ns levels level) (map (term_in ns) (asserted_numbers (drop (suc level) levels)))
    (subst (AllByRecursion (IsTrueUnder a)) (sym (live_front ns levels level)) h)).0

-- the operations of a step are the same whatever is asserted
same_operations : (number : Numbering) (ts us : List Term.Term) (s : Step) → step_operations number (asserting ts) s ≡ step_operations number (asserting us) s
same_operations number ts us (given_step k) = refl
same_operations number ts us (hold_step i from_above) = refl
same_operations number ts us beat_step = refl
same_operations number ts us (gate_step t j) = refl
same_operations number ts us (link_step t j) = refl
same_operations number ts us (unit_step t j) = refl
same_operations number ts us (farkas_step ms) = refl
same_operations number ts us (branch_step ps k) = refl
same_operations number ts us (cut_step ms) = refl
same_operations number ts us (resolve_step i j l) = refl

all_operations : (number : Numbering) (ts us : List Term.Term) (steps : List Step) → flat_map (step_operations number (asserting ts)) steps ≡ flat_map (step_operations number (asserting us)) steps
all_operations number ts us [] = refl
all_operations number ts us (s ∷ ss) =
    let first = same_operations number ts us s in
    let rest = all_operations number ts us ss in
    λ i. first i ++ rest i

-- what is derived at a level is derived from all that is asserted
derived_from_all : DerivationsGrow → (ns : List Node) (levels : List (List ℕ)) (level : ℕ) (steps : List Step) (c : Clause)
    → Derives (number_in ns) (asserting (live_terms ns levels level)) steps c → Derives (number_in ns) (asserting (asserted_terms ns levels)) steps c
derived_from_all grow ns levels level steps c d =
    let number = number_in ns in
    let live = live_terms ns levels level in
    record {
      front = d.front;
      derivation = subst (λ ts. IsDerivation number (asserting ts) steps (d.front ++ c ∷ [])) (live_front ns levels level)
          (grow.asserted number (asserting live) (map (term_in ns) (asserted_numbers (drop (suc level) levels))) steps (d.front ++ c ∷ []) d.derivation);
      fits = ap first_wide (all_operations number (asserted_terms ns levels) live steps) ∙ d.fits;
    }

-- ---- Clauses of negations

opposite : (s b : Bool) → are_same_sign (not s) b ≡ true → are_same_sign s b ≡ false
opposite true true e = absurd (true≢false (sym e))
opposite true false e = refl
opposite false true e = refl
opposite false false e = absurd (true≢false (sym e))

-- what a literal on a term says
term_says : (ns : List Node) (atoms : List Atom) (l : Lit) (o : Option Atom) (m : TermLit) → slice_get atoms l.atom ≡ o
    → elim o [ None ↦ None | Some (Term t) ↦ Some (record { term = t; sign = l.sign }) | Some (AtMost b) ↦ None ] ≡ Some m → literal_in ns atoms l ≡ literal_of ns m
term_says ns atoms l None m at on = cc
term_says ns atoms l (Some (AtMost b)) m at on = cc
term_says ns atoms l (Some (Term t)) m at on =
    let is : m ≡ record { term = t; sign = l.sign } = sym (same_Some (record { term = t; sign = l.sign }) m on) in
    ap (λ (o : Option Atom). elim o [ None ↦ term_literal (term_in ns 0) l.sign | Some a ↦ with_sign l.sign (atom_in ns a) ]) at
    ∙ signed (term_in ns t) l.sign ∙ ap (literal_of ns) (sym is) where
      signed : (u : Term.Term) (sign : Bool) → with_sign sign (term_literal u true) ≡ term_literal u sign
      signed u true = refl
      signed u false = refl

-- and what literals on terms say
on_terms_say : (ns : List Node) (atoms : List Atom) (c : List Lit) (d : List TermLit) → on_terms atoms c ≡ Some d → clause_in ns atoms c ≡ clause_of_terms ns d
on_terms_say ns atoms [] d on = ap (clause_of_terms ns) (same_Some [] d on)
on_terms_say ns atoms (l ∷ c) d on =
    elim (on_term atoms l) as (λ o. on_term atoms l ≡ o → elim o [ None ↦ None | Some m ↦ option_map (λ (e : List TermLit). m ∷ e) (on_terms atoms c) ] ≡ Some d → clause_in ns atoms (l ∷ c) ≡ clause_of_terms ns d) [
      | None ↦ λ at h. cc
      | Some m ↦ λ at h.
          elim (on_terms atoms c) as (λ o. on_terms atoms c ≡ o → option_map (λ (e : List TermLit). m ∷ e) o ≡ Some d → clause_in ns atoms (l ∷ c) ≡ clause_of_terms ns d) [
            | None ↦ λ rest k. cc
            | Some e ↦ λ rest k.
                let first = term_says ns atoms l (slice_get atoms l.atom) m refl at in
                let others = on_terms_say ns atoms c e rest in
                (λ i. first i ∷ others i) ∙ ap (clause_of_terms ns) (same_Some (m ∷ e) d k)
          ] refl h
    ] refl on

module _ (ns : List Node) (a : Assignment) (assumed : List TermLit) (holds : AreTrueLiterals a (map (literal_of ns) assumed)) where
  assumed_true : (l : TermLit) → Contains assumed l → is_literal_true a (literal_of ns l) ≡ true
  assumed_true l c =
      let P = λ (m : TermLit). is_literal_true a (literal_of ns m) ≡ true in
      All-contains P assumed l (All-from_recursion P assumed (AllByRecursion-map (λ m. IsTrue (is_literal_true a m)) (literal_of ns) assumed holds)) c

  none_true : (c : List TermLit) → AllByRecursion (λ (l : TermLit). Contains assumed (turned l)) c → is_clause_true a (clause_of_terms ns c) ≡ true → ⊥
  none_true [] h e = true≢false (sym e)
  none_true (l ∷ c) h e =
      let failed : is_literal_true a (literal_of ns l) ≡ false = opposite l.sign (is_true (value_of a (term_in ns l.term))) (assumed_true (turned l) h.0) in
      none_true c h.1 (ap (λ b. b || is_clause_true a (clause_of_terms ns c)) (sym failed) ∙ e)

-- a clause of negations is there, on terms alone
negations_of : (assumed : List TermLit) (atoms : List Atom) (o : Option Entry) → AreNegations assumed (elim o [ None ↦ None | Some e ↦ on_terms atoms e.literals ])
    → (e : Entry) × (o ≡ Some e) × ((c : List TermLit) × (on_terms atoms e.literals ≡ Some c) × All (λ (l : TermLit). Contains assumed (turned l)) c)
negations_of assumed atoms None h = absurd h
negations_of assumed atoms (Some e) h = (e, refl, of_some (on_terms atoms e.literals) h) where
  of_some : (o : Option (List TermLit)) → AreNegations assumed o → (c : List TermLit) × (o ≡ Some c) × All (λ (l : TermLit). Contains assumed (turned l)) c
  of_some None k = absurd k
  of_some (Some c) k = (c, refl, k)

-- so no assignment makes what is asserted and assumed true
pub dead_end : ClausesAreTrue → (ns : List Node) → IsTable ns → (levels : List (List ℕ)) (log : LogState) → IsLog ns levels log → (assumed : List TermLit) (id : ℕ)
    → AreNegations assumed (literals_in log id) → IsUnsatisfiable (asserted_terms ns levels) (map (literal_of ns) assumed)
dead_end law ns table levels log order assumed id h a model =
    let e = negations_of assumed log.atoms (entry_at log id) h in
    let c = e.2 in
    let true_there = law ns table levels log order id e.0 e.1 a model.sorts (live_true ns levels e.0.level a model.asserted_hold) in
    none_true ns a assumed model.assumed_hold c.0 (recursion_from_All (λ (l : TermLit). Contains assumed (turned l)) c.0 c.2)
    (subst (λ d. is_clause_true a d ≡ true) (on_terms_say ns log.atoms e.0.literals c.0 c.1) true_there)

-- ---- Clauses that can be asked for

-- the literals of such a clause
clause_says : (ns : List Node) (log : LogState) (o : Option Entry) (c : List TermLit) → elim o [ None ↦ None | Some e ↦ on_terms log.atoms e.literals ] ≡ Some c
    → clause_in ns log.atoms (elim o [ None ↦ [] | Some e ↦ e.literals ]) ≡ clause_of_terms ns c
clause_says ns log None c e = cc
clause_says ns log (Some x) c e = on_terms_say ns log.atoms x.literals c e

pub derived : {E : Type 0} → DerivationsGrow → (ns : List Node) (levels : List (List ℕ)) (log : LogState) (id : ℕ) (r : Result (Vec own.Step Global) E) → IsTable ns → IsLog ns levels log
    → IfOk r (λ steps. AreStepsOf log id steps.items)
    → IfOk r (λ steps. (c : List TermLit) → literals_in log id ≡ Some c → Derives (number_in ns) (asserting (asserted_terms ns levels)) (steps_of ns steps.items) (clause_of_terms ns c))
derived grow ns levels log id (Ok steps) table order h =
    λ c e.
    derived_from_all grow ns levels (level_at log id) (steps_of ns steps.items) (clause_of_terms ns c)
    (subst (λ d. Derives (number_in ns) (asserting (live_terms ns levels (level_at log id))) (steps_of ns steps.items) d) (clause_says ns log (entry_at log id) c e) (h ns levels table order))
derived grow ns levels log id (Err x) table order h = tt

-- ---- A clause that refutes assumed literals

-- a literal whose negation is that of a literal on a term
turned_on : (atoms : List Atom) (l : Lit) (m : TermLit) → HasTerm atoms m.term → lit_of atoms m ≡ negated_lit l → on_term atoms l ≡ Some (turned m)
turned_on atoms l m there same =
    let place : term_place atoms m.term ≡ l.atom = ap (λ (x : Lit). x.atom) same in
    let sign : m.sign ≡ not l.sign = ap (λ (x : Lit). x.sign) same in
    let own : not m.sign ≡ l.sign = ap not sign ∙ not-not l.sign in
    ap (λ (o : Option Atom). elim o [ None ↦ None | Some (Term t) ↦ Some (record { term = t; sign = l.sign }) | Some (AtMost b) ↦ None ])
    (ap (slice_get atoms) (sym place) ∙ there)
    ∙ ap (λ (b : Bool). Some (record { term = m.term; sign = b })) (sym own)

turned_twice : (m : TermLit) → turned (turned m) ≡ m
turned_twice m = ap (λ (b : Bool). record { term = m.term; sign = b }) (not-not m.sign)

all_turned : (atoms : List Atom) (assumed : List TermLit) → All (λ (l : TermLit). HasTerm atoms l.term) assumed → (c : List Lit)
    → AllByRecursion (λ (l : Lit). Contains (lits_of atoms assumed) (negated_lit l)) c
    → (d : List TermLit) × (on_terms atoms c ≡ Some d) × AllByRecursion (λ (l : TermLit). Contains assumed (turned l)) d
all_turned atoms assumed there [] h = ([], refl, tt)
all_turned atoms assumed there (l ∷ c) h =
    let from = from_lits atoms assumed (negated_lit l) h.0 in
    let m = from.0 in
    let first = turned_on atoms l m (All-contains (λ (x : TermLit). HasTerm atoms x.term) assumed m there from.1) from.2 in
    let rest = all_turned atoms assumed there c h.1 in (
      turned m ∷ rest.0,
      ap (λ (o : Option TermLit). elim o [ None ↦ None | Some x ↦ option_map (λ (d : List TermLit). x ∷ d) (on_terms atoms c) ]) first
          ∙ ap (option_map (λ (d : List TermLit). turned m ∷ d)) rest.1,
      (subst (Contains assumed) (sym (turned_twice m)) from.1, rest.2),
    )

-- it is one of their negations
negations : (atoms : List Atom) (assumed : List TermLit) → All (λ (l : TermLit). HasTerm atoms l.term) assumed → (o : Option Entry) → IsSome o
    → Refutes (lits_of atoms assumed) (elim o [ None ↦ [] | Some e ↦ e.literals ]) → AreNegations assumed (elim o [ None ↦ None | Some e ↦ on_terms atoms e.literals ])
negations atoms assumed there None live h = absurd (true≢false (sym live))
negations atoms assumed there (Some e) live h =
    let N = λ (l : Lit). Contains (lits_of atoms assumed) (negated_lit l) in
    let each = recursion_from_All N e.literals (All-weaker (Contains e.literals) N h e.literals (All-contains_itself e.literals)) in
    let d = all_turned atoms assumed there e.literals each in
    subst (AreNegations assumed) (sym d.1) (All-from_recursion (λ (l : TermLit). Contains assumed (turned l)) d.0 d.2)

pub refuted_by : {E : Type 0} (log : LogState) (assumed : List TermLit) → All (λ (l : TermLit). HasTerm log.atoms l.term) assumed → (r : Result (Option ℕ) E)
    → IfOk r (λ o. IfSome o (λ id. IsLive log id × Refutes (lits_of log.atoms assumed) (literals_at log id)))
    → IfOk r (λ o. IfSome o (λ id. AreNegations assumed (literals_in log id)))
refuted_by log assumed there (Ok (Some id)) h = negations log.atoms assumed there (entry_at log id) h.0 h.1
refuted_by log assumed there (Ok None) h = tt
refuted_by log assumed there (Err x) h = tt

-- an answer without values
pub unsat_of : (ns : List Node) (levels : List Level) (assumed : List TermLit) (log : LogState) (v : Verdict) → IsAnswer ns levels assumed log v
    → OnUnsat v (IsUnsatisfiable (asserted_terms ns (asserted_by_level levels)) (map (literal_of ns) assumed))
unsat_of ns levels assumed log (Sat ps) h = tt
unsat_of ns levels assumed log (Unsat id) h = h.0

-- what the values make true, and what a clause without values says
pub sat_of : (ns : List Node) (levels : List Level) (assumed : List TermLit) (log : LogState) (v : Verdict) → IsAnswer ns levels assumed log v
    → IfSat v (AreModelValues ns (asserted_terms ns (asserted_by_level levels)) [])
sat_of ns levels assumed log (Sat ps) h = h.0
sat_of ns levels assumed log (Unsat id) h = tt

pub assumed_of : (ns : List Node) (levels : List Level) (assumed : List TermLit) (log : LogState) (v : Verdict) → IsAnswer ns levels assumed log v
    → IfSat v (λ ps. AreTrueLiterals (assignment_by ns ps) (map (literal_of ns) assumed))
assumed_of ns levels assumed log (Sat ps) h = h.1
assumed_of ns levels assumed log (Unsat id) h = tt

pub negations_told : (ns : List Node) (levels : List Level) (assumed : List TermLit) (log : LogState) (v : Verdict) → IsAnswer ns levels assumed log v
    → IfUnsat v (λ id. AreNegations assumed (literals_in log id))
negations_told ns levels assumed log (Sat ps) h = tt
negations_told ns levels assumed log (Unsat id) h = h.1
