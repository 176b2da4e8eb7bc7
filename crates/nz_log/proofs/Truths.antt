-- The clauses of a log in order are true.
use Rattle.std.proofs.Common.{◌≡◌, ℕ, zero, suc, ◌<◌, ◌≤◌, false, List, [], ◌∷◌, ◌++◌, map, take, Option, Some, None, refl, sym, ap, subst, ◌∙◌, arith}
use Rattle.std.specs.Prelude.{slice_get, option_map, IsSome}
use Rattle.std.specs.List.{AllByRecursion}
use Rattle.std.proofs.lemmas.Bool.{or_left}
use Rattle.std.proofs.lemmas.Option.{slice_get-map}
use Rattle.nz_spec.specs.terms.Term.{Term, Assignment, is_true, value_of, IsTrueUnder}
use Rattle.nz_spec.specs.terms.Table.{Node, IsTable, term_in, OneNumber}
use Rattle.nz_spec.specs.terms.FormOf.{number_in}
use Rattle.nz_spec.specs.clauses.Steps.{clauses_behind, DerivedClausesAreTrue, asserting}
use Rattle.nz_spec.specs.terms.Model.{IsAssignment}
use Rattle.nz_spec.specs.search.Decide.{asserted_numbers}
use Rattle.nz_spec.specs.clauses.Literal.{clause_of, IsClauseTrue, TellsLiterals, ClauseIsTrueTogether, ResolventIsTrue}
use Rattle.nz_spec.specs.clauses.Gates.{gate_clauses, GatesAreTrue}
use Rattle.nz_log.specs.declared.atoms.Atom.{Atom}
use Rattle.nz_log.specs.declared.lits.Lit.{Lit}
use Rattle.nz_log.specs.declared.origins.Link.{Link}
use Rattle.nz_log.specs.Atoms.{AreWithin, IsLitIn, LiteralsAgree, clause_in, literal_in}
use Rattle.nz_log.specs.Axioms.{Axiom, IsAxiom, axiom_step}
use Rattle.nz_log.specs.Lits.{lit_resolvent}
use Rattle.nz_log.specs.Logs.{IsPremise, Origin, assertion_of, gate_of, axiom_of, chain_of, Entry, LogState, entry_at, literals_at, level_at, chained}
use Rattle.nz_log.specs.Sound.{live_at, live_terms, IsLink, IsMade, IsLog, ClausesAreTrue}
use Rattle.nz_log.proofs.Members.{each-at, each-resolvent}
use Rattle.nz_log.proofs.LiteralAgreement.{literals_agree, resolvent_named}
use Rattle.nz_log.proofs.Soundness.{within_at}
use Rattle.nz_log.proofs.Taken.{taken_now}

-- what holds of the terms of some levels holds of those of fewer
fewer_behind : (P : Term → Type 0) (f : ℕ → Term) (l xs ys : List ℕ) → (AllByRecursion P (map f ys) → AllByRecursion P (map f xs))
    → AllByRecursion P (map f (l ++ ys)) → AllByRecursion P (map f (l ++ xs))
fewer_behind P f [] xs ys h k = h k
fewer_behind P f (x ∷ l) xs ys h k = (k.0, fewer_behind P f l xs ys h k.1)

fewer : (P : Term → Type 0) (f : ℕ → Term) (levels : List (List ℕ)) (m n : ℕ) → m ≤ n → AllByRecursion P (map f (asserted_numbers (take n levels)))
    → AllByRecursion P (map f (asserted_numbers (take m levels)))
fewer P f levels zero n le h = tt
fewer P f levels (suc m) zero le h = absurd (omega arith)
fewer P f [] (suc m) (suc n) le h = tt
fewer P f (l ∷ ls) (suc m) (suc n) le h =
    fewer_behind P f l (asserted_numbers (take m ls)) (asserted_numbers (take n ls)) (fewer P f ls m n (omega arith)) h

-- what a map found, it found of something
mapped : {X Y : Type 0} (f : X → Y) (o : Option X) (y : Y) → option_map f o ≡ Some y → (x : X) × (o ≡ Some x) × (f x ≡ y)
mapped f None y e = cc
mapped f (Some x) y e = let same : f x ≡ y = cc in (x, refl, same)

-- what holds by arithmetic alone is true
axiom_is_true : DerivedClausesAreTrue → (ns : List Node) → IsTable ns → (atoms : List Atom) (x : Axiom) (c : List Lit) → IsAxiom ns atoms x c → (a : Assignment) → IsAssignment a
    → IsClauseTrue a (clause_in ns atoms c)
axiom_is_true derived ns table atoms x c h a good =
    let taken = taken_now ns table atoms x c h in
    let derivation : clauses_behind (number_in ns) (asserting []) [] (axiom_step ns atoms x ∷ []) ≡ Some (clause_in ns atoms c ∷ []) =
    ap (λ o. elim o [ None ↦ None | Some d ↦ Some (d ∷ []) ]) taken in
    (derived (number_in ns) (asserting []) (axiom_step ns atoms x ∷ []) (clause_in ns atoms c ∷ []) (h.sorted, tt) derivation a good (record { asserted = tt; held = tt; claimed = tt })).0

module _ (derived : DerivedClausesAreTrue) (gates : GatesAreTrue) (together : ClauseIsTrueTogether) (resolvents : ResolventIsTrue)
    (ns : List Node) (table : IsTable ns) (levels : List (List ℕ)) (s : LogState) (agree : LiteralsAgree ns s.atoms) (order : IsLog ns levels s)
    (a : Assignment) (good : IsAssignment a) where
  chain_is_true : (id level : ℕ) (c : List Lit) (ks : List Link) → AreWithin ns s.atoms c → IsClauseTrue a (clause_in ns s.atoms c) → AllByRecursion (IsLink ns s id level) ks
      → ((i : ℕ) → IsPremise s id level i → IsClauseTrue a (clause_in ns s.atoms (literals_at s i))) → IsClauseTrue a (clause_in ns s.atoms (chained s c ks))
  chain_is_true id level c [] w t h premises = t
  chain_is_true id level c (k ∷ ks) w t h premises =
      let d = literals_at s k.clause in
      let within = within_at ns levels s order k.clause (entry_at s k.clause) refl in
      let resolved =
      subst (IsClauseTrue a) (sym (resolvent_named ns s.atoms agree k.literal c d h.0.within w within))
      (resolvents a (literal_in ns s.atoms k.literal) (clause_in ns s.atoms c) (clause_in ns s.atoms d) t (premises k.clause h.0.premise)) in
      chain_is_true id level (lit_resolvent k.literal c d) ks
      (each-resolvent (IsLitIn ns s.atoms) k.literal c d w within) resolved h.1 premises

  entry_is_true : (id : ℕ) (e : Entry) → AreWithin ns s.atoms e.literals → (o : Origin) → IsMade ns levels s id e o
      → AllByRecursion (IsTrueUnder a) (live_terms ns levels e.level)
      → ((i : ℕ) → IsPremise s id e.level i → IsClauseTrue a (clause_in ns s.atoms (literals_at s i))) → IsClauseTrue a (clause_in ns s.atoms e.literals)
  entry_is_true id e w (assertion_of k) m model premises =
      let xs = live_at levels e.level in
      let at : slice_get (map (term_in ns) xs) k ≡ Some (term_in ns m.0) = slice_get-map (term_in ns) xs k ∙ ap (option_map (term_in ns)) m.1 in
      subst (IsClauseTrue a) (sym m.3)
      (or_left (is_true (value_of a (term_in ns m.0))) false (each-at (IsTrueUnder a) (map (term_in ns) xs) k (term_in ns m.0) model at))
  entry_is_true id e w (gate_of t j) m model premises =
      let g = mapped clause_of (slice_get (gate_clauses (term_in ns t)) j) (clause_in ns s.atoms e.literals) m.2 in
      subst (IsClauseTrue a) g.2
      (together a g.0 ∙ each-at (IsClauseTrue a) (gate_clauses (term_in ns t)) j g.0 (gates a good (term_in ns t) m.1) g.1)
  entry_is_true id e w (axiom_of x) m model premises = axiom_is_true derived ns table s.atoms x e.literals m a good
  entry_is_true id e w (chain_of first ks) m model premises =
      subst (λ c. IsClauseTrue a (clause_in ns s.atoms c)) (sym m.2)
      (chain_is_true id e.level (literals_at s first) ks (within_at ns levels s order first (entry_at s first) refl) (premises first m.0) m.1 premises)

  all_true : (n id level : ℕ) → id < n → (o : Option Entry) → entry_at s id ≡ o → IsSome o → level_at s id ≤ level
      → AllByRecursion (IsTrueUnder a) (live_terms ns levels level) → IsClauseTrue a (clause_in ns s.atoms (literals_at s id))
  all_true zero id level below o at live least model = absurd (omega arith)
  all_true (suc n) id level below None at live least model = cc
  all_true (suc n) id level below (Some e) at live least model =
      let i = order.clauses id e at in
      let lower : e.level ≤ level = subst (λ o. elim o [ None ↦ 0 | Some f ↦ f.level ] ≤ level) at least in
      let here = fewer (IsTrueUnder a) (term_in ns) levels (suc e.level) (suc level) (omega arith) model in
      subst (λ o. IsClauseTrue a (clause_in ns s.atoms (elim o [ None ↦ [] | Some f ↦ f.literals ]))) (sym at)
      (entry_is_true id e i.within e.origin i.made here
      (λ j p. all_true n j e.level (let h : j < id = p.before in omega arith) (entry_at s j) refl p.live p.level_within here))

pub clauses_are_true : DerivedClausesAreTrue → GatesAreTrue → ClauseIsTrueTogether → ResolventIsTrue → TellsLiterals → OneNumber → ClausesAreTrue
clauses_are_true derived gates together resolvents tells one ns table levels s order i e at a good model =
    subst (λ o. IsClauseTrue a (clause_in ns s.atoms (elim o [ None ↦ [] | Some f ↦ f.literals ]))) at
    (all_true derived gates together resolvents ns table levels s (literals_agree tells one ns table s.atoms order.atoms) order a good (suc i) i e.level (omega arith) (Some e) at refl
    (subst (λ o. elim o [ None ↦ 0 | Some f ↦ f.level ] ≤ e.level) (sym at) (omega arith)) model)
