-- Logs in order: how they stay so when a clause is put, and that their clauses are true.
use Rattle.std.proofs.Common.{◌≡◌, ℕ, zero, suc, ◌<◌, ◌≤◌, max, List, [], ◌∷◌, ◌++◌, length, take, Option, Some, None, Result, Ok, Err, inl, inr, refl, sym, ap, subst, ◌∙◌, arith}
use Rattle.std.specs.Prelude.{slice_get, unwrap_or, IsSome, IfOk, OnErr}
use Rattle.std.specs.List.{AllByRecursion}
use Rattle.nz_lists.proofs.Numbers.{same_or_other}
use Rattle.nz_spec.specs.terms.Table.{Node}
use Rattle.nz_spec.specs.search.Decide.{asserted_numbers}
use Rattle.nz_log.specs.declared.atoms.Atom.{Atom}
use Rattle.nz_log.specs.declared.atoms.Atom.TheVariants.{Term}
use Rattle.nz_log.specs.declared.lits.Lit.{Lit}
use Rattle.nz_log.specs.declared.origins.Link.{Link}
use Rattle.nz_log.specs.Atoms.{AreAtoms, AreWithin, HasTerm, IsLitIn, Stay, lit_of, terms_at}
use Rattle.nz_log.specs.Lits.{lit_resolvent}
use Rattle.nz_log.specs.Logs.{IsPremise, Origin, assertion_of, gate_of, axiom_of, chain_of, Entry, JoinsAtoms, LogState, entry_at, IsLive, literals_at, level_at, told_level, level_of_terms, level_with, level_of_links, chained, chain_entry, Puts}
use Rattle.nz_log.proofs.LiteralPreservation.{all_stay, axiom_stays, clause_stays, lit_stays, literal_at}
use Rattle.nz_log.proofs.Members.{each-resolvent}
use Rattle.nz_term.specs.TermLits.{yes}
use Rattle.nz_log.specs.Sound.{live_at, IsLink, IsMade, IsEntry, IsLog}

-- ---- Entries stay in order where what they rest on stays

-- what is live up to a level is the same in another log
abbrev pub Keeps : ℕ → LogState → LogState → Type 0
Keeps level s r = (i : ℕ) → IsLive s i → level_at s i ≤ level → entry_at r i ≡ entry_at s i

module _ (bound : ℕ) (s r : LogState) (keeps : Keeps bound s r) where
  pub premise_stays : (id level i : ℕ) → level ≤ bound → IsPremise s id level i → (entry_at r i ≡ entry_at s i) × IsPremise r id level i
  premise_stays id level i below p =
      let same = keeps i p.live (let h : level_at s i ≤ level = p.level_within in omega arith) in (
        same,
        record {
          live = subst (λ o. IsSome o) (sym same) p.live;
          before = p.before;
          level_within = subst (λ o. elim o [ None ↦ 0 | Some e ↦ e.level ] ≤ level) (sym same) p.level_within;
        },
      )

  same_literals : (i : ℕ) → entry_at r i ≡ entry_at s i → literals_at r i ≡ literals_at s i
  same_literals i e = ap (λ o. elim o [ None ↦ [] | Some f ↦ f.literals ]) e

  chained_stays : (ns : List Node) (id level : ℕ) → level ≤ bound → (c : List Lit) (ks : List Link) → AllByRecursion (IsLink ns s id level) ks
      → chained s c ks ≡ chained r c ks
  chained_stays ns id level below c [] h = refl
  chained_stays ns id level below c (k ∷ ks) h =
      ap (λ d. chained s (lit_resolvent k.literal c d) ks)
      (sym (same_literals k.clause (premise_stays id level k.clause below h.0.premise).0))
      ∙ chained_stays ns id level below (lit_resolvent k.literal c (literals_at r k.clause)) ks h.1

  module _ (stay : Stay s.atoms r.atoms) where
    links_stay : (ns : List Node) (id level : ℕ) → level ≤ bound → (ks : List Link) → AllByRecursion (IsLink ns s id level) ks → AllByRecursion (IsLink ns r id level) ks
    links_stay ns id level below [] h = tt
    links_stay ns id level below (k ∷ ks) h = (
      record { premise = (premise_stays id level k.clause below h.0.premise).1; within = lit_stays ns s.atoms r.atoms stay k.literal h.0.within },
      links_stay ns id level below ks h.1,
    )

    made_stays : (ns : List Node) (levels : List (List ℕ)) (id : ℕ) (e : Entry) → e.level ≤ bound → AreWithin ns s.atoms e.literals → (o : Origin)
        → IsMade ns levels s id e o → IsMade ns levels r id e o
    made_stays ns levels id e below w (assertion_of k) m = (m.0, m.1, m.2, clause_stays ns s.atoms r.atoms stay e.literals w ∙ m.3)
    made_stays ns levels id e below w (gate_of t j) m = (m.0, m.1, m.2 ∙ ap Some (sym (clause_stays ns s.atoms r.atoms stay e.literals w)))
    made_stays ns levels id e below w (axiom_of a) m = axiom_stays ns s.atoms r.atoms stay a e.literals m
    made_stays ns levels id e below w (chain_of first ks) m =
        let p = premise_stays id e.level first below m.0 in (
          p.1,
          links_stay ns id e.level below ks m.1,
          m.2 ∙ ap (λ c. chained s c ks) (sym (same_literals first p.0)) ∙ chained_stays ns id e.level below (literals_at r first) ks m.1,
        )

    pub entry_stays : (ns : List Node) (levels : List (List ℕ)) (id : ℕ) (e : Entry) → e.level ≤ bound → IsEntry ns levels s id e → IsEntry ns levels r id e
    entry_stays ns levels id e below i =
        record { within = all_stay ns s.atoms r.atoms stay e.literals i.within; made = made_stays ns levels id e below i.within e.origin i.made }

-- ---- A clause is put

module _ (s r : LogState) (id : ℕ) (e : Entry) (puts : Puts s id e r) where
  pub puts_keeps : (bound : ℕ) → Keeps bound s r
  puts_keeps bound i live below = puts.kept i (λ same. let h : i < id = puts.above i live in omega arith)

  -- the new clause is in order beside the atoms that have joined
  pub puts_in_order : (ns : List Node) (levels : List (List ℕ)) → AreAtoms r.atoms → IsLog ns levels s → IsEntry ns levels (record s { atoms = r.atoms }) id e
      → IsLog ns levels r
  puts_in_order ns levels atoms order i =
      let m : LogState = record s { atoms = r.atoms } in
      record {
        atoms = atoms;
        clauses = λ j f at.
            elim (same_or_other j id) [
              | inl same ↦
                  let one : e ≡ f = let both : Some e ≡ Some f = sym puts.made ∙ ap (entry_at r) (sym same) ∙ at in cc in
                  subst (IsEntry ns levels r j) one
                  (subst (λ n. IsEntry ns levels r n e) (sym same)
                  (entry_stays e.level m r (puts_keeps e.level) (λ k a there. there) ns levels id e (omega arith) i))
              | inr other ↦
                  entry_stays f.level s r (puts_keeps f.level) puts.atoms ns levels j f (omega arith) (order.clauses j f (sym (puts.kept j other) ∙ at))
            ];
      }

-- ---- A live assertion

-- the numbers of more levels begin with those of fewer
pub longer : (l xs ys : List ℕ) → ((k t : ℕ) → slice_get xs k ≡ Some t → slice_get ys k ≡ Some t) → (k t : ℕ)
    → slice_get (l ++ xs) k ≡ Some t → slice_get (l ++ ys) k ≡ Some t
longer [] xs ys h k t e = h k t e
longer (x ∷ l) xs ys h zero t e = e
longer (x ∷ l) xs ys h (suc k) t e = longer l xs ys h k t e

pub live_grows : (levels : List (List ℕ)) (m n : ℕ) → m ≤ n → (k t : ℕ)
    → slice_get (asserted_numbers (take m levels)) k ≡ Some t → slice_get (asserted_numbers (take n levels)) k ≡ Some t
live_grows [] zero n le k t e = cc
live_grows [] (suc m) zero le k t e = absurd (omega arith)
live_grows [] (suc m) (suc n) le k t e = e
live_grows (l ∷ ls) zero n le k t e = cc
live_grows (l ∷ ls) (suc m) zero le k t e = absurd (omega arith)
live_grows (l ∷ ls) (suc m) (suc n) le k t e =
    longer l (asserted_numbers (take m ls)) (asserted_numbers (take n ls)) (live_grows ls m n (omega arith)) k t e

pub given_in_order : (ns : List Node) (levels : List (List ℕ)) (s : LogState) (id k t level n : ℕ) → level ≤ n → t < length ns → HasTerm s.atoms t
    → slice_get (live_at levels level) k ≡ Some t
    → IsEntry ns levels s id (record { literals = lit_of s.atoms (yes t) ∷ []; level = n; origin = assertion_of k })
given_in_order ns levels s id k t level n least within has live =
    let said = literal_at ns s.atoms (lit_of s.atoms (yes t)) (Term t) has in
    record {
      within = (record { atom = Term t; at = has; within = within }, tt);
      made = (t, live_grows levels (suc level) (suc n) (omega arith) k t live, within, ap (λ l. l ∷ []) said);
    }

-- what a rule answers leaves the log in order, if the clause is in order over the old one, beside the atoms that have joined
pub rule_in_order : {E : Type 0} (s r : LogState) (e : Entry) (result : Result ℕ E) → IfOk result (λ id. Puts s id e r) → OnErr result (JoinsAtoms s r) → AreAtoms r.atoms
    → (ns : List Node) (levels : List (List ℕ)) → ((id : ℕ) → ((i : ℕ) → IsLive s i → i < id) → IsEntry ns levels (record s { atoms = r.atoms }) id e)
    → IsLog ns levels s → IsLog ns levels r
rule_in_order s r e (Ok id) made unchanged atoms ns levels i order = puts_in_order s r id e made ns levels atoms order (i id made.above)
rule_in_order s r e (Err x) made unchanged atoms ns levels i order =
    record {
      atoms = atoms;
      clauses = λ j f at.
          let entry : (k : ℕ) → entry_at r k ≡ entry_at s k = λ k. ap (λ es. unwrap_or (slice_get es k) None) unchanged.entries in
          entry_stays f.level s r (λ k live below. entry k) unchanged.atoms ns levels j f (omega arith) (order.clauses j f (sym (entry j) ∙ at));
    }

-- where no atom joins
pub rule_keeps_order : {E : Type 0} (s r : LogState) (e : Entry) (result : Result ℕ E) → IfOk result (λ id. Puts s id e r) → OnErr result (r ≡ s) → r.atoms ≡ s.atoms
    → (ns : List Node) (levels : List (List ℕ)) → ((id : ℕ) → ((i : ℕ) → IsLive s i → i < id) → IsEntry ns levels s id e) → IsLog ns levels s → IsLog ns levels r
rule_keeps_order s r e (Ok id) made unchanged same ns levels i order =
    puts_in_order s r id e made ns levels (subst AreAtoms (sym same) order.atoms) order
    (subst (λ (list : List Atom). IsEntry ns levels (record s { atoms = list }) id e) (sym same) (i id made.above))
rule_keeps_order s r e (Err x) made unchanged same ns levels i order = subst (IsLog ns levels) (sym unchanged) order

-- ---- A chain of resolvents

pub terms_grow : (s : LogState) (level : ℕ) (ts : List ℕ) → level ≤ level_of_terms s level ts
terms_grow s level [] = omega arith
terms_grow s level (t ∷ ts) = let rest = terms_grow s (max level (told_level s t)) ts in omega (arith, rest)

pub level_grows : (s : LogState) (level : ℕ) (c : List Lit) → level ≤ level_with s level c
level_grows s level [] = omega arith
level_grows s level (l ∷ ls) =
    let first = terms_grow s level (terms_at s.atoms l) in
    let rest = level_grows s (level_of_terms s level (terms_at s.atoms l)) ls in
    omega (arith, first, rest)

pub links_grow : (s : LogState) (level : ℕ) (ks : List Link) → level ≤ level_of_links s level ks
links_grow s level [] = omega arith
links_grow s level (k ∷ ks) = let rest = links_grow s (max level (level_at s k.clause)) ks in omega (arith, rest)

module _ (ns : List Node) (levels : List (List ℕ)) (s : LogState) (order : IsLog ns levels s) where
  pub within_at : (i : ℕ) (o : Option Entry) → entry_at s i ≡ o → AreWithin ns s.atoms (elim o [ None ↦ [] | Some e ↦ e.literals ])
  within_at i None at = tt
  within_at i (Some e) at = (order.clauses i e at).within

  chained_within : (c : List Lit) (ks : List Link) → AreWithin ns s.atoms c → AreWithin ns s.atoms (chained s c ks)
  chained_within c [] h = h
  chained_within c (k ∷ ks) h =
      chained_within (lit_resolvent k.literal c (literals_at s k.clause)) ks
      (each-resolvent (IsLitIn ns s.atoms) k.literal c (literals_at s k.clause) h (within_at k.clause (entry_at s k.clause) refl))

  links_are : (id n : ℕ) → ((i : ℕ) → IsLive s i → i < id) → (start : ℕ) (ks : List Link) → AllByRecursion (λ (k : Link). IsLive s k.clause) ks
      → AllByRecursion (λ (k : Link). IsLitIn ns s.atoms k.literal) ks → level_of_links s start ks ≤ n → AllByRecursion (IsLink ns s id n) ks
  links_are id n above start [] live within below = tt
  links_are id n above start (k ∷ ks) live within below =
      let grows = links_grow s (max start (level_at s k.clause)) ks in
      let least : level_at s k.clause ≤ n = omega (arith, grows, below) in (
        record { premise = record { live = live.0; before = above k.clause live.0; level_within = least }; within = within.0 },
        links_are id n above (max start (level_at s k.clause)) ks live.1 within.1 below,
      )

  pub chain_in_order : (id first : ℕ) (ks : List Link) → ((i : ℕ) → IsLive s i → i < id) → IsLive s first → AllByRecursion (λ (k : Link). IsLive s k.clause) ks
      → AllByRecursion (λ (k : Link). IsLitIn ns s.atoms k.literal) ks → IsEntry ns levels s id (chain_entry s first ks)
  chain_in_order id first ks above live lives within =
      let c = chained s (literals_at s first) ks in
      let start = level_of_links s (level_at s first) ks in
      let grows = level_grows s start c in
      let from = links_grow s (level_at s first) ks in
      let low : level_at s first ≤ level_with s start c = omega (arith, grows, from) in
      record {
        within = chained_within (literals_at s first) ks (within_at first (entry_at s first) refl);
        made = (
          record { live = live; before = above first live; level_within = low },
          links_are id (level_with s start c) above (level_at s first) ks lives within grows,
          refl,
        );
      }
