-- The level of a clause stays at or above those told of the terms that it names.
use Rattle.std.proofs.Common.{◌≡◌, ◌≢◌, inl, inr, ℕ, ◌≤◌, max, List, [], ◌∷◌, Option, Some, None, refl, sym, ap, subst, ◌∙◌, arith}
use Rattle.std.specs.Prelude.{Contains, IsSome, IsSomeAnd, slice_get, slice_index_or, unwrap_or, if◌then◌else◌}
use Rattle.std.specs.List.{AllByRecursion}
use Rattle.std.proofs.lemmas.Bool.{le-leb}
use Rattle.std.proofs.lemmas.Bool.Decides.{eqb_tells}
use Rattle.std.proofs.lemmas.List.Elements.{All-contains, All-contains_itself, All-from_recursion, All-weaker, recursion_from_All}
use Rattle.nz_lists.proofs.Elements.{AllByRecursion-weaker, AllByRecursion-put}
use Rattle.nz_lists.proofs.Members.{each_of}
use Rattle.nz_lists.proofs.Places.{slice_get-same}
use Rattle.nz_log.specs.declared.atoms.Atom.TheVariants.{Term}
use Rattle.nz_log.specs.declared.lits.Lit.{Lit}
use Rattle.nz_log.specs.declared.origins.Link.{Link}
use Rattle.nz_term.specs.declared.term_lits.TermLit.{TermLit}
use Rattle.nz_log.specs.Atoms.{HasTerm, Stay, lit_of, lits_of, terms_at, terms_of}
use Rattle.nz_log.specs.Lits.{are_same_lit, lit_resolvent}
use Rattle.nz_log.specs.Leveled.{AreTold, IsLeveled, IsToldWithin, LevelsReach, LogsStayLeveled, Names}
use Rattle.nz_log.specs.Logs.{Entry, LogState, axiom_entry, chain_entry, gate_entry, given_entry, entry_at, level_at, literals_at, level_of_links, level_of_terms, level_with, told_of, told_level, told_below, lowest, chained, Puts}
use Rattle.nz_rows.specs.GateRows.{gates_at}
use Rattle.nz_term.specs.TermLits.{yes}
use Rattle.nz_spec.specs.clauses.Literal.{once}
use Rattle.nz_log.proofs.DroppedLevels.{kept_is}
use Rattle.nz_log.proofs.Members.{each-resolvent}
use Rattle.nz_log.proofs.Soundness.{level_grows, terms_grow}

-- ---- The level of literals

-- it is no lower than what was told of one of their terms
told_reached : (s : LogState) (n : ℕ) (ts : List ℕ) → AllByRecursion (λ t. told_level s t ≤ level_of_terms s n ts) ts
told_reached s n [] = tt
told_reached s n (t ∷ ts) =
    let more = terms_grow s (max n (told_level s t)) ts in ((omega (arith, more)), told_reached s (max n (told_level s t)) ts)

reached : (s : LogState) (n : ℕ) (c : List Lit) → AllByRecursion (λ (l : Lit). AllByRecursion (λ t. told_level s t ≤ level_with s n c) (terms_at s.atoms l)) c
reached s n [] = tt
reached s n (l ∷ ls) =
    let here = level_of_terms s n (terms_at s.atoms l) in
    let more = level_grows s here ls in (
      AllByRecursion-weaker (λ t. told_level s t ≤ here) (λ t. told_level s t ≤ level_with s here ls)
          (λ t low. let least : told_level s t ≤ here = low in omega (arith, more, least)) (terms_at s.atoms l) (told_reached s n (terms_at s.atoms l)),
      reached s here ls,
    )

pub levels_reach : LevelsReach
levels_reach s n c l has t named =
    let P : ℕ → Type 0 = λ u. told_level s u ≤ level_with s n c in
    each_of P (terms_at s.atoms l) (each_of (λ (m : Lit). AllByRecursion P (terms_at s.atoms m)) c (reached s n c) l has) t named

told_within : (o : Option ℕ) (m : ℕ) → IsSome o → unwrap_or o 0 ≤ m → IsSomeAnd o (λ n. n ≤ m)
told_within None m there below = cc
told_within (Some n) m there below = below

is_told : (o : Option ℕ) (m : ℕ) → IsSomeAnd o (λ n. n ≤ m) → IsSome o
is_told None m h = absurd h
is_told (Some n) m h = refl

both_told : (s : LogState) (n : ℕ) (ts : List ℕ) → AllByRecursion (λ t. IsSome (told_of s t)) ts → AllByRecursion (λ t. told_level s t ≤ n) ts
    → AllByRecursion (IsToldWithin s n) ts
both_told s n [] h k = tt
both_told s n (t ∷ ts) h k = (told_within (told_of s t) n h.0 k.0, both_told s n ts h.1 k.1)

-- so literals whose terms were told are within their level
within_level : (s : LogState) (n : ℕ) (c : List Lit) → AreTold s c → (l : Lit) → Contains c l → Names (IsToldWithin s (level_with s n c)) s.atoms l
within_level s n c told l has =
    let P : Lit → Type 0 = λ m. AllByRecursion (λ t. told_level s t ≤ level_with s n c) (terms_at s.atoms m) in
    let named = All-contains (Names (λ t. IsSome (told_of s t)) s.atoms) c l told has in
    let low = All-contains P c l (All-from_recursion P c (reached s n c)) has in
    let own : terms_at s.atoms l ≡ terms_of named.atom = ap (λ o. elim o [ None ↦ [] | Some a ↦ terms_of a ]) named.at in
    record {
      atom = named.atom;
      at = named.at;
      terms = both_told s (level_with s n c) (terms_of named.atom) named.terms (subst (AllByRecursion (λ t. told_level s t ≤ level_with s n c)) own low);
    }

-- ---- Rules

-- a level that was told stays so, as atoms join
names_stay : (old new : LogState) (level : ℕ) → new.told ≡ old.told → Stay old.atoms new.atoms → (l : Lit) → Names (IsToldWithin old level) old.atoms l
    → Names (IsToldWithin new level) new.atoms l
names_stay old new level told stay l h =
    record {
      atom = h.atom;
      at = stay l.atom h.atom h.at;
      terms = subst (λ ts. AllByRecursion (λ t. IsSomeAnd (slice_index_or ts t None) (λ n. n ≤ level)) (terms_of h.atom)) (sym told) h.terms;
    }

-- a clause is put
put_leveled : (old new : LogState) (id : ℕ) (e : Entry) → Puts old id e new → ((l : Lit) → Contains e.literals l → Names (IsToldWithin new e.level) new.atoms l)
    → IsLeveled old → IsLeveled new
put_leveled old new id e puts own h i f at l has =
    elim (eqb_tells i id) [
      | inl here ↦
          let both : Some e ≡ Some f = sym puts.made ∙ ap (entry_at new) (sym here.1) ∙ at in
          let one : e ≡ f = cc in
          subst (λ (g : Entry). Contains g.literals l → Names (IsToldWithin new g.level) new.atoms l) one (own l) has
      | inr other ↦ names_stay old new f.level puts.told puts.atoms l (h i f (sym (puts.kept i other.1) ∙ at) l has)
    ]

-- what a clause names was told
abbrev AreNamed : LogState → List Lit → Type 0
AreNamed s c = AllByRecursion (Names (λ t. IsSome (told_of s t)) s.atoms) c

named_told : (s : LogState) → IsLeveled s → (i : ℕ) (o : Option Entry) → entry_at s i ≡ o → AreNamed s (elim o [ None ↦ [] | Some e ↦ e.literals ])
named_told s h i None at = tt
named_told s h i (Some e) at =
    let P : Lit → Type 0 = Names (λ t. IsSome (told_of s t)) s.atoms in
    let told : (l : Lit) → Contains e.literals l → P l = λ l has.
    (let named = h i e at l has in
    record {
      atom = named.atom;
      at = named.at;
      terms = AllByRecursion-weaker (IsToldWithin s e.level) (λ t. IsSome (told_of s t)) (λ t within. is_told (told_of s t) e.level within) (terms_of named.atom) named.terms;
    }) in
    recursion_from_All P e.literals (All-weaker (Contains e.literals) P told e.literals (All-contains_itself e.literals))

-- and so was what a chain of them names
chained_told : (s : LogState) → IsLeveled s → (ks : List Link) (c : List Lit) → AreNamed s c → AreNamed s (chained s c ks)
chained_told s h [] c told = told
chained_told s h (k ∷ ks) c told =
    chained_told s h ks (lit_resolvent k.literal c (literals_at s k.clause))
    (each-resolvent (Names (λ t. IsSome (told_of s t)) s.atoms) k.literal c (literals_at s k.clause) told (named_told s h k.clause (entry_at s k.clause) refl))

-- literals on terms
lits_told : (s : LogState) (c : List TermLit) → AllByRecursion (λ (l : TermLit). HasTerm s.atoms l.term × IsSome (told_of s l.term)) c → AreNamed s (lits_of s.atoms c)
lits_told s [] h = tt
lits_told s (l ∷ ls) h = (record { atom = Term l.term; at = h.0.0; terms = (h.0.1, tt) }, lits_told s ls h.1)

-- ---- Levels that are told or dropped

lowered : (o : Option ℕ) (level m : ℕ) → IsSomeAnd o (λ n. n ≤ m) → IsSomeAnd (Some (lowest o level)) (λ n. n ≤ m)
lowered None level m h = absurd h
lowered (Some n) level m h = let below : n ≤ m = h in omega arith

still_told : (o : Option ℕ) (level m : ℕ) → m ≤ level → IsSomeAnd o (λ n. n ≤ m) → IsSomeAnd (told_below level o) (λ n. n ≤ m)
still_told None level m below h = absurd h
still_told (Some n) level m below h =
    let inside : n ≤ m = h in
    subst (λ b. IsSomeAnd (if b then Some n else None) (λ k. k ≤ m)) (sym (le-leb n level (omega arith))) inside

placed_told : (old new : LogState) (t level m : ℕ) → told_of new t ≡ Some (lowest (told_of old t) level) → ((u : ℕ) → u ≢ t → told_of new u ≡ told_of old u)
    → (u : ℕ) → IsToldWithin old m u → IsToldWithin new m u
placed_told old new t level m here others u was =
    elim (eqb_tells u t) [
      | inl one ↦
          subst (λ o. IsSomeAnd o (λ n. n ≤ m)) (sym (ap (told_of new) one.1 ∙ here))
          (lowered (told_of old t) level m (subst (IsToldWithin old m) one.1 was))
      | inr other ↦ subst (λ o. IsSomeAnd o (λ n. n ≤ m)) (sym (others u other.1)) was
    ]

-- what is told of each term that a literal names, where the atoms are the same
names_told : (old new : LogState) (m n : ℕ) → new.atoms ≡ old.atoms → ((u : ℕ) → IsToldWithin old m u → IsToldWithin new n u) → (l : Lit)
    → Names (IsToldWithin old m) old.atoms l → Names (IsToldWithin new n) new.atoms l
names_told old new m n same told l h =
    record {
      atom = h.atom;
      at = slice_get-same old.atoms new.atoms same l.atom h.atom h.at;
      terms = AllByRecursion-weaker (IsToldWithin old m) (IsToldWithin new n) told (terms_of h.atom) h.terms;
    }

told_now : (old new : LogState) → new.told ≡ old.told → (t : ℕ) → IsSome (told_of old t) → IsSome (told_of new t)
told_now old new same t h = subst (λ ts. IsSome (slice_index_or ts t None)) (sym same) h

pub logs_stay_leveled : LogsStayLeveled
logs_stay_leveled =
    record {
      start = λ i e at l has. cc;
      given = λ old new id k t level puts there told h.
          let own : Lit = lit_of new.atoms (yes t) in
          let named : Names (λ u. IsSome (told_of new u)) new.atoms own = record { atom = Term t; at = there; terms = (told_now old new puts.told t told, tt) } in
          let all : AreNamed new (own ∷ []) = (named, tt) in
          put_leveled old new id (given_entry new k t level) puts
          (within_level new level (own ∷ []) (All-from_recursion (Names (λ u. IsSome (told_of new u)) new.atoms) (own ∷ []) all)) h;
      gate = λ ns old new id t j puts told h.
          let gate_lits : List TermLit = unwrap_or (slice_get (gates_at ns t) j) [] in
          let c : List Lit = once are_same_lit (lits_of new.atoms gate_lits) in
          let named = lits_told new gate_lits (recursion_from_All (λ (l : TermLit). HasTerm new.atoms l.term × IsSome (told_of new l.term)) gate_lits told) in
          let all : AreNamed new c = AllByRecursion-put (Names (λ u. IsSome (told_of new u)) new.atoms) are_same_lit (lits_of new.atoms gate_lits) [] tt named in
          put_leveled old new id (gate_entry ns new t j) puts
          (within_level new 0 c (All-from_recursion (Names (λ u. IsSome (told_of new u)) new.atoms) c all)) h;
      arithmetic = λ old new id a c puts told h. put_leveled old new id (axiom_entry new a c) puts (within_level new 0 c told) h;
      chain = λ old new id first ks puts live lives h.
          let c : List Lit = chained old (literals_at old first) ks in
          let from = level_of_links old (level_at old first) ks in
          let all : AreNamed old c = chained_told old h ks (literals_at old first) (named_told old h first (entry_at old first) refl) in
          put_leveled old new id (chain_entry old first ks) puts
          (λ l has. names_stay old new (level_with old from c) puts.told puts.atoms l
          (within_level old from c (All-from_recursion (Names (λ u. IsSome (told_of old u)) old.atoms) c all) l has)) h;
      joined = λ old new joins h i e at l has.
          names_stay old new e.level joins.told joins.atoms l (h i e (sym (ap (λ es. unwrap_or (slice_get es i) None) joins.entries) ∙ at) l has);
      placed = λ old new t level same atoms here others h i e at l has.
          names_told old new e.level e.level atoms (placed_told old new t level e.level here others) l
          (h i e (sym (ap (λ es. unwrap_or (slice_get es i) None) same) ∙ at) l has);
      dropped = λ old new level drops h i e at l has.
          let was = kept_is level (entry_at old i) e (sym (drops.entries i) ∙ at) in
          names_told old new e.level e.level drops.atoms
          (λ u within. subst (λ o. IsSomeAnd o (λ n. n ≤ e.level)) (sym (drops.told u)) (still_told (told_of old u) level e.level was.1 within)) l
          (h i e was.0 l has);
    }
