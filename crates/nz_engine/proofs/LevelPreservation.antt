-- What is prepared stays so when levels go on, when a level is put above them, when the table grows, and when levels are cut.
use Rattle.std.proofs.Common.{◌≡◌, ℕ, suc, ◌<◌, ◌≤◌, ◌⊎◌, inl, inr, Bool, true, false, true≢false, List, [], ◌∷◌, ◌++◌, length, get_or, map, min, take, Option, Some, None, refl, sym, ap, subst, ◌∙◌, arith, cond}
use Rattle.std.specs.Prelude.{All, Contains, IsSome, IsSomeAnd, filter, is_some, nat_le, unwrap_or, option_map, slice_get, if◌then◌else◌}
use Rattle.std.specs.List.{AllByRecursion}
use Rattle.std.proofs.lemmas.Bool.{leb-true, le-leb}
use Rattle.std.proofs.lemmas.List.{length-append, length-map, take-append-le, take-map}
use Rattle.std.proofs.lemmas.List.Elements.{All-contains, All-from_recursion, All-weaker, Contains-append_right, Contains-get_or, recursion_from_All}
use Rattle.std.proofs.lemmas.Option.{slice_get_within}
use Rattle.nz_lists.proofs.Elements.{AllByRecursion-weaker}
use Rattle.nz_lists.proofs.Members.{has_cases, has_none}
use Rattle.nz_lists.proofs.Options.{kept_if}
use Rattle.nz_spec.specs.terms.Table.{Node, IsTable, TermStays, term_in}
use Rattle.nz_spec.specs.terms.Order.{listing_order}
use Rattle.nz_spec.specs.search.Decide.{asserted_numbers}
use Rattle.nz_spec.specs.clauses.Gates.{is_boolean_term}
use Rattle.nz_spec.specs.terms.Taken.{IsTaken}
use Rattle.nz_log.specs.declared.atoms.Atom.{Atom}
use Rattle.nz_log.specs.declared.atoms.Atom.TheVariants.{Term, AtMost}
use Rattle.nz_log.specs.declared.lits.Lit.{Lit}
use Rattle.nz_log.specs.Atoms.{HasTerm, lit_of, terms_of}
use Rattle.nz_log.specs.Leveled.{IsToldWithin, LogsStayLeveled}
use Rattle.nz_log.specs.Logs.{Drops, LogState, Origin, Entry, entry_at, IsLive, level_at, literals_at, told_of, told_level, kept_below, told_below}
use Rattle.nz_log.specs.Sound.{IsLog, live_at, LogsStay}
use Rattle.nz_term.specs.TermLits.{yes}
use Rattle.nz_cform.specs.Covering.{Covers, IsRowAt}
use Rattle.nz_cform.specs.Forms.{covered_at}
use Rattle.nz_cform.specs.Listings as listings
use Rattle.nz_cform.specs.Listings.{ListingState, listed_at}
use Rattle.nz_cform.specs.Laws.{CoversStay}
use Rattle.nz_sat.specs.declared.clauses.Held.{Held}
use Rattle.nz_sat.specs.Sats.{AreHeld, AreSameSince, IsSameIn, added_as, held_up_to}
use Rattle.nz_search.specs.Levels.{Level, added_by_level, asserted_by_level, numbers_by_level}
use Rattle.nz_engine.specs.Levels.{count_in, count_of}
use Rattle.nz_engine.specs.Preparing.{PreparedState, AreSearched, HasListedBounds, HoldsRow, HoldsUnit, IsListedIn, IsMadeOf, IsNumbered, IsOfForm, IsPrepared, IsSearched, IsSeen, IsStanding, CutsTo, unit_of}
use Rattle.nz_engine.proofs.NeededRows.{added_still, may_still}
use Rattle.nz_engine.proofs.UnlistedClauses.{left_all}
use Rattle.nz_engine.proofs.AssertionPlaces.{GoOn, TermsGoOn, count_all, count_cut, count_more, in_all, live_cut, longer_cut, lower_or_not}

pub none_or_some : {X : Type 0} (o : Option X) → (o ≡ None) ⊎ ((x : X) × (o ≡ Some x))
none_or_some None = inl refl
none_or_some (Some x) = inr (x, refl)

-- what a level told is, where none is
pub told_or : (o : Option ℕ) → (unwrap_or o 0 ≡ 0) ⊎ (o ≡ Some (unwrap_or o 0))
told_or None = inl refl
told_or (Some n) = inr refl

-- what is kept of a level was told, at or below it
told_parts : (level : ℕ) (o : Option ℕ) (n : ℕ) → told_below level o ≡ Some n → (o ≡ Some n) × (n ≤ level)
told_parts level None n at = cc
told_parts level (Some m) n at =
    let k = kept_if (nat_le m level) m n at in
    (ap Some k.0, subst (λ i. i ≤ level) k.0 (leb-true m level k.1))

-- what one of some roots has is what one of more has
pub made_of_more : (ns : List Node) (xs ys : List ℕ) (t : ℕ) → ((r : ℕ) → Contains xs r → Contains ys r) → IsMadeOf ns xs t → IsMadeOf ns ys t
made_of_more ns xs ys t more h = record { root = h.root; has = more h.root h.has; within = h.within; part = h.part }

pub some_of : {X : Type 0} (o : Option X) → IsSome o → (x : X) × (o ≡ Some x)
some_of None h = absurd (true≢false (sym h))
some_of (Some x) h = (x, refl)

-- a level within another one is one
pub some_within : (o : Option ℕ) (n : ℕ) → IsSomeAnd o (λ m. m ≤ n) → IsSome o
some_within None n h = absurd h
some_within (Some m) n h = refl

-- a literal that was searched for is so still, where its atom is of the form still
pub still_searched : (ns more : List Node) (p q : PreparedState) (i : ℕ) → ((a : Atom) → slice_get p.log.atoms i ≡ Some a → slice_get q.log.atoms i ≡ Some a)
    → ((a : Atom) → slice_get p.log.atoms i ≡ Some a → IsOfForm ns p.form i a → IsOfForm more q.form i a) → IsSearched ns p.log p.form i → IsSearched more q.log q.form i
still_searched ns more p q i stay of s = record { atom = s.atom; at = stay s.atom s.at; of = of s.atom s.at s.of }

-- ---- Levels go on

-- what no more than so many stand below is in one of the levels
level_below : (levels : List (List ℕ)) (n k given : ℕ) → count_in levels n ≤ k → k < given → given ≤ count_of levels → n < length levels
level_below levels n k given behind below within =
    elim (lower_or_not n (length levels)) [
      | inl low ↦ low
      | inr past ↦ let all = count_all levels n past in absurd (omega (arith, all, behind, within, below))
    ]

module _ (ns : List Node) (old new : List Level) (p : PreparedState) (on : GoOn old new) (h : IsPrepared ns old (added_by_level old) p) where
  goes_units : (k t : ℕ) → k < p.given → slice_get (asserted_numbers (asserted_by_level new)) k ≡ Some t → HoldsUnit (asserted_by_level new) p k t
  goes_units k t below at =
      let within = h.within in
      let u = h.units k t below (on.asserted.front k t (omega (arith, below, within)) at) in
      record {
        held = u.held;
        there = u.there;
        need = u.need;
        added = u.added;
        named = u.named;
        literals = u.literals;
        behind = subst (λ n. n ≤ k) (sym (on.asserted.counts u.held.level (level_below (asserted_by_level old) u.held.level k p.given u.behind below within))) u.behind;
      }

  goes_numbers : (k t : ℕ) → k < p.numbered → slice_get (asserted_numbers (numbers_by_level new)) k ≡ Some t → IsNumbered (numbers_by_level new) p k t
  goes_numbers k t below at =
      let within = h.numbers_within in
      let u = h.numbers k t below (on.numbers.front k t (omega (arith, below, within)) at) in
      record {
        level = u.level;
        covered = u.covered;
        behind = subst (λ n. n ≤ k) (sym (on.numbers.counts u.level (level_below (numbers_by_level old) u.level k p.numbered u.behind below within))) u.behind;
      }

  -- the counts below a level told are those of before
  goes_lower : (of : Level → List ℕ) (given t : ℕ) → TermsGoOn (map of old) (map of new) → count_in (map of old) (told_level p.log t) ≤ given → count_in (map of new) (told_level p.log t) ≤ given
  goes_lower of given t kind was =
      elim (told_or (told_of p.log t)) [
        | inl none ↦ subst (λ n. count_in (map of new) n ≤ given) (sym none) (omega arith)
        | inr some ↦
            let below : told_level p.log t < length (added_by_level old) = h.below t (told_level p.log t) (sym (h.covers.rows.told t) ∙ some) in
            let all = length-map old (λ (l : Level). l.asserted ++ l.numbers) in
            let own = length-map old of in
            subst (λ n. n ≤ given) (sym (kind.counts (told_level p.log t) (omega (arith, below, all, own)))) was
      ]

  pub goes_on : LogsStay → IsPrepared ns new (added_by_level new) p
  goes_on stay =
      record {
        order = stay.asserted ns (asserted_by_level old) (asserted_by_level new) p.log on.asserted.more h.order;
        covers = h.covers;
        below = λ t n at.
            let low = h.below t n at in
            let longer = on.longer in
            let first = length-map old (λ (l : Level). l.asserted ++ l.numbers) in
            let second = length-map new (λ (l : Level). l.asserted ++ l.numbers) in
            omega (arith, low, longer, first, second);
        made = λ t n at. made_of_more ns (live_at (added_by_level old) n) (live_at (added_by_level new) n) t (on.roots n) (h.made t n at);
        taken = h.taken;
        leveled = h.leveled;
        held = h.held;
        seen = h.seen;
        searched = h.searched;
        rows = h.rows;
        units = goes_units;
        numbers = goes_numbers;
        within = let within = h.within in let total = on.asserted.total in omega (arith, within, total);
        numbers_within = let within = h.numbers_within in let total = on.numbers.total in omega (arith, within, total);
        lower = λ t. goes_lower (λ (l : Level). l.asserted) p.given t on.asserted (h.lower t);
        numbers_lower = λ t. goes_lower (λ (l : Level). l.numbers) p.numbered t on.numbers (h.numbers_lower t);
      }

-- ---- A level above

pub raised : (ns : List Node) (levels : List Level) (more : List ℕ) (p : PreparedState) → IsPrepared ns levels (added_by_level levels) p
    → IsPrepared ns levels (added_by_level levels ++ more ∷ []) p
raised ns levels more p h =
    let added = added_by_level levels in
    record {
      order = h.order;
      covers = h.covers;
      below = λ t n at. let low = h.below t n at in let long = length-append added (more ∷ []) in omega (arith, low, long);
      made = λ t n at.
          let low = h.below t n at in
          subst (λ ls. IsMadeOf ns ls t) (sym (ap asserted_numbers (take-append-le (suc n) added (more ∷ []) (omega (arith, low))))) (h.made t n at);
      taken = h.taken;
      leveled = h.leveled;
      held = h.held;
      seen = h.seen;
      searched = h.searched;
      rows = h.rows;
      units = h.units;
      numbers = h.numbers;
      within = h.within;
      numbers_within = h.numbers_within;
      lower = h.lower;
      numbers_lower = h.numbers_lower;
    }

pub standing : (ns : List Node) (levels : List Level) (more : List ℕ) (p : PreparedState) → IsPrepared ns levels (added_by_level levels) p → IsStanding ns levels more p
standing ns levels more p h = record { raised = raised ns levels more p h; plain = λ e. h }

-- ---- The table grows

-- what is of the form over a table is so over one that goes on
grown_of : TermStays → (ns more : List Node) (p : PreparedState) → ((t n : ℕ) → covered_at p.form t ≡ Some n → t < length ns) → (i : ℕ) (a : Atom)
    → IsOfForm ns p.form i a → IsOfForm (ns ++ more) p.form i a
grown_of terms ns more p within i (Term t) of =
    let n = some_of (covered_at p.form t) of.0 in
    (of.0, ap is_boolean_term (terms ns more t (within t n.0 n.1)) ∙ of.1)
grown_of terms ns more p within i (AtMost b) of = of

pub grown : TermStays → LogsStay → CoversStay → (ns more : List Node) (levels : List Level) (roots : List (List ℕ)) (p : PreparedState) → IsTable ns → IsPrepared ns levels roots p
    → IsPrepared (ns ++ more) levels roots p
grown terms stay covers ns more levels roots p table h =
    record {
      order = stay.table ns more (asserted_by_level levels) p.log h.order;
      covers = covers.table ns more p.log p.form table h.covers;
      below = h.below;
      made = λ t n at.
          let of = h.made t n at in
          let inside = h.covers.within t n at in
          let there = of.within in
          let part = subst (λ u. Contains (listing_order (term_in ns of.root)) u) (sym (terms ns more t inside)) of.part in
          record {
            root = of.root;
            has = of.has;
            within = let long = length-append ns more in omega (arith, long, there);
            part = subst (λ u. Contains (listing_order u) (term_in (ns ++ more) t)) (sym (terms ns more of.root there)) part;
          };
      taken = λ t some.
          let n = some_of (covered_at p.form t) some in
          subst IsTaken (sym (terms ns more t (h.covers.within t n.0 n.1))) (h.taken t some);
      leveled = h.leveled;
      held = h.held;
      seen = h.seen;
      searched = λ k d inside.
          let x = get_or p.sat.clauses k d in
          All-weaker (λ (l : Lit). IsSearched ns p.log p.form l.atom) (λ (l : Lit). IsSearched (ns ++ more) p.log p.form l.atom)
          (λ l s. still_searched ns (ns ++ more) p p l.atom (λ a at. at) (λ a at of. grown_of terms ns more p h.covers.within l.atom a of) s)
          (literals_at p.log x.id) (h.searched k d inside);
      rows = h.rows;
      units = h.units;
      numbers = h.numbers;
      within = h.within;
      numbers_within = h.numbers_within;
      lower = h.lower;
      numbers_lower = h.numbers_lower;
    }

-- ---- Levels are cut

-- what holds of the clauses up to a level
filter_step : (Q : Held → Type 0) (h : Held) (hs : List Held) (b : Bool) → (b ≡ true → Q h) → AllByRecursion Q hs → AllByRecursion Q (cond b (h ∷ hs) hs)
filter_step Q h hs true own rest = (own refl, rest)
filter_step Q h hs false own rest = rest

up_to : (P Q : Held → Type 0) (m : ℕ) → ((h : Held) → h.level ≤ m → P h → Q h) → (hs : List Held) → AllByRecursion P hs → AllByRecursion Q (held_up_to m hs)
up_to P Q m f [] all = tt
up_to P Q m f (h ∷ hs) all =
    filter_step Q h (held_up_to m hs) (nat_le h.level m) (λ e. f h (leb-true h.level m e) all.0) (up_to P Q m f hs all.1)

up_all : (P Q : Held → Type 0) (m : ℕ) → ((h : Held) → h.level ≤ m → P h → Q h) → (hs : List Held) → All P hs → All Q (held_up_to m hs)
up_all P Q m f hs all = All-from_recursion Q (held_up_to m hs) (up_to P Q m f hs (recursion_from_All P hs all))

-- and a clause up to it is one of them
keep_first : (h : Held) (hs : List Held) (b : Bool) → b ≡ true → Contains (cond b (h ∷ hs) hs) h
keep_first h hs true e = (0, omega arith, refl)
keep_first h hs false e = absurd (true≢false (sym e))

keep_other : (h x : Held) (hs : List Held) (b : Bool) → Contains hs x → Contains (cond b (h ∷ hs) hs) x
keep_other h x hs true c = Contains-append_right (h ∷ []) hs x c
keep_other h x hs false c = c

kept_at : (m : ℕ) (hs : List Held) → AllByRecursion (λ (x : Held). x.level ≤ m → Contains (held_up_to m hs) x) hs
kept_at m [] = tt
kept_at m (h ∷ hs) = (
  (λ low. keep_first h (held_up_to m hs) (nat_le h.level m) (le-leb h.level m low)),
  AllByRecursion-weaker (λ (x : Held). x.level ≤ m → Contains (held_up_to m hs) x) (λ (x : Held). x.level ≤ m → Contains (held_up_to m (h ∷ hs)) x)
      (λ x f low. keep_other h x (held_up_to m hs) (nat_le h.level m) (f low)) hs (kept_at m hs),
)

pub kept_up_to : (m : ℕ) (hs : List Held) (x : Held) → Contains hs x → x.level ≤ m → Contains (held_up_to m hs) x
kept_up_to m hs x has =
    All-contains (λ (y : Held). y.level ≤ m → Contains (held_up_to m hs) y) hs x
    (All-from_recursion (λ (y : Held). y.level ≤ m → Contains (held_up_to m hs) y) hs (kept_at m hs)) has

-- clauses that are kept
entry_kept : (m : ℕ) (o : Option Entry) → IsSome o → elim o [ None ↦ 0 | Some e ↦ e.level ] ≤ m → kept_below m o ≡ o
entry_kept m None live low = refl
entry_kept m (Some e) live low = ap (λ b. if b then Some e else None) (le-leb e.level m low)

test_kept : (m : ℕ) (o : Origin) (e : Entry) (b : Bool) → nat_le e.level m ≡ b → option_map (λ (x : Entry). x.origin) (if b then Some e else None) ≡ Some o
    → (e.level ≤ m) × (Some e.origin ≡ Some o)
test_kept m o e true t at = (leb-true e.level m t, at)
test_kept m o e false t at = cc

origin_kept : (m : ℕ) (o : Origin) (x : Option Entry) → option_map (λ (e : Entry). e.origin) (kept_below m x) ≡ Some o
    → IsSome x × (elim x [ None ↦ 0 | Some e ↦ e.level ] ≤ m) × (option_map (λ (e : Entry). e.origin) x ≡ Some o)
origin_kept m o None at = cc
origin_kept m o (Some e) at = let k = test_kept m o e (nat_le e.level m) refl at in (refl, k.0, k.1)

-- no level told is raised
told_test : (m n : ℕ) (b : Bool) → nat_le n m ≡ b → (unwrap_or (if b then Some n else None) 0 ≤ m) × (unwrap_or (if b then Some n else None) 0 ≤ n)
told_test m n true e = (leb-true n m e, omega arith)
told_test m n false e = (omega arith, omega arith)

told_low : (m : ℕ) (o : Option ℕ) → (unwrap_or (told_below m o) 0 ≤ m) × (unwrap_or (told_below m o) 0 ≤ unwrap_or o 0)
told_low m None = (omega arith, omega arith)
told_low m (Some n) = told_test m n (nat_le n m) refl

-- in a log that is cut, the clauses up to the level are what they were
module _ (p : PreparedState) (m : ℕ) (log : LogState) (d : Drops p.log m log) where
  dropped_entry : (i : ℕ) → IsLive p.log i → level_at p.log i ≤ m → entry_at log i ≡ entry_at p.log i
  dropped_entry i live low = d.entries i ∙ entry_kept m (entry_at p.log i) live low

  pub dropped_live : AreHeld p.log p.sat.clauses → All (λ (x : Held). IsLive log x.id) (held_up_to m p.sat.clauses)
  dropped_live held =
      up_all (λ (x : Held). IsLive p.log x.id × (level_at p.log x.id ≡ x.level)) (λ (x : Held). IsLive log x.id) m
      (λ x low k. subst (λ o. IsSome o) (sym (dropped_entry x.id k.0 (subst (λ n. n ≤ m) (sym k.1) low))) k.0)
      p.sat.clauses held

  pub dropped_there : (ns : List Node) → AreHeld p.log p.sat.clauses → AreSearched ns p.log p.form p.sat.clauses
      → All (λ (x : Held). All (λ (l : Lit). l.atom < length log.atoms) (literals_at log x.id)) (held_up_to m p.sat.clauses)
  dropped_there ns held searched =
      let P = λ (x : Held). (IsLive p.log x.id × (level_at p.log x.id ≡ x.level)) × All (λ (l : Lit). IsSearched ns p.log p.form l.atom) (literals_at p.log x.id) in
      let Within = λ (l : Lit). l.atom < length log.atoms in
      up_all P (λ (x : Held). All Within (literals_at log x.id)) m
      (λ x low k.
      let same = ap (λ (o : Option Entry). elim o [ None ↦ [] | Some e ↦ e.literals ]) (dropped_entry x.id k.0.0 (subst (λ n. n ≤ m) (sym k.0.1) low)) in
      subst (All Within) (sym same)
      (All-weaker (λ (l : Lit). IsSearched ns p.log p.form l.atom) Within (λ l is. subst (λ (atoms : List Atom). l.atom < length atoms) (sym d.atoms) (slice_get_within p.log.atoms l.atom is.atom is.at))
      (literals_at p.log x.id) k.1))
      p.sat.clauses (λ k e inside. (held k e inside, searched k e inside))

-- of clauses of which some are left each is as the search saw it
pub left_since : (seen : Option LogState) (log : LogState) (old new : List Held) → All (Contains old) new → AreSameSince seen log old → AreSameSince seen log new
left_since None log old [] only none = refl
left_since None log old (x ∷ new) only none =
    let has : Contains [] x = subst (λ (hs : List Held). Contains hs x) none (only 0 x (omega arith)) in
    let below = has.1 in
    absurd (omega (arith, below))
left_since (Some s) log old new only since = left_all (IsSameIn s log) old new only since

module _ (ns : List Node) (levels : List Level) (roots : List (List ℕ)) (p q : PreparedState) (m : ℕ) (c : CutsTo p m (take (suc m) levels) q) (h : IsPrepared ns levels roots p) where
  c_terms : (t : ℕ) → covered_at q.form t ≡ told_below m (covered_at p.form t)
  c_terms t = c.form.terms.levels t

  same_entry : (i : ℕ) → IsLive p.log i → level_at p.log i ≤ m → entry_at q.log i ≡ entry_at p.log i
  same_entry = dropped_entry p m q.log c.log

  cut_held : AreHeld q.log q.sat.clauses
  cut_held =
      let P = λ (x : Held). IsLive p.log x.id × (level_at p.log x.id ≡ x.level) in
      let Q = λ (x : Held). IsLive q.log x.id × (level_at q.log x.id ≡ x.level) in
      left_all Q (held_up_to m p.sat.clauses) q.sat.clauses c.clauses.only
      (up_all P Q m
      (λ x low k.
      let same = same_entry x.id k.0 (subst (λ n. n ≤ m) (sym k.1) low) in
      (subst (λ o. IsSome o) (sym same) k.0, ap (λ (o : Option Entry). elim o [ None ↦ 0 | Some e ↦ e.level ]) same ∙ k.1))
      p.sat.clauses h.held)

  -- they are as the search saw them still
  cut_since : (seen : Option LogState) → AreSameSince seen p.log p.sat.clauses → AreSameSince seen q.log (held_up_to m p.sat.clauses)
  cut_since None none = ap (held_up_to m) none
  cut_since (Some s) since =
      let P = λ (x : Held). (level_at p.log x.id ≡ x.level) × IsSameIn s p.log x in
      let Q = IsSameIn s q.log in
      up_all P Q m
      (λ x low k.
      let same = same_entry x.id k.1.0 (subst (λ n. n ≤ m) (sym k.0) low) in
      (subst (λ o. IsSome o) (sym same) k.1.0, ap (λ (o : Option Entry). elim o [ None ↦ [] | Some e ↦ e.literals ]) same ∙ k.1.1))
      p.sat.clauses (λ k d inside. ((h.held k d inside).1, since k d inside))

  cut_seen : IsSeen q
  cut_seen =
      subst (λ (s : Option LogState). AreSameSince s q.log q.sat.clauses) (sym c.seen)
      (left_since p.sat.seen q.log (held_up_to m p.sat.clauses) q.sat.clauses c.clauses.only (cut_since p.sat.seen h.seen))

  -- a term that a clause below the level names is covered still
  cut_covered : (x : Held) → IsLive p.log x.id → level_at p.log x.id ≤ m → (l : Lit) → Contains (literals_at p.log x.id) l → (t : ℕ) → slice_get p.log.atoms l.atom ≡ Some (Term t)
      → IsSome (covered_at q.form t)
  cut_covered x live low l has t at = of_entry (entry_at p.log x.id) refl live low has
    where
      told_stays : (o : Option ℕ) (k : ℕ) → k ≤ m → IsSomeAnd o (λ n. n ≤ k) → IsSome (told_below m o)
      told_stays None k few h = absurd h
      told_stays (Some n) k few h = subst (λ (b : Bool). IsSome (if b then Some n else None)) (sym (le-leb n m (omega (arith, few, h)))) refl

      of_entry : (o : Option Entry) → entry_at p.log x.id ≡ o → IsSome o → elim o [ None ↦ 0 | Some e ↦ e.level ] ≤ m → Contains (elim o [ None ↦ [] | Some e ↦ e.literals ]) l → IsSome (covered_at q.form t)
      of_entry None is some few c = absurd (true≢false (sym some))
      of_entry (Some e) is some few c =
          let names = h.leveled x.id e is l c in
          let both : Some names.atom ≡ Some (Term t) = sym names.at ∙ at in
          let one : names.atom ≡ Term t = cc in
          let told : IsToldWithin p.log e.level t = (subst (λ (a : Atom). AllByRecursion (IsToldWithin p.log e.level) (terms_of a)) one names.terms).0 in
          subst (λ (o : Option ℕ). IsSome o) (sym (c_terms t)) (subst (λ (o : Option ℕ). IsSome (told_below m o)) (h.covers.rows.told t) (told_stays (told_of p.log t) e.level few told))

  cut_of : (x : Held) → IsLive p.log x.id → level_at p.log x.id ≤ m → (l : Lit) → Contains (literals_at p.log x.id) l → IsListedIn q.log q.form.bounds l → (a : Atom)
      → slice_get p.log.atoms l.atom ≡ Some a → IsOfForm ns p.form l.atom a → IsOfForm ns q.form l.atom a
  cut_of x live low l has listed (Term t) at of = (cut_covered x live low l has t at, of.1)
  cut_of x live low l has listed (AtMost b) at of = listed b (ap (λ (atoms : List Atom). slice_get atoms l.atom) c.log.atoms ∙ at)

  -- what is searched for is on a bound that was listed, if on any
  were_listed : (l : Lit) → IsSearched ns p.log p.form l.atom → IsListedIn q.log p.form.bounds l
  were_listed l s b at =
      let both : Some s.atom ≡ Some (AtMost b) = sym s.at ∙ ap (λ (atoms : List Atom). slice_get atoms l.atom) (sym c.log.atoms) ∙ at in
      let one : s.atom ≡ AtMost b = cc in
      subst (IsOfForm ns p.form l.atom) one s.of

  -- a clause up to the level, as it was
  record WasSearched (x : Held) : Type 0 where
    live : IsLive p.log x.id
    low : level_at p.log x.id ≤ m
    same : literals_at q.log x.id ≡ literals_at p.log x.id
    searched : All (λ (l : Lit). IsSearched ns p.log p.form l.atom) (literals_at p.log x.id)

  were_searched : All WasSearched q.sat.clauses
  were_searched =
      left_all WasSearched (held_up_to m p.sat.clauses) q.sat.clauses c.clauses.only
      (up_all (λ (x : Held). (IsLive p.log x.id × (level_at p.log x.id ≡ x.level)) × All (λ (l : Lit). IsSearched ns p.log p.form l.atom) (literals_at p.log x.id)) WasSearched m
      (λ x low k.
      let below : level_at p.log x.id ≤ m = subst (λ n. n ≤ m) (sym k.0.1) low in
      record { live = k.0.0; low = below; same = ap (λ (o : Option Entry). elim o [ None ↦ [] | Some e ↦ e.literals ]) (same_entry x.id k.0.0 below); searched = k.1 })
      p.sat.clauses (λ k d inside. (h.held k d inside, h.searched k d inside)))

  cut_searched : AreSearched ns q.log q.form q.sat.clauses
  cut_searched k d inside =
      let x = get_or q.sat.clauses k d in
      let was = were_searched k d inside in
      let lits = literals_at p.log x.id in
      let before : All (IsListedIn q.log p.form.bounds) lits = All-weaker (λ (l : Lit). IsSearched ns p.log p.form l.atom) (IsListedIn q.log p.form.bounds) were_listed lits was.searched in
      let after : All (IsListedIn q.log q.form.bounds) lits =
      subst (All (IsListedIn q.log q.form.bounds)) was.same (c.clauses.listed k d inside (subst (All (IsListedIn q.log p.form.bounds)) (sym was.same) before)) in
      subst (All (λ (l : Lit). IsSearched ns q.log q.form l.atom)) (sym was.same)
      (λ j e below.
      let l = get_or lits j e in
      still_searched ns ns p q l.atom (λ a at. ap (λ (atoms : List Atom). slice_get atoms l.atom) c.log.atoms ∙ at)
      (λ a at of. cut_of x was.live was.low l (Contains-get_or lits j e below) (after j e below) a at of) (was.searched j e below))

  -- each bound of a row is listed
  row_listed : Covers ns q.log q.form → (i t : ℕ) → IsRowAt q.log i t → HasListedBounds q.log q.form.bounds i
  row_listed covers i t row j e below b at =
      let lits = literals_at q.log i in
      let l = get_or lits j e in
      some_within (listed_at q.form.bounds l.atom) (level_at q.log i)
      (covers.bounds.listed i l.atom (record { term = t; row = row; literal = l; has = Contains-get_or lits j e below; on = refl; bound = b; is_bound = at }))

  cut_rows : Covers ns q.log q.form → (i t : ℕ) → IsRowAt q.log i t → HoldsRow q.log q.sat.clauses i
  cut_rows covers i t row =
      let was = origin_kept m row.0 (entry_at p.log i) (ap (option_map (λ (e : Entry). e.origin)) (sym (c.log.entries i)) ∙ row.1) in
      let r = h.rows i t (row.0, was.2, row.2) in
      let entry = same_entry i was.0 was.1 in
      let atoms : (a : ℕ) (x : Atom) → slice_get p.log.atoms a ≡ Some x → slice_get q.log.atoms a ≡ Some x = λ a x at. ap (λ (all : List Atom). slice_get all a) c.log.atoms ∙ at in
      record {
        need = r.need;
        may = may_still p.log q.log i entry atoms r.need r.may;
        has = c.clauses.stays (added_as r.need q.log i)
            (subst (Contains (held_up_to m p.sat.clauses)) (sym (added_still p.log q.log i entry atoms r.need)) (kept_up_to m p.sat.clauses (added_as r.need p.log i) r.has was.1))
            (row_listed covers i t row);
      }

  -- what is given of a kind is in the first levels
  cut_count : (of : Level → List ℕ) → count_of (map of (take (suc m) levels)) ≡ count_in (map of levels) (suc m)
  cut_count of = ap count_of (sym (take-map of (suc m) levels))

  -- and stands in a level that is kept
  cut_low : (of : Level → List ℕ) (n k : ℕ) → count_in (map of levels) n ≤ k → k < count_in (map of levels) (suc m) → n ≤ m
  cut_low of n k behind few =
      elim (lower_or_not m n) [
        | inl high ↦ let more = count_more (map of levels) (suc m) n (omega (arith, high)) in absurd (omega (arith, more, behind, few))
        | inr fine ↦ fine
      ]

  cut_behind : (of : Level → List ℕ) (n k : ℕ) → n ≤ suc m → count_in (map of levels) n ≤ k → count_in (map of (take (suc m) levels)) n ≤ k
  cut_behind of n k low behind =
      subst (λ ls. count_in ls n ≤ k) (take-map of (suc m) levels) (subst (λ i. i ≤ k) (sym (count_cut (map of levels) m n low)) behind)

  cut_at : (of : Level → List ℕ) (k t : ℕ) → slice_get (asserted_numbers (map of (take (suc m) levels))) k ≡ Some t → slice_get (asserted_numbers (map of levels)) k ≡ Some t
  cut_at of k t at = in_all (map of levels) (suc m) k t (subst (λ ls. slice_get (asserted_numbers ls) k ≡ Some t) (sym (take-map of (suc m) levels)) at)

  -- the literal of a term is on no bound
  unit_listed : (t : ℕ) → HasTerm q.log.atoms t → All (IsListedIn q.log q.form.bounds) (unit_of q.log t)
  unit_listed t named =
      All-from_recursion (IsListedIn q.log q.form.bounds) (unit_of q.log t)
      ((λ b at. let both : Some (Term t) ≡ Some (AtMost b) = sym named ∙ at in absurd cc), tt)

  cut_unit : (k t : ℕ) (u : HoldsUnit (asserted_by_level levels) p k t) → u.held.level ≤ m → HoldsUnit (asserted_by_level (take (suc m) levels)) q k t
  cut_unit k t u low =
      let own = All-contains (λ (x : Held). IsLive p.log x.id × (level_at p.log x.id ≡ x.level)) p.sat.clauses u.held h.held u.there in
      let same = same_entry u.held.id own.0 (subst (λ n. n ≤ m) (sym own.1) low) in
      let named : HasTerm q.log.atoms t = subst (λ (atoms : List Atom). HasTerm atoms t) (sym c.log.atoms) u.named in
      let literals : literals_at q.log u.held.id ≡ unit_of q.log t =
      ap (λ (o : Option Entry). elim o [ None ↦ [] | Some e ↦ e.literals ]) same ∙ u.literals ∙ ap (λ (atoms : List Atom). lit_of atoms (yes t) ∷ []) (sym c.log.atoms) in
      record {
        held = u.held;
        there = c.clauses.stays u.held (kept_up_to m p.sat.clauses u.held u.there low) (subst (All (IsListedIn q.log q.form.bounds)) (sym literals) (unit_listed t named));
        need = u.need;
        added = u.added;
        named = named;
        literals = literals;
        behind = cut_behind (λ (l : Level). l.asserted) u.held.level k (omega (arith, low)) u.behind;
      }

  cut_units : (k t : ℕ) → k < q.given → slice_get (asserted_numbers (asserted_by_level (take (suc m) levels))) k ≡ Some t → HoldsUnit (asserted_by_level (take (suc m) levels)) q k t
  cut_units k t below at =
      let of = λ (l : Level). l.asserted in
      let count = c.given in
      let first = cut_count of in
      let u = h.units k t (omega (arith, count, below)) (cut_at of k t at) in
      cut_unit k t u (cut_low of u.held.level k u.behind (omega (arith, count, below, first)))

  cut_numbers : (k t : ℕ) → k < q.numbered → slice_get (asserted_numbers (numbers_by_level (take (suc m) levels))) k ≡ Some t → IsNumbered (numbers_by_level (take (suc m) levels)) q k t
  cut_numbers k t below at =
      let of = λ (l : Level). l.numbers in
      let count = c.numbered in
      let first = cut_count of in
      let u = h.numbers k t (omega (arith, count, below)) (cut_at of k t at) in
      let low : u.level ≤ m = cut_low of u.level k u.behind (omega (arith, count, below, first)) in
      record {
        level = u.level;
        covered = c_terms t ∙ ap (told_below m) u.covered ∙ ap (λ (b : Bool). if b then Some u.level else None) (le-leb u.level m low);
        behind = cut_behind of u.level k (omega (arith, low)) u.behind;
      }

  -- below a level told there are no more than before, and no more than are kept
  cut_lower : (of : Level → List ℕ) (given t : ℕ) → count_in (map of levels) (told_level p.log t) ≤ given
      → count_in (map of (take (suc m) levels)) (told_level q.log t) ≤ min given (count_of (map of (take (suc m) levels)))
  cut_lower of given t was =
      let ls = map of levels in
      let n = told_level q.log t in
      let low : (n ≤ m) × (n ≤ told_level p.log t) = subst (λ o. (unwrap_or o 0 ≤ m) × (unwrap_or o 0 ≤ told_level p.log t)) (sym (c.log.told t)) (told_low m (told_of p.log t)) in
      let most = low.0 in
      let same = cut_behind of n (count_in ls n) (omega (arith, most)) (omega arith) in
      let first = count_more ls n (told_level p.log t) low.1 in
      let second = count_more ls n (suc m) (omega (arith, most)) in
      let all = cut_count of in
      omega (arith, same, first, second, was, all)

  pub cut_prepared : CoversStay → LogsStayLeveled → IsPrepared ns (take (suc m) levels) (take (suc m) roots) q
  cut_prepared covers leveled =
      let covered : Covers ns q.log q.form = covers.dropped ns p.log q.log p.form q.form m c.log c.form h.covers in
      record {
        order = subst (λ ls. IsLog ns ls q.log) (take-map (λ (l : Level). l.asserted) (suc m) levels) (c.sound ns (asserted_by_level levels) h.order);
        covers = covered;
        below = λ t n at.
            let was = told_parts m (covered_at p.form t) n (sym (c_terms t) ∙ at) in
            longer_cut roots m n was.1 (h.below t n was.0);
        made = λ t n at.
            let was = told_parts m (covered_at p.form t) n (sym (c_terms t) ∙ at) in
            subst (λ ls. IsMadeOf ns ls t) (sym (live_cut roots m n was.1)) (h.made t n was.0);
        taken = λ t some.
            let n = some_of (covered_at q.form t) some in
            let was = told_parts m (covered_at p.form t) n.0 (sym (c_terms t) ∙ n.1) in
            h.taken t (subst (λ (o : Option ℕ). IsSome o) (sym was.0) refl);
        leveled = leveled.dropped p.log q.log m c.log h.leveled;
        held = cut_held;
        seen = cut_seen;
        searched = cut_searched;
        rows = cut_rows covered;
        units = cut_units;
        numbers = cut_numbers;
        within = let count = c.given in omega (arith, count);
        numbers_within = let count = c.numbered in omega (arith, count);
        lower = λ t. subst (λ n. count_in (asserted_by_level (take (suc m) levels)) (told_level q.log t) ≤ n) (sym c.given) (cut_lower (λ (l : Level). l.asserted) p.given t (h.lower t));
        numbers_lower = λ t. subst (λ n. count_in (numbers_by_level (take (suc m) levels)) (told_level q.log t) ≤ n) (sym c.numbered) (cut_lower (λ (l : Level). l.numbers) p.numbered t (h.numbers_lower t));
      }

-- ---- Nothing is taken off

filter_short : (f : ℕ → Bool) (xs : List ℕ) → length (filter f xs) ≤ length xs
filter_short f [] = omega arith
filter_short f (x ∷ xs) = by_test (f x) (filter_short f xs)
  where
    by_test : (b : Bool) → length (filter f xs) ≤ length xs → length (cond b (x ∷ filter f xs) (filter f xs)) ≤ suc (length xs)
    by_test true rest = omega (arith, rest)
    by_test false rest = omega (arith, rest)

-- where no element is left out, each passes the test
filter_all : (f : ℕ → Bool) (xs : List ℕ) → length (filter f xs) ≡ length xs → (y : ℕ) → Contains xs y → f y ≡ true
filter_all f [] e y c = absurd (has_none y c)
filter_all f (x ∷ xs) e y c = by_test (f x) refl e (λ k more. filter_all f xs k y more)
  where
    by_test : (b : Bool) → f x ≡ b → length (cond b (x ∷ filter f xs) (filter f xs)) ≡ suc (length xs) → (length (filter f xs) ≡ length xs → Contains xs y → f y ≡ true) → f y ≡ true
    by_test true t k rest =
        elim (has_cases x y xs c) [
          | inl same ↦ ap f (sym same) ∙ t
          | inr more ↦ rest (omega (arith, k)) more
        ]
    by_test false t k rest = let short = filter_short f xs in absurd (omega (arith, short, k))

-- so what is cut to no fewer has all that there were
pub all_kept : (old new : ListingState) (level : ℕ) → ((i : ℕ) → IsSome (listed_at old i) → Contains old.ids i) → listings.Cuts old level new → length old.ids ≤ length new.ids → (i : ℕ) → IsSome (listed_at old i)
    → IsSome (listed_at new i)
all_kept old new level listed cuts long i some =
    let test : ℕ → Bool = λ k. is_some (listed_at new k) in
    let short = filter_short test old.ids in
    let count : length (filter test old.ids) ≡ length new.ids = ap length (sym cuts.ids) in
    filter_all test old.ids (omega (arith, short, count, long)) i (listed i some)
