-- What a conflict teaches: the clause that is put into the log, and its levels.
use Rattle.std.proofs.Common.{◌≡◌, ◌≢◌, ℕ, ◌<◌, max, Bool, true, false, true≢false, ◌⊎◌, inl, inr, List, [], ◌∷◌, ◌++◌, length, take, drop, Some, None, sym, ap, subst, subst₂, ◌∙◌, arith, take-append-drop}
use Rattle.std.specs.Prelude.{All, Contains, MatchOption, Option, ◌≤◌, is_some, slice_get}
use Rattle.std.specs.Ordering.{nat_cmp, ord_max}
use Rattle.std.proofs.lemmas.Bool.{cases_lt}
use Rattle.std.proofs.lemmas.Bool.Decides.{nat_tests}
use Rattle.std.proofs.lemmas.List.Elements.{All-contains, All-contains_itself, All-weaker, Contains-append_left, Contains-push, Contains-push_cases}
use Rattle.nz_spec.specs.clauses.Literal.{StandOnce}
use Rattle.nz_log.specs.declared.lits.Lit.{Lit}
use Rattle.nz_log.specs.declared.origins.Link.{Link}
use Rattle.nz_spec.specs.terms.Table.{Node}
use Rattle.nz_log.specs.declared.atoms.Atom.{Atom}
use Rattle.nz_log.specs.Atoms.{IsLitIn, TellsLits}
use Rattle.nz_log.specs.Logs.{Entry, LogState, IsLive, Puts, chain_entry, chained, literals_at}
use Rattle.nz_sat.specs.declared.analyze.Chain.{Chain}
use Rattle.nz_sat.specs.declared.analyze.Learned.{Learned}
use Rattle.nz_sat.specs.declared.trail.Assigned.{Assigned}
use Rattle.nz_sat.specs.Trails.{EachBehind, IsFalseOn, IsNext, depth, level_on}
use Rattle.nz_sat.specs.Clauses.{IsFalsified}
use Rattle.nz_sat.specs.Conflicts.{AreLinks, HasLast, HasTwoLast, IsBeside, IsChain, IsDeepestBut, IsGreatest, IsLearned, IsLearnable, IsLoneLast}
use Rattle.nz_sat.proofs.Chains.{chained_once}
use Rattle.nz_sat.proofs.Marks.{false_entry, level_found, marked_within}
use Rattle.nz_sat.proofs.TrailEntries.{assigned_place, level_within}

-- ---- The deepest literal but one

-- of the literals so far none differs from this one, or one is told that is of the greatest level of those that do, with that level
abbrev pub IsDeepest : List Assigned → Lit → List Lit → Option Lit → ℕ → Type 0
IsDeepest es but c None n = IsDeepestBut es but c None
IsDeepest es but c (Some d) n = IsDeepestBut es but c (Some d) × (n ≡ level_on es d.atom)

module _ (es : List Assigned) (but : Lit) (c : List Lit) (l : Lit) where
  pub deepest_same : (o : Option Lit) (n : ℕ) → l ≡ but → IsDeepest es but c o n → IsDeepest es but (c ++ l ∷ []) o n
  deepest_same None n same h = λ m has. elim (Contains-push_cases c l m has) [ inl before ↦ h m before | inr is ↦ sym is ∙ same ]
  deepest_same (Some d) n same h = (
    (
      Contains-append_left c (l ∷ []) d h.0.0,
      h.0.1,
      λ m has other. elim (Contains-push_cases c l m has) [ inl before ↦ h.0.2 m before other | inr is ↦ absurd (other (sym is ∙ same)) ],
    ),
    h.1,
  )

  pub deepest_less : (o : Option Lit) (n : ℕ) → is_some o ≡ true → level_on es l.atom ≤ n → IsDeepest es but c o n → IsDeepest es but (c ++ l ∷ []) o n
  deepest_less None n some less h = absurd (true≢false (sym some))
  deepest_less (Some d) n some less h = (
    (
      Contains-append_left c (l ∷ []) d h.0.0,
      h.0.1,
      λ m has other.
          elim (Contains-push_cases c l m has) [
            | inl before ↦ h.0.2 m before other
            | inr is ↦
                let same : level_on es m.atom ≡ level_on es l.atom = ap (λ (x : Lit). level_on es x.atom) (sym is) in
                omega (arith, h.1)
          ],
    ),
    h.1,
  )

  pub deepest_more : (o : Option Lit) (n k : ℕ) → l ≢ but → (is_some o ≡ false) ⊎ (n < k) → k ≡ level_on es l.atom → IsDeepest es but c o n → IsDeepest es but (c ++ l ∷ []) (Some l) k
  deepest_more None n k differ first own h = (
    (
      Contains-push c l,
      differ,
      λ m has other.
          elim (Contains-push_cases c l m has) [
            | inl before ↦ absurd (other (h m before))
            | inr is ↦
                let same : level_on es m.atom ≡ level_on es l.atom = ap (λ (x : Lit). level_on es x.atom) (sym is) in
                omega (arith)
          ],
    ),
    own,
  )
  deepest_more (Some d) n k differ (inl none) own h = absurd (true≢false none)
  deepest_more (Some d) n k differ (inr more) own h = (
    (
      Contains-push c l,
      differ,
      λ m has other.
          elim (Contains-push_cases c l m has) [
            | inl before ↦
                let low = h.0.2 m before other in
                omega (arith, h.1)
            | inr is ↦
                let same : level_on es m.atom ≡ level_on es l.atom = ap (λ (x : Lit). level_on es x.atom) (sym is) in
                omega (arith)
          ],
    ),
    own,
  )

pub deepest_told : (es : List Assigned) (but : Lit) (c : List Lit) (o : Option Lit) (n : ℕ) → IsDeepest es but c o n → IsDeepestBut es but c o
deepest_told es but c None n h = h
deepest_told es but c (Some d) n h = h.0

-- ---- The greatest level

-- what `max` answers
pub greater_of : (m n : ℕ) → ord_max nat_cmp m n ≡ max m n
greater_of m n = grind (arith, nat_tests)

pub greatest_grown : (es : List Assigned) (c : List Lit) (n : ℕ) (l : Lit) → IsGreatest es c n → (k : ℕ) → k ≡ max n (level_on es l.atom) → IsGreatest es (c ++ l ∷ []) k
greatest_grown es c n l h k most =
    record {
      most = λ m has.
          elim (Contains-push_cases c l m has) [
            | inl before ↦ let less = h.most m before in omega arith
            | inr is ↦
                let same : level_on es m.atom ≡ level_on es l.atom = ap (λ (x : Lit). level_on es x.atom) (sym is) in
                omega arith
          ];
      reached = λ some.
          elim (cases_lt n (level_on es l.atom)) [
            | inl less ↦ (l, Contains-push c l, omega arith)
            | inr atleast ↦
                let w = h.reached (omega arith) in
                (w.0, Contains-append_left c (l ∷ []) w.0 w.1, omega (arith, w.2))
          ];
    }

-- ---- The lone literal of the last level

-- of the literals so far none is of the last level, or this one alone
abbrev pub IsLone : List Assigned → List Lit → Option Lit → Type 0
IsLone es c None = (m : Lit) → Contains c m → level_on es m.atom ≢ depth es
IsLone es c (Some l) = IsLoneLast es c l

pub lone_low : (es : List Assigned) (c : List Lit) (l : Lit) (o : Option Lit) → level_on es l.atom ≢ depth es → IsLone es c o → IsLone es (c ++ l ∷ []) o
lone_low es c l None low h = λ m has.
    elim (Contains-push_cases c l m has) [ inl before ↦ h m before | inr is ↦ subst (λ (x : Lit). level_on es x.atom ≢ depth es) is low ]
lone_low es c l (Some lone) low h =
    record {
      has = Contains-append_left c (l ∷ []) lone h.has;
      last = h.last;
      others = λ m has differ.
          elim (Contains-push_cases c l m has) [ inl before ↦ h.others m before differ | inr is ↦ subst (λ (x : Lit). level_on es x.atom ≢ depth es) is low ];
    }

pub lone_first : (es : List Assigned) (c : List Lit) (l : Lit) → level_on es l.atom ≡ depth es → IsLone es c None → IsLone es (c ++ l ∷ []) (Some l)
lone_first es c l last h =
    record {
      has = Contains-push c l;
      last = last;
      others = λ m has differ. elim (Contains-push_cases c l m has) [ inl before ↦ h m before | inr is ↦ absurd (differ (sym is)) ];
    }

pub lone_again : (es : List Assigned) (c : List Lit) (l lone : Lit) → lone ≡ l → IsLone es c (Some lone) → IsLone es (c ++ l ∷ []) (Some lone)
lone_again es c l lone same h =
    record {
      has = Contains-append_left c (l ∷ []) lone h.has;
      last = h.last;
      others = λ m has differ.
          elim (Contains-push_cases c l m has) [ inl before ↦ h.others m before differ | inr is ↦ absurd (differ (sym is ∙ sym same)) ];
    }

-- another one of the last level
pub lone_other : (es : List Assigned) (c : List Lit) (i : ℕ) (other l : Lit) → IsLone es (take i c) (Some other) → Contains c l → level_on es l.atom ≡ depth es → other ≢ l
    → HasTwoLast es c
lone_other es c i other l lone has last differ =
    record {
      first = other;
      second = l;
      has_first = subst (λ (d : List Lit). Contains d other) (take-append-drop i c) (Contains-append_left (take i c) (drop i c) other lone.has);
      has_second = has;
      differ = differ;
      first_last = lone.last;
      second_last = last;
    }

-- what was found is the only one, or there are two
pub lone_end : (es : List Assigned) (c : List Lit) (o : Option Lit) → HasLast es c → IsLone es c o → MatchOption o (HasTwoLast es c) (IsLoneLast es c)
lone_end es c None some h = absurd (h some.literal some.has some.last)
lone_end es c (Some l) some h = h

-- ---- The clause in the log

-- what holds of each that a list has holds of all
pub all_from : {X : Type 0} (P : X → Type 0) (xs : List X) → ((x : X) → Contains xs x → P x) → All P xs
all_from P xs f = All-weaker (Contains xs) P f xs (All-contains_itself xs)

puts_literals : (old new : LogState) (id : ℕ) (e : Entry) → Puts old id e new → literals_at new id ≡ e.literals
puts_literals old new id e p = ap (λ (o : Option Entry). elim o [ None ↦ [] | Some x ↦ x.literals ]) p.made

-- the links resolve on atoms of the table
pub links_within : (s : LogState) (es : List Assigned) (ns : List Node) (all : List Atom) (ks : List Link) → All (λ (e : Assigned). IsLitIn ns all e.literal) es → AreLinks s es ks
    → All (λ (k : Link). IsLitIn ns all k.literal) ks
links_within s es ns all ks within links =
    All-weaker (λ (k : Link). IsLive s k.clause × ((e : Assigned) × Contains es e × (e.literal.atom ≡ k.literal.atom))) (λ (k : Link). IsLitIn ns all k.literal)
    (λ k w.
    let l = All-contains (λ (e : Assigned). IsLitIn ns all e.literal) es w.1.0 within w.1.1 in
    record { atom = l.atom; at = ap (slice_get all) (sym w.1.2) ∙ l.at; within = l.within }) ks links

-- ---- What is learned for a literal

-- A clause is learned for a literal, with the greatest level of its others.
pub record IsAsserting (es : List Assigned) (c : List Lit) (id : ℕ) (m : Lit) (l : Learned) : Type 0 where
  pub clause : l.clause ≡ id
  pub literal : l.literal ≡ m
  pub kept : l.keep ≡ l.level
  pub others : (x : Lit) → Contains c x → x ≢ m → level_on es x.atom ≤ l.level
  pub beside : IsBeside es c m l.level l.beside

-- the greatest level of the others is below one that each of theirs is below
beside_earlier : (es : List Assigned) (c : List Lit) (m : Lit) (level n : ℕ) (o : Option Lit) → 0 < n → IsBeside es c m level o
    → ((x : Lit) → Contains c x → x ≢ m → level_on es x.atom < n) → level < n
beside_earlier es c m level n None above h low = omega (arith, above, h.0)
beside_earlier es c m level n (Some x) above h low = let less = low x h.0 h.1 in omega (arith, less, h.2)

asserting_learned : (log : LogState) (es : List Assigned) (id : ℕ) (m : Lit) → 0 < depth es → IsLive log id → StandOnce (literals_at log id) → IsFalsified es (literals_at log id)
    → Contains (literals_at log id) m → level_on es m.atom ≡ depth es → ((x : Lit) → Contains (literals_at log id) x → x ≢ m → level_on es x.atom < depth es)
    → (l : Learned) → IsAsserting es (literals_at log id) id m l → IsLearned log es l
asserting_learned log es id m above live once falsified has last low l asserts =
    let told : IsLearned log es (record { clause = id; literal = m; level = l.level; keep = l.keep; beside = l.beside; glue = l.glue }) =
    record {
      live = live;
      once = once;
      falsified = falsified;
      has = has;
      last = last;
      earlier = beside_earlier es (literals_at log id) m l.level (depth es) l.beside above asserts.beside low;
      kept = omega (arith, asserts.kept);
      others = asserts.others;
      beside = asserts.beside;
    } in
    subst₂ (λ (i : ℕ) (x : Lit). IsLearned log es (record { clause = i; literal = x; level = l.level; keep = l.keep; beside = l.beside; glue = l.glue })) (sym asserts.clause) (sym asserts.literal) told

-- ---- A conflict that is the learned clause itself

-- the level of a false literal is one of the trail's
pub false_level : (size : ℕ) (es : List Assigned) → EachBehind (IsNext size) es → (l : Lit) → IsFalseOn es l → level_on es l.atom ≤ depth es
false_level size es order l falsified =
    let e = false_entry es l falsified in
    let place = (assigned_place es l.atom e.0 e.1).1 in
    let most = level_within size es order place.0 e.0 place.1 in
    let level = level_found es l.atom e.0 e.1 in
    omega (arith, most, level)

lone_once : (es : List Assigned) (c : List Lit) (l : Lit) → IsLoneLast es c l → IsLearnable es c → StandOnce c
lone_once es c l lone (inr once) = once
lone_once es c l lone (inl two) =
    let none : (m : Lit) → Contains c m → level_on es m.atom ≡ depth es → (m ≢ l → ⊥) = λ m has last differ. lone.others m has differ last in
    absurd (none two.second two.has_second two.second_last (λ same. none two.first two.has_first two.first_last (λ is. two.differ (is ∙ sym same))))

pub lone_taught : (size : ℕ) (es : List Assigned) → EachBehind (IsNext size) es → (log : LogState) (id : ℕ) (m : Lit) → IsLive log id
    → IsFalsified es (literals_at log id) → IsLearnable es (literals_at log id) → 0 < depth es → IsLoneLast es (literals_at log id) m
    → (l : Learned) → IsAsserting es (literals_at log id) id m l → IsLearned log es l
lone_taught size es order log id m live falsified like above lone l asserts =
    asserting_learned log es id m above live (lone_once es (literals_at log id) m lone like) falsified lone.has lone.last
    (λ x has other.
    let most = false_level size es order x (falsified x has) in
    elim (cases_lt (level_on es x.atom) (depth es)) [ inl less ↦ less | inr atleast ↦ absurd (lone.others x has other (omega (arith, most, atleast))) ])
    l asserts

-- ---- The learned clause

module _ (old new : LogState) (es : List Assigned) (falsified : ℕ) (marks : List Bool) (c : Chain) (chain : IsChain old es falsified marks c) where
  -- the marks are those of the clause, within the list
  pub literals_within : (m : Lit) → Contains (chained old (literals_at old falsified) c.links.items) m → m.atom < length marks
  literals_within m has = marked_within marks m.atom (chain.marked.each m has)

  module _ (id : ℕ) (puts : Puts old id (chain_entry old falsified c.links.items) new) where
    pub literals_are : literals_at new id ≡ chained old (literals_at old falsified) c.links.items
    literals_are = puts_literals old new id (chain_entry old falsified c.links.items) puts

    pub taught : TellsLits → 0 < depth es → (l : Learned) → IsAsserting es (literals_at new id) id c.literal l → IsLearned new es l
    taught tells above l asserts =
        asserting_learned new es id c.literal above puts.live
        (subst StandOnce (sym literals_are) (chained_once tells old (literals_at old falsified) c.links.items chain.some))
        (subst (IsFalsified es) (sym literals_are) chain.falsified_too)
        (subst (λ (d : List Lit). Contains d c.literal) (sym literals_are) chain.has)
        chain.last
        (λ x has other. chain.others x (subst (λ (d : List Lit). Contains d x) literals_are has) other)
        l asserts
