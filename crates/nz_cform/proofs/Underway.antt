-- Terms that are covered one after another, from a stack of those that wait.
use Rattle.std.proofs.Common.{◌≡◌, ℕ, ◌<◌, ◌≤◌, inl, inr, List, [], ◌∷◌, ◌++◌, length, map, Some, None, refl, sym, ap, subst, ◌∙◌, arith, All, Contains, IsSome, unwrap_or}
use Rattle.std.specs.List.{AllByRecursion}
use Rattle.std.proofs.lemmas.List.Elements.{All-append, All-cons, All-from_recursion, All-head, All-nil, All-pop, All-push, All-tail, All-weaker, recursion_from_All}
use Rattle.nz_lists.proofs.Elements.{AllByRecursion-weaker}
use Rattle.nz_lists.proofs.Members.{by_each, map_has}
use Rattle.nz_lists.proofs.Numbers.{same_or_other}
use Rattle.nz_spec.specs.terms.Term.{Term}
use Rattle.nz_spec.specs.terms.Table.{Node, term_in}
use Rattle.nz_spec.specs.terms.Taken.{IsTaken, TakenTermsAreInOrder}
use Rattle.nz_spec.specs.terms.Order.{companions_of, listing_order}
use Rattle.nz_log.specs.Logs.{LogState, told_level}
use Rattle.nz_log.specs.Sound.{IsLog}
use Rattle.nz_cform.specs.declared.stop.FormStop.{FormStop}
use Rattle.nz_cform.specs.declared.stop.FormStop.TheVariants.{Wide, Memory}
use Rattle.nz_cform.specs.Listings.{Takes}
use Rattle.nz_cform.specs.Forms.{FormState, covered_at, IsCoveredWithin, Grows}
use Rattle.nz_cform.specs.Covering.{AddsRows, AreAdded, Covers, HasBounds, HasCovered, HasRows, Keeps, PutsParts, kids_at}
use Rattle.nz_cform.specs.Stops.{IsStopIn, OnWide}
use Rattle.nz_cform.proofs.Added.{added_twice, keeps_twice, none_added}
use Rattle.nz_cform.proofs.Levels.{covered_within, level_of}
use Rattle.nz_cform.proofs.Listed.{none_more, none_or_some}
use Rattle.nz_cform.proofs.Listed as listed
use Rattle.nz_cform.proofs.Parts.{arguments_are_parts, companions_are_parts, itself, part_of_part}

-- ---- Bounds and terms together

pub grows_itself : (s : FormState) (level : ℕ) → Grows s level s
grows_itself s level = record { terms = listed.grows_itself s.terms level; bounds = listed.grows_itself s.bounds level }

pub grows_more : (a b c : FormState) (level : ℕ) → Grows a level b → Grows b level c → Grows a level c
grows_more a b c level f g =
    record {
      terms = listed.grows_more a.terms b.terms c.terms level f.terms g.terms;
      bounds = listed.grows_more a.bounds b.bounds c.bounds level f.bounds g.bounds;
    }

-- ---- How far it has come

-- the term of a number is listed with a term
abbrev pub IsPart : List Node → ℕ → ℕ → Type 0
IsPart ns id t = Contains (listing_order (term_in ns id)) (term_in ns t)

-- what is covered and wasn't is listed with a term
abbrev pub AreParts : List Node → ℕ → (first s : FormState) → Type 0
AreParts ns id first s = (t : ℕ) → covered_at first t ≡ None → IsSome (covered_at s t) → IsPart ns id t

-- no term is covered more
pub no_parts : (ns : List Node) (id : ℕ) (s : FormState) → AreParts ns id s s
no_parts ns id s t none some = absurd (none_more s.terms t none some)

-- what is covered stays so, at its level
abbrev pub Stays : FormState → FormState → Type 0
Stays s r = (t n : ℕ) → covered_at s t ≡ Some n → covered_at r t ≡ Some n

-- what is covered within a level stays so
pub within_stays : (s r : FormState) (n t : ℕ) → Stays s r → IsCoveredWithin s n t → IsCoveredWithin r n t
within_stays s r n t stays h = let l = level_of (covered_at s t) n h in covered_within (covered_at r t) l.0 n (stays t l.0 l.1) l.2

-- a term that is covered within a level stays so
pub has_stays : (ns : List Node) (s r : FormState) (n : ℕ) (us : List Term) → Stays s r → AllByRecursion (HasCovered ns s n) us → AllByRecursion (HasCovered ns r n) us
has_stays ns s r n us stays h =
    AllByRecursion-weaker (HasCovered ns s n) (HasCovered ns r n)
    (λ u k. record { number = k.number; inside = k.inside; term = k.term; covered = within_stays s r n k.number stays k.covered }) us h

-- Where the waiting terms are covered too, so is the one that it began with, and the arguments and companions of all that are covered.
pub record Reaches (ns : List Node) (id level : ℕ) (s : FormState) (waiting : List ℕ) : Type 0 where
  pub root : (r : FormState) → Stays s r → All (IsCoveredWithin r level) waiting → IsCoveredWithin r level id
  pub arguments : (r : FormState) → Stays s r → All (IsCoveredWithin r level) waiting → (t n : ℕ) → covered_at s t ≡ Some n
      → All (IsCoveredWithin r n) (kids_at ns t)
  pub companions : (r : FormState) → Stays s r → All (IsCoveredWithin r level) waiting → (t n : ℕ) → covered_at s t ≡ Some n
      → AllByRecursion (HasCovered ns r n) (companions_of (term_in ns t))

-- How far the covering of a term has come.
pub record IsUnderway (ns : List Node) (id level : ℕ) (start : LogState) (first : FormState) (log : LogState) (s : FormState) (ids waiting : List ℕ) : Type 0 where
  pub table : All (λ t. t < length ns) waiting
  pub within : (t n : ℕ) → covered_at s t ≡ Some n → t < length ns
  pub rows : HasRows ns log s
  pub bounds : HasBounds log s
  pub reaches : Reaches ns id level s waiting
  pub added : AreAdded start ids log
  pub grown : Grows first level s
  pub kept : Keeps start log
  pub told : (t : ℕ) → told_level log t ≤ level
  pub sound : (levels : List (List ℕ)) → IsLog ns levels start → IsLog ns levels log
  pub waits : All (IsPart ns id) waiting
  pub parts : AreParts ns id first s

-- at the start the term itself waits
pub start_underway : (ns : List Node) (id level : ℕ) (log : LogState) (s : FormState) → id < length ns → Covers ns log s
    → ((t : ℕ) → told_level log t ≤ level) → (waiting : List ℕ) → waiting ≡ id ∷ [] → IsUnderway ns id level log s log s [] waiting
start_underway ns id level log s inside covers told waiting one =
    record {
      table = subst (All (λ t. t < length ns)) (sym one) (All-cons (λ t. t < length ns) id [] inside (All-nil (λ t. t < length ns)));
      within = covers.within;
      rows = covers.rows;
      bounds = covers.bounds;
      reaches = record {
        root = λ r stays all. subst (All (IsCoveredWithin r level)) one all 0 0 (omega arith);
        arguments = λ r stays all t n at. All-weaker (IsCoveredWithin s n) (IsCoveredWithin r n) (λ k h. within_stays s r n k stays h) (kids_at ns t) (covers.arguments t n at);
        companions = λ r stays all t n at. has_stays ns s r n (companions_of (term_in ns t)) stays (covers.companions t n at);
      };
      added = none_added log;
      grown = grows_itself s level;
      kept = record { clauses = λ i live. refl; atoms = λ i a at. at };
      told = told;
      sound = λ levels order. order;
      waits = subst (All (IsPart ns id)) (sym one) (All-cons (IsPart ns id) id [] (itself (term_in ns id)) (All-nil (IsPart ns id)));
      parts = no_parts ns id s;
    }

-- where none waits, what is covered has its clauses
pub none_waits : (ns : List Node) (id level : ℕ) (start : LogState) (first : FormState) (log : LogState) (s : FormState) (ids waiting : List ℕ) → length waiting ≡ 0
    → IsUnderway ns id level start first log s ids waiting → Covers ns log s
none_waits ns id level start first log s ids waiting empty u =
    let none : All (IsCoveredWithin s level) waiting = λ k d inside. absurd (omega (arith, inside, empty)) in
    record {
      within = u.within;
      rows = u.rows;
      bounds = u.bounds;
      arguments = u.reaches.arguments s (λ t n at. at) none;
      companions = u.reaches.companions s (λ t n at. at) none;
    }

-- ---- The one that waits last

-- what holds of all that wait holds of it, and of the others
front : (P : ℕ → Type 0) (ts : List ℕ) (t : ℕ) → All P (ts ++ t ∷ []) → All P ts × P t
front P ts t h = All-pop P (ts ++ t ∷ []) ts (Some t) refl h

-- what holds of two lists in one holds of each
parts : (P : ℕ → Type 0) (ts us : List ℕ) → All P (ts ++ us) → All P ts × All P us
parts P [] us h = (All-nil P, h)
parts P (t ∷ ts) us h =
    let more = parts P ts us (All-tail P t (ts ++ us) h) in
    (All-cons P t ts (All-head P t (ts ++ us) h) more.0, more.1)

module _ (ns : List Node) (id level : ℕ) (start : LogState) (first : FormState) (log : LogState) (s : FormState) (ids waiting : List ℕ) (t : ℕ)
    (u : IsUnderway ns id level start first log s ids (waiting ++ t ∷ [])) where
  -- it is of the table, and of what the first is made of
  pub is_within : t < length ns
  is_within = (front (λ v. v < length ns) waiting t u.table).1

  pub is_part : IsPart ns id t
  is_part = (front (IsPart ns id) waiting t u.waits).1

  pub is_taken : TakenTermsAreInOrder → IsTaken (term_in ns id) → IsTaken (term_in ns t)
  is_taken law taken =
      law.parts (term_in ns id) (term_in ns t) taken (subst (λ (us : List Term). Contains us (term_in ns t)) (law.listing (term_in ns id) taken) is_part)

  -- where it stops, the first one stops
  pub stops_too : (e : FormStop) → OnWide e (IsStopIn ns (term_in ns t)) → OnWide e (IsStopIn ns (term_in ns id))
  stops_too (Wide wide v) stop =
      record {
        within = stop.within;
        part = part_of_part (term_in ns id) (term_in ns t) (term_in ns v) is_part stop.part;
        of = stop.of;
        leaves = stop.leaves;
        first = stop.first;
      }
  stops_too Memory stop = tt

  -- it is covered already
  pub skip : (n : ℕ) → covered_at s t ≡ Some n → IsUnderway ns id level start first log s ids waiting
  skip n covered =
      let below : n ≤ level = subst (λ o. unwrap_or o 0 ≤ level) (u.rows.told t ∙ covered) (u.told t) in
      let with_it = λ (r : FormState) (stays : Stays s r) (all : All (IsCoveredWithin r level) waiting).
      All-push (IsCoveredWithin r level) waiting t all (covered_within (covered_at r t) n level (stays t n covered) below) in
      record {
        table = (front (λ v. v < length ns) waiting t u.table).0;
        within = u.within;
        rows = u.rows;
        bounds = u.bounds;
        reaches = record {
          root = λ r stays all. u.reaches.root r stays (with_it r stays all);
          arguments = λ r stays all. u.reaches.arguments r stays (with_it r stays all);
          companions = λ r stays all. u.reaches.companions r stays (with_it r stays all);
        };
        added = u.added;
        grown = u.grown;
        kept = u.kept;
        told = u.told;
        sound = u.sound;
        waits = (front (IsPart ns id) waiting t u.waits).0;
        parts = u.parts;
      }

  -- where it alone is covered more, or nothing is
  pub parts_on : (s' : FormState) → ((v : ℕ) → covered_at s v ≡ None → IsSome (covered_at s' v) → v ≡ t) → AreParts ns id first s'
  parts_on s' only v none some =
      elim (none_or_some (covered_at s v)) [
        | inl before ↦ subst (IsPart ns id) (sym (only v before some)) is_part
        | inr was ↦ u.parts v none (subst (λ o. IsSome o) (sym was.1) refl)
      ]

  -- it is covered, and its arguments and companions wait in its place
  module _ (log' : LogState) (s' : FormState) (ids' : List ℕ) (takes : Takes s.terms t level s'.terms) (rows : HasRows ns log' s') (bounds : HasBounds log' s')
      (adds : AddsRows t log ids log' ids') (grown : Grows s level s') (kept : Keeps log log') (told : (v : ℕ) → told_level log' v ≤ level)
      (only : (v : ℕ) → covered_at s v ≡ None → IsSome (covered_at s' v) → v ≡ t) (sound : (levels : List (List ℕ)) → IsLog ns levels log → IsLog ns levels log')
      (after : List ℕ) (puts : PutsParts ns t waiting after) where
    abbrev kids : List ℕ
    kids = kids_at ns t

    -- what holds of all that wait then
    each_part : (P : ℕ → Type 0) → All P after → (All P waiting × All P kids) × All P puts.companions
    each_part P all =
        let both = parts P (waiting ++ kids) puts.companions (subst (All P) puts.joined all) in
        (parts P waiting kids both.0, both.1)

    all_parts : (P : ℕ → Type 0) → All P waiting → All P kids → All P puts.companions → All P after
    all_parts P first own beside =
        subst (All P) (sym puts.joined) (All-append P (waiting ++ kids) puts.companions (All-append P waiting kids first own) beside)

    -- what stays from then on stays from now on, and with what waits then it is covered
    stays_on : (r : FormState) → Stays s' r → Stays s r
    stays_on r stays v n at = stays v n (grown.terms.stays v n at)

    with_term : (r : FormState) → Stays s' r → All (IsCoveredWithin r level) after → All (IsCoveredWithin r level) (waiting ++ t ∷ [])
    with_term r stays all =
        All-push (IsCoveredWithin r level) waiting t (each_part (IsCoveredWithin r level) all).0.0
        (covered_within (covered_at r t) level level (stays t level takes.here) (omega arith))

    -- arguments of what is covered then
    arguments_on : (r : FormState) → Stays s' r → All (IsCoveredWithin r level) after → (v n : ℕ) → covered_at s' v ≡ Some n
        → All (IsCoveredWithin r n) (kids_at ns v)
    arguments_on r stays all v n at =
        elim (same_or_other v t) [
          | inl same ↦
              let both : Some level ≡ Some n = sym takes.here ∙ ap (covered_at s') (sym same) ∙ at in
              let one : level ≡ n = cc in
              subst (λ m. All (IsCoveredWithin r m) (kids_at ns v)) one
              (subst (λ w. All (IsCoveredWithin r level) (kids_at ns w)) (sym same) (each_part (IsCoveredWithin r level) all).0.1)
          | inr other ↦ u.reaches.arguments r (stays_on r stays) (with_term r stays all) v n (sym (takes.others v other) ∙ at)
        ]

    -- and companions
    has_each : (r : FormState) (cs : List ℕ) → AllByRecursion (λ c. c < length ns) cs → AllByRecursion (IsCoveredWithin r level) cs
        → AllByRecursion (HasCovered ns r level) (map (term_in ns) cs)
    has_each r [] inside covered = tt
    has_each r (c ∷ cs) inside covered =
        (record { number = c; inside = inside.0; term = refl; covered = covered.0 }, has_each r cs inside.1 covered.1)

    own_companions : (r : FormState) → All (IsCoveredWithin r level) after → AllByRecursion (HasCovered ns r level) (companions_of (term_in ns t))
    own_companions r all =
        subst (AllByRecursion (HasCovered ns r level)) puts.beside
        (has_each r puts.companions (recursion_from_All (λ c. c < length ns) puts.companions puts.inside)
        (recursion_from_All (IsCoveredWithin r level) puts.companions (each_part (IsCoveredWithin r level) all).1))

    companions_on : (r : FormState) → Stays s' r → All (IsCoveredWithin r level) after → (v n : ℕ) → covered_at s' v ≡ Some n
        → AllByRecursion (HasCovered ns r n) (companions_of (term_in ns v))
    companions_on r stays all v n at =
        elim (same_or_other v t) [
          | inl same ↦
              let both : Some level ≡ Some n = sym takes.here ∙ ap (covered_at s') (sym same) ∙ at in
              let one : level ≡ n = cc in
              subst (λ m. AllByRecursion (HasCovered ns r m) (companions_of (term_in ns v))) one
              (subst (λ w. AllByRecursion (HasCovered ns r level) (companions_of (term_in ns w))) (sym same) (own_companions r all))
          | inr other ↦ u.reaches.companions r (stays_on r stays) (with_term r stays all) v n (sym (takes.others v other) ∙ at)
        ]

    -- they are listed with the first
    companion_waits : (c : ℕ) → Contains puts.companions c → IsPart ns id c
    companion_waits c has =
        part_of_part (term_in ns id) (term_in ns t) (term_in ns c) is_part
        (companions_are_parts (term_in ns t) (term_in ns c)
        (subst (λ (us : List Term). Contains us (term_in ns c)) puts.beside (map_has (term_in ns) puts.companions c has)))

    -- together
    pub cover_on : IsUnderway ns id level start first log' s' ids' after
    cover_on =
        record {
          table = all_parts (λ v. v < length ns) (front (λ v. v < length ns) waiting t u.table).0
              (All-weaker (λ k. k < t) (λ k. k < length ns) (λ k below. let inside = is_within in omega arith) kids puts.below) puts.inside;
          within = λ v n at. elim (same_or_other v t) [
            | inl same ↦ subst (λ w. w < length ns) (sym same) is_within
            | inr other ↦ u.within v n (sym (takes.others v other) ∙ at)
          ];
          rows = rows;
          bounds = bounds;
          reaches = record {
            root = λ r stays all. u.reaches.root r (stays_on r stays) (with_term r stays all);
            arguments = arguments_on;
            companions = companions_on;
          };
          added = subst (λ l. AreAdded start l log') (sym adds.joined) (added_twice start log log' kept ids adds.more u.added adds.added);
          grown = grows_more first s s' level u.grown grown;
          kept = keeps_twice start log log' u.kept kept;
          told = told;
          sound = λ levels order. sound levels (u.sound levels order);
          waits = all_parts (IsPart ns id) (front (IsPart ns id) waiting t u.waits).0
              (All-weaker (λ k. Contains (listing_order (term_in ns t)) (term_in ns k)) (IsPart ns id)
              (λ k has. part_of_part (term_in ns id) (term_in ns t) (term_in ns k) is_part has) kids
              (arguments_are_parts (term_in ns) (term_in ns t) puts.head kids puts.is))
              (All-from_recursion (IsPart ns id) puts.companions (by_each (IsPart ns id) puts.companions companion_waits));
          parts = parts_on s' only;
        }
