-- Clauses that a log has more than before, and how it goes on.
use Rattle.std.proofs.Common.{◌≡◌, ◌≢◌, ℕ, suc, ◌<◌, ◌⊎◌, inl, inr, List, [], ◌∷◌, ◌++◌, ◌-◌, length, take, drop, get_or, Some, refl, sym, ap, subst, ◌∙◌, arith, append_assoc, AllPairs}
use Rattle.std.specs.Prelude.{◌↔◌, Contains, IsSome, option_map}
use Rattle.std.proofs.lemmas.List.{append-nil, drop_at, take_rest}
use Rattle.std.proofs.lemmas.List.Elements.{All-append, All-cons, All-contains, All-nil, All-weaker, All-contains_itself, Contains-append_cases, Contains-append_left, Contains-append_right, Contains-push_cases}
use Rattle.std.proofs.lemmas.List.Kept.{AllPairs-cons}
use Rattle.nz_lists.proofs.Numbers.{same_or_other}
use Rattle.nz_lists.proofs.Members.{has_first, has_more}
use Rattle.nz_spec.specs.terms.Table.{Node}
use Rattle.nz_log.specs.Logs.{Entry, JoinsAtoms, LogState, entry_at, IsLive, Puts, row_term}
use Rattle.nz_log.specs.Sound.{IsLog}
use Rattle.nz_cform.specs.Covering.{AddsRows, AreAdded, GoesOn, IsRowAt, Keeps}
use Rattle.nz_cform.proofs.Kept.{row_kept, row_live}

-- ---- Pairs of two lists

pub pairs_append : {X : Type 0} (R : X → X → Type 0) (xs ys : List X) → AllPairs R xs → AllPairs R ys → ((x y : X) → Contains xs x → Contains ys y → R x y) → AllPairs R (xs ++ ys)
pairs_append R [] ys h k f = k
pairs_append R (x ∷ xs) ys h k f =
    AllPairs-cons R x (xs ++ ys)
    (All-append (R x) xs ys
    (λ i d inside. h 0 (suc i) d (omega arith) (omega (arith, inside)))
    (All-weaker (Contains ys) (R x) (λ y has. f x y (has_first x xs) has) ys (All-contains_itself ys)))
    (pairs_append R xs ys (λ i j d below inside. h (suc i) (suc j) d (omega (arith, below)) (omega (arith, inside))) k
    (λ z y has. f z y (has_more x z xs has)))

-- ---- How a log goes on

pub keeps_twice : (a b c : LogState) → Keeps a b → Keeps b c → Keeps a c
keeps_twice a b c f g =
    record {
      clauses = λ i live. g.clauses i (subst (λ o. IsSome o) (sym (f.clauses i live)) live) ∙ f.clauses i live;
      atoms = λ i x at. g.atoms i x (f.atoms i x at);
    }

pub goes_nowhere : (ns : List Node) (log : LogState) → GoesOn ns log log
goes_nowhere ns log = record { keeps = record { clauses = λ i live. refl; atoms = λ i x at. at }; told = refl; sound = λ levels order. order }

pub goes_twice : (ns : List Node) (a b c : LogState) → GoesOn ns a b → GoesOn ns b c → GoesOn ns a c
goes_twice ns a b c f g =
    record { keeps = keeps_twice a b c f.keeps g.keeps; told = g.told ∙ f.told; sound = λ levels order. g.sound levels (f.sound levels order) }

-- what was there stays where a clause is put
pub put_kept : (old new : LogState) (id : ℕ) (e : Entry) → Puts old id e new → (i : ℕ) → IsLive old i → entry_at new i ≡ entry_at old i
put_kept old new id e puts i live = puts.kept i (λ same. let above : i < id = puts.above i live in omega arith)

pub goes_put : (ns : List Node) (old new : LogState) (id : ℕ) (e : Entry) → Puts old id e new → ((levels : List (List ℕ)) → IsLog ns levels old → IsLog ns levels new)
    → GoesOn ns old new
goes_put ns old new id e puts sound = record { keeps = record { clauses = put_kept old new id e puts; atoms = puts.atoms }; told = puts.told; sound = sound }

pub goes_joined : (ns : List Node) (old new : LogState) → JoinsAtoms old new → ((levels : List (List ℕ)) → IsLog ns levels old → IsLog ns levels new) → GoesOn ns old new
goes_joined ns old new joins sound =
    record {
      keeps = record { clauses = λ i live. ap (λ es. entry_at (record { entries = es; told = []; atoms = [] }) i) joins.entries; atoms = joins.atoms };
      told = joins.told;
      sound = sound;
    }

-- ---- What was added

-- no clause is new where none was put
pub none_added : (log : LogState) → AreAdded log [] log
none_added log =
    record {
      live = λ i. (λ live. inl live, λ h. elim h [ inl live ↦ live | inr c ↦ absurd (let inside : c.0 < 0 = c.1 in omega arith) ]);
      fresh = λ k d inside. absurd (omega arith);
      rows = λ k d inside. absurd (omega arith);
      once = λ i j d below inside. absurd (omega arith);
    }

-- one that was put is
module _ (old new : LogState) (id : ℕ) (e : Entry) (puts : Puts old id e new) (t : ℕ) (row : row_term e.origin ≡ Some t) where
  one_row : IsRowAt new id t
  one_row = (e.origin, ap (option_map (λ (f : Entry). f.origin)) puts.made, row)

  live_cases : (i : ℕ) → IsLive new i → IsLive old i ⊎ Contains (id ∷ []) i
  live_cases i live =
      elim (same_or_other i id) [
        | inl same ↦ inr (subst (Contains (id ∷ [])) (sym same) (has_first id []))
        | inr other ↦ inl (subst (λ o. IsSome o) (puts.kept i other) live)
      ]

  cases_live : (i : ℕ) → IsLive old i ⊎ Contains (id ∷ []) i → IsLive new i
  cases_live i (inl before) = puts.stay i before
  cases_live i (inr h) =
      elim (Contains-push_cases [] id i h) [
        | inl none ↦ absurd (let inside : none.0 < 0 = none.1 in omega arith)
        | inr same ↦ subst (IsLive new) same puts.live
      ]

  pub added_one : AreAdded old (id ∷ []) new
  added_one =
      record {
        live = λ i. (live_cases i, cases_live i);
        fresh = All-cons (λ i. IsLive old i → ⊥) id [] (λ live. let above : id < id = puts.above id live in omega arith) (All-nil (λ i. IsLive old i → ⊥));
        rows = All-cons (λ i. (u : ℕ) × IsRowAt new i u) id [] (t, one_row) (All-nil (λ i. (u : ℕ) × IsRowAt new i u));
        once = λ i j d below inside. absurd (omega (arith, below, inside));
      }

  pub adds_one : (ids : List ℕ) → AddsRows t old ids new (ids ++ id ∷ [])
  adds_one ids =
      record {
        more = id ∷ [];
        joined = refl;
        added = added_one;
        of_term = All-cons (λ i. IsRowAt new i t) id [] one_row (All-nil (λ i. IsRowAt new i t));
      }

-- and more, and then more
module _ (a b c : LogState) (keeps : Keeps b c) where
  rows_kept : (t i : ℕ) → IsRowAt b i t → IsRowAt c i t
  rows_kept t i row = row_kept b c i (keeps.clauses i (row_live b i t row)) t row

  module _ (xs ys : List ℕ) (first : AreAdded a xs b) (second : AreAdded b ys c) where
    more_cases : (i : ℕ) → IsLive c i → IsLive a i ⊎ Contains (xs ++ ys) i
    more_cases i live =
        elim ((second.live i).0 live) [
          | inl mid ↦ elim ((first.live i).0 mid) [
            | inl old ↦ inl old
            | inr h ↦ inr (Contains-append_left xs ys i h)
          ]
          | inr h ↦ inr (Contains-append_right xs ys i h)
        ]

    more_live : (i : ℕ) → IsLive a i ⊎ Contains (xs ++ ys) i → IsLive c i
    more_live i (inl old) = (second.live i).1 (inl ((first.live i).1 (inl old)))
    more_live i (inr h) =
        elim (Contains-append_cases xs ys i h) [
          | inl l ↦ (second.live i).1 (inl ((first.live i).1 (inr l)))
          | inr r ↦ (second.live i).1 (inr r)
        ]

    -- none of the second is among the first
    apart : (i k : ℕ) → Contains xs i → Contains ys k → i ≢ k
    apart i k h l same =
        All-contains (λ j. IsLive b j → ⊥) ys k second.fresh l (subst (IsLive b) same ((first.live i).1 (inr h)))

    pub added_twice : AreAdded a (xs ++ ys) c
    added_twice =
        record {
          live = λ i. (more_cases i, more_live i);
          fresh = All-append (λ i. IsLive a i → ⊥) xs ys first.fresh
              (All-weaker (λ i. IsLive b i → ⊥) (λ i. IsLive a i → ⊥) (λ i none live. none ((first.live i).1 (inl live))) ys second.fresh);
          rows = All-append (λ i. (u : ℕ) × IsRowAt c i u) xs ys
              (All-weaker (λ i. (u : ℕ) × IsRowAt b i u) (λ i. (u : ℕ) × IsRowAt c i u) (λ i r. (r.0, rows_kept r.0 i r.1)) xs first.rows) second.rows;
          once = pairs_append (λ i k. i ≢ k) xs ys first.once second.once apart;
        }

  pub adds_twice : (t : ℕ) (before mid after : List ℕ) → AddsRows t a before b mid → AddsRows t b mid c after → AddsRows t a before c after
  adds_twice t before mid after first second =
      record {
        more = first.more ++ second.more;
        joined = second.joined ∙ ap (λ l. l ++ second.more) first.joined ∙ append_assoc before first.more second.more;
        added = added_twice first.more second.more first.added second.added;
        of_term = All-append (λ i. IsRowAt c i t) first.more second.more
            (All-weaker (λ i. IsRowAt b i t) (λ i. IsRowAt c i t) (λ i row. rows_kept t i row) first.more first.of_term) second.of_term;
      }

pub adds_none : (t : ℕ) (log : LogState) (ids : List ℕ) → AddsRows t log ids log ids
adds_none t log ids = record { more = []; joined = sym (append-nil ids); added = none_added log; of_term = All-nil (λ i. IsRowAt log i t) }

-- where the log that it began with had the same clauses
same_live : (old new : LogState) → new.entries ≡ old.entries → (i : ℕ) → IsLive new i ≡ IsLive old i
same_live old new clauses i = ap (λ es. IsLive (record { entries = es; told = []; atoms = [] }) i) clauses

pub adds_from_same : (t : ℕ) (first start new : LogState) (before after : List ℕ) → start.entries ≡ first.entries → AddsRows t start before new after → AddsRows t first before new after
adds_from_same t first start new before after clauses adds =
    record {
      more = adds.more;
      joined = adds.joined;
      added = record {
        live = λ i. subst (λ T. IsLive new i ↔ (T ⊎ Contains adds.more i)) (same_live first start clauses i) (adds.added.live i);
        fresh = λ k d inside. subst (λ T. T → ⊥) (same_live first start clauses (get_or adds.more k d)) (adds.added.fresh k d inside);
        rows = adds.added.rows;
        once = adds.added.once;
      };
      of_term = adds.of_term;
    }

-- the numbers that come at the end of a list are what is behind those that were there
pub rest_is : (ids items before more : List ℕ) (from : ℕ) → ids ≡ items → items ≡ before ++ more → length before ≡ from → take (length ids - from) (drop from ids) ≡ more
rest_is ids items before more from same joined long = take_rest ids from ∙ ap (drop from) (same ∙ joined) ∙ drop_at before more from long
