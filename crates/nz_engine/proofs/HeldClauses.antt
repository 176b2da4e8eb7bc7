-- What a list learned is held still, where more atoms are named and more clauses are held.
use Rattle.std.proofs.Common.{◌≡◌, ℕ, zero, suc, ◌==◌, Bool, List, [], ◌∷◌, ◌++◌, map, Option, Some, None, option_map, refl, sym, ap, subst, ◌∙◌, eq-eqb}
use Rattle.std.specs.Prelude.{All, Contains, IsSome, if◌then◌else◌, slice_get, unwrap_or}
use Rattle.std.proofs.lemmas.List.Elements.{All-contains, All-head, All-map, All-tail, All-weaker, Contains-append_left}
use Rattle.nz_spec.specs.search.Work.{WorkList}
use Rattle.nz_log.specs.declared.atoms.Atom.{Atom}
use Rattle.nz_log.specs.declared.lits.Lit.{Lit}
use Rattle.nz_log.specs.Atoms.{Stay}
use Rattle.nz_log.specs.Logs.{Entry, IsLive, LogState, entry_at, literals_at}
use Rattle.nz_search.specs.declared.note.Note.{Note}
use Rattle.nz_search.specs.Standing.{search_after}
use Rattle.nz_cform.specs.Covering.{Keeps}
use Rattle.nz_sat.specs.declared.clauses.Held.{Held}
use Rattle.nz_sat.specs.Numbers.{number_of, numbered}
use Rattle.nz_sat.specs.Sats.{AreHeld, AreOn, HoldsLearned}
use Rattle.nz_engine.specs.Checking.{HoldsNamed, IsHeldAs}
use Rattle.nz_engine.specs.Preparing.{ids_held}
use Rattle.nz_engine.proofs.AssertionPlaces.{place_of}

-- the number of an atom of a front
same_at : (xs ys : List ℕ) (t k : ℕ) → slice_get xs k ≡ Some t → number_of (xs ++ ys) t ≡ number_of xs t
same_at [] ys t k at = cc
same_at (x ∷ xs) ys t zero at =
    let same : x ≡ t = cc in
    let test = eq-eqb x t same in
    ap (λ (b : Bool). if b then Some 0 else option_map suc (number_of (xs ++ ys) t)) test ∙ sym (ap (λ (b : Bool). if b then Some 0 else option_map suc (number_of xs t)) test)
same_at (x ∷ xs) ys t (suc k) at = ap (λ (o : Option ℕ). if x == t then Some 0 else option_map suc o) (same_at xs ys t k at)

same_number : (xs ys : List ℕ) (t : ℕ) → Contains xs t → number_of (xs ++ ys) t ≡ number_of xs t
same_number xs ys t has = let k = place_of xs t has in same_at xs ys t k.0 k.1

same_numbers : (xs ys : List ℕ) (c : List Lit) → All (λ (l : Lit). Contains xs l.atom) c → map (numbered (xs ++ ys)) c ≡ map (numbered xs) c
same_numbers xs ys [] on = refl
same_numbers xs ys (l ∷ c) on =
    let P = λ (m : Lit). Contains xs m.atom in
    let first : numbered (xs ++ ys) l ≡ numbered xs l = ap (λ (o : Option ℕ). (unwrap_or o 0, l.sign)) (same_number xs ys l.atom (All-head P l c on)) in
    let rest = same_numbers xs ys c (All-tail P l c on) in
    λ i. first i ∷ rest i

pub same_literals : (old new : LogState) (i : ℕ) → entry_at new i ≡ entry_at old i → literals_at new i ≡ literals_at old i
same_literals old new i same = ap (λ (o : Option Entry). elim o [ None ↦ [] | Some e ↦ e.literals ]) same

pub held_still : (old new : LogState) (xs ys : List ℕ) (held more : List Held) (work : WorkList Note) → Keeps old new → ((id : ℕ) → Contains (ids_held held) id → Contains (ids_held more) id)
    → HoldsNamed old xs held work → HoldsNamed new (xs ++ ys) more work
held_still old new xs ys held more work keeps into h ns =
    All-weaker (IsHeldAs old xs held) (IsHeldAs new (xs ++ ys) more)
    (λ c a.
    let same = keeps.clauses a.id a.live in
    let literals = same_literals old new a.id same in
    record {
      id = a.id;
      has = into a.id a.has;
      live = subst (λ (o : Option Entry). IsSome o) (sym same) a.live;
      on = subst (All (λ (l : Lit). Contains (xs ++ ys) l.atom)) (sym literals)
          (All-weaker (λ (l : Lit). Contains xs l.atom) (λ (l : Lit). Contains (xs ++ ys) l.atom) (λ l has. Contains-append_left xs ys l.atom has) (literals_at old a.id) a.on);
      is = ap (map (numbered (xs ++ ys))) literals ∙ same_numbers xs ys (literals_at old a.id) a.on ∙ a.is;
    }) (search_after ns work).learned (h ns)

pub learned_of : (log : LogState) (atoms : List ℕ) (held : List Held) (work : WorkList Note) → HoldsNamed log atoms held work → HoldsLearned log atoms held work
learned_of log atoms held work h ns =
    All-weaker (IsHeldAs log atoms held) (λ (c : List (ℕ × Bool)). (i : ℕ) × Contains (ids_held held) i × (map (numbered atoms) (literals_at log i) ≡ c)) (λ c a. (a.id, a.has, a.is))
    (search_after ns work).learned (h ns)

-- what a search learned over these atoms, where all that is held is on them
pub named_learned : (log : LogState) (atoms : List ℕ) (held : List Held) (work : WorkList Note) → AreHeld log held → AreOn log atoms held → HoldsLearned log atoms held work → HoldsNamed log atoms held work
named_learned log atoms held work are on h ns =
    All-weaker (λ (c : List (ℕ × Bool)). (i : ℕ) × Contains (ids_held held) i × (map (numbered atoms) (literals_at log i) ≡ c)) (IsHeldAs log atoms held)
    (λ c a.
    let P = λ (i : ℕ). IsLive log i × All (λ (l : Lit). Contains atoms l.atom) (literals_at log i) in
    let each : All P (ids_held held) = All-map P (λ (x : Held). x.id) held (λ k d below. ((are k d below).0, on k d below)) in
    let here = All-contains P (ids_held held) a.0 each a.1 in
    record { id = a.0; has = a.1; live = here.0; on = here.1; is = a.2 }) (search_after ns work).learned (h ns)

-- what is noted in a log is noted in one that keeps its atoms
pub noted_stay : (old new : List Atom) → Stay old new → (us : List ℕ) (xs : List Atom) → map (slice_get old) us ≡ map Some xs → map (slice_get new) us ≡ map Some xs
noted_stay old new stay [] [] e = refl
noted_stay old new stay [] (x ∷ xs) e = cc
noted_stay old new stay (u ∷ us) [] e = cc
noted_stay old new stay (u ∷ us) (x ∷ xs) e =
    let head : slice_get old u ≡ Some x = cc in
    let tail : map (slice_get old) us ≡ map Some xs = cc in
    let first = stay u x head in
    let rest = noted_stay old new stay us xs tail in
    λ i. first i ∷ rest i
