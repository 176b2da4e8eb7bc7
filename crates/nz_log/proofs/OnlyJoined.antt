-- The atoms that join are those alone that are wanted.
use Rattle.std.proofs.Common.{◌≡◌, ℕ, ◌<◌, ◌+◌, inl, inr, Bool, true, false, List, [], ◌∷◌, ◌++◌, length, if◌then◌else◌, None, Some, Result, Ok, Err, refl, sym, ap, subst, ◌∙◌, arith}
use Rattle.std.specs.Prelude.{Contains, IfOk, slice_get}
use Rattle.std.specs.List.{list_any}
use Rattle.std.proofs.lemmas.Bool.{cases_lt}
use Rattle.std.proofs.lemmas.List.{length-append}
use Rattle.std.proofs.lemmas.List.Elements.{Contains-append_left, Contains-push}
use Rattle.indexmap.specs.IndexSet.{insert_key}
use Rattle.nz_lists.proofs.Once.{once_has}
use Rattle.nz_spec.specs.clauses.Literal.{once}
use Rattle.nz_log.specs.declared.atoms.Atom.{Atom}
use Rattle.nz_log.specs.declared.lits.Lit.{Lit}
use Rattle.nz_log.specs.Atoms.{AreAtoms, IsAtomOf, JoinOnly}
use Rattle.nz_log.specs.Keys.{are_same_atom}
use Rattle.nz_log.specs.Lits.{are_same_lit}
use Rattle.nz_log.specs.Logs.{Entry, LogState, Puts, literals_at}
use Rattle.nz_log.proofs.LiteralSets.{same_lit}

-- ---- One is put

at_end : (old : List Atom) (a : Atom) → slice_get (old ++ a ∷ []) (length old) ≡ Some a
at_end [] a = refl
at_end (b ∷ bs) a = at_end bs a

one_joins : (b : Bool) (old new : List Atom) (a : Atom) (id : ℕ) → new ≡ (if b then old else old ++ a ∷ []) → AreAtoms new → slice_get new id ≡ Some a → JoinOnly old new (λ i. i ≡ id)
one_joins true old new a id e are there i within = inl (subst (λ (xs : List Atom). i < length xs) e within)
one_joins false old new a id e are there i within =
    let long : length new ≡ length old + 1 = ap length e ∙ length-append old (a ∷ []) in
    elim (cases_lt i (length old)) [
      | inl less ↦ inl less
      | inr high ↦
          let last : i ≡ length old = omega (arith, long, within, high) in
          inr (are.once i id a (ap (λ (xs : List Atom). slice_get xs i) e ∙ ap (slice_get (old ++ a ∷ [])) last ∙ at_end old a) there)
    ]

pub put_only : (old new : List Atom) (a : Atom) (id : ℕ) → new ≡ insert_key are_same_atom old a → AreAtoms new → slice_get new id ≡ Some a → JoinOnly old new (λ i. i ≡ id)
put_only old new a id e are there = one_joins (list_any (are_same_atom a) old) old new a id e are there

-- ---- More join

pub none_joins : (atoms : List Atom) (P : ℕ → Type 0) → JoinOnly atoms atoms P
none_joins atoms P i within = inl within

pub only_twice : (old mid new : List Atom) (P Q R : ℕ → Type 0) → ((i : ℕ) → P i → R i) → ((i : ℕ) → Q i → R i) → JoinOnly old mid P → JoinOnly mid new Q → JoinOnly old new R
only_twice old mid new P Q R p q first second i within =
    elim (second i within) [
      | inr here ↦ inr (q i here)
      | inl before ↦ elim (first i before) [ inl own ↦ inl own | inr here ↦ inr (p i here) ]
    ]

pub number_more : (old mid new : List Atom) (ids : List ℕ) (id : ℕ) → JoinOnly old mid (Contains ids) → JoinOnly mid new (λ i. i ≡ id) → JoinOnly old new (Contains (ids ++ id ∷ []))
number_more old mid new ids id first second =
    only_twice old mid new (Contains ids) (λ i. i ≡ id) (Contains (ids ++ id ∷ [])) (λ i has. Contains-append_left ids (id ∷ []) i has)
    (λ i is. subst (Contains (ids ++ id ∷ [])) (sym is) (Contains-push ids id)) first second

pub lit_more : (old mid new : List Atom) (c : List Lit) (l : Lit) → JoinOnly old mid (IsAtomOf c) → JoinOnly mid new (λ i. i ≡ l.atom) → JoinOnly old new (IsAtomOf (c ++ l ∷ []))
lit_more old mid new c l first second =
    only_twice old mid new (IsAtomOf c) (λ i. i ≡ l.atom) (IsAtomOf (c ++ l ∷ [])) (λ i of. (of.0, Contains-append_left c (l ∷ []) of.0 of.1, of.2))
    (λ i is. (l, Contains-push c l, is)) first second

-- the last of these literals is on it
pub last_joins : (old new : List Atom) (c : List Lit) (l : Lit) → JoinOnly old new (λ i. i ≡ l.atom) → JoinOnly old new (IsAtomOf (c ++ l ∷ []))
last_joins old new c l only = lit_more old old new c l (none_joins old (IsAtomOf c)) only

-- ---- A clause is put on what has joined

of_set : (c : List Lit) (i : ℕ) → IsAtomOf c i → IsAtomOf (once are_same_lit c) i
of_set c i of = (of.0, once_has are_same_lit same_lit c of.0 of.1, of.2)

pub clause_only : {E : Type 0} (old : List Atom) (mid new from : LogState) (c : List Lit) (e : Entry) (r : Result ℕ E) → JoinOnly old mid.atoms (IsAtomOf c) → new.atoms ≡ mid.atoms → e.literals ≡ once are_same_lit c
    → IfOk r (λ id. Puts from id e new) → IfOk r (λ id. JoinOnly old new.atoms (IsAtomOf (literals_at new id)))
clause_only old mid new from c e (Err x) only atoms are puts = puts
clause_only old mid new from c e (Ok id) only atoms are puts =
    let here : literals_at new id ≡ once are_same_lit c = ap (λ o. elim o [ None ↦ [] | Some f ↦ f.literals ]) puts.made ∙ are in
    let all : JoinOnly old mid.atoms (IsAtomOf (once are_same_lit c)) =
    only_twice old old mid.atoms (IsAtomOf c) (IsAtomOf c) (IsAtomOf (once are_same_lit c)) (of_set c) (of_set c) (none_joins old (IsAtomOf c)) only in
    subst (λ (ls : List Lit). JoinOnly old new.atoms (IsAtomOf ls)) (sym here) (subst (λ (xs : List Atom). JoinOnly old xs (IsAtomOf (once are_same_lit c))) (sym atoms) all)
