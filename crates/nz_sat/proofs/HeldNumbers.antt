-- Clauses that are held, and their numbers.
use Rattle.std.proofs.Common.{ℕ, List, inl, inr, refl, ap, subst}
use Rattle.std.specs.Prelude.{Contains}
use Rattle.std.proofs.lemmas.List.Elements.{All-contains, All-map}
use Rattle.nz_sat.specs.declared.clauses.Held.{Held}
use Rattle.nz_sat.specs.declared.propagation.Propagation.{Propagation}
use Rattle.nz_sat.specs.Clauses.{held_as}
use Rattle.nz_sat.specs.Sats.{ids}
use Rattle.nz_sat.specs.Watched.{HasClause, HoldsAs, lone_ids}
use Rattle.nz_sat.proofs.LearnedClauses.{all_from}
use Rattle.nz_sat.proofs.TrailGrowth.{held_has}

-- the number of a clause that is held
pub id_has : (held : List Held) (h : Held) → Contains held h → Contains (ids held) h.id
id_has held h has = subst (λ (x : Held). Contains (ids held) x.id) has.2 (held_has held has.0 h has.1)

-- a clause is one of the clauses by its number
pub has_id : (p : Propagation) (h : Held) → HoldsAs p h → HasClause p h.id
has_id p h (inl w) = inl (record { key = w.key; clause = w.clause; at = w.at; is = ap (λ (x : Held). x.id) w.is })
has_id p h (inr has) = inr (id_has p.lone.items h has)

-- where all that are held are clauses, so it is by their numbers
pub ids_covered : (held : List Held) (p : Propagation) → ((h : Held) → Contains held h → HoldsAs p h) → (i : ℕ) → Contains (ids held) i → HasClause p i
ids_covered held p covered i has =
    All-contains (HasClause p) (ids held) i
    (All-map (HasClause p) (λ (h : Held). h.id) held (all_from (λ (h : Held). HasClause p h.id) held (λ h there. has_id p h (covered h there)))) has

-- where no others are clauses, so it is by their numbers
pub ids_only : (held : List Held) (p : Propagation) → ((h : Held) → HoldsAs p h → Contains held h) → (i : ℕ) → HasClause p i → Contains (ids held) i
ids_only held p only i (inl w) =
    subst (Contains (ids held)) w.is (id_has held (held_as w.clause) (only (held_as w.clause) (inl (record { key = w.key; clause = w.clause; at = w.at; is = refl }))))
ids_only held p only i (inr has) =
    All-contains (Contains (ids held)) (lone_ids p) i
    (All-map (Contains (ids held)) (λ (h : Held). h.id) p.lone.items
    (all_from (λ (h : Held). Contains (ids held) h.id) p.lone.items (λ h there. id_has held h (only h (inr there))))) has
