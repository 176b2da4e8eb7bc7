-- What is prepared stands also where learned clauses go: each row and each unit is held by a clause that was added.
use Rattle.std.proofs.Common.{◌≡◌, ◌≤◌, ℕ, Bool, true, false, List, refl, ap, subst, sym, ◌∙◌, arith}
use Rattle.std.specs.Prelude.{◌&&◌, All, Contains, not, nat_lt}
use Rattle.nz_lists.proofs.Numbers.{not_below}
use Rattle.nz_spec.specs.terms.Table.{Node}
use Rattle.nz_log.specs.declared.lits.Lit.{Lit}
use Rattle.nz_log.specs.Logs.{IsLive, level_at, literals_at}
use Rattle.nz_reals.specs.State.{Theory}
use Rattle.nz_search.specs.Levels.{Level}
use Rattle.nz_sat.specs.declared.clauses.Held.{Held}
use Rattle.nz_sat.specs.Sats.{SatState, added_as, held_shed, is_shed}
use Rattle.nz_engine.specs.Preparing.{IsPrepared, IsSearched, PreparedState}
use Rattle.nz_engine.proofs.LevelPreservation.{left_since}
use Rattle.nz_engine.proofs.UnlistedClauses.{left_all, left_from, left_has}

-- a clause whose literals are of few levels stays
pub few_stay : (before glue : ℕ) (hs : List Held) (h : Held) → h.glue ≤ glue → Contains hs h → Contains (held_shed before glue hs) h
few_stay before glue hs h few has =
    left_has (λ (x : Held). not (is_shed before glue x)) hs h (ap (λ (b : Bool). not (nat_lt h.id before && b)) (not_below glue h.glue few) ∙ either (nat_lt h.id before)) has
  where
    either : (b : Bool) → not (b && false) ≡ true
    either true = refl
    either false = refl

-- and so does one that was added
added_stays : (before glue : ℕ) (hs : List Held) (h : Held) → h.glue ≡ 0 → Contains hs h → Contains (held_shed before glue hs) h
added_stays before glue hs h added has = few_stay before glue hs h (omega (arith, added)) has

module _ (ns : List Node) (levels : List Level) (roots : List (List ℕ)) (p : PreparedState) (before glue : ℕ) (h : IsPrepared ns levels roots p) where
  abbrev left : List Held
  left = held_shed before glue p.sat.clauses

  left_only : All (Contains p.sat.clauses) left
  left_only = left_from (λ (x : Held). not (is_shed before glue x)) p.sat.clauses

  left_prepared : (sat : SatState Theory) → IsPrepared ns levels roots (record p { sat = record sat { clauses = left; seen = p.sat.seen } })
  left_prepared sat =
      record {
        order = h.order;
        covers = h.covers;
        below = h.below;
        made = h.made;
        taken = h.taken;
        leveled = h.leveled;
        held = left_all (λ (x : Held). IsLive p.log x.id × (level_at p.log x.id ≡ x.level)) p.sat.clauses left left_only h.held;
        seen = left_since p.sat.seen p.log p.sat.clauses left left_only h.seen;
        searched = left_all (λ (x : Held). All (λ (l : Lit). IsSearched ns p.log p.form l.atom) (literals_at p.log x.id)) p.sat.clauses left left_only h.searched;
        rows = λ i t row. let r = h.rows i t row in record { need = r.need; may = r.may; has = added_stays before glue p.sat.clauses (added_as r.need p.log i) refl r.has };
        units = λ k t below at.
            let u = h.units k t below at in
            record { held = u.held; there = added_stays before glue p.sat.clauses u.held u.added u.there; need = u.need; added = u.added; named = u.named; literals = u.literals; behind = u.behind };
        numbers = λ k t below at. let n = h.numbers k t below at in record { level = n.level; covered = n.covered; behind = n.behind };
        within = h.within;
        numbers_within = h.numbers_within;
        lower = h.lower;
        numbers_lower = h.numbers_lower;
      }

  -- over the search that they left
  pub shed_prepared : (sat : SatState Theory) → sat.clauses ≡ left → sat.seen ≡ p.sat.seen → IsPrepared ns levels roots (record p { sat = sat })
  shed_prepared sat clauses seen =
      subst (λ (s : SatState Theory). IsPrepared ns levels roots (record p { sat = record sat { clauses = s.clauses; seen = s.seen } }))
      (λ i. record sat { clauses = sym clauses i; seen = sym seen i }) (left_prepared sat)
