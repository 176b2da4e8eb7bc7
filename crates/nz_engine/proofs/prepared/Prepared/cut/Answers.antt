-- What is left is as the definitions of a cut say, also where no bound went.
use Rattle.std.proofs.Common.{ℕ, ◌<◌, ◌≤◌, false, length, List, refl, sym, subst, ◌∙◌}
use Rattle.std.specs.Prelude.{All, Contains, IsSome}
use Rattle.nz_log.specs.declared.lits.Lit.{Lit}
use Rattle.nz_log.specs.Logs.{IsLive, literals_at}
use Rattle.nz_cform.specs.Listings.{listed_at}
use Rattle.nz_sat.specs.declared.clauses.Held.{Held}
use Rattle.nz_engine.specs.Preparing.{PreparedState, CutsTo, Forgets, IsPrepared}
use Rattle.nz_engine.proofs.LevelPreservation.{all_kept, dropped_live, dropped_there}
use Rattle.nz_engine.proofs.ExclusionClauses.{prepared_in}
use Rattle.nz_engine.proofs.UnlistedClauses.{none_unlisted}
use Rattle.nz_engine.proofs.prepared.Prepared.cut.Goals as goal

pub forget_unlisted-requires-clause-live : goal.forget_unlisted-requires-clause-live
forget_unlisted-requires-clause-live c =
    let r = c.requires.prepared in
    let h = subst (IsPrepared r.0 r.1 r.2) (sym c.self.view_is) r.3 in
    subst (All (λ (x : Held). IsLive c.drop_above.new.self x.id)) (sym c.cut-2.ensures.clauses) (dropped_live (prepared_in c.self.inside) c.args.level c.drop_above.new.self c.drop_above.ensures.drops h.held)

pub forget_unlisted-requires-clause-there : goal.forget_unlisted-requires-clause-there
forget_unlisted-requires-clause-there c =
    let log = c.drop_above.new.self in
    let r = c.requires.prepared in
    let h = subst (IsPrepared r.0 r.1 r.2) (sym c.self.view_is) r.3 in
    subst (All (λ (x : Held). All (λ (l : Lit). l.atom < length log.atoms) (literals_at log x.id))) (sym c.cut-2.ensures.clauses)
    (dropped_there (prepared_in c.self.inside) c.args.level log c.drop_above.ensures.drops r.0 h.held h.searched)

pub returns-then-bounds-count : goal.returns-then-bounds-count
returns-then-bounds-count c =
    let old = c.self.inside in
    let log = c.drop_above.new.self in
    let bounds = c.cut.new.self.bounds in
    let sat = c.forget_unlisted.new.sat in
    let new : PreparedState = record { log = log; form = c.cut.new.self; sat = sat; given = c.count_up_to-self-inside.result; numbered = c.count_up_to-self-inside-2.result; above = false; noted = old.noted.items } in
    record {
      cuts = subst (λ (s : PreparedState). CutsTo s c.args.level c.args.levels.now new) c.self.view_is
          (record {
            log = c.drop_above.ensures.drops;
            sound = c.drop_above.ensures.sound;
            form = c.cut.ensures.cuts;
            clauses = subst (λ (hs : List Held). Forgets log old.form.bounds bounds hs sat.clauses) c.cut-2.ensures.clauses (c.forget_unlisted.ensures.forgets old.form.bounds);
            seen = c.forget_unlisted.ensures.seen ∙ c.cut-2.ensures.seen;
            theory = c.forget_unlisted.ensures.theory ∙ c.cut-2.ensures.theory;
            given = c.count_up_to-self-inside.ensures.count;
            numbered = c.count_up_to-self-inside-2.ensures.count;
            above = refl;
          });
    }

pub returns-else-bounds-count : goal.returns-else-bounds-count
returns-else-bounds-count c =
    let old = c.self.inside in
    let log = c.drop_above.new.self in
    let bounds = c.cut.new.self.bounds in
    let sat = c.cut-2.new.self in
    let new : PreparedState = record { log = log; form = c.cut.new.self; sat = sat; given = c.count_up_to-self-inside.result; numbered = c.count_up_to-self-inside-2.result; above = false; noted = old.noted.items } in
    let listed : (i : ℕ) → IsSome (listed_at old.form.bounds i) → Contains old.form.bounds.ids i = λ i some.
    subst (λ (is : List ℕ). Contains is i) c.bounds-count.ensures.bounds ((c.bounds-count.ensures.listed i).1 some) in
    let long : length old.form.bounds.ids ≤ length bounds.ids =
    subst (λ (is : List ℕ). length is ≤ length bounds.ids) c.bounds-count.ensures.bounds
    (subst (λ (is : List ℕ). length c.bounds-count.result.now ≤ length is) c.bounds.ensures.bounds c.if-bounds-count.false) in
    record {
      cuts = subst (λ (s : PreparedState). CutsTo s c.args.level c.args.levels.now new) c.self.view_is
          (record {
            log = c.drop_above.ensures.drops;
            sound = c.drop_above.ensures.sound;
            form = c.cut.ensures.cuts;
            clauses = subst (λ (hs : List Held). Forgets log old.form.bounds bounds hs sat.clauses) c.cut-2.ensures.clauses
                (none_unlisted log old.form.bounds bounds sat.clauses (all_kept old.form.bounds bounds c.args.level listed c.cut.ensures.cuts.bounds long));
            seen = c.cut-2.ensures.seen;
            theory = c.cut-2.ensures.theory;
            given = c.count_up_to-self-inside.ensures.count;
            numbered = c.count_up_to-self-inside-2.ensures.count;
            above = refl;
          });
    }
