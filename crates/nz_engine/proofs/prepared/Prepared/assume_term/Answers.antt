use Rattle.std.proofs.Common.{◌⊎◌, ℕ, true, List, [], ◌∷◌, OnOk, map, subst}
use Rattle.std.specs.Prelude.{IsSome}
use Rattle.std.proofs.lemmas.Result.{on_ok_weaker}
use Rattle.nz_cform.specs.Forms.{covered_at}
use Rattle.nz_search.specs.Levels.{Level}
use Rattle.nz_sat.specs.Sats.{held_of}
use Rattle.nz_engine.specs.Keeping.{KeepsClauses}
use Rattle.nz_engine.specs.Preparing.{PreparedState, Extends, IsAssumable, IsMadeOf, IsStanding}
use Rattle.nz_engine.proofs.AssumptionLevels.{also_extends, also_from, also_made, extends_itself, term_assumed}
use Rattle.nz_engine.proofs.KeptClauses.{keeps_itself, keeps_joined}
use Rattle.nz_engine.proofs.prepared.Prepared.assume_term.Goals as goal

pub returns-clause-stands : goal.returns-clause-stands
returns-clause-stands c =
    let ns = c.args.terms.now in
    let t = c.args.term in
    let own : PreparedState = record { log = c.self.inside.log; form = c.self.inside.form; sat = c.self.inside.sat; given = c.self.inside.given; numbered = c.self.inside.numbered; above = c.self.inside.above; noted = c.self.inside.noted.items } in
    let P : PreparedState → Type 0 = λ s. OnOk c.cover.result ((levels : List Level) (more : List ℕ) → IsAssumable ns levels more t c.args.level s → IsStanding ns levels more c.cover.new.self) in
    subst P c.self.view_is
    (on_ok_weaker c.cover.result
    (λ also levels more a.
    term_assumed ns levels more own c.cover.new.self t c.args.level c.atoms_of_terms.ensures.atoms c.rows_name_covered.ensures.named c.taken_terms_are_in_order.ensures.order (record { sums = c.forms_are_sums.ensures.sums; operands = c.operands_are_sorted.ensures.sorted }) c.known_table.ensures.table c.requires.within
    (also_from ns own c.cover.new.self true t c.args.level also) c.cover.ensures.above a)
    c.cover.ensures.covered)

pub returns-clause-extends : goal.returns-clause-extends
returns-clause-extends c =
    let ns = c.args.terms.now in
    let t = c.args.term in
    let own : PreparedState = record { log = c.self.inside.log; form = c.self.inside.form; sat = c.self.inside.sat; given = c.self.inside.given; numbered = c.self.inside.numbered; above = c.self.inside.above; noted = c.self.inside.noted.items } in
    subst (λ (s : PreparedState). OnOk c.cover.result (Extends s c.cover.new.self)) c.self.view_is
    (on_ok_weaker c.cover.result
    (λ also. also_extends ns own c.cover.new.self t c.args.level (also_from ns own c.cover.new.self true t c.args.level also) c.cover.ensures.noted c.cover.ensures.theory) c.cover.ensures.covered)

pub returns-clause-made : goal.returns-clause-made
returns-clause-made c =
    let ns = c.args.terms.now in
    let t = c.args.term in
    let own : PreparedState = record { log = c.self.inside.log; form = c.self.inside.form; sat = c.self.inside.sat; given = c.self.inside.given; numbered = c.self.inside.numbered; above = c.self.inside.above; noted = c.self.inside.noted.items } in
    subst (λ (s : PreparedState). OnOk c.cover.result ((u : ℕ) → IsSome (covered_at c.cover.new.self.form u) → IsSome (covered_at s.form u) ⊎ IsMadeOf ns (t ∷ []) u)) c.self.view_is
    (on_ok_weaker c.cover.result
    (λ also. also_made ns own c.cover.new.self t c.args.level c.requires.within (also_from ns own c.cover.new.self true t c.args.level also)) c.cover.ensures.covered)

pub returns-clause-keeps : goal.returns-clause-keeps
returns-clause-keeps c =
    subst (λ (s : PreparedState). OnOk c.cover.result (KeepsClauses s c.cover.new.self)) c.self.view_is
    (on_ok_weaker c.cover.result (λ also. keeps_joined also.kept (map (held_of c.cover.new.self.log) also.ids) also.joined) c.cover.ensures.covered)

pub returns-then-is_covered-clause-extends : goal.returns-then-is_covered-clause-extends
returns-then-is_covered-clause-extends c = extends_itself c.args.self.now

pub returns-then-is_covered-clause-keeps : goal.returns-then-is_covered-clause-keeps
returns-then-is_covered-clause-keeps c = keeps_itself c.args.self.now
