-- The list of the literal is set, without the watch.
use Rattle.std.proofs.Common.{◌≡◌, ◌<◌, ℕ, List, length, sym, ap, subst, ◌∙◌}
use Rattle.std.specs.Prelude.{slice_set}
use Rattle.nz_sat.specs.declared.watches.Watch.{Watch}
use Rattle.nz_log.specs.Codes.{code_of}
use Rattle.nz_sat.specs.Lists.{TakesOut, list_at}
use Rattle.nz_sat.proofs.Removals.{list_beside, list_read, list_there, taken_out}
use Rattle.nz_sat.proofs.watches.Watches.remove.Goals as goal

pub returns-clause-removed : goal.returns-clause-removed
returns-clause-removed c =
    let lists = c.args.self.now.lists.items in
    let t = code_of c.args.literal in
    let own = c.index_mut.result.now in
    let new = c.swap_remove.new.self in
    let old : list_at lists t ≡ own.items = ap (list_at lists) (sym c.code.ensures.code) ∙ list_read lists c.code.result own (subst (λ (n : ℕ). n < length lists) (sym c.code.ensures.code) c.requires.within) c.index_mut.ensures.value in
    let inside : c.args.i < length own.items = subst (λ (list : List Watch). c.args.i < length list) old c.requires.inside in
    let there : list_at (slice_set lists c.code.result new) t ≡ new.items =
    ap (λ (n : ℕ). list_at (slice_set lists n new) t) c.code.ensures.code ∙ list_there lists t new c.requires.within in
    subst (TakesOut c.args.i (list_at lists t)) (sym there)
    (subst (λ (list : List Watch). TakesOut c.args.i list new.items) (sym old)
    (subst (TakesOut c.args.i own.items) (sym c.swap_remove.ensures.items) (taken_out own.items c.args.i c.swap_remove.result inside)))

pub returns-clause-others : goal.returns-clause-others
returns-clause-others c u other = list_beside c.args.self.now.lists.items c.code.result c.swap_remove.new.self u (λ e. other (sym e ∙ c.code.ensures.code))
