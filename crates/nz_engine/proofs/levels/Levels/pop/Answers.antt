use Rattle.std.proofs.Common.{◌≡◌, ◌-◌, length, take, sym, ap, ◌∙◌}
use Rattle.std.proofs.lemmas.List.{take-map, length-map}
use Rattle.nz_engine.specs.Levels.{level_of, levels_of}
use Rattle.nz_engine.proofs.levels.Levels.pop.Goals as goal

pub returns : goal.returns
returns c =
    let levels = c.self.inside.levels.items in
    let n = c.len.result - c.args.count in
    let same : levels_of levels ≡ c.args.self.now = c.self.view_is in
    let count : n ≡ length c.args.self.now - c.args.count =
    ap (λ k. k - c.args.count) (c.len.ensures ∙ c.self.inside.levels.ok.0 ∙ sym (length-map levels level_of) ∙ ap length same) in
    record { rest = ap levels_of c.truncate.ensures.items ∙ sym (take-map level_of n levels) ∙ ap (take n) same ∙ ap (λ k. take k c.args.self.now) count }
