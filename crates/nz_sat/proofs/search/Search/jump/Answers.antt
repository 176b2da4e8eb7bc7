-- One entry goes, or all that are left are up to the level.
use Rattle.std.proofs.Common.{◌≡◌, ◌+◌, length, ap, sym, ◌∙◌, arith, rules}
use Rattle.nz_log.specs.declared.lits.Lit.{Lit}
use Rattle.nz_sat.specs.declared.consult.Bounds.{Bounds}
use Rattle.nz_sat.specs.declared.search.Search.{Search}
use Rattle.nz_sat.specs.Theories.{told_on}
use Rattle.nz_sat.specs.Trails.{TrailState, below}
use Rattle.nz_sat.proofs.Levels.{below_all, below_last, front_less}
use Rattle.nz_sat.proofs.AtomTrails.{count_more}
use Rattle.nz_sat.proofs.search.Search.jump.Goals as goal

pub overflow_add-untold : goal.overflow_add-untold
overflow_add-untold c =
    let old = c.loop-literal.self.trail.entries in
    let start = c.args.self.now.trail.entries in
    let new = c.pop_above.new.self.entries in
    let b = c.loop-literal.self.bounds in
    let same : b ≡ c.args.self.now.bounds = ap (λ (s : Search). s.bounds) c.loop-literal.invariant.rest in
    let d = c.in-Some.ensures.taken in
    let more = count_more b old new c.args.level d c.told_at-untold.result (c.told_at-untold.ensures.one new d.last (sym c.len.ensures.count) (ap (λ (l : Lit). l.atom) d.is ∙ sym c.atom.ensures.atom)) in
    let count = c.loop-literal.invariant.count in
    let before : length (told_on b start) ≡ length (told_on b old) + c.loop-literal.untold =
    ap (λ (x : Bounds). length (told_on x start)) same ∙ count ∙ ap (λ (x : Bounds). length (told_on x old) + c.loop-literal.untold) (sym same) in
    let few = c.told_at-untold.ensures.few start in
    omega (arith, more, before, few)

pub loop-literal-preserved : goal.loop-literal-preserved
loop-literal-preserved c =
    let before = c.loop-literal.invariant in
    let d = c.in-Some.ensures.taken in
    let old = c.loop-literal.self.trail.entries in
    let new = c.pop_above.new.self.entries in
    let b = c.loop-literal.self.bounds in
    let same : b ≡ c.args.self.now.bounds = ap (λ (s : Search). s.bounds) before.rest in
    let more = count_more b old new c.args.level d c.told_at-untold.result (c.told_at-untold.ensures.one new d.last (sym c.len.ensures.count) (ap (λ (l : Lit). l.atom) d.is ∙ sym c.atom.ensures.atom)) in
    let count = before.count in
    let first = ap (λ (x : Bounds). length (told_on x old)) same in
    let second = ap (λ (x : Bounds). length (told_on x new)) same in
    record {
      rest = ap (λ (s : Search). record s { trail = c.pop_above.new.self; order = c.keep.new.self }) before.rest;
      size = c.pop_above.ensures.size ∙ before.size;
      kept = below_last c.args.level old new d ∙ before.kept;
      front = front_less c.args.self.now.trail.entries old new c.args.level before.front d;
      count = omega (arith, more, count, first, second);
    }

pub returns-clause-below : goal.returns-clause-below
returns-clause-below c =
    let es = c.pop_above.new.self.entries in
    let same : c.pop_above.new.self ≡ c.loop-literal.self.trail = search rules in
    sym (below_all c.args.level es (c.pop_above.ensures.below c.in_default.is)) ∙ ap (λ (t : TrailState). below c.args.level t.entries) same ∙ c.loop-literal.invariant.kept
