use Rattle.std.proofs.Common.{arith, ◌^◌, ◌∙◌, refl}
use Rattle.std.proofs.KnownBytes.{Keeps-refl}
use Rattle.nz_run.proofs.ReadOutcomes.{in_time_still, interrupted_run, took_many}
use Rattle.nz_run.proofs.program.serve.Goals as goal

pub returns-clause-reads : goal.returns-clause-reads
returns-clause-reads g c =
    λ _. (let reading = c.loop-read.invariant.reading c.requires.start.0 c.requires.start.1 in
    took_many g.E.Decide.levels g.E.Decide.table g.E.Decide.begins c.requires.start.0 _ _ _ _ _ c.loop-read.read reading (2 ^ 32) (let last = c.loop-read-test.false in omega arith))

pub returns-clause-ended : goal.returns-clause-ended
returns-clause-ended g c =
    λ limit begun. interrupted_run g.E.Decide.levels g.E.Decide.table g.E.Decide.begins limit _ _ _ _ _ c.loop-read.read (c.loop-read.invariant.reading limit begun) (let last = c.loop-read.auto.read-end in omega arith) _ (Keeps-refl _)

pub read_once-requires : goal.read_once-requires
read_once-requires g c =
    (c.requires.start.0, g.S.Source.left c.args.input.now, g.K.Sink.held c.args.out.now, c.loop-read.read, c.loop-read.invariant.reading c.requires.start.0 c.requires.start.1, c.loop-read-test.true)

pub returns-in-Some-clause-ended : goal.returns-in-Some-clause-ended
returns-in-Some-clause-ended g c = λ limit begun. c.in-Some.ensures.ended limit _ _ c.loop-read.read c.loop-read-test.true (c.loop-read.invariant.reading limit begun)

pub returns-in-Some-clause-not_late : goal.returns-in-Some-clause-not_late
returns-in-Some-clause-not_late g c =
    λ e. (let before = c.loop-read.invariant.in_time (g.S.Source.read_late c.args.input.now) (record { unended = e; as_first = refl }) in
    in_time_still (g.S.Source.read_late c.loop-read.input) _ _ c.read_once.ensures.late before.unended ∙ before.as_first)

pub returns-clause-not_late : goal.returns-clause-not_late
returns-clause-not_late g c = λ e. (c.loop-read.invariant.in_time (g.S.Source.read_late c.args.input.now) (record { unended = e; as_first = refl })).as_first

pub returns-clause-unended : goal.returns-clause-unended
returns-clause-unended g c = λ _ e. (c.loop-read.invariant.in_time (g.S.Source.read_late c.args.input.now) (record { unended = e; as_first = refl })).unended
