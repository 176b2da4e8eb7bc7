use Rattle.std.proofs.Common.{inl, inr, arith}
use Rattle.std.proofs.lemmas.List.{length-take}
use Rattle.nz_run.proofs.ReadOutcomes.{ended_broken, ended_cut, ended_run, fed_broken, fed_cut, fed_run, interrupted_run, read_on, reads_more, some_read, zero_ends}
use Rattle.nz_run.proofs.program.read_once.Goals as goal

pub returns-in-Err-clause-ended : goal.returns-in-Err-clause-ended
returns-in-Err-clause-ended g c =
    λ limit first held count small reading.
    interrupted_run g.E.Decide.levels g.E.Decide.table g.E.Decide.begins limit _ first _ held _ count reading (omega (arith, small)) _ c.in-Err.ensures.bytes

-- ---- The end of the input

pub returns-in-Going-clause-ended : goal.returns-in-Going-clause-ended
returns-in-Going-clause-ended g c =
    λ limit first held count small reading.
    ended_run g.E.Decide.levels g.E.Decide.table g.E.Decide.begins limit _ first _ held _ count reading small _ _ _ (rw c.if-count-eq0.true at c.in-Ok.ensures.bytes) (c.in-Ok.ensures.end (zero_ends c.in-Ok.count c.read.new.buf c.if-count-eq0.true (let a = c.read.auto.buf in omega arith))) (c.finish.ensures.written (inl c.in-Going.is) limit reading.read reading.serves) (c.finish.ensures.ended (inl c.in-Going.is) limit reading.read reading.serves)

pub returns-in-Exited-clause-ended : goal.returns-in-Exited-clause-ended
returns-in-Exited-clause-ended g c =
    λ limit first held count small reading.
    ended_run g.E.Decide.levels g.E.Decide.table g.E.Decide.begins limit _ first _ held _ count reading small _ _ _ (rw c.if-count-eq0.true at c.in-Ok.ensures.bytes) (c.in-Ok.ensures.end (zero_ends c.in-Ok.count c.read.new.buf c.if-count-eq0.true (let a = c.read.auto.buf in omega arith))) (c.finish.ensures.written (inr c.in-Exited.is) limit reading.read reading.serves) (c.finish.ensures.ended (inr c.in-Exited.is) limit reading.read reading.serves)

pub returns-in-Cut-clause-ended : goal.returns-in-Cut-clause-ended
returns-in-Cut-clause-ended g c =
    λ limit first held count small reading.
    ended_cut g.E.Decide.levels g.E.Decide.table g.E.Decide.begins limit _ first _ held _ count reading small _ _ _ (rw c.if-count-eq0.true at c.in-Ok.ensures.bytes) (c.in-Ok.ensures.end (zero_ends c.in-Ok.count c.read.new.buf c.if-count-eq0.true (let a = c.read.auto.buf in omega arith))) (c.finish.ensures.cut_written c.in-Cut.is limit reading.read reading.serves) (c.finish.ensures.cut c.in-Cut.is limit reading.read reading.serves)

pub returns-in-SinkFault-clause-ended : goal.returns-in-SinkFault-clause-ended
returns-in-SinkFault-clause-ended g c =
    λ limit first held count small reading.
    ended_broken g.E.Decide.levels g.E.Decide.table g.E.Decide.begins limit _ first _ held _ count reading small _ _ _ (rw c.if-count-eq0.true at c.in-Ok.ensures.bytes) (c.in-Ok.ensures.end (zero_ends c.in-Ok.count c.read.new.buf c.if-count-eq0.true (let a = c.read.auto.buf in omega arith))) (c.finish.ensures.broken_off c.in-SinkFault.is limit reading.read reading.serves)

-- ---- A piece

pub returns-in-Going-feed-clause-going : goal.returns-in-Going-feed-clause-going
returns-in-Going-feed-clause-going g c =
    λ limit first held count small reading.
    reads_more g.E.Decide.levels g.E.Decide.table g.E.Decide.begins limit _ first _ held _ count reading _ _ _ _ c.in-Ok.ensures.bytes (let a = c.read.auto.buf in let b = c.in-Ok.ensures.bound in let d = c.if-count-eq0.false in omega (arith, length-take c.in-Ok.count c.read.new.buf)) (let a = c.read.auto.buf in let b = c.in-Ok.ensures.bound in omega (arith, length-take c.in-Ok.count c.read.new.buf))
    (c.feed.ensures.going c.in-Going-feed.is limit reading.read reading.serves) (c.feed.ensures.written (inl c.in-Going-feed.is) limit reading.read reading.serves)

pub returns-in-Going-feed-clause-still : goal.returns-in-Going-feed-clause-still
returns-in-Going-feed-clause-still g c =
    λ first h.
    read_on (g.S.Source.has_ended c.args.input.now) (g.S.Source.read_late c.args.input.now) first (g.S.Source.has_ended c.read.new.self) (g.S.Source.read_late c.read.new.self) _
    c.in-Ok.ensures.ended c.read.ensures.late (some_read c.in-Ok.count c.read.new.buf c.if-count-eq0.false) h

pub returns-in-Exited-feed-clause-ended : goal.returns-in-Exited-feed-clause-ended
returns-in-Exited-feed-clause-ended g c =
    λ limit first held count small reading.
    fed_run g.E.Decide.levels g.E.Decide.table g.E.Decide.begins limit _ first _ held _ count reading small _ _ _ _ c.in-Ok.ensures.bytes (let a = c.read.auto.buf in let b = c.in-Ok.ensures.bound in omega (arith, length-take c.in-Ok.count c.read.new.buf)) (c.feed.ensures.written (inr c.in-Exited-feed.is) limit reading.read reading.serves) (c.feed.ensures.exited c.in-Exited-feed.is limit reading.read reading.serves)

pub returns-in-Cut-feed-clause-ended : goal.returns-in-Cut-feed-clause-ended
returns-in-Cut-feed-clause-ended g c =
    λ limit first held count small reading.
    fed_cut g.E.Decide.levels g.E.Decide.table g.E.Decide.begins limit _ first _ held _ count reading small _ _ _ _ c.in-Ok.ensures.bytes (let a = c.read.auto.buf in let b = c.in-Ok.ensures.bound in omega (arith, length-take c.in-Ok.count c.read.new.buf)) (c.feed.ensures.cut_written c.in-Cut-feed.is limit reading.read reading.serves) (c.feed.ensures.cut c.in-Cut-feed.is limit reading.read reading.serves)

pub returns-in-SinkFault-feed-clause-ended : goal.returns-in-SinkFault-feed-clause-ended
returns-in-SinkFault-feed-clause-ended g c =
    λ limit first held count small reading.
    fed_broken g.E.Decide.levels g.E.Decide.table g.E.Decide.begins limit _ first _ held _ count reading small _ _ _ _ c.in-Ok.ensures.bytes (let a = c.read.auto.buf in let b = c.in-Ok.ensures.bound in omega (arith, length-take c.in-Ok.count c.read.new.buf)) (c.feed.ensures.broken_off c.in-SinkFault-feed.is limit reading.read reading.serves)
