use Rattle.std.proofs.Common.{ap, inl}
use Rattle.nz_spec.specs.search.Work.{WorkList}
use Rattle.nz_search.specs.declared.note.Note.{Note}
use Rattle.nz_engine_tests.proofs.ToldLevels.{are_known, asserted_taken, numbers_taken}
use Rattle.nz_engine_tests.proofs.bench.ask.Goals as goal

pub check-requires-clause-known : goal.check-requires-clause-known
check-requires-clause-known c = are_known _ _ c.requires.ready.added

pub check-requires-clause-from : goal.check-requires-clause-from
check-requires-clause-from c = inl (ap (λ (w : WorkList Note). w.lines) c.in_ok-reserve.ensures.ok)

pub check-requires-clause-taken : goal.check-requires-clause-taken
check-requires-clause-taken c = asserted_taken _ c.requires.taken _ c.requires.ready.added

pub check-requires-clause-numbers_taken : goal.check-requires-clause-numbers_taken
check-requires-clause-numbers_taken c = numbers_taken _ c.requires.taken _ c.requires.ready.added
