use Rattle.nz_search.specs.Notes.{places_of}
use Rattle.nz_reals.proofs.TheoryStarts.{HasPlaces}
use Rattle.nz_reals.proofs.reals.Reals.places.Given as goal

abbrev pub invariant-loop-var : goal.invariant-loop-var
invariant-loop-var l = HasPlaces l.self.simplex l.var (places_of l.places.items)
