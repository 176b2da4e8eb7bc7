-- The terms of the literals so far are covered, and others may be that were before.
use Rattle.std.proofs.Common.{◌⊎◌, ℕ, List, take}
use Rattle.std.specs.Prelude.{All, Contains, IsSome}
use Rattle.nz_cform.specs.Forms.{covered_at}
use Rattle.nz_engine.specs.Checking.{AreCovered, terms_named}
use Rattle.nz_engine.specs.Keeping.{KeepsClauses}
use Rattle.nz_engine.specs.Preparing.{Extends, IsMadeOf, IsStanding}
use Rattle.nz_engine.proofs.prepared.Prepared.assume.Given as goal

abbrev pub invariant-loop-literal : goal.invariant-loop-literal
invariant-loop-literal l =
    record {
      more : List ℕ;
      all : All (Contains more) (terms_named l.assumed);
      standing : IsStanding l.terms l.levels more l.self;
      covered : AreCovered l.self (take l.literal-index l.assumed);
      made : (t : ℕ) → IsSome (covered_at l.self.form t) → IsSome (covered_at l.fn.self.form t) ⊎ IsMadeOf l.terms (terms_named l.assumed) t;
      extends : Extends l.fn.self l.self;
      keeps : KeepsClauses l.fn.self l.self;
    }
