use Rattle.std.proofs.Common.{◌≡◌, ℕ, ◌<◌, List, get_or, All}
use Rattle.nz_log.specs.declared.lits.Lit.{Lit}
use Rattle.nz_sat.specs.declared.clauses.Held.{Held}
use Rattle.nz_sat.specs.Clauses.{IsAssumed}
use Rattle.nz_sat.specs.Searching.{IsReady, IsSearch}
use Rattle.nz_sat.specs.Trails.{IsTrueOn, depth}
use Rattle.nz_sat.proofs.search.Search.assume_all.Given as goal

-- the assumed literals so far are true
abbrev pub invariant-loop-literal : goal.invariant-loop-literal
invariant-loop-literal l =
    record {
      rest : l.self ≡ record l.fn.self { trail = l.self.trail; propagation = l.self.propagation };
      search : (held : List Held) → IsSearch l.log held l.fn.self → IsSearch l.log held l.self;
      assumed_only : All (IsAssumed l.assumed) l.self.trail.entries;
      undecided : depth l.self.trail.entries ≡ 0;
      hold : (k : ℕ) (d : Lit) → k < l.literal-index → IsTrueOn l.self.trail.entries (get_or l.assumed k d);
      ready : IsReady l.log l.self;
    }
