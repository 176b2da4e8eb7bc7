use Rattle.std.proofs.Common.{[], map, take}
use Rattle.nz_script.specs.live.Live.{State}
use Rattle.nz_script.specs.commands.Script.{scope_of}
use Rattle.nz_command.specs.Requests.{assumption_view}
use Rattle.nz_elaborate.specs.Names.{IsScope}
use Rattle.nz_elaborate.specs.Typed.{Grows}
use Rattle.nz_sort.specs.Found.{HasFound}
use Rattle.nz_sort.proofs.assuming.assumed.Given as goal

-- what is found of those so far
abbrev pub invariant-loop-assumption : goal.invariant-loop-assumption
invariant-loop-assumption l = record {
  grows : Grows l.fn.terms l.terms;
  found : (s : State) → IsScope l.fn.terms l.names [] (scope_of s) → HasFound s (map assumption_view (take l.assumption-index l.assumptions)) l.terms l.found;
}
