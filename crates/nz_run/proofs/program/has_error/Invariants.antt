-- None of the replies so far is one.
use Rattle.std.proofs.Common.{◌≡◌, false, List, take}
use Rattle.std.specs.List.{list_any}
use Rattle.nz_spec.specs.terms.Table.{Node}
use Rattle.nz_script.specs.run.Run.{is_error}
use Rattle.nz_reply.specs.Replies.{all_kept}
use Rattle.nz_run.proofs.program.has_error.Given as goal

abbrev pub invariant-loop-kept : goal.invariant-loop-kept
invariant-loop-kept l = (ns : List Node) → list_any is_error (all_kept ns (take l.kept-index l.kept)) ≡ false
