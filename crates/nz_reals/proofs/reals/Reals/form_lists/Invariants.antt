use Rattle.std.proofs.Common.{◌≡◌, take}
use Rattle.nz_reals.proofs.TheoryStarts.{lists_of}
use Rattle.nz_reals.proofs.reals.Reals.form_lists.Given as goal

abbrev pub invariant-loop-var : goal.invariant-loop-var
invariant-loop-var l = lists_of l.forms.items ≡ take l.var l.self.simplex.forms
