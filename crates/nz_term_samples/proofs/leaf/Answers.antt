-- A head has no arguments here.
use Rattle.std.proofs.Common.{◌≡◌, [], Option, Some, None, refl}
use Rattle.nz_spec.specs.terms.Term.{Constant, Head, constant_of}
use Rattle.nz_spec.specs.terms.Table.{HasItsArguments}
use Rattle.nz_term.specs.Heads.{head_of}
use Rattle.nz_term_samples.proofs.leaf.Goals as goal

without_arguments : (h : Head) (c : Option Constant) → constant_of h ≡ c → HasItsArguments h []
without_arguments h None e = rw (e, HasItsArguments) tt
without_arguments h (Some c) e = rw (e, HasItsArguments) refl

pub make-requires-clause-leaves : goal.make-requires-clause-leaves
make-requires-clause-leaves c = without_arguments (head_of c.args.head) (constant_of (head_of c.args.head)) refl
