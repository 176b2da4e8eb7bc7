use Rattle.std.proofs.Common.{◌≡◌, List, Result, Ok, Err, IfOk, OnErr, sym, subst}
use Rattle.nz_sexpr.specs.View.{view}
use Rattle.nz_script.specs.text.Tree.{Tree}
use Rattle.nz_spec.specs.terms.Table.{Node}
use Rattle.nz_script.specs.commands.Request.{Request}
use Rattle.nz_script.specs.live.Live.{State}
use Rattle.nz_script.specs.commands.Command.{Outcome}
use Rattle.nz_script.specs.commands.Script.{outcome_of}
use Rattle.nz_script.specs.replies.Reply.{quiet}
use Rattle.nz_script.specs.replies.Right.{effect}
use Rattle.nz_base.specs.declared.reply_errors.Error.{Error}
use Rattle.nz_sort.specs.Acts.{asked}
use Rattle.nz_sort.specs.declared.acts.Act.{Act}
use Rattle.nz_sort.specs.Live.{Standing, IsLive, IsCarriedOut, Leaves, Ask, check, unsupported}
use Rattle.nz_sort_tests.proofs.trial.Trial.carry_out.Goals as goal

-- something is live after a command that isn't refused
left_live : (s : State) (r : Request) (outcome : Outcome) (ask : Ask) (ns : List Node) (standing : Standing) → Leaves s r outcome ask ns standing → (u : State) × IsLive ns standing u
left_live s r outcome (check xs) ns standing h = (effect s h.0.command quiet, h.0.live quiet)
left_live s r outcome unsupported ns standing h = (s, h.live)
left_live s r outcome ask ns standing h = (effect s h.command quiet, h.live quiet)

-- and after one that is refused
after_command : (r : Result Act Error) (s : State) (tree : Tree) (old new : List Node) (before after : Standing) → IsLive old before s
    → IfOk r (λ act. (u : State) → IsLive old before u → IsCarriedOut u tree (asked act) new after) → OnErr r (new ≡ old) → OnErr r (after ≡ before) → (u : State) × IsLive new after u
after_command (Ok act) s tree old new before after live accepted terms same =
    let carried = accepted s live in
    left_live s carried.request (outcome_of s tree) (asked act) new after carried.leaves
after_command (Err error) s tree old new before after live accepted terms same =
    (s, subst (λ ns. IsLive ns after s) (sym terms) (subst (λ standing. IsLive old standing s) (sym same) live))

pub invariant_of-self : goal.invariant_of-self
invariant_of-self c =
    after_command c.command.result c.self.invariant.0 (view c.args.tree.now) _ _ _ _ c.self.invariant.1
    c.command.ensures.accepted c.command.ensures.unchanged_terms c.command.ensures.unchanged
