use Rattle.std.proofs.Common.{Ok, Err, refl}
use Rattle.nz_sexpr.specs.View.{view}
use Rattle.nz_script.specs.commands.Parse.{request_of}
use Rattle.nz_sort.proofs.CommandRules.{carried, broken, some_comes}
use Rattle.nz_sort.proofs.MemoryWants.{wants_memory}
use Rattle.nz_sort.proofs.live.Live.command.Goals as goal

pub returns-in-Ok-clause-accepted : goal.returns-in-Ok-clause-accepted
returns-in-Ok-clause-accepted c = λ s live.
    let t = view c.args.tree.now in
    carried c.args.terms.now c.carried_out.new.terms c.args.self.now c.carried_out.new.self t (request_of t) c.in-Ok.act s refl c.in-Ok.ensures.comes live

pub returns-in-Err-clause-refused : goal.returns-in-Err-clause-refused
returns-in-Err-clause-refused c =
    let t = view c.args.tree.now in
    broken c.args.terms.now c.carried_out.new.terms c.args.self.now c.carried_out.new.self t (request_of t) c.in-Err.refusal refl c.in-Err.ensures.comes

pub returns-in-Ok-clause-kept : goal.returns-in-Ok-clause-kept
returns-in-Ok-clause-kept c =
    let t = view c.args.tree.now in
    (some_comes c.args.terms.now c.carried_out.new.terms c.args.self.now c.carried_out.new.self t (request_of t) (Ok c.in-Ok.act) c.in-Ok.ensures.comes).2.kept

pub returns-in-Ok-clause-skipped_terms : goal.returns-in-Ok-clause-skipped_terms
returns-in-Ok-clause-skipped_terms c =
    let t = view c.args.tree.now in
    (some_comes c.args.terms.now c.carried_out.new.terms c.args.self.now c.carried_out.new.self t (request_of t) (Ok c.in-Ok.act) c.in-Ok.ensures.comes).2.skipped_terms

pub returns-in-Ok-clause-skipped : goal.returns-in-Ok-clause-skipped
returns-in-Ok-clause-skipped c =
    let t = view c.args.tree.now in
    (some_comes c.args.terms.now c.carried_out.new.terms c.args.self.now c.carried_out.new.self t (request_of t) (Ok c.in-Ok.act) c.in-Ok.ensures.comes).2.skipped

pub returns-in-Ok-clause-moves : goal.returns-in-Ok-clause-moves
returns-in-Ok-clause-moves c =
    let t = view c.args.tree.now in
    (some_comes c.args.terms.now c.carried_out.new.terms c.args.self.now c.carried_out.new.self t (request_of t) (Ok c.in-Ok.act) c.in-Ok.ensures.comes).2.moves

pub returns-in-Err-clause-unchanged : goal.returns-in-Err-clause-unchanged
returns-in-Err-clause-unchanged c =
    let t = view c.args.tree.now in
    (some_comes c.args.terms.now c.carried_out.new.terms c.args.self.now c.carried_out.new.self t (request_of t) (Err c.in-Err.refusal) c.in-Err.ensures.comes).2.unchanged

pub returns-in-Err-clause-memory : goal.returns-in-Err-clause-memory
returns-in-Err-clause-memory c = λ e. wants_memory (view c.args.tree.now) (c.in-Err.ensures.memory e)
