-- A redundant literal is resolved with the reason that makes it false.
use Rattle.std.proofs.Common.{◌≡◌, false, List, [], ◌∷◌, ◌++◌, refl, subst, rules}
use Rattle.std.specs.Prelude.{slice_set}
use Rattle.nz_log.specs.declared.lits.Lit.{Lit}
use Rattle.nz_log.specs.Logs.{literals_at}
use Rattle.nz_sat.specs.Conflicts.{MarksFalse}
use Rattle.nz_sat.proofs.ConflictChains.{reason_live}
use Rattle.nz_sat.proofs.Shortening.{shorter}
use Rattle.nz_sat.proofs.analyze.shorten.Goals as goal

pub clause-requires : goal.clause-requires
clause-requires c =
    let by = c.in-Some-its_reason.ensures.reason in
    record { live = reason_live c.args.log.now c.args.trail.now.entries c.requires.implied c.in-Some.atom by.entry c.in-Some-its_reason.clause by.is by.reason }

pub loop-atom-preserved-in-Continue-branch-2 : goal.loop-atom-preserved-in-Continue-branch-2
loop-atom-preserved-in-Continue-branch-2 c =
    let s = c.args.log.now in
    let es = c.args.trail.now.entries in
    let seen = c.loop-atom.seen in
    let new = c.mark.new.seen in
    let atom = c.in-Some.atom in
    let clause = c.in-Some-its_reason.clause in
    let literal = c.args.chain.literal in
    let redundant = c.in-Some-its_reason.redundant in
    let ks = c.loop-atom.links.items in
    let longer : c.push.new.self.items ≡ ks ++ record { clause = clause; literal = redundant } ∷ [] = search rules in
    let made : MarksFalse es (literals_at s clause) (slice_set seen atom false) new =
    subst (λ (l : List Lit). MarksFalse es l (slice_set seen atom false) new) c.clause.ensures.literals c.mark.ensures.marks.marks in
    shorter s c.args.trail.now.size es c.requires.order c.args.falsified seen (record { links = c.loop-atom.links; literal = literal }) c.loop-atom.invariant atom clause
    redundant c.in-Some-its_reason.ensures.reason c.tells_lits.ensures.tells c.requires.implied new made (record { links = c.push.new.self; literal = literal }) longer refl
