-- The sum is made and rounded, and then the clause is put.
use Rattle.std.proofs.Common.{◌≡◌, ℕ, List, [], ◌∷◌, ◌++◌, Result, Ok, Err, refl, sym, ap, subst, ◌∙◌, rules}
use Rattle.std.specs.Prelude.{IfErr}
use Rattle.std.proofs.lemmas.Result.{err_from_is_err_and}
use Rattle.nz_base.specs.declared.errors.Memory.{Memory}
use Rattle.nz_spec.specs.clauses.Literal.{once}
use Rattle.nz_spec.specs.clauses.Steps.{cut_step}
use Rattle.nz_spec.specs.terms.Table.{Node, IsTable}
use Rattle.nz_term.specs.declared.stops.ArithmeticStop.{ArithmeticStop}
use Rattle.nz_term.specs.declared.stops.ArithmeticStop.TheVariants.{Wide}
use Rattle.nz_lin.specs.Bounds.{bound_over}
use Rattle.nz_term.specs.Stops.{IsStopAt}
use Rattle.nz_log.specs.declared.atoms.Atom.{Atom}
use Rattle.nz_log.specs.declared.lits.Lit.{Lit}
use Rattle.nz_log.specs.declared.multiples.LitMultiple.{LitMultiple}
use Rattle.nz_log.specs.Atoms.{AreAtoms, AreWithin}
use Rattle.nz_log.specs.Axioms.{AreMultiplesIn, IsClauseOf, cut_of, first_wide_in_step, multiples_in, negated_lits}
use Rattle.nz_log.specs.Lits.{are_same_lit}
use Rattle.nz_log.specs.Logs.{LogState, Puts, axiom_entry}
use Rattle.nz_log.specs.Sound.{IsLog}
use Rattle.nz_log.proofs.LiteralAgreement.{literals_agree}
use Rattle.nz_log.proofs.IntegerCuts.{cut_is, cut_limit_stops, cut_sorted, cut_sum_stops, cut_within, joined_stay}
use Rattle.nz_log.proofs.DroppedLevels.{joined_in_order}
use Rattle.nz_log.proofs.LiteralPreservation.{axiom_in_stays, axiom_in_wider}
use Rattle.nz_log.proofs.JoinedAtoms.{puts_after}
use Rattle.nz_log.proofs.OnlyJoined.{clause_only, last_joins}
use Rattle.nz_log.proofs.ArithmeticRules.{put_over_all}
use Rattle.nz_log.proofs.log.Log.cut.Goals as goal
use Rattle.nz_log.proofs.log.Log.cut.Goals.{In_ok-put_axiom}

abbrev lits : In_ok-put_axiom → List Lit
lits c = once are_same_lit (negated_lits c.args.multiples.now ++ c.in_ok-last.last ∷ [])

put : (c : In_ok-put_axiom) → Puts c.args.self.now c.in_ok-put_axiom.field-0 (axiom_entry c.put_axiom.new.self (cut_of c.args.multiples.now) (lits c)) c.put_axiom.new.self
put c =
    let mid = c.bound_literal.new.self in
    let new = c.put_axiom.new.self in
    let id = c.in_ok-put_axiom.field-0 in
    let last = c.in_ok-last.last in
    let literals : c.deref.result.now ≡ negated_lits c.args.multiples.now ++ last ∷ [] =
    c.deref.ensures.value ∙ c.in_ok-push.ensures.items ∙ ap (λ (ls : List Lit). ls ++ last ∷ []) c.in_ok-literals.ensures.literals in
    let multiples : c.in_ok-multiples.multiples.items ≡ c.args.multiples.now = search rules in
    puts_after c.args.self.now mid new id (axiom_entry new (cut_of c.args.multiples.now) (lits c)) c.in_ok-last.ensures.joins
    (subst (λ (ls : List Lit). Puts mid id (axiom_entry new (cut_of c.args.multiples.now) (once are_same_lit ls)) new) literals
    (subst (λ (ms : List LitMultiple). Puts mid id (axiom_entry new (cut_of ms) (once are_same_lit c.deref.result.now)) new) multiples c.in_ok-put_axiom.ensures.made))

over : (c : In_ok-put_axiom) (ns : List Node) → IsTable ns → AreMultiplesIn ns c.args.self.now.atoms c.args.multiples.now
    → IsClauseOf ns c.put_axiom.new.self.atoms (cut_of c.args.multiples.now) (lits c)
over c ns table within =
    let old = c.args.self.now.atoms in
    let mid = c.bound_literal.new.self.atoms in
    let ms = c.args.multiples.now in
    let agree = literals_agree c.tells_literals.ensures.tells c.one_number.ensures.one ns table mid c.in_ok-last.ensures.atoms in
    let summed = c.in_ok-sum.ensures.sum ns table within in
    subst (λ (atoms : List Atom). IsClauseOf ns atoms (cut_of ms) (lits c)) (sym c.in_ok-put_axiom.ensures.atoms)
    (cut_is ns (multiples_in ns old ms) (c.requires.multiples ns table within) (c.requires.integral ns table within) old mid c.in_ok-last.ensures.joins.atoms ms refl within
    c.in_ok-sum.sum c.with_limit.result c.in_ok-limit.limit c.in_ok-last.last summed.0 (c.in_ok-limit.ensures.rounded ns) (c.with_limit.ensures.literal ns) (c.in_ok-last.ensures.literal ns)
    (c.in_ok-last.ensures.within ns (c.with_limit.ensures.units ns summed.1)) agree)

pub returns-in_err-sum-clause-stop : goal.returns-in_err-sum-clause-stop
returns-in_err-sum-clause-stop c =
    let old = c.args.self.now.atoms in
    let ms = c.args.multiples.now in
    let stop = c.in_err-sum.field-0.0 in
    let error = err_from_is_err_and c.from_residual.result c.from_residual.ensures.1 in
    let all : (ns : List Node) → IsTable ns → AreMultiplesIn ns old ms → IsStopAt (first_wide_in_step ns (cut_step (multiples_in ns old ms))) stop =
    λ ns table within.
    cut_sum_stops ns (multiples_in ns old ms) (c.requires.multiples ns table within) (c.requires.integral ns table within) stop (c.in_err-sum.ensures.sum ns table within) in
    subst (λ (r : Result ℕ ArithmeticStop). IfErr r (λ st. (ns : List Node) → IsTable ns → AreMultiplesIn ns old ms → IsStopAt (first_wide_in_step ns (cut_step (multiples_in ns old ms))) st))
    (sym (error.1 ∙ ap Err error.2)) all

pub returns-in_err-limit-clause-stop : goal.returns-in_err-limit-clause-stop
returns-in_err-limit-clause-stop c =
    let old = c.args.self.now.atoms in
    let ms = c.args.multiples.now in
    let stop : ArithmeticStop = Wide c.in_err-limit.field-0.0 in
    let error = err_from_is_err_and c.from_residual-in_err-limit.result c.from_residual-in_err-limit.ensures.1 in
    let all : (ns : List Node) → IsTable ns → AreMultiplesIn ns old ms → IsStopAt (first_wide_in_step ns (cut_step (multiples_in ns old ms))) stop =
    λ ns table within.
    cut_limit_stops ns (multiples_in ns old ms) (c.requires.multiples ns table within) (c.requires.integral ns table within) (bound_over ns c.in_ok-sum.sum) stop
    (c.in_ok-sum.ensures.sum ns table within).0 (c.in_err-limit.ensures.rounded ns) in
    subst (λ (r : Result ℕ ArithmeticStop). IfErr r (λ st. (ns : List Node) → IsTable ns → AreMultiplesIn ns old ms → IsStopAt (first_wide_in_step ns (cut_step (multiples_in ns old ms))) st))
    (sym (error.1 ∙ ap Err error.2)) all

pub returns-in_err-push-clause-sound : goal.returns-in_err-push-clause-sound
returns-in_err-push-clause-sound c ns levels within sorted order =
    let joins = c.in_ok-last.ensures.joins in
    joined_in_order c.args.self.now c.bound_literal.new.self joins.entries joins.atoms c.in_ok-last.ensures.atoms ns levels order

pub returns-in_err-put_axiom-clause-sound : goal.returns-in_err-put_axiom-clause-sound
returns-in_err-put_axiom-clause-sound c ns levels within sorted order =
    let joins = c.in_ok-last.ensures.joins in
    subst (λ (s : LogState). IsLog ns levels s) (sym c.in_err-put_axiom.ensures.unchanged)
    (joined_in_order c.args.self.now c.bound_literal.new.self joins.entries joins.atoms c.in_ok-last.ensures.atoms ns levels order)

pub returns-clause-only : goal.returns-clause-only
returns-clause-only c =
    let here = (goal.at.returns-clause-only c).In_ok-put_axiom in
    let old = c.args.self.now.atoms in
    let mid = c.bound_literal.new.self in
    let negated = negated_lits c.args.multiples.now in
    let last = c.in_ok-last.last in
    let result : Result ℕ Memory = Ok c.in_ok-put_axiom.field-0 in
    clause_only old mid c.put_axiom.new.self c.args.self.now (negated ++ last ∷ []) (axiom_entry c.put_axiom.new.self (cut_of c.args.multiples.now) (lits here)) result
    (last_joins old mid.atoms negated last c.in_ok-last.ensures.only) c.in_ok-put_axiom.ensures.atoms refl (put here)

pub returns-clause-made : goal.returns-clause-made
returns-clause-made c =
    let here = (goal.at.returns-clause-made c).In_ok-put_axiom in
    record { literals = lits here; puts = put here; clause = over here }

pub returns-clause-sound : goal.returns-clause-sound
returns-clause-sound c ns levels within sorted order =
    let here = (goal.at.returns-clause-sound c).In_ok-put_axiom in
    let stays = c.term_stays.ensures.stays in
    let old = c.args.self.now.atoms in
    let mid = c.bound_literal.new.self.atoms in
    let ms = c.args.multiples.now in
    let stay = c.in_ok-last.ensures.joins.atoms in
    let back = sym c.in_ok-put_axiom.ensures.atoms in
    let inside = axiom_in_stays ns old mid stay (cut_of ms) within in
    let last = c.in_ok-last.ensures.within ns (c.with_limit.ensures.units ns (c.in_ok-sum.ensures.units ns within)) in
    let all : AreWithin ns mid (lits here) = cut_within ns mid ms c.in_ok-last.last inside last in
    let atoms : AreAtoms c.put_axiom.new.self.atoms = subst AreAtoms back c.in_ok-last.ensures.atoms in
    put_over_all stays ns levels c.args.self.now c.put_axiom.new.self c.in_ok-put_axiom.field-0 (cut_of ms) (lits here) (put here) atoms
    (subst (λ (list : List Atom). AreMultiplesIn ns list ms) back inside) (cut_sorted ns old c.put_axiom.new.self.atoms (joined_stay old mid c.put_axiom.new.self.atoms stay back) ms within sorted)
    (subst (λ (list : List Atom). AreWithin ns list (lits here)) back all)
    (λ more table. over here (ns ++ more) table (axiom_in_wider stays ns more old (cut_of ms) within)) order
