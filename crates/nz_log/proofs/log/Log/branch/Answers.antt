-- The two literals are made, and then their clause is put.
use Rattle.std.proofs.Common.{◌≡◌, ℕ, List, [], ◌∷◌, ◌++◌, Result, Ok, Err, refl, sym, ap, subst, ◌∙◌}
use Rattle.std.specs.Prelude.{IfErr}
use Rattle.std.proofs.lemmas.Result.{err_from_is_err_and}
use Rattle.nz_base.specs.declared.errors.Memory.{Memory}
use Rattle.nz_spec.specs.clauses.Steps.{IsSortedStep, branch_step}
use Rattle.nz_spec.specs.terms.Table.{Node, IsTable}
use Rattle.nz_term.specs.declared.stops.ArithmeticStop.{ArithmeticStop}
use Rattle.nz_lin.specs.Bounds.{HasUnits, literal_over}
use Rattle.nz_lin.specs.Forms.{parts_over}
use Rattle.nz_term.specs.Stops.{IsStopAt}
use Rattle.nz_log.specs.declared.atoms.Atom.{Atom}
use Rattle.nz_log.specs.declared.atoms.Atom.TheVariants.{AtMost}
use Rattle.nz_log.specs.declared.lits.Lit.{Lit}
use Rattle.nz_log.specs.Atoms.{AreAtoms, AreWithin, IsLitIn, literal_in}
use Rattle.nz_log.specs.Axioms.{IsClauseOf, axiom_step, branch_of, first_wide_in_step}
use Rattle.nz_log.specs.Logs.{JoinsAtoms, LogState, Puts, axiom_entry}
use Rattle.nz_log.specs.Sound.{IsLog}
use Rattle.nz_log.proofs.LiteralAgreement.{literals_agree}
use Rattle.nz_log.proofs.IntegerBranches.{both_in, branch_over, branch_sorted, branch_stops, first_in, first_says, two_lits}
use Rattle.nz_log.proofs.DroppedLevels.{joined_in_order}
use Rattle.nz_log.proofs.LiteralPreservation.{atom_wider}
use Rattle.nz_log.proofs.JoinedAtoms.{joins_twice, puts_after}
use Rattle.nz_log.proofs.OnlyJoined.{clause_only, last_joins, lit_more}
use Rattle.nz_log.proofs.ArithmeticRules.{put_over_all}
use Rattle.nz_log.proofs.log.Log.branch.Goals as goal
use Rattle.nz_log.proofs.log.Log.branch.Goals.{In_ok-put_axiom}

abbrev m1 : In_ok-put_axiom → List Atom
m1 c = c.bound_literal.new.self.atoms

abbrev m2 : In_ok-put_axiom → List Atom
m2 c = c.bound_literal-2.new.self.atoms

abbrev lits : In_ok-put_axiom → List Lit
lits c =
    two_lits (m1 c) (m2 c) c.in_ok-second.ensures.joins.atoms c.args.bound c.in_ok-other.other c.in_ok-first.first c.in_ok-second.second c.in_ok-first.ensures.literal c.in_ok-first.ensures.within
    c.in_ok-second.ensures.literal c.in_ok-second.ensures.within c.in_ok-other.ensures.literal

-- what has joined before
joins : (c : In_ok-put_axiom) → JoinsAtoms c.args.self.now c.bound_literal-2.new.self
joins c = joins_twice c.args.self.now c.bound_literal.new.self c.bound_literal-2.new.self c.in_ok-first.ensures.joins c.in_ok-second.ensures.joins

put : (c : In_ok-put_axiom) → Puts c.args.self.now c.in_ok-put_axiom.field-0 (axiom_entry c.put_axiom.new.self (branch_of c.in_ok-first.first) (lits c)) c.put_axiom.new.self
put c =
    puts_after c.args.self.now c.bound_literal-2.new.self c.put_axiom.new.self c.in_ok-put_axiom.field-0 (axiom_entry c.put_axiom.new.self (branch_of c.in_ok-first.first) (lits c)) (joins c)
    c.in_ok-put_axiom.ensures.made

over : (c : In_ok-put_axiom) (ns : List Node) → IsTable ns → HasUnits ns c.args.bound → IsClauseOf ns c.put_axiom.new.self.atoms (branch_of c.in_ok-first.first) (lits c)
over c ns table units =
    let agree = literals_agree c.tells_literals.ensures.tells c.one_number.ensures.one ns table (m2 c) c.in_ok-second.ensures.atoms in
    subst (λ (atoms : List Atom). IsClauseOf ns atoms (branch_of c.in_ok-first.first) (lits c)) (sym c.in_ok-put_axiom.ensures.atoms)
    (branch_over (m1 c) (m2 c) c.in_ok-second.ensures.joins.atoms c.args.bound c.in_ok-other.other c.in_ok-first.first c.in_ok-second.second c.in_ok-first.ensures.literal c.in_ok-first.ensures.within
    c.in_ok-second.ensures.literal c.in_ok-second.ensures.within c.in_ok-other.ensures.literal c.requires.normal c.requires.integral c.requires.whole ns agree units)

says : (c : In_ok-put_axiom) (ns : List Node) → literal_in ns c.put_axiom.new.self.atoms c.in_ok-first.first ≡ literal_over ns c.args.bound
says c ns =
    subst (λ (atoms : List Atom). literal_in ns atoms c.in_ok-first.first ≡ literal_over ns c.args.bound) (sym c.in_ok-put_axiom.ensures.atoms)
    (first_says (m1 c) (m2 c) c.in_ok-second.ensures.joins.atoms c.args.bound c.in_ok-other.other c.in_ok-first.first c.in_ok-second.second c.in_ok-first.ensures.literal c.in_ok-first.ensures.within
    c.in_ok-second.ensures.literal c.in_ok-second.ensures.within c.in_ok-other.ensures.literal ns)

pub returns-in_err-other-clause-stop : goal.returns-in_err-other-clause-stop
returns-in_err-other-clause-stop c =
    let b = c.args.bound in
    let stop = c.in_err-other.field-0.0 in
    let error = err_from_is_err_and c.from_residual.result c.from_residual.ensures.1 in
    let all : (ns : List Node) → HasUnits ns b → IsStopAt (first_wide_in_step ns (branch_step (parts_over ns b.sides.parts) b.sides.offset)) stop =
    λ ns units. branch_stops (parts_over ns b.sides.parts) b.sides.offset (c.requires.integral ns units) c.requires.whole ns stop (c.in_err-other.ensures.literal ns units) in
    subst (λ (r : Result ℕ ArithmeticStop). IfErr r (λ st. (ns : List Node) → HasUnits ns b → IsStopAt (first_wide_in_step ns (branch_step (parts_over ns b.sides.parts) b.sides.offset)) st))
    (sym (error.1 ∙ ap Err error.2)) all

pub returns-in_err-second-clause-sound : goal.returns-in_err-second-clause-sound
returns-in_err-second-clause-sound c ns levels units sorted order =
    let joined = joins_twice c.args.self.now c.bound_literal.new.self c.bound_literal-2.new.self c.in_ok-first.ensures.joins c.in_err-second.ensures.joins in
    joined_in_order c.args.self.now c.bound_literal-2.new.self joined.entries joined.atoms c.in_err-second.ensures.atoms ns levels order

pub returns-in_err-put_axiom-clause-sound : goal.returns-in_err-put_axiom-clause-sound
returns-in_err-put_axiom-clause-sound c ns levels units sorted order =
    let joined = joins_twice c.args.self.now c.bound_literal.new.self c.bound_literal-2.new.self c.in_ok-first.ensures.joins c.in_ok-second.ensures.joins in
    subst (λ (s : LogState). IsLog ns levels s) (sym c.in_err-put_axiom.ensures.unchanged)
    (joined_in_order c.args.self.now c.bound_literal-2.new.self joined.entries joined.atoms c.in_ok-second.ensures.atoms ns levels order)

pub returns-clause-only : goal.returns-clause-only
returns-clause-only c =
    let here = (goal.at.returns-clause-only c).In_ok-put_axiom in
    let old = c.args.self.now.atoms in
    let first = c.in_ok-first.first in
    let second = c.in_ok-second.second in
    let result : Result ℕ Memory = Ok c.in_ok-put_axiom.field-0 in
    let only = lit_more old (m1 here) (m2 here) (first ∷ []) second (last_joins old (m1 here) [] first c.in_ok-first.ensures.only) c.in_ok-second.ensures.only in
    clause_only old c.bound_literal-2.new.self c.put_axiom.new.self c.args.self.now (first ∷ second ∷ []) (axiom_entry c.put_axiom.new.self (branch_of first) (lits here)) result only
    c.in_ok-put_axiom.ensures.atoms refl (put here)

pub returns-clause-made : goal.returns-clause-made
returns-clause-made c =
    let here = (goal.at.returns-clause-made c).In_ok-put_axiom in
    record { first = c.in_ok-first.first; literals = lits here; puts = put here; literal = says here; clause = over here }

pub returns-clause-sound : goal.returns-clause-sound
returns-clause-sound c ns levels units sorted order =
    let here = (goal.at.returns-clause-sound c).In_ok-put_axiom in
    let stays = c.term_stays.ensures.stays in
    let b = c.args.bound in
    let first = c.in_ok-first.first in
    let back = sym c.in_ok-put_axiom.ensures.atoms in
    let inside = subst (λ (atoms : List Atom). IsLitIn ns atoms first) back
    (first_in (m1 here) (m2 here) c.in_ok-second.ensures.joins.atoms b c.in_ok-other.other first c.in_ok-second.second c.in_ok-first.ensures.literal c.in_ok-first.ensures.within
    c.in_ok-second.ensures.literal c.in_ok-second.ensures.within c.in_ok-other.ensures.literal ns units) in
    let own = subst (λ (atoms : List Atom). IsSortedStep (axiom_step ns atoms (branch_of first))) back
    (branch_sorted (m1 here) (m2 here) c.in_ok-second.ensures.joins.atoms b c.in_ok-other.other first c.in_ok-second.second c.in_ok-first.ensures.literal c.in_ok-first.ensures.within
    c.in_ok-second.ensures.literal c.in_ok-second.ensures.within c.in_ok-other.ensures.literal ns sorted) in
    let within = subst (λ (atoms : List Atom). AreWithin ns atoms (lits here)) back
    (both_in (m1 here) (m2 here) c.in_ok-second.ensures.joins.atoms b c.in_ok-other.other first c.in_ok-second.second c.in_ok-first.ensures.literal c.in_ok-first.ensures.within
    c.in_ok-second.ensures.literal c.in_ok-second.ensures.within c.in_ok-other.ensures.literal ns units) in
    put_over_all stays ns levels c.args.self.now c.put_axiom.new.self c.in_ok-put_axiom.field-0 (branch_of first) (lits here) (put here) (subst AreAtoms back c.in_ok-second.ensures.atoms)
    inside own within (λ more table. over here (ns ++ more) table (atom_wider stays ns more (AtMost b) units)) order
