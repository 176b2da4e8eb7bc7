use Rattle.std.proofs.Common.{sym, subst}
use Rattle.std.specs.Prelude.{All, Contains}
use Rattle.nz_spec.specs.clauses.Literal.{StandOnce}
use Rattle.nz_log.specs.declared.lits.Lit.{Lit}
use Rattle.nz_log.specs.Leveled.{AreToldAtoms}
use Rattle.nz_sat.specs.Sats.{AreConsistent, AreNamed, AreOn}
use Rattle.nz_sat_tests.proofs.HeldClauses.{joined_posed, posed_named, searched_posed, since_same}
use Rattle.nz_sat_tests.proofs.NotedAtoms.{names_begun}
use Rattle.nz_sat_tests.proofs.problem.Held.solve.Goals as goal

pub invariant_of-self : goal.invariant_of-self
invariant_of-self c = joined_posed c.self.inside.log c.lits_of.new.self c.self.inside.sat c.self.inside.atoms.items c.lits_of.ensures.joins c.self.invariant

pub invariant_of-self-in_err-note_question : goal.invariant_of-self-in_err-note_question
invariant_of-self-in_err-note_question c = joined_posed c.self.inside.log c.lits_of.new.self c.self.inside.sat c.self.inside.atoms.items c.lits_of.ensures.joins c.self.invariant

pub solve-requires-clause-since : goal.solve-requires-clause-since
solve-requires-clause-since c =
    let log = c.lits_of.new.self in
    let sat = c.self.inside.sat in
    let posed = joined_posed c.self.inside.log log sat c.self.inside.atoms.items c.lits_of.ensures.joins c.self.invariant in
    since_same log sat c.begin_anew.new.sat c.begin_anew.ensures.clauses c.begin_anew.ensures.seen posed.since

pub solve-requires-clause-named : goal.solve-requires-clause-named
solve-requires-clause-named c =
    let log = c.lits_of.new.self in
    let sat = c.self.inside.sat in
    let atoms = c.self.inside.atoms.items in
    let assumed = c.in_ok-literals.literals.items in
    let posed = joined_posed c.self.inside.log log sat atoms c.lits_of.ensures.joins c.self.invariant in
    let once = subst StandOnce c.deref.ensures.value c.in_ok-note_question.ensures.once in
    let among = subst (λ xs. All (λ (l : Lit). Contains xs l.atom) assumed) c.deref.ensures.value (subst (All (λ (l : Lit). Contains c.deref.result.now l.atom)) c.deref-2.ensures.value c.in_ok-note_question.ensures.among) in
    let begun = c.begin_anew.new.sat.clauses in
    subst (AreNamed log begun c.deref-4.result.now) (sym c.deref-3.ensures.value)
    (subst (λ ls. AreNamed log begun ls atoms) (sym c.deref-4.ensures.value)
    (subst (λ cs. AreNamed log cs assumed atoms) (sym c.begin_anew.ensures.clauses) (posed_named log sat atoms assumed posed among once)))

pub solve-requires-clause-told_terms : goal.solve-requires-clause-told_terms
solve-requires-clause-told_terms c =
    subst (AreToldAtoms c.lits_of.new.self) (sym c.deref-3.ensures.value)
    (joined_posed c.self.inside.log c.lits_of.new.self c.self.inside.sat c.self.inside.atoms.items c.lits_of.ensures.joins c.self.invariant).told

pub solve-requires-clause-consistent : goal.solve-requires-clause-consistent
solve-requires-clause-consistent c = subst AreConsistent (sym c.deref-4.ensures.value) (subst AreConsistent c.deref-2.ensures.value c.in_ok-note_question.ensures.consistent)

pub invariant_of-self-in_err-refuted : goal.invariant_of-self-in_err-refuted
invariant_of-self-in_err-refuted c =
    searched_posed c.lits_of.new.self c.solve.new.log c.begin_anew.new.sat c.solve.new.self c.self.inside.atoms.items
    (joined_posed c.self.inside.log c.lits_of.new.self c.self.inside.sat c.self.inside.atoms.items c.lits_of.ensures.joins c.self.invariant).told
    c.solve.ensures.grows c.solve.ensures.held c.solve.ensures.seen
    (subst (λ xs. AreOn c.solve.new.log xs c.solve.new.self.clauses) c.deref-3.ensures.value c.solve.ensures.named)

pub invariant_of-self-in_err-on_terms : goal.invariant_of-self-in_err-on_terms
invariant_of-self-in_err-on_terms c =
    searched_posed c.lits_of.new.self c.solve.new.log c.begin_anew.new.sat c.solve.new.self c.self.inside.atoms.items
    (joined_posed c.self.inside.log c.lits_of.new.self c.self.inside.sat c.self.inside.atoms.items c.lits_of.ensures.joins c.self.invariant).told
    c.solve.ensures.grows c.solve.ensures.held c.solve.ensures.seen
    (subst (λ xs. AreOn c.solve.new.log xs c.solve.new.self.clauses) c.deref-3.ensures.value c.solve.ensures.named)

pub invariant_of-self-2 : goal.invariant_of-self-2
invariant_of-self-2 c =
    searched_posed c.lits_of.new.self c.solve.new.log c.begin_anew.new.sat c.solve.new.self c.self.inside.atoms.items
    (joined_posed c.self.inside.log c.lits_of.new.self c.self.inside.sat c.self.inside.atoms.items c.lits_of.ensures.joins c.self.invariant).told
    c.solve.ensures.grows c.solve.ensures.held c.solve.ensures.seen
    (subst (λ xs. AreOn c.solve.new.log xs c.solve.new.self.clauses) c.deref-3.ensures.value c.solve.ensures.named)

pub solve-requires-clause-begun : goal.solve-requires-clause-begun
solve-requires-clause-begun c =
    names_begun c.lits_of.new.self c.deref-3.result.now c.begin_anew.new.sat.clauses c.note_question.new.work c.in_ok-note_question.ensures.notes
