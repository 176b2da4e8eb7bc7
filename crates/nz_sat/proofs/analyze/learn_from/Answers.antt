-- The clause of the chain is in the log, and is the learned one.
use Rattle.std.proofs.Common.{◌<◌, List, length, subst, sym, ◌∙◌, All, Contains}
use Rattle.nz_log.specs.declared.lits.Lit.{Lit}
use Rattle.nz_log.specs.declared.origins.Link.{Link}
use Rattle.nz_log.specs.Atoms.{IsLitIn}
use Rattle.nz_log.specs.Logs.{Puts, chain_entry}
use Rattle.nz_sat.proofs.LearnedClauses.{IsAsserting, all_from, links_within, literals_are, literals_within, taught}
use Rattle.nz_sat.proofs.analyze.learn_from.Goals as goal

pub unmark-requires : goal.unmark-requires
unmark-requires c =
    let old = c.args.log.now in
    let new = c.chain.new.self in
    let es = c.args.trail.now.entries in
    let marks = c.shorten.new.seen in
    let chain = c.in_ok-links.field-0 in
    let puts : Puts old c.in_ok-clause.clause (chain_entry old c.args.falsified chain.links.items) new =
    subst (λ (ks : List Link). Puts old c.in_ok-clause.clause (chain_entry old c.args.falsified ks) new) c.deref.ensures.value c.in_ok-clause.ensures.made in
    let is = c.clause-literals.ensures.literals ∙ literals_are old new es c.args.falsified marks chain c.in_ok-links.ensures.chain c.in_ok-clause.clause puts in
    record {
      within = all_from (λ (m : Lit). m.atom < length marks) c.clause-literals.result.now
          (λ m has. literals_within old new es c.args.falsified marks chain c.in_ok-links.ensures.chain m (subst (λ (l : List Lit). Contains l m) is has));
    }

pub returns-clause-sound : goal.returns-clause-sound
returns-clause-sound c ns levels within order =
    let chain = c.in_ok-links.field-0 in
    c.in_ok-clause.ensures.sound ns levels
    (subst (λ (ks : List Link). All (λ (k : Link). IsLitIn ns c.args.log.now.atoms k.literal) ks) (sym c.deref.ensures.value)
    (links_within c.args.log.now c.args.trail.now.entries ns c.args.log.now.atoms chain.links.items within c.in_ok-links.ensures.chain.links))
    order

pub returns-clause-learned : goal.returns-clause-learned
returns-clause-learned c =
    let old = c.args.log.now in
    let new = c.chain.new.self in
    let es = c.args.trail.now.entries in
    let marks = c.shorten.new.seen in
    let chain = c.in_ok-links.field-0 in
    let puts : Puts old c.in_ok-clause.clause (chain_entry old c.args.falsified chain.links.items) new =
    subst (λ (ks : List Link). Puts old c.in_ok-clause.clause (chain_entry old c.args.falsified ks) new) c.deref.ensures.value c.in_ok-clause.ensures.made in
    let told = c.asserting.ensures in
    taught old new es c.args.falsified marks chain c.in_ok-links.ensures.chain c.in_ok-clause.clause puts c.tells_lits.ensures.tells c.requires.decided c.asserting.result
    (subst (λ (d : List Lit). IsAsserting es d c.in_ok-clause.clause chain.literal c.asserting.result) c.clause-literals.ensures.literals
    (record { clause = told.clause; literal = told.literal; kept = told.kept; others = told.others; beside = told.beside }))
