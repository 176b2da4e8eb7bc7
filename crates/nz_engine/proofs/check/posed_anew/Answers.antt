use Rattle.std.proofs.Common.{◌≡◌, ◌<◌, ◌++◌, [], IfErr, length, sym, subst, ◌∙◌}
use Rattle.std.proofs.lemmas.List.Elements.{All-from_recursion, All-map, Contains-append_left, Contains-append_right}
use Rattle.nz_spec.specs.search.Decide.{asserted_numbers}
use Rattle.nz_spec.specs.terms.Taken.{IsTakenBoolean}
use Rattle.nz_spec.specs.terms.Table.{term_in}
use Rattle.nz_term.specs.declared.term_lits.TermLit.{TermLit}
use Rattle.nz_reals.specs.Stands.{IsOver}
use Rattle.nz_reals.specs.State.{Theory}
use Rattle.nz_search.specs.Levels.{added_by_level}
use Rattle.nz_engine.specs.Checking.{IsRootStop, terms_named}
use Rattle.nz_engine.specs.Engines.{theory_of}
use Rattle.nz_engine.proofs.KeptClauses.{lowered_then}
use Rattle.nz_engine.proofs.KeptState.{kept_rest, over_grown}
use Rattle.nz_engine.proofs.KeptTheory.{all_extends}
use Rattle.nz_engine.proofs.CheckEnds.{root_more, same_error}
use Rattle.nz_engine.proofs.LevelPreservation.{standing}
use Rattle.nz_engine.proofs.SearchAtoms.{covered_by, prepared_among}
use Rattle.nz_engine.proofs.check.posed_anew.Goals as goal

pub add_terms-requires-clause-stands : goal.add_terms-requires-clause-stands
add_terms-requires-clause-stands c = c.in_ok-prepared.ensures.stands c.requires.kept.0 c.args.terms.now c.requires.kept.1 c.requires.kept.2

pub assume-requires-clause-within : goal.assume-requires-clause-within
assume-requires-clause-within c =
    let n = length c.args.terms.now in
    All-map (λ t. t < n) (λ (l : TermLit). l.term) c.args.assumed.now (All-from_recursion (λ (l : TermLit). l.term < n) c.args.assumed.now c.requires.within)

pub assume-requires-clause-taken : goal.assume-requires-clause-taken
assume-requires-clause-taken c = All-map (λ t. IsTakenBoolean (term_in c.args.terms.now t)) (λ (l : TermLit). l.term) c.args.assumed.now c.requires.assumed_taken

pub returns-clause-posed : goal.returns-clause-posed
returns-clause-posed c =
    let ns = c.args.terms.now in
    let n = length ns in
    let same : c.assume.new.self.sat.theory ≡ theory_of c.args.kept = c.assume.ensures.theory ∙ c.add_terms.ensures.theory ∙ c.in_ok-prepared.ensures.theory in
    record {
      table = c.known_table.ensures.table;
      over = subst (λ (t : Theory). IsOver t ns) (sym same)
          (over_grown c.theories_restart.ensures.restart c.requires.kept.0 ns (theory_of c.args.kept) c.requires.kept.1 c.known_table.ensures.table
          (kept_rest c.requires.kept.0 c.args.levels.now c.args.kept c.requires.kept.2).over);
      more = c.in_ok-assume.ensures.stands.0;
      standing = c.in_ok-assume.ensures.stands.1;
      all = all_extends c.in_ok-assume.ensures.extends c.in_ok-add_terms.ensures.all;
      assumed_covered = c.in_ok-assume.ensures.covered;
      taken = c.requires.taken;
      assumed_taken = All-map (λ t. IsTakenBoolean (term_in c.args.terms.now t)) (λ (l : TermLit). l.term) c.args.assumed.now c.requires.assumed_taken;
      assumed_within = All-map (λ t. t < n) (λ (l : TermLit). l.term) c.args.assumed.now (All-from_recursion (λ (l : TermLit). l.term < n) c.args.assumed.now c.requires.within);
    }

pub returns-clause-theory : goal.returns-clause-theory
returns-clause-theory c = c.assume.ensures.theory ∙ c.add_terms.ensures.theory ∙ c.in_ok-prepared.ensures.theory

pub returns-in_err-add_terms-clause-stop : goal.returns-in_err-add_terms-clause-stop
returns-in_err-add_terms-clause-stop c =
    let same = same_error c.from_residual-in_err-add_terms.result c.in_err-add_terms.field-0.0 c.from_residual-in_err-add_terms.ensures.1 in
    let ns = c.args.terms.now in
    let added = asserted_numbers (added_by_level c.args.levels.now) in
    let assumed = terms_named c.args.assumed.now in
    subst (λ r. IfErr r (IsRootStop ns (added ++ assumed))) same
    (root_more ns added (added ++ assumed) c.in_err-add_terms.field-0.0 (λ r has. Contains-append_left added assumed r has) c.in_err-add_terms.ensures.stop)

pub returns-in_err-assume-clause-stop : goal.returns-in_err-assume-clause-stop
returns-in_err-assume-clause-stop c =
    let same = same_error c.from_residual-in_err-assume.result c.in_err-assume.field-0.0 c.from_residual-in_err-assume.ensures.1 in
    let ns = c.args.terms.now in
    let added = asserted_numbers (added_by_level c.args.levels.now) in
    let assumed = terms_named c.args.assumed.now in
    subst (λ r. IfErr r (IsRootStop ns (added ++ assumed))) same
    (root_more ns assumed (added ++ assumed) c.in_err-assume.field-0.0 (λ r has. Contains-append_right added assumed r has) c.in_err-assume.ensures.stop)

pub assume-requires-clause-stands : goal.assume-requires-clause-stands
assume-requires-clause-stands c = ([], standing c.args.terms.now c.args.levels.now [] c.add_terms.new.self c.in_ok-add_terms.ensures.stands)

pub returns-clause-among : goal.returns-clause-among
returns-clause-among c = λ ts listed.
    covered_by c.args.terms.now c.args.levels.now c.args.assumed.now c.add_terms.new.self c.assume.new.self ts listed (prepared_among c.args.assumed.now c.in_ok-add_terms.ensures.stands ts listed) c.in_ok-assume.ensures.made

pub returns-clause-keeps : goal.returns-clause-keeps
returns-clause-keeps c = lowered_then (lowered_then c.in_ok-prepared.ensures.keeps c.in_ok-add_terms.ensures.keeps) c.in_ok-assume.ensures.keeps
