-- What is assumed is covered beside what was.
use Rattle.std.proofs.Common.{◌⊎◌, ℕ, ◌<◌, ◌++◌, IfErr, length, sym, subst}
use Rattle.std.proofs.lemmas.List.Elements.{All-from_recursion, All-map, Contains-append_right}
use Rattle.nz_spec.specs.search.Decide.{asserted_numbers}
use Rattle.nz_spec.specs.terms.Taken.{IsTakenBoolean}
use Rattle.nz_spec.specs.terms.Table.{term_in}
use Rattle.nz_term.specs.declared.term_lits.TermLit.{TermLit}
use Rattle.nz_reals.specs.Stands.{IsOver}
use Rattle.nz_reals.specs.State.{Theory}
use Rattle.nz_search.specs.Levels.{added_by_level}
use Rattle.nz_engine.specs.Checking.{IsRootStop, terms_named}
use Rattle.nz_engine.specs.Engines.{prepared_of}
use Rattle.nz_engine.specs.Keeping.{KeepsClauses}
use Rattle.nz_engine.specs.Preparing.{Extends, IsAllAdded, IsMadeOf, PreparedState}
use Rattle.nz_cform.specs.Forms.{covered_at}
use Rattle.std.specs.Prelude.{IsSome}
use Rattle.nz_engine.proofs.KeptState.{kept_rest}
use Rattle.nz_engine.proofs.KeptTheory.{all_extends}
use Rattle.nz_engine.proofs.CheckEnds.{root_more, same_error}
use Rattle.nz_engine.proofs.SearchAtoms.{covered_by}
use Rattle.nz_engine.proofs.check.posed_on.Goals as goal

pub assume-requires-clause-within : goal.assume-requires-clause-within
assume-requires-clause-within c =
    let n = length c.args.terms.now in
    All-map (λ t. t < n) (λ (l : TermLit). l.term) c.args.assumed.now (All-from_recursion (λ (l : TermLit). l.term < n) c.args.assumed.now c.requires.within)

pub assume-requires-clause-taken : goal.assume-requires-clause-taken
assume-requires-clause-taken c = All-map (λ t. IsTakenBoolean (term_in c.args.terms.now t)) (λ (l : TermLit). l.term) c.args.assumed.now c.requires.assumed_taken

pub assume-requires-clause-stands : goal.assume-requires-clause-stands
assume-requires-clause-stands c = c.in_ok-prepared.ensures.stands c.args.terms.now c.args.levels.now c.requires.kept

pub assume-requires-clause-all : goal.assume-requires-clause-all
assume-requires-clause-all c = subst (λ (p : PreparedState). IsAllAdded c.args.levels.now p) (sym c.in_ok-prepared.ensures.same) c.requires.all

pub returns-clause-posed : goal.returns-clause-posed
returns-clause-posed c =
    let ns = c.args.terms.now in
    let n = length ns in
    let x = subst (λ (p : PreparedState). Extends p c.assume.new.self) c.in_ok-prepared.ensures.same c.in_ok-assume.ensures.extends in
    record {
      table = c.known_table.ensures.table;
      over = subst (λ (t : Theory). IsOver t ns) (sym x.theory) (kept_rest ns c.args.levels.now c.args.kept c.requires.kept).over;
      more = c.in_ok-assume.ensures.stands.0;
      standing = c.in_ok-assume.ensures.stands.1;
      all = all_extends x c.requires.all;
      assumed_covered = c.in_ok-assume.ensures.covered;
      taken = c.requires.taken;
      assumed_taken = All-map (λ t. IsTakenBoolean (term_in c.args.terms.now t)) (λ (l : TermLit). l.term) c.args.assumed.now c.requires.assumed_taken;
      assumed_within = All-map (λ t. t < n) (λ (l : TermLit). l.term) c.args.assumed.now (All-from_recursion (λ (l : TermLit). l.term < n) c.args.assumed.now c.requires.within);
    }

pub returns-clause-among : goal.returns-clause-among
returns-clause-among c = λ ts listed among.
    let made = subst (λ (p : PreparedState). (t : ℕ) → IsSome (covered_at c.assume.new.self.form t) → IsSome (covered_at p.form t) ⊎ IsMadeOf c.args.terms.now (terms_named c.args.assumed.now) t) c.in_ok-prepared.ensures.same
    c.in_ok-assume.ensures.made in
    covered_by c.args.terms.now c.args.levels.now c.args.assumed.now (prepared_of c.args.kept) c.assume.new.self ts listed among made

pub returns-clause-extends : goal.returns-clause-extends
returns-clause-extends c = subst (λ (p : PreparedState). Extends p c.assume.new.self) c.in_ok-prepared.ensures.same c.in_ok-assume.ensures.extends

pub returns-in_err-assume-clause-stop : goal.returns-in_err-assume-clause-stop
returns-in_err-assume-clause-stop c =
    let same = same_error c.from_residual-in_err-assume.result c.in_err-assume.field-0.0 c.from_residual-in_err-assume.ensures.1 in
    let ns = c.args.terms.now in
    let added = asserted_numbers (added_by_level c.args.levels.now) in
    let named = terms_named c.args.assumed.now in
    subst (λ r. IfErr r (IsRootStop ns (added ++ named))) same
    (root_more ns named (added ++ named) c.in_err-assume.field-0.0 (λ r has. Contains-append_right added named r has) c.in_err-assume.ensures.stop)

pub returns-clause-keeps : goal.returns-clause-keeps
returns-clause-keeps c = subst (λ (p : PreparedState). KeepsClauses p c.assume.new.self) c.in_ok-prepared.ensures.same c.in_ok-assume.ensures.keeps
