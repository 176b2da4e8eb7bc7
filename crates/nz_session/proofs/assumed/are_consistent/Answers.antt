use Rattle.std.proofs.Common.{false, get_or, refl, sym, ◌∙◌}
use Rattle.std.specs.Prelude.{nat_eq}
use Rattle.std.specs.HashMap.{get}
use Rattle.nz_term.specs.declared.term_lits.TermLit.{TermLit}
use Rattle.nz_session.proofs.OppositeLiterals.{denies_one, signs_more}
use Rattle.nz_session.proofs.assumed.are_consistent.Goals as goal

-- what stands where no literal does
abbrev none : TermLit
none = record { term = 0; sign = false }

pub returns-then-is_denied-clause-no : goal.returns-then-is_denied-clause-no
returns-then-is_denied-clause-no c =
    let ls = c.args.literals.now in
    let k = c.loop-literal.literal-index in
    λ e. denies_one (get nat_eq c.loop-literal.signs) ls k none (get_or ls k none) c.loop-literal-test.true refl (sym c.in_ok-before.ensures.old ∙ c.is_denied.ensures.denied c.if-is_denied.true) c.loop-literal.invariant.signs

pub loop-literal-preserved : goal.loop-literal-preserved
loop-literal-preserved c =
    let ls = c.args.literals.now in
    let k = c.loop-literal.literal-index in
    record {
      signs = signs_more (get nat_eq c.loop-literal.signs) (get nat_eq c.insert.new.self) ls k none (get_or ls k none) c.loop-literal-test.true refl
          (λ sign e. c.is_denied.ensures.agrees c.if-is_denied.false sign (c.in_ok-before.ensures.old ∙ e)) c.in_ok-before.ensures.updates.0 c.loop-literal.invariant.signs;
    }
