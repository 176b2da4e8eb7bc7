use Rattle.std.proofs.Common.{rules, Err, IfErr, inl, ◌≡◌, ◌++◌, ◌<◌, ◌≤◌, false, length, get_or, take, sym, ◌∙◌, subst, arith}
use Rattle.std.specs.Prelude.{All, Contains, IsSome}
use Rattle.std.proofs.lemmas.List.{take_all, take_more}
use Rattle.std.proofs.lemmas.List.Elements.{All-contains, All-contains_itself, All-push, All-weaker, Contains-append_left, Contains-append_right, Contains-get_or}
use Rattle.nz_lists.proofs.Members.{map_has}
use Rattle.nz_spec.specs.terms.Taken.{IsTakenBoolean}
use Rattle.nz_spec.specs.terms.Table.{term_in}
use Rattle.nz_term.specs.declared.term_lits.TermLit.{TermLit}
use Rattle.nz_cform.specs.Forms.{covered_at}
use Rattle.nz_engine.specs.Checking.{AreCovered, IsRootStop, terms_named}
use Rattle.nz_engine.proofs.AssumptionLevels.{extends_both, extends_itself, made_then, standing_more}
use Rattle.nz_engine.proofs.KeptClauses.{keeps_both, keeps_itself}
use Rattle.nz_engine.proofs.NamedTerms.{all_named}
use Rattle.nz_engine.proofs.CheckEnds.{root_of}
use Rattle.nz_engine.proofs.prepared.Prepared.assume.Goals as goal

pub loop-literal-init : goal.loop-literal-init
loop-literal-init c =
    let named = terms_named c.args.assumed.now in
    let before = c.requires.stands.0 in
    record {
      more = before ++ named;
      all = All-weaker (Contains named) (Contains (before ++ named)) (λ t has. Contains-append_right before named t has) named (All-contains_itself named);
      standing = standing_more c.args.terms.now c.args.levels.now before (before ++ named) c.args.self.now (λ t has. Contains-append_left before named t has) c.requires.stands.1;
      covered = λ k d below. absurd (omega (arith, below));
      made = λ t some. inl some;
      extends = extends_itself c.args.self.now;
      keeps = keeps_itself c.args.self.now;
    }

pub assume_term-requires-clause-within : goal.assume_term-requires-clause-within
assume_term-requires-clause-within c =
    all_named (λ t. t < length c.args.terms.now) c.args.assumed.now c.requires.within c.loop-literal.literal-index (record { term = 0; sign = false }) c.loop-literal-test.true

pub assume_term-requires-clause-taken : goal.assume_term-requires-clause-taken
assume_term-requires-clause-taken c =
    (all_named (λ t. IsTakenBoolean (term_in c.args.terms.now t)) c.args.assumed.now c.requires.taken c.loop-literal.literal-index (record { term = 0; sign = false }) c.loop-literal-test.true).taken

pub loop-literal-preserved : goal.loop-literal-preserved
loop-literal-preserved c =
    let ns = c.args.terms.now in
    let assumed = c.args.assumed.now in
    let k = c.loop-literal.literal-index in
    let l : TermLit = get_or assumed k (record { term = 0; sign = false }) in
    let before = c.loop-literal.invariant in
    let did = c.in_ok-assume_term.ensures in
    let form = c.assume_term.new.self.form in
    let P : TermLit → Type 0 = λ m. IsSome (covered_at form m.term) in
    let taken = all_named (λ t. IsTakenBoolean (term_in ns t)) assumed c.requires.taken k (record { term = 0; sign = false }) c.loop-literal-test.true in
    let has = map_has (λ (m : TermLit). m.term) assumed l (Contains-get_or assumed k (record { term = 0; sign = false }) c.loop-literal-test.true) in
    record {
      more = before.more;
      all = before.all;
      standing = did.stands c.args.levels.now before.more
          (record {
            last = sym c.len-level.ensures.count;
            named = All-contains (Contains before.more) (terms_named assumed) l.term before.all has;
            taken = taken.taken;
            all = record { given = c.requires.all.given ∙ sym before.extends.given; numbered = c.requires.all.numbered ∙ sym before.extends.numbered };
            standing = before.standing;
          });
      covered = subst (All P) (sym (take_more assumed k (record { term = 0; sign = false }) c.loop-literal-test.true))
          (All-push P (take k assumed) l
          (All-weaker (λ (m : TermLit). IsSome (covered_at c.loop-literal.self.form m.term)) P (λ m some. did.extends.covered m.term some) (take k assumed) before.covered) did.covered);
      made = λ t some. made_then ns assumed l.term has t (IsSome (covered_at c.args.self.now.form t)) (IsSome (covered_at c.loop-literal.self.form t)) (before.made t) (did.made t some);
      extends = extends_both c.args.self.now c.loop-literal.self c.assume_term.new.self before.extends did.extends;
      keeps = keeps_both before.keeps did.keeps;
    }

pub returns-clause-stands : goal.returns-clause-stands
returns-clause-stands c = (c.loop-literal.invariant.more, c.loop-literal.invariant.standing)

pub returns-clause-covered : goal.returns-clause-covered
returns-clause-covered c =
    let assumed = c.args.assumed.now in
    let past : length assumed ≤ c.loop-literal.literal-index = omega (arith, c.loop-literal-test.false) in
    subst (AreCovered c.loop-literal.self) (take_all c.loop-literal.literal-index assumed past) c.loop-literal.invariant.covered

pub returns-in_err-assume_term-clause-stop : goal.returns-in_err-assume_term-clause-stop
returns-in_err-assume_term-clause-stop c =
    let same : Err c.in_err-assume_term.field-0.0 ≡ c.from_residual.result = search rules in
    let ns = c.args.terms.now in
    let assumed = c.args.assumed.now in
    let k = c.loop-literal.literal-index in
    let l : TermLit = get_or assumed k (record { term = 0; sign = false }) in
    let has : Contains (terms_named assumed) l.term = map_has (λ (m : TermLit). m.term) assumed l (Contains-get_or assumed k (record { term = 0; sign = false }) c.loop-literal-test.true) in
    subst (λ r. IfErr r (IsRootStop ns (terms_named assumed))) same (root_of ns (terms_named assumed) l.term c.in_err-assume_term.field-0.0 has c.in_err-assume_term.ensures.stop)
