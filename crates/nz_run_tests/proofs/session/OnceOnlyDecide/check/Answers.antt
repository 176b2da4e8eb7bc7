-- Where it was asked before, nothing more is noted.
use Rattle.std.proofs.Common.{inl, inr, refl, subst, sym, arith}
use Rattle.nz_search.specs.Notes.{AreNotedWithin}
use Rattle.nz_run_tests.proofs.session.OnceOnlyDecide.check.Goals as goal

pub returns-then-self-clause-legal : goal.returns-then-self-clause-legal
returns-then-self-clause-legal c q asked stands = c.engines_stand.ensures.stand.legal c.args.self.now.engine c.args.terms.now q c.args.work.now stands asked.goes_on.few

pub returns-then-self-clause-named : goal.returns-then-self-clause-named
returns-then-self-clause-named c =
    let ns = c.args.terms.now in
    elim c.requires.from [
      | inl none ↦ subst (AreNotedWithin ns) (sym none) tt
      | inr some ↦ c.engines_stand.ensures.stand.within c.args.self.now.engine ns some.0 c.args.work.now some.2
    ]

pub returns-then-self-clause-more : goal.returns-then-self-clause-more
returns-then-self-clause-more c = record { begun = omega arith; found = refl }

pub returns-then-self-clause-begins : goal.returns-then-self-clause-begins
returns-then-self-clause-begins c q us asked stands without into =
    c.engines_stand.ensures.stand.begins c.args.self.now.engine c.args.terms.now q us c.args.work.now stands into
