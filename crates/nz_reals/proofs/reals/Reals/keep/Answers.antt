use Rattle.std.proofs.Common.{◌≡◌, ◌==◌, ◌<◌, ℕ, [], Some, length, sym, ap, ◌∙◌, subst, if◌then◌else◌}
use Rattle.std.specs.Prelude.{OnOk}
use Rattle.nz_reals.specs.Known.{known_of}
use Rattle.nz_reals.specs.State.{Theory, known_among, known_at, told_lits}
use Rattle.nz_reals.proofs.KnownPlaces.{known_cases}
use Rattle.nz_reals.proofs.JoinedForms.{kept_tolds}
use Rattle.nz_reals.proofs.reals.Reals.keep.Goals as goal

pub invariant_of-self : goal.invariant_of-self
invariant_of-self c =
    let old : Theory = record { simplex = c.self.inside.simplex; known = c.self.inside.bounded; told = c.self.inside.told.items } in
    let new : Theory = record { simplex = c.self.inside.simplex; known = c.put.new.self; told = c.self.inside.told.items } in
    let none : told_lits old ≡ [] = ap told_lits c.self.view_is ∙ c.requires.untold in
    let less : c.args.bounded.var < length old.simplex.forms = subst (λ (t : Theory). c.args.bounded.var < length t.simplex.forms) (sym c.self.view_is) c.requires.form in (
      record {
        forms = c.self.invariant.0.forms;
        finds = c.self.invariant.0.finds;
        tolds = kept_tolds old new (λ i. old.simplex) (λ i. old.told) none c.self.invariant.0.tolds
            (known_cases c.args.id c.args.bounded c.self.inside.bounded c.put.new.self (length old.simplex.forms) less c.put.result c.put.ensures.put c.put.ensures.unchanged);
      },
      c.self.invariant.1,
    )

pub returns-clause-kept : goal.returns-clause-kept
returns-clause-kept c =
    subst (λ (t : Theory). OnOk c.put.result ((i : ℕ) → known_among c.put.new.self i ≡ (if i == c.args.id then Some (known_of c.args.bounded) else known_at t i))) c.self.view_is c.put.ensures.put
