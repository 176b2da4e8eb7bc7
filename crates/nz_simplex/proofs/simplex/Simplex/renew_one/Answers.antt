-- A value that isn't known is that of a basic form, and is known from now on.
use Rattle.std.proofs.Common.{true≢false, sym, ◌∙◌, refl}
use Rattle.std.specs.Prelude.{IsSome}
use Rattle.nz_simplex.specs.State.{value_in}
use Rattle.nz_simplex.proofs.RenewedValues.{basic_form, none_known, renewed_at}
use Rattle.nz_simplex.proofs.StoredStates.{stored_again}
use Rattle.nz_simplex.proofs.simplex.Simplex.renew_one.Goals as goal

pub computed-requires : goal.computed-requires
computed-requires g c =
    let none : IsSome (value_in c.args.self.now c.args.var) → ⊥ = λ some. true≢false (sym (c.has_value.ensures.known.1 some) ∙ c.if-has_value.false) in
    record {
      known = c.requires.known;
      basic = basic_form c.args.self.now c.known_state.ensures.sound c.args.var none;
      unknown = none_known (value_in c.args.self.now c.args.var) none;
    }

pub invariant_of-self : goal.invariant_of-self
invariant_of-self g c =
    let x = c.self.inside in
    let stored = c.self.invariant in
    let after =
    renewed_at g.S.Coordinate.stands_for x.tab x.trail x.values.items x.why.items c.args.var c.in_ok-value.value c.args.self.now c.self.view_is stored.sound c.requires.known
    (λ some. true≢false (sym (c.has_value.ensures.known.1 some) ∙ c.if-has_value.false)) c.in_ok-value.ensures.value in
    stored_again stored after.sound refl stored.basic_listed stored.nonbasic_listed refl refl refl

pub returns-clause-renewed : goal.returns-clause-renewed
returns-clause-renewed g c =
    let x = c.self.inside in
    (renewed_at g.S.Coordinate.stands_for x.tab x.trail x.values.items x.why.items c.args.var c.in_ok-value.value c.args.self.now c.self.view_is c.self.invariant.sound c.requires.known
    (λ some. true≢false (sym (c.has_value.ensures.known.1 some) ∙ c.if-has_value.false)) c.in_ok-value.ensures.value).renewed

pub returns-clause-valued : goal.returns-clause-valued
returns-clause-valued g c =
    let x = c.self.inside in
    (renewed_at g.S.Coordinate.stands_for x.tab x.trail x.values.items x.why.items c.args.var c.in_ok-value.value c.args.self.now c.self.view_is c.self.invariant.sound c.requires.known
    (λ some. true≢false (sym (c.has_value.ensures.known.1 some) ∙ c.if-has_value.false)) c.in_ok-value.ensures.value).valued
