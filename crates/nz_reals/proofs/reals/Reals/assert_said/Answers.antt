use Rattle.std.proofs.Common.{rules, ◌≡◌, ◌++◌, ◌∷◌, [], List, Some, Ok, inl, inr, get_or, length, sym, ap, ◌∙◌, subst, arith}
use Rattle.std.specs.HashMap.{get}
use Rattle.std.proofs.lemmas.Option.{get_or_from_slice_get, slice_get_within}
use Rattle.nz_log.specs.Keys.{are_same_atom}
use Rattle.nz_simplex.specs.State.{State}
use Rattle.nz_reals.specs.declared.reals.MarkedLiteral.{MarkedLiteral}
use Rattle.nz_reals.specs.Known.{known_of, said_of}
use Rattle.nz_reals.specs.State.{Theory, known_at}
use Rattle.nz_reals.specs.Stored.{IsStored, KnowsFeasible}
use Rattle.nz_reals.specs.Tells.{Clashes, told_now}
use Rattle.nz_reals.proofs.Tolds.{clash_place, clashes_here, stored_more, told_here}
use Rattle.nz_reals.proofs.reals.Reals.assert_said.Goals as goal

pub index-requires : goal.index-requires
index-requires c =
    let x = clash_place (record { simplex = c.self.inside.simplex; known = c.self.inside.bounded; told = c.self.inside.told.items }) _ c.in-Clash.other c.self.invariant.0.tolds
    ((c.in_ok-other.ensures.clash c.in-Clash.field-0 c.in-Clash.other).0 c.in-Clash.is).1 in
    let less = slice_get_within c.self.inside.told.items c.in-Clash.other x.0 x.1 in
    omega (arith, less, c.reserve.ensures.len, c.self.inside.told.ok.0)

pub invariant_of-self-in-Clash : goal.invariant_of-self-in-Clash
invariant_of-self-in-Clash c =
    let same : c.assert_bound.new.self ≡ c.self.inside.simplex = search rules in
    let told : c.reserve.new.self.items ≡ c.self.inside.told.items = c.in_ok-reserve.ensures.items in
    subst (λ (t : Theory). IsStored (get are_same_atom c.self.inside.forms) t × KnowsFeasible c.self.inside.is_known_feasible t)
    (λ i. record { simplex = sym same i; known = c.self.inside.bounded; told = sym told i }) c.self.invariant

pub invariant_of-self-in-Kept : goal.invariant_of-self-in-Kept
invariant_of-self-in-Kept c =
    let old : Theory = record { simplex = c.self.inside.simplex; known = c.self.inside.bounded; told = c.self.inside.told.items } in
    let new : Theory = record { simplex = c.assert_bound.new.self; known = c.self.inside.bounded; told = c.push.new.self.items } in
    let told : new.told ≡ old.told ++ told_now old c.args.literal ∷ [] = search rules in
    let same : new.simplex ≡ old.simplex = search rules in
    let knows : known_at old c.args.literal.atom ≡ Some (known_of c.args.bounded.now) = search rules in
    let place : c.len-reason.result ≡ length old.told = search rules in (
      stored_more (get are_same_atom c.self.inside.forms) old new c.args.literal c.self.invariant.0
          (told_here old new c.args.literal (known_of c.args.bounded.now) (said_of c.args.said.now) c.len-reason.result knows c.requires.said place (λ i. old.known) told
          (inl (same, (c.in_ok-other.ensures.kept).0 c.in-Kept.is))),
      subst (λ (s : State). KnowsFeasible c.self.inside.is_known_feasible (record new { simplex = s })) (sym same) c.self.invariant.1,
    )

pub invariant_of-self-in-Tighter : goal.invariant_of-self-in-Tighter
invariant_of-self-in-Tighter c =
    let old : Theory = record { simplex = c.self.inside.simplex; known = c.self.inside.bounded; told = c.self.inside.told.items } in
    let new : Theory = record { simplex = c.assert_bound.new.self; known = c.self.inside.bounded; told = c.push-in-Tighter.new.self.items } in
    let told : new.told ≡ old.told ++ told_now old c.args.literal ∷ [] = search rules in
    let knows : known_at old c.args.literal.atom ≡ Some (known_of c.args.bounded.now) = search rules in
    let place : c.len-reason.result ≡ length old.told = search rules in (
      stored_more (get are_same_atom c.self.inside.forms) old new c.args.literal c.self.invariant.0
          (told_here old new c.args.literal (known_of c.args.bounded.now) (said_of c.args.said.now) c.len-reason.result knows c.requires.said place (λ i. old.known) told
          (inr (c.in_ok-other.ensures.bounded (ap Ok c.in-Tighter.is), ((c.in_ok-other.ensures.tighter).0 c.in-Tighter.is).0))),
      λ known. absurd cc,
    )

pub returns-in-Clash-clause-clash : goal.returns-in-Clash-clause-clash
returns-in-Clash-clause-clash c =
    let old : Theory = record { simplex = c.self.inside.simplex; known = c.self.inside.bounded; told = c.self.inside.told.items } in
    let place : c.len-reason.result ≡ length old.told = search rules in
    let clash = ((c.in_ok-other.ensures.clash c.in-Clash.field-0 c.in-Clash.other).0 c.in-Clash.is).1 in
    let e = c.index.ensures in
    subst (λ (t : Theory). Clashes t c.args.literal (known_of c.args.bounded.now) c.index.result.now.literal) c.self.view_is
    (clashes_here old c.args.literal (known_of c.args.bounded.now) (said_of c.args.said.now) c.len-reason.result c.in-Clash.other c.index.result.now.literal c.self.invariant.0.tolds c.requires.said place clash (λ x at. ap (λ (y : MarkedLiteral). y.literal) (sym (e ∙ ap (λ (ts : List MarkedLiteral). get_or ts c.in-Clash.other c.index.result.now) c.in_ok-reserve.ensures.items ∙ get_or_from_slice_get c.self.inside.told.items c.in-Clash.other x c.index.result.now at))))
