-- One atom more is marked as it is.
use Rattle.std.proofs.Common.{◌≡◌, ℕ, ◌<◌, false, true, get_or, inl, inr, sym, subst, ◌∙◌, arith, below_more, rules, slice_set}
use Rattle.std.proofs.lemmas.Bool.{cases_eq}
use Rattle.std.proofs.lemmas.List.{get_or-set_other, get_or-set_same, get_or_default, length-set}
use Rattle.std.proofs.lemmas.List.Elements.{Contains-get_or}
use Rattle.std.proofs.lemmas.Option.{slice_get_within}
use Rattle.nz_sat.specs.Conflicts.{is_marked}
use Rattle.nz_sat.specs.Theories.{is_bound_at}
use Rattle.nz_sat.proofs.AtomTrails.{names_at}
use Rattle.nz_sat.proofs.consult.Bounds.among.Goals as goal

pub loop-id-init : goal.loop-id-init
loop-id-init c = record { long = search rules; marked = λ k d less. absurd (omega (arith, less)) }

pub is_bound-requires : goal.is_bound-requires
is_bound-requires c =
    let ids = c.args.ids.now in
    let i = c.loop-id.id-index in
    let n = names_at c.args.log.now ids c.requires.there (record { atom = get_or ids i 0; sign = true }) (Contains-get_or ids i 0 c.loop-id-test.true) in
    record { within = slice_get_within c.args.log.now.atoms (get_or ids i 0) n.atom n.at }

pub loop-id-preserved : goal.loop-id-preserved
loop-id-preserved c =
    let ids = c.args.ids.now in
    let i = c.loop-id.id-index in
    let t = get_or ids i 0 in
    let old = c.loop-id.marks.items in
    let mark = c.is_bound.result in
    let small : t < c.args.size = c.requires.within i 0 c.loop-id-test.true in
    let long = c.loop-id.invariant.long in
    let P : ℕ → Type 0 = λ u. is_marked (slice_set old t mark) u ≡ is_bound_at c.args.log.now.atoms u in
    let here : P t = get_or-set_same old t mark false (omega (arith, small, long)) ∙ c.is_bound.ensures.bound in
    let other : (u : ℕ) → is_marked old u ≡ is_bound_at c.args.log.now.atoms u → P u =
    λ u before.
    elim (cases_eq u t) [
      | inl same ↦ subst P (sym same) here
      | inr differs ↦ get_or-set_other old t u mark false differs ∙ before
    ] in
    record {
      long = length-set old t mark ∙ long;
      marked = λ k d less.
          below_more (λ (n : ℕ). (f : ℕ) → P (get_or ids n f)) i (λ n below f. other (get_or ids n f) (c.loop-id.invariant.marked n f below))
          (λ f. subst P (get_or_default ids i 0 f c.loop-id-test.true) here) k less d;
    }

pub returns-clause-marked : goal.returns-clause-marked
returns-clause-marked c k d inside = c.loop-id.invariant.marked k d (omega (arith, inside, c.loop-id-test.false))
