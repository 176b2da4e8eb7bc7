-- What is added is what the literal says of a sum.
use Rattle.std.proofs.Common.{◌≡◌, List, Some, sym, ◌∙◌, rules}
use Rattle.std.specs.Prelude.{slice_get}
use Rattle.nz_spec.specs.clauses.Farkas.{bound_of}
use Rattle.nz_spec.specs.terms.FormOf.{number_in}
use Rattle.nz_spec.specs.terms.Table.{Node}
use Rattle.nz_lin.specs.Bounds.{HasUnits, bound_over}
use Rattle.nz_log.specs.declared.atoms.Atom.TheVariants.{AtMost, Term}
use Rattle.nz_log.specs.Atoms.{IsLitIn, literal_in}
use Rattle.nz_log.proofs.MultipleSums.{multiple_added, no_bound, other_bound, units_added, units_at}
use Rattle.nz_log.proofs.log.Log.add_multiple.Goals as goal

pub returns-then-sign-clause-units : goal.returns-then-sign-clause-units
returns-then-sign-clause-units c =
    let atoms = c.args.self.now.atoms in
    let l = c.args.multiple.literal in
    let b = c.in-Some-AtMost.bound in
    let at : slice_get atoms l.atom ≡ Some (AtMost b) = search rules in
    units_added c.join_multiple.result (λ (ns : List Node). HasUnits ns c.args.sum.now) (λ (ns : List Node). HasUnits ns b) (λ (ns : List Node). HasUnits ns c.join_multiple.new.self)
    (λ (ns : List Node). IsLitIn ns atoms l) (λ ns h. units_at ns atoms l b at h) c.join_multiple.ensures.units

pub returns-in_ok-not-in-Some-AtMost-clause-comes : goal.returns-in_ok-not-in-Some-AtMost-clause-comes
returns-in_ok-not-in-Some-AtMost-clause-comes c ns table units within =
    let atoms = c.args.self.now.atoms in
    let l = c.args.multiple.literal in
    let b = c.in-Some-AtMost.bound in
    let o = c.in_ok-not-in-Some-AtMost.field-0 in
    let at : slice_get atoms l.atom ≡ Some (AtMost b) = search rules in
    let join = c.join_multiple-else-sign in
    let own = c.in_ok-not-in-Some-AtMost.ensures.units ns (units_at ns atoms l b at within) in
    multiple_added (number_in ns) (bound_over ns c.args.sum.now) (bound_over ns join.new.self) c.args.multiple.multiplier (bound_of (literal_in ns atoms l)) (bound_over ns o) join.result
    (other_bound ns atoms l b at o (sym c.sign.ensures.sign ∙ c.if-sign.false) (c.in_ok-not-in-Some-AtMost.ensures.literal ns)) (join.ensures.comes ns table units own)

pub returns-in_ok-not-in-Some-AtMost-clause-units : goal.returns-in_ok-not-in-Some-AtMost-clause-units
returns-in_ok-not-in-Some-AtMost-clause-units c =
    let atoms = c.args.self.now.atoms in
    let l = c.args.multiple.literal in
    let b = c.in-Some-AtMost.bound in
    let o = c.in_ok-not-in-Some-AtMost.field-0 in
    let at : slice_get atoms l.atom ≡ Some (AtMost b) = search rules in
    let join = c.join_multiple-else-sign in
    units_added join.result (λ (ns : List Node). HasUnits ns c.args.sum.now) (λ (ns : List Node). HasUnits ns o) (λ (ns : List Node). HasUnits ns join.new.self)
    (λ (ns : List Node). IsLitIn ns atoms l) (λ ns h. c.in_ok-not-in-Some-AtMost.ensures.units ns (units_at ns atoms l b at h)) join.ensures.units

pub returns-in-Some-Term-clause-comes : goal.returns-in-Some-Term-clause-comes
returns-in-Some-Term-clause-comes c ns table units within =
    let atoms = c.args.self.now.atoms in
    let l = c.args.multiple.literal in
    let t = c.in-Some-Term.field-0-0 in
    let at : slice_get atoms l.atom ≡ Some (Term t) = search rules in
    let join = c.join_multiple-in-Some-Term in
    multiple_added (number_in ns) (bound_over ns c.args.sum.now) (bound_over ns join.new.self) c.args.multiple.multiplier (bound_of (literal_in ns atoms l)) (bound_over ns c.empty.result) join.result
    (no_bound ns atoms l t at ∙ sym (c.empty.ensures.bound ns)) (join.ensures.comes ns table units (c.empty.ensures.units ns))

pub returns-in-Some-Term-clause-units : goal.returns-in-Some-Term-clause-units
returns-in-Some-Term-clause-units c =
    let atoms = c.args.self.now.atoms in
    let l = c.args.multiple.literal in
    let join = c.join_multiple-in-Some-Term in
    units_added join.result (λ (ns : List Node). HasUnits ns c.args.sum.now) (λ (ns : List Node). HasUnits ns c.empty.result) (λ (ns : List Node). HasUnits ns join.new.self)
    (λ (ns : List Node). IsLitIn ns atoms l) (λ ns h. c.empty.ensures.units ns) join.ensures.units
