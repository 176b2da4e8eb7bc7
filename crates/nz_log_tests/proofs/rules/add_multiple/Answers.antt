-- What is added is what the literal says of a sum.
use Rattle.std.proofs.Common.{◌≡◌, Some, sym, ◌∙◌, rules}
use Rattle.std.specs.Prelude.{slice_get}
use Rattle.nz_log.specs.declared.atoms.Atom.TheVariants.{AtMost}
use Rattle.nz_log_tests.proofs.MultipleSums.{adds, said_other, said_own, units_at}
use Rattle.nz_log_tests.proofs.rules.add_multiple.Goals as goal

pub returns-then-sign : goal.returns-then-sign
returns-then-sign c =
    let atoms = c.args.log.now.atoms in
    let l = c.args.multiple.literal in
    let b = c.in-AtMost.bound in
    let at : slice_get atoms l.atom ≡ Some (AtMost b) = search rules in
    let join = c.join_multiple in
    record {
      added =
          adds join.result atoms c.args.multiple b c.args.sum.now join.new.self
          (λ ns h. (said_own ns atoms l b at (sym c.sign.ensures.sign ∙ c.if-sign.true), units_at ns atoms l b at h)) join.ensures.comes join.ensures.units;
    }

pub returns-in_ok-not-in-AtMost : goal.returns-in_ok-not-in-AtMost
returns-in_ok-not-in-AtMost c =
    let atoms = c.args.log.now.atoms in
    let l = c.args.multiple.literal in
    let b = c.in-AtMost.bound in
    let other = c.in_ok-not-in-AtMost in
    let at : slice_get atoms l.atom ≡ Some (AtMost b) = search rules in
    let join = c.join_multiple-else-sign in
    record {
      added =
          adds join.result atoms c.args.multiple other.field-0 c.args.sum.now join.new.self
          (λ ns h. (said_other ns atoms l b at other.field-0 (sym c.sign.ensures.sign ∙ c.if-sign.false) (other.ensures.literal ns), other.ensures.units ns (units_at ns atoms l b at h)))
          join.ensures.comes join.ensures.units;
    }
