-- The value of a constant that is listed, or the first operation on it that leaves the numbers.
use Rattle.std.proofs.Common.{rules, ◌≡◌, Some, refl, sym, subst}
use Rattle.nz_fractions.specs.Fraction.{first_wide}
use Rattle.nz_fractions.proofs.FirstOperations.{first_wide-is}
use Rattle.nz_spec.specs.search.Places.{value_operations}
use Rattle.nz_frac.specs.Operations.{operation_of}
use Rattle.nz_place.specs.declared.place.Place.{Place}
use Rattle.nz_place.specs.declared.place.Site.TheVariants.{Model}
use Rattle.nz_search.specs.declared.stop.Stop.{Stop}
use Rattle.nz_search.specs.Places.{OnWide}
use Rattle.nz_reals.specs.Constants.{IsAlone}
use Rattle.nz_reals.specs.Limits.{IsModelPlace, value_of}
use Rattle.nz_reals.specs.State.{sum_at}
use Rattle.nz_reals.proofs.reals.Reals.add_value.Goals as goal

pub returns-in-Err-clause-place : goal.returns-in-Err-clause-place
returns-in-Err-clause-place c =
    let t = c.args.self.now in
    let ns = c.args.terms.now in
    let marks = c.args.is_listed.now in
    let wide = c.in-Err.wide in
    let first : first_wide (value_operations (value_of t c.args.var) c.args.delta) ≡ Some (operation_of wide) = sym c.in-Err.ensures.stops in
    let alone : IsAlone ns marks (sum_at t c.args.var) c.in-Some.unit = search rules in
    let own : Place = record { wide = wide; site = Model c.args.var } in
    let there : IsModelPlace t ns marks c.args.delta own = record {
      form = c.args.var;
      site = refl;
      inside = c.requires.inside;
      unit = c.in-Some.unit;
      alone = alone;
      first = first;
      leaves = record { left = c.stopped.ensures.left; right = c.stopped.ensures.right; wide = (first_wide-is (value_operations (value_of t c.args.var) c.args.delta) (operation_of wide) first).1 };
    } in
    subst (λ (s : Stop). OnWide s (IsModelPlace t ns marks c.args.delta)) (sym c.stopped.ensures.stop) there
