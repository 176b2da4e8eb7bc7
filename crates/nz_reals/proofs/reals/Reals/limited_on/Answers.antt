use Rattle.std.proofs.Common.{◌++◌, [], ◌∷◌, Option, refl, subst, sym}
use Rattle.std.specs.Prelude.{if◌then◌else◌}
use Rattle.std.proofs.lemmas.List.Elements.{All-from_recursion}
use Rattle.nz_fractions.specs.Fraction.{Fraction, fraction_lt}
use Rattle.nz_fractions.proofs.FirstOperations.{first_wide-is}
use Rattle.nz_spec.specs.numbers.Infinitesimal.{IsLeastLimit, Pair, ◌≤δ◌, limit_operations}
use Rattle.nz_delta.specs.Pairs.{pair_of}
use Rattle.nz_place.specs.declared.place.Place.{Place}
use Rattle.nz_place.specs.declared.place.Site.TheVariants.{Limit}
use Rattle.nz_reals.specs.Limits.{IsLimitPlace, listed, pair_on}
use Rattle.nz_reals.proofs.InfinitesimalLimits.{lesser_least, limit_stop, one_pair}
use Rattle.nz_reals.proofs.reals.Reals.limited_on.Goals as goal

pub choose_delta-requires : goal.choose_delta-requires
choose_delta-requires c =
    let is = one_pair c.args.self.now c.args.var c.args.side c.in-Some.bound c.value-value.result c.in_order.result c.in-Some.ensures.bound c.value-value.ensures.value c.in_order.ensures.pair in
    All-from_recursion (λ (x : Pair). x.0 ≤δ x.1) (pair_of c.in_order.result ∷ [])
    (c.requires.values.ordered c.args.var c.args.side (pair_of c.in_order.result) c.requires.inside is, tt)

pub returns-in-Ok-clause-least : goal.returns-in-Ok-clause-least
returns-in-Ok-clause-least c = λ ps first.
    let is = one_pair c.args.self.now c.args.var c.args.side c.in-Some.bound c.value-value.result c.in_order.result c.in-Some.ensures.bound c.value-value.ensures.value c.in_order.ensures.pair in
    subst (λ (e : Fraction). IsLeastLimit (ps ++ listed (pair_on c.args.self.now c.args.var c.args.side)) e) (sym c.lesser.ensures.lesser)
    (subst (λ (o : Option Pair). IsLeastLimit (ps ++ listed o) (if fraction_lt c.in-Ok.limit c.args.least then c.in-Ok.limit else c.args.least)) (sym is)
    (lesser_least ps (pair_of c.in_order.result ∷ []) c.args.least c.in-Ok.limit first c.in-Ok.ensures.least))

pub returns-in-Err-clause-place : goal.returns-in-Err-clause-place
returns-in-Err-clause-place c =
    let found = limit_stop (pair_of c.in_order.result) _ c.in-Err.ensures.wide in
    let own : Place = record { wide = c.in-Err.wide; site = Limit c.args.var c.args.side } in
    let there : IsLimitPlace c.args.self.now own = record {
      form = c.args.var;
      side = c.args.side;
      site = refl;
      inside = c.requires.inside;
      pair = pair_of c.in_order.result;
      is = one_pair c.args.self.now c.args.var c.args.side c.in-Some.bound c.value-value.result c.in_order.result c.in-Some.ensures.bound c.value-value.ensures.value c.in_order.ensures.pair;
      numbers = (c.value-value.ensures.standard, c.value-value.ensures.coefficient);
      limits = found.0;
      first = found.1;
      leaves = record { left = c.new.ensures.left; right = c.new.ensures.right; wide = (first_wide-is (limit_operations (pair_of c.in_order.result)) _ found.1).1 };
    } in
    subst (IsLimitPlace c.args.self.now) (sym c.new.ensures.place) there
