-- A decimal that fits is a number.
use Rattle.std.proofs.Common.{◌^◌}
use Rattle.nz_term.proofs.Numbers.{digits_below, of_is, places_within, power_below, read_back}
use Rattle.nz_term.proofs.facts.decimal.Goals as goal

pub returns : goal.returns
returns c =
    let n = c.args.digits in
    let p = c.args.places in
    record {
      number = of_is c.of.result _ _ n p c.of.ensures.number c.of.ensures.value
          (read_back c.signed.result n c.signed.ensures.same (digits_below n p c.requires.fits))
          (read_back c.power_of_ten.result (10 ^ p) c.power_of_ten.ensures.power (power_below p (places_within n p c.requires.fits)))
          (c.decimals_are_numbers.ensures.numbers n p c.requires.fits);
    }
