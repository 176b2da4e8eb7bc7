-- One multiple more.
use Rattle.std.proofs.Common.{◌<◌, length, Err, sym, ap, subst, ◌∙◌, arith, rules}
use Rattle.std.proofs.lemmas.List.{drop_all}
use Rattle.std.proofs.lemmas.Result.{err_from_is_err_and}
use Rattle.nz_lin.specs.Bounds.{IsBounded, bound_over}
use Rattle.nz_log.specs.declared.multiples.LitMultiple.{LitMultiple}
use Rattle.nz_log.specs.Atoms.{IsLitIn}
use Rattle.nz_log.specs.Axioms.{sum_in}
use Rattle.nz_log.proofs.Members.{each_read}
use Rattle.nz_log.proofs.MultipleSums.{sum_done, sum_next, sum_starts, sum_stops}
use Rattle.nz_log.proofs.log.Log.sum.Goals as goal

pub loop-multiple-init : goal.loop-multiple-init
loop-multiple-init c =
    record {
      units = λ ns within. c.empty-sum.ensures.units ns;
      left = λ ns table within. sum_starts ns c.args.self.now.atoms c.args.multiples.now (bound_over ns c.empty-sum.result) (c.empty-sum.ensures.bound ns);
    }

pub returns-in_err-add_multiple : goal.returns-in_err-add_multiple
returns-in_err-add_multiple c =
    record {
      sum = λ ns table within.
          let atoms = c.args.self.now.atoms in
          let ms = c.args.multiples.now in
          let i = c.loop-multiple.multiple-index in
          let m = c.multiple-item.result in
          let inside : i < length ms = omega arith in
          let own = each_read (λ (k : LitMultiple). IsLitIn ns atoms k.literal) ms i m inside c.multiple-item.is within in
          let error = err_from_is_err_and c.from_residual.result c.from_residual.ensures.1 in
          subst (λ r. IsBounded ns (sum_in ns atoms ms) r) (sym (error.1 ∙ ap Err error.2))
          (sum_stops ns atoms ms i (bound_over ns c.loop-multiple.sum) (c.loop-multiple.invariant.left ns table within) m inside c.multiple-item.is
          c.in_err-add_multiple.field-0.0 (c.in_err-add_multiple.ensures.comes ns table (c.loop-multiple.invariant.units ns within) own));
      units = search rules;
    }

pub loop-multiple-preserved : goal.loop-multiple-preserved
loop-multiple-preserved c =
    let atoms = c.args.self.now.atoms in
    let ms = c.args.multiples.now in
    let i = c.loop-multiple.multiple-index in
    let m = c.multiple-item.result in
    let inside : i < length ms = omega arith in
    record {
      units = λ ns within.
          c.in_ok-add_multiple.ensures.units ns (c.loop-multiple.invariant.units ns within)
          (each_read (λ (k : LitMultiple). IsLitIn ns atoms k.literal) ms i m inside c.multiple-item.is within);
      left = λ ns table within.
          sum_next ns atoms ms i (bound_over ns c.loop-multiple.sum) (c.loop-multiple.invariant.left ns table within) m inside c.multiple-item.is (bound_over ns c.add_multiple.new.sum)
          (c.in_ok-add_multiple.ensures.comes ns table (c.loop-multiple.invariant.units ns within)
          (each_read (λ (k : LitMultiple). IsLitIn ns atoms k.literal) ms i m inside c.multiple-item.is within));
    }

pub returns : goal.returns
returns c =
    record {
      sum = λ ns table within.
          let atoms = c.args.self.now.atoms in
          let ms = c.args.multiples.now in
          let i = c.loop-multiple.multiple-index in (
            sum_done ns atoms ms i (bound_over ns c.loop-multiple.sum) (c.loop-multiple.invariant.left ns table within) (drop_all i ms (omega arith)),
            c.loop-multiple.invariant.units ns within,
          );
      units = c.loop-multiple.invariant.units;
    }
