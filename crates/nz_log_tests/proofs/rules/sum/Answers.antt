-- One multiple more.
use Rattle.std.proofs.Common.{◌<◌, List, length, ap, arith}
use Rattle.std.proofs.lemmas.List.{drop_all}
use Rattle.nz_spec.specs.clauses.Farkas as farkas
use Rattle.nz_spec.specs.clauses.Farkas.{multiples_onto}
use Rattle.nz_spec.specs.terms.FormOf.{number_in}
use Rattle.nz_spec.specs.terms.Table.{Node, IsTable}
use Rattle.nz_log.specs.declared.multiples.LitMultiple.{LitMultiple}
use Rattle.nz_log.specs.Atoms.{IsLitIn}
use Rattle.nz_log.specs.Axioms.{AreMultiplesIn, multiples_in}
use Rattle.nz_log_tests.specs.Sums.{IsAddedOver}
use Rattle.nz_log_tests.proofs.MultipleSums.{each_read, sum_done, sum_next}
use Rattle.nz_log_tests.proofs.rules.sum.Goals as goal

pub loop-multiple-init : goal.loop-multiple-init
loop-multiple-init c =
    record {
      units = λ ns table within. c.empty-sum.ensures.units ns;
      left = λ ns table within.
          ap (λ (b : farkas.Bound). (multiples_onto (number_in ns) b (multiples_in ns c.args.log.now.atoms c.args.multiples.now)).result) (c.empty-sum.ensures.bound ns);
    }

pub loop-multiple-preserved : goal.loop-multiple-preserved
loop-multiple-preserved c =
    let atoms = c.args.log.now.atoms in
    let ms = c.args.multiples.now in
    let i = c.loop-multiple.multiple-index in
    let m = c.multiple-item.result in
    let inside : i < length ms = omega arith in
    let invariant = c.loop-multiple.invariant in
    let added : (ns : List Node) → IsTable ns → AreMultiplesIn ns atoms ms → IsAddedOver ns atoms m c.loop-multiple.sum c.add_multiple.new.sum = λ ns table within.
    c.in_ok-add_multiple.ensures.added ns table (invariant.units ns table within)
    (each_read (λ (k : LitMultiple). IsLitIn ns atoms k.literal) ms i m inside c.multiple-item.is within) in
    record {
      units = λ ns table within. (added ns table within).units;
      left = λ ns table within.
          sum_next ns atoms ms i c.loop-multiple.sum (invariant.left ns table within) m inside c.multiple-item.is c.add_multiple.new.sum (added ns table within);
    }

pub returns : goal.returns
returns c =
    let atoms = c.args.log.now.atoms in
    let ms = c.args.multiples.now in
    let i = c.loop-multiple.multiple-index in
    record {
      sum = λ ns table within. record {
        sum = sum_done ns atoms ms i c.loop-multiple.sum (c.loop-multiple.invariant.left ns table within) (drop_all i ms (omega arith));
        units = c.loop-multiple.invariant.units ns table within;
      };
    }
