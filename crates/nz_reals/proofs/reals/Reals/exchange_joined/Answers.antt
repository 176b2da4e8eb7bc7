-- A sum that joined is exchanged once at most.
use Rattle.std.proofs.Common.{rules, ◌≤◌, ℕ, subst}
use Rattle.nz_reals.proofs.SumCounts.{exchanged_one, keeps_both}
use Rattle.nz_reals.proofs.reals.Reals.exchange_joined.Goals as goal

pub returns-clause-one : goal.returns-clause-one
returns-clause-one c =
    let old = c.args.self.now in
    let mid = c.join_unit.new.self in
    let past : c.form_count-count.result ≤ c.in-Some.sum = search rules in
    exchanged_one old mid c.exchange.new.self c.in-Some.sum c.exchange.result (keeps_both old c.join_sum.new.self mid c.join_sum.ensures.kept c.join_unit.ensures.kept) c.exchange.ensures.exchanged c.exchange.ensures.sum
    (subst (λ (n : ℕ). n ≤ c.in-Some.sum) c.form_count-count.ensures.count past)
