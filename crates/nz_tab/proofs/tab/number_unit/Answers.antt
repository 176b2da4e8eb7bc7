-- A unit that has no number gets this one.
use Rattle.std.proofs.Common.{◌≡◌, ℕ, true, false, Some, Result, Ok, Err, sym, ap, rules, true≢false, ◌∙◌}
use Rattle.std.specs.Prelude.{IsOk, OnOk, cond, is_some, nat_eq}
use Rattle.std.specs.HashMap.{get}
use Rattle.nz_lin.specs.declared.form.Part.{Part}
use Rattle.nz_tab.proofs.UnitForms.{number_joins, number_known}
use Rattle.nz_tab.proofs.tab.number_unit.Goals as goal

on_ok : {T E P : Type 0} (r : Result T E) → IsOk r → OnOk r P → P
on_ok (Ok x) is p = p
on_ok (Err e) is p = absurd (true≢false (sym is))

pub returns-then-not-contains_key-clause-numbers : goal.returns-then-not-contains_key-clause-numbers
returns-then-not-contains_key-clause-numbers c = λ fs long agree.
    let p = c.index-unit-0.result in
    let none : is_some (get nat_eq c.args.numbers.now p.unit) ≡ false = search rules in
    let put = (on_ok c.insert-inserted.result (c.insert-inserted.ensures.succeeds c.requires.spare) c.insert-inserted.ensures.updates).0 in
    number_joins fs c.args.unit.now p (get nat_eq c.args.numbers.now) (get nat_eq c.insert-inserted.new.self) c.requires.unit c.index-unit-0.is agree none
    (λ u.
    put u
    ∙ ap (λ (x : Part). cond (nat_eq x.unit u) (Some c.args.var) (get nat_eq c.args.numbers.now u)) (sym c.index-unit-0.is)
    ∙ ap (λ (n : ℕ). cond (nat_eq p.unit u) (Some n) (get nat_eq c.args.numbers.now u)) (sym long))

pub returns-else-not-contains_key-clause-numbers : goal.returns-else-not-contains_key-clause-numbers
returns-else-not-contains_key-clause-numbers c = λ fs long agree.
    let p = c.index-unit-0.result in
    let some : is_some (get nat_eq c.args.numbers.now p.unit) ≡ true = search rules in
    number_known fs c.args.unit.now p (get nat_eq c.args.numbers.now) c.requires.unit c.index-unit-0.is agree some
