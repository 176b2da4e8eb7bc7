-- The unit is there, or its place is found.
use Rattle.std.proofs.Common.{◌≡◌, ◌<◌, List, length, get_or, take, drop, ◌++◌, ◌∷◌, sym, ap, subst, ◌∙◌, rules, arith}
use Rattle.std.proofs.lemmas.List.Sorted.{answers_always}
use Rattle.std.proofs.lemmas.Option.{slice_get-get_or}
use Rattle.nz_spec.specs.terms.FormOf.{number_in}
use Rattle.nz_spec.specs.terms.Form.{part_joined}
use Rattle.nz_lin.specs.declared.form.Part.{Part}
use Rattle.nz_lin.specs.Comes.{IsDone, arithmetic_of}
use Rattle.nz_lin.specs.Forms.{AreUnits, part_over, parts_over}
use Rattle.nz_lin.proofs.PartInsertion.{before_found, found, gap, insert_done, met_comes, units_inserted, units_met_on}
use Rattle.nz_lin.proofs.Units.{all_before}
use Rattle.nz_lin.proofs.form.join_part.Goals as goal

pub returns-in-Ok-clause-joined : goal.returns-in-Ok-clause-joined
returns-in-Ok-clause-joined c ns table units named =
    let q = c.args.part in
    let old = c.args.parts.now.items in
    let place = c.in-Ok.place in
    let inside : place < length old = subst (λ (l : List Part). place < length l) c.deref.ensures.value c.in-Ok.ensures.bound in
    let is = found c.deref.result.now q.unit place (c.in-Ok.ensures.position (λ (p : Part). p.unit) (answers_always _ _ _ (λ f a r g called. search rules))) in
    let is_old : (d : Part) → (get_or old place d).unit ≡ q.unit = subst (λ (l : List Part). (d : Part) → (get_or l place d).unit ≡ q.unit) c.deref.ensures.value is in
    met_comes ns old place (get_or old place q) (slice_get-get_or old place q inside) inside
    c.joins_at_its_place.ensures.place c.term_has_its_number.ensures.number c.tells_literals.ensures.tells table (arithmetic_of c.args.sign) q named units
    (all_before (λ (p : Part). p.unit < q.unit) old place (omega (arith, inside)) (before_found old units.in_order q.unit place inside is_old)) (is_old q)
    c.meet.result c.meet.new.parts.items c.meet.ensures.comes c.meet.ensures.met

pub returns-in-Ok-clause-units : goal.returns-in-Ok-clause-units
returns-in-Ok-clause-units c =
    let q = c.args.part in
    let old = c.args.parts.now.items in
    let place = c.in-Ok.place in
    let inside : place < length old = subst (λ (l : List Part). place < length l) c.deref.ensures.value c.in-Ok.ensures.bound in
    units_met_on old place (get_or old place q) (slice_get-get_or old place q inside) inside c.meet.result c.meet.new.parts.items _ c.meet.ensures.met q

pub returns-in_ok-insert-in-Err-clause-joined : goal.returns-in_ok-insert-in-Err-clause-joined
returns-in_ok-insert-in-Err-clause-joined c ns table units named =
    let q = c.args.part in
    let old = c.args.parts.now.items in
    let place = c.in-Err.place in
    let is = gap old c.deref.result.now c.deref.ensures.value q.unit place units.in_order c.in-Err.ensures.bound
    (c.in-Err.ensures.position (λ (p : Part). p.unit) (answers_always _ _ _ (λ f a r g called. search rules))) in
    subst (λ (l : List Part). IsDone (part_joined (number_in ns) (arithmetic_of c.args.sign) (parts_over ns old) (part_over ns q)) (parts_over ns l))
    (sym (c.in_ok-insert-in-Err.ensures.items ∙ ap (λ (p : Part). take place old ++ p ∷ drop place old) c.alone.ensures.alone))
    (insert_done ns c.args.sign q named old place units is c.joins_at_its_place.ensures.place c.term_has_its_number.ensures.number c.tells_literals.ensures.tells table)

pub returns-in_ok-insert-in-Err-clause-units : goal.returns-in_ok-insert-in-Err-clause-units
returns-in_ok-insert-in-Err-clause-units c ns units named =
    let q = c.args.part in
    let old = c.args.parts.now.items in
    let place = c.in-Err.place in
    let is = gap old c.deref.result.now c.deref.ensures.value q.unit place units.in_order c.in-Err.ensures.bound
    (c.in-Err.ensures.position (λ (p : Part). p.unit) (answers_always _ _ _ (λ f a r g called. search rules))) in
    subst (AreUnits ns) (sym (c.in_ok-insert-in-Err.ensures.items ∙ ap (λ (p : Part). take place old ++ p ∷ drop place old) c.alone.ensures.alone))
    (units_inserted ns c.args.sign q named old place units is)
