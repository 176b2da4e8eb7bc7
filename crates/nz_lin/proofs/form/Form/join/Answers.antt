-- The parts, and then what is added.
use Rattle.std.proofs.Common.{List, sym, subst}
use Rattle.nz_spec.specs.terms.Form.{joined, parts_joined}
use Rattle.nz_spec.specs.terms.FormOf.{number_in}
use Rattle.nz_fractions.specs.Fraction.{first_wide}
use Rattle.nz_term.specs.Stops.{IsStopAt}
use Rattle.nz_term.specs.declared.stops.ArithmeticStop.{ArithmeticStop}
use Rattle.nz_term.specs.declared.stops.ArithmeticStop.TheVariants.{Wide}
use Rattle.nz_lin.specs.declared.form.Part.{Part}
use Rattle.nz_lin.specs.Comes.{Comes, IsDone, arithmetic_of}
use Rattle.nz_lin.specs.Forms.{AreUnits, Numbered, form_over, parts_over}
use Rattle.nz_lin.proofs.FormAddition.{joined_done, joined_late_stop, joined_stop}
use Rattle.nz_lin.proofs.ComputationSequences.{handed_on}
use Rattle.nz_lin.proofs.form.Form.join.Goals as goal

pub returns-in_err-join_parts-clause-comes : goal.returns-in_err-join_parts-clause-comes
returns-in_err-join_parts-clause-comes c ns table units others =
    let n = number_in ns in
    let op = arithmetic_of c.args.sign in
    let f : Numbered = record { parts = c.self.inside.parts.items; offset = c.self.inside.offset } in
    let g : Numbered = record { parts = c.other.inside.parts.items; offset = c.other.inside.offset } in
    let now = form_over ns (record { parts = c.join_parts.new.parts.items; offset = c.self.inside.offset }) in
    let own = subst (λ (v : Numbered). AreUnits ns v.parts) (sym c.self.view_is) units in
    let added = subst (AreUnits ns) (sym c.as_slice.ensures.value) (subst (λ (v : Numbered). AreUnits ns v.parts) (sym c.other.view_is) others) in
    let s : ArithmeticStop = c.in_err-join_parts.field-0.0 in
    handed_on (λ r. Comes (joined n op (form_over ns c.args.self.now) (form_over ns c.args.other.now)) now r) c.from_residual.result s c.from_residual.ensures.1
    (subst (λ (v : Numbered). IsStopAt (first_wide (joined n op (form_over ns v) (form_over ns c.args.other.now)).operations) s) c.self.view_is
    (subst (λ (w : Numbered). IsStopAt (first_wide (joined n op (form_over ns f) (form_over ns w)).operations) s) c.other.view_is
    (joined_stop n op (form_over ns f) (form_over ns g) s
    (subst (λ (l : List Part). IsStopAt (first_wide (parts_joined n op (parts_over ns f.parts) (parts_over ns l)).operations) s) c.as_slice.ensures.value
    (c.in_err-join_parts.ensures.joined ns table own added)))))

pub returns-in_err-self-inside-clause-comes : goal.returns-in_err-self-inside-clause-comes
returns-in_err-self-inside-clause-comes c ns table units others =
    let n = number_in ns in
    let op = arithmetic_of c.args.sign in
    let f : Numbered = record { parts = c.self.inside.parts.items; offset = c.self.inside.offset } in
    let g : Numbered = record { parts = c.other.inside.parts.items; offset = c.other.inside.offset } in
    let now = form_over ns (record { parts = c.join_parts.new.parts.items; offset = c.self.inside.offset }) in
    let own = subst (λ (v : Numbered). AreUnits ns v.parts) (sym c.self.view_is) units in
    let added = subst (AreUnits ns) (sym c.as_slice.ensures.value) (subst (λ (v : Numbered). AreUnits ns v.parts) (sym c.other.view_is) others) in
    let s : ArithmeticStop = Wide c.in_err-self-inside.field-0.0 in
    handed_on (λ r. Comes (joined n op (form_over ns c.args.self.now) (form_over ns c.args.other.now)) now r) c.from_residual-in_err-self-inside.result s
    c.from_residual-in_err-self-inside.ensures.1
    (subst (λ (v : Numbered). IsStopAt (first_wide (joined n op (form_over ns v) (form_over ns c.args.other.now)).operations) s) c.self.view_is
    (subst (λ (w : Numbered). IsStopAt (first_wide (joined n op (form_over ns f) (form_over ns w)).operations) s) c.other.view_is
    (joined_late_stop n op (form_over ns f) (form_over ns g) (parts_over ns c.join_parts.new.parts.items)
    (subst (λ (l : List Part). IsDone (parts_joined n op (parts_over ns f.parts) (parts_over ns l)) (parts_over ns c.join_parts.new.parts.items)) c.as_slice.ensures.value
    (c.in_ok-join_parts.ensures.joined ns table own added))
    s c.in_err-self-inside.ensures.joined)))

pub returns-clause-comes : goal.returns-clause-comes
returns-clause-comes c ns table units others =
    let n = number_in ns in
    let op = arithmetic_of c.args.sign in
    let f : Numbered = record { parts = c.self.inside.parts.items; offset = c.self.inside.offset } in
    let g : Numbered = record { parts = c.other.inside.parts.items; offset = c.other.inside.offset } in
    let now = form_over ns (record { parts = c.join_parts.new.parts.items; offset = c.in_ok-self-inside.field-0 }) in
    let own = subst (λ (v : Numbered). AreUnits ns v.parts) (sym c.self.view_is) units in
    let added = subst (AreUnits ns) (sym c.as_slice.ensures.value) (subst (λ (v : Numbered). AreUnits ns v.parts) (sym c.other.view_is) others) in
    subst (λ (v : Numbered). IsDone (joined n op (form_over ns v) (form_over ns c.args.other.now)) now) c.self.view_is
    (subst (λ (w : Numbered). IsDone (joined n op (form_over ns f) (form_over ns w)) now) c.other.view_is
    (joined_done n op (form_over ns f) (form_over ns g) (parts_over ns c.join_parts.new.parts.items) c.in_ok-self-inside.field-0
    (subst (λ (l : List Part). IsDone (parts_joined n op (parts_over ns f.parts) (parts_over ns l)) (parts_over ns c.join_parts.new.parts.items)) c.as_slice.ensures.value
    (c.in_ok-join_parts.ensures.joined ns table own added))
    c.in_ok-self-inside.ensures.joined))

pub returns-clause-units : goal.returns-clause-units
returns-clause-units c ns units others =
    c.in_ok-join_parts.ensures.units ns (subst (λ (v : Numbered). AreUnits ns v.parts) (sym c.self.view_is) units)
    (subst (AreUnits ns) (sym c.as_slice.ensures.value) (subst (λ (v : Numbered). AreUnits ns v.parts) (sym c.other.view_is) others))
