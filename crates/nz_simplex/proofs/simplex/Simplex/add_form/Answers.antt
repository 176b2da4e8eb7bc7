-- The units that aren't there join, and then the form.
use Rattle.std.proofs.Common.{rules, ◌≡◌, ℕ, ◌<◌, ◌≤◌, Some, None, false, List, length, take, sym, ap, subst, arith}
use Rattle.std.specs.Prelude.{Err, IfErr, Result, slice_index_or, if◌then◌else◌}
use Rattle.nz_spec.specs.terms.Table.{Node}
use Rattle.nz_lin.specs.Forms.{AreUnits}
use Rattle.nz_term.specs.declared.stops.ArithmeticStop.{ArithmeticStop}
use Rattle.nz_term.specs.declared.stops.ArithmeticStop.TheVariants as stops
use Rattle.nz_simplex.specs.Moves.{JoinStops}
use Rattle.nz_simplex.specs.State.{IsOver}
use Rattle.nz_simplex.specs.Stored.{state_of}
use Rattle.nz_simplex.specs.Tabled.{marks_in}
use Rattle.nz_simplex.proofs.Grown.{IsJoinedSoundly, few_forms, join_stops, joined_shown}
use Rattle.nz_simplex.proofs.simplex.Simplex.add_form.Given.{Over}
use Rattle.nz_simplex.proofs.simplex.Simplex.add_form.Goals as goal
use Rattle.nz_simplex.proofs.simplex.Simplex.add_form.Goals.{After-extend_values, After-known_tableau-2}

pub returns-in_err-var-clause-stops : goal.returns-in_err-var-clause-stops
returns-in_err-var-clause-stops g c =
    let x = c.self.inside in
    let e = c.in_err-var.field-0.0 in
    let error : c.from_residual-in_err-var.result ≡ Err e = search rules in
    subst
    (λ (r : Result ℕ ArithmeticStop). IfErr r (λ e. (ns : List Node) → IsOver ns c.args.self.now → AreUnits ns c.args.form.now.parts → JoinStops ns c.args.self.now c.args.form.now.parts e))
    (sym error)
    (join_stops g.S.Coordinate.stands_for x.tab c.add_form.new.self x.trail x.values.items x.why.items c.args.self.now c.args.form.now.parts e c.self.view_is c.self.invariant.sound c.known_tableau.ensures.tableau
    c.in_err-var.ensures.unit c.in_err-var.ensures.joins)

pub returns-in_err-var-clause-alone : goal.returns-in_err-var-clause-alone
returns-in_err-var-clause-alone g c alone =
    let error : c.from_residual-in_err-var.result ≡ Err c.in_err-var.field-0.0 = search rules in
    subst (λ (r : Result ℕ ArithmeticStop). IfErr r (λ e. e ≡ stops.Memory)) (sym error) (c.in_err-var.ensures.unit alone)

-- at most as many forms as there is room for
few : (g : Over) (c : After-known_tableau-2 g) → length c.add_form.new.self.forms ≤ c.in_ok-count.count
few g c =
    let fewer = few_forms c.self.inside.tab c.add_form.new.self c.args.form.now.parts c.in_ok-var.var c.in_ok-var.ensures.unit c.in_ok-var.ensures.grown in
    omega (arith, fewer, ap length c.parts.ensures.parts, c.len.ensures.count, c.in_ok-count.ensures.count)

pub extend_values-requires-clause-room : goal.extend_values-requires-clause-room
extend_values-requires-clause-room g c = omega (arith, few g (goal.at.extend_values-requires-clause-room g c).After-known_tableau-2, c.in_ok-reserve.ensures.room.for_values)

pub list_forms-requires : goal.list_forms-requires
list_forms-requires g c =
    let fits = few g (goal.at.list_forms-requires g c).After-known_tableau-2 in
    let room = c.in_ok-reserve.ensures.room in
    record { basic_room = omega (arith, fits, room.for_basic); nonbasic_room = omega (arith, fits, room.for_nonbasic) }

shown : (g : Over) (c : After-extend_values g)
    → IsJoinedSoundly c.args.self.now (state_of g.S.Coordinate.stands_for c.add_form.new.self c.reserve.new.trail c.extend_values.new.values.items c.reserve.new.why.items) c.args.form.now.parts c.in_ok-var.var
shown g c =
    let x = c.self.inside in
    joined_shown g.S.Coordinate.stands_for g.S.Scalar.origin x.tab c.add_form.new.self x.trail c.reserve.new.trail x.values.items c.reserve.new.values.items c.extend_values.new.values.items x.why.items c.reserve.new.why.items
    c.args.self.now c.args.form.now.parts c.in_ok-var.var g.met.S.Coordinate.faithful.zero c.self.view_is c.self.invariant.sound c.in_ok-var.ensures.unit c.in_ok-var.ensures.grown c.known_tableau-2.ensures.marked
    c.reserve.ensures.asserted c.reserve.ensures.why c.reserve.ensures.values c.positions_have_values.ensures.values c.infinitesimals_move.ensures.moves c.nonbasic_form_is_itself.ensures.itself
    c.known_tableau.ensures.tableau c.known_tableau-2.ensures.tableau c.extend_values.ensures.long (subst (λ (n : ℕ). take n c.extend_values.new.values.items ≡ c.reserve.new.values.items) c.reserve.new.values.ok.0 c.extend_values.ensures.stays) (subst
    (λ (n : ℕ). (k : ℕ) → n ≤ k → k < length c.add_form.new.self.forms
    → slice_index_or c.extend_values.new.values.items k None ≡ (if slice_index_or (marks_in c.add_form.new.self) k false then Some g.S.Scalar.origin else None))
    c.reserve.new.values.ok.0 c.extend_values.ensures.joined)

pub invariant_of-self-2 : goal.invariant_of-self-2
invariant_of-self-2 g c =
    let fits = few g (goal.at.invariant_of-self-2 g c).After-known_tableau-2 in
    let room = c.in_ok-reserve.ensures.room in
    record {
      sound = (shown g (goal.at.invariant_of-self-2 g c).After-extend_values).sound;
      basic_listed = c.list_forms.ensures.basic;
      nonbasic_listed = c.list_forms.ensures.nonbasic;
      numbered = omega (arith, fits, room.for_bounds);
      room_for_basic = omega (arith, fits, room.for_basic, c.list_forms.ensures.basic_capacity);
      room_for_nonbasic = omega (arith, fits, room.for_nonbasic, c.list_forms.ensures.nonbasic_capacity);
      room_for_why = omega (arith, fits, room.for_why);
    }

pub returns-clause-joined : goal.returns-clause-joined
returns-clause-joined g c = (shown g (goal.at.returns-clause-joined g c).After-extend_values).joined

pub returns-clause-position : goal.returns-clause-position
returns-clause-position g c = λ ns over units. (shown g (goal.at.returns-clause-position g c).After-extend_values).position ns
