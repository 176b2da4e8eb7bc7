use Rattle.std.proofs.Common.{rules, ◌≡◌, ℕ, ◌<◌, List, Some, None, Ok, Err, length, map, sym, ap, ◌∙◌, subst}
use Rattle.std.proofs.lemmas.List.Elements.{All-from_recursion}
use Rattle.nz_fractions.specs.Fraction.{Fraction}
use Rattle.nz_log.specs.declared.multiples.LitMultiple.{LitMultiple}
use Rattle.nz_search.specs.declared.stop.Stop.TheVariants.{Memory}
use Rattle.nz_search.specs.Places.{OnWide}
use Rattle.nz_reals.specs.Stands.{IsOver}
use Rattle.nz_reals.specs.Tells.{AreKnown, AreOf, IsSumPlace, Refutes, multiple_at}
use Rattle.nz_reals.proofs.KnownAtoms.{of_kept}
use Rattle.nz_reals.proofs.WhyForms.{why_apart}
use Rattle.nz_reals.proofs.WidePlaces.{in_of_each, leads_on, leads_to_place, leads_to_stop, leads_to_sum, sum_in_check, there, told_of_each, why_known, why_of, why_told}
use Rattle.nz_reals.proofs.BoundClashes.{check_refutes}
use Rattle.nz_reals.specs.declared.reals.MarkedLiteral.{MarkedLiteral}
use Rattle.nz_reals.proofs.theory.RealsTheory.check.Goals as goal

pub returns-in_err-seek-clause-of : goal.returns-in_err-seek-clause-of
returns-in_err-seek-clause-of c = λ atoms ids of. of_kept c.args.self.now c.seek.new.self atoms ids c.seek.ensures.moved.known c.seek.ensures.moved.forms of

pub returns-in_err-seek-clause-leads : goal.returns-in_err-seek-clause-leads
returns-in_err-seek-clause-leads c = λ ns fs ls x at.
    let e = c.in_err-seek.field-0.0 in
    let stop : c.from_residual.result ≡ Err e = search rules in
    leads_to_place c.args.self.now c.seek.new.self c.args.work.now c.seek.new.work ns fs ls x c.seek.ensures.moved at e c.from_residual.result stop (c.in_err-seek.ensures.place ns)
    (c.in_err-seek.ensures.wanted ns)

pub returns-then-branch-clause-of : goal.returns-then-branch-clause-of
returns-then-branch-clause-of c = λ atoms ids of. of_kept c.args.self.now c.seek.new.self atoms ids c.seek.ensures.moved.known c.seek.ensures.moved.forms of

pub returns-then-branch-clause-leads : goal.returns-then-branch-clause-leads
returns-then-branch-clause-leads c = λ ns fs ls x at. leads_on c.args.self.now c.seek.new.self c.args.work.now c.seek.new.work ns fs ls x c.seek.ensures.moved at None

pub multiples-requires : goal.multiples-requires
multiples-requires c = record {
  told =
      let t = c.seek.new.self in
      let ns = c.stored.ensures.forms.table in
      All-from_recursion (λ (w : ℕ × Fraction). w.0 < length t.told) t.simplex.why
      (why_told t ns c.stored.ensures.tolds (c.in_ok-seek.ensures.clash (ap Ok c.if-branch.false) ns c.stored.ensures.forms.over));
}

pub returns-in_err-multiples-clause-of : goal.returns-in_err-multiples-clause-of
returns-in_err-multiples-clause-of c = λ atoms ids of. of_kept c.args.self.now c.seek.new.self atoms ids c.seek.ensures.moved.known c.seek.ensures.moved.forms of

pub returns-in_err-multiples-clause-leads : goal.returns-in_err-multiples-clause-leads
returns-in_err-multiples-clause-leads c = λ ns fs ls x at.
    let stop : c.from_residual-in_err-multiples.result ≡ Err Memory = search rules in
    leads_to_stop c.args.self.now c.seek.new.self c.args.work.now c.seek.new.work ns fs ls x c.seek.ensures.moved at Memory c.from_residual-in_err-multiples.result stop tt

pub refute-requires-clause-of : goal.refute-requires-clause-of
refute-requires-clause-of c =
    let known = c.requires.known in
    (known.0, of_kept c.args.self.now c.seek.new.self c.args.log.now.atoms known.0 c.seek.ensures.moved.known c.seek.ensures.moved.forms known.1)

pub refute-requires-clause-known : goal.refute-requires-clause-known
refute-requires-clause-known c =
    let t = c.seek.new.self in
    let ns = c.stored.ensures.forms.table in
    let reasons = why_told t ns c.stored.ensures.tolds (c.in_ok-seek.ensures.clash (ap Ok c.if-branch.false) ns c.stored.ensures.forms.over) in
    let is : c.deref.result.now ≡ map (multiple_at t) t.simplex.why = c.deref.ensures.value ∙ c.in_ok-multiples.ensures.multiples in
    subst (AreKnown t) (sym is) (why_known t t.simplex.why c.stored.ensures.tolds reasons)

pub refute-requires-clause-refutes : goal.refute-requires-clause-refutes
refute-requires-clause-refutes c =
    let t = c.seek.new.self in
    let known = c.requires.known in
    let of = of_kept c.args.self.now t c.args.log.now.atoms known.0 c.seek.ensures.moved.known c.seek.ensures.moved.forms known.1 in
    let is : c.deref.result.now ≡ map (multiple_at t) t.simplex.why = c.deref.ensures.value ∙ c.in_ok-multiples.ensures.multiples in
    subst (Refutes t) (sym is)
    (check_refutes t c.args.log.now.atoms known.0 of c.literals_say_bounds.ensures.say c.sums_stay.ensures.stay c.term_has_its_number.ensures.number c.tells_literals.ensures.tells
    c.clashes_contradict.ensures.contradict c.stored.ensures.tolds (c.in_ok-seek.ensures.clash (ap Ok c.if-branch.false)))

pub returns-in_err-clause-clause-of : goal.returns-in_err-clause-clause-of
returns-in_err-clause-clause-of c = λ atoms ids of. of_kept c.args.self.now c.seek.new.self atoms ids c.seek.ensures.moved.known c.seek.ensures.moved.forms of

pub returns-in_err-clause-clause-leads : goal.returns-in_err-clause-clause-leads
returns-in_err-clause-clause-leads c = λ ns fs ls x at.
    let t = c.seek.new.self in
    let e = c.in_err-clause.field-0.0 in
    let stop : c.from_residual-in_err-clause.result ≡ Err e = search rules in
    let is : c.deref.result.now ≡ map (multiple_at t) t.simplex.why = c.deref.ensures.value ∙ c.in_ok-multiples.ensures.multiples in
    let here = there c.args.self.now t c.args.work.now c.seek.new.work ns fs ls x c.seek.ensures.moved at in
    let refuted = c.in_ok-seek.ensures.clash (ap Ok c.if-branch.false) ns here.over in
    let place : OnWide e (IsSumPlace ns t (map (multiple_at t) t.simplex.why)) =
    subst (λ (ms : List LitMultiple). IsOver t ns → OnWide e (IsSumPlace ns t ms)) is (c.in_err-clause.ensures.place ns) here.over in
    let known = c.requires.known in
    let of = of_kept c.args.self.now t c.args.log.now.atoms known.0 c.seek.ensures.moved.known c.seek.ensures.moved.forms known.1 in
    let apart = why_apart t ns c.args.log.now.atoms known.0 of here.over c.stored.ensures.forms (c.one_number.ensures.one ns here.over.table) c.tells_literals.ensures.tells c.stored.ensures.tolds c.stored.ensures.sound refuted in
    leads_to_sum c.args.self.now t c.args.work.now c.seek.new.work ns fs ls x c.seek.ensures.moved at e c.from_residual-in_err-clause.result stop c.in_err-clause.ensures.unspent
    (sum_in_check t ns fs ls _ here c.stored.ensures.tolds refuted apart e place)

-- the multiples are of literals that were told
pub returns-in_err-clause-clause-grows : goal.returns-in_err-clause-clause-grows
returns-in_err-clause-clause-grows c = λ ls told are.
    let t = c.seek.new.self in
    let ns = c.stored.ensures.forms.table in
    let reasons = why_told t ns c.stored.ensures.tolds (c.in_ok-seek.ensures.clash (ap Ok c.if-branch.false) ns c.stored.ensures.forms.over) in
    let is : c.deref.result.now ≡ map (multiple_at t) t.simplex.why = c.deref.ensures.value ∙ c.in_ok-multiples.ensures.multiples in
    let of : AreOf ls c.deref.result.now = subst (AreOf ls) (sym is) (why_of t ls t.simplex.why (ap (map (λ (y : MarkedLiteral). y.literal)) c.seek.ensures.moved.told ∙ told) reasons) in
    c.in_err-clause.ensures.grows (told_of_each c.args.log.now ls c.deref.result.now of are)

pub returns-in_err-clause-clause-sound : goal.returns-in_err-clause-clause-sound
returns-in_err-clause-clause-sound c = λ ls ms levels told over within is_log.
    let t = c.seek.new.self in
    let ns = c.stored.ensures.forms.table in
    let reasons = why_told t ns c.stored.ensures.tolds (c.in_ok-seek.ensures.clash (ap Ok c.if-branch.false) ns c.stored.ensures.forms.over) in
    let is : c.deref.result.now ≡ map (multiple_at t) t.simplex.why = c.deref.ensures.value ∙ c.in_ok-multiples.ensures.multiples in
    let of : AreOf ls c.deref.result.now = subst (AreOf ls) (sym is) (why_of t ls t.simplex.why (ap (map (λ (y : MarkedLiteral). y.literal)) c.seek.ensures.moved.told ∙ told) reasons) in
    c.in_err-clause.ensures.sound ms levels (in_of_each ms c.args.log.now.atoms ls c.deref.result.now of within) is_log

pub returns-clause-clash : goal.returns-clause-clash
returns-clause-clash c = λ ls told.
    let t = c.seek.new.self in
    let ns = c.stored.ensures.forms.table in
    let reasons = why_told t ns c.stored.ensures.tolds (c.in_ok-seek.ensures.clash (ap Ok c.if-branch.false) ns c.stored.ensures.forms.over) in
    let is : c.deref.result.now ≡ map (multiple_at t) t.simplex.why = c.deref.ensures.value ∙ c.in_ok-multiples.ensures.multiples in
    let of : AreOf ls c.deref.result.now = subst (AreOf ls) (sym is) (why_of t ls t.simplex.why (ap (map (λ (y : MarkedLiteral). y.literal)) c.seek.ensures.moved.told ∙ told) reasons) in
    c.in_ok-clause.ensures.clash ls of

pub returns-clause-of : goal.returns-clause-of
returns-clause-of c = λ atoms ids of. of_kept c.args.self.now c.seek.new.self atoms ids c.seek.ensures.moved.known c.seek.ensures.moved.forms of

pub returns-clause-leads : goal.returns-clause-leads
returns-clause-leads c = λ ns fs ls x at.
    leads_on c.args.self.now c.seek.new.self c.args.work.now c.seek.new.work ns fs ls x c.seek.ensures.moved at (Some c.in_ok-clause.clause)

pub returns-clause-grows : goal.returns-clause-grows
returns-clause-grows c = λ ls told are.
    let t = c.seek.new.self in
    let ns = c.stored.ensures.forms.table in
    let reasons = why_told t ns c.stored.ensures.tolds (c.in_ok-seek.ensures.clash (ap Ok c.if-branch.false) ns c.stored.ensures.forms.over) in
    let is : c.deref.result.now ≡ map (multiple_at t) t.simplex.why = c.deref.ensures.value ∙ c.in_ok-multiples.ensures.multiples in
    let of : AreOf ls c.deref.result.now = subst (AreOf ls) (sym is) (why_of t ls t.simplex.why (ap (map (λ (y : MarkedLiteral). y.literal)) c.seek.ensures.moved.told ∙ told) reasons) in
    c.in_ok-clause.ensures.grows (told_of_each c.args.log.now ls c.deref.result.now of are)

pub returns-clause-sound : goal.returns-clause-sound
returns-clause-sound c = λ ls ms levels told over within is_log.
    let t = c.seek.new.self in
    let ns = c.stored.ensures.forms.table in
    let reasons = why_told t ns c.stored.ensures.tolds (c.in_ok-seek.ensures.clash (ap Ok c.if-branch.false) ns c.stored.ensures.forms.over) in
    let is : c.deref.result.now ≡ map (multiple_at t) t.simplex.why = c.deref.ensures.value ∙ c.in_ok-multiples.ensures.multiples in
    let of : AreOf ls c.deref.result.now = subst (AreOf ls) (sym is) (why_of t ls t.simplex.why (ap (map (λ (y : MarkedLiteral). y.literal)) c.seek.ensures.moved.told ∙ told) reasons) in
    c.in_ok-clause.ensures.sound ms levels (in_of_each ms c.args.log.now.atoms ls c.deref.result.now of within) is_log
