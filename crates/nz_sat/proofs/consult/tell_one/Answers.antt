-- The note moves the forms as the theory did.
use Rattle.std.proofs.Common.{◌≡◌, ℕ, ◌++◌, ◌∷◌, [], Err, None, Option, Result, rules, sym, subst}
use Rattle.std.specs.Prelude.{⊤}
use Rattle.nz_spec.specs.search.Search.{told_literals}
use Rattle.nz_spec.specs.search.Work.{WorkList}
use Rattle.nz_search.specs.declared.note.Note.{Note}
use Rattle.nz_search.specs.declared.stop.Stop.{Stop}
use Rattle.nz_search.specs.declared.stop.Stop.TheVariants as stop
use Rattle.nz_log.specs.Atoms.{literal_in}
use Rattle.nz_search.specs.Standing.{Ends, IsStoppedAt, Stands, search_after}
use Rattle.nz_spec.specs.simplex.LiteralBounds.{moved_by}
use Rattle.nz_spec.specs.search.Work.{with_line}
use Rattle.nz_search.specs.Theories.{IsPlaceOfStep, MovesOn, told_after}
use Rattle.nz_sat.specs.Theories.{AddsLines, IsOfTheory, TellsOne, TheoryState, state_of, told_line}
use Rattle.nz_sat.proofs.SearchLines.{adds_line, adds_none, ends_stopped, told_stands, told_stopped, wide_weaker}
use Rattle.nz_sat.proofs.consult.tell_one.Goals as goal

pub returns-in_ok-note_told-in-Ok-None-clause-comes : goal.returns-in_ok-note_told-in-Ok-None-clause-comes
returns-in_ok-note_told-in-Ok-None-clause-comes g c =
    let work = c.args.work.now in
    let line = told_line c.args.atoms.now c.args.literal in
    let noted : c.note_told.new.work ≡ with_line work line = c.in_ok-note_told-in-Ok-None.ensures.noted in
    let none : c.in-Ok-None.field-0 ≡ None = search rules in
    record {
      told = λ ls told. subst (λ (o : Option ℕ). g.T.Theory.has_told c.assert_lit.new.self (told_after ls c.args.literal o)) none (c.in-Ok-None.ensures.told ls told);
      clash = λ ls told. tt;
      keeps = record { over = c.assert_lit.ensures.over; of = c.assert_lit.ensures.of };
      grows = c.assert_lit.ensures.grows;
      sound = c.assert_lit.ensures.sound;
      noted = noted;
      adds = subst (AddsLines IsOfTheory work) (sym noted) (adds_line work line tt);
      ends = λ ns q may says s.
          let r = search_after ns work in
          subst (Stands (g.T.Theory.is_at c.assert_lit.new.self ns) ns q) (sym noted)
          (told_stands c.legal_work_goes_on.ensures.goes_on ns q c.args.log.now c.args.atoms.now c.args.literal work may says s.point s.legal (g.T.Theory.is_at c.assert_lit.new.self ns)
          (subst (λ (o : Option ℕ). MovesOn (g.T.Theory.is_at c.assert_lit.new.self ns r.forms) r.forms (told_literals r) (literal_in ns c.args.log.now.atoms c.args.literal) s.point o) none
          (c.in-Ok-None.ensures.at ns r.forms (told_literals r) s.point s.at)));
    }

-- The note finds no room.
pub returns-in_err-note_told-in-Err-clause-comes : goal.returns-in_err-note_told-in-Err-clause-comes
returns-in_err-note_told-in-Err-clause-comes g c =
    let work = c.args.work.now in
    let m : g.row.T.Denot → TheoryState = state_of g.T.Theory.is_over g.T.Theory.has_told g.T.Theory.is_feasible g.T.Theory.is_of g.T.Theory.is_at in
    let One : WorkList Note → Result (Option ℕ) Stop → Type 0 =
    TellsOne (m c.args.theory.now) (m c.assert_lit.new.self) c.args.log.now c.assert_lit.new.log c.args.atoms.now c.args.literal work in
    let same : Err stop.Memory ≡ c.from_residual-in_err-note_told-in-Err.result = search rules in
    subst (One c.note_told-in-Err.new.work) same
    (subst (λ (w : WorkList Note). One w (Err stop.Memory)) (sym c.in_err-note_told-in-Err.ensures.err)
    (record {
      told = λ ls told. tt;
      clash = λ ls told. tt;
      keeps = record { over = c.assert_lit.ensures.over; of = c.assert_lit.ensures.of };
      grows = c.assert_lit.ensures.grows;
      sound = c.assert_lit.ensures.sound;
      noted = tt;
      adds = adds_none work;
      ends = λ ns q may says s. (s.point, s.legal);
    }))

pub returns-in_ok-note_told-in-Err-clause-comes : goal.returns-in_ok-note_told-in-Err-clause-comes
returns-in_ok-note_told-in-Err-clause-comes g c =
    let work = c.args.work.now in
    let log = c.args.log.now in
    let atoms = c.args.atoms.now in
    let literal = c.args.literal in
    let line = told_line atoms literal in
    let noted : c.note_told-in-Err.new.work ≡ with_line work line = c.in_ok-note_told-in-Err.ensures.noted in
    record {
      told = λ ls told. tt;
      clash = λ ls told. tt;
      keeps = record { over = c.assert_lit.ensures.over; of = c.assert_lit.ensures.of };
      grows = c.assert_lit.ensures.grows;
      sound = c.assert_lit.ensures.sound;
      noted = tt;
      adds = subst (AddsLines IsOfTheory work) (sym noted) (adds_line work line tt);
      ends = λ ns q may says s.
          let r = search_after ns work in
          let l = literal_in ns log.atoms literal in
          let IsAt = g.T.Theory.is_at c.assert_lit.new.self ns in
          let led = told_stands c.legal_work_goes_on.ensures.goes_on ns q log atoms literal work may says s.point s.legal (λ fs ls y. ⊤) tt in
          subst (λ (w : WorkList Note). Ends {A = Option ℕ} IsAt ns q w (Err c.in-Err.stop)) (sym noted)
          (ends_stopped (Option ℕ) IsAt ns q (with_line work line) led.point led.legal c.in-Err.stop
          (wide_weaker c.in-Err.stop (IsPlaceOfStep ns r.forms (told_literals r ++ l ∷ []) (moved_by r.forms l s.point)) (IsStoppedAt ns q (with_line work line))
          (told_stopped c.legal_work_goes_on.ensures.goes_on ns q log atoms literal work may says s.point s.legal) (c.in-Err.ensures.place ns r.forms (told_literals r) s.point s.at))
          (λ spent. absurd (c.in-Err.ensures.unspent spent)));
    }
