use Rattle.std.proofs.Common.{◌≡◌, ◌<◌, ℕ, List, length, sym, ap, subst, ◌∙◌}
use Rattle.std.specs.Prelude.{Contains, IsSome, flat_map}
use Rattle.std.proofs.lemmas.Result.{IfOk-weaker}
use Rattle.std.proofs.lemmas.List.Elements.{All-contains_itself, All-weaker}
use Rattle.nz_cform.specs.Forms.{covered_at}
use Rattle.nz_reals.specs.Chosen.{HasWorths}
use Rattle.nz_engine.specs.Checking.{AreMarksOf, HasCoveredWorths, value_at}
use Rattle.nz_engine.specs.Preparing.{PreparedState}
use Rattle.nz_engine.proofs.LevelPreservation.{some_of}
use Rattle.nz_engine.proofs.prepared.Prepared.values.Goals as goal

pub values_of-requires-clause-within : goal.values_of-requires-clause-within
values_of-requires-clause-within c =
    let atoms = c.terms.result.now in
    All-weaker (Contains atoms) (λ t. t < length c.args.terms.now)
    (λ t has.
    let n = some_of (covered_at c.self.inside.form t) ((c.terms.ensures.covered t).0 has) in
    c.requires.covers.within t n.0 (ap (λ (p : PreparedState). covered_at p.form t) (sym c.self.view_is) ∙ n.1))
    atoms (All-contains_itself atoms)

pub returns-clause-worths : goal.returns-clause-worths
returns-clause-worths c =
    let ns = c.args.terms.now in
    let covered = c.args.self.now.form.terms.ids in
    let same : c.terms.result.now ≡ covered = c.terms.ensures.terms ∙ ap (λ (p : PreparedState). p.form.terms.ids) c.self.view_is in
    IfOk-weaker c.values_of.result _ (HasCoveredWorths ns c.args.self.now)
    (λ ps w.
    record {
      marks = w.0;
      marked = subst (λ (xs : List ℕ). AreMarksOf xs w.0) same w.1;
      worths = subst (λ (xs : List ℕ). HasWorths c.args.self.now.sat.theory ns w.0 (flat_map (value_at ns c.args.self.now) xs) ps) same w.2;
    })
    c.values_of.ensures.worths

pub returns-clause-place : goal.returns-clause-place
returns-clause-place c = λ ts among.
    c.values_of.ensures.place ts
    (λ i has. among i (subst (λ (p : PreparedState). IsSome (covered_at p.form i)) c.self.view_is ((c.terms.ensures.covered i).0 has)))
