-- One unit more.
use Rattle.std.proofs.Common.{ℕ, add-one, ◌+◌, ◌++◌, Bool, true, List, [], ◌∷◌, replicate, sym, ap, ◌∙◌, arith}
use Rattle.std.proofs.lemmas.List.{append_assoc, replicate_more}
use Rattle.nz_tab.specs.Sums.{next_columns}
use Rattle.nz_tab.proofs.joining.put_units.Goals as goal

pub loop-unit-preserved : goal.loop-unit-preserved
loop-unit-preserved c =
    let marks = c.args.nonbasic.now.items in
    let places = c.args.places.now.items in
    let i = c.loop-unit.unit in
    let w = c.args.width in
    record {
      marks =
          c.push_reserved.ensures.items
          ∙ ap (λ (l : List Bool). l ++ true ∷ []) c.loop-unit.invariant.marks
          ∙ append_assoc marks (replicate i true) (true ∷ [])
          ∙ ap (λ (l : List Bool). marks ++ l) (replicate_more i true);
      places =
          c.push_reserved-in-loop-unit.ensures.items
          ∙ ap (λ (l : List ℕ). l ++ (w + i) ∷ []) c.loop-unit.invariant.places
          ∙ append_assoc places (next_columns w i) ((w + i) ∷ [])
          ∙ ap (λ (m : ℕ). places ++ next_columns w m) (sym (add-one i));
      marks_len = c.push_reserved.ensures.len ∙ omega (arith, c.loop-unit.invariant.marks_len);
      places_len = c.push_reserved-in-loop-unit.ensures.len ∙ omega (arith, c.loop-unit.invariant.places_len);
      marks_capacity = c.push_reserved.ensures.capacity ∙ c.loop-unit.invariant.marks_capacity;
      places_capacity = c.push_reserved-in-loop-unit.ensures.capacity ∙ c.loop-unit.invariant.places_capacity;
    }
