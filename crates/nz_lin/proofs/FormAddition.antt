-- One part more, or one form more, is added or subtracted.
use Rattle.std.proofs.Common.{List, ◌∷◌}
use Rattle.nz_spec.specs.numbers.Computation.{Computation, operated, turned_into, IsSame}
use Rattle.nz_spec.specs.terms.Form as spec
use Rattle.nz_spec.specs.terms.Form.{Numbering, Form, all_joined, joined, part_joined, parts_joined, parts_scaled, scaled}
use Rattle.nz_fractions.specs.Fraction.{Fraction, Arithmetic, first_wide}
use Rattle.nz_term.specs.declared.stops.ArithmeticStop.{ArithmeticStop}
use Rattle.nz_term.specs.Stops.{IsStopAt}
use Rattle.nz_lin.specs.Comes.{IsDone}
use Rattle.nz_lin.proofs.ComputationSequences.{done_both, one_step, same_more, same_stop, stop_first, stop_second, turned_done}

module _ (number : Numbering) (op : Arithmetic) where
  module _ (now : List spec.Part) (q : spec.Part) (rest : List spec.Part) (whole : Computation (List spec.Part)) (h : IsSame (parts_joined number op now (q ∷ rest)) whole) where
    pub join_stop : (s : ArithmeticStop) → IsStopAt (first_wide (part_joined number op now q).operations) s → IsStopAt (first_wide whole.operations) s
    join_stop s stop =
        same_stop (parts_joined number op now (q ∷ rest)) whole s h (stop_first (part_joined number op now q) (λ rs. parts_joined number op rs rest) s stop)

    pub join_more : (new : List spec.Part) → IsDone (part_joined number op now q) new → IsSame (parts_joined number op new rest) whole
    join_more new done =
        same_more (parts_joined number op new rest) (parts_joined number op now (q ∷ rest)) whole
        (one_step (part_joined number op now q) (λ rs. parts_joined number op rs rest) new done) h

  -- the parts, and then what is added
  module _ (f g : Form) where
    abbrev rest_of : List spec.Part → Computation Form
    rest_of ps = turned_into (λ (c : Fraction). record { parts = ps; offset = c }) (operated op f.offset g.offset)

    pub joined_done : (ps : List spec.Part) (c : Fraction) → IsDone (parts_joined number op f.parts g.parts) ps → IsDone (operated op f.offset g.offset) c
        → IsDone (joined number op f g) (record { parts = ps; offset = c })
    joined_done ps c h k =
        done_both (parts_joined number op f.parts g.parts) rest_of ps (record { parts = ps; offset = c }) h
        (turned_done (λ (x : Fraction). record { parts = ps; offset = x }) (operated op f.offset g.offset) c k)

    pub joined_stop : (s : ArithmeticStop) → IsStopAt (first_wide (parts_joined number op f.parts g.parts).operations) s → IsStopAt (first_wide (joined number op f g).operations) s
    joined_stop s stop = stop_first (parts_joined number op f.parts g.parts) rest_of s stop

    pub joined_late_stop : (ps : List spec.Part) → IsDone (parts_joined number op f.parts g.parts) ps → (s : ArithmeticStop) → IsStopAt (first_wide (operated op f.offset g.offset).operations) s
        → IsStopAt (first_wide (joined number op f g).operations) s
    joined_late_stop ps h s stop = stop_second (parts_joined number op f.parts g.parts) rest_of ps s h stop

  -- one form after another
  module _ (now : Form) (g : Form) (rest : List Form) (whole : Computation Form) (h : IsSame (all_joined number op now (g ∷ rest)) whole) where
    pub all_stop : (s : ArithmeticStop) → IsStopAt (first_wide (joined number op now g).operations) s → IsStopAt (first_wide whole.operations) s
    all_stop s stop = same_stop (all_joined number op now (g ∷ rest)) whole s h (stop_first (joined number op now g) (λ f. all_joined number op f rest) s stop)

    pub all_more : (new : Form) → IsDone (joined number op now g) new → IsSame (all_joined number op new rest) whole
    all_more new done =
        same_more (all_joined number op new rest) (all_joined number op now (g ∷ rest)) whole (one_step (joined number op now g) (λ f. all_joined number op f rest) new done) h

-- the coefficients, and then what is added
module _ (times : Fraction → Computation Fraction) (f : Form) where
  abbrev scaled_rest : List spec.Part → Computation Form
  scaled_rest ps = turned_into (λ (c : Fraction). record { parts = ps; offset = c }) (times f.offset)

  pub scaled_done : (ps : List spec.Part) (c : Fraction) → IsDone (parts_scaled times f.parts) ps → IsDone (times f.offset) c → IsDone (scaled times f) (record { parts = ps; offset = c })
  scaled_done ps c h k =
      done_both (parts_scaled times f.parts) scaled_rest ps (record { parts = ps; offset = c }) h
      (turned_done (λ (x : Fraction). record { parts = ps; offset = x }) (times f.offset) c k)

  pub parts_stop : (s : ArithmeticStop) → IsStopAt (first_wide (parts_scaled times f.parts).operations) s → IsStopAt (first_wide (scaled times f).operations) s
  parts_stop s stop = stop_first (parts_scaled times f.parts) scaled_rest s stop

  pub offset_stop : (ps : List spec.Part) → IsDone (parts_scaled times f.parts) ps → (s : ArithmeticStop) → IsStopAt (first_wide (times f.offset).operations) s
      → IsStopAt (first_wide (scaled times f).operations) s
  offset_stop ps h s stop = stop_second (parts_scaled times f.parts) scaled_rest ps s h stop
