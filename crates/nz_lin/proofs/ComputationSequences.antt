-- Computations one after another, up to the first operation that leaves the numbers.
use Rattle.std.proofs.Common.{◌≡◌, List, Result, Ok, Err, refl, sym, ap, subst, ◌∙◌}
use Rattle.std.specs.Prelude.{IsErrAnd}
use Rattle.std.proofs.lemmas.Result.{err_from_is_err_and}
use Rattle.nz_fractions.specs.Fraction.{first_wide}
use Rattle.nz_fractions.proofs.FirstOperations.{first_wide-none, first_wide-some, no_operation}
use Rattle.nz_spec.specs.numbers.Computation.{Computation, IsSame, at_once, turned_into, and_then}
use Rattle.nz_spec.specs.terms.Form as spec
use Rattle.nz_spec.specs.terms.Table.{Node}
use Rattle.nz_frac.specs.Operations.{operation_of}
use Rattle.nz_term.specs.declared.stops.ArithmeticStop.{ArithmeticStop}
use Rattle.nz_term.specs.declared.stops.ArithmeticStop.TheVariants.{Wide, Memory}
use Rattle.nz_term.specs.Stops.{IsStopAt}
use Rattle.nz_lin.specs.Forms.{Numbered}
use Rattle.nz_lin.specs.Comes.{IsDone, IsFormed}

-- what is said of an error holds of the result by which it is handed on
pub handed_on : {T E : Type 0} (P : Result T E → Type 0) (r : Result T E) (s : E) → IsErrAnd r (λ e. e ≡ s) → P (Err s) → P r
handed_on P r s h p = let error = err_from_is_err_and r h in subst P (sym (error.1 ∙ ap Err error.2)) p

-- ---- Computations that are one

pub same_itself : {A : Type 0} (c : Computation A) → IsSame c c
same_itself c = record { result = refl; stop = refl }

pub same_more : {A : Type 0} (c d e : Computation A) → IsSame c d → IsSame d e → IsSame c e
same_more c d e s t = record { result = s.result ∙ t.result; stop = s.stop ∙ t.stop }

pub same_done : {A : Type 0} (c d : Computation A) (x : A) → IsSame c d → IsDone c x → IsDone d x
same_done c d x s h = record { result = h.result ∙ s.result; fits = sym s.stop ∙ h.fits }

pub same_stop : {A : Type 0} (c d : Computation A) (s : ArithmeticStop) → IsSame c d → IsStopAt (first_wide c.operations) s → IsStopAt (first_wide d.operations) s
same_stop c d s e h = subst (λ o. IsStopAt o s) e.stop h

pub same_formed : (ns : List Node) (c d : Computation spec.Form) (r : Result Numbered ArithmeticStop) → IsSame c d → IsFormed ns c r → IsFormed ns d r
same_formed ns c d (Ok f) s h = (same_done c d _ s h.0, h.1)
same_formed ns c d (Err e) s h = same_stop c d e s h

-- what needs no operation
pub at_once_done : {A : Type 0} (x : A) → IsDone (at_once x) x
at_once_done x = record { result = refl; fits = no_operation }

module _ {A B : Type 0} where
  pub turned_done : (f : A → B) (c : Computation A) (x : A) → IsDone c x → IsDone (turned_into f c) (f x)
  turned_done f c x h = record { result = ap f h.result; fits = h.fits }

  module _ (c : Computation A) (f : A → Computation B) where
    -- where the first is done, the second is left
    pub one_step : (x : A) → IsDone c x → IsSame (f x) (and_then c f)
    one_step x h = record {
      result = ap (λ y. (f y).result) h.result;
      stop = ap (λ y. first_wide (f y).operations) h.result ∙ sym (first_wide-none c.operations (f c.result).operations h.fits);
    }

    pub done_both : (x : A) (y : B) → IsDone c x → IsDone (f x) y → IsDone (and_then c f) y
    done_both x y h k = same_done (f x) (and_then c f) y (one_step x h) k

    pub stop_second : (x : A) (s : ArithmeticStop) → IsDone c x → IsStopAt (first_wide (f x).operations) s → IsStopAt (first_wide (and_then c f).operations) s
    stop_second x s h k = same_stop (f x) (and_then c f) s (one_step x h) k

    pub stop_first : (s : ArithmeticStop) → IsStopAt (first_wide c.operations) s → IsStopAt (first_wide (and_then c f).operations) s
    stop_first (Wide w) h = first_wide-some c.operations (f c.result).operations (operation_of w) h
    stop_first Memory h = tt
