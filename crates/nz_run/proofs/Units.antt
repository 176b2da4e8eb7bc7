-- What `clap` found, as units of work.
use Rattle.std.proofs.Common.{◌≡◌, ℕ, List, Option, Some, None, Result, Ok, Err, true, refl, sym, ◌∙◌, ap}
use Rattle.std.specs.Prelude.{option_map, unwrap_or, codes}
use Rattle.std.specs.Str.Parse.{ParsesUnsigned}
use Rattle.clap.specs.Words.{Row, Text, ReadsOne, one_of, one_text, rows_of}
use Rattle.clap.specs.Faults.{is_simple_and_free}
use Rattle.clap.proofs.OnLiterals.{clap_on_literals}
use Rattle.clap.proofs.WalkLemmas.{one_text-rows}
use Rattle.clap.specs.declared.parser.matches.Found.{Found}
use Rattle.nz_script.specs.run.Run.{solve_limit}
use Rattle.nz_run.specs.Words.{AreUnitsBy, IsReadAs, nuz_command, work_of}

-- a text that was read, and how
read_by : {E : Type 0} (G : Text → Result ℕ E → Type 0) → ((t : Text) (x : Result ℕ E) → G t x → ParsesUnsigned 32 10 t x) → (o : Option Text) (r : Option ℕ)
    → (o ≡ None → r ≡ None) → ((t : Text) → o ≡ Some t → ReadsOne G t r) → IsReadAs o r
read_by G parses None r none some = none refl
read_by G parses (Some t) (Some n) none some = parses t (Ok n) (some t refl)
read_by G parses (Some t) None none some = let e = some t refl in parses t (Err e.0) e.1

-- the subcommand's text, by what its matches have
work_at : (found : Option (Text × List Row)) (f : Found) → option_map (λ p. p.1) found ≡ Some (rows_of f) → work_of found ≡ one_text f (codes "work")
work_at None f h = cc
work_at (Some p) f h =
    let rows : p.1 ≡ rows_of f = cc in
    ap (one_of (codes "work")) rows ∙ sym (one_text-rows f (codes "work"))

pub units_found : {E : Type 0} (G : Text → Result ℕ E → Type 0) → ((t : Text) (x : Result ℕ E) → G t x → ParsesUnsigned 32 10 t x) → (found : Option (Text × List Row)) (f : Found) (r : Option ℕ)
    → option_map (λ p. p.1) found ≡ Some (rows_of f) → (one_text f (codes "work") ≡ None → r ≡ None) → ((t : Text) → one_text f (codes "work") ≡ Some t → ReadsOne G t r)
    → AreUnitsBy (work_of found) (unwrap_or r solve_limit)
units_found G parses found f r h none some =
    let at = work_at found f h in
    (r, read_by G parses (work_of found) r (λ e. none (sym at ∙ e)) (λ t e. some t (sym at ∙ e)), refl)

-- ---- Words that are taken

pub is_simple_command : is_simple_and_free nuz_command ≡ true
unfolding clap_on_literals
is_simple_command = refl
