-- What stays of a log and of what is covered where both are cut.
use Rattle.std.proofs.Common.{◌≡◌, ℕ, ◌≤◌, Bool, true, false, List, Option, Some, None, sym, subst, arith}
use Rattle.std.specs.Prelude.{nat_le, unwrap_or, if◌then◌else◌}
use Rattle.std.specs.Bool.{OnTrue}
use Rattle.nz_spec.specs.terms.Table.{Node}
use Rattle.nz_log.specs.Logs.{LogState, Drops, told_below, told_of}
use Rattle.nz_cform.specs.Covering.{Covers}
use Rattle.nz_cform.specs.Forms.{FormState, Cuts}
use Rattle.nz_cform.specs.Laws.{CoversStay}
use Rattle.nz_cform_tests.specs.Covers.{IsCover}

-- what is known to be so
pub known : (b : Bool) (P : Type 0) → b ≡ true → OnTrue b P → P
known b P is h = subst (λ (x : Bool). OnTrue x P) is h

-- a level that stays is no greater
no_greater : (level n : ℕ) (o : Option ℕ) → unwrap_or o 0 ≤ n → unwrap_or (told_below level o) 0 ≤ n
no_greater level n None h = h
no_greater level n (Some m) h = by_test (nat_le m level)
  where
    by_test : (b : Bool) → unwrap_or (if b then Some m else None) 0 ≤ n
    by_test true = h
    by_test false = omega arith

module _ (stay : CoversStay) (ns : List Node) (old new : LogState) (s cut : FormState) (level n : ℕ) (drops : Drops old level new) (cuts : Cuts s level cut) where
  covers_cut : (b : Bool) → OnTrue b (Covers ns old s) → OnTrue b (Covers ns new cut)
  covers_cut true h = stay.dropped ns old new s cut level drops cuts h
  covers_cut false h = tt

  pub cover_cut : (b : Bool) → IsCover ns old s n b → IsCover ns new cut n b
  cover_cut b h =
      record {
        companions = h.companions;
        told = λ t. subst (λ (o : Option ℕ). unwrap_or o 0 ≤ n) (sym (drops.told t)) (no_greater level n (told_of old t) (h.told t));
        covers = covers_cut b h.covers;
      }
