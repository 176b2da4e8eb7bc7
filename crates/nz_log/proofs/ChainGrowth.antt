-- Logs that grow by a chain, or by nothing.
use Rattle.std.proofs.Common.{◌≡◌, inl, inr, ℕ, ◌<◌, List, None, Some, Result, Ok, Err, refl, sym, ap, subst, ◌∙◌, arith}
use Rattle.std.specs.Prelude.{All, IfOk, IsSome, OnErr}
use Rattle.nz_base.specs.declared.errors.Memory.{Memory}
use Rattle.std.proofs.lemmas.Bool.Decides.{eqb_tells}
use Rattle.nz_log.specs.declared.origins.Link.{Link}
use Rattle.nz_log.specs.Logs.{Entry, LogState, row_term, entry_at, IsLive, Puts, chain_entry}
use Rattle.nz_log.specs.Growth.{Grows}
use Rattle.nz_log.proofs.Leveled.{logs_stay_leveled}

-- by the last of a chain of resolvents
grows_by_chain : (old new : LogState) (id first : ℕ) (ks : List Link) → Puts old id (chain_entry old first ks) new → IsLive old first
    → All (λ (k : Link). IsLive old k.clause) ks → Grows old new
grows_by_chain old new id first ks puts live lives =
    record {
      live = puts.stay;
      kept = λ i h. puts.kept i (λ same. let below : i < id = puts.above i h in absurd (omega (arith, below, same)));
      told = puts.told;
      atoms = puts.atoms;
      rows = λ i e at row. elim (eqb_tells i id) [
        | inl here ↦
            let both : Some (chain_entry old first ks) ≡ Some e = sym puts.made ∙ ap (entry_at new) (sym here.1) ∙ at in
            let one : chain_entry old first ks ≡ e = cc in
            absurd (let none : IsSome {T = ℕ} None = subst (λ o. IsSome o) (sym (ap (λ (x : Entry). row_term x.origin) one)) row in cc)
        | inr other ↦ subst (λ o. IsSome o) (sym (sym (puts.kept i other.1) ∙ at)) refl
      ];
      leveled = logs_stay_leveled.chain old new id first ks puts live lives;
    }

-- by the answer of a call that puts it, or finds no memory
pub chain_grows : (old new : LogState) (first : ℕ) (ks : List Link) (r : Result ℕ Memory) → IfOk r (λ id. Puts old id (chain_entry old first ks) new)
    → OnErr r (new ≡ old) → IsLive old first → All (λ (k : Link). IsLive old k.clause) ks → Grows old new
chain_grows old new first ks (Ok id) puts same live lives = grows_by_chain old new id first ks puts live lives
chain_grows old new first ks (Err e) puts same live lives =
    subst (Grows old) (sym same)
    (record {
      live = λ i h. h;
      kept = λ i h. refl;
      told = refl;
      atoms = λ i a at. at;
      rows = λ i e at row. subst (λ o. IsSome o) (sym at) refl;
      leveled = λ h. h;
    })
