-- The status of what was kept.
use Rattle.std.proofs.Common.{ℕ, ◌+◌, ◌<◌, List, [], ◌∷◌, ◌++◌, length, get_or, take, Bool, true, false, ◌||◌, sym, ap, ◌∙◌, zero, suc, ◌≡◌, arith}
use Rattle.std.proofs.lemmas.List.{take_more}
use Rattle.std.specs.List.{list_any}
use Rattle.std.proofs.Math.Bool.{or-false, or_assoc}
use Rattle.std.proofs.lemmas.Bool.{or_from, or_right}
use Rattle.nz_spec.specs.terms.Table.{Node}
use Rattle.nz_script.specs.run.Transcript.{Kept}
use Rattle.nz_reply.specs.declared.reply.Kept as kept
use Rattle.nz_reply.specs.Replies.{all_kept, kept_of}

-- a reply that passes a test makes some reply pass it
pub any_at : (ns : List Node) (test : Kept → Bool) (ks : List kept.Kept) (i : ℕ) (k : kept.Kept) → i < length ks → k ≡ get_or ks i k → test (kept_of ns k) ≡ true → list_any test (all_kept ns ks) ≡ true
any_at ns test [] i k h e t = absurd (omega arith)
any_at ns test (j ∷ js) zero k h e t = ap (λ b. b || list_any test (all_kept ns js)) (ap (λ x. test (kept_of ns x)) (sym e) ∙ t)
any_at ns test (j ∷ js) (suc i) k h e t = or_right (test (kept_of ns j)) (list_any test (all_kept ns js)) (any_at ns test js i k (omega arith) e t)

any_last : (ns : List Node) (test : Kept → Bool) (ks : List kept.Kept) (k : kept.Kept) → list_any test (all_kept ns (ks ++ k ∷ [])) ≡ (list_any test (all_kept ns ks) || test (kept_of ns k))
any_last ns test [] k = or-false (test (kept_of ns k))
any_last ns test (j ∷ js) k = ap (λ b. test (kept_of ns j) || b) (any_last ns test js k) ∙ sym (or_assoc (test (kept_of ns j)) (list_any test (all_kept ns js)) (test (kept_of ns k)))

-- no reply up to the next passes the test
pub none_next : (ns : List Node) (test : Kept → Bool) (ks : List kept.Kept) (i : ℕ) (k : kept.Kept) → i < length ks → k ≡ get_or ks i k
    → list_any test (all_kept ns (take i ks)) ≡ false → test (kept_of ns k) ≡ false → list_any test (all_kept ns (take (i + 1) ks)) ≡ false
none_next ns test ks i k below is none here =
    let more : take (i + 1) ks ≡ take i ks ++ k ∷ [] = take_more ks i k below ∙ ap (λ x. take i ks ++ x ∷ []) (sym is) in
    ap (λ l. list_any test (all_kept ns l)) more
    ∙ any_last ns test (take i ks) k
    ∙ or_from (list_any test (all_kept ns (take i ks))) (test (kept_of ns k)) none here
