-- A chain by its links, from the set of its first clause.
use Rattle.std.proofs.Common.{◌≡◌, ℕ, suc, ◌+◌, ◌<◌, List, [], ◌∷◌, ◌++◌, length, drop, get_or, refl, sym, ap, ◌∙◌, add-one, arith}
use Rattle.std.proofs.Math.Seq.{drop-cons}
use Rattle.nz_spec.specs.clauses.Literal.{once, without}
use Rattle.nz_log.specs.declared.lits.Lit.{Lit}
use Rattle.nz_log.specs.declared.origins.Link.{Link}
use Rattle.nz_log.specs.Lits.{are_same_lit, negated_lit, lit_resolvent}
use Rattle.nz_log.specs.Logs.{LogState, chained, literals_at}
use Rattle.nz_log.proofs.LiteralSets.{resolvent_of_set, set_of_set}

resolvents_of_set : (l : Lit) (c d : List Lit) → lit_resolvent l (once are_same_lit c) d ≡ lit_resolvent l c d
resolvents_of_set l c d =
    sym (resolvent_of_set l (once are_same_lit c) d (once are_same_lit c) (sym (set_of_set c))) ∙ resolvent_of_set l c d (once are_same_lit c) refl

-- what the first link makes of a list and of its set is the same
pub chained_of_set : (s : LogState) (c e : List Lit) (ks : List Link) → 0 < length ks → e ≡ once are_same_lit c → chained s e ks ≡ chained s c ks
chained_of_set s c e [] some is = absurd (omega arith)
chained_of_set s c e (k ∷ ks) some is =
    ap (λ (d : List Lit). chained s d ks)
    (ap (λ (d : List Lit). lit_resolvent k.literal d (literals_at s k.clause)) is ∙ resolvents_of_set k.literal c (literals_at s k.clause))

-- one link
pub chained_next : (s : LogState) (c e : List Lit) (ks : List Link) (i : ℕ) (d : Link) → i < length ks
    → e ≡ lit_resolvent (get_or ks i d).literal c (literals_at s (get_or ks i d).clause) → chained s e (drop (i + 1) ks) ≡ chained s c (drop i ks)
chained_next s c e ks i d within is =
    ap (λ n. chained s e (drop n ks)) (add-one i)
    ∙ ap (λ (f : List Lit). chained s f (drop (suc i) ks)) is
    ∙ sym (ap (chained s c) (drop-cons ks i d within))

pub resolvent_set : (l : Lit) (c d e : List Lit) → e ≡ lit_resolvent l c d → once are_same_lit e ≡ e
resolvent_set l c d e is =
    ap (once are_same_lit) is ∙ set_of_set (without are_same_lit l c ++ without are_same_lit (negated_lit l) d) ∙ sym is
