-- The numbers of a term's arguments and of its companion at the end of a list.
use Rattle.std.proofs.Common.{◌≡◌, ℕ, ◌<◌, List, [], ◌∷◌, ◌++◌, length, map, Some, None, All, sym, ap, subst, ◌∙◌, append-nil}
use Rattle.std.proofs.lemmas.List.Elements.{All-cons, All-nil}
use Rattle.nz_spec.specs.terms.Term.{Head, apply}
use Rattle.nz_spec.specs.terms.Table.{Node, term_in, terms_at}
use Rattle.nz_spec.specs.terms.Order.{companions_of}
use Rattle.nz_term.specs.Listings.{AreCompanions}
use Rattle.nz_cform.specs.Covering.{PutsParts, kids_at}

module _ (ns : List Node) (t : ℕ) (before kids : List ℕ) (h : Head) (node : kids_at ns t ≡ kids) (term : term_in ns t ≡ apply h (terms_at (term_in ns) kids)) (below : All (λ k. k < t) kids) where
  puts : (cs after : List ℕ) → after ≡ before ++ kids ++ cs → All (λ c. c < length ns) cs → map (term_in ns) cs ≡ companions_of (term_in ns t) → PutsParts ns t before after
  puts cs after e inside beside =
      record {
        companions = cs;
        joined = e ∙ ap (λ ks. before ++ ks ++ cs) (sym node);
        head = h;
        is = term ∙ ap (λ ks. apply h (terms_at (term_in ns) ks)) (sym node);
        below = subst (All (λ k. k < t)) (sym node) below;
        inside = inside;
        beside = beside;
      }

  -- with the companion, behind the arguments
  pub puts_one : (c : ℕ) (middle after : List ℕ) → middle ≡ before ++ kids → after ≡ middle ++ c ∷ [] → AreCompanions ns (term_in ns t) (Some c) → PutsParts ns t before after
  puts_one c middle after first last companion =
      puts (c ∷ []) after (last ∙ ap (λ l. l ++ c ∷ []) first) (All-cons (λ k. k < length ns) c [] companion.0 (All-nil (λ k. k < length ns))) (sym companion.1)

  -- where there is none
  pub puts_none : (after : List ℕ) → after ≡ before ++ kids → AreCompanions ns (term_in ns t) None → PutsParts ns t before after
  puts_none after all none = puts [] after (all ∙ sym (append-nil (before ++ kids))) (All-nil (λ k. k < length ns)) (sym none)
