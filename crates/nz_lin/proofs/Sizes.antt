-- Sizes of terms, by which the making of forms comes to an end.
use Rattle.std.proofs.Common.{◌≡◌, ℕ, suc, ◌+◌, ◌*◌, ◌<◌, List, [], ◌∷◌, ◌++◌, map, Some, None, slice_get, refl, sym, ap, subst, ◌∙◌, arith, if◌then◌else◌}
use Rattle.std.specs.Prelude.{Bool, true, false, is_some, reverse}
use Rattle.std.proofs.lemmas.List.{map-append, reverse-append}
use Rattle.nz_spec.specs.terms.Term.{Term, apply, Terms, no_terms, terms}
use Rattle.nz_spec.specs.terms.Table.{IsTable, Node, TermOfNode, term_in, terms_at}
use Rattle.nz_lin.specs.declared.linear.Step.{Step}
use Rattle.nz_lin.specs.declared.linear.Step.TheVariants.{Enter, Leave}
use Rattle.nz_lin.specs.Making.{entries, opened_kids, opening_in, steps_of}

-- how many terms one is made of
abbrev mutual
  pub size : Term → ℕ
  size (apply h ts) = suc (sizes ts)

  pub sizes : Terms → ℕ
  sizes no_terms = 0
  sizes (terms t ts) = size t + sizes ts

-- entries from the top of a stack down
pub turned : (ks : List ℕ) → map Enter (reverse ks) ≡ reverse (map Enter ks)
turned [] = refl
turned (k ∷ ks) =
    ap (map Enter) (reverse-append (k ∷ []) ks) ∙ map-append Enter (reverse ks) (k ∷ []) ∙ ap (λ (l : List Step). l ++ Enter k ∷ []) (turned ks)
    ∙ sym (reverse-append (Enter k ∷ []) (map Enter ks))

module _ (ns : List Node) where
  -- a term is entered and left, and so is all that it is made of
  abbrev pub weight : Step → ℕ
  weight (Enter id) = 2 * size (term_in ns id)
  weight (Leave id) = 1

  abbrev pub weights : List Step → ℕ
  weights [] = 0
  weights (s ∷ ss) = weight s + weights ss

  pub weights-append : (ss us : List Step) → weights (ss ++ us) ≡ weights ss + weights us
  weights-append [] us = omega arith
  weights-append (s ∷ ss) us = let more = weights-append ss us in omega arith

  -- what is popped is gone
  less_popped : (ss : List Step) (s : Step) → weights (ss ++ s ∷ []) ≡ weights ss + weight s
  less_popped ss s = let more = weights-append ss (s ∷ []) in omega arith

  some_size : (t : Term) → 0 < size t
  some_size (apply h ts) = omega arith

  less_gone : (ss : List Step) (s : Step) → weights ss < weights (ss ++ s ∷ [])
  less_gone ss (Enter id) = let whole = less_popped ss (Enter id) in let some = some_size (term_in ns id) in omega arith
  less_gone ss (Leave id) = let whole = less_popped ss (Leave id) in omega arith

  pub less_on : (items ss : List Step) (s : Step) → items ≡ ss ++ s ∷ [] → weights ss < weights items
  less_on items ss s stack = subst (λ (l : List Step). weights ss < weights l) (sym stack) (less_gone ss s)

  entered : (ks : List ℕ) → weights (map Enter ks) ≡ 2 * sizes (terms_at (term_in ns) ks)
  entered [] = refl
  entered (k ∷ ks) = let more = entered ks in omega arith

  weights-reverse : (ss : List Step) → weights (reverse ss) ≡ weights ss
  weights-reverse [] = refl
  weights-reverse (s ∷ ss) =
      let more = weights-reverse ss in
      let parts = weights-append (reverse ss) (s ∷ []) in
      let turn : weights (reverse (s ∷ ss)) ≡ weights (reverse ss ++ s ∷ []) = ap weights (reverse-append (s ∷ []) ss) in
      omega arith

  entries_weigh : (ks : List ℕ) → weights (entries ks) ≡ 2 * sizes (terms_at (term_in ns) ks)
  entries_weigh ks = ap weights (turned ks) ∙ weights-reverse (map Enter ks) ∙ entered ks

  opened_weigh : (b : Bool) (ks : List ℕ) → weights (entries (if b then ks else [])) < suc (2 * sizes (terms_at (term_in ns) ks))
  opened_weigh true ks = let all = entries_weigh ks in omega arith
  opened_weigh false ks = omega arith

  -- a term is left, and its arguments are entered
  less_entered : TermOfNode → IsTable ns → (ss : List Step) (id : ℕ) (n : Node) → slice_get ns id ≡ Some n → weights (ss ++ steps_of ns id) < weights (ss ++ Enter id ∷ [])
  less_entered law table ss id n at =
      let before = less_popped ss (Enter id) in
      let after = weights-append ss (steps_of ns id) in
      let of : size (term_in ns id) ≡ suc (sizes (terms_at (term_in ns) n.kids)) = ap size (law ns table id n at) in
      let kids : opened_kids ns id ≡ (if is_some (opening_in (term_in ns id)) then n.kids else []) =
      ap (λ o. if is_some (opening_in (term_in ns id)) then elim o [ Some m ↦ m.kids | None ↦ [] ] else []) at in
      let less : weights (entries (opened_kids ns id)) < suc (2 * sizes (terms_at (term_in ns) n.kids)) =
      subst (λ (l : List ℕ). weights (entries l) < suc (2 * sizes (terms_at (term_in ns) n.kids))) (sym kids) (opened_weigh (is_some (opening_in (term_in ns id))) n.kids) in
      omega arith

  pub less_opened : TermOfNode → IsTable ns → (items new ss : List Step) (s : Step) (id : ℕ) (n : Node) → slice_get ns id ≡ Some n → items ≡ ss ++ s ∷ [] → s ≡ Enter id → new ≡ ss ++ steps_of ns id
      → weights new < weights items
  less_opened law table items new ss s id n at stack same put =
      subst (λ (l : List Step). weights new < weights l) (sym (stack ∙ ap (λ (x : Step). ss ++ x ∷ []) same))
      (subst (λ (l : List Step). weights l < weights (ss ++ Enter id ∷ [])) (sym put) (less_entered law table ss id n at))
