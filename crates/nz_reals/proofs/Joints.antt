-- Which bounds have their clause with the one before them, and which have none.
use Rattle.std.proofs.Common.{◌≡◌, ℕ, ◌+◌, ◌-◌, ◌<◌, ◌⊎◌, inl, inr, Bool, true, false, true≢false, List, [], ◌∷◌, ◌++◌, get_or, length, not, take, Some, refl, sym, ap, ◌∙◌, subst}
use Rattle.std.specs.Prelude.{Contains, slice_get}
use Rattle.std.proofs.lemmas.List.{take_more}
use Rattle.std.proofs.lemmas.List.Elements.{All-contains, Contains-get_or, Contains-push_cases}
use Rattle.nz_lists.proofs.Members.{has_found, map_has}
use Rattle.nz_lists.proofs.Places.{slice_get-push_cases}
use Rattle.nz_log.specs.declared.atoms.Atom.{Atom}
use Rattle.nz_log.specs.declared.lits.Lit.{Lit}
use Rattle.nz_log.specs.Lits.{negated_lit}
use Rattle.nz_log.specs.Logs.{IsLive, LogState, literals_at}
use Rattle.nz_reals.specs.declared.neighbours.Lower as code
use Rattle.nz_reals.specs.Exclusions.{AreJoined, AreLowers, AreMarked, AreOpen, HasJoint, HasNoJoint, HasNone, IsLower, IsNoted, IsPair, Joins, Marks, lits_of}
use Rattle.nz_reals.specs.Stands.{IsOf}
use Rattle.nz_reals.specs.State.{Theory}
use Rattle.nz_reals.proofs.LowerBounds.{one_lower}
use Rattle.nz_reals.proofs.RefutationClauses.{lit_back}

-- ---- One clause after another

module _ (log : LogState) (held : List ℕ) (xs : List code.Lower) (n : ℕ) (less : n < length held) where
  abbrev id : ℕ
  id = get_or held n 0

  on_more : (k : ℕ) → Contains (take (n + 1) held) k → Contains (take n held) k ⊎ (id ≡ k)
  on_more k has = Contains-push_cases (take n held) id k (subst (λ (l : List ℕ). Contains l k) (take_more held n 0 less) has)

  pub joined_too : (old new : List Bool) → IsLive log id → AreJoined log held xs old → Marks xs (literals_at log id) old new → AreJoined log held xs new
  joined_too old new live are marks i at =
      elim (marks.right i at) [ inl joins ↦ (id, Contains-get_or held n 0 less, live, joins) | inr was ↦ are i was ]

  pub marked_too : (slots places : List ℕ) (old new : List Bool) → Marks xs (literals_at log id) old new
      → ((i : ℕ) → 0 < i → IsNoted xs slots places i → Joins xs i (literals_at log id) → slice_get new i ≡ Some true) → AreMarked log (take n held) xs slots places old → AreMarked log (take (n + 1) held) xs slots places new
  marked_too slots places old new marks here are i first noted k has joins =
      elim (on_more k has) [
        | inl before ↦ marks.stay i (are i first noted k before joins)
        | inr same ↦ here i first noted (subst (λ (m : ℕ). Joins xs i (literals_at log m)) (sym same) joins)
      ]

  pub no_joint_more : (place : ℕ) → (0 < place → Joins xs place (literals_at log id) → ⊥) → HasNoJoint log (take n held) xs place → HasNoJoint log (take (n + 1) held) xs place
  no_joint_more place none are first k has joins =
      elim (on_more k has) [ inl before ↦ are first k before joins | inr same ↦ none first (subst (λ (m : ℕ). Joins xs place (literals_at log m)) (sym same) joins) ]

-- ---- One place after another

pub joined_pushed : (log : LogState) (held : List ℕ) (xs : List code.Lower) (marks : List Bool) (b : Bool) (place : ℕ) → length marks ≡ place → (b ≡ true → HasJoint log held xs place) → AreJoined log held xs marks
    → AreJoined log held xs (marks ++ b ∷ [])
joined_pushed log held xs marks b place long has are i at =
    elim (slice_get-push_cases marks b i true at) [ inl was ↦ are i was | inr new ↦ subst (HasJoint log held xs) (sym (new.0 ∙ long)) (has new.1) ]

pub open_pushed : (log : LogState) (held : List ℕ) (xs : List code.Lower) (marks : List Bool) (b : Bool) (place : ℕ) → length marks ≡ place → (b ≡ false → HasNoJoint log held xs place) → AreOpen log held xs marks
    → AreOpen log held xs (marks ++ b ∷ [])
open_pushed log held xs marks b place long none are i at =
    elim (slice_get-push_cases marks b i false at) [ inl was ↦ are i was | inr new ↦ subst (HasNoJoint log held xs) (sym (new.0 ∙ long)) (none new.1) ]

-- ---- Neighbours that no clause joins

never_negated : (l : Lit) → l ≡ negated_lit l → ⊥
never_negated l e = by_sign l.sign (ap (λ (x : Lit). x.sign) e)
  where
    by_sign : (b : Bool) → b ≡ not b → ⊥
    by_sign true f = true≢false f
    by_sign false f = true≢false (sym f)

pub none_joined : (t : Theory) (atoms : List Atom) (some ids : List ℕ) → IsOf t atoms some → (log : LogState) (held : List ℕ) (xs : List code.Lower) (i : ℕ) → AreLowers t ids (lits_of xs) → 0 < i → HasNoJoint log held xs i
    → (stronger weaker : code.Lower) → slice_get xs i ≡ Some stronger → slice_get xs (i - 1) ≡ Some weaker → HasNone log held stronger.literal (negated_lit weaker.literal)
none_joined t atoms some ids of log held xs i are first apart stronger weaker at at_before id has same =
    let low : (x : code.Lower) → Contains xs x → IsLower t x.literal =
    λ x there. (All-contains (λ (l : Lit). Contains ids l.atom × IsLower t l) (lits_of xs) x.literal are.right (map_has (λ (y : code.Lower). y.literal) xs x there)).1 in
    let two : weaker.literal ≡ negated_lit stronger.literal → ⊥ =
    λ e.
    let one : weaker.literal ≡ stronger.literal =
    one_lower t atoms some of stronger.literal weaker.literal (ap (λ (l : Lit). l.atom) e) (low stronger (has_found xs i stronger at)) (low weaker (has_found xs (i - 1) weaker at_before)) in
    never_negated stronger.literal (sym one ∙ e) in
    let pair : IsPair xs i (negated_lit stronger.literal) weaker.literal = record { stronger = stronger; at = at; before = weaker; at_before = at_before; first = refl; second = refl; two = two } in
    apart first id has (
      negated_lit stronger.literal,
      weaker.literal,
      pair,
      elim same [
        | inl is ↦ inl (is ∙ ap (λ (l : Lit). negated_lit stronger.literal ∷ l ∷ []) (lit_back weaker.literal))
        | inr is ↦ inr (is ∙ ap (λ (l : Lit). l ∷ negated_lit stronger.literal ∷ []) (lit_back weaker.literal))
      ],
    )
