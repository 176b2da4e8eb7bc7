-- Lists that have each term once, where it stands first.
use Rattle.std.proofs.Common.{inl, inr, List, [], ◌∷◌, ◌++◌, refl, sym, ap, subst, append-nil}
use Rattle.std.specs.Prelude.{Contains, flat_map}
use Rattle.std.proofs.lemmas.List.Elements.{Contains-append_cases}
use Rattle.nz_spec.specs.terms.Term.{Term}
use Rattle.nz_spec.specs.terms.Order.{AreFirst}
use Rattle.nz_term.proofs.Traversal.{IsWithin, none, alone, in_front, joined, behind, ahead, passed_over}

-- a term in the middle, or in front
forward : (seen rest : List Term) (s : Term) → IsWithin (seen ++ s ∷ rest) ((s ∷ seen) ++ rest)
forward seen rest s =
    joined seen (s ∷ rest) ((s ∷ seen) ++ rest) (λ t k. behind (s ∷ []) (seen ++ rest) t (ahead seen rest t k))
    (in_front (s ∷ []) rest (seen ++ rest) (behind seen rest))

back : (seen rest : List Term) (s : Term) → IsWithin ((s ∷ seen) ++ rest) (seen ++ s ∷ rest)
back seen rest s =
    joined (s ∷ []) (seen ++ rest) (seen ++ s ∷ rest) (λ t k. behind seen (s ∷ rest) t (ahead (s ∷ []) rest t k))
    (in_front seen rest (s ∷ rest) (behind (s ∷ []) rest))

-- ---- One more term at the end

-- a term that is there already
pub again : (seen all list : List Term) (t : Term) → AreFirst seen all list → Contains (seen ++ list) t → AreFirst seen (all ++ t ∷ []) list
again seen [] list t f k =
    let inside : Contains seen t = subst (λ l. Contains l t) (append-nil seen) (subst (λ l. Contains (seen ++ l) t) f k) in
    inl (inside, f)
again seen (s ∷ all) list t f k =
    elim f [
      | inl l ↦ inl (l.0, again seen all list t l.1 k)
      | inr r ↦ inr (r.0, r.1, r.2, again (s ∷ seen) all r.1 t r.3 (forward seen r.1 s t (subst (λ l. Contains (seen ++ l) t) r.2 k)))
    ]

-- another one
pub anew : (seen all list : List Term) (t : Term) → AreFirst seen all list → (Contains (seen ++ list) t → ⊥) → AreFirst seen (all ++ t ∷ []) (list ++ t ∷ [])
anew seen [] list t f new = inr (λ k. new (ahead seen list t k), [], ap (λ l. l ++ t ∷ []) f, refl)
anew seen (s ∷ all) list t f new =
    elim f [
      | inl l ↦ inl (l.0, anew seen all list t l.1 new)
      | inr r ↦ inr (
        r.0,
        r.1 ++ t ∷ [],
        ap (λ l. l ++ t ∷ []) r.2,
        anew (s ∷ seen) all r.1 t r.3 (λ k. new (subst (λ l. Contains (seen ++ l) t) (sym r.2) (back seen r.1 s t k))),
      )
    ]

-- ---- Lists that are made of those of each term

-- behind the same terms
behind_these : (xs ys zs seen list : List Term)
    → ((now more : List Term) → IsWithin xs now → IsWithin seen now → AreFirst now ys more → AreFirst now zs more)
    → AreFirst seen (xs ++ ys) list → AreFirst seen (xs ++ zs) list
behind_these [] ys zs seen list h f = h seen list (λ t k. absurd (none t k)) (λ t k. k) f
behind_these (x ∷ xs) ys zs seen list h f =
    elim f [
      | inl l ↦ inl (
        l.0,
        behind_these xs ys zs seen list
            (λ now more v w. h now more (joined (x ∷ []) xs now (λ t k. w t (subst (Contains seen) (alone x t k) l.0)) v) w) l.1,
      )
      | inr r ↦ inr (
        r.0,
        r.1,
        r.2,
        behind_these xs ys zs (x ∷ seen) r.1
            (
            λ now more v w.
            h now more (joined (x ∷ []) xs now (λ t k. w t (ahead (x ∷ []) seen t k)) v) (λ t k. w t (behind (x ∷ []) seen t k))
            )
            r.3,
      )
    ]

-- Where each term stands for a list, only the first of equal terms matters.
pub spread : (e : Term → List Term) (all list seen past found : List Term) → ((t : Term) → Contains past t → IsWithin (e t) seen)
    → AreFirst past all list → AreFirst seen (flat_map e list) found → AreFirst seen (flat_map e all) found
spread e [] list seen past found w f g = subst (λ l. AreFirst seen (flat_map e l) found) f g
spread e (t ∷ all) list seen past found w f g =
    elim f [
      | inl l ↦ passed_over seen (e t) (flat_map e all) found (w t l.0) (spread e all list seen past found w l.1 g)
      | inr r ↦
          behind_these (e t) (flat_map e r.1) (flat_map e all) seen found
          (
          λ now more v u h.
          spread e all r.1 now (t ∷ past) more
          (
          λ s k.
          elim (Contains-append_cases (t ∷ []) past s k) [
            | inl m ↦ subst (λ x. IsWithin (e x) now) (alone t s m) v
            | inr m ↦ (λ x n. u x (w s m x n))
          ]
          )
          r.3 h
          )
          (subst (λ l. AreFirst seen (flat_map e l) found) r.2 g)
    ]
