-- Resolvents and chains: which literals they have, each of them once.
use Rattle.std.proofs.Common.{◌≡◌, ◌≢◌, ℕ, ◌<◌, Bool, true, false, not, ◌⊎◌, inl, inr, if◌then◌else◌, List, [], ◌∷◌, ◌++◌, length, refl, sym, ap, subst, ◌∙◌, true≢false, arith, Contains, filter}
use Rattle.std.proofs.Math.Bool.{not-not}
use Rattle.std.proofs.lemmas.List.Elements.{Contains-append_left, Contains-append_right, Contains-append_cases}
use Rattle.std.proofs.lemmas.List.Sums.{fold-append}
use Rattle.nz_lists.proofs.Members.{has_cases, has_first, has_more, has_none}
use Rattle.nz_lists.proofs.Once.{once_from, once_has, once_once}
use Rattle.nz_spec.specs.clauses.Literal.{without, StandOnce}
use Rattle.nz_log.specs.declared.lits.Lit.{Lit}
use Rattle.nz_log.specs.declared.origins.Link.{Link}
use Rattle.nz_log.specs.Atoms.{TellsLits}
use Rattle.nz_log.specs.Lits.{negated_lit, are_same_lit, lit_resolvent}
use Rattle.nz_log.specs.Logs.{LogState, chained, literals_at}

-- ---- Elements of lists

module _ {X : Type 0} where
  -- what a filter keeps
  kept_step : (b : Bool) (x y : X) (zs : List X) → Contains zs y → Contains (if b then x ∷ zs else zs) y
  kept_step true x y zs h = has_more x y zs h
  kept_step false x y zs h = h

  kept_first : (b : Bool) (x : X) (zs : List X) → b ≡ true → Contains (if b then x ∷ zs else zs) x
  kept_first true x zs e = has_first x zs
  kept_first false x zs e = absurd (true≢false (sym e))

  pub filter_has : (p : X → Bool) (xs : List X) (y : X) → Contains xs y → p y ≡ true → Contains (filter p xs) y
  filter_has p [] y h t = absurd (has_none y h)
  filter_has p (x ∷ xs) y h t =
      elim (has_cases x y xs h) [
        | inl same ↦ subst (λ z. Contains (if p x then x ∷ filter p xs else filter p xs) z) same (kept_first (p x) x (filter p xs) (ap p same ∙ t))
        | inr more ↦ kept_step (p x) x y (filter p xs) (filter_has p xs y more t)
      ]

  from_step : (p : X → Bool) (b : Bool) (x y : X) (xs zs : List X) → p x ≡ b → (Contains zs y → Contains xs y × (p y ≡ true))
      → Contains (if b then x ∷ zs else zs) y → Contains (x ∷ xs) y × (p y ≡ true)
  from_step p true x y xs zs e f h =
      elim (has_cases x y zs h) [
        | inl same ↦ (subst (Contains (x ∷ xs)) same (has_first x xs), ap p (sym same) ∙ e)
        | inr more ↦ (has_more x y xs (f more).0, (f more).1)
      ]
  from_step p false x y xs zs e f h = (has_more x y xs (f h).0, (f h).1)

  pub filter_from : (p : X → Bool) (xs : List X) (y : X) → Contains (filter p xs) y → Contains xs y × (p y ≡ true)
  filter_from p [] y h = absurd (has_none y h)
  filter_from p (x ∷ xs) y h = from_step p (p x) x y xs (filter p xs) refl (filter_from p xs y) h

-- ---- Literals

pub lit_is : (l m : Lit) → l.atom ≡ m.atom → l.sign ≡ m.sign → l ≡ m
lit_is l m e f = ap (λ (t : ℕ). record { atom = t; sign = l.sign }) e ∙ ap (λ (b : Bool). record { atom = m.atom; sign = b }) f

not_true : (b : Bool) → (b ≡ true → ⊥) → not b ≡ true
not_true true f = absurd (f refl)
not_true false f = refl

pub twice_negated : (l : Lit) → negated_lit (negated_lit l) ≡ l
twice_negated l = ap (λ (b : Bool). record { atom = l.atom; sign = b }) (not-not l.sign)

-- ---- Resolvents

module _ (tells : TellsLits) where
  other_lit : (l m : Lit) → l ≢ m → not (are_same_lit l m) ≡ true
  other_lit l m f = not_true (are_same_lit l m) (λ e. f (tells.same l m e))

  differ_lit : (l m : Lit) → not (are_same_lit l m) ≡ true → l ≢ m
  differ_lit l m e is = true≢false (sym e ∙ ap not (ap (are_same_lit l) (sym is) ∙ tells.one l))

  pub resolvent_first : (l : Lit) (c d : List Lit) (m : Lit) → Contains c m → l ≢ m → Contains (lit_resolvent l c d) m
  resolvent_first l c d m h other =
      once_has are_same_lit tells.same (without are_same_lit l c ++ without are_same_lit (negated_lit l) d) m
      (Contains-append_left (without are_same_lit l c) (without are_same_lit (negated_lit l) d) m
      (filter_has (λ k. not (are_same_lit l k)) c m h (other_lit l m other)))

  pub resolvent_second : (l : Lit) (c d : List Lit) (m : Lit) → Contains d m → negated_lit l ≢ m → Contains (lit_resolvent l c d) m
  resolvent_second l c d m h other =
      once_has are_same_lit tells.same (without are_same_lit l c ++ without are_same_lit (negated_lit l) d) m
      (Contains-append_right (without are_same_lit l c) (without are_same_lit (negated_lit l) d) m
      (filter_has (λ k. not (are_same_lit (negated_lit l) k)) d m h (other_lit (negated_lit l) m other)))

  pub resolvent_from : (l : Lit) (c d : List Lit) (m : Lit) → Contains (lit_resolvent l c d) m → (Contains c m × (l ≢ m)) ⊎ (Contains d m × (negated_lit l ≢ m))
  resolvent_from l c d m h =
      let parts = once_from are_same_lit (without are_same_lit l c ++ without are_same_lit (negated_lit l) d) m h in
      elim (Contains-append_cases (without are_same_lit l c) (without are_same_lit (negated_lit l) d) m parts) [
        | inl first ↦ let f = filter_from (λ k. not (are_same_lit l k)) c m first in inl (f.0, differ_lit l m f.1)
        | inr second ↦ let f = filter_from (λ k. not (are_same_lit (negated_lit l) k)) d m second in inr (f.0, differ_lit (negated_lit l) m f.1)
      ]

  resolvent_once : (l : Lit) (c d : List Lit) → StandOnce (lit_resolvent l c d)
  resolvent_once l c d = once_once are_same_lit tells.one (without are_same_lit l c ++ without are_same_lit (negated_lit l) d)

-- ---- Chains

-- one more link is one more resolvent
pub chained_more : (s : LogState) (c : List Lit) (ks : List Link) (k : Link) → chained s c (ks ++ k ∷ []) ≡ lit_resolvent k.literal (chained s c ks) (literals_at s k.clause)
chained_more s c ks k = fold-append (λ (d : List Lit) (n : Link). lit_resolvent n.literal d (literals_at s n.clause)) c ks (k ∷ [])

module _ (tells : TellsLits) where
  chained_kept : (s : LogState) (c : List Lit) (ks : List Link) → StandOnce c → StandOnce (chained s c ks)
  chained_kept s c [] h = h
  chained_kept s c (k ∷ ks) h =
      chained_kept s (lit_resolvent k.literal c (literals_at s k.clause)) ks (resolvent_once tells k.literal c (literals_at s k.clause))

  -- where there is a link, each literal stands once
  pub chained_once : (s : LogState) (c : List Lit) (ks : List Link) → 0 < length ks → StandOnce (chained s c ks)
  chained_once s c [] h = absurd (omega arith)
  chained_once s c (k ∷ ks) h =
      chained_kept s (lit_resolvent k.literal c (literals_at s k.clause)) ks (resolvent_once tells k.literal c (literals_at s k.clause))
