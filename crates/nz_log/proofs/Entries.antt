-- How the clauses of a log change.
use Rattle.std.proofs.Common.{◌≡◌, ◌≢◌, ℕ, zero, suc, ◌<◌, List, [], ◌∷◌, ◌++◌, length, map, get_or, Option, Some, None, refl, sym, ap, subst, ◌∙◌, arith}
use Rattle.std.specs.Prelude.{slice_get, unwrap_or, option_map, IsSome}
use Rattle.nz_log.specs.declared.atoms.Atom.{Atom}
use Rattle.nz_log.specs.declared.origins.Stored.{Stored}
use Rattle.nz_log.specs.Logs.{entry_at, kept_below, told_below, Drops, Puts}
use Rattle.nz_log.specs.Stored.{entry_of, log_of}

-- a list with one more at its end, by places
seam : {X Y : Type 0} (f : X → Y) (xs : List X) (x : X) (n : ℕ) → n ≡ length xs → slice_get (map f (xs ++ x ∷ [])) n ≡ Some (f x)
seam f [] x zero e = refl
seam f [] x (suc n) e = absurd (omega arith)
seam f (y ∷ ys) x zero e = absurd (omega arith)
seam f (y ∷ ys) x (suc n) e = seam f ys x n (omega arith)

-- only what is in a list is there
inside : {X Y : Type 0} (f : X → Option Y) (xs : List X) (n i : ℕ) → n ≡ length xs → IsSome (unwrap_or (slice_get (map f xs) i) None) → i < n
inside f [] n i e live = cc
inside f (y ∷ ys) zero i e live = absurd (omega arith)
inside f (y ∷ ys) (suc n) zero e live = omega arith
inside f (y ∷ ys) (suc n) (suc i) e live = let within : i < n = inside f ys n i (omega arith) live in omega arith

beside : {X Y : Type 0} (f : X → Option Y) (xs : List X) (x : X) (n i : ℕ) → n ≡ length xs → i ≢ n
    → unwrap_or (slice_get (map f (xs ++ x ∷ [])) i) None ≡ unwrap_or (slice_get (map f xs) i) None
beside f [] x n zero e other = absurd (other (omega arith))
beside f [] x n (suc i) e other = refl
beside f (y ∷ ys) x n zero e other = refl
beside f (y ∷ ys) x zero (suc i) e other = absurd (omega arith)
beside f (y ∷ ys) x (suc n) (suc i) e other = beside f ys x n i (omega arith) (λ same. other (ap suc same))

-- a clause more at the end
pub puts_last : (clauses : List (Option Stored)) (told : List (Option ℕ)) (atoms : List Atom) (s : Stored) (n : ℕ) → n ≡ length clauses
    → Puts (log_of clauses told atoms) n (entry_of s) (log_of (clauses ++ Some s ∷ []) told atoms)
puts_last clauses told atoms s n e =
    let f = option_map entry_of in
    let made = ap (λ o. unwrap_or o None) (seam f clauses (Some s) n e) in
    let kept = beside f clauses (Some s) n in
    record {
      above = λ i live. inside f clauses n i e live;
      made = made;
      live = subst (λ o. IsSome o) (sym made) refl;
      stay = λ i live. subst (λ o. IsSome o) (sym (kept i e (λ same. let h : i < n = inside f clauses n i e live in omega arith))) live;
      kept = λ i other. kept i e other;
      told = refl;
      atoms = λ i a there. there;
    }

-- a clause by its place
pub entry_read : (clauses : List (Option Stored)) (told : List (Option ℕ)) (atoms : List Atom) (i : ℕ) → entry_at (log_of clauses told atoms) i ≡ option_map entry_of (get_or clauses i None)
entry_read [] told atoms i = refl
entry_read (c ∷ cs) told atoms zero = refl
entry_read (c ∷ cs) told atoms (suc i) = entry_read cs told atoms i

-- dropping by places
pub drops_from : (old new : List (Option Stored)) (told told' : List (Option ℕ)) (atoms : List Atom) (level : ℕ)
    → ((i : ℕ) → option_map entry_of (get_or new i None) ≡ kept_below level (option_map entry_of (get_or old i None)))
    → ((t : ℕ) → get_or told' t None ≡ told_below level (get_or told t None)) → Drops (log_of old told atoms) level (log_of new told' atoms)
drops_from old new told told' atoms level entries lowest =
    record {
      entries = λ i. entry_read new told' atoms i ∙ entries i ∙ ap (kept_below level) (sym (entry_read old told atoms i));
      told = lowest;
      atoms = refl;
    }
