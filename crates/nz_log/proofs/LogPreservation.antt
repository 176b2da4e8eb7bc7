-- How a log stays in order when the table grows, or the atoms, or the assertions.
use Rattle.std.proofs.Common.{◌≡◌, ℕ, zero, suc, List, [], ◌∷◌, ◌++◌, take, Some, sym, ap, subst, ◌∙◌, arith}
use Rattle.std.specs.Prelude.{slice_get, option_map}
use Rattle.std.specs.List.{AllByRecursion}
use Rattle.std.proofs.lemmas.List.{append-nil}
use Rattle.nz_spec.specs.terms.Table.{Node, TermStays}
use Rattle.nz_spec.specs.search.Decide.{asserted_numbers, with_number}
use Rattle.nz_spec.specs.clauses.Literal.{clause_of}
use Rattle.nz_spec.specs.clauses.Gates.{holds, gate_clauses, HasBooleanArguments}
use Rattle.nz_lists.proofs.Places.{slice_get_kept}
use Rattle.nz_log.specs.declared.origins.Link.{Link}
use Rattle.nz_log.specs.Atoms.{AreWithin}
use Rattle.nz_log.specs.Logs.{Origin, assertion_of, gate_of, axiom_of, chain_of, Entry, LogState}
use Rattle.nz_log.specs.Sound.{IsLink, IsMade, IsLog, AreMore, LogsStay}
use Rattle.nz_log.proofs.DroppedLevels.{joined_in_order}
use Rattle.nz_log.proofs.LiteralPreservation.{all_wider, axiom_wider, lit_wider, same_clause, wider}
use Rattle.nz_log.proofs.Soundness.{longer}

-- ---- More terms

module _ (stays : TermStays) (ns more : List Node) where
  links_wider : (s : LogState) (id level : ℕ) (ks : List Link) → AllByRecursion (IsLink ns s id level) ks → AllByRecursion (IsLink (ns ++ more) s id level) ks
  links_wider s id level [] h = tt
  links_wider s id level (k ∷ ks) h =
      (record { premise = h.0.premise; within = lit_wider stays ns more s.atoms k.literal h.0.within }, links_wider s id level ks h.1)

  made_wider : (levels : List (List ℕ)) (s : LogState) (id : ℕ) (e : Entry) → AreWithin ns s.atoms e.literals → (o : Origin) → IsMade ns levels s id e o
      → IsMade (ns ++ more) levels s id e o
  made_wider levels s id e w (assertion_of k) m = (
    m.0,
    m.1,
    wider stays ns more m.0 m.2,
    same_clause stays ns more s.atoms e.literals w ∙ m.3 ∙ ap (λ t. holds t ∷ []) (sym (stays ns more m.0 m.2)),
  )
  made_wider levels s id e w (gate_of t j) m =
      let same = stays ns more t m.0 in (
        wider stays ns more t m.0,
        subst HasBooleanArguments (sym same) m.1,
        ap (λ u. option_map clause_of (slice_get (gate_clauses u) j)) same ∙ m.2 ∙ ap Some (sym (same_clause stays ns more s.atoms e.literals w)),
      )
  made_wider levels s id e w (axiom_of a) m = axiom_wider stays ns more s.atoms a e.literals m
  made_wider levels s id e w (chain_of first ks) m = (m.0, links_wider s id e.level ks m.1, m.2)

  log_wider : (levels : List (List ℕ)) (s : LogState) → IsLog ns levels s → IsLog (ns ++ more) levels s
  log_wider levels s order =
      record {
        atoms = order.atoms;
        clauses = λ i e at.
            let there = order.clauses i e at in
            record { within = all_wider stays ns more s.atoms e.literals there.within; made = made_wider levels s i e there.within e.origin there.made };
      }

-- ---- More assertions

made_more : (ns : List Node) (old new : List (List ℕ)) (s : LogState) → AreMore old new → (id : ℕ) (e : Entry) (o : Origin)
    → IsMade ns old s id e o → IsMade ns new s id e o
made_more ns old new s more id e (assertion_of k) m = (m.0, more e.level k m.0 m.1, m.2, m.3)
made_more ns old new s more id e (gate_of t j) m = m
made_more ns old new s more id e (axiom_of a) m = m
made_more ns old new s more id e (chain_of first ks) m = m

log_more : (ns : List Node) (old new : List (List ℕ)) (s : LogState) → AreMore old new → IsLog ns old s → IsLog ns new s
log_more ns old new s more order =
    record {
      atoms = order.atoms;
      clauses = λ i e at. let there = order.clauses i e at in record { within = there.within; made = made_more ns old new s more i e e.origin there.made };
    }

-- a level more, or a number more in the last one
level_more : (levels : List (List ℕ)) (n k t : ℕ) → slice_get (asserted_numbers (take n levels)) k ≡ Some t
    → slice_get (asserted_numbers (take n (levels ++ [] ∷ []))) k ≡ Some t
level_more [] zero k t e = e
level_more [] (suc n) k t e = cc
level_more (l ∷ ls) zero k t e = e
level_more (l ∷ ls) (suc n) k t e = longer l (asserted_numbers (take n ls)) (asserted_numbers (take n (ls ++ [] ∷ []))) (level_more ls n) k t e

-- one level alone
alone : (l : List ℕ) (n : ℕ) → l ++ asserted_numbers (take n []) ≡ l
alone l zero = append-nil l
alone l (suc n) = append-nil l

number_more : (levels : List (List ℕ)) (u n k t : ℕ) → slice_get (asserted_numbers (take n levels)) k ≡ Some t
    → slice_get (asserted_numbers (take n (with_number levels u))) k ≡ Some t
number_more [] u n k t e = e
number_more (l ∷ []) u zero k t e = e
number_more (l ∷ []) u (suc n) k t e =
    let front : slice_get l k ≡ Some t = ap (λ xs. slice_get xs k) (sym (alone l n)) ∙ e in
    ap (λ xs. slice_get xs k) (alone (l ++ u ∷ []) n) ∙ slice_get_kept l (u ∷ []) k t front
number_more (l ∷ m ∷ ls) u zero k t e = e
number_more (l ∷ m ∷ ls) u (suc n) k t e =
    longer l (asserted_numbers (take n (m ∷ ls))) (asserted_numbers (take n (with_number (m ∷ ls) u))) (number_more (m ∷ ls) u n) k t e

pub logs_stay : TermStays → LogsStay
logs_stay stays =
    record {
      start = λ ns levels. record { atoms = record { once = λ i j a at beside. cc; normal = tt; few = omega arith }; clauses = λ i e at. cc };
      table = λ ns more levels s order. log_wider stays ns more levels s order;
      joined = λ ns levels old new joins atoms order. joined_in_order old new joins.entries joins.atoms atoms ns levels order;
      asserted = log_more;
      level = λ levels n. level_more levels (suc n);
      number = λ levels u n. number_more levels u (suc n);
    }
