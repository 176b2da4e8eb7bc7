-- A clause of the gate table is in order.
use Rattle.std.proofs.Common.{◌≡◌, ℕ, ◌<◌, Bool, true, false, List, [], ◌∷◌, length, get_or, Some, None, refl, sym, ap, subst, ◌∙◌, arith}
use Rattle.std.specs.Prelude.{All, slice_get, option_map, unwrap_or}
use Rattle.std.specs.List.{AllByRecursion}
use Rattle.std.proofs.lemmas.Option.{slice_get-get_or, slice_get-map, unwrap_or-slice_get}
use Rattle.std.proofs.lemmas.List.Elements.{recursion_from_All}
use Rattle.nz_lists.proofs.Elements.{AllByRecursion-put}
use Rattle.nz_spec.specs.terms.Term.{falsum}
use Rattle.nz_spec.specs.terms.Table.{Node, IsTable, term_in, OneNumber, TermOfNode}
use Rattle.nz_spec.specs.clauses.Literal.{term_literal, clause_of, once, TellsLiterals}
use Rattle.nz_spec.specs.clauses.Gates.{clauses_over, HasBooleanArguments}
use Rattle.nz_log.specs.declared.atoms.Atom.{Atom}
use Rattle.nz_log.specs.declared.atoms.Atom.TheVariants.{Term}
use Rattle.nz_term.specs.declared.term_lits.TermLit.{TermLit}
use Rattle.nz_log.specs.Atoms.{AreAtoms, AreWithin, HasTerm, IsLitIn, clause_in, lit_of, literal_in, lits_of, with_sign}
use Rattle.nz_log.specs.Lits.{are_same_lit}
use Rattle.nz_log.specs.Logs.{gate_of, LogState}
use Rattle.nz_log.specs.Sound.{IsEntry}
use Rattle.nz_rows.specs.GateRows.{gates_at, is_boolean_at}
use Rattle.nz_term.specs.TermLits.{yes, no, AreOfTerms, clause_of_terms, literal_of}
use Rattle.nz_log.proofs.LiteralAgreement.{clause_named, literals_agree}
use Rattle.nz_log.proofs.LiteralPreservation.{literal_at}
use Rattle.nz_log.proofs.Members.{each-at, each-gate}
use Rattle.nz_log.proofs.NamedGates.{gates_named}

-- ---- Literals on terms

signed_term : (sign : Bool) (ns : List Node) (t : ℕ) → with_sign sign (term_literal (term_in ns t) true) ≡ term_literal (term_in ns t) sign
signed_term true ns t = refl
signed_term false ns t = refl

-- the literal on a term says that
pub term_named : (ns : List Node) (atoms : List Atom) (l : TermLit) → HasTerm atoms l.term → literal_in ns atoms (lit_of atoms l) ≡ literal_of ns l
term_named ns atoms l has = literal_at ns atoms (lit_of atoms l) (Term l.term) has ∙ signed_term l.sign ns l.term

pub terms_named : (ns : List Node) (atoms : List Atom) (c : List TermLit) → AllByRecursion (λ (l : TermLit). HasTerm atoms l.term) c
    → clause_in ns atoms (lits_of atoms c) ≡ clause_of_terms ns c
terms_named ns atoms [] h = refl
terms_named ns atoms (l ∷ ls) h = λ i. term_named ns atoms l h.0 i ∷ terms_named ns atoms ls h.1 i

pub terms_within : (ns : List Node) (atoms : List Atom) (c : List TermLit) → AllByRecursion (λ (l : TermLit). HasTerm atoms l.term) c → AreOfTerms ns c
    → AreWithin ns atoms (lits_of atoms c)
terms_within ns atoms [] h w = tt
terms_within ns atoms (l ∷ ls) h w = (record { atom = Term l.term; at = h.0; within = w.0 }, terms_within ns atoms ls h.1 w.1)

-- ---- Gates

-- what is below one number is below a greater one
lower : (m n : ℕ) → m < n → (ks : List ℕ) → AllByRecursion (λ k. k < m) ks → AllByRecursion (λ k. k < n) ks
lower m n h [] b = tt
lower m n h (k ∷ ks) b = (let first : k < m = b.0 in omega arith, lower m n h ks b.1)

module _ (tells : TellsLiterals) (one : OneNumber) (node : TermOfNode)
    (ns : List Node) (table : IsTable ns) (t j : ℕ) (within : t < length ns) (there : j < length (gates_at ns t)) where
  abbrev the_node : Node
  the_node = get_or ns t (record { head = falsum; kids = [] })

  node_at : slice_get ns t ≡ Some the_node
  node_at = slice_get-get_or ns t (record { head = falsum; kids = [] }) within

  abbrev the_clause : List TermLit
  the_clause = unwrap_or (slice_get (gates_at ns t) j) []

  clause_at : slice_get (gates_at ns t) j ≡ Some the_clause
  clause_at = slice_get-get_or (gates_at ns t) j [] there ∙ ap Some (sym (unwrap_or-slice_get (gates_at ns t) j []))

  gates_within : AllByRecursion (AreOfTerms ns) (gates_at ns t)
  gates_within =
      subst (λ o. AllByRecursion (AreOfTerms ns) (elim o [ None ↦ [] | Some n ↦ clauses_over yes no (is_boolean_at ns) t n.head n.kids ]))
      (sym node_at)
      (each-gate (λ k. k < length ns) (is_boolean_at ns) t the_node.head the_node.kids within
      (lower t (length ns) within the_node.kids (recursion_from_All (λ k. k < t) the_node.kids (table.before t the_node node_at))))

  clause_within : AreOfTerms ns the_clause
  clause_within = each-at (AreOfTerms ns) (gates_at ns t) j the_clause gates_within clause_at

  pub gate_in_order : (levels : List (List ℕ)) (s : LogState) (id n : ℕ) → AreAtoms s.atoms → All (λ (l : TermLit). HasTerm s.atoms l.term) the_clause
      → HasBooleanArguments (term_in ns t) → IsEntry ns levels s id (record { literals = once are_same_lit (lits_of s.atoms the_clause); level = n; origin = gate_of t j })
  gate_in_order levels s id n atoms has boolean =
      let there = recursion_from_All (λ (l : TermLit). HasTerm s.atoms l.term) the_clause has in
      let lits = lits_of s.atoms the_clause in
      let inside = terms_within ns s.atoms the_clause there clause_within in
      record {
        within = AllByRecursion-put (IsLitIn ns s.atoms) are_same_lit lits [] tt inside;
        made = (
          within,
          boolean,
          ap (λ cs. option_map clause_of (slice_get cs j)) (sym (gates_named ns table node t the_node node_at))
              ∙ ap (option_map clause_of) (slice_get-map (clause_of_terms ns) (gates_at ns t) j)
              ∙ ap (λ o. option_map clause_of (option_map (clause_of_terms ns) o)) clause_at
              ∙ ap (λ c. Some (clause_of c)) (sym (terms_named ns s.atoms the_clause there))
              ∙ ap Some (sym (clause_named ns s.atoms (literals_agree tells one ns table s.atoms atoms) lits inside)),
        );
      }
