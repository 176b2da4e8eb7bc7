-- Clauses of the tables of links and units, by their rows.
use Rattle.std.proofs.Common.{◌≡◌, ℕ, List, [], map, Option, Some, None, Result, Ok, Err, refl, sym, ap, subst, ◌∙◌}
use Rattle.std.specs.Prelude.{IfOk, option_map, slice_get}
use Rattle.std.proofs.lemmas.Option.{slice_get-map}
use Rattle.nz_lists.proofs.Elements.{AllByRecursion-put}
use Rattle.nz_spec.specs.numbers.Computation.{Computation, at_once, in_turn, turned_into}
use Rattle.nz_spec.specs.terms.FormOf.{number_in}
use Rattle.nz_fractions.specs.Fraction.{first_wide}
use Rattle.nz_spec.specs.clauses.Links.{link_clauses}
use Rattle.nz_spec.specs.clauses.Literal.{Clause, clause_of, once}
use Rattle.nz_spec.specs.clauses.Steps.{clause_at, link_step, step_taken, unit_step, asserting}
use Rattle.nz_spec.specs.terms.Table.{Node}
use Rattle.nz_spec.specs.terms.Term.{Term, apply}
use Rattle.nz_spec.specs.clauses.Units.{unit_clauses}
use Rattle.nz_lin.specs.Comes.{IsDone}
use Rattle.nz_log.specs.declared.atoms.Atom.{Atom}
use Rattle.nz_log.specs.declared.lits.Lit.{Lit}
use Rattle.nz_rows.specs.declared.rows.RowLiteral.{RowLiteral}
use Rattle.nz_log.specs.Atoms.{AreWithin, IsLitIn, LiteralsAgree, clause_in}
use Rattle.nz_log.specs.Axioms.{Axiom, IsClauseOf, axiom_step}
use Rattle.nz_log.specs.Lits.{are_same_lit}
use Rattle.nz_log.specs.Logs.{AreLitsOf, JoinsAtoms, LogState, Puts, PutsAxiom, PutsRow, axiom_entry}
use Rattle.nz_rows.specs.Rows.{AreRowLiteralsIn, IsRowAt, Row, link_rows, row_literals_in, unit_rows}
use Rattle.nz_log.proofs.LiteralAgreement.{clause_named}
use Rattle.nz_log.proofs.JoinedAtoms.{puts_after}

-- ---- Any table

row_taken : (rows : List Row) (j : ℕ) (row : Row) → slice_get rows j ≡ Some row
    → clause_at (map in_turn rows) j ≡ turned_into (λ d. Some (clause_of d)) (in_turn row)
row_taken rows j row at =
    ap (λ o. elim o [ None ↦ at_once None | Some c ↦ turned_into (λ d. Some (clause_of d)) c ]) (slice_get-map in_turn rows j ∙ ap (option_map in_turn) at)

module _ (ns : List Node) (atoms : List Atom) (a : Axiom) (rows : List Row) (j : ℕ) (taken : step_taken (number_in ns) (asserting []) [] (axiom_step ns atoms a) ≡ clause_at (map in_turn rows) j) where
  -- the literals of a row are the clause of the step
  table_clause : LiteralsAgree ns atoms → (row : Row) (v : List RowLiteral) (c : List Lit) → slice_get rows j ≡ Some row → IsDone (in_turn row) (row_literals_in ns v)
      → clause_in ns atoms c ≡ row_literals_in ns v → AreWithin ns atoms c → IsClauseOf ns atoms a (once are_same_lit c)
  table_clause agree row v c at done says within =
      let made : step_taken (number_in ns) (asserting []) [] (axiom_step ns atoms a) ≡ turned_into (λ d. Some (clause_of d)) (in_turn row) = taken ∙ row_taken rows j row at in
      record {
        within = AllByRecursion-put (IsLitIn ns atoms) are_same_lit c [] tt within;
        clause = ap (λ (k : Computation (Option Clause)). k.result) made ∙ ap (λ d. Some (clause_of d)) (sym done.result ∙ sym says)
            ∙ ap Some (sym (clause_named ns atoms agree c within));
        fits = ap (λ (k : Computation (Option Clause)). first_wide k.operations) made ∙ done.fits;
      }

-- the clause of a row that was put
pub row_puts : {E : Type 0} (ns : List Node) (a : Axiom) (rows : List Row) (j : ℕ) (old new : LogState) → step_taken (number_in ns) (asserting []) [] (axiom_step ns new.atoms a) ≡ clause_at (map in_turn rows) j
    → LiteralsAgree ns new.atoms → (v : List RowLiteral) → IsRowAt ns rows j v → (r : Result ℕ E) → IfOk r (λ id. PutsRow old id a v new) → IfOk r (λ id. PutsAxiom ns old id a new)
row_puts ns a rows j old new taken agree v is (Err x) puts = puts
row_puts ns a rows j old new taken agree v is (Ok id) puts =
    let made = puts.made ns is.is.within in
    record {
      literals = once are_same_lit puts.literals;
      puts = puts.puts;
      clause = table_clause ns new.atoms a rows j taken agree is.row v puts.literals is.at is.is.done made.says made.within;
    }

-- the literals of a row have joined, and then their clause is put
pub row_put : {E : Type 0} (old mid new : LogState) (a : Axiom) (row : List RowLiteral) (c d : List Lit) (r : Result ℕ E) → d ≡ c → JoinsAtoms old mid → new.atoms ≡ mid.atoms
    → ((ns : List Node) → AreRowLiteralsIn ns row → AreLitsOf ns mid.atoms row c) → IfOk r (λ id. Puts mid id (axiom_entry new a (once are_same_lit d)) new) → IfOk r (λ id. PutsRow old id a row new)
row_put old mid new a row c d (Ok id) is j same made puts =
    record {
      literals = c;
      puts = puts_after old mid new id (axiom_entry new a (once are_same_lit c)) j (subst (λ (ls : List Lit). Puts mid id (axiom_entry new a (once are_same_lit ls)) new) is puts);
      made = λ ns all. subst (λ (atoms : List Atom). AreLitsOf ns atoms row c) (sym same) (made ns all);
    }
row_put old mid new a row c d (Err x) is j same made puts = puts

-- ---- Links and units

pub links_are : (ns : List Node) (t : Term) → link_clauses (number_in ns) t ≡ map in_turn (link_rows ns t)
links_are ns (apply h ts) = refl

units_are : (ns : List Node) (t : Term) → unit_clauses (number_in ns) t ≡ map in_turn (unit_rows ns t)
units_are ns (apply h ts) = refl

pub link_taken : (ns : List Node) (t : Term) (j : ℕ) → step_taken (number_in ns) (asserting []) [] (link_step t j) ≡ clause_at (map in_turn (link_rows ns t)) j
link_taken ns t j = ap (λ cs. clause_at cs j) (links_are ns t)

pub unit_taken : (ns : List Node) (t : Term) (j : ℕ) → step_taken (number_in ns) (asserting []) [] (unit_step t j) ≡ clause_at (map in_turn (unit_rows ns t)) j
unit_taken ns t j = ap (λ cs. clause_at cs j) (units_are ns t)
