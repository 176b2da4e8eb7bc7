-- The literals of a row, one after another, while atoms join.
use Rattle.std.proofs.Common.{◌≡◌, List, [], ◌∷◌, ◌++◌, length, refl, sym, ap, ◌∙◌, arith}
use Rattle.std.proofs.lemmas.List.{map-append}
use Rattle.nz_lists.proofs.Elements.{AllByRecursion-append}
use Rattle.nz_spec.specs.clauses.Literal.{Literal}
use Rattle.nz_spec.specs.terms.Table.{Node}
use Rattle.nz_log.specs.declared.atoms.Atom.{Atom}
use Rattle.nz_log.specs.declared.lits.Lit.{Lit}
use Rattle.nz_rows.specs.declared.rows.RowLiteral.{RowLiteral}
use Rattle.nz_log.specs.Atoms.{IsLitIn, Stay, literal_in}
use Rattle.nz_rows.specs.Rows.{AreRowLiteralsIn, IsRowLiteralIn, row_literal_in, row_literals_in}
use Rattle.nz_log.specs.Logs.{AreLitsOf}
use Rattle.nz_log.proofs.LiteralPreservation.{all_stay, clause_stays}

-- of a list with one more at its end
said_parts : (ns : List Node) (xs : List RowLiteral) (x : RowLiteral) → AreRowLiteralsIn ns (xs ++ x ∷ []) → AreRowLiteralsIn ns xs × IsRowLiteralIn ns x
said_parts ns [] x h = (tt, h.0)
said_parts ns (y ∷ ys) x h = let rest = said_parts ns ys x h.1 in ((h.0, rest.0), rest.1)

pub nothing_left : (xs : List RowLiteral) → length xs ≡ 0 → xs ≡ []
nothing_left [] e = refl
nothing_left (x ∷ xs) e = absurd (omega arith)

pub no_lits : (ns : List Node) (atoms : List Atom) → AreLitsOf ns atoms [] []
no_lits ns atoms = record { says = refl; within = tt }

pub one_said : (old new : List Atom) → Stay old new → (xs : List RowLiteral) (x : RowLiteral) (ls : List Lit) (l : Lit)
    → ((ns : List Node) → AreRowLiteralsIn ns xs → AreLitsOf ns old xs ls) → ((ns : List Node) → literal_in ns new l ≡ row_literal_in ns x) → ((ns : List Node) → IsRowLiteralIn ns x → IsLitIn ns new l)
    → (ns : List Node) → AreRowLiteralsIn ns (xs ++ x ∷ []) → AreLitsOf ns new (xs ++ x ∷ []) (ls ++ l ∷ [])
one_said old new stay xs x ls l front says within ns all =
    let parts = said_parts ns xs x all in
    let before = front ns parts.0 in
    record {
      says =
          map-append (literal_in ns new) ls (l ∷ [])
          ∙ ap (λ c. c ++ literal_in ns new l ∷ []) (clause_stays ns old new stay ls before.within ∙ before.says)
          ∙ ap (λ (m : Literal). row_literals_in ns xs ++ m ∷ []) (says ns)
          ∙ sym (map-append (row_literal_in ns) xs (x ∷ []));
      within = AllByRecursion-append (IsLitIn ns new) ls (l ∷ []) (all_stay ns old new stay ls before.within) (within ns parts.1, tt);
    }
