-- Rows as they are made of the computations of their literals, and rows one after another.
use Rattle.std.proofs.Common.{◌≡◌, ◌<◌, List, [], ◌∷◌, ◌++◌, length, None, Result, Ok, Err, refl, ap, sym, subst, ◌∙◌}
use Rattle.std.specs.Prelude.{⊤}
use Rattle.std.specs.declared.vec.Vec.{Vec}
use Rattle.std.specs.declared.alloc.Global.{Global}
use Rattle.std.proofs.lemmas.List.Concat.{flat_map-append}
use Rattle.nz_spec.specs.numbers.Computation.{Computation, at_once, in_turn}
use Rattle.nz_fractions.specs.Fraction.{first_wide}
use Rattle.nz_spec.specs.clauses.Literal.{Literal}
use Rattle.nz_spec.specs.terms.Table.{Node}
use Rattle.nz_lin.specs.declared.bound.Bound.{Bound}
use Rattle.nz_term.specs.declared.stops.ArithmeticStop.{ArithmeticStop}
use Rattle.nz_lin.specs.Bounds.{IsLiteral}
use Rattle.nz_lin.specs.Comes.{IsDone}
use Rattle.nz_term.specs.Stops.{IsStopAt}
use Rattle.nz_rows.specs.declared.rows.RowLiteral.{RowLiteral}
use Rattle.nz_rows.specs.declared.rows.RowLiteral.TheVariants as said
use Rattle.nz_term.specs.declared.term_lits.TermLit.{TermLit}
use Rattle.nz_rows.specs.Rows.{AreRowsOf, ComeOfRows, ComesOfRow, IsRowLiteralIn, IsRowOf, Row, row_literal_in, row_operations}
use Rattle.nz_term.specs.TermLits.{literal_of}
use Rattle.nz_fractions.proofs.FirstOperations.{first_wide-none, no_operation}
use Rattle.nz_rows.proofs.Operations.{stop_before, stop_behind}

-- ---- What rows are made of

module _ (ns : List Node) where
  -- each literal comes of its computation
  abbrev AreMade : Row → List RowLiteral → Type 0
  AreMade [] [] = ⊤
  AreMade [] (x ∷ xs) = ⊥
  AreMade (c ∷ cs) [] = ⊥
  AreMade (c ∷ cs) (x ∷ xs) = (IsDone c (row_literal_in ns x) × IsRowLiteralIn ns x) × AreMade cs xs

  all_done : (cs : Row) (xs : List RowLiteral) → AreMade cs xs → IsRowOf ns cs xs
  all_done [] [] h = record { done = record { result = refl; fits = no_operation }; within = tt }
  all_done [] (x ∷ xs) h = absurd h
  all_done (c ∷ cs) [] h = absurd h
  all_done (c ∷ cs) (x ∷ xs) h =
      let rest = all_done cs xs h.1 in
      record {
        done = record {
          result = λ i. h.0.0.result i ∷ rest.done.result i;
          fits = first_wide-none c.operations (in_turn cs).operations h.0.0.fits ∙ rest.done.fits;
        };
        within = (h.0.1, rest.within);
      }

  row_made : (cs : Row) (xs ys : List RowLiteral) → ys ≡ xs → AreMade cs xs → IsRowOf ns cs ys
  row_made cs xs ys is h = subst (IsRowOf ns cs) (sym is) (all_done cs xs h)

  term_made : (l : TermLit) → l.term < length ns → IsDone (at_once (literal_of ns l)) (row_literal_in ns (said.Term l)) × IsRowLiteralIn ns (said.Term l)
  term_made l within = (record { result = refl; fits = no_operation }, within)

  -- ---- The four kinds

  module _ (c : Computation Literal) where
    pub alone_made : (b : Bound) (ys : List RowLiteral) → ys ≡ said.Bound b ∷ [] → IsLiteral ns c (Ok b) → IsRowOf ns (c ∷ []) ys
    alone_made b ys is h = row_made (c ∷ []) (said.Bound b ∷ []) ys is ((h.0, h.1), tt)

    pub front_stops : (cs : Row) (s : ArithmeticStop) → IsLiteral ns c (Err s) → ComesOfRow ns (c ∷ cs) (Err s)
    front_stops cs s h = stop_before c.operations (in_turn cs).operations s h

    pub pair_made : (l : TermLit) (b : Bound) (ys : List RowLiteral) → ys ≡ said.Term l ∷ said.Bound b ∷ [] → l.term < length ns → IsLiteral ns c (Ok b)
        → IsRowOf ns (at_once (literal_of ns l) ∷ c ∷ []) ys
    pair_made l b ys is within h = row_made (at_once (literal_of ns l) ∷ c ∷ []) (said.Term l ∷ said.Bound b ∷ []) ys is (term_made l within, ((h.0, h.1), tt))

    module _ (d : Computation Literal) where
      pub both_made : (b e : Bound) (ys : List RowLiteral) → ys ≡ said.Bound b ∷ said.Bound e ∷ [] → IsLiteral ns c (Ok b) → IsLiteral ns d (Ok e)
          → IsRowOf ns (c ∷ d ∷ []) ys
      both_made b e ys is h k = row_made (c ∷ d ∷ []) (said.Bound b ∷ said.Bound e ∷ []) ys is ((h.0, h.1), ((k.0, k.1), tt))

      pub triple_made : (l : TermLit) (b e : Bound) (xs ys zs : List RowLiteral) → xs ≡ said.Term l ∷ [] → ys ≡ xs ++ said.Bound b ∷ [] → zs ≡ ys ++ said.Bound e ∷ [] → l.term < length ns
          → IsLiteral ns c (Ok b) → IsLiteral ns d (Ok e) → IsRowOf ns (at_once (literal_of ns l) ∷ c ∷ d ∷ []) zs
      triple_made l b e xs ys zs first second third within h k =
          row_made (at_once (literal_of ns l) ∷ c ∷ d ∷ []) (said.Term l ∷ said.Bound b ∷ said.Bound e ∷ []) zs
          (third ∙ ap (λ (ls : List RowLiteral). ls ++ said.Bound e ∷ []) (second ∙ ap (λ (ls : List RowLiteral). ls ++ said.Bound b ∷ []) first)) (term_made l within, ((h.0, h.1), ((k.0, k.1), tt)))

  -- ---- Rows one after another

  none_wide : (rows : List Row) (vs : List (Vec RowLiteral Global)) → AreRowsOf ns rows vs → first_wide (row_operations rows) ≡ None
  none_wide [] [] h = no_operation
  none_wide [] (v ∷ vs) h = absurd h
  none_wide (row ∷ rows) [] h = absurd h
  none_wide (row ∷ rows) (v ∷ vs) h = first_wide-none (in_turn row).operations (row_operations rows) h.0.done.fits ∙ none_wide rows vs h.1

  more_rows : (rows more : List Row) (vs ws : List (Vec RowLiteral Global)) → AreRowsOf ns rows vs → AreRowsOf ns more ws → AreRowsOf ns (rows ++ more) (vs ++ ws)
  more_rows [] more [] ws h k = k
  more_rows [] more (v ∷ vs) ws h k = absurd h
  more_rows (row ∷ rows) more [] ws h k = absurd h
  more_rows (row ∷ rows) more (v ∷ vs) ws h k = (h.0, more_rows rows more vs ws h.1 k)

  module _ (rows more : List Row) where
    apart : row_operations (rows ++ more) ≡ row_operations rows ++ row_operations more
    apart = flat_map-append (λ (row : Row). (in_turn row).operations) rows more

    -- the first ones stop
    pub first_stops : (s : ArithmeticStop) → ComeOfRows ns rows (Err s) → ComeOfRows ns (rows ++ more) (Err s)
    first_stops s h = subst (λ ops. IsStopAt (first_wide ops) s) (sym apart) (stop_before (row_operations rows) (row_operations more) s h)

    module _ (v : Vec (Vec RowLiteral Global) Global) (given : ComeOfRows ns rows (Ok v)) where
      -- the others do
      pub second_stops : (s : ArithmeticStop) → ComeOfRows ns more (Err s) → ComeOfRows ns (rows ++ more) (Err s)
      second_stops s h =
          subst (λ ops. IsStopAt (first_wide ops) s) (sym apart) (stop_behind (row_operations rows) (row_operations more) s (none_wide rows v.items given) h)

      pub rows_joined : (ws all : List (Vec RowLiteral Global)) → all ≡ v.items ++ ws → AreRowsOf ns more ws → AreRowsOf ns (rows ++ more) all
      rows_joined ws all is h = subst (AreRowsOf ns (rows ++ more)) (sym is) (more_rows rows more v.items ws given h)

  -- a row alone stops where it does among rows
  pub last_stops : (row : Row) (s : ArithmeticStop) → ComesOfRow ns row (Err s) → ComeOfRows ns (row ∷ []) (Err s)
  last_stops row s h = stop_before (in_turn row).operations [] s h

  -- the first literal of rows stops
  pub literal_stops : (c : Computation Literal) (cs : Row) (rows : List Row) (s : ArithmeticStop) → IsStopAt (first_wide c.operations) s → ComeOfRows ns ((c ∷ cs) ∷ rows) (Err s)
  literal_stops c cs rows s h =
      stop_before (in_turn (c ∷ cs)).operations (row_operations rows) s (stop_before c.operations (in_turn cs).operations s h)

  -- a row with a literal on a term that is this one
  pub on_term : (l m : TermLit) → l ≡ m → (cs : Row) (r : Result (Vec RowLiteral Global) ArithmeticStop) → (l.term < length ns → ComesOfRow ns (at_once (literal_of ns l) ∷ cs) r) → m.term < length ns
      → ComesOfRow ns (at_once (literal_of ns m) ∷ cs) r
  on_term l m e cs r h = subst (λ (k : TermLit). k.term < length ns → ComesOfRow ns (at_once (literal_of ns k) ∷ cs) r) e h

  -- what is no row
  pub none_there : (rows : List Row) (r : Result (Vec (Vec RowLiteral Global) Global) ArithmeticStop) → rows ≡ [] → ComeOfRows ns [] r → ComeOfRows ns rows r
  none_there rows r none = subst (λ rs. ComeOfRows ns rs r) (sym none)
