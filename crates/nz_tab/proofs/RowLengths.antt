-- Rows that become longer or shorter one after another.
use Rattle.std.proofs.Common.{Vec, Global, ◌≡◌, ℕ, ◌+◌, ◌<◌, ◌≤◌, List, [], ◌∷◌, ◌++◌, drop, get_or, length, map, set, take, sym, ap, ◌∙◌, arith}
use Rattle.std.proofs.lemmas.List.{append-nil, append_assoc, drop_all, drop_more, get_or-map, get_or_at, length-map, length-take-le, map-set, map_more, set-get_or, set_at, take_all}
use Rattle.nz_fractions.specs.Fraction.{Fraction}
use Rattle.nz_tab.proofs.StoredRows.{items}

-- a row that keeps its coefficients
pub rows_kept : (rows : List (Vec Fraction Global)) (i : ℕ) (x v : Vec Fraction Global) → i < length rows → x ≡ get_or rows i x → v.items ≡ x.items → map items (set rows i v) ≡ map items rows
rows_kept rows i x v inside read kept =
    map-set items rows i v
    ∙ ap (set (map items rows) i) (kept ∙ ap items read ∙ sym (get_or-map items rows i x [] inside))
    ∙ set-get_or (map items rows) i []

module _ (h : List Fraction → List Fraction) (old : List (List Fraction)) where
  -- those before a place have become others, and those behind it are as they were
  abbrev pub midway : ℕ → List (List Fraction)
  midway i = map h (take i old) ++ drop i old

  -- one row more
  pub rows_more : (rows : List (Vec Fraction Global)) (i : ℕ) (x v : Vec Fraction Global) → map items rows ≡ midway i → i < length rows → i < length old → x ≡ get_or rows i x → v.items ≡ h x.items
      → map items (set rows i v) ≡ midway (i + 1)
  rows_more rows i x v e inside within read is =
      map-set items rows i v
      ∙ ap (λ (l : List (List Fraction)). set l i v.items) split
      ∙ set_at (map h (take i old)) (get_or old i []) (drop (i + 1) old) v.items i long
      ∙ ap (λ (y : List Fraction). map h (take i old) ++ y ∷ drop (i + 1) old) (is ∙ ap h there)
      ∙ sym (append_assoc (map h (take i old)) (h (get_or old i []) ∷ []) (drop (i + 1) old))
      ∙ ap (λ (l : List (List Fraction)). l ++ drop (i + 1) old) (sym (map_more h old i [] within))
    where
      split : map items rows ≡ map h (take i old) ++ get_or old i [] ∷ drop (i + 1) old
      split = e ∙ ap (λ (l : List (List Fraction)). map h (take i old) ++ l) (drop_more old i [] within)

      long : length (map h (take i old)) ≡ i
      long = length-map (take i old) h ∙ length-take-le i old (omega (arith, within))

      there : x.items ≡ get_or old i []
      there =
          ap items read
          ∙ sym (get_or-map items rows i x [] inside)
          ∙ ap (λ (l : List (List Fraction)). get_or l i []) split
          ∙ get_or_at (map h (take i old)) (get_or old i []) (drop (i + 1) old) [] i long

  pub rows_all : (rows : List (Vec Fraction Global)) (i : ℕ) → map items rows ≡ midway i → length old ≤ i → map items rows ≡ map h old
  rows_all rows i e past =
      e
      ∙ ap (λ (l : List (List Fraction)). map h (take i old) ++ l) (drop_all i old past)
      ∙ append-nil (map h (take i old))
      ∙ ap (map h) (take_all i old past)
