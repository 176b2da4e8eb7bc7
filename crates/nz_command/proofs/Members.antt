-- Tables of words, and parts of a kind in a list.
use Rattle.std.proofs.Common.{◌≡◌, ℕ, ◌<◌, ◌≤◌, ◌+◌, suc, List, [], ◌∷◌, ◌++◌, length, map, drop, get_or, Option, Some, None, option_map, if◌then◌else◌, Bor, Bool, true, false, bytes_eq, refl, sym, ap, ◌∙◌, subst, drop-cons, add-one}
use Rattle.std.proofs.Math.ListN.{drop_of_length-le}
use Rattle.nz_sexpr.specs.declared.tree.Tree as code
use Rattle.nz_sexpr.specs.View.{view, seen}
use Rattle.nz_script.specs.text.Tree.{Tree}
use Rattle.nz_script.specs.commands.Parse.{cons_onto, each, listed_with}
use Rattle.nz_command.specs.Requests.{entry}
use Rattle.nz_command.proofs.ParsedLists.{before, parsed_next, parsed_none}

module _ {A : Type 0} (table : List (Bor (List ℕ) × A)) (i : ℕ) (z : Bor (List ℕ) × A) (word : List ℕ) (known : Option A) (below : i < length table) (item : z ≡ get_or table i z)
    (is : known ≡ listed_with (map entry (drop i table)) word) where
  here : known ≡ listed_with (entry z ∷ map entry (drop (suc i) table)) word
  here = is ∙ ap (λ l. listed_with (map entry l) word) (drop-cons table i z below) ∙ ap (λ e. listed_with (entry e ∷ map entry (drop (suc i) table)) word) (sym item)

  -- a word that isn't that of an entry is looked for in those after it
  pub not_listed : bytes_eq word z.0.now ≡ false → known ≡ listed_with (map entry (drop (i + 1) table)) word
  not_listed other = here ∙ rw other (rw (add-one i) refl)

  pub is_listed : bytes_eq word z.0.now ≡ true → Some z.1 ≡ known
  is_listed same = sym (here ∙ rw same refl)

pub listed_nowhere : {A : Type 0} (table : List (Bor (List ℕ) × A)) (i : ℕ) (word : List ℕ) (known : Option A) → known ≡ listed_with (map entry (drop i table)) word → length table ≤ i → None ≡ known
listed_nowhere table i word known is past = sym (is ∙ ap (λ l. listed_with (map entry l) word) (drop_of_length-le table past))

pub listed_if : {A : Type 0} {B : Type 0} (f : A → B) (b : Bool) (a : A) (m : Option A) → option_map f (if b then Some a else m) ≡ (if b then Some (f a) else option_map f m)
listed_if f true a m = refl
listed_if f false a m = refl

module _ {A : Type 0} {Y : Type 0} (part : Tree → Option A) (made : Y → A) where
  abbrev pub EachSoFar : List code.Tree → ℕ → List Y → Type 0
  EachSoFar xs i ys = each part (seen xs) ≡ before cons_onto (map made ys) (each part (seen (drop i xs)))

  pub each_next : (xs : List code.Tree) (i : ℕ) (z : code.Tree) (ys new : List Y) (y : Y) → i < length xs → z ≡ get_or xs i z → Some (made y) ≡ part (view z) → new ≡ ys ++ y ∷ []
      → EachSoFar xs i ys → EachSoFar xs (i + 1) new
  each_next xs i z ys new y below item is grown so =
      subst (EachSoFar xs (i + 1)) (sym grown)
      (parsed_next cons_onto made (λ x. part (view x)) (λ l. each part (seen l)) (λ x l. refl) xs i z (each part (seen xs)) ys y below (is ∙ ap (λ x. part (view x)) item) so)

  fails : (o : Option (List A)) → cons_onto None o ≡ None
  fails (Some l) = refl
  fails None = refl

  pub each_none : (xs : List code.Tree) (i : ℕ) (z : code.Tree) (ys : List Y) → i < length xs → z ≡ get_or xs i z → None ≡ part (view z) → EachSoFar xs i ys → None ≡ each part (seen xs)
  each_none xs i z ys below item is so =
      parsed_none cons_onto made (λ x. part (view x)) (λ l. each part (seen l)) (λ x l. refl) fails (λ a. refl) xs i z (each part (seen xs)) (map made ys) below
      (is ∙ ap (λ x. part (view x)) item) so

  all_before : (items : List A) → before cons_onto items (Some []) ≡ Some items
  all_before [] = refl
  all_before (a ∷ items) = ap (cons_onto (Some a)) (all_before items)

  pub each_end : (xs : List code.Tree) (i : ℕ) (ys : List Y) → length xs ≤ i → EachSoFar xs i ys → Some (map made ys) ≡ each part (seen xs)
  each_end xs i ys past so = sym (so ∙ ap (λ l. before cons_onto (map made ys) (each part (seen l))) (drop_of_length-le xs past) ∙ all_before (map made ys))
