-- The operators, put among the names one by one.
use Rattle.std.proofs.Common.{[], ◌≡◌, ℕ, ◌<◌, ◌≤◌, ◌+◌, suc, ◌&&◌, ◌||◌, not, Bool, true, false, List, ◌∷◌, ◌++◌, length, map, take, drop, get_or, Bor, None, Some, cond, bytes_eq, refl, subst, sym, ap, ◌∙◌, drop-cons, add-one}
use Rattle.std.proofs.lemmas.List.{map_more, take_all}
use Rattle.nz_spec.specs.terms.Table.{Node}
use Rattle.nz_script.specs.commands.Parse.{is_one_of}
use Rattle.nz_script.specs.commands.Elaboration.{operator_table, operator_named, listed}
use Rattle.nz_elaborate.specs.declared.operators.Operator.{Operator}
use Rattle.nz_elaborate.specs.declared.names.Named as named
use Rattle.nz_elaborate.specs.declared.names.Named.TheVariants as kinds
use Rattle.nz_elaborate.specs.Operators.{entry_meaning}
use Rattle.nz_elaborate.specs.Names.{operator_entry, named_by, SameNamed, IsScope, nothing_declared}

-- the name of an entry
abbrev pub word : Bor (List ℕ) × Operator → List ℕ
word e = e.0.now

-- none of the names is an earlier one
abbrev pub all_fresh : List (List ℕ) → List (List ℕ) → Bool
all_fresh earlier [] = true
all_fresh earlier (name ∷ names) = not (is_one_of earlier name) && all_fresh (earlier ++ name ∷ []) names

fresh_first : (a b : Bool) → (not a && b) ≡ true → a ≡ false
fresh_first true b e = cc
fresh_first false b e = refl

fresh_rest : (a b : Bool) → (not a && b) ≡ true → b ≡ true
fresh_rest true b e = cc
fresh_rest false b e = e

unlisted : (es : List (Bor (List ℕ) × Operator)) (name : List ℕ) → is_one_of (map word es) name ≡ false → listed (map operator_entry es) name ≡ None
unlisted [] name h = refl
unlisted (e ∷ es) name h =
    (elim (bytes_eq name e.0.now) as (λ b. (b || is_one_of (map word es) name) ≡ false → cond b (Some (kinds.Operator e.1)) (listed (map operator_entry es) name) ≡ None) [
      | true ↦ λ k. cc
      | false ↦ λ k. unlisted es name k
    ]) h

fresh_cut : (es : List (Bor (List ℕ) × Operator)) (i : ℕ) (z : Bor (List ℕ) × Operator) → i < length es → all_fresh (map word (take i es)) (map word (drop i es)) ≡ true
    → all_fresh (map word (take i es)) (word (get_or es i z) ∷ map word (drop (suc i) es)) ≡ true
fresh_cut es i z below h = subst (λ l. all_fresh (map word (take i es)) (map word l) ≡ true) (drop-cons es i z below) h

-- the name that comes next isn't there
pub fresh_here : (es : List (Bor (List ℕ) × Operator)) (i : ℕ) (z : Bor (List ℕ) × Operator) (names : List (List ℕ × named.Named)) (name : List ℕ) → i < length es → name ≡ word (get_or es i z)
    → names ≡ map operator_entry (take i es) → all_fresh (map word (take i es)) (map word (drop i es)) ≡ true → named_by names name ≡ None
fresh_here es i z names name below is made h =
    ap (λ l. listed l name) made ∙ ap (listed (map operator_entry (take i es))) is
    ∙ unlisted (take i es) (word (get_or es i z)) (fresh_first _ _ (fresh_cut es i z below h))

pub fresh_next : (es : List (Bor (List ℕ) × Operator)) (i : ℕ) (z : Bor (List ℕ) × Operator) (name : List ℕ) → i < length es → name ≡ word (get_or es i z) → all_fresh (map word (take i es)) (map word (drop i es)) ≡ true
    → all_fresh (map word (take (i + 1) es)) (map word (drop (i + 1) es)) ≡ true
fresh_next es i z name below is h =
    ap (λ l. all_fresh l (map word (drop (i + 1) es))) (map_more word es i z below)
    ∙ ap (λ n. all_fresh (map word (take i es) ++ word (get_or es i z) ∷ []) (map word (drop n es))) (add-one i)
    ∙ fresh_rest _ _ (fresh_cut es i z below h)

-- one operator more
pub added_next : (es : List (Bor (List ℕ) × Operator)) (i : ℕ) (z : Bor (List ℕ) × Operator) (before after : List (List ℕ × named.Named)) (name : List ℕ) (o : Operator) → i < length es
    → name ≡ word (get_or es i z) → o ≡ (get_or es i z).1 → before ≡ map operator_entry (take i es) → after ≡ before ++ (name, kinds.Operator o) ∷ [] → after ≡ map operator_entry (take (i + 1) es)
added_next es i z before after name o below is same made grew =
    grew ∙ ap (λ l. l ++ (name, kinds.Operator o) ∷ []) made
    ∙ ap (λ n. map operator_entry (take i es) ++ (n, kinds.Operator o) ∷ []) is
    ∙ ap (λ p. map operator_entry (take i es) ++ (word (get_or es i z), kinds.Operator p) ∷ []) same
    ∙ sym (map_more operator_entry es i z below)

entries_same : (ns : List Node) (es : List (Bor (List ℕ) × Operator)) (name : List ℕ) → SameNamed ns (listed (map operator_entry es) name) (listed (map entry_meaning es) name) None None
entries_same ns [] name = tt
entries_same ns (e ∷ es) name =
    elim (bytes_eq name e.0.now) as (λ b. SameNamed ns (cond b (Some (kinds.Operator e.1)) (listed (map operator_entry es) name)) (cond b (Some (entry_meaning e).1) (listed (map entry_meaning es) name)) None None) [
      | true ↦ refl
      | false ↦ entries_same ns es name
    ]

pub operators_scope : (ns : List Node) (es : List (Bor (List ℕ) × Operator)) (i : ℕ) (names : List (List ℕ × named.Named)) → length es ≤ i → map entry_meaning es ≡ operator_table
    → names ≡ map operator_entry (take i es) → IsScope ns names [] nothing_declared
operators_scope ns es i names past table made =
    let whole : names ≡ map operator_entry es = made ∙ ap (map operator_entry) (take_all i es past) in
    record {
      bound = λ name. tt;
      live = λ name. subst (λ l. SameNamed ns (listed l name) (operator_named name) None None) (sym whole)
          (subst (λ l. SameNamed ns (listed (map operator_entry es) name) (listed l name) None None) table (entries_same ns es name));
      fits = tt;
    }
