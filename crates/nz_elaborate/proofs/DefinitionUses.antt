-- Lemmas of uses of definitions: the arguments where sorts are wanted.
use Rattle.std.specs.Prelude.{⊤}
use Rattle.std.proofs.Common.{[], ◌≡◌, ℕ, ◌<◌, ◌+◌, zero, suc, ◌≤◌, List, ◌∷◌, ◌++◌, length, map, take, drop, get_or, Option, None, Some, slice_get, refl, sym, ap, ◌∙◌, subst, arith}
use Rattle.std.proofs.lemmas.List.{length-map, length-take-le, map_more, take_all}
use Rattle.std.proofs.lemmas.List.Elements.{All-nil, All-cons}
use Rattle.std.proofs.lemmas.Option.{slice_get-get_or}
use Rattle.nz_spec.specs.terms.Term as spec
use Rattle.nz_spec.specs.terms.Term.{Term, Terms, no_terms, terms}
use Rattle.nz_spec.specs.terms.Normal.{normal_of}
use Rattle.nz_spec.specs.terms.Table.{Node, term_in, terms_at}
use Rattle.nz_spec.specs.terms.Operators.{placed, term_count}
use Rattle.nz_spec.specs.terms.Definitions.{term_at, terms_onto, all_placed}
use Rattle.nz_term.specs.Constants.{sort_of}
use Rattle.nz_term.specs.declared.heads.Sort.{Sort}
use Rattle.nz_elaborate.specs.declared.typed.Typed.{Typed}
use Rattle.nz_elaborate.specs.Typed.{Grows, IsTyped, AreTyped}
use Rattle.nz_elaborate.specs.Elaborate.{StandsAs, Places}
use Rattle.nz_elaborate.proofs.TableGrowth.{longer, term_kept}
use Rattle.nz_elaborate.proofs.TypedPreservation.{typed_kept}
use Rattle.nz_elaborate.proofs.OperatorApplications.{count_typed}

-- ---- Arguments one after another

-- The term is placed at this sort, and this is the number of its normal one.
pub record IsPlaced (ns : List Node) (s : spec.Sort) (t : Term) (id : ℕ) : Type 0 where
  pub term : Term
  pub is : placed s t ≡ Some term
  pub within : id < length ns
  pub normal : term_in ns id ≡ normal_of term

-- The first of the terms are placed at these sorts, and these are the numbers of their normal ones.
abbrev pub EachPlaced : List Node → List spec.Sort → Terms → List ℕ → Type 0
EachPlaced ns [] ts [] = ⊤
EachPlaced ns [] ts (i ∷ is) = ⊥
EachPlaced ns (s ∷ ss) no_terms is = ⊥
EachPlaced ns (s ∷ ss) (terms t ts) [] = ⊥
EachPlaced ns (s ∷ ss) (terms t ts) (i ∷ is) = IsPlaced ns s t i × EachPlaced ns ss ts is

pub each_placed_kept : (old new : List Node) → Grows old new → (ss : List spec.Sort) (ts : Terms) (is : List ℕ) → EachPlaced old ss ts is → EachPlaced new ss ts is
each_placed_kept old new g [] ts [] e = tt
each_placed_kept old new g [] ts (i ∷ is) e = absurd e
each_placed_kept old new g (s ∷ ss) no_terms is e = absurd e
each_placed_kept old new g (s ∷ ss) (terms t ts) [] e = absurd e
each_placed_kept old new g (s ∷ ss) (terms t ts) (i ∷ is) e =
    let first = e.0 in (
      record {
        term = first.term;
        is = first.is;
        within = omega (arith, first.within, longer old new g);
        normal = term_kept old new g i first.within ∙ first.normal;
      },
      each_placed_kept old new g ss ts is e.1,
    )

pub each_placed_push : (ns : List Node) (ss : List spec.Sort) (ts : Terms) (is : List ℕ) (s : spec.Sort) (t : Term) (id : ℕ) → EachPlaced ns ss ts is
    → term_at ts (length ss) ≡ Some t → IsPlaced ns s t id → EachPlaced ns (ss ++ s ∷ []) ts (is ++ id ∷ [])
each_placed_push ns [] no_terms [] s t id e here p = cc
each_placed_push ns [] (terms u us) [] s t id e here p =
    let same : u ≡ t = cc in
    (subst (λ v. IsPlaced ns s v id) (sym same) p, tt)
each_placed_push ns [] ts (i ∷ is) s t id e here p = absurd e
each_placed_push ns (r ∷ rs) no_terms is s t id e here p = absurd e
each_placed_push ns (r ∷ rs) (terms u us) [] s t id e here p = absurd e
each_placed_push ns (r ∷ rs) (terms u us) (i ∷ is) s t id e here p = (e.0, each_placed_push ns rs us is s t id e.1 here p)

pub all_placed_each : (ns : List Node) (ss : List spec.Sort) (ts : Terms) (is : List ℕ) → EachPlaced ns ss ts is → length ss ≡ term_count ts → Places ss ts ns is
all_placed_each ns [] no_terms [] e n = record { terms = no_terms; are = refl; within = All-nil (λ i. i < length ns); normal = refl }
all_placed_each ns [] (terms t ts) [] e n = absurd (omega (arith, n))
all_placed_each ns [] ts (i ∷ is) e n = absurd e
all_placed_each ns (s ∷ ss) no_terms is e n = absurd e
all_placed_each ns (s ∷ ss) (terms t ts) [] e n = absurd e
all_placed_each ns (s ∷ ss) (terms t ts) (i ∷ is) e n =
    let first = e.0 in
    let rest : Places ss ts ns is = all_placed_each ns ss ts is e.1 (omega (arith, n)) in
    record {
      terms = terms first.term rest.terms;
      are = rw (first.is, rest.are) refl;
      within = All-cons (λ i. i < length ns) i is first.within rest.within;
      normal = ap (λ u. terms u (terms_at (term_in ns) is)) first.normal ∙ ap (terms (normal_of first.term)) rest.normal;
    }

terms_onto-none : (o : Option Term) → terms_onto o None ≡ None
terms_onto-none None = refl
terms_onto-none (Some t) = refl

-- none are placed where one isn't
pub all_placed_none : (before after : List spec.Sort) (s : spec.Sort) (ts : Terms) (t : Term) → term_at ts (length before) ≡ Some t → placed s t ≡ None
    → all_placed (before ++ s ∷ after) ts ≡ None
all_placed_none [] after s no_terms t here none = refl
all_placed_none [] after s (terms u us) t here none =
    let same : u ≡ t = cc in
    let unplaced : placed s u ≡ None = ap (placed s) same ∙ none in
    ap (λ o. terms_onto o (all_placed after us)) unplaced
all_placed_none (r ∷ rs) after s no_terms t here none = refl
all_placed_none (r ∷ rs) after s (terms u us) t here none =
    ap (terms_onto (placed r u)) (all_placed_none rs after s us t here none) ∙ terms_onto-none (placed r u)

-- nor where there are more or fewer of them
pub all_placed_count : (ss : List spec.Sort) (ts : Terms) → (length ss ≡ term_count ts → ⊥) → all_placed ss ts ≡ None
all_placed_count [] no_terms n = absurd (n refl)
all_placed_count [] (terms t ts) n = refl
all_placed_count (s ∷ ss) no_terms n = refl
all_placed_count (s ∷ ss) (terms t ts) n =
    ap (terms_onto (placed s t)) (all_placed_count ss ts (λ e. n (ap suc e))) ∙ terms_onto-none (placed s t)

-- the term of an argument
pub record IsTermAt (ns : List Node) (ts : Terms) (i : ℕ) (x : Typed) : Type 0 where
  pub term : Term
  pub is : term_at ts i ≡ Some term
  pub typed : IsTyped ns x term

pub typed_at : (ns : List Node) (xs : List Typed) (ts : Terms) (i : ℕ) (x : Typed) → AreTyped ns xs ts → slice_get xs i ≡ Some x → IsTermAt ns ts i x
typed_at ns [] ts i x p here = cc
typed_at ns (y ∷ ys) no_terms i x p here = absurd p
typed_at ns (y ∷ ys) (terms t ts) zero x p here =
    let same : y ≡ x = cc in
    record { term = t; is = refl; typed = subst (λ z. IsTyped ns z t) same p.0 }
typed_at ns (y ∷ ys) (terms t ts) (suc i) x p here =
    let rest : IsTermAt ns ts i x = typed_at ns ys ts i x p.1 here in
    record { term = rest.term; is = rest.is; typed = rest.typed }

-- ---- A loop over the sorts and the arguments

-- the sorts so far are as many as the steps
sorts_so_far : (ss : List Sort) (i : ℕ) → i < length ss → length (map sort_of (take i ss)) ≡ i
sorts_so_far ss i below = length-map (take i ss) sort_of ∙ length-take-le i ss (omega (arith, below))

argument_at : (ns : List Node) (xs : List Typed) (ts : Terms) (i : ℕ) (e : Typed) → i < length xs → AreTyped ns xs ts → IsTermAt ns ts i (get_or xs i e)
argument_at ns xs ts i e below p = typed_at ns xs ts i (get_or xs i e) p (slice_get-get_or xs i e below)

-- one argument more
pub placed_next : (start old new : List Node) (ss : List Sort) (xs : List Typed) (i id : ℕ) (d : Sort) (e : Typed) (ids items : List ℕ) → Grows start old → Grows old new
    → i < length ss → i < length xs → items ≡ ids ++ id ∷ []
    → ((ts : Terms) → AreTyped start xs ts → EachPlaced old (map sort_of (take i ss)) ts ids)
    → ((t : Term) → IsTyped old (get_or xs i e) t → StandsAs (placed (sort_of (get_or ss i d)) t) new (record { id = id; sort = get_or ss i d }))
    → (ts : Terms) → AreTyped start xs ts → EachPlaced new (map sort_of (take (i + 1) ss)) ts items
placed_next start old new ss xs i id d e ids items g h below within grown each stands ts p =
    let s = get_or ss i d in
    let x = get_or xs i e in
    let here : IsTermAt start ts i x = argument_at start xs ts i e within p in
    let made : StandsAs (placed (sort_of s) here.term) new (record { id = id; sort = s }) = stands here.term (typed_kept start old g x here.term here.typed) in
    subst (λ l. EachPlaced new l ts items) (sym (map_more sort_of ss i d below))
    (subst (EachPlaced new (map sort_of (take i ss) ++ sort_of s ∷ []) ts) (sym grown)
    (each_placed_push new (map sort_of (take i ss)) ts ids (sort_of s) here.term id
    (each_placed_kept old new h (map sort_of (take i ss)) ts ids (each ts p))
    (ap (term_at ts) (sorts_so_far ss i below) ∙ here.is)
    (record { term = made.term; is = made.is; within = made.typed.within; normal = made.typed.normal })))

-- the sorts round one of them
sorts_round : (ss : List Sort) (i : ℕ) (d : Sort) → i < length ss → map sort_of (take i ss) ++ sort_of (get_or ss i d) ∷ map sort_of (drop (suc i) ss) ≡ map sort_of ss
sorts_round [] i d below = absurd (omega (arith, below))
sorts_round (s ∷ ss) zero d below = refl
sorts_round (s ∷ ss) (suc i) d below = ap (λ l. sort_of s ∷ l) (sorts_round ss i d (omega (arith, below)))

-- an argument that isn't placed
pub placed_none : (start : List Node) (ss : List Sort) (xs : List Typed) (i : ℕ) (d : Sort) (e : Typed) → i < length ss → i < length xs
    → ((ns : List Node) (t : Term) → IsTyped ns (get_or xs i e) t → placed (sort_of (get_or ss i d)) t ≡ None)
    → (ts : Terms) → AreTyped start xs ts → all_placed (map sort_of ss) ts ≡ None
placed_none start ss xs i d e below within none ts p =
    let here : IsTermAt start ts i (get_or xs i e) = argument_at start xs ts i e within p in
    subst (λ l. all_placed l ts ≡ None) (sorts_round ss i d below)
    (all_placed_none (map sort_of (take i ss)) (map sort_of (drop (suc i) ss)) (sort_of (get_or ss i d)) ts here.term
    (ap (term_at ts) (sorts_so_far ss i below) ∙ here.is) (none start here.term here.typed))

-- all of them
pub placed_all : (start new : List Node) (ss : List Sort) (xs : List Typed) (i : ℕ) (ids : List ℕ) → length ss ≤ i → length ss ≡ length xs
    → ((ts : Terms) → AreTyped start xs ts → EachPlaced new (map sort_of (take i ss)) ts ids)
    → (ts : Terms) → AreTyped start xs ts → Places (map sort_of ss) ts new ids
placed_all start new ss xs i ids past same each ts p =
    all_placed_each new (map sort_of ss) ts ids (subst (λ l. EachPlaced new (map sort_of l) ts ids) (take_all i ss past) (each ts p))
    (length-map ss sort_of ∙ same ∙ count_typed start xs ts p)

-- more arguments than sorts, or fewer
pub placed_count : (start : List Node) (ss : List Sort) (xs : List Typed) → (length ss ≡ length xs → ⊥) → (ts : Terms) → AreTyped start xs ts
    → all_placed (map sort_of ss) ts ≡ None
placed_count start ss xs differ ts p =
    all_placed_count (map sort_of ss) ts (λ e. differ (sym (length-map ss sort_of) ∙ e ∙ sym (count_typed start xs ts p)))
