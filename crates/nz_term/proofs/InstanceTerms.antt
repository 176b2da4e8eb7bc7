-- Instances of terms, made one after another in a table that grows.
use Rattle.std.proofs.Common.{◌≡◌, ◌==◌, inl, inr, ℕ, zero, suc, ◌+◌, ◌<◌, ◌≤◌, Bool, true, false, cond, List, [], ◌∷◌, ◌++◌, length, map, take, get_or, slice_get, Option, Some, None, refl, sym, ap, subst, ◌∙◌, arith, append_assoc, append-nil, length-append}
use Rattle.std.specs.Prelude.{◌⊎◌, ⊤, All, Contains, option_map, unwrap_or}
use Rattle.std.proofs.lemmas.Bool.{eq-eqb}
use Rattle.std.proofs.lemmas.Bool.Decides.{eqb_tells}
use Rattle.std.proofs.lemmas.List.{take_all}
use Rattle.std.proofs.lemmas.List.Elements.{All-more, All-contains, All-weaker, All-take, All-append, All-map, All-from_recursion, recursion_from_All, All-head, All-tail}
use Rattle.std.proofs.lemmas.Option.{none-some, same_Some, slice_get-get_or, slice_get_within, get_or_from_slice_get}
use Rattle.nz_spec.specs.terms.Term.{Constant, constant_of, Head, parameter, Term, apply, Terms, no_terms, terms}
use Rattle.nz_spec.specs.terms.Definitions.{term_at, instance_of, instances_of}
use Rattle.nz_spec.specs.terms.Order.{ComeBehindArguments}
use Rattle.nz_spec.specs.terms.Table.{HasItsArguments, Node, term_in, terms_at}
use Rattle.nz_term.specs.Growth.{IsOperator, Grows, KeepsTerms}
use Rattle.nz_term.specs.Instances.{argument_of, IsInstance, HasInstances}
use Rattle.nz_lists.proofs.Places.{slice_get_kept}

-- ---- Tables that grow

pub grows_not : (ns : List Node) → Grows ns ns
grows_not ns = record { more = []; all = sym (append-nil ns); operators = tt; stays = λ i below. refl }

-- by a node, if it was not there
pub grows_by : (ns : List Node) (n : Node) (new : List Node) → IsOperator n.head → KeepsTerms ns new → (new ≡ ns) ⊎ (new ≡ ns ++ n ∷ []) → Grows ns new
grows_by ns n new operator stays grown =
    elim grown [
      | inl same ↦ subst (Grows ns) (sym same) (grows_not ns)
      | inr one ↦ record { more = n ∷ []; all = one; operators = (operator, tt); stays = stays }
    ]

pub grows_longer : (old new : List Node) → Grows old new → length old ≤ length new
grows_longer old new g = omega (arith, ap length g.all, length-append old g.more)

pub grows_on : (a b c : List Node) → Grows a b → Grows b c → Grows a c
grows_on a b c g h =
    let operates = λ (n : Node). IsOperator n.head in
    record {
      more = g.more ++ h.more;
      all = h.all ∙ ap (λ l. l ++ h.more) g.all ∙ append_assoc a g.more h.more;
      operators = recursion_from_All operates (g.more ++ h.more)
          (All-append operates g.more h.more (All-from_recursion operates g.more g.operators) (All-from_recursion operates h.more h.operators));
      stays = λ i below. h.stays i (let long = grows_longer a b g in omega arith) ∙ g.stays i below;
    }

-- terms stay
pub term_kept : (old new : List Node) → Grows old new → (i : ℕ) → i < length old → term_in new i ≡ term_in old i
term_kept old new g i below = g.stays i below

pub terms_kept : (old new : List Node) → Grows old new → (is : List ℕ) → All (λ i. i < length old) is → terms_at (term_in new) is ≡ terms_at (term_in old) is
terms_kept old new g [] within = refl
terms_kept old new g (i ∷ is) within =
    let below = λ (j : ℕ). j < length old in
    ap (λ t. terms t (terms_at (term_in new) is)) (g.stays i (All-head below i is within))
    ∙ ap (terms (term_in old i)) (terms_kept old new g is (All-tail below i is within))

-- and so do nodes
pub node_kept : (old new : List Node) → Grows old new → (i : ℕ) (n : Node) → i < length old → slice_get new i ≡ Some n → slice_get old i ≡ Some n
node_kept old new g i n below at =
    let there : slice_get old i ≡ Some (get_or old i n) = slice_get-get_or old i n below in
    let still : slice_get new i ≡ Some (get_or old i n) = ap (λ l. slice_get l i) g.all ∙ slice_get_kept old g.more i (get_or old i n) there in
    there ∙ sym still ∙ at

pub within_more : (old new : List Node) → Grows old new → (is : List ℕ) → All (λ i. i < length old) is → All (λ i. i < length new) is
within_more old new g is within =
    All-weaker (λ i. i < length old) (λ i. i < length new) (λ i below. let long = grows_longer old new g in omega arith) is within

-- ---- Heads that are no constants

-- a head with arguments is an operator's
pub operator : (h : Head) (kids : List ℕ) → HasItsArguments h kids → (kids ≡ [] → ⊥) → IsOperator h
operator h kids leaf some = by (constant_of h) leaf
  where
    by : (o : Option Constant) → elim o as (λ x. Type 0) [ Some c ↦ kids ≡ [] | None ↦ ⊤ ] → elim o as (λ x. Type 0) [ Some c ↦ ⊥ | None ↦ ⊤ ]
    by (Some c) leaf = absurd (some leaf)
    by None leaf = tt

-- an operator may have any arguments
pub free : (h : Head) (kids : List ℕ) → IsOperator h → HasItsArguments h kids
free h kids operates = by (constant_of h) operates
  where
    by : (o : Option Constant) → elim o as (λ x. Type 0) [ Some c ↦ ⊥ | None ↦ ⊤ ] → elim o as (λ x. Type 0) [ Some c ↦ kids ≡ [] | None ↦ ⊤ ]
    by (Some c) operates = absurd operates
    by None operates = tt

-- ---- The instance of one term

term_listed : (f : ℕ → Term) (us : List ℕ) (i : ℕ) → term_at (terms_at f us) i ≡ option_map f (slice_get us i)
term_listed f [] i = refl
term_listed f (u ∷ us) zero = refl
term_listed f (u ∷ us) (suc i) = term_listed f us i

put : (o : Option Term) (u t : Term) → o ≡ Some t → elim o as (λ x. Term) [ Some v ↦ v | None ↦ u ] ≡ t
put (Some v) u t e = same_Some v t e
put None u t e = absurd (none-some t e)

not_put : (o : Option Term) (u : Term) → o ≡ None → elim o as (λ x. Term) [ Some v ↦ v | None ↦ u ] ≡ u
not_put (Some v) u e = absurd (none-some v (sym e))
not_put None u e = refl

-- where a term is put for the head, it is the instance
pub argument_is : (f : ℕ → Term) (us : List ℕ) (h : Head) (ts : Terms) (a : ℕ) → argument_of h us ≡ Some a → instance_of (terms_at f us) (apply h ts) ≡ f a
argument_is f us (parameter i s) ts a e =
    put (term_at (terms_at f us) i) (apply (parameter i s) (instances_of (terms_at f us) ts)) (f a) (term_listed f us i ∙ ap (option_map f) e)
argument_is f us h ts a e = absurd (none-some a e)

listed_within : (n : ℕ) (us : List ℕ) (j a : ℕ) → All (λ u. u < n) us → slice_get us j ≡ Some a → a < n
listed_within n us j a within at =
    subst (λ x. x < n) (get_or_from_slice_get us j a 0 at) (within j 0 (slice_get_within us j a at))

pub argument_within : (n : ℕ) (us : List ℕ) (h : Head) (a : ℕ) → All (λ u. u < n) us → argument_of h us ≡ Some a → a < n
argument_within n us (parameter i s) a within e = listed_within n us i a within e
argument_within n us h a within e = absurd (none-some a e)

-- where none is, the head stays over the instances
pub head_stays : (f : ℕ → Term) (us : List ℕ) (h : Head) (ts : Terms) → argument_of h us ≡ None
    → instance_of (terms_at f us) (apply h ts) ≡ apply h (instances_of (terms_at f us) ts)
head_stays f us (parameter i s) ts e =
    not_put (term_at (terms_at f us) i) (apply (parameter i s) (instances_of (terms_at f us) ts)) (term_listed f us i ∙ ap (option_map f) e)
head_stays f us h ts e = refl

-- the instances of arguments, by their numbers
pub instances_are : (ns : List Node) (us : List ℕ) (made : ℕ → ℕ) (ks : List ℕ) → All (λ k. IsInstance ns us k (made k)) ks
    → terms_at (term_in ns) (map (made) ks) ≡ instances_of (terms_at (term_in ns) us) (terms_at (term_in ns) ks)
instances_are ns us made [] h = refl
instances_are ns us made (k ∷ ks) h =
    let own = All-head (λ k. IsInstance ns us k (made k)) k ks h in
    ap (λ t. terms t (terms_at (term_in ns) (map (made) ks))) own.term
    ∙ ap (terms (instance_of (terms_at (term_in ns) us) (term_in ns k)))
    (instances_are ns us made ks (All-tail (λ k. IsInstance ns us k (made k)) k ks h))

pub instances_within : (ns : List Node) (us : List ℕ) (made : ℕ → ℕ) (ks : List ℕ) → All (λ k. IsInstance ns us k (made k)) ks
    → All (λ k. k < length ns) (map (made) ks)
instances_within ns us made ks h =
    All-map (λ k. k < length ns) (made) ks
    (All-weaker (λ k. IsInstance ns us k (made k)) (λ k. made k < length ns) (λ k i. i.within) ks h)

-- the instance of a term of this head over these arguments, by how the head is
pub argument_instance : (ns : List Node) (us : List ℕ) (id : ℕ) (h : Head) (ks : List ℕ) (a : ℕ) → All (λ u. u < length ns) us → argument_of h us ≡ Some a
    → term_in ns id ≡ apply h (terms_at (term_in ns) ks) → IsInstance ns us id a
argument_instance ns us id h ks a within e term =
    record {
      within = argument_within (length ns) us h a within e;
      term = sym (ap (instance_of (terms_at (term_in ns) us)) term ∙ argument_is (term_in ns) us h (terms_at (term_in ns) ks) a e);
    }

over_instances : (ns : List Node) (us : List ℕ) (made : ℕ → ℕ) (id : ℕ) (h : Head) (ks : List ℕ) → argument_of h us ≡ None → term_in ns id ≡ apply h (terms_at (term_in ns) ks)
    → All (λ k. IsInstance ns us k (made k)) ks
    → apply h (terms_at (term_in ns) (map (made) ks)) ≡ instance_of (terms_at (term_in ns) us) (term_in ns id)
over_instances ns us made id h ks e term done =
    ap (apply h) (instances_are ns us made ks done)
    ∙ sym (ap (instance_of (terms_at (term_in ns) us)) term ∙ head_stays (term_in ns) us h (terms_at (term_in ns) ks) e)

pub own_instance : (ns : List Node) (us : List ℕ) (made : ℕ → ℕ) (id : ℕ) (h : Head) (ks : List ℕ) → argument_of h us ≡ None → term_in ns id ≡ apply h (terms_at (term_in ns) ks)
    → id < length ns → All (λ k. IsInstance ns us k (made k)) ks → map (made) ks ≡ ks → IsInstance ns us id id
own_instance ns us made id h ks e term below done same =
    record {
      within = below;
      term = term ∙ ap (λ l. apply h (terms_at (term_in ns) l)) (sym same) ∙ over_instances ns us made id h ks e term done;
    }

pub made_instance : (ns new : List Node) → Grows ns new → (us : List ℕ) (made : ℕ → ℕ) (id : ℕ) (h : Head) (ks : List ℕ) (m : ℕ) → All (λ u. u < length ns) us → argument_of h us ≡ None
    → term_in ns id ≡ apply h (terms_at (term_in ns) ks) → id < length ns → All (λ k. IsInstance ns us k (made k)) ks → m < length new
    → term_in new m ≡ apply h (terms_at (term_in ns) (map (made) ks)) → IsInstance new us id m
made_instance ns new g us made id h ks m arguments e term below done within is =
    record {
      within = within;
      term = is ∙ over_instances ns us made id h ks e term done ∙ ap (λ vs. instance_of vs (term_in ns id)) (sym (terms_kept ns new g us arguments))
          ∙ ap (instance_of (terms_at (term_in new) us)) (sym (term_kept ns new g id below));
    }

-- An instance stays one when the table grows.
pub instance_kept : (old new : List Node) → Grows old new → (us : List ℕ) → All (λ u. u < length old) us → (id made : ℕ) → id < length old
    → IsInstance old us id made → IsInstance new us id made
instance_kept old new g us within id made below i =
    record {
      within = let long = grows_longer old new g in let inside = i.within in omega arith;
      term = term_kept old new g made i.within ∙ i.term
          ∙ ap (λ vs. instance_of vs (term_in old id)) (sym (terms_kept old new g us within))
          ∙ ap (instance_of (terms_at (term_in new) us)) (sym (term_kept old new g id below));
    }

-- ---- A body without parameters

none_listed : (h : Head) → argument_of h [] ≡ None
none_listed (parameter i s) = refl
none_listed h = refl

mutual
  pub own : (f : ℕ → Term) (t : Term) → instance_of (terms_at f []) t ≡ t
  own f (apply h ts) = head_stays f [] h ts (none_listed h) ∙ ap (apply h) (own_all f ts)

  own_all : (f : ℕ → Term) (ts : Terms) → instances_of (terms_at f []) ts ≡ ts
  own_all f no_terms = refl
  own_all f (terms t ts) = ap (λ u. terms u (instances_of (terms_at f []) ts)) (own f t) ∙ ap (terms t) (own_all f ts)

-- ---- One after another

-- a number more has an instance
abbrev pub IsWritten : ℕ → ℕ → (ℕ → ℕ) → (ℕ → ℕ) → Type 0
IsWritten id new old written = (j : ℕ) → written j ≡ cond (id == j) new (old j)

-- so where it is put into the map
pub one_written : (id new : ℕ) (old next : ℕ → Option ℕ) → ((j : ℕ) → next j ≡ cond (id == j) (Some new) (old j)) → IsWritten id new (λ j. unwrap_or (old j) j) (λ j. unwrap_or (next j) j)
one_written id new old next put j = ap (λ o. unwrap_or o j) (put j) ∙ by (id == j)
  where
    by : (b : Bool) → unwrap_or (cond b (Some new) (old j)) j ≡ cond b new (unwrap_or (old j) j)
    by true = refl
    by false = refl

-- From the old table the first so many of these terms have their instances, in this list.
pub record AreOnWay (old now : List Node) (us order : List ℕ) (made : ℕ → ℕ) (count : ℕ) : Type 0 where
  pub grows : Grows old now
  pub done : All (λ i. IsInstance now us i (made i)) (take count order)

module _ (old : List Node) (us order : List ℕ) (arguments : All (λ u. u < length old) us) (listed : All (λ i. i < length old) order) where
  pub start : (made : ℕ → ℕ) → AreOnWay old old us order made 0
  start made = record { grows = grows_not old; done = λ k d below. absurd (omega arith) }

  -- what a term is made of is done where the terms before it are
  pub arguments_done : (now : List Node) (made : ℕ → ℕ) (count id : ℕ) → AreOnWay old now us order made count → ComeBehindArguments old order
      → slice_get order count ≡ Some id → id < length old → HasInstances now us made id
  arguments_done now made count id w behind at below n node k d inside =
      let before = behind count id n at (node_kept old now w.grows id n below node) in
      All-contains (λ i. IsInstance now us i (made i)) (take count order) (get_or n.kids k d) w.done (before k d inside)

  -- one more
  pub step : (now next : List Node) (made written : ℕ → ℕ) (count id new : ℕ) → IsWritten id new made written → AreOnWay old now us order made count → count < length order
      → slice_get order count ≡ Some id → id < length old → Grows now next → IsInstance next us id new → AreOnWay old next us order written (count + 1)
  step now next made written count id new write w inside at below g i =
      let there : slice_get order count ≡ Some (get_or order count id) = slice_get-get_or order count id inside in
      record {
        grows = grows_on old now next w.grows g;
        done = All-more (λ j. IsInstance next us j (written j)) order count id inside
            (λ k d short. earlier (get_or (take count order) k d) (All-take (λ j. j < length old) count order listed k d short) (w.done k d short))
            (subst (λ x. IsInstance next us x (written x)) (same_Some id (get_or order count id) (sym at ∙ there)) own);
      }
    where
      own : IsInstance next us id (written id)
      own = subst (IsInstance next us id) (sym (write id ∙ ap (λ b. cond b new (made id)) (eq-eqb id id refl))) i

      earlier : (j : ℕ) → j < length old → IsInstance now us j (made j) → IsInstance next us j (written j)
      earlier j small h =
          elim (eqb_tells id j) [
            | inl e ↦ subst (λ x. IsInstance next us x (written x)) e.1 own
            | inr e ↦ subst (IsInstance next us j) (sym (write j ∙ ap (λ b. cond b new (made j)) e.0))
                (let long = grows_longer old now w.grows in instance_kept now next g us (within_more old now w.grows us arguments) j (made j) (omega arith) h)
          ]

  -- at the end
  pub finish : (now : List Node) (made : ℕ → ℕ) (count body : ℕ) → AreOnWay old now us order made count → length order ≤ count → Contains order body → body < length old
      → (made body < length now) × (term_in now (made body) ≡ instance_of (terms_at (term_in old) us) (term_in old body))
  finish now made count body w all there below =
      let i = All-contains (λ i. IsInstance now us i (made i)) order body
      (subst (All (λ i. IsInstance now us i (made i))) (take_all count order all) w.done) there in (
        i.within,
        i.term ∙ ap (λ vs. instance_of vs (term_in now body)) (terms_kept old now w.grows us arguments)
            ∙ ap (instance_of (terms_at (term_in old) us)) (term_kept old now w.grows body below),
      )
