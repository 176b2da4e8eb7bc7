-- What is found of assumptions, one after another, and what becomes of a check under them.
use Rattle.std.proofs.Common.{◌≡◌, ◌||◌, ℕ, List, [], ◌∷◌, ◌++◌, length, take, Option, Some, None, Ok, Err, Bool, true, false, not, is_some, cond, if◌then◌else◌, refl, sym, ap, ◌∙◌, subst}
use Rattle.std.specs.Prelude.{option_and_then}
use Rattle.std.specs.List.{list_any}
use Rattle.std.proofs.lemmas.List.Folds.{list_any-append}
use Rattle.std.proofs.Math.Bool.{or-false}
use Rattle.nz_spec.specs.terms.Term.{bool_sort, Constant, constant, Term, apply, no_terms, holds_integer, are_same_sort}
use Rattle.nz_spec.specs.terms.Normal.{normal_of}
use Rattle.nz_spec.specs.clauses.Literal.{Literal, term_literal, is_at_most, is_below}
use Rattle.nz_spec.specs.terms.Table.{Node, TermStays}
use Rattle.nz_spec.specs.terms.Order.{HasCompanions}
use Rattle.nz_script.specs.commands.Request.{Assumption, checks_assuming}
use Rattle.nz_script.specs.commands.Parse.{cons_onto}
use Rattle.nz_spec.specs.terms.Operators.{has_sort, Operator, applied}
use Rattle.nz_script.specs.commands.Elaboration.{operator_named, constant_named, definition_named}
use Rattle.nz_spec.specs.terms.Definitions.{Definition, expansion}
use Rattle.nz_script.specs.live.Live.{State, items_of, items_hold_integers, constants_of, definitions_of}
use Rattle.nz_script.specs.commands.Command.{check_sat, accepted, refused, not_taken}
use Rattle.nz_spec.specs.outside.Error.{unknown_symbol, wrong_sort}
use Rattle.nz_script.specs.replies.Right.{effect}
use Rattle.nz_script.specs.commands.Script.{assumed_term, assumes_unknown, assumes_integer, assumed_literal, assumed_literals, check_under}
use Rattle.nz_term.specs.Constants.{sort_of}
use Rattle.nz_elaborate.specs.declared.typed.Typed.{Typed}
use Rattle.nz_elaborate.specs.Elaborate.{StandsAs}
use Rattle.nz_elaborate.specs.Typed.{Grows, StandsFor}
use Rattle.nz_term.specs.declared.term_lits.TermLit.{TermLit}
use Rattle.nz_sort.specs.declared.acts.Act.{Act}
use Rattle.nz_sort.specs.declared.assuming.FoundAssumption.{FoundAssumption}
use Rattle.nz_sort.specs.declared.assuming.FoundAssumptions.{FoundAssumptions}
use Rattle.nz_sort.specs.Assuming.{IsAssumed, AreAssumed}
use Rattle.nz_sort.specs.Acts.{asked}
use Rattle.nz_sort.specs.Changes.{Comes}
use Rattle.nz_sort.specs.Found.{IsFoundLiteral, IsFoundAs, AreFoundLiterals, HasFound, IsWithLiteral, IsWithOne}
use Rattle.nz_sort.specs.Live.{Standing, asserted_by, IsLive, Leaves, IfSkipped, Moves, check, unsupported}
use Rattle.nz_base.specs.declared.reply_errors.Error.TheVariants as errors
use Rattle.nz_sort.proofs.CommandRules.{comes_refused}
use Rattle.nz_sort.proofs.LiveStates.{kept_where_grown, kept_where_same, live_by_levels, live_grown, live_integers, stands_kept}

-- ---- One assumption

-- a literal of a term that was found, where it is of sort Bool
abbrev pub literal_by : Bool → Bool → Term → Option Literal
literal_by b sign t = cond b (Some (term_literal t sign)) None

abbrev assumed_by : Bool → Option Term → Option Literal
assumed_by sign o = option_and_then (λ t. if has_sort bool_sort t then Some (term_literal t sign) else None) o

none_assumed : (s : State) (x : Assumption) → assumed_term s x ≡ None → assumed_literal s x ≡ None
none_assumed s x e = ap (assumed_by x.is_true) e

none_holds : (s : State) (x : Assumption) → assumed_term s x ≡ None → assumes_integer s x ≡ false
none_holds s x e = ap (λ (o : Option Term). elim o [ Some t ↦ holds_integer (normal_of t) | None ↦ false ]) e

-- the term of a name that stands for these
abbrev term_by : Option Operator → Option Constant → Option Definition → Option Term
term_by o c d = elim o [ Some p ↦ applied p no_terms | None ↦ (elim c [ Some k ↦ Some (apply (constant k) no_terms) | None ↦ option_and_then (λ e. expansion e no_terms) d ]) ]

-- without an operator, a constant and a definition of a name it has no term
unknown_by : (o : Option Operator) (c : Option Constant) (d : Option Definition) → not (is_some o || is_some c || is_some d) ≡ true → term_by o c d ≡ None
unknown_by (Some o) c d e = cc
unknown_by None (Some c) d e = cc
unknown_by None None (Some d) e = cc
unknown_by None None None e = refl

-- an unknown name stands for no term
pub unknown_none : (s : State) (x : Assumption) → assumes_unknown s x ≡ true → assumed_term s x ≡ None
unknown_none s x e = unknown_by (operator_named x.name) (constant_named (constants_of s) x.name) (definition_named (definitions_of s) x.name) e

-- nothing is assumed by a name without a term
pub found_none : (s : State) (x : Assumption) (ns : List Node) (unknown : Bool) → assumes_unknown s x ≡ unknown → assumed_term s x ≡ None
    → IsFoundAs s x ns (record { literal = None; is_unknown = unknown; holds_integer = false })
found_none s x ns unknown u e =
    record { integer = sym (none_holds s x e); unknown = sym u; literal = subst (IsFoundLiteral ns None) (sym (none_assumed s x e)) tt }

literal_found : (ns : List Node) (b sign : Bool) (t : Term) (id : ℕ) → StandsFor ns id (normal_of t)
    → IsFoundLiteral ns (cond b (Some (record { term = id; sign = sign })) None) (literal_by b sign t)
literal_found ns true sign t id h = (h, refl)
literal_found ns false sign t id h = tt

pub found_term : (s : State) (x : Assumption) (ns : List Node) (made : Typed) (b holds : Bool) → assumes_unknown s x ≡ false → (h : StandsAs (assumed_term s x) ns made)
    → are_same_sort bool_sort (sort_of made.sort) ≡ b → holds ≡ holds_integer (normal_of h.term)
    → IsFoundAs s x ns (record { literal = cond b (Some (record { term = made.id; sign = x.is_true })) None; is_unknown = false; holds_integer = holds })
found_term s x ns made b holds u h e f =
    record {
      integer = f ∙ sym (ap (λ (o : Option Term). elim o [ Some t ↦ holds_integer (normal_of t) | None ↦ false ]) h.is);
      unknown = sym u;
      literal = subst (IsFoundLiteral ns (cond b (Some (record { term = made.id; sign = x.is_true })) None))
          (sym (ap (assumed_by x.is_true) h.is ∙ ap (λ c. literal_by c x.is_true h.term) (ap (are_same_sort bool_sort) (sym h.typed.sort) ∙ e)))
          (literal_found ns b x.is_true h.term made.id (record { within = h.typed.within; term = h.typed.normal }));
    }

-- ---- One assumption after another

assumed_longer : TermStays → (old new : List Node) → Grows old new → (x : TermLit) (l : Literal) → IsAssumed old x l → IsAssumed new x l
assumed_longer stays old new g x (term_literal t sign) h =
    let kept = stands_kept old new g x.term h.0.within in
    (record { within = kept.within; term = kept.term ∙ h.0.term }, h.1)
assumed_longer stays old new g x (is_at_most ps b) h = absurd h
assumed_longer stays old new g x (is_below ps b) h = absurd h

all_longer : TermStays → (old new : List Node) → Grows old new → (xs : List TermLit) (ls : List Literal) → AreAssumed old xs ls → AreAssumed new xs ls
all_longer stays old new g [] [] h = tt
all_longer stays old new g [] (l ∷ ls) h = absurd h
all_longer stays old new g (x ∷ xs) [] h = absurd h
all_longer stays old new g (x ∷ xs) (l ∷ ls) h = (assumed_longer stays old new g x l h.0, all_longer stays old new g xs ls h.1)

literals_longer : TermStays → (old new : List Node) → Grows old new → (missorted : Bool) (xs : List TermLit) (o : Option (List Literal)) → AreFoundLiterals old missorted xs o → AreFoundLiterals new missorted xs o
literals_longer stays old new g missorted xs (Some ls) h = (h.0, all_longer stays old new g xs ls h.1)
literals_longer stays old new g missorted xs None h = h

-- lists of literals with one at the end
abbrev last_onto : Option (List Literal) → Option Literal → Option (List Literal)
last_onto (Some ls) (Some l) = Some (ls ++ l ∷ [])
last_onto ls l = None

cons_last : (o : Option Literal) (r : Option (List Literal)) (m : Option Literal) → cons_onto o (last_onto r m) ≡ last_onto (cons_onto o r) m
cons_last (Some l) (Some ls) (Some k) = refl
cons_last (Some l) (Some ls) None = refl
cons_last (Some l) None m = refl
cons_last None (Some ls) (Some k) = refl
cons_last None (Some ls) None = refl
cons_last None None m = refl

one_onto : (o : Option Literal) → cons_onto o (Some []) ≡ last_onto (Some []) o
one_onto (Some l) = refl
one_onto None = refl

literals_last : (s : State) (xs : List Assumption) (x : Assumption) → assumed_literals s (xs ++ x ∷ []) ≡ last_onto (assumed_literals s xs) (assumed_literal s x)
literals_last s [] x = one_onto (assumed_literal s x)
literals_last s (y ∷ xs) x = ap (cons_onto (assumed_literal s y)) (literals_last s xs x) ∙ cons_last (assumed_literal s y) (assumed_literals s xs) (assumed_literal s x)

assumed_last : (ns : List Node) (xs : List TermLit) (ls : List Literal) (x : TermLit) (l : Literal) → AreAssumed ns xs ls → IsAssumed ns x l → AreAssumed ns (xs ++ x ∷ []) (ls ++ l ∷ [])
assumed_last ns [] [] x l h k = (k, tt)
assumed_last ns [] (m ∷ ls) x l h k = absurd h
assumed_last ns (y ∷ xs) [] x l h k = absurd h
assumed_last ns (y ∷ xs) (m ∷ ls) x l h k = (h.0, assumed_last ns xs ls x l h.1 k)

literals_with : (ns : List Node) (before after : FoundAssumptions) (one : Option TermLit) (o : Option (List Literal)) (m : Option Literal)
    → AreFoundLiterals ns before.is_missorted before.literals.items o → IsFoundLiteral ns one m → IsWithLiteral before one after
    → AreFoundLiterals ns after.is_missorted after.literals.items (last_onto o m)
literals_with ns before after (Some x) (Some ls) (Some l) h k w =
    (w.1 ∙ h.0, subst (λ xs. AreAssumed ns xs (ls ++ l ∷ [])) (sym w.0) (assumed_last ns before.literals.items ls x l h.1 k))
literals_with ns before after (Some x) None (Some l) h k w = w.1 ∙ h
literals_with ns before after (Some x) o None h k w = absurd k
literals_with ns before after None o (Some l) h k w = absurd k
literals_with ns before after None (Some ls) None h k w = w
literals_with ns before after None None None h k w = w

any_last : (p : Assumption → Bool) (xs : List Assumption) (x : Assumption) → list_any p (xs ++ x ∷ []) ≡ (list_any p xs || p x)
any_last p xs x = list_any-append p xs (x ∷ []) ∙ ap (λ b. list_any p xs || b) (or-false (p x))

pub found_with : TermStays → (s : State) (old new : List Node) (xs : List Assumption) (x : Assumption) (before after : FoundAssumptions) (one : FoundAssumption) → Grows old new
    → HasFound s xs old before → IsFoundAs s x new one → IsWithOne before one after → HasFound s (xs ++ x ∷ []) new after
found_with stays s old new xs x before after one g h k w =
    record {
      integers = w.integers ∙ ap (λ b. b || one.holds_integer) h.integers ∙ ap (λ b. list_any (assumes_integer s) xs || b) k.integer ∙ sym (any_last (assumes_integer s) xs x);
      unknown = w.unknown ∙ ap (λ b. b || one.is_unknown) h.unknown ∙ ap (λ b. list_any (assumes_unknown s) xs || b) k.unknown ∙ sym (any_last (assumes_unknown s) xs x);
      literals = subst (AreFoundLiterals new after.is_missorted after.literals.items) (sym (literals_last s xs x))
          (literals_with new before after one.literal (assumed_literals s xs) (assumed_literal s x)
          (literals_longer stays old new g before.is_missorted before.literals.items (assumed_literals s xs) h.literals) k.literal w.literals);
    }

-- ---- What becomes of the check

under_by : (s : State) (xs : List Assumption) (integers unknown : Bool) (o : Option (List Literal)) → (items_hold_integers (items_of s.levels) || list_any (assumes_integer s) xs) ≡ integers
    → list_any (assumes_unknown s) xs ≡ unknown → assumed_literals s xs ≡ o
    → check_under s xs ≡ cond integers not_taken (cond unknown (refused unknown_symbol) (elim o [ Some ls ↦ accepted (check_sat ls) | None ↦ refused wrong_sort ]))
under_by s xs integers unknown o e f g = rw (e, f, g) refl

module _ (old : List Node) (standing : Standing) (s : State) (xs : List Assumption) (ns : List Node) (f : FoundAssumptions) (live : IsLive old standing s) (h : HasFound s xs ns f) where
  integers_told : (b : Bool) → (standing.top.holds_integers || f.holds_integer) ≡ b → (items_hold_integers (items_of s.levels) || list_any (assumes_integer s) xs) ≡ b
  integers_told b e = ap (λ c. c || list_any (assumes_integer s) xs) (live_integers old standing s live) ∙ ap (λ c. standing.top.holds_integers || c) (sym h.integers) ∙ e

  pub under_integers : (standing.top.holds_integers || f.holds_integer) ≡ true → check_under s xs ≡ not_taken
  under_integers e = under_by s xs true (list_any (assumes_unknown s) xs) (assumed_literals s xs) (integers_told true e) refl refl

  pub under_unknown : (standing.top.holds_integers || f.holds_integer) ≡ false → f.is_unknown ≡ true → check_under s xs ≡ refused unknown_symbol
  under_unknown e u = under_by s xs false true (assumed_literals s xs) (integers_told false e) (sym h.unknown ∙ u) refl

  missorted_none : (o : Option (List Literal)) → AreFoundLiterals ns f.is_missorted f.literals.items o → f.is_missorted ≡ true → o ≡ None
  missorted_none (Some ls) k m = let no : true ≡ false = sym m ∙ k.0 in cc
  missorted_none None k m = refl

  pub under_missorted : (standing.top.holds_integers || f.holds_integer) ≡ false → f.is_unknown ≡ false → f.is_missorted ≡ true → check_under s xs ≡ refused wrong_sort
  under_missorted e u m = under_by s xs false false None (integers_told false e) (sym h.unknown ∙ u) (missorted_none (assumed_literals s xs) h.literals m)

  some_literals : (o : Option (List Literal)) → AreFoundLiterals ns f.is_missorted f.literals.items o → f.is_missorted ≡ false → (ls : List Literal) × (o ≡ Some ls) × AreAssumed ns f.literals.items ls
  some_literals (Some ls) k m = (ls, refl, k.1)
  some_literals None k m = let no : true ≡ false = sym k ∙ m in cc

  pub under_literals : (standing.top.holds_integers || f.holds_integer) ≡ false → f.is_unknown ≡ false → f.is_missorted ≡ false
      → (ls : List Literal) × (check_under s xs ≡ accepted (check_sat ls)) × AreAssumed ns f.literals.items ls
  under_literals e u m =
      let found = some_literals (assumed_literals s xs) h.literals m in
      (found.0, under_by s xs false false (Some found.0) (integers_told false e) (sym h.unknown ∙ u) found.1, found.2)

  either_left : (a b : Bool) → (a || b) ≡ false → a ≡ false
  either_left true b e = cc
  either_left false b e = refl

  pub holds_none : (standing.top.holds_integers || f.holds_integer) ≡ false → items_hold_integers (items_of s.levels) ≡ false
  holds_none e = live_integers old standing s live ∙ either_left standing.top.holds_integers f.holds_integer e

pub comes_under : TermStays → (old mid new : List Node) (standing : Standing) (xs : List Assumption) (f : FoundAssumptions) (act : Act) → asked act ≡ check f.literals.items → Grows old mid → Grows mid new → Grows old new
    → HasCompanions new → ((s : State) → IsLive old standing s → HasFound s xs mid f) → (standing.top.holds_integers || f.holds_integer) ≡ false → f.is_unknown ≡ false → f.is_missorted ≡ false
    → Comes old new standing standing (checks_assuming xs) (λ s. check_under s xs) (Ok act)
comes_under stays old mid new standing xs f act a first then_more whole companions found e u m =
    record {
      accepted = λ s live.
          let h = under_literals old standing s xs mid f live (found s live) e u m in
          subst (λ ask. Leaves s (checks_assuming xs) (check_under s xs) ask new standing) (sym a)
          ((
            record {
              command = check_sat h.0;
              is = h.1;
              asks = record { literals = h.0; assumes = all_longer stays mid new then_more f.literals.items h.0 h.2; is = refl };
              live = λ reply. live_by_levels new standing s (effect s (check_sat h.0) reply) refl refl (live_grown stays old new standing s whole companions live);
            },
            holds_none old standing s xs mid f live (found s live) e,
          ));
      refused = tt;
      kept = kept_where_grown old new whole;
      unchanged = tt;
      skipped_terms = subst (λ ask. IfSkipped ask (new ≡ old)) (sym a) tt;
      skipped = subst (λ ask. IfSkipped ask (standing ≡ standing)) (sym a) tt;
      moves = subst (λ ask. Moves ask (asserted_by standing) (asserted_by standing)) (sym a) refl;
    }

pub comes_of_integers : (old new : List Node) (standing : Standing) (xs : List Assumption) (mid : List Node) (f : FoundAssumptions) (act : Act) → asked act ≡ unsupported → new ≡ old
    → ((s : State) → IsLive old standing s → HasFound s xs mid f) → (standing.top.holds_integers || f.holds_integer) ≡ true
    → Comes old new standing standing (checks_assuming xs) (λ s. check_under s xs) (Ok act)
comes_of_integers old new standing xs mid f act a same found e =
    record {
      accepted = λ s live.
          subst (λ ask. Leaves s (checks_assuming xs) (check_under s xs) ask new standing) (sym a)
          (record { is = under_integers old standing s xs mid f live (found s live) e; live = subst (λ ns. IsLive ns standing s) (sym same) live });
      refused = tt;
      kept = ap (take (length old)) same ∙ kept_where_same old;
      unchanged = tt;
      skipped_terms = subst (λ ask. IfSkipped ask (new ≡ old)) (sym a) same;
      skipped = subst (λ ask. IfSkipped ask (standing ≡ standing)) (sym a) refl;
      moves = subst (λ ask. Moves ask (asserted_by standing) (asserted_by standing)) (sym a) refl;
    }

-- a rule that the check breaks
pub comes_of_unknown : (old new : List Node) (standing : Standing) (xs : List Assumption) (f : FoundAssumptions) → Grows old new → ((s : State) → IsLive old standing s → HasFound s xs new f)
    → (standing.top.holds_integers || f.holds_integer) ≡ false → f.is_unknown ≡ true → Comes old new standing standing (checks_assuming xs) (λ s. check_under s xs) (Err errors.UnknownSymbol)
comes_of_unknown old new standing xs f g found e u =
    comes_refused old new standing standing (checks_assuming xs) (λ s. check_under s xs) errors.UnknownSymbol (λ s live. under_unknown old standing s xs new f live (found s live) e u) (kept_where_grown old new g) refl

pub comes_of_sort : (old new : List Node) (standing : Standing) (xs : List Assumption) (f : FoundAssumptions) → Grows old new → ((s : State) → IsLive old standing s → HasFound s xs new f)
    → (standing.top.holds_integers || f.holds_integer) ≡ false → f.is_unknown ≡ false → f.is_missorted ≡ true → Comes old new standing standing (checks_assuming xs) (λ s. check_under s xs) (Err errors.Sort)
comes_of_sort old new standing xs f g found e u m =
    comes_refused old new standing standing (checks_assuming xs) (λ s. check_under s xs) errors.Sort (λ s live. under_missorted old standing s xs new f live (found s live) e u m) (kept_where_grown old new g) refl
