-- A theory with its log, as the log grows, as literals are told and taken back, and as it learns of an atom.
use Rattle.std.proofs.Common.{◌≡◌, ◌≢◌, true, false, ℕ, suc, ◌<◌, ◌+◌, inl, inr, List, [], ◌∷◌, ◌++◌, length, map, take, Option, Some, None, IfSome, refl, sym, subst, ◌∙◌, arith}
use Rattle.std.specs.Prelude.{All, Contains, IsSome, slice_get, slice_index_or, ⊤}
use Rattle.std.proofs.lemmas.Option.{same_Some}
use Rattle.std.proofs.lemmas.List.{map_push}
use Rattle.std.proofs.lemmas.List.Elements.{All-contains, All-from_recursion, All-map, All-push, All-take, All-weaker, recursion_from_All}
use Rattle.nz_lists.proofs.Members.{map_has}
use Rattle.nz_lists.proofs.Numbers.{same_or_below}
use Rattle.nz_spec.specs.terms.Table.{IsTable, Node}
use Rattle.nz_spec.specs.terms.Term.{is_zero}
use Rattle.nz_lin.specs.declared.bound.Bound.{Bound}
use Rattle.nz_lin.specs.declared.form.Part.{Part}
use Rattle.nz_lin.specs.Bounds.{HasUnits}
use Rattle.nz_lin.specs.Forms.{NamesUnit}
use Rattle.nz_log.specs.declared.atoms.Atom.{Atom}
use Rattle.nz_log.specs.declared.atoms.Atom.TheVariants.{Term, AtMost}
use Rattle.nz_log.specs.declared.lits.Lit.{Lit}
use Rattle.nz_log.specs.Atoms.{IsAtomIn, IsLitIn, Stay, terms_of, unit_numbers}
use Rattle.nz_log.specs.Leveled.{AreTold, AreToldAtoms, Names}
use Rattle.nz_log.specs.Logs.{IsLive, LogState, JoinsAtoms, told_of}
use Rattle.nz_search.specs.Theories.{IsClash, told_after}
use Rattle.nz_log.specs.Growth.{Grows}
use Rattle.nz_reals.specs.Arranging.{AreAtomsIn, MayArrange}
use Rattle.nz_reals.specs.Joins.{IsAtomFor}
use Rattle.nz_reals.specs.Knowing.{of_stays}
use Rattle.nz_reals.specs.Stands.{HasTold, IsOf, IsOver}
use Rattle.nz_reals.specs.State.{Theory, empty_theory, told_lits}
use Rattle.nz_reals.specs.Sums.{AreNonzero}
use Rattle.nz_reals_tests.specs.Systems.{AreAllPlaced, IsInOrder, IsSum}

-- ---- The log

-- a level was told of a term
abbrev HasToldLevel : LogState → ℕ → Type 0
HasToldLevel log t = IsSome (told_of log t)

-- the positive literal on an atom
abbrev on : ℕ → Lit
on i = record { atom = i; sign = true }

-- a level was told of each term before this one, and then of this one
pub placed_more : (old new : LogState) (n level : ℕ) → ((t : ℕ) → t < n → HasToldLevel old t) → told_of new n ≡ Some level → ((t : ℕ) → t ≢ n → told_of new t ≡ told_of old t) → (t : ℕ) → t < n + 1 → HasToldLevel new t
placed_more old new n level before here others t less =
    let least : t < suc n = omega (arith, less) in
    elim (same_or_below t n least) [
      | inl same ↦ subst (HasToldLevel new) (sym same) (subst (λ (o : Option ℕ). IsSome o) (sym here) refl)
      | inr below ↦ subst (λ (o : Option ℕ). IsSome o) (sym (others t (λ same. omega (arith, below, same)))) (before t below)
    ]

-- atoms join, and what was told stays
module _ (old new : LogState) (same : new.told ≡ old.told) (stay : Stay old.atoms new.atoms) where
  told_alike : (t : ℕ) → HasToldLevel old t → HasToldLevel new t
  told_alike t h = subst (λ ts. IsSome (slice_index_or ts t None)) (sym same) h

  still_named : (l : Lit) → Names (HasToldLevel old) old.atoms l → Names (HasToldLevel new) new.atoms l
  still_named l n =
      let ts : List ℕ = terms_of n.atom in
      record {
        atom = n.atom;
        at = stay l.atom n.atom n.at;
        terms = recursion_from_All (HasToldLevel new) ts (All-weaker (HasToldLevel old) (HasToldLevel new) told_alike ts (All-from_recursion (HasToldLevel old) ts n.terms));
      }

  still_levels : (ids : List ℕ) → AreToldAtoms old ids → AreToldAtoms new ids
  still_levels ids there = All-weaker (Names (HasToldLevel old) old.atoms) (Names (HasToldLevel new) new.atoms) still_named (map on ids) there

  still_within : (ns : List Node) (ids : List ℕ) → AreAtomsIn ns old.atoms ids → AreAtomsIn ns new.atoms ids
  still_within ns ids there = All-weaker (λ (i : ℕ). IsLitIn ns old.atoms (on i)) (λ (i : ℕ). IsLitIn ns new.atoms (on i)) (λ i l. record { atom = l.atom; at = stay i l.atom l.at; within = l.within }) ids there

  still_sums : (ids : List ℕ) → All (IsSum old) ids → All (IsSum new) ids
  still_sums ids there = All-weaker (IsSum old) (IsSum new) (λ i s. record { bound = s.bound; at = stay i (AtMost s.bound) s.at; nonzero = s.nonzero }) ids there

  order_stays : (ns : List Node) (t : Theory) (ids : List ℕ) → IsInOrder ns old t ids → IsInOrder ns new t ids
  order_stays ns t ids h = record {
    over = h.over;
    of = of_stays t old.atoms new.atoms ids h.of stay;
    within = still_within ns ids h.within;
    sums = still_sums ids h.sums;
    placed = λ u inside. told_alike u (h.placed u inside);
    levels = still_levels ids h.levels;
    told = h.told;
  }

-- ---- What was told

abbrev AreOn : List ℕ → List Lit → Type 0
AreOn ids ls = All (λ (l : Lit). Contains ids l.atom) ls

-- a literal on an atom is named where the atom is
named_on : (log : LogState) (ids : List ℕ) → AreToldAtoms log ids → (l : Lit) → Contains ids l.atom → Names (HasToldLevel log) log.atoms l
named_on log ids levels l has =
    let n = All-contains (Names (HasToldLevel log) log.atoms) (map on ids) (on l.atom) levels (map_has on ids l.atom has) in
    record { atom = n.atom; at = n.at; terms = n.terms }

module _ (ns : List Node) (log : LogState) (t : Theory) (ids : List ℕ) (h : IsInOrder ns log t ids) where
  pub are_told : AreTold log (told_lits t)
  are_told = All-weaker (λ (l : Lit). Contains ids l.atom) (Names (HasToldLevel log) log.atoms) (named_on log ids h.levels) (told_lits t) h.told

  pub are_told_with : (l : Lit) → Contains ids l.atom → AreTold log (told_lits t ++ l ∷ [])
  are_told_with l has = All-push (Names (HasToldLevel log) log.atoms) (told_lits t) l are_told (named_on log ids h.levels l has)

-- the theory was told others of the literals, and the log grew
pub order_told : (ns : List Node) (old new : LogState) (t u : Theory) (ids : List ℕ) (ls : List Lit) → IsInOrder ns old t ids → Grows old new → IsOver u ns → IsOf u old.atoms ids → HasTold u ls
    → AreOn ids ls → IsInOrder ns new u ids
order_told ns old new t u ids ls h grows over of told among =
    let before : IsInOrder ns old u ids = record {
      over = over;
      of = of;
      within = h.within;
      sums = h.sums;
      placed = h.placed;
      levels = h.levels;
      told = subst (AreOn ids) (sym told) among;
    } in
    order_stays old new grows.told grows.atoms ns u ids before

-- a literal more, where it wasn't refuted
pub told_among : (ids : List ℕ) (ls : List Lit) (l : Lit) (r : Option ℕ) → AreOn ids ls → Contains ids l.atom → AreOn ids (told_after ls l r)
told_among ids ls l None among has = All-push (λ (l : Lit). Contains ids l.atom) ls l among has
told_among ids ls l (Some id) among has = among

-- the last literals are taken back
pub order_undone : (ns : List Node) (log : LogState) (t u : Theory) (ids : List ℕ) (mark : ℕ) → IsInOrder ns log t ids → IsOver u ns → IsOf u log.atoms ids → HasTold u (take mark (told_lits t))
    → IsInOrder ns log u ids
order_undone ns log t u ids mark h over of told = record {
  over = over;
  of = of;
  within = h.within;
  sums = h.sums;
  placed = h.placed;
  levels = h.levels;
  told = subst (AreOn ids) (sym told) (All-take (λ (l : Lit). Contains ids l.atom) mark (told_lits t) h.told);
}

-- a clause that is a clash is there
pub clash_live : (log : LogState) (ls : List Lit) (r : Option ℕ) → IfSome r (IsClash log ls) → IfSome r (IsLive log)
clash_live log ls None h = tt
clash_live log ls (Some id) h = h.live

-- ---- Atoms

-- no atom, so each is as is wanted
none_so : (P : ℕ → Type 0) → All P []
none_so P = All-from_recursion P [] tt

none_told : (ids : List ℕ) → AreOn ids []
none_told ids = All-from_recursion (λ (l : Lit). Contains ids l.atom) [] tt

-- a theory over no sum is over each table
pub over_empty : (ns : List Node) (t : Theory) → t ≡ empty_theory → IsTable ns → IsOver t ns
over_empty ns t empty table =
    let start : IsOver empty_theory ns = record { table = table; units = tt } in
    subst (λ (s : Theory). IsOver s ns) (sym empty) start

-- the theory knows of no atom
pub order_empty : (ns : List Node) (log : LogState) (t : Theory) (ids : List ℕ) → t ≡ empty_theory → ids ≡ [] → IsTable ns → AreAllPlaced ns log → IsOf t log.atoms [] → IsInOrder ns log t ids
order_empty ns log t ids empty none table placed of =
    let start : IsInOrder ns log empty_theory [] = record {
      over = over_empty ns empty_theory refl table;
      of = subst (λ (s : Theory). IsOf s log.atoms []) empty of;
      within = none_so (λ (i : ℕ). IsLitIn ns log.atoms (on i));
      sums = none_so (IsSum log);
      placed = placed;
      levels = All-from_recursion (Names (HasToldLevel log) log.atoms) [] tt;
      told = none_told [];
    } in
    subst (λ (s : Theory). IsInOrder ns log s ids) (sym empty) (subst (IsInOrder ns log empty_theory) (sym none) start)

-- it was told nothing, and knows of no atom, and its forms are as they were
pub order_restarted : (ns : List Node) (log : LogState) (t u : Theory) (ids none : List ℕ) → IsInOrder ns log t ids → none ≡ [] → IsOver u ns → IsOf u log.atoms [] → HasTold u [] → IsInOrder ns log u none
order_restarted ns log t u ids none h empty over of told =
    subst (IsInOrder ns log u) (sym empty)
    (record {
      over = over;
      of = of;
      within = none_so (λ (i : ℕ). IsLitIn ns log.atoms (on i));
      sums = none_so (IsSum log);
      placed = h.placed;
      levels = All-from_recursion (Names (HasToldLevel log) log.atoms) [] tt;
      told = subst (All (λ (l : Lit). Contains [] l.atom)) (sym told) (none_told []);
    })

-- no literal was told where so many were
pub untold : (t : Theory) → length (told_lits t) ≡ 0 → HasTold t []
untold t none = empty_list (told_lits t) none
  where
    empty_list : (ls : List Lit) → length ls ≡ 0 → ls ≡ []
    empty_list [] e = refl
    empty_list (l ∷ ls) e = absurd (omega (arith, e))

-- no coefficient of the bound that an atom is is 0
abbrev IsNonzero : Atom → Type 0
IsNonzero (Term t) = ⊤
IsNonzero (AtMost b) = AreNonzero b.sides.parts

bound_nonzero : (log : LogState) (i : ℕ) → IsSum log i → (b : Bound) → slice_get log.atoms i ≡ Some (AtMost b) → AreNonzero b.sides.parts
bound_nonzero log i s b at = subst IsNonzero (same_Some (AtMost s.bound) (AtMost b) (sym s.at ∙ at)) (recursion_from_All (λ (p : Part). is_zero p.coefficient ≡ false) s.bound.sides.parts s.nonzero)

-- Over the atoms of a system another theory may be arranged.
pub may_arrange : (ns : List Node) (log : LogState) (t : Theory) (ids : List ℕ) → IsInOrder ns log t ids → MayArrange log.atoms ids
may_arrange ns log t ids h =
    record {
      table = ns;
      is_table = h.over.table;
      within = h.within;
      nonzero = All-weaker (IsSum log) (λ (i : ℕ). (b : Bound) → slice_get log.atoms i ≡ Some (AtMost b) → AreNonzero b.sides.parts) (bound_nonzero log) ids h.sums;
    }

-- Of a bound over the table the theory may learn.
module _ (ns : List Node) (log : LogState) (l : Lit) (within : IsLitIn ns log.atoms l) (sum : IsSum log l.atom) where
  sum_units : HasUnits ns sum.bound
  sum_units = subst (IsAtomIn ns) (same_Some within.atom (AtMost sum.bound) (sym within.at ∙ sum.at)) within.within

  pub sum_within : IsLitIn ns log.atoms (on l.atom)
  sum_within = record { atom = AtMost sum.bound; at = sum.at; within = sum_units }

  pub learnable : (t : Theory) → IsOver t ns → IsAtomFor t log.atoms l.atom
  learnable t over = record {
    atom = AtMost sum.bound;
    at = sum.at;
    may = record {
      table = ns;
      over = over;
      units = sum_units;
      nonzero = recursion_from_All (λ (p : Part). is_zero p.coefficient ≡ false) sum.bound.sides.parts sum.nonzero;
    };
  }

  -- what the atom names has levels
  named : AreAllPlaced ns log → Names (HasToldLevel log) log.atoms (on l.atom)
  named placed =
      let ps : List Part = sum.bound.sides.parts in
      record {
        atom = AtMost sum.bound;
        at = sum.at;
        terms =
            recursion_from_All (HasToldLevel log) (unit_numbers ps)
            (All-map (HasToldLevel log) (λ (p : Part). p.unit) ps
            (All-weaker (NamesUnit ns) (λ (p : Part). HasToldLevel log p.unit) (λ p n. placed p.unit n.0) ps (All-from_recursion (NamesUnit ns) ps sum_units.names)));
      }

  -- the theory, which was told nothing, learned of it
  order_learned : (t u : Theory) (ids more : List ℕ) → more ≡ ids ++ l.atom ∷ [] → IsInOrder ns log t ids → IsOver u ns → IsOf u log.atoms (ids ++ l.atom ∷ []) → HasTold u [] → IsInOrder ns log u more
  order_learned t u ids more is h over of told =
      let ids' = ids ++ l.atom ∷ [] in
      let all : IsInOrder ns log u ids' = record {
        over = over;
        of = of;
        within = All-push (λ (i : ℕ). IsLitIn ns log.atoms (on i)) ids l.atom h.within sum_within;
        sums = All-push (IsSum log) ids l.atom h.sums sum;
        placed = h.placed;
        levels = subst (All (Names (HasToldLevel log) log.atoms)) (sym (map_push on ids l.atom)) (All-push (Names (HasToldLevel log) log.atoms) (map on ids) (on l.atom) h.levels (named h.placed));
        told = subst (AreOn ids') (sym told) (none_told ids');
      } in
      subst (IsInOrder ns log u) (sym is) all

-- a literal joined the log, and the theory learned of its atom
pub order_joined : (ns : List Node) (old new : LogState) (t u : Theory) (ids more : List ℕ) (l : Lit) → more ≡ ids ++ l.atom ∷ [] → IsInOrder ns old t ids → JoinsAtoms old new → IsLitIn ns new.atoms l → IsSum new l.atom
    → ((ids : List ℕ) → IsOf t new.atoms ids → IsOf u new.atoms (ids ++ l.atom ∷ [])) → ((ns : List Node) → IsLitIn ns new.atoms (on l.atom) → IsOver t ns → IsOver u ns) → HasTold u [] → IsInOrder ns new u more
order_joined ns old new t u ids more l is h joins within sum of over told =
    let now = order_stays old new joins.told joins.atoms ns t ids h in
    order_learned ns new l within sum t u ids more is now (over ns (sum_within ns new l within sum) now.over) (of ids now.of) told
