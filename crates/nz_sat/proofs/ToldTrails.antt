-- What a theory is told of a trail, and its answers there.
use Rattle.std.proofs.Common.{◌≡◌, ℕ, ◌+◌, ◌<◌, Bool, true, false, not, if◌then◌else◌, List, [], ◌∷◌, ◌++◌, length, take, drop, map, suc, inl, inr, Option, None, Some, refl, sym, ap, subst, ◌∙◌, arith, true≢false}
use Rattle.std.specs.Prelude.{All, Contains, IfOk, IfSome, IsSome, IsTrue, OnOk, filter, is_some, option_map, slice_get, unwrap_or}
use Rattle.std.specs.declared.result.Result.{Result}
use Rattle.std.specs.declared.result.Result.TheVariants.{Ok, Err}
use Rattle.std.proofs.lemmas.Bool.Decides.{eqb_tells}
use Rattle.std.proofs.lemmas.List.{append-nil, length-map, map_push, take-append-drop, take_more}
use Rattle.std.proofs.lemmas.List.Elements.{All-contains, All-head, All-tail, All-weaker, Contains-append_left, Contains-push_cases, filter-append, recursion_from_All}
use Rattle.std.proofs.lemmas.List.Sums.{length-filter}
use Rattle.std.proofs.lemmas.Result.{IfOk-weaker}
use Rattle.std.proofs.lemmas.Option.{IfSome_then, get_or_from_slice_get, slice_get-get_or, slice_get-map, slice_get_within}
use Rattle.nz_lists.proofs.Places.{drop_found}
use Rattle.nz_lists.proofs.Members.{has_cases, has_found, map_has}
use Rattle.nz_spec.specs.simplex.Bland.{Point}
use Rattle.nz_spec.specs.terms.Form.{Part, as_written}
use Rattle.nz_spec.specs.laws.LegalWork.{LegalWorkDoesNotRepeat, LegalWorkGoesOn, PivotsAreLegal}
use Rattle.nz_spec.specs.search.Legal.{Lead, MayTell}
use Rattle.nz_spec.specs.search.Notes.{told_atom}
use Rattle.nz_spec.specs.search.Search as legal
use Rattle.nz_spec.specs.search.Search.{MayBe, Task, ToldLiteral, at_first, literal_by, literals_by, no_point, told_literals}
use Rattle.nz_spec.specs.clauses.Literal as spec
use Rattle.nz_spec.specs.clauses.Literal.{AreTrueLiterals, NegationIsOther, is_literal_true}
use Rattle.nz_spec.specs.terms.Table.{Node}
use Rattle.nz_spec.specs.terms.Term.{Assignment}
use Rattle.nz_spec.specs.search.Work.{WorkList, with_line}
use Rattle.nz_log.specs.declared.lits.Lit.{Lit}
use Rattle.nz_search.specs.declared.note.Note.{Note}
use Rattle.nz_search.specs.declared.stop.Stop.{Stop}
use Rattle.nz_log.specs.declared.atoms.Atom.{Atom}
use Rattle.nz_log.specs.Atoms.{AreWithin, IsLitIn, Stay, TellsLits, clause_in, literal_in}
use Rattle.nz_log.specs.Leveled.{AreTold, AreToldAtoms}
use Rattle.nz_log.specs.Lits.{negated_lit}
use Rattle.nz_log.specs.Logs.{LogState, literals_at}
use Rattle.nz_log.specs.Sound.{ClausesAreTrue, IsLog}
use Rattle.nz_search.specs.Notes.{noted_list}
use Rattle.nz_search.specs.Standing.{Standing, Stands, search_after}
use Rattle.nz_search.specs.Theories.{AddsPivots, IsClash, Leads}
use Rattle.nz_log.specs.Growth.{Grows}
use Rattle.nz_sat.specs.declared.clauses.Held.{Held}
use Rattle.nz_sat.specs.declared.consult.Bounds.{Bounds}
use Rattle.nz_sat.specs.declared.trail.Assigned.{Assigned}
use Rattle.nz_sat.specs.Clauses.{IsAssumed, IsFalsified}
use Rattle.nz_sat.specs.Conflicts.{is_marked}
use Rattle.nz_sat.specs.Numbers.{atom_literal, number_of, numbered}
use Rattle.nz_sat.specs.Sats.{IsAsked}
use Rattle.nz_sat.specs.Theories.{Consults, EndsLegally, IsTrailOn, Keeps, StandsAt, StaysSoundOver, TellsOne, TellsTrail, TheoryState, bounds_on, told_line, told_literal, told_lits, told_on}
use Rattle.nz_sat.specs.Trails.{EachBehind, IsNext, TrailState, assigned, depth, is_decision, literals_on}
use Rattle.nz_sat.proofs.LogGrowth.{asked_on, grows_far, grows_none, lit_stays, names_stay, order_over, said, same_at}
use Rattle.nz_sat.proofs.Chains.{filter_from}
use Rattle.nz_sat.proofs.DeadEnds.{literal_numbered, map_from, number_at, same_atom, task_entry}
use Rattle.nz_sat.proofs.LearnedClauses.{all_from}
use Rattle.nz_sat.proofs.SearchLines.{adds_far, adds_none, adds_pivots, adds_same, adds_wider, check_ends, pivots_stay, search_more}
use Rattle.nz_sat.proofs.AtomTrails.{names_some, names_told, trail_grown}
use Rattle.nz_sat.proofs.TrailEntries.{assigned_at}

-- a literal says what it says
pub says_itself : (l : spec.Literal) → spec.SayTheSame l l
says_itself (spec.term_literal t sign) = (refl, refl)
says_itself (spec.is_at_most ps b) = (as_written refl, refl)
says_itself (spec.is_below ps b) = (as_written refl, refl)

-- ---- Literals of a trail

abbrev literal_of : Assigned → Lit
literal_of e = e.literal

-- a literal of the trail is that of an entry
pub entry_from : (es : List Assigned) (l : Lit) → Contains (literals_on es) l → (i : ℕ) × (e : Assigned) × (slice_get es i ≡ Some e) × (e.literal ≡ l)
entry_from es l has =
    let d : Assigned = record { literal = l; level = 0; reason = None } in
    let w = map_from literal_of es l has in
    let at : slice_get es w.1.0 ≡ Some w.0 = slice_get-get_or es w.1.0 w.0 w.1.1 ∙ ap Some w.1.2 in
    (w.1.0, w.0, at, w.2)

-- what stands in a front stands in the whole
pub front_has : (n : ℕ) (es : List Assigned) (e : Assigned) → Contains (take n es) e → Contains es e
front_has n es e has = subst (λ (xs : List Assigned). Contains xs e) (take-append-drop n es) (Contains-append_left (take n es) (drop n es) e has)

-- what was told is on a bound of the trail
pub told_entry : (b : Bounds) (es : List Assigned) (l : Lit) → Contains (told_lits b es) l
    → (e : Assigned) × Contains (take b.told es) e × (is_marked b.marks.items e.literal.atom ≡ true) × (e.literal ≡ l)
told_entry b es l has =
    let w = map_from literal_of (told_on b es) l has in
    let f = filter_from (λ (e : Assigned). is_marked b.marks.items e.literal.atom) (take b.told es) w.0 w.1 in
    (w.0, f.0, f.1, w.2)

pub told_among : (b : Bounds) (es : List Assigned) (l : Lit) → Contains (told_lits b es) l → Contains (literals_on es) l
told_among b es l has =
    let e = told_entry b es l has in
    subst (Contains (literals_on es)) e.3 (map_has literal_of es e.0 (front_has b.told es e.0 e.1))

-- ---- One entry more

module _ (b : Bounds) (es : List Assigned) (e : Assigned) (at : slice_get es b.told ≡ Some e) where
  front_more : take (b.told + 1) es ≡ take b.told es ++ e ∷ []
  front_more =
      take_more es b.told e (slice_get_within es b.told e at) ∙ ap (λ (x : Assigned). take b.told es ++ x ∷ []) (get_or_from_slice_get es b.told e e at)

  parts : told_on (record b { told = b.told + 1 }) es ≡ told_on b es ++ (if is_marked b.marks.items e.literal.atom then e ∷ [] else [])
  parts = ap (bounds_on b.marks.items) front_more ∙ filter-append (λ (x : Assigned). is_marked b.marks.items x.literal.atom) (take b.told es) (e ∷ [])

  pub told_more : is_marked b.marks.items e.literal.atom ≡ true → told_on (record b { told = b.told + 1 }) es ≡ told_on b es ++ e ∷ []
  told_more marked = parts ∙ ap (λ (c : Bool). told_on b es ++ (if c then e ∷ [] else [])) marked

  pub told_same : is_marked b.marks.items e.literal.atom ≡ false → told_on (record b { told = b.told + 1 }) es ≡ told_on b es
  told_same unmarked = parts ∙ ap (λ (c : Bool). told_on b es ++ (if c then e ∷ [] else [])) unmarked ∙ append-nil (told_on b es)

-- ---- What a list tells of what was told

-- what a list tells of entries says their literals
told_each : (ns : List Node) (all : List Atom) (es : List Assigned) → map (λ (t : ToldLiteral). t.literal) (map (told_literal ns all) es) ≡ clause_in ns all (literals_on es)
told_each ns all [] = refl
told_each ns all (e ∷ es) = let rest = told_each ns all es in λ i. literal_in ns all e.literal ∷ rest i

module _ (ns : List Node) (log : LogState) (atoms : List ℕ) (b : Bounds) (es : List Assigned) (work : WorkList Note) (tells : TellsTrail log atoms b es work) where
  -- what the list says by the number of an atom
  pub says_numbered : (l : Lit) → Contains atoms l.atom → literal_by (search_after ns work).atoms (numbered atoms l) ≡ literal_in ns log.atoms l
  says_numbered l has = ap (λ (xs : List spec.Literal). literal_by xs (numbered atoms l)) (tells.named ns) ∙ literal_numbered ns log.atoms atoms l has

  pub told_said : told_literals (search_after ns work) ≡ clause_in ns log.atoms (told_lits b es)
  told_said = ap (map (λ (t : ToldLiteral). t.literal)) (tells.told ns) ∙ told_each ns log.atoms (told_on b es)

  -- where a theory stands that was told what the list tells, by the literals that it was told
  module _ (IsAt : Standing) (q : Task) where
    pub stands_by : Stands IsAt ns q work → StandsAt IsAt ns q work (clause_in ns log.atoms (told_lits b es))
    stands_by s = record { point = s.point; legal = s.legal; at = subst (λ (ls : List spec.Literal). IsAt (search_after ns work).forms ls s.point) told_said s.at }

    pub stands_so : StandsAt IsAt ns q work (clause_in ns log.atoms (told_lits b es)) → Stands IsAt ns q work
    stands_so s = record { point = s.point; legal = s.legal; at = subst (λ (ls : List spec.Literal). IsAt (search_after ns work).forms ls s.point) (sym told_said) s.at }

-- the log grows
pub told_stay : (old new : List Atom) → Stay old new → (ns : List Node) (es : List Assigned) → All (λ (e : Assigned). IsSome (slice_get old e.literal.atom)) es
    → map (told_literal ns new) es ≡ map (told_literal ns old) es
told_stay old new stay ns [] there = refl
told_stay old new stay ns (e ∷ es) there =
    let P : Assigned → Type 0 = λ x. IsSome (slice_get old x.literal.atom) in
    let first = ap (said ns e.literal.sign) (same_at old new stay e.literal.atom (All-head P e es there)) in
    let rest = told_stay old new stay ns es (All-tail P e es there) in
    let told : spec.Literal → ToldLiteral = λ l. record { depth = e.level; literal = l } in
    λ i. told (first i) ∷ rest i

-- the atoms of entries are there
pub entries_there : (log : LogState) (atoms : List ℕ) → AreToldAtoms log atoms → (es : List Assigned) → All (λ (e : Assigned). Contains atoms e.literal.atom) es
    → All (λ (e : Assigned). IsSome (slice_get log.atoms e.literal.atom)) es
entries_there log atoms there es on =
    All-weaker (λ (e : Assigned). Contains atoms e.literal.atom) (λ (e : Assigned). IsSome (slice_get log.atoms e.literal.atom))
    (λ e has. All-contains (λ (i : ℕ). IsSome (slice_get log.atoms i)) atoms e.literal.atom (names_some log atoms there) has) es on

pub tells_grown : (log log' : LogState) (atoms : List ℕ) (b : Bounds) (t : TrailState) (work : WorkList Note) → IsTrailOn log atoms b t → Grows log log' → TellsTrail log atoms b t.entries work
    → TellsTrail log' atoms b t.entries work
tells_grown log log' atoms b t work h g tells =
    let T : Assigned → Type 0 = λ e. IsSome (slice_get log.atoms e.literal.atom) in
    let each = entries_there log atoms h.there t.entries h.on_trail in
    let told : All T (told_on b t.entries) =
    all_from T (told_on b t.entries)
    (λ e has. All-contains T t.entries e each (front_has b.told t.entries e (filter_from (λ (x : Assigned). is_marked b.marks.items x.literal.atom) (take b.told t.entries) e has).0)) in
    record {
      named = λ ns. tells.named ns ∙ sym (names_stay log.atoms log'.atoms g.atoms ns atoms (names_some log atoms h.there));
      decided = tells.decided;
      told = λ ns. tells.told ns ∙ sym (told_stay log.atoms log'.atoms g.atoms ns (told_on b t.entries) told);
    }

-- ---- What may be told

-- the laws by which what a trail says may be told
pub record Laws : Type 0 where
  pub tells : TellsLits
  pub clauses : ClausesAreTrue
  pub other : NegationIsOther
  pub repeats : LegalWorkDoesNotRepeat

-- the atom of an entry has one
pub missing : (es : List Assigned) (x : Assigned) → Contains es x → assigned es x.literal.atom ≡ None → ⊥
missing [] x has none = omega (arith, has.1)
missing (y ∷ ys) x has none =
    elim (eqb_tells y.literal.atom x.literal.atom) [
      | inl p ↦
          let clash : Some y ≡ None = ap (λ (c : Bool). if c then Some y else assigned ys x.literal.atom) (sym p.0) ∙ none in
          cc
      | inr p ↦
          let rest : assigned ys x.literal.atom ≡ None = ap (λ (c : Bool). if c then Some y else assigned ys x.literal.atom) (sym p.0) ∙ none in
          elim (has_cases y x ys has) [
            | inl same ↦ absurd (p.1 (ap (λ (z : Assigned). z.literal.atom) same))
            | inr more ↦ missing ys x more rest
          ]
    ]

-- the next entry
module _ (log : LogState) (atoms : List ℕ) (b : Bounds) (t : TrailState) (h : IsTrailOn log atoms b t) (e : Assigned) (at : slice_get t.entries b.told ≡ Some e) where
  abbrev es : List Assigned
  es = t.entries

  pub next_has : Contains es e
  next_has = has_found es b.told e at

  pub next_atom : Contains atoms e.literal.atom
  next_atom = All-contains (λ (x : Assigned). Contains atoms x.literal.atom) es e h.on_trail next_has

  next_inside : b.told < length es
  next_inside = slice_get_within es b.told e at

  next_level : e.level ≡ depth es
  next_level =
      All-head (λ (x : Assigned). x.level ≡ depth es) e (drop (suc b.told) es)
      (subst (All (λ (x : Assigned). x.level ≡ depth es)) (drop_found es b.told e at) h.untold_last)

  pub next_trail : IsTrailOn log atoms (record b { told = b.told + 1 }) t
  next_trail =
      let P : Assigned → Type 0 = λ x. x.level ≡ depth es in
      let one : suc b.told ≡ b.told + 1 = omega arith in
      let inside = next_inside in
      record {
        there = h.there;
        marked = h.marked;
        on_trail = h.on_trail;
        order = h.order;
        implied = h.implied;
        inside = omega (arith, inside);
        untold_last = subst (λ (n : ℕ). All P (drop n es)) one (All-tail P e (drop (suc b.told) es) (subst (All P) (drop_found es b.told e at) h.untold_last));
      }

  -- what the list tells where it isn't a bound, and where it is told
  pub next_skipped : (work : WorkList Note) → TellsTrail log atoms b es work → is_marked b.marks.items e.literal.atom ≡ false → TellsTrail log atoms (record b { told = b.told + 1 }) es work
  next_skipped work tells unmarked =
      record {
        named = tells.named;
        decided = tells.decided;
        told = λ ns. tells.told ns ∙ ap (map (told_literal ns log.atoms)) (sym (told_same b es e at unmarked));
      }

  pub next_told : (work : WorkList Note) → TellsTrail log atoms b es work → is_marked b.marks.items e.literal.atom ≡ true
      → TellsTrail log atoms (record b { told = b.told + 1 }) es (with_line work (told_line atoms e.literal))
  next_told work tells marked =
      let line = told_line atoms e.literal in
      record {
        named = λ ns. ap (λ (r : legal.Search). r.atoms) (search_more ns work (line ∷ [])) ∙ tells.named ns;
        decided = λ ns. ap (λ (r : legal.Search). r.decided) (search_more ns work (line ∷ [])) ∙ tells.decided ns;
        told = λ ns.
            let r = search_after ns work in
            let f = told_literal ns log.atoms in
            let T : ℕ → spec.Literal → ToldLiteral = λ k l. record { depth = k; literal = l } in
            let deep : length r.decided ≡ e.level =
            ap length (tells.decided ns) ∙ length-map (filter is_decision es) (λ (x : Assigned). numbered atoms x.literal) ∙ length-filter is_decision es ∙ sym next_level in
            ap (λ (s : legal.Search). s.told) (search_more ns work (line ∷ []))
            ∙ ap (λ (ts : List ToldLiteral). ts ++ T (length r.decided) (literal_by r.atoms (numbered atoms e.literal)) ∷ []) (tells.told ns)
            ∙ ap (λ (k : ℕ). map f (told_on b es) ++ T k (literal_by r.atoms (numbered atoms e.literal)) ∷ []) deep
            ∙ ap (λ (l : spec.Literal). map f (told_on b es) ++ T e.level l ∷ []) (says_numbered ns log atoms b es work tells e.literal next_atom)
            ∙ sym (ap (map f) (told_more b es e at marked) ∙ map_push f (told_on b es) e);
      }

  -- what was told, and the next entry
  pub next_among : (l : Lit) → Contains (told_lits b es ++ e.literal ∷ []) l → Contains (literals_on es) l
  next_among l has =
      elim (Contains-push_cases (told_lits b es) e.literal l has) [
        | inl old ↦ told_among b es l old
        | inr same ↦ subst (Contains (literals_on es)) same (map_has literal_of es e next_has)
      ]

  pub next_lits : (l : Lit) → Contains (told_lits b es ++ e.literal ∷ []) l → Contains atoms l.atom
  next_lits l has =
      let x = entry_from es l (next_among l has) in
      subst (λ (m : Lit). Contains atoms m.atom) x.3 (All-contains (λ (y : Assigned). Contains atoms y.literal.atom) es x.1 h.on_trail (has_found es x.0 x.1 x.2))

  module _ (laws : Laws) (ns : List Node) (levels : List (List ℕ)) (assumed : List Lit) (q : Task) {held : List Held} (work : WorkList Note) (asked : IsAsked ns levels log held atoms assumed work q)
      (only : All (IsAssumed assumed) es) (tells : TellsTrail log atoms b es work) (x : Point) (lead : Lead q at_first no_point (noted_list ns work).lines x) where
    abbrev r : legal.Search
    r = search_after ns work

    abbrev number : ℕ
    number = unwrap_or (number_of atoms e.literal.atom) 0

    pub next_says : literal_by r.atoms (numbered atoms e.literal) ≡ literal_in ns log.atoms e.literal
    next_says = says_numbered ns log atoms b es work tells e.literal next_atom

    -- what the number of an atom says in the list
    named_at : (l : Lit) → Contains atoms l.atom → slice_get r.atoms (numbered atoms l).0 ≡ Some (atom_literal ns log.atoms l.atom)
    named_at l has =
        ap (λ (xs : List spec.Literal). slice_get xs (numbered atoms l).0) (tells.named ns) ∙ slice_get-map (atom_literal ns log.atoms) atoms (numbered atoms l).0
        ∙ ap (option_map (atom_literal ns log.atoms)) (number_at atoms l.atom has)

    -- what was told says another literal
    next_new : Contains (told_literals r) (literal_by r.atoms (numbered atoms e.literal)) → ⊥
    next_new has =
        let among = subst (λ (ls : List spec.Literal). Contains ls (literal_by r.atoms (numbered atoms e.literal))) (told_said ns log atoms b es work tells) has in
        let l = map_from (literal_in ns log.atoms) (told_lits b es) (literal_by r.atoms (numbered atoms e.literal)) among in
        let y = told_entry b es l.0 l.1 in
        let on = subst (λ (m : Lit). Contains atoms m.atom) y.3 (All-contains (λ (z : Assigned). Contains atoms z.literal.atom) es y.0 h.on_trail (front_has b.told es y.0 y.1)) in
        let same = (laws.repeats q (noted_list ns work).lines x lead).atoms (numbered atoms l.0).0 number l.0.sign e.literal.sign (atom_literal ns log.atoms l.0.atom)
        (atom_literal ns log.atoms e.literal.atom) (named_at l.0 on) (named_at e.literal next_atom)
        (subst (spec.SayTheSame (literal_by r.atoms (numbered atoms l.0))) (says_numbered ns log atoms b es work tells l.0 on ∙ l.2) (says_itself (literal_by r.atoms (numbered atoms l.0)))) in
        let atom : y.0.literal.atom ≡ e.literal.atom = ap (λ (m : Lit). m.atom) y.3 ∙ same_atom atoms l.0.atom e.literal.atom on next_atom same in
        missing (take b.told es) y.0 y.1 (ap (assigned (take b.told es)) atom ∙ (h.order b.told e at).fresh)

    next_follows : (a : Assignment) → MayBe q r a → IsTrue (is_literal_true a (literal_by r.atoms (numbered atoms e.literal)))
    next_follows a may =
        let named' = subst (λ (xs : List spec.Literal). AreTrueLiterals a (literals_by xs r.decided)) (tells.named ns) may.decided in
        let decided' = subst (λ (ps : List (ℕ × Bool)). AreTrueLiterals a (literals_by (map (atom_literal ns log.atoms) atoms) ps)) (tells.decided ns) named' in
        subst (λ (x : spec.Literal). IsTrue (is_literal_true a x)) (sym next_says)
        (task_entry laws.tells laws.clauses laws.other ns levels assumed q log atoms work asked b t h only a may.model decided' e next_has)

    pub next_may : MayTell q r (told_atom number e.literal.sign false)
    next_may =
        let inside : number < length atoms = slice_get_within atoms number e.literal.atom (number_at atoms e.literal.atom next_atom) in
        let long : length r.atoms ≡ length atoms = ap length (tells.named ns) ∙ length-map atoms (atom_literal ns log.atoms) in
        record { there = omega (arith, inside, long); new = next_new; follows = next_follows }

-- ---- A turn of telling

pub keeps_none : (m : TheoryState) → Keeps m m
keeps_none m = record { over = λ ns h. h; of = λ all ids h. h }

pub keeps_far : (a b c : TheoryState) → Keeps a b → Keeps b c → Keeps a c
keeps_far a b c g h = record { over = λ ns k. h.over ns (g.over ns k); of = λ all ids k. h.of all ids (g.of all ids k) }

-- nothing was told yet
pub consults_none : (m : TheoryState) (log : LogState) (atoms : List ℕ) (b : Bounds) (t : TrailState) (work : WorkList Note) → IsTrailOn log atoms b t → m.has_told (told_lits b t.entries)
    → TellsTrail log atoms b t.entries work → Consults m m log log atoms b b t work work (Ok None)
consults_none m log atoms b t work h told tells =
    record {
      rest = refl;
      trail = h;
      keeps = keeps_none m;
      grows = grows_none log;
      sound = λ ns levels known within order. order;
      adds = adds_none work;
      told = told;
      noted = tells;
      clash = tt;
      ends = λ held ns levels assumed q known on asked stands. stands_so ns log atoms b t.entries work tells (m.at ns) q stands;
    }

module _ {m m₁ : TheoryState} {log log₁ : LogState} {atoms : List ℕ} {b b₁ : Bounds} {t : TrailState} {work work₁ : WorkList Note} (c : Consults m m₁ log log₁ atoms b b₁ t work work₁ (Ok None))
    (e : Assigned) (at : slice_get t.entries b₁.told ≡ Some e) where
  -- an entry that is on no bound
  pub consults_skip : is_marked b₁.marks.items e.literal.atom ≡ false → Consults m m₁ log log₁ atoms b (record b₁ { told = b₁.told + 1 }) t work work₁ (Ok None)
  consults_skip unmarked =
      record {
        rest = ap (λ (x : Bounds). record x { told = b₁.told + 1 }) c.rest;
        trail = next_trail log₁ atoms b₁ t c.trail e at;
        keeps = c.keeps;
        grows = c.grows;
        sound = c.sound;
        adds = c.adds;
        told = subst (λ (xs : List Assigned). m₁.has_told (literals_on xs)) (sym (told_same b₁ t.entries e at unmarked)) c.told;
        noted = next_skipped log₁ atoms b₁ t c.trail e at work₁ c.noted unmarked;
        clash = tt;
        ends = c.ends;
      }

  module _ {m₂ : TheoryState} {log₂ : LogState} {work₂ : WorkList Note} {r : Result (Option ℕ) Stop} (o : TellsOne m₁ m₂ log₁ log₂ atoms e.literal work₁ work₂ r) where
    abbrev ls : List Lit
    ls = told_lits b₁ t.entries

    one_grows : Grows log₁ log₂
    one_grows = o.grows ls c.told (names_told log₁ atoms c.trail.there (ls ++ e.literal ∷ []) (next_lits log₁ atoms b₁ t c.trail e at))

    one_within : (ns : List Node) → All (λ (x : Assigned). IsLitIn ns log₁.atoms x.literal) t.entries → AreWithin ns log₁.atoms (ls ++ e.literal ∷ [])
    one_within ns within =
        recursion_from_All (IsLitIn ns log₁.atoms) (ls ++ e.literal ∷ [])
        (all_from (IsLitIn ns log₁.atoms) (ls ++ e.literal ∷ [])
        (λ l has.
        let x = entry_from t.entries l (next_among log₁ atoms b₁ t c.trail e at l has) in
        subst (IsLitIn ns log₁.atoms) x.3
        (All-contains (λ (y : Assigned). IsLitIn ns log₁.atoms y.literal) t.entries x.1 within (has_found t.entries x.0 x.1 x.2))))

    one_sound : StaysSoundOver m.over t.entries log log₂
    one_sound ns levels known within order =
        let within' = All-weaker (λ (x : Assigned). IsLitIn ns log.atoms x.literal) (λ (x : Assigned). IsLitIn ns log₁.atoms x.literal)
        (λ x l. lit_stays log.atoms log₁.atoms c.grows.atoms ns x.literal l) t.entries within in
        o.sound ls ns levels c.told (c.keeps.over ns known) (one_within ns within') (c.sound ns levels known within order)

    one_ends : Laws → (held : List Held) → EndsLegally m m₂ log held atoms (told_lits b t.entries) t.entries work work₂ r
    one_ends laws held ns levels assumed q known on asked stands =
        let under = (adds_same ns work work₁ (adds_wider work work₁ c.adds)).under in
        let asked' = asked_on log log₁ atoms c.grows (λ h has. has) (order_over m.over atoms t.entries c.trail.on_trail log log₁ c.sound ns levels known asked.within asked.order) under asked in
        let st = c.ends held ns levels assumed q known on asked stands in
        o.ends ns q (next_may log₁ atoms b₁ t c.trail e at laws ns levels assumed q work₁ asked' on.only c.noted st.point st.legal)
        (next_says log₁ atoms b₁ t c.trail e at laws ns levels assumed q work₁ asked' on.only c.noted st.point st.legal) st

    one_clash : IfOk r (λ found. IfSome found (IsClash log₂ (literals_on t.entries)))
    one_clash =
        IfOk-weaker r (λ (found : Option ℕ). IfSome found (IsClash log₂ (ls ++ e.literal ∷ []))) (λ (found : Option ℕ). IfSome found (IsClash log₂ (literals_on t.entries)))
        (λ found h. IfSome_then found h
        (λ id k. record { live = k.live; once = k.once; negations = λ l has. next_among log₁ atoms b₁ t c.trail e at (negated_lit l) (k.negations l has) })) (o.clash ls c.told)

    -- where it answers a clause, or stops, no more is told
    consults_ends : Laws → OnOk r (m₂.has_told ls) → OnOk r (work₂ ≡ work₁) → Consults m m₂ log log₂ atoms b b₁ t work work₂ r
    consults_ends laws told same =
        record {
          rest = c.rest;
          trail = trail_grown log₁ atoms b₁ t c.trail log₂ one_grows;
          keeps = keeps_far m m₁ m₂ c.keeps o.keeps;
          grows = grows_far log log₁ log₂ c.grows one_grows;
          sound = one_sound;
          adds = adds_far work work₁ work₂ c.adds o.adds;
          told = told;
          noted = IfOk-weaker r (λ (found : Option ℕ). work₂ ≡ work₁) (λ (found : Option ℕ). TellsTrail log₂ atoms b₁ t.entries work₂)
              (λ found is. subst (TellsTrail log₂ atoms b₁ t.entries) (sym is) (tells_grown log₁ log₂ atoms b₁ t work₁ c.trail one_grows c.noted)) same;
          clash = one_clash;
          ends = one_ends laws;
        }

  pub consults_err : {m₂ : TheoryState} → {log₂ : LogState} → {work₂ : WorkList Note} → {stop : Stop} → TellsOne m₁ m₂ log₁ log₂ atoms e.literal work₁ work₂ (Err stop) → Laws
      → Consults m m₂ log log₂ atoms b b₁ t work work₂ (Err stop)
  consults_err o laws = consults_ends o laws tt tt

  pub consults_clash : {m₂ : TheoryState} → {log₂ : LogState} → {work₂ : WorkList Note} → (found : Option ℕ) → is_some found ≡ true
      → TellsOne m₁ m₂ log₁ log₂ atoms e.literal work₁ work₂ (Ok found) → Laws → Consults m m₂ log log₂ atoms b b₁ t work work₂ (Ok found)
  consults_clash None some o laws = absurd (true≢false (sym some))
  consults_clash (Some id) some o laws = consults_ends o laws (o.told (told_lits b₁ t.entries) c.told) o.noted

  -- a bound that is taken
  pub consults_more : {m₂ : TheoryState} → {log₂ : LogState} → {work₂ : WorkList Note} → TellsOne m₁ m₂ log₁ log₂ atoms e.literal work₁ work₂ (Ok None) → Laws
      → is_marked b₁.marks.items e.literal.atom ≡ true → Consults m m₂ log log₂ atoms b (record b₁ { told = b₁.told + 1 }) t work work₂ (Ok None)
  consults_more {m₂} {log₂} {work₂} o laws marked =
      let grows = one_grows o in
      let trail = trail_grown log₁ atoms b₁ t c.trail log₂ grows in
      record {
        rest = ap (λ (x : Bounds). record x { told = b₁.told + 1 }) c.rest;
        trail = next_trail log₂ atoms b₁ t trail e at;
        keeps = keeps_far m m₁ m₂ c.keeps o.keeps;
        grows = grows_far log log₁ log₂ c.grows grows;
        sound = one_sound o;
        adds = adds_far work work₁ work₂ c.adds o.adds;
        told = subst m₂.has_told (sym (ap literals_on (told_more b₁ t.entries e at marked) ∙ map_push literal_of (told_on b₁ t.entries) e)) (o.told (told_lits b₁ t.entries) c.told);
        noted = subst (TellsTrail log₂ atoms (record b₁ { told = b₁.told + 1 }) t.entries) (sym o.noted)
            (next_told log₂ atoms b₁ t trail e at work₁ (tells_grown log₁ log₂ atoms b₁ t work₁ c.trail grows c.noted) marked);
        clash = tt;
        ends = one_ends o laws;
      }

on_ok : {A E : Type 0} (P : Type 0) (r : Result A E) → P → OnOk r P
on_ok P (Ok a) h = h
on_ok P (Err e) h = tt

-- the theory looks for values that meet what it was told
pub consults_checked : PivotsAreLegal → LegalWorkGoesOn → {m m₁ m₂ : TheoryState} → {log log₁ log₂ : LogState} → {atoms : List ℕ} → {b b₁ : Bounds} → {t : TrailState} → {work work₁ work₂ : WorkList Note}
    → Consults m m₁ log log₁ atoms b b₁ t work work₁ (Ok None) → Keeps m₁ m₂ → AddsPivots work₁ work₂ → (r : Result (Option ℕ) Stop)
    → ((ls : List Lit) → m₁.has_told ls → OnOk r (m₂.has_told ls)) → ((ls : List Lit) → m₁.has_told ls → IfOk r (λ found. IfSome found (IsClash log₂ ls)))
    → ((ls : List Lit) → m₁.has_told ls → AreTold log₁ ls → Grows log₁ log₂)
    → ((ls : List Lit) (ns : List Node) (levels : List (List ℕ)) → m₁.has_told ls → m₁.over ns → AreWithin ns log₁.atoms ls → IsLog ns levels log₁ → IsLog ns levels log₂)
    → ((ns : List Node) (fs : List (List Part)) (ls : List spec.Literal) (x : Point) → m₁.at ns fs ls x → Leads (m₂.at ns fs ls) ns fs ls x work₁ work₂ r)
    → Consults m m₂ log log₂ atoms b b₁ t work work₂ r
consults_checked laws on {m} {m₁} {m₂} {log} {log₁} {log₂} {atoms} {b} {b₁} {t} {work} {work₁} {work₂} c keeps pivots r told clash grows sound leads =
    let es = t.entries in
    let ls = told_lits b₁ es in
    let among : (l : Lit) → Contains ls l → Contains atoms l.atom =
    λ l has.
    let x = entry_from es l (told_among b₁ es l has) in
    subst (λ (k : Lit). Contains atoms k.atom) x.3 (All-contains (λ (y : Assigned). Contains atoms y.literal.atom) es x.1 c.trail.on_trail (has_found es x.0 x.1 x.2)) in
    let more = grows ls c.told (names_told log₁ atoms c.trail.there ls among) in
    let within : (ns : List Node) → All (λ (x : Assigned). IsLitIn ns log₁.atoms x.literal) es → AreWithin ns log₁.atoms ls =
    λ ns each.
    recursion_from_All (IsLitIn ns log₁.atoms) ls
    (all_from (IsLitIn ns log₁.atoms) ls
    (λ l has.
    let x = entry_from es l (told_among b₁ es l has) in
    subst (IsLitIn ns log₁.atoms) x.3 (All-contains (λ (y : Assigned). IsLitIn ns log₁.atoms y.literal) es x.1 each (has_found es x.0 x.1 x.2)))) in
    let tells = tells_grown log₁ log₂ atoms b₁ t work₁ c.trail more c.noted in
    let after : TellsTrail log₂ atoms b₁ es work₂ =
    record {
      named = λ ns. ap (λ (s : legal.Search). s.atoms) (pivots_stay laws ns work₁ work₂ pivots) ∙ tells.named ns;
      decided = λ ns. ap (λ (s : legal.Search). s.decided) (pivots_stay laws ns work₁ work₂ pivots) ∙ tells.decided ns;
      told = λ ns. ap (λ (s : legal.Search). s.told) (pivots_stay laws ns work₁ work₂ pivots) ∙ tells.told ns;
    } in
    record {
      rest = c.rest;
      trail = trail_grown log₁ atoms b₁ t c.trail log₂ more;
      keeps = keeps_far m m₁ m₂ c.keeps keeps;
      grows = grows_far log log₁ log₂ c.grows more;
      sound = λ ns levels known each order.
          let each' = All-weaker (λ (x : Assigned). IsLitIn ns log.atoms x.literal) (λ (x : Assigned). IsLitIn ns log₁.atoms x.literal)
          (λ x l. lit_stays log.atoms log₁.atoms c.grows.atoms ns x.literal l) es each in
          sound ls ns levels c.told (c.keeps.over ns known) (within ns each') (c.sound ns levels known each order);
      adds = adds_far work work₁ work₂ c.adds (adds_pivots work₁ work₂ pivots);
      told = told ls c.told;
      noted = on_ok (TellsTrail log₂ atoms b₁ es work₂) r after;
      clash = IfOk-weaker r (λ (found : Option ℕ). IfSome found (IsClash log₂ ls)) (λ (found : Option ℕ). IfSome found (IsClash log₂ (literals_on es)))
          (λ found h. IfSome_then found h (λ id k. record { live = k.live; once = k.once; negations = λ l has. told_among b₁ es (negated_lit l) (k.negations l has) })) (clash ls c.told);
      ends = λ held ns levels assumed q known given asked stands.
          let s = c.ends held ns levels assumed q known given asked stands in
          let at = search_after ns work₁ in
          check_ends laws ns work₁ work₂ on q (Option ℕ) (m₁.at ns) (m₂.at ns) s r (leads ns at.forms (told_literals at) s.point s.at);
    }

pub consults_same : {m m' : TheoryState} → {log log' : LogState} → {atoms : List ℕ} → {b b' : Bounds} → {t : TrailState} → {work work' : WorkList Note} → {r r' : Result (Option ℕ) Stop} → r ≡ r'
    → Consults m m' log log' atoms b b' t work work' r → Consults m m' log log' atoms b b' t work work' r'
consults_same {m} {m'} {log} {log'} {atoms} {b} {b'} {t} {work} {work'} same c = subst (Consults m m' log log' atoms b b' t work work') same c

-- ---- A clause of negations

-- it is falsified
pub clash_falsified : (size : ℕ) (es : List Assigned) → EachBehind (IsNext size) es → (log : LogState) (id : ℕ) → IsClash log (literals_on es) id → IsFalsified es (literals_at log id)
clash_falsified size es order log id c l has =
    let e = entry_from es (negated_lit l) (c.negations l has) in
    let there : assigned es e.1.literal.atom ≡ Some e.1 = assigned_at es e.0 e.1 e.2 (order e.0 e.1 e.2).fresh in
    let term : e.1.literal.atom ≡ l.atom = ap (λ (x : Lit). x.atom) e.3 in
    let sign : e.1.literal.sign ≡ not l.sign = ap (λ (x : Lit). x.sign) e.3 in
    ap (option_map (λ (x : Assigned). x.literal.sign)) (ap (assigned es) (sym term) ∙ there) ∙ ap Some sign
