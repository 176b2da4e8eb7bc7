-- A list without lines, of which a check may be made.
use Rattle.std.proofs.Common.{◌≡◌, ◌⊎◌, ◌≤◌, ◌*◌, List, [], ◌∷◌, All, Contains, length, map, inl, refl, sym, subst, arith}
use Rattle.std.proofs.lemmas.List.Elements.{All-contains, All-contains_itself, All-nil}
use Rattle.nz_spec.specs.clauses.Literal.{Literal}
use Rattle.nz_spec.specs.search.Atoms.{IsBoundOf, IsTruth}
use Rattle.nz_spec.specs.search.Legal.{AreFew, events}
use Rattle.nz_spec.specs.search.Search.{Task, at_first}
use Rattle.nz_spec.specs.search.Work.{WorkList}
use Rattle.nz_spec.specs.terms.Table.{Node}
use Rattle.nz_term.specs.declared.term_lits.TermLit.{TermLit}
use Rattle.nz_term.specs.TermLits.{literal_of}
use Rattle.nz_search.specs.declared.note.Note.{Note}
use Rattle.nz_search.specs.Asked.{ChecksMayStart, HasRoom, IsAskedOf, MayCheck}
use Rattle.nz_search.specs.Levels.{Level}
use Rattle.nz_search.specs.Standing.{search_after}

-- no atom is named
none_named : (q : Task) (others : List Literal) → All (λ (l : Literal). Contains [] l × (IsTruth q.listed l ⊎ IsBoundOf q.numbering q.listed l → ⊥)) others → length others ≤ 2 * events q at_first
none_named q [] each = omega arith
none_named q (l ∷ others) each =
    let has = All-contains (λ (m : Literal). Contains [] m × (IsTruth q.listed m ⊎ IsBoundOf q.numbering q.listed m → ⊥)) (l ∷ others) l each (0, omega arith, refl) in
    let below = has.0.1 in
    absurd (omega (arith, below))

few_first : (q : Task) → AreFew q at_first
few_first q =
    record {
      atoms = λ others once each. none_named q others each;
      begun = omega arith;
      spread = record { members = []; values = refl; held = All-nil _; has = All-nil _; few = All-nil _ };
    }

may_start : (ns : List Node) (levels : List Level) (assumed : List TermLit) (q : Task) (work : WorkList Note) → IsAskedOf ns levels assumed q → work.lines ≡ [] → MayCheck ns levels assumed q work
may_start ns levels assumed q work asked none =
    let first : search_after ns work ≡ at_first = λ i. search_after ns (record work { lines = none i }) in
    record {
      goes_on = record {
        asserted = asked.asserted;
        numbering = asked.numbering;
        listed = asked.listed;
        few = subst (AreFew q) (sym first) (few_first q);
        room = subst (HasRoom q) (sym first) (omega arith);
      };
      under = λ x lead k d below. inl (asked.assumed_of k d below);
      no_others = asked.no_others;
    }

pub checks_may_start : ChecksMayStart
checks_may_start =
    record {
      asked = may_start;
      alone = λ ns levels assumed earlier. record { asserted = refl; numbering = refl; listed = λ t has. has; assumed_of = All-contains_itself (map (literal_of ns) assumed); no_others = λ none. All-contains_itself (map (literal_of ns) assumed) };
    }
