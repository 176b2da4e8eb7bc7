-- When a search may begin with a theory, where it stands.
use Rattle.std.proofs.Common.{◌≡◌, ◌⊎◌, ◌++◌, List, [], ◌∷◌, map, refl, sym, ap, ◌∙◌, subst, arith}
use Rattle.std.specs.Prelude.{All, Contains}
use Rattle.std.specs.List.{AllByRecursion}
use Rattle.std.proofs.lemmas.List.{length-append}
use Rattle.std.proofs.lemmas.List.Elements.{All-from_recursion}
use Rattle.nz_spec.specs.terms.Form as spec
use Rattle.nz_spec.specs.clauses.Goals.{Goal}
use Rattle.nz_spec.specs.clauses.Literal.{Literal}
use Rattle.nz_spec.specs.laws.LegalWork.{IsOnTerm, LegalWorkMayBegin, MoreTermsMayBegin}
use Rattle.nz_spec.specs.search.Atoms.{IsTabled, IsTruth}
use Rattle.nz_spec.specs.search.Beginnings.{MayBegin}
use Rattle.nz_spec.specs.search.Search.{Task, goals_known, no_point, terms_known}
use Rattle.nz_spec.specs.terms.FormOf.{number_in}
use Rattle.nz_spec.specs.terms.Table.{IsTable, Node, TermStays}
use Rattle.nz_spec.specs.terms.Term.{Term, sort_of}
use Rattle.nz_spec.specs.search.Work.{WorkList}
use Rattle.nz_lin.specs.declared.form.Part.{Part}
use Rattle.nz_lin.specs.Forms.{AreUnits, NamesUnit, parts_over}
use Rattle.nz_search.specs.declared.note.Note.{Note}
use Rattle.nz_search.specs.Notes.{noted_list}
use Rattle.nz_search.specs.Standing.{Stands, search_after}
use Rattle.nz_simplex.specs.State.{point_in}
use Rattle.nz_reals.specs.Stands.{IsAt, IsOver}
use Rattle.nz_reals.specs.Starts.{MayRestart}
use Rattle.nz_reals.specs.State.{Theory, empty_theory}

-- over no sum: so ends a list with no line
pub empty_restarts : LegalWorkMayBegin → (ns : List Node) (ts : List Term) → MayRestart empty_theory ns ts
empty_restarts legal ns ts =
    let q : Task = record { asserted = []; assumed = []; goals = []; groups = []; listed = ts; numbering = number_in ns; earlier = []; earlier_goals = [] } in
    legal.plain q [] no_point ([], refl) refl (All-from_recursion IsOnTerm [] tt) (All-from_recursion (λ (l : Literal). IsTruth ts l ⊎ IsTabled (number_in ns) ts l) [] tt)

pub restarts_after : LegalWorkMayBegin → (t : Theory) (ns : List Node) (q : Task) (work : WorkList Note) → Stands (IsAt t ns) ns q work → q.goals ≡ [] → q.earlier_goals ≡ [] → All IsOnTerm q.assumed
    → All (λ (l : Literal). IsTruth q.listed l ⊎ IsTabled q.numbering q.listed l) (search_after ns work).atoms → MayRestart t ns (terms_known q)
restarts_after legal t ns q work h none before assumed tabled =
    let no_goals : goals_known q ≡ [] = ap (λ (gs : List Goal). gs ++ q.goals) before ∙ none in
    subst (λ (fs : List (List spec.Part)). MayBegin (terms_known q) [] fs (point_in t.simplex)) h.at.forms
    (subst (MayBegin (terms_known q) [] (search_after ns work).forms) h.at.point
    (subst (λ (gs : List Goal). MayBegin (terms_known q) gs (search_after ns work).forms h.point) no_goals (legal.plain q (noted_list ns work).lines h.point h.legal none assumed tabled)))

pub restarts_more : MoreTermsMayBegin → (t : Theory) (ns : List Node) (ts us : List Term) → ((u : Term) → Contains ts u → Contains us u) → MayRestart t ns ts → MayRestart t ns us
restarts_more more t ns ts us into may = more.begin ts us [] [] (map (parts_over ns) t.simplex.forms) (point_in t.simplex) into (λ (g : Goal) has. has) may

-- ---- A table that has grown

module _ (stays : TermStays) (ns more : List Node) where
  name_stays : (p : Part) → NamesUnit ns p → NamesUnit (ns ++ more) p
  name_stays p h =
      let long = length-append ns more in
      let inside = h.0 in
      (omega (arith, long, inside), h.1 ∙ ap sort_of (sym (stays ns more p.unit h.0)))

  names_stay : (ps : List Part) → AllByRecursion (NamesUnit ns) ps → AllByRecursion (NamesUnit (ns ++ more)) ps
  names_stay [] h = tt
  names_stay (p ∷ ps) h = (name_stays p h.0, names_stay ps h.1)

  units_stay : (fs : List (List Part)) → AllByRecursion (AreUnits ns) fs → AllByRecursion (AreUnits (ns ++ more)) fs
  units_stay [] h = tt
  units_stay (f ∷ fs) h = (record { names = names_stay f h.0.names; in_order = h.0.in_order }, units_stay fs h.1)

  parts_stay : (ps : List Part) → AllByRecursion (NamesUnit ns) ps → parts_over (ns ++ more) ps ≡ parts_over ns ps
  parts_stay [] h = refl
  parts_stay (p ∷ ps) h = λ i. record { coefficient = p.coefficient; unit = stays ns more p.unit h.0.0 i } ∷ parts_stay ps h.1 i

  forms_stay : (fs : List (List Part)) → AllByRecursion (AreUnits ns) fs → map (parts_over (ns ++ more)) fs ≡ map (parts_over ns) fs
  forms_stay [] h = refl
  forms_stay (f ∷ fs) h = λ i. parts_stay f h.0.names i ∷ forms_stay fs h.1 i

  pub over_grown : (t : Theory) → IsTable (ns ++ more) → IsOver t ns → IsOver t (ns ++ more)
  over_grown t table over = record { table = table; units = units_stay t.simplex.forms over.units }

  pub restarts_grown : (t : Theory) (ts : List Term) → IsOver t ns → MayRestart t ns ts → MayRestart t (ns ++ more) ts
  restarts_grown t ts over may = subst (λ (fs : List (List spec.Part)). MayBegin ts [] fs (point_in t.simplex)) (sym (forms_stay t.simplex.forms over.units)) may
