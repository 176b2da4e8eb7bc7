-- A check may begin, and go on, as one of fewer terms and goals may.
use Rattle.std.specs.Prelude.{List, ◌++◌, Contains, flat_map}
use Rattle.nz_spec.specs.numbers.Computation.{Computation}
use Rattle.nz_spec.specs.terms.Term.{Term}
use Rattle.nz_spec.specs.terms.Form.{Numbering}
use Rattle.nz_spec.specs.clauses.Literal.{Literal, Clause}
use Rattle.nz_spec.specs.clauses.Links.{link_clauses}
use Rattle.nz_spec.specs.clauses.Units.{unit_clauses}
use Rattle.nz_spec.specs.clauses.Farkas.{is_linear_literal}
use Rattle.nz_spec.specs.clauses.Goals.{Goal}
use Rattle.nz_spec.specs.simplex.Climb.{linear_literals}
use Rattle.nz_spec.specs.search.Search.{Task}
use Rattle.nz_spec.specs.laws.LegalWork.{MoreTermsMayBegin}
use Rattle.nz_spec.specs.laws.MoreTerms.{MoreTermsEndLegally}
use Rattle.nz_spec.proofs.FlatLists.{filter_from, filter_has, flat_from, flat_has}
use Rattle.nz_spec.proofs.SameSums.{say_itself}
use Rattle.nz_spec.proofs.OtherTasks.{bound-more, begin-more, other_task, Allows, legal-more, spent-more, stopped-more}

literals_more : (number : Numbering) (ts us : List Term) → ((t : Term) → Contains ts t → Contains us t) → (l : Literal) → Contains (linear_literals number ts) l → Contains (linear_literals number us) l
literals_more number ts us more l has =
    let rows : Term → List (Computation Clause) = λ t. link_clauses number t ++ unit_clauses number t in
    let linear = filter_from is_linear_literal (flat_map (λ (c : Computation Clause). c.result) (flat_map rows ts)) l has in
    let row = flat_from (λ (c : Computation Clause). c.result) (flat_map rows ts) l linear.0 in
    let term = flat_from rows ts row.0 row.1 in
    filter_has is_linear_literal (flat_map (λ (c : Computation Clause). c.result) (flat_map rows us)) l
    (flat_has (λ (c : Computation Clause). c.result) (flat_map rows us) row.0 l (flat_has rows us term.0 row.0 (more term.0 term.1) term.2) row.2) linear.1

allows : (q : Task) (listed earlier : List Term) (earlier_goals : List Goal) → ((t : Term) → Contains q.listed t → Contains listed t)
    → ((t : Term) → Contains q.earlier t → Contains earlier t) → ((g : Goal) → Contains q.earlier_goals g → Contains earlier_goals g)
    → Allows q (other_task q listed earlier earlier_goals q.numbering)
allows q listed earlier earlier_goals more more_earlier more_goals = record {
  listed = more;
  earlier = more_earlier;
  goals = more_goals;
  bound = λ l h. bound-more q.listed listed more q.numbering l h;
  bounds = λ l has. (l, has, say_itself l);
  asserted = λ l has. (l, has, say_itself l);
  literals = λ l has. (l, literals_more q.numbering q.listed listed more l has, say_itself l);
  met = λ truths v h. h;
  operation = λ t op listed has. has;
}

pub more_terms_end_legally : MoreTermsEndLegally
more_terms_end_legally = record {
  spent = λ q listed earlier earlier_goals work more more_earlier more_goals.
      spent-more q listed earlier earlier_goals q.numbering (allows q listed earlier earlier_goals more more_earlier more_goals) work;
  stopped = λ q listed earlier earlier_goals work place more more_earlier more_goals.
      stopped-more q listed earlier earlier_goals q.numbering (allows q listed earlier earlier_goals more more_earlier more_goals) work place;
}

pub more_terms_may_begin : MoreTermsMayBegin
more_terms_may_begin = record {
  begin = λ ts us gs hs fs x terms goals. begin-more ts us terms gs hs goals fs x;
  legal = λ q listed earlier earlier_goals lines more more_earlier more_goals.
      legal-more q listed earlier earlier_goals q.numbering (allows q listed earlier earlier_goals more more_earlier more_goals) lines;
}
