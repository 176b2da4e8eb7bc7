use Rattle.std.proofs.Common.{◌≡◌, true, sym, ◌∙◌}
use Rattle.nz_spec.specs.terms.Term.{head_fits, apply, no_terms}
use Rattle.nz_term.specs.Heads.{head_of}
use Rattle.nz_elaborate.proofs.ElaboratedTerms.{fits_is}
use Rattle.nz_elaborate.proofs.elaboration.fitting_term.Goals as goal

pub returns-clause-found : goal.returns-clause-found
returns-clause-found c =
    let fits : head_fits (head_of c.args.head) ≡ true = cc in
    record {
      term = apply (head_of c.args.head) no_terms;
      is = fits_is (head_of c.args.head) fits;
      typed = record { within = c.in_ok-id.ensures.made.within; normal = c.in_ok-id.ensures.made.term ∙ sym c.requires.normal; sort = c.sort-sort.ensures.sort };
    }
