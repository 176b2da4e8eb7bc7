-- What is known of a term over those of a table.
use Rattle.std.proofs.Common.{◌≡◌, ◌<◌, [], length, All, sym, ap, subst, ◌∙◌}
use Rattle.std.specs.Prelude.{fold}
use Rattle.nz_spec.specs.terms.Term.{apply}
use Rattle.nz_spec.specs.terms.Table.{term_in, terms_at, with_term}
use Rattle.nz_term.specs.Facts.{fact_of}
use Rattle.nz_term.specs.Heads.{head_of}
use Rattle.nz_term.proofs.Knowledge.{length-known, over_table}
use Rattle.nz_term.proofs.terms.Terms.known.Goals as goal

pub fact_over-requires : goal.fact_over-requires
fact_over-requires c =
    let long : length c.args.self.now ≡ length c.self.inside.facts =
    ap length (sym c.self.view_is) ∙ sym (length-known c.self.inside.nodes c.self.inside.facts c.self.invariant) in
    record {
      within = subst (λ n. All (λ k. k < n) c.args.kids.now) long c.requires.within;
      fits = c.requires.fits;
    }

pub returns : goal.returns
returns c =
    let ns = c.self.inside.nodes in
    record {
      known =
          over_table ns (head_of c.args.head) c.args.kids.now c.fact_over.result (c.fact_over.ensures.fact (fold with_term [] ns) c.self.invariant.facts)
          ∙ ap (λ l. fact_of (apply (head_of c.args.head) (terms_at (term_in l) c.args.kids.now))) c.self.view_is;
    }
