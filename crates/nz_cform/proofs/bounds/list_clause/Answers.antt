-- One literal after another.
use Rattle.std.proofs.Common.{◌≡◌, ℕ, ◌<◌, List, None, Some, length, get_or, sym, ap, subst, ◌∙◌, Contains, IsSome, slice_get, take_all}
use Rattle.std.proofs.lemmas.List.Elements.{Contains-get_or}
use Rattle.nz_lin.specs.declared.bound.Bound.{Bound}
use Rattle.nz_log.specs.declared.atoms.Atom.TheVariants.{AtMost}
use Rattle.nz_log.specs.declared.lits.Lit.{Lit}
use Rattle.nz_cform.specs.Listings.{listed_at}
use Rattle.nz_cform.proofs.ListedBounds.{IsListingClause, clause_listed, one_of_clause}
use Rattle.nz_cform.proofs.bounds.list_clause.Goals as goal

pub list_atom-requires : goal.list_atom-requires
list_atom-requires c =
    let lits = c.clause-literals.result.now in
    let item = c.literal-item.result in
    let l = get_or lits c.loop-literal.literal-index item in
    record {
      within = subst (λ (i : ℕ). i < length c.args.log.now.atoms) (sym (c.atom.ensures.atom ∙ ap (λ (m : Lit). m.atom) c.literal-item.is))
          (c.requires.on_atoms l
          (subst (λ (ls : List Lit). Contains ls l) c.clause-literals.ensures.literals (Contains-get_or lits c.loop-literal.literal-index item c.loop-literal-test.true)));
    }

pub loop-literal-preserved : goal.loop-literal-preserved
loop-literal-preserved c =
    let did = c.in_ok-list_atom.ensures in
    let log = c.args.log.now in
    let now = c.list_atom.new.bounds in
    let at = c.atom.ensures.atom ∙ ap (λ (m : Lit). m.atom) c.literal-item.is in
    one_of_clause c.args.log.now c.args.clause c.requires.row.0 c.args.level c.requires.row.1 c.clause-literals.result.now c.loop-literal.literal-index c.literal-item.result
    c.args.bounds.now c.loop-literal.bounds c.list_atom.new.bounds c.loop-literal-test.true c.clause-literals.ensures.literals c.loop-literal.invariant
    (subst (λ (i : ℕ). (b : Bound) → slice_get log.atoms i ≡ Some (AtMost b) → IsSome (listed_at now i)) at did.listed) did.grown
    (subst (λ (j : ℕ). (i : ℕ) → listed_at c.loop-literal.bounds i ≡ None → IsSome (listed_at now i) → (i ≡ j) × (b : Bound) × (slice_get log.atoms i ≡ Some (AtMost b))) at did.only)

pub returns-clause-listed : goal.returns-clause-listed
returns-clause-listed c =
    let lits = c.clause-literals.result.now in
    clause_listed c.args.log.now c.args.clause c.args.level lits c.args.bounds.now c.loop-literal.bounds c.clause-literals.ensures.literals
    (subst (λ (ls : List Lit). IsListingClause c.args.log.now c.args.clause ls c.args.level c.args.bounds.now c.loop-literal.bounds)
    (take_all c.loop-literal.literal-index lits c.loop-literal-test.false) c.loop-literal.invariant)
