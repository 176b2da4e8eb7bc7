-- The row of the number, and what stands once its clause is put, or isn't.
use Rattle.std.proofs.Common.{◌<◌, Some, length, ap, sym, ◌∙◌, rules}
use Rattle.std.specs.Prelude.{option_map, slice_get}
use Rattle.std.specs.declared.vec.Vec.{Vec}
use Rattle.std.specs.declared.alloc.Global.{Global}
use Rattle.std.proofs.lemmas.Option.{slice_get-get_or, slice_get-map}
use Rattle.nz_term.specs.declared.term_lits.TermLit.{TermLit}
use Rattle.nz_sat_tests.proofs.HeldClauses.{joined_posed, put_posed}
use Rattle.nz_sat_tests.proofs.problem.Held.gate.Goals as goal

pub gate-requires-clause-row : goal.gate-requires-clause-row
gate-requires-clause-row c =
    let rows = c.in_ok-rows.rows.items in
    let j = c.args.j in
    let within : j < length rows = search rules in
    ap (λ lists. slice_get lists j) (sym c.in_ok-rows.ensures.rows)
    ∙ slice_get-map (λ (v : Vec TermLit Global). v.items) rows j
    ∙ ap (option_map (λ (v : Vec TermLit Global). v.items)) (slice_get-get_or rows j c.remove-row.result within ∙ ap Some (sym c.remove-row.ensures.value))

pub invariant_of-self : goal.invariant_of-self
invariant_of-self c = joined_posed c.self.inside.log c.gate.new.self c.self.inside.sat c.self.inside.atoms.items c.in_err-clause.ensures.unchanged c.self.invariant

pub invariant_of-self-2 : goal.invariant_of-self-2
invariant_of-self-2 c = put_posed c.self.inside.log c.gate.new.self c.self.inside.sat c.self.inside.atoms.items _ _ c.in_ok-clause.ensures.made c.self.invariant
