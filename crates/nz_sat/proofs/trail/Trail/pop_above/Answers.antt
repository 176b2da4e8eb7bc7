-- The last entry goes, and its place in the table.
use Rattle.std.proofs.Common.{◌≡◌, ℕ, ◌<◌, ◌≤◌, ◌++◌, ◌∷◌, [], ◌+◌, ◌-◌, ◌*◌, List, length, Some, None, get_or, ap, sym, subst, ◌∙◌, arith, rules, refl, slice_get, slice_set, slice_index_or}
use Rattle.std.proofs.lemmas.List.{length-set, length_push}
use Rattle.std.proofs.lemmas.List.Sums.{sum_by-set}
use Rattle.std.proofs.lemmas.Option.{slice_get-get_or}
use Rattle.nz_sat.specs.declared.trail.Assigned.{Assigned}
use Rattle.nz_log.specs.declared.lits.Lit.{Lit}
use Rattle.nz_log.specs.Codes.{code_of}
use Rattle.nz_log.specs.Lits.{negated_lit}
use Rattle.nz_sat.specs.Stored.{vacancy, value_on}
use Rattle.nz_sat.specs.Trails.{EachBehind, IsNext, TrailState, assigned}
use Rattle.nz_sat.proofs.LiteralValues.{values_pop, values_long}
use Rattle.nz_sat.proofs.TrailEntries.{each_front, each_last, table_pop, assigned_missing, assigned_one, last_highest}
use Rattle.nz_sat.proofs.trail.Trail.pop_above.Goals as goal

pub returns-then-last-level-clause-below : goal.returns-then-last-level-clause-below
returns-then-last-level-clause-below c none =
    let es = c.self.inside.entries.items in
    let last = c.in_ok-last.field-0.now in
    let read : c.deref.result.now ≡ es = c.deref.ensures.value in
    let at : slice_get es (length es - 1) ≡ Some last = ap (λ (xs : List Assigned). slice_get xs (length xs - 1)) (sym read) ∙ sym c.in_ok-last.ensures.value in
    let P : TrailState → Type 0 = λ s. (k : ℕ) → (d : Assigned) → k < length s.entries → (get_or s.entries k d).level ≤ c.args.level in
    subst P c.self.view_is
    (λ k d inside.
    let highest = last_highest (length c.self.inside.by_atom.items) es last c.self.invariant.order at k (get_or es k d) (slice_get-get_or es k d inside) in
    omega (arith, highest, c.if-last-level.true))

pub invariant_of-self : goal.invariant_of-self
invariant_of-self c =
    let es = c.pop.new.self.items in
    let by_atom = c.self.inside.by_atom.items in
    let e = c.in_ok-last.field-0.now in
    let t = e.literal.atom in
    let old = c.self.invariant in
    let n = c.atom.result in
    let at : n ≡ t = c.atom.ensures.atom in
    let items : c.self.inside.entries.items ≡ es ++ e ∷ [] = search rules in
    let order : EachBehind (IsNext (length by_atom)) (es ++ e ∷ []) = subst (λ (xs : List Assigned). EachBehind (IsNext (length by_atom)) xs) items old.order in
    let last : IsNext (length by_atom) es e = each_last (IsNext (length by_atom)) es e order in
    let within : t < length by_atom = last.within in
    let fresh : assigned es t ≡ None = last.fresh in
    let table : (u : ℕ) → slice_index_or by_atom u None ≡ assigned (es ++ e ∷ []) u =
    subst (λ (xs : List Assigned). (u : ℕ) → slice_index_or by_atom u None ≡ assigned xs u) items old.table in
    let long = length-set by_atom n None in
    let none : vacancy (get_or by_atom n None) ≡ 0 = ap vacancy (table n ∙ ap (assigned (es ++ e ∷ [])) at ∙ assigned_missing es (e ∷ []) t fresh ∙ assigned_one e t refl) in
    let more = sum_by-set vacancy by_atom n None None (subst (λ (a : ℕ). a < length by_atom) (sym at) within) in
    let count : length c.self.inside.entries.items ≡ length es + 1 = ap length items ∙ length_push es e in
    let values = c.self.inside.values.items in
    let opposite : c.code-2.result ≡ code_of (negated_lit e.literal) = c.code-2.ensures.code ∙ ap code_of c.not.ensures.negation in
    let written = slice_set (slice_set values c.code.result None) c.code-2.result None in
    let valued : (k : Lit) → slice_index_or values (code_of k) None ≡ value_on (es ++ e ∷ []) k =
    subst (λ (xs : List Assigned). (k : Lit) → slice_index_or values (code_of k) None ≡ value_on xs k) items old.valued in
    let size : length written ≡ 2 * length by_atom =
    values_long es e values c.code.result c.code-2.result c.code.ensures.code opposite (length by_atom) within old.long fresh None None in
    record {
      order = subst (λ (n : ℕ). EachBehind (IsNext n) es) (sym long) (each_front (IsNext (length by_atom)) es (e ∷ []) order);
      table = subst (λ (a : ℕ). (u : ℕ) → slice_index_or (slice_set by_atom a None) u None ≡ assigned es u) (sym at) (table_pop es e by_atom within fresh table);
      long = omega (arith, size, long);
      valued = values_pop es e values c.code.result c.code-2.result c.code.ensures.code opposite (length by_atom) within old.long fresh valued;
      vacant = omega (arith, old.vacant);
      room = omega (arith, old.room, c.pop.ensures.capacity);
    }
