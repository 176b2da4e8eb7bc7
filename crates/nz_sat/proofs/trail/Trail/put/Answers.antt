-- One more entry, in its place.
use Rattle.std.proofs.Common.{◌≡◌, ℕ, ◌<◌, ◌++◌, ◌∷◌, [], ◌+◌, ◌*◌, true, false, List, length, Some, None, get_or, ap, sym, subst, ◌∙◌, arith, rules, slice_set, slice_index_or}
use Rattle.std.proofs.lemmas.List.{length-set, length_push}
use Rattle.std.proofs.lemmas.List.Sums.{sum_by-set}
use Rattle.nz_sat.specs.declared.trail.Assigned.{Assigned}
use Rattle.nz_log.specs.declared.lits.Lit.{Lit}
use Rattle.nz_log.specs.Codes.{code_of}
use Rattle.nz_log.specs.Lits.{negated_lit}
use Rattle.nz_sat.specs.Stored.{vacancy, value_on}
use Rattle.nz_sat.specs.Trails.{EachBehind, IsNext, TrailState, assigned, depth}
use Rattle.nz_sat.proofs.LiteralValues.{values_put, values_long}
use Rattle.nz_sat.proofs.TrailEntries.{order_put, table_put}
use Rattle.nz_sat.proofs.trail.Trail.put.Goals as goal

pub invariant_of-self : goal.invariant_of-self
invariant_of-self c =
    let es = c.self.inside.entries.items in
    let by_atom = c.self.inside.by_atom.items in
    let e = c.args.entry in
    let t = e.literal.atom in
    let n = c.atom-atom.result in
    let at : n ≡ t = c.atom-atom.ensures.atom in
    let old = c.self.invariant in
    let new = slice_set by_atom n (Some e) in
    let items : c.push.new.self.items ≡ es ++ e ∷ [] = search rules in
    let within : t < length by_atom = subst (λ (s : TrailState). t < s.size) (sym c.self.view_is) c.requires.within in
    let fresh : assigned es t ≡ None = ap (λ (s : TrailState). assigned s.entries t) c.self.view_is ∙ c.requires.free in
    let level : e.level ≡ depth (es ++ e ∷ []) = c.requires.level ∙ ap (λ (s : TrailState). depth (s.entries ++ e ∷ [])) (sym c.self.view_is) in
    let long = length-set by_atom n (Some e) in
    let one : vacancy (get_or by_atom n None) ≡ 1 = ap vacancy (old.table n ∙ ap (assigned es) at ∙ fresh) in
    let less = sum_by-set vacancy by_atom n (Some e) None (subst (λ (a : ℕ). a < length by_atom) (sym at) within) in
    let count : length c.push.new.self.items ≡ length es + 1 = ap length items ∙ length_push es e in
    let values = c.self.inside.values.items in
    let opposite : c.code-opposite.result ≡ code_of (negated_lit e.literal) = c.code-opposite.ensures.code ∙ ap code_of c.not.ensures.negation in
    let written = slice_set (slice_set values c.code-code.result (Some true)) c.code-opposite.result (Some false) in
    let valued = values_put es e values c.code-code.result c.code-opposite.result c.code-code.ensures.code opposite (length by_atom) within old.long fresh old.valued in
    let size : length written ≡ 2 * length by_atom =
    values_long es e values c.code-code.result c.code-opposite.result c.code-code.ensures.code opposite (length by_atom) within old.long fresh (Some true) (Some false) in
    record {
      order = subst (λ (xs : List Assigned). EachBehind (IsNext (length new)) xs) (sym items)
          (subst (λ (n : ℕ). EachBehind (IsNext n) (es ++ e ∷ [])) (sym long)
          (order_put (length by_atom) es e old.order fresh within level));
      table = subst (λ (xs : List Assigned). (u : ℕ) → slice_index_or new u None ≡ assigned xs u) (sym items)
          (subst (λ (a : ℕ). (u : ℕ) → slice_index_or (slice_set by_atom a (Some e)) u None ≡ assigned (es ++ e ∷ []) u) (sym at) (table_put es e by_atom within fresh old.table));
      long = omega (arith, size, long);
      valued = subst (λ (xs : List Assigned). (k : Lit) → slice_index_or written (code_of k) None ≡ value_on xs k) (sym items) valued;
      vacant = omega (arith, old.vacant);
      room = omega (arith, old.room, c.push.ensures.capacity);
    }

pub returns-clause-order : goal.returns-clause-order
returns-clause-order c =
    let es = c.self.inside.entries.items in
    let by_atom = c.self.inside.by_atom.items in
    let e = c.args.entry in
    let t = e.literal.atom in
    let n = c.atom-atom.result in
    let new = slice_set by_atom n (Some e) in
    let items : c.push.new.self.items ≡ es ++ e ∷ [] = search rules in
    let within : t < length by_atom = subst (λ (s : TrailState). t < s.size) (sym c.self.view_is) c.requires.within in
    let fresh : assigned es t ≡ None = ap (λ (s : TrailState). assigned s.entries t) c.self.view_is ∙ c.requires.free in
    let level : e.level ≡ depth (es ++ e ∷ []) = c.requires.level ∙ ap (λ (s : TrailState). depth (s.entries ++ e ∷ [])) (sym c.self.view_is) in
    subst (λ (xs : List Assigned). EachBehind (IsNext (length new)) xs) (sym items)
    (subst (λ (n : ℕ). EachBehind (IsNext n) (es ++ e ∷ [])) (sym (length-set by_atom n (Some e)))
    (order_put (length by_atom) es e c.self.invariant.order fresh within level))
