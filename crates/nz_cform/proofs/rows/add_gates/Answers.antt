-- One clause after another.
use Rattle.std.proofs.Common.{◌≡◌, ℕ, ◌-◌, ◌<◌, List, [], ◌∷◌, ◌++◌, length, Some, refl, sym, ap, subst, ◌∙◌, append_assoc, arith, rules, slice_get, vec_len, Vec, Global}
use Rattle.std.proofs.lemmas.List.{append-nil, length-map}
use Rattle.std.proofs.lemmas.Option.{slice_get_within}
use Rattle.nz_term.specs.declared.term_lits.TermLit.{TermLit}
use Rattle.nz_rows.specs.GateRows.{gates_at, lists_of}
use Rattle.nz_log.specs.Logs.{Puts, gate_entry}
use Rattle.nz_log.specs.Sound.{IsLog}
use Rattle.nz_cform.specs.Covering.{AreNamed, HasRowsBelow}
use Rattle.nz_cform.proofs.TableClauses.{has_booleans, none_adding, not_put, one_adding, was_put}
use Rattle.nz_cform.proofs.RowsPut.{gate_more}
use Rattle.nz_cform.proofs.TableRows.{next_gate, nothing_left, one_longer}
use Rattle.nz_cform.proofs.rows.add_gates.Goals as goal
use Rattle.nz_cform.proofs.rows.add_gates.Goals.{After-gate, After-len}

-- the number of the row
number : (c : After-len) → c.len.result - c.len-from.result ≡ length c.loop-row.yielded
number c =
    let counted : c.len.result ≡ length c.loop-row.clauses.items = search rules in
    let told = c.loop-row.invariant.told in
    omega (arith, counted, told)

-- the rows before it, this one, and the others
left : (c : After-len) → lists_of (c.loop-row.yielded ++ c.in-Some.row ∷ c.next.new.self.rest.items) ≡ gates_at c.args.terms.now c.args.term
left c = ap (λ rest. lists_of (c.loop-row.yielded ++ rest)) (sym c.in-Some.ensures.steps.0) ∙ c.loop-row.invariant.left

-- the row is that of its number
row_is : (c : After-len) → slice_get (gates_at c.args.terms.now c.args.term) (c.len.result - c.len-from.result) ≡ Some c.in-Some.row.items
row_is c =
    let gates = gates_at c.args.terms.now c.args.term in
    ap (slice_get gates) (number c) ∙ ap (λ rows. slice_get rows (length c.loop-row.yielded)) (sym (left c)) ∙ next_gate c.loop-row.yielded c.in-Some.row c.next.new.self.rest.items

inside : (c : After-len) → c.len.result - c.len-from.result < length (gates_at c.args.terms.now c.args.term)
inside c = slice_get_within (gates_at c.args.terms.now c.args.term) (c.len.result - c.len-from.result) c.in-Some.row.items (row_is c)

-- the log stays in order
sound_here : (c : After-gate) → c.len.result - c.len-from.result < length (gates_at c.args.terms.now c.args.term)
    → (levels : List (List ℕ)) → IsLog c.args.terms.now levels c.loop-row.log → IsLog c.args.terms.now levels c.gate.new.self
sound_here c within levels order =
    c.gate.ensures.sound levels
    (has_booleans c.taken_terms_are_in_order.ensures.order c.gates_are_named.ensures.named c.args.terms.now c.known_table.ensures.table c.args.term (c.len.result - c.len-from.result)
    c.requires.within c.requires.taken within)
    order

pub loop-row-init : goal.loop-row-init
loop-row-init c =
    let given = c.into_iter-row-iterator.ensures.into_iter_gives in
    let made = c.in_ok-rows.rows in
    let counted : vec_len made ≡ length made.items = search rules in
    record {
      next = tt;
      finite = tt;
      left = ap lists_of given.0 ∙ c.in_ok-rows.ensures.rows;
      long = given.1 ∙ counted ∙ sym (ap length given.0);
      told = let from : c.len-from.result ≡ length c.args.clauses.now.items = search rules in omega (arith, from);
      adding = none_adding c.args.terms.now c.args.term c.args.log.now c.args.clauses.now.items;
      rows = λ s has. has;
    }

pub gate-requires-clause-row : goal.gate-requires-clause-row
gate-requires-clause-row c = row_is (goal.at.gate-requires-clause-row c).After-len

pub returns-in_err-clause-clause-goes : goal.returns-in_err-clause-clause-goes
returns-in_err-clause-clause-goes c =
    not_put c.args.terms.now c.args.term c.args.log.now c.args.clauses.now.items c.loop-row.log c.loop-row.clauses.items c.loop-row.invariant.adding c.gate.new.self
    (sound_here (goal.at.returns-in_err-clause-clause-goes c).After-gate (inside (goal.at.returns-in_err-clause-clause-goes c).After-len)) c.in_err-clause.ensures.unchanged

pub returns-in_err-push-clause-goes : goal.returns-in_err-push-clause-goes
returns-in_err-push-clause-goes c =
    was_put c.args.terms.now c.args.term c.args.log.now c.args.clauses.now.items c.loop-row.log c.loop-row.clauses.items c.loop-row.invariant.adding c.gate.new.self
    (sound_here (goal.at.returns-in_err-push-clause-goes c).After-gate (inside (goal.at.returns-in_err-push-clause-goes c).After-len)) c.in_ok-clause.clause
    (gate_entry c.args.terms.now c.gate.new.self c.args.term (c.len.result - c.len-from.result)) c.in_ok-clause.ensures.made

pub loop-row-preserved : goal.loop-row-preserved
loop-row-preserved c =
    let ns = c.args.terms.now in
    let t = c.args.term in
    let at = goal.at.loop-row-preserved c in
    let here = at.After-len in
    let old = c.loop-row.log in
    let new = c.gate.new.self in
    let id = c.in_ok-clause.clause in
    let j = c.len.result - c.len-from.result in
    let xs = c.loop-row.yielded in
    let x = c.in-Some.row in
    let ys = c.next.new.self.rest.items in
    let k = length xs in
    let steps = c.in-Some.ensures.steps in
    let made = c.in_ok-clause.ensures.made in
    let before = c.loop-row.invariant in
    let puts = subst (λ (i : ℕ). Puts old id (gate_entry ns new t i) new) (number here) made in
    let named = subst (λ (i : ℕ). AreNamed ns new.atoms t i) (number here) c.in_ok-clause.ensures.there in
    let within = subst (λ (i : ℕ). i < length (gates_at ns t)) (number here) (inside here) in
    record {
      next = tt;
      finite = tt;
      left = ap lists_of (append_assoc xs (x ∷ []) ys) ∙ left here;
      long =
          let fewer = steps.1 in
          let counted = before.long in
          let all = ap length steps.0 in
          omega (arith, fewer, counted, all);
      told =
          let told = before.told in
          let longer = ap length c.in_ok-push.ensures.items ∙ one_longer c.loop-row.clauses.items id in
          let yielded = one_longer xs x in
          omega (arith, told, longer, yielded);
      adding = one_adding ns t c.args.log.now c.args.clauses.now.items old c.loop-row.clauses.items before.adding new
          (sound_here at.After-gate (inside here)) id (gate_entry ns new t j) made refl c.push.new.self.items c.in_ok-push.ensures.items;
      rows = λ s has.
          subst (λ (n : ℕ). HasRowsBelow ns new s t n 0 0) (sym (one_longer xs x))
          (gate_more c.levels_reach.ensures.reach c.tells_lits.ensures.tells c.atoms_of_terms.ensures.atoms ns old new s t k id puts named within (before.rows s has));
    }

pub returns-clause-rows : goal.returns-clause-rows
returns-clause-rows c s has =
    let ns = c.args.terms.now in
    let t = c.args.term in
    let xs = c.loop-row.yielded in
    let none = nothing_left c.loop-row.row-iterator.rest.items (sym c.loop-row.invariant.long ∙ c.in-None.ensures.steps.0) in
    let whole = ap lists_of (sym (append-nil xs) ∙ ap (λ rest. xs ++ rest) (sym none)) ∙ c.loop-row.invariant.left in
    let all : length xs ≡ length (gates_at ns t) = sym (length-map xs (λ (v : Vec TermLit Global). v.items)) ∙ ap length whole in
    subst (λ (n : ℕ). HasRowsBelow ns c.loop-row.log s t n 0 0) all (c.loop-row.invariant.rows s has)
