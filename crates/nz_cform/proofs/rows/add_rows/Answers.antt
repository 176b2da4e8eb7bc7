-- One clause after another.
use Rattle.std.proofs.Common.{◌≡◌, ℕ, ◌-◌, List, [], ◌∷◌, ◌++◌, length, sym, ap, subst, ◌∙◌, append_assoc, arith, rules, vec_len, append-nil}
use Rattle.nz_spec.specs.terms.Table.{term_in}
use Rattle.nz_rows.specs.Rows.{AreRowsOf, IsRowAt}
use Rattle.nz_log.specs.Logs.{PutsAxiom, axiom_entry}
use Rattle.nz_log.specs.Sound.{IsLog}
use Rattle.nz_cform.specs.Covering.{HasRowsOf, table_axiom, table_rows}
use Rattle.nz_cform.proofs.TableClauses.{none_adding, not_put, one_adding, was_put}
use Rattle.nz_cform.proofs.RowsPut.{row_more}
use Rattle.nz_cform.proofs.RowClauses.{row_of}
use Rattle.nz_cform.proofs.TableRows.{all_rows, count_rows, next_row, nothing_left, one_longer, row_stops, table_fits}
use Rattle.nz_cform.proofs.rows.add_rows.Goals as goal
use Rattle.nz_cform.proofs.rows.add_rows.Goals.{After-put_row, After-len}

-- the number of the row
number : (c : After-len) → c.len.result - c.len-from.result ≡ length c.loop-row.yielded
number c =
    let counted : c.len.result ≡ length c.loop-row.clauses.items = search rules in
    let told = c.loop-row.invariant.told in
    omega (arith, counted, told)

-- the rows before it, this one, and the others
left : (c : After-len) → AreRowsOf c.args.terms.now (table_rows c.args.table c.args.terms.now (term_in c.args.terms.now c.args.term)) (c.loop-row.yielded ++ c.in-Some.row ∷ c.next.new.self.rest.items)
left c =
    let ns = c.args.terms.now in
    subst (λ rest. AreRowsOf ns (table_rows c.args.table ns (term_in ns c.args.term)) (c.loop-row.yielded ++ rest)) c.in-Some.ensures.steps.0 c.loop-row.invariant.left

-- the log stays in order
sound_here : (c : After-put_row) → (levels : List (List ℕ)) → IsLog c.args.terms.now levels c.loop-row.log → IsLog c.args.terms.now levels c.put_row.new.log
sound_here c levels order =
    c.put_row.ensures.sound levels (c.taken_terms_are_in_order.ensures.order.arithmetic (term_in c.args.terms.now c.args.term) c.requires.taken) order

pub returns-in-Err-clause-stop : goal.returns-in-Err-clause-stop
returns-in-Err-clause-stop c = row_stops c.args.terms.now c.args.term c.requires.within c.args.table c.in-Err.stop c.of.result c.in-Err.ensures.rows c.of.ensures.stop

pub returns-clause-fits : goal.returns-clause-fits
returns-clause-fits c = table_fits c.args.table c.args.terms.now (term_in c.args.terms.now c.args.term) c.in-Ok.rows.items c.in-Ok.ensures.rows

pub loop-row-init : goal.loop-row-init
loop-row-init c =
    let ns = c.args.terms.now in
    let given = c.into_iter-row-iterator.ensures.into_iter_gives in
    let counted : vec_len c.in-Ok.rows ≡ length c.in-Ok.rows.items = search rules in
    record {
      next = tt;
      finite = tt;
      left = subst (AreRowsOf ns (table_rows c.args.table ns (term_in ns c.args.term))) (sym given.0) c.in-Ok.ensures.rows;
      long = given.1 ∙ counted ∙ sym (ap length given.0);
      told = let from : c.len-from.result ≡ length c.args.clauses.now.items = search rules in omega (arith, from);
      adding = none_adding ns c.args.term c.args.log.now c.args.clauses.now.items;
      rows = λ s gates links has. has;
    }

pub put_row-requires-clause-row : goal.put_row-requires-clause-row
put_row-requires-clause-row c =
    let ns = c.args.terms.now in
    let here = (goal.at.put_row-requires-clause-row c).After-len in
    let rows = table_rows c.args.table ns (term_in ns c.args.term) in
    subst (λ j. IsRowAt ns rows j c.in-Some.row.items) (sym (number here)) (next_row ns rows c.loop-row.yielded c.in-Some.row c.next.new.self.rest.items (left here))

pub returns-in_err-clause-clause-goes : goal.returns-in_err-clause-clause-goes
returns-in_err-clause-clause-goes c =
    not_put c.args.terms.now c.args.term c.args.log.now c.args.clauses.now.items c.loop-row.log c.loop-row.clauses.items c.loop-row.invariant.adding c.put_row.new.log
    (sound_here (goal.at.returns-in_err-clause-clause-goes c).After-put_row) c.in_err-clause.ensures.unchanged

pub returns-in_err-push-clause-goes : goal.returns-in_err-push-clause-goes
returns-in_err-push-clause-goes c =
    was_put c.args.terms.now c.args.term c.args.log.now c.args.clauses.now.items c.loop-row.log c.loop-row.clauses.items c.loop-row.invariant.adding c.put_row.new.log
    (sound_here (goal.at.returns-in_err-push-clause-goes c).After-put_row) c.in_ok-clause.clause
    (axiom_entry c.put_row.new.log (table_axiom c.args.table c.args.term (c.len.result - c.len-from.result)) c.in_ok-clause.ensures.made.literals) c.in_ok-clause.ensures.made.puts

pub loop-row-preserved : goal.loop-row-preserved
loop-row-preserved c =
    let ns = c.args.terms.now in
    let t = c.args.term in
    let at = goal.at.loop-row-preserved c in
    let old = c.loop-row.log in
    let new = c.put_row.new.log in
    let id = c.in_ok-clause.clause in
    let xs = c.loop-row.yielded in
    let x = c.in-Some.row in
    let ys = c.next.new.self.rest.items in
    let steps = c.in-Some.ensures.steps in
    let made = c.in_ok-clause.ensures.made in
    let before = c.loop-row.invariant in
    let one = c.one_number.ensures.one ns c.known_table.ensures.table in
    let puts = subst (λ (j : ℕ). PutsAxiom ns old id (table_axiom c.args.table t j) new) (number at.After-len) made in
    record {
      next = tt;
      finite = tt;
      left = subst (AreRowsOf ns (table_rows c.args.table ns (term_in ns t))) (sym (append_assoc xs (x ∷ []) ys)) (left at.After-len);
      long =
          let fewer = steps.1 in
          let counted = before.long in
          let all = ap length steps.0 in
          omega (arith, fewer, counted, all);
      told =
          let told = before.told in
          let longer = ap length c.in_ok-push.ensures.items ∙ one_longer c.loop-row.clauses.items id in
          let yielded = one_longer xs x in
          omega (arith, told, longer, yielded);
      adding = one_adding ns t c.args.log.now c.args.clauses.now.items old c.loop-row.clauses.items before.adding new
          (sound_here at.After-put_row) id (axiom_entry new (table_axiom c.args.table t (c.len.result - c.len-from.result)) made.literals) made.puts (row_of c.args.table t (c.len.result - c.len-from.result)) c.push.new.self.items c.in_ok-push.ensures.items;
      rows = λ s gates links has.
          subst (λ (n : ℕ). HasRowsOf c.args.table ns new s t gates links n) (sym (one_longer xs x))
          (row_more c.levels_reach.ensures.reach c.atoms_of_terms.ensures.atoms c.tells_literals.ensures.tells c.tells_terms.ensures.tells c.units_are_parts.ensures.parts ns one old new s t id
          c.requires.within c.requires.taken c.args.table gates links (length xs) puts (before.rows s gates links has));
    }

pub returns-clause-rows : goal.returns-clause-rows
returns-clause-rows c s gates links has =
    let ns = c.args.terms.now in
    let t = c.args.term in
    let xs = c.loop-row.yielded in
    let rows = table_rows c.args.table ns (term_in ns t) in
    let none = nothing_left c.loop-row.row-iterator.rest.items (sym c.loop-row.invariant.long ∙ c.in-None.ensures.steps.0) in
    let whole = subst (AreRowsOf ns rows) (ap (λ rest. xs ++ rest) none ∙ append-nil xs) c.loop-row.invariant.left in
    subst (λ (n : ℕ). HasRowsOf c.args.table ns c.loop-row.log s t gates links n) (all_rows ns rows xs whole ∙ count_rows ns c.args.table (term_in ns t)) (c.loop-row.invariant.rows s gates links has)
