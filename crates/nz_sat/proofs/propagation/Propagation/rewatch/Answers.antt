-- Another literal of the clause is watched.
use Rattle.std.proofs.Common.{◌≡◌, ◌≢◌, ◌<◌, ℕ, List, [], ◌∷◌, ◌++◌, Option, Some, length, refl, sym, ap, subst, ◌∙◌}
use Rattle.std.specs.Prelude.{IsSome}
use Rattle.std.proofs.lemmas.Option.{same_Some, slice_get_within}
use Rattle.slab.specs.Slab.{get}
use Rattle.nz_sat.specs.declared.clauses.WatchedClause.{WatchedClause}
use Rattle.nz_sat.specs.declared.watches.Watch.{Watch}
use Rattle.nz_sat.specs.Clauses.{with_watch}
use Rattle.nz_log.specs.Codes.{code_of}
use Rattle.nz_sat.specs.Lists.{TakesOut, list_of}
use Rattle.nz_sat.specs.Watched.{held_at, watch_state}
use Rattle.nz_sat.proofs.LiteralNumbers.{other_code}
use Rattle.nz_sat.proofs.Rewatching.{all_rewatched, hold_same, literal_fits, next_fits, next_fresh}
use Rattle.nz_sat.proofs.propagation.Propagation.rewatch.Goals as goal
use Rattle.nz_sat.proofs.propagation.Propagation.rewatch.Goals.{After-at-key, After-replace, After-put}

pub reserve-requires : goal.reserve-requires
reserve-requires c =
    let m = c.requires.moves in
    record { within = next_fits c.args.log.now (watch_state c.args.self.now c.args.trail.now) c.requires.watched c.args.literal c.args.next c.args.other c.args.i m }

pub put-requires-clause-within : goal.put-requires-clause-within
put-requires-clause-within c =
    let m = c.requires.moves in
    let fits = next_fits c.args.log.now (watch_state c.args.self.now c.args.trail.now) c.requires.watched c.args.literal c.args.next c.args.other c.args.i m in
    subst (λ (n : ℕ). code_of c.args.next < n) (sym c.reserve.ensures.size) fits

pub remove-requires-clause-within : goal.remove-requires-clause-within
remove-requires-clause-within c =
    let m = c.requires.moves in
    let fits = literal_fits c.args.log.now (watch_state c.args.self.now c.args.trail.now) c.requires.watched c.args.literal c.args.next c.args.other c.args.i m in
    subst (λ (n : ℕ). code_of c.args.literal < n) (sym (c.put.ensures.size ∙ c.reserve.ensures.size)) fits

-- the list of the literal is as it was
list_put : (c : After-put) → list_of c.put.new.self c.args.literal ≡ list_of c.args.self.now.watches c.args.literal
list_put c =
    let m = c.requires.moves in
    let fresh = next_fresh c.args.log.now (watch_state c.args.self.now c.args.trail.now) c.requires.watched c.args.literal c.args.next c.args.other c.args.i m c.requires.falls in
    c.put.ensures.others (code_of c.args.literal) (other_code c.args.literal c.args.next (λ e. fresh (sym e))) ∙ c.reserve.ensures.same (code_of c.args.literal)

pub remove-requires-clause-inside : goal.remove-requires-clause-inside
remove-requires-clause-inside c =
    let m = c.requires.moves in
    let list = list_of c.args.self.now.watches c.args.literal in
    subst (λ (list : List Watch). c.args.i < length list) (sym (list_put (goal.at.remove-requires-clause-inside c).After-put)) (slice_get_within list c.args.i m.watch m.at)

key_is : (c : After-at-key) → c.at-key.result.key ≡ c.requires.moves.watch.key
key_is c = ap (λ (w : Watch). w.key) (same_Some c.at-key.result c.requires.moves.watch (sym c.at-key.ensures.watch ∙ c.requires.moves.at))

-- the clause of the key
here : (c : After-at-key) → held_at c.args.self.now c.at-key.result.key ≡ Some c.requires.moves.clause
here c = ap (held_at c.args.self.now) (key_is c) ∙ c.requires.moves.held

pub index-requires : goal.index-requires
index-requires c = subst IsSome (sym (here (goal.at.index-requires c).After-at-key)) refl

pub replace-requires : goal.replace-requires
replace-requires c = record { there = subst IsSome (sym (here (goal.at.replace-requires c).After-at-key)) refl }

-- the clauses, of which one has another watch
abbrev held_now : After-replace → ℕ → Option WatchedClause
held_now c = get c.replace.new.clauses

changed : (c : After-replace) → c.at-key.result.key ≡ c.requires.moves.watch.key → held_at c.args.self.now c.at-key.result.key ≡ Some c.requires.moves.clause
    → held_now c c.requires.moves.watch.key ≡ Some (with_watch c.requires.moves.clause c.args.literal c.args.next)
changed c same at =
    let is : c.index.result.now ≡ c.requires.moves.clause = same_Some c.index.result.now c.requires.moves.clause (sym c.index.ensures ∙ at) in
    ap (held_now c) (sym same) ∙ c.replace.ensures.updates.changed
    ∙ ap Some (c.with-clause.ensures.watched ∙ ap (λ (h : WatchedClause). with_watch h c.args.literal c.args.next) is)

others : (c : After-replace) → c.at-key.result.key ≡ c.requires.moves.watch.key → (k : ℕ) → k ≢ c.requires.moves.watch.key → held_now c k ≡ held_at c.args.self.now k
others c same k other = c.replace.ensures.updates.others k (λ e. other (e ∙ same))

taken : (c : After-replace) → list_of c.put.new.self c.args.literal ≡ list_of c.args.self.now.watches c.args.literal
    → TakesOut c.args.i (list_of c.args.self.now.watches c.args.literal) (list_of c.remove.new.self c.args.literal)
taken c same = subst (λ (list : List Watch). TakesOut c.args.i list (list_of c.remove.new.self c.args.literal)) same c.remove.ensures.removed

pub returns-clause-watched : goal.returns-clause-watched
returns-clause-watched c =
    let s = c.args.log.now in
    let old = watch_state c.args.self.now c.args.trail.now in
    let w = c.requires.watched in
    let l = c.args.literal in
    let next = c.args.next in
    let m = c.requires.moves in
    let at = goal.at.returns-clause-watched c in
    let d = at.After-replace in
    let key = key_is at.After-at-key in
    let fresh : next ≢ l = next_fresh s old w l next c.args.other c.args.i m c.requires.falls in
    let put : list_of c.remove.new.self next ≡ list_of c.args.self.now.watches next ++ c.watch.result ∷ [] =
    c.remove.ensures.others (code_of next) (other_code next l fresh) ∙ c.put.ensures.put
    ∙ ap (λ (list : List Watch). list ++ c.watch.result ∷ []) (c.reserve.ensures.same (code_of next)) in
    all_rewatched s old w l next c.args.other c.args.i m (held_now d) (changed d key (here at.After-at-key)) (others d key) (list_of c.remove.new.self) (length c.remove.new.self.lists.items)
    c.requires.order c.requires.falls c.watch.result (ap (λ (x : Watch). x.key) c.watch.ensures.watch ∙ key)
    (ap (λ (x : Watch). x.blocker) c.watch.ensures.watch) (ap (λ (x : Watch). x.is_short) c.watch.ensures.watch) (taken d (list_put at.After-put)) put
    (λ n away far. c.remove.ensures.others (code_of n) (other_code n l away) ∙ c.put.ensures.others (code_of n) (other_code n next far) ∙ c.reserve.ensures.same (code_of n))
    (c.remove.ensures.size ∙ c.put.ensures.size ∙ c.reserve.ensures.size)

pub returns-clause-keeps : goal.returns-clause-keeps
returns-clause-keeps c =
    let at = goal.at.returns-clause-keeps c in
    let d = at.After-replace in
    let key = key_is at.After-at-key in
    record {
      watched = hold_same c.args.log.now (watch_state c.args.self.now c.args.trail.now) c.requires.watched c.args.literal c.args.next c.args.other c.args.i c.requires.moves
          (held_now d) (changed d key (here at.After-at-key)) (others d key);
      lone = refl;
      room = c.remove.ensures.size ∙ c.put.ensures.size ∙ c.reserve.ensures.size;
    }

pub returns-clause-list : goal.returns-clause-list
returns-clause-list c = let at = goal.at.returns-clause-list c in taken at.After-replace (list_put at.After-put)
