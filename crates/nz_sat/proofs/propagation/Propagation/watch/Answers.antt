-- The watch of each of the two literals.
use Rattle.std.proofs.Common.{◌≡◌, true, List, [], ◌∷◌, ◌++◌, length, refl, sym, ap, ◌∙◌, rules}
use Rattle.nz_log.specs.declared.lits.Lit.{Lit}
use Rattle.nz_log.specs.Logs.{literals_at}
use Rattle.nz_sat.specs.declared.clauses.WatchedClause.{WatchedClause}
use Rattle.nz_sat.specs.declared.watches.Watch.{Watch}
use Rattle.nz_log.specs.Codes.{code_of}
use Rattle.nz_sat.specs.Clauses.{watched_as}
use Rattle.nz_sat.specs.Lists.{list_of}
use Rattle.nz_sat.proofs.Holding.{held_watched, puts_reserved}
use Rattle.nz_sat.proofs.LiteralNumbers.{other_code}
use Rattle.nz_sat.proofs.propagation.Propagation.watch.Goals as goal

pub returns-clause-watched : goal.returns-clause-watched
returns-clause-watched c t w may =
    let log = c.args.log.now in
    let p = c.args.self.now in
    let l = c.args.first in
    let m = c.args.second in
    let h : WatchedClause = watched_as c.args.held (l, m) in
    let key = p.clauses.vacant_key in
    let x = c.reserve-3.new.self in
    let y = c.put.new.self in
    let z = c.put-2.new.self in
    let short = c.watch.result.is_short in
    let was : (n : Lit) → list_of x n ≡ list_of p.watches n = λ n. c.reserve-3.ensures.same (code_of n) ∙ c.reserve-2.ensures.same (code_of n) in
    let size : length z.lists.items ≡ length p.watches.lists.items = search rules in
    let long : short ≡ true → length (literals_at log c.args.held.id) ≡ 2 = λ is. search rules in
    let first : c.watch.result ≡ record { key = key; blocker = m; is_short = short } = search rules in
    let second : c.watch-2.result ≡ record { key = key; blocker = l; is_short = short } = search rules in
    held_watched log p (record { watches = z; clauses = c.insert_reserved.new.self; lone = p.lone; head = p.head }) t h short key
    (puts_reserved p.clauses c.reserve.new.self c.insert_reserved.new.self c.insert_reserved.result c.of.result h c.reserve.ensures.rest_kept c.insert_reserved.ensures.key
    c.insert_reserved.ensures.was_vacant c.insert_reserved.ensures.updates c.of.ensures.clause) refl refl size long
    (c.put-2.ensures.others (code_of l) (other_code l m c.requires.differ) ∙ c.put.ensures.put ∙ ap (λ (ws : List Watch). ws ++ c.watch.result ∷ []) (was l) ∙ ap (λ (v : Watch). list_of p.watches l ++ v ∷ []) first)
    (c.put-2.ensures.put ∙ ap (λ (ws : List Watch). ws ++ c.watch-2.result ∷ []) (c.put.ensures.others (code_of m) (other_code m l (λ e. c.requires.differ (sym e))) ∙ was m) ∙ ap (λ (v : Watch). list_of p.watches m ++ v ∷ []) second)
    (λ n no far. c.put-2.ensures.others (code_of n) (other_code n m far) ∙ c.put.ensures.others (code_of n) (other_code n l no) ∙ was n)
    w may

pub returns-clause-puts : goal.returns-clause-puts
returns-clause-puts c =
    let p = c.args.self.now in
    puts_reserved p.clauses c.reserve.new.self c.insert_reserved.new.self c.insert_reserved.result c.of.result (watched_as c.args.held (c.args.first, c.args.second)) c.reserve.ensures.rest_kept
    c.insert_reserved.ensures.key c.insert_reserved.ensures.was_vacant c.insert_reserved.ensures.updates c.of.ensures.clause
