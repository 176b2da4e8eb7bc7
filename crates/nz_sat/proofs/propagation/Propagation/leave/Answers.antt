-- The clause goes out of one list, and then out of the other.
use Rattle.std.proofs.Common.{◌≡◌, ◌<◌, ℕ, inr, List, refl, sym, subst, ◌∙◌}
use Rattle.nz_log.specs.Codes.{code_of}
use Rattle.nz_sat.specs.declared.watches.Watch.{Watch}
use Rattle.nz_sat.specs.Lists.{HasKey, LeavesKey, list_of}
use Rattle.nz_sat.specs.Watched.{held_at}
use Rattle.nz_sat.proofs.Departures.{has_lists, left_listed}
use Rattle.nz_sat.proofs.LiteralNumbers.{other_code}
use Rattle.nz_sat.proofs.propagation.Propagation.leave.Goals as goal

pub leave-requires-clause-within : goal.leave-requires-clause-within
leave-requires-clause-within c = (has_lists c.args.self.now c.requires.listed c.args.key c.remove-clause.result c.remove-clause.ensures.value).0

pub leave-requires-2-clause-within : goal.leave-requires-2-clause-within
leave-requires-2-clause-within c =
    let fits = (has_lists c.args.self.now c.requires.listed c.args.key c.remove-clause.result c.remove-clause.ensures.value).1 in
    subst (λ (n : ℕ). code_of c.remove-clause.result.second < n) (sym c.leave.ensures.size) fits

pub leave-requires-2-clause-there : goal.leave-requires-2-clause-there
leave-requires-2-clause-there c =
    let h = c.remove-clause.result in
    let differ = (has_lists c.args.self.now c.requires.listed c.args.key h c.remove-clause.ensures.value).2 in
    subst (HasKey c.args.key) (sym (c.leave.ensures.others (code_of h.second) (other_code h.second h.first (λ e. differ (sym e)))))
    (c.requires.listed.listed.covered c.args.key h c.remove-clause.ensures.value h.second (inr refl))

pub returns-clause-listed : goal.returns-clause-listed
returns-clause-listed c s size w =
    let p = c.args.self.now in
    let h = c.remove-clause.result in
    let key = c.args.key in
    let here = c.remove-clause.ensures.value in
    let gone = c.remove-clause.ensures.updates in
    let y = c.leave.new.self in
    let z = c.leave-2.new.self in
    let differ = (w.clauses key h here).differ in
    let own : list_of z h.first ≡ list_of y h.first = c.leave-2.ensures.others (code_of h.first) (other_code h.first h.second differ) in
    let was : list_of y h.second ≡ list_of p.watches h.second = c.leave.ensures.others (code_of h.second) (other_code h.second h.first (λ e. differ (sym e))) in
    left_listed s size (held_at p) (held_at (record { watches = z; clauses = c.remove-clause.new.self; lone = p.lone; head = p.head })) (list_of p.watches) (list_of z) w key h here
    gone.changed gone.others (subst (LeavesKey key (list_of p.watches h.first)) (sym own) c.leave.ensures.left)
    (subst (λ (list : List Watch). LeavesKey key list (list_of z h.second)) was c.leave-2.ensures.left)
    (λ m away far. c.leave-2.ensures.others (code_of m) (other_code m h.second far) ∙ c.leave.ensures.others (code_of m) (other_code m h.first away))
