-- One atom more.
use Rattle.std.proofs.Common.{◌≡◌, ℕ, ◌++◌, ◌∷◌, [], true, List, length, None, ap, subst, sym, ◌∙◌, rules, slice_index_or}
use Rattle.nz_sat.specs.Numbers.{IsNumbered, number_or}
use Rattle.nz_sat.proofs.AtomNumbers.{numbered_push}
use Rattle.nz_sat.proofs.atoms.Atoms.name.Goals as goal

pub invariant_of-self-2 : goal.invariant_of-self-2
invariant_of-self-2 c =
    let us = c.self.inside.ids.items in
    let old = c.self.inside.numbers.items in
    let new = c.give.new.numbers.items in
    let t = c.args.atom in
    let items : c.push.new.self.items ≡ us ++ t ∷ [] = search rules in
    let long : c.len.result ≡ length us = search rules in
    let here : slice_index_or new t None ≡ number_or (slice_index_or old t None) true (length us) =
    c.in_ok-give.ensures.given ∙ ap (number_or (slice_index_or old t None) true) long in
    subst (λ (xs : List ℕ). IsNumbered xs new) (sym items) (numbered_push us t old new c.self.invariant here c.in_ok-give.ensures.others)
