use Rattle.std.proofs.Common.{rules, ◌≡◌, ◌==◌, ◌∷◌, ◌++◌, [], ℕ, List, length, sym, ◌∙◌, subst, if◌then◌else◌}
use Rattle.std.specs.Prelude.{Some, slice_get, slice_index_or}
use Rattle.nz_reals.specs.declared.atoms.BoundedAtom.{BoundedAtom}
use Rattle.nz_reals.specs.Stored.{AreInPlace}
use Rattle.nz_reals.proofs.KnownPlaces.{in_place_more, same_known}
use Rattle.nz_reals.proofs.atoms.put_at.Goals as goal

pub returns-in_err-put_place-clause-placed : goal.returns-in_err-put_place-clause-placed
returns-in_err-put_place-clause-placed c = λ are.
    let es = c.args.entries.now.items in
    let old = c.args.places.now.items in
    let new = c.put_place.new.places.items in
    let place : c.len-place.result ≡ length es = search rules in
    subst (λ (xs : List BoundedAtom). AreInPlace xs new) (sym c.in_ok-reserve.ensures.items)
    (λ i. same_known es old new i (subst (λ (n : ℕ). slice_index_or new i n ≡ slice_index_or old i n) place (c.in_err-put_place.ensures.others i)) ∙ are i)

pub returns-clause-placed : goal.returns-clause-placed
returns-clause-placed c = λ are.
    let es = c.args.entries.now.items in
    let old = c.args.places.now.items in
    let new = c.put_place.new.places.items in
    let e : BoundedAtom = record { atom = c.args.atom; bounded = c.args.bounded } in
    let place : c.len-place.result ≡ length es = search rules in
    let items : c.push.new.self.items ≡ es ++ e ∷ [] = search rules in
    subst (λ (xs : List BoundedAtom). AreInPlace xs new) (sym items)
    (in_place_more es old new e (subst (λ (n : ℕ). slice_get new e.atom ≡ Some n) place c.in_ok-put_place.ensures.there)
    (subst (λ (n : ℕ). (j : ℕ) → slice_index_or new j n ≡ (if j == e.atom then n else slice_index_or old j n)) place c.in_ok-put_place.ensures.put) are)
