-- One part more.
use Rattle.std.proofs.Common.{◌≡◌, ◌+◌, ◌<◌, List, ◌∷◌, length, drop, sym, subst, arith}
use Rattle.std.proofs.lemmas.List.{drop_all}
use Rattle.std.proofs.lemmas.List.Elements.{All-from_recursion}
use Rattle.nz_lists.proofs.Places.{drop_read}
use Rattle.nz_spec.specs.numbers.Computation.{at_once, IsSame}
use Rattle.nz_spec.specs.terms.Form.{parts_joined}
use Rattle.nz_spec.specs.terms.FormOf.{number_in}
use Rattle.nz_lin.specs.declared.form.Part.{Part}
use Rattle.nz_lin.specs.Comes.{Comes, arithmetic_of}
use Rattle.nz_lin.specs.Forms.{NamesUnit, part_over, parts_over}
use Rattle.nz_lin.proofs.FormAddition.{join_more, join_stop}
use Rattle.nz_lin.proofs.ComputationSequences.{at_once_done, handed_on, same_done}
use Rattle.nz_lin.proofs.form.join_parts.Goals as goal

pub returns-in_err-join_part-clause-joined : goal.returns-in_err-join_part-clause-joined
returns-in_err-join_part-clause-joined c ns table units others =
    let qs = c.args.others.now in
    let i = c.loop-other.other-index in
    let q = c.other-item.result in
    let now = c.loop-other.parts.items in
    let n = number_in ns in
    let op = arithmetic_of c.args.sign in
    let rest = drop (i + 1) qs in
    let whole = parts_joined n op (parts_over ns c.args.parts.now.items) (parts_over ns qs) in
    let inside : i < length qs = omega arith in
    let left : drop i qs ≡ q ∷ rest = drop_read qs i q inside c.other-item.is in
    let named : NamesUnit ns q = subst (NamesUnit ns) (sym c.other-item.is) (All-from_recursion (NamesUnit ns) qs others.names i q inside) in
    handed_on (λ r. Comes whole (parts_over ns c.join_part.new.parts.items) r) c.from_residual.result c.in_err-join_part.field-0.0 c.from_residual.ensures.1
    (join_stop n op (parts_over ns now) (part_over ns q) (parts_over ns rest) whole
    (subst (λ (l : List Part). IsSame (parts_joined n op (parts_over ns now) (parts_over ns l)) whole) left (c.loop-other.invariant.joined ns table units others)) _
    (c.in_err-join_part.ensures.joined ns table (c.loop-other.invariant.units ns units others) named))

pub loop-other-preserved : goal.loop-other-preserved
loop-other-preserved c =
    let qs = c.args.others.now in
    let i = c.loop-other.other-index in
    let q = c.other-item.result in
    let now = c.loop-other.parts.items in
    let op = arithmetic_of c.args.sign in
    let rest = drop (i + 1) qs in
    let inside : i < length qs = omega arith in
    let left : drop i qs ≡ q ∷ rest = drop_read qs i q inside c.other-item.is in
    record {
      joined = λ ns table units others.
          let n = number_in ns in
          let whole = parts_joined n op (parts_over ns c.args.parts.now.items) (parts_over ns qs) in
          let named : NamesUnit ns q = subst (NamesUnit ns) (sym c.other-item.is) (All-from_recursion (NamesUnit ns) qs others.names i q inside) in
          join_more n op (parts_over ns now) (part_over ns q) (parts_over ns rest) whole
          (subst (λ (l : List Part). IsSame (parts_joined n op (parts_over ns now) (parts_over ns l)) whole) left (c.loop-other.invariant.joined ns table units others))
          (parts_over ns c.join_part.new.parts.items) (c.in_ok-join_part.ensures.joined ns table (c.loop-other.invariant.units ns units others) named);
      units = λ ns units others.
          let named : NamesUnit ns q = subst (NamesUnit ns) (sym c.other-item.is) (All-from_recursion (NamesUnit ns) qs others.names i q inside) in
          c.in_ok-join_part.ensures.units ns (c.loop-other.invariant.units ns units others) named;
    }

pub returns-clause-joined : goal.returns-clause-joined
returns-clause-joined c ns table units others =
    let qs = c.args.others.now in
    let now = c.loop-other.parts.items in
    let n = number_in ns in
    let op = arithmetic_of c.args.sign in
    let whole = parts_joined n op (parts_over ns c.args.parts.now.items) (parts_over ns qs) in
    same_done (at_once (parts_over ns now)) whole (parts_over ns now)
    (subst (λ (l : List Part). IsSame (parts_joined n op (parts_over ns now) (parts_over ns l)) whole) (drop_all c.loop-other.other-index qs (omega arith)) (c.loop-other.invariant.joined ns table units others))
    (at_once_done (parts_over ns now))
