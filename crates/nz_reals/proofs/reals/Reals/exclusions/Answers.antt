use Rattle.std.proofs.Common.{◌≡◌, ◌+◌, ◌-◌, ◌≤◌, ◌<◌, ◌++◌, List, true, false, Some, rules, arith, get_or, length, subst, subst₂, sym, ap, ◌∙◌}
use Rattle.std.specs.Prelude.{Contains, slice_get}
use Rattle.std.proofs.lemmas.List.{get_or_default}
use Rattle.std.proofs.lemmas.Option.{slice_get-get_or}
use Rattle.nz_log.specs.Lits.{negated_lit}
use Rattle.nz_reals.specs.declared.neighbours.Lower.{Lower}
use Rattle.nz_reals.specs.Exclusions.{AreExcluded, AreJoined, AreOpen, HasNone}
use Rattle.nz_reals.proofs.ExclusionClauses.{IsExcluding, adds_more, excluding_held, excluding_more, neighbours_joined}
use Rattle.nz_reals.proofs.Joints.{none_joined}
use Rattle.nz_reals.proofs.KnownAtoms.{known_small}
use Rattle.nz_reals.proofs.reals.Reals.exclusions.Goals as goal
use Rattle.nz_reals.proofs.reals.Reals.exclusions.Goals.{then-not-index+in_ok-add_exclusion, else-not-index}

pub lowers-requires-clause-small : goal.lowers-requires-clause-small
lowers-requires-clause-small c i known = known_small c.args.self.now c.args.log.now.atoms c.requires.of.0 c.requires.of.1 c.atom_count.ensures.atoms i known

pub returns-in_err-add_exclusion-clause-adds : goal.returns-in_err-add_exclusion-clause-adds
returns-in_err-add_exclusion-clause-adds c =
    let atoms = c.args.atoms.now in
    let on : Contains atoms c.index-then-not-index-2.result.now.literal.atom = search rules in
    let weaker_on : Contains atoms c.not.result.atom = search rules in
    adds_more atoms c.args.log.now c.loop-i.log c.add_exclusion.new.log c.loop-i.invariant.adds (c.add_exclusion.ensures.adds atoms on weaker_on)

pub loop-i-preserved : goal.loop-i-preserved
loop-i-preserved c =
    let atoms = c.args.atoms.now in
    let t = c.args.self.now in
    let held = c.args.held.now in
    let start = c.args.log.now in
    let log = c.loop-i.log in
    let cs = c.loop-i.clauses.items in
    let xs = c.in_ok-lowers.lowers.items in
    let i = c.loop-i.i in
    let first : 0 < i = search rules in
    elim c.if-not-index.branch [
      | then-not-index+in_ok-add_exclusion w ↦
          let weaker = w.index-then-not-index.result.now in
          let stronger = w.index-then-not-index-2.result.now in
          let on : Contains atoms stronger.literal.atom = search rules in
          let weaker_on : Contains atoms w.not.result.atom = search rules in
          let read : stronger ≡ get_or xs i stronger = search rules in
          let read_weaker : weaker ≡ get_or xs (i - 1) weaker = search rules in
          let new = w.add_exclusion.new.log in
          let ds = w.add_exclusion.new.clauses.items in
          let here : AreExcluded t new ds stronger.literal (negated_lit weaker.literal) = subst (AreExcluded t new ds stronger.literal) w.not.ensures.negation w.in_ok-add_exclusion.ensures.excluded in
          let marks = c.in_ok-joined.joined.items in
          let unmarked : c.index.result.now ≡ false = search rules in
          let mark : c.index.result.now ≡ get_or marks i c.index.result.now = search rules in
          let long : i < length marks = search rules in
          let at : slice_get marks i ≡ Some false = slice_get-get_or marks i c.index.result.now long ∙ ap Some (sym mark ∙ unmarked) in
          let others : AreOpen start held xs marks = subst (λ (ys : List Lower). AreOpen start held ys marks) c.deref-2.ensures.value c.in_ok-joined.ensures.others in
          let none : HasNone start held stronger.literal w.not.result =
          subst (HasNone start held stronger.literal) (sym w.not.ensures.negation)
          (none_joined t start.atoms c.requires.of.0 atoms c.requires.of.1 start held xs i c.in_ok-lowers.ensures.lowers first (others i at) stronger weaker
          (slice_get-get_or xs i stronger (omega arith) ∙ ap Some (sym read)) (slice_get-get_or xs (i - 1) weaker (omega arith) ∙ ap Some (sym read_weaker)))
          in
          subst₂ (λ l v. IsExcluding t start l atoms held v.items xs (i + 1)) (sym w.log-is) (sym w.clauses-is)
          (excluding_more t start log atoms held cs xs i first c.loop-i.invariant new ds (w.add_exclusion.ensures.adds atoms on weaker_on) w.add_exclusion.ensures.kept
          (w.in_ok-add_exclusion.ensures.clauses atoms on weaker_on c.loop-i.invariant.clauses) (w.in_ok-add_exclusion.ensures.fresh start held none c.loop-i.invariant.fresh)
          (λ d. subst₂ (λ (x y : Lower). AreExcluded t new ds x.literal (negated_lit y.literal))
          (read ∙ get_or_default xs i stronger d (omega arith)) (read_weaker ∙ get_or_default xs (i - 1) weaker d (omega arith)) here))
      | else-not-index w ↦
          let marks = c.in_ok-joined.joined.items in
          let here : c.index.result.now ≡ true = search rules in
          let read : c.index.result.now ≡ get_or marks i c.index.result.now = search rules in
          let long : i < length marks = search rules in
          let at : slice_get marks i ≡ Some true = slice_get-get_or marks i c.index.result.now long ∙ ap Some (sym read ∙ here) in
          let joined : AreJoined start held xs marks = subst (λ (ys : List Lower). AreJoined start held ys marks) c.deref-2.ensures.value c.in_ok-joined.ensures.joined in
          subst₂ (λ l v. IsExcluding t start l atoms held v.items xs (i + 1)) (sym w.log-is) (sym w.clauses-is)
          (excluding_held t start log atoms held cs xs i first c.loop-i.invariant start marks c.loop-i.invariant.adds.keeps joined at)
    ]

pub returns-clause-neighbours : goal.returns-clause-neighbours
returns-clause-neighbours c =
    let xs = c.in_ok-lowers.lowers.items in
    let all : length xs ≤ c.loop-i.i = search rules in
    neighbours_joined c.args.self.now c.args.log.now.atoms c.requires.of.0 c.requires.of.1 c.loop-i.log c.args.atoms.now (c.args.held.now ++ c.loop-i.clauses.items) xs c.loop-i.i all c.in_ok-lowers.ensures.lowers c.loop-i.invariant.joined
