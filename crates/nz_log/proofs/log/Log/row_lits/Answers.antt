-- One literal more.
use Rattle.std.proofs.Common.{◌≡◌, ◌∷◌, [], ◌++◌, List, length, suc, sym, ap, subst, ◌∙◌, append_assoc, arith, rules}
use Rattle.std.specs.Vec.{vec_len}
use Rattle.std.proofs.lemmas.List.{append-nil}
use Rattle.nz_spec.specs.terms.Table.{Node}
use Rattle.nz_log.specs.declared.lits.Lit.{Lit}
use Rattle.nz_rows.specs.declared.rows.RowLiteral.{RowLiteral}
use Rattle.nz_rows.specs.Rows.{AreRowLiteralsIn}
use Rattle.nz_log.specs.Atoms.{IsAtomOf, JoinOnly}
use Rattle.nz_log.specs.Logs.{AreLitsOf}
use Rattle.nz_log.proofs.JoinedAtoms.{joins_twice, nothing_joins}
use Rattle.nz_log.proofs.OnlyJoined.{lit_more, none_joins}
use Rattle.nz_log.proofs.RowLiterals.{no_lits, nothing_left, one_said}
use Rattle.nz_log.proofs.log.Log.row_lits.Goals as goal

pub loop-said-init : goal.loop-said-init
loop-said-init c =
    let given = c.into_iter-said-iterator.ensures.into_iter_gives in
    let counted : vec_len c.args.row ≡ length c.args.row.items = search rules in
    record {
      next = tt;
      finite = tt;
      left = given.0;
      long = given.1 ∙ counted ∙ sym (ap length given.0);
      made = λ ns all. subst (AreLitsOf ns c.args.self.now.atoms []) (sym c.new-literals.ensures.items) (no_lits ns c.args.self.now.atoms);
      joins = nothing_joins c.args.self.now;
      atoms = c.atom_count.ensures.atoms;
      only = none_joins c.args.self.now.atoms (IsAtomOf c.new-literals.result.items);
    }

pub loop-said-preserved : goal.loop-said-preserved
loop-said-preserved c =
    let old = c.loop-said.self in
    let new = c.row_lit.new.self in
    let xs = c.loop-said.yielded in
    let x = c.in-Some.said in
    let ls = c.loop-said.literals.items in
    let l = c.in_ok-literal.literal in
    let steps = c.in-Some.ensures.steps in
    record {
      next = tt;
      finite = tt;
      left = append_assoc xs (x ∷ []) c.next.new.self.rest.items ∙ ap (λ (ys : List RowLiteral). xs ++ ys) (sym steps.0) ∙ c.loop-said.invariant.left;
      long =
          let fewer = steps.1 in
          let counted = c.loop-said.invariant.long in
          let one : length c.loop-said.said-iterator.rest.items ≡ suc (length c.next.new.self.rest.items) = ap length steps.0 in
          omega (arith, fewer, counted, one);
      made = subst (λ (ms : List Lit). (ns : List Node) → AreRowLiteralsIn ns (xs ++ x ∷ []) → AreLitsOf ns new.atoms (xs ++ x ∷ []) ms) (sym c.in_ok-push.ensures.items)
          (one_said old.atoms new.atoms c.in_ok-literal.ensures.joins.atoms xs x ls l c.loop-said.invariant.made c.in_ok-literal.ensures.literal c.in_ok-literal.ensures.within);
      joins = joins_twice c.args.self.now old new c.loop-said.invariant.joins c.in_ok-literal.ensures.joins;
      atoms = c.in_ok-literal.ensures.atoms;
      only = subst (λ (ms : List Lit). JoinOnly c.args.self.now.atoms new.atoms (IsAtomOf ms)) (sym c.in_ok-push.ensures.items)
          (lit_more c.args.self.now.atoms old.atoms new.atoms ls l c.loop-said.invariant.only c.in_ok-literal.ensures.only);
    }

pub returns-clause-literals : goal.returns-clause-literals
returns-clause-literals c =
    let steps = c.in-None.ensures.steps in
    let none = nothing_left c.loop-said.said-iterator.rest.items (sym c.loop-said.invariant.long ∙ steps.0) in
    let all = sym (append-nil c.loop-said.yielded) ∙ ap (λ (ys : List RowLiteral). c.loop-said.yielded ++ ys) (sym none) ∙ c.loop-said.invariant.left in
    subst (λ (xs : List RowLiteral). (ns : List Node) → AreRowLiteralsIn ns xs → AreLitsOf ns c.loop-said.self.atoms xs c.loop-said.literals.items) all c.loop-said.invariant.made
