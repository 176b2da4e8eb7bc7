use Rattle.std.proofs.Common.{◌≡◌, ◌+◌, ◌-◌, ◌^◌, min, ◌∷◌, ◌∙◌, sym, ap, subst, []}
use Rattle.nz_script.specs.text.Text.{Heard}
use Rattle.nz_script.specs.text.ToldAs.{AreToldAs}
use Rattle.nz_script.specs.text.Reading.{closed, passed, told_closed, told_closed_by, what_of}
use Rattle.nz_sexpr.specs.View.{heard_view}
use Rattle.nz_sexpr.specs.Matches.{Matches}
use Rattle.nz_sexpr.proofs.OpenCommands.{one_open, passes, command_closes}
use Rattle.nz_sexpr.specs.declared.scan.Scan.{Scan}
use Rattle.nz_sexpr.proofs.scan.Scan.close_command.Goals as goal

pub returns-clause-heard : goal.returns-clause-heard
returns-clause-heard c limits s m few =
    let one = one_open s.levels (sym m.depth ∙ c.requires) in
    let here : Matches limits c.pass.new.self (passed s) = rw c.pass.ensures.counted (passes limits c.args.self.now s 1 m few) in
    let rest = c.take_command-what.ensures.rest in
    let thing : Heard = record { from = s.from; to = s.at + 1; what = what_of limits one.0 (passed s) } in
    let tells : told_closed limits s ≡ thing ∷ [] = ap (λ ls. told_closed_by limits ls s) one.1 in
    let what = c.take_command-what in
    subst (AreToldAs (heard_view (record { from = what.new.self.from; to = what.new.self.at; what = what.result }) ∷ [])) (sym tells) (
      record {
        from = rw rest here.from;
        to = rw rest here.at;
        what = c.take_command-what.ensures.what limits (passed s) one.0 here one.1;
      },
      tt,
    )

pub returns-clause-state : goal.returns-clause-state
returns-clause-state c limits s m few =
    let what = c.take_command-what in
    let e : what.new.self ≡ record c.args.self.now { at = min (c.args.self.now.at + 1) (2 ^ 64 - 1); store = what.new.self.store } =
    what.ensures.rest ∙ ap (λ (v : Scan). record v { store = what.new.self.store }) c.pass.ensures.counted in
    subst (λ (v : Scan). Matches limits (record v { depth = 0 }) (closed s)) (sym e)
    (command_closes limits c.args.self.now s what.new.self.store m c.requires few what.ensures.ended)
