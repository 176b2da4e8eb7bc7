use Rattle.std.proofs.Common.{sym, subst}
use Rattle.nz_script.specs.text.Reading.{closed}
use Rattle.nz_sexpr.specs.Matches.{Matches}
use Rattle.nz_sexpr.proofs.OpenCommands.{list_closes}
use Rattle.nz_sexpr.specs.declared.scan.Scan.{Scan}
use Rattle.nz_sexpr.proofs.scan.Scan.close_list.Goals as goal

pub returns-clause-state : goal.returns-clause-state
returns-clause-state c limits s m few =
    c.forget_if.ensures.state limits (closed s) (
    subst (λ (v : Scan). Matches limits v (closed s)) (sym c.pass.ensures.counted)
    (list_closes limits c.args.self.now s c.close.new.self m c.requires few c.close.ensures)
    )
