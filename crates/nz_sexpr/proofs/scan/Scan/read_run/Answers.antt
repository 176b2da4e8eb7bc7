use Rattle.std.proofs.Common.{◌≡◌, ◌+◌, ◌-◌, ◌^◌, ◌∙◌, ℕ, List, length, min, sym, ap, subst}
use Rattle.nz_script.specs.text.Reading.{read_on}
use Rattle.nz_sexpr.specs.Part.{part_after, text_after, begins_here}
use Rattle.nz_sexpr.specs.Matches.{Matches}
use Rattle.nz_sexpr.specs.Store.{OpenCommand, kept_of, Keeps}
use Rattle.nz_sexpr.proofs.OpenCommands.{run_matches}
use Rattle.nz_sexpr.specs.declared.scan.Scan.{Scan}
use Rattle.nz_sexpr.specs.declared.store.Store.{Store}
use Rattle.nz_sexpr.specs.declared.part.Part.{Part}
use Rattle.nz_sexpr.proofs.scan.Scan.read_run.Goals as goal

pub returns-clause-state : goal.returns-clause-state
returns-clause-state c within limits s m few =
    let run : List ℕ = c.args.run.now in
    let old : Scan = c.args.self.now in
    let store : Store = c.keep_run.new.self.store in
    let kept : c.keep_run.new.self ≡ record old { from = begins_here old.part old.depth old.at old.from; store = store } =
    c.keep_run.ensures.rest ∙ ap (λ (v : Scan). record v { store = store }) c.begin_part.ensures in
    let part : c.after_run-self.result ≡ part_after old.part run = c.after_run-self.ensures ∙ ap (λ (v : Scan). part_after v.part run) kept in
    let e : c.pass.new.self ≡ record old { at = min (old.at + length run) (2 ^ 64 - 1); from = begins_here old.part old.depth old.at old.from; part = part_after old.part run; store = store } =
    c.pass.ensures.counted
    ∙ ap (λ (v : Scan). record v { at = min (v.at + length run) (2 ^ 64 - 1); part = c.after_run-self.result }) kept
    ∙ ap (λ (p : Part). record old { at = min (old.at + length run) (2 ^ 64 - 1); from = begins_here old.part old.depth old.at old.from; part = p; store = store }) part in
    let keeps : Keeps (kept_of old.store) (kept_of store) (λ (k : OpenCommand). record k { text = text_after old.part k.text run }) =
    subst (λ (v : Scan). Keeps (kept_of v.store) (kept_of store) (λ (k : OpenCommand). record k { text = text_after v.part k.text run })) c.begin_part.ensures c.keep_run.ensures.kept in
    c.forget_if.ensures.state limits (read_on s run) (
    subst (λ (v : Scan). Matches limits v (read_on s run)) (sym e)
    (run_matches limits old s store run m c.requires within few keeps)
    )
