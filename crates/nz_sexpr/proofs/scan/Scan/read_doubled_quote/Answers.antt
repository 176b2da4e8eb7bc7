use Rattle.std.proofs.Common.{ℕ, List, ◌++◌, ◌∷◌, [], sym, subst}
use Rattle.nz_script.specs.text.Reading.{Reading, goes_on, in_string}
use Rattle.nz_sexpr.specs.Matches.{Matches}
use Rattle.nz_sexpr.specs.Store.{OpenCommand, kept_of, Keeps}
use Rattle.nz_sexpr.proofs.OpenCommands.{quote_doubles}
use Rattle.nz_sexpr.specs.declared.scan.Scan.{Scan}
use Rattle.nz_sexpr.proofs.scan.Scan.read_doubled_quote.Goals as goal

pub returns-clause-state : goal.returns-clause-state
returns-clause-state c limits s w m few p =
    let keeps : Keeps (kept_of c.args.self.now.store) (kept_of c.extend_text.new.self) (λ (k : OpenCommand). record k { text = k.text ++ 34 ∷ [] }) =
    subst (λ (x : List ℕ). Keeps (kept_of c.args.self.now.store) (kept_of c.extend_text.new.self) (λ (k : OpenCommand). record k { text = k.text ++ x })) c.as_slice.ensures c.extend_text.ensures in
    let after : Reading = goes_on (in_string (w ++ 34 ∷ [])) s in
    c.forget_if.ensures.state limits after (
    subst (λ (v : Scan). Matches limits v after) (sym c.go_on.ensures.state)
    (quote_doubles limits c.args.self.now s c.extend_text.new.self w c.args.clean m c.requires p few keeps)
    )
