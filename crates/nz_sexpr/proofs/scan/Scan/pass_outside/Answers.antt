use Rattle.std.proofs.Common.{◌≡◌, ◌∙◌, [], refl, sym, ap, subst}
use Rattle.nz_script.specs.text.Text.{class_of, comment_byte, quote_byte, bar_byte}
use Rattle.nz_script.specs.text.Reading.{in_comment, in_string, in_quoted, next_outside}
use Rattle.nz_sexpr.specs.Bytes.{class_view}
use Rattle.nz_sexpr.specs.Matches.{Matches}
use Rattle.nz_sexpr.proofs.scan.Scan.pass_outside.Goals as goal

pub returns-in-Comment-clause-state : goal.returns-in-Comment-clause-state
returns-in-Comment-clause-state c limits s m few =
    let class : comment_byte ≡ class_of c.args.byte = ap class_view (sym c.in-Comment.is) ∙ c.kind_of.ensures in
    subst (λ k. Matches limits c.begin.new.self (next_outside k c.args.byte s)) class (c.begin.ensures.state limits s in_comment m few refl refl)

pub returns-in-Quote-clause-state : goal.returns-in-Quote-clause-state
returns-in-Quote-clause-state c limits s m few =
    let class : quote_byte ≡ class_of c.args.byte = ap class_view (sym c.in-Quote.is) ∙ c.kind_of.ensures in
    subst (λ k. Matches limits c.begin-in-Quote.new.self (next_outside k c.args.byte s)) class (c.begin-in-Quote.ensures.state limits s (in_string []) m few refl refl)

pub returns-in-Bar-clause-state : goal.returns-in-Bar-clause-state
returns-in-Bar-clause-state c limits s m few =
    let class : bar_byte ≡ class_of c.args.byte = ap class_view (sym c.in-Bar.is) ∙ c.kind_of.ensures in
    subst (λ k. Matches limits c.begin-in-Bar.new.self (next_outside k c.args.byte s)) class (c.begin-in-Bar.ensures.state limits s (in_quoted []) m few refl refl)
