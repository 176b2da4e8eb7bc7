use Rattle.std.proofs.Common.{◌≡◌, ◌∙◌, ◌++◌, ◌∷◌, [], ℕ, length, IfSome, true, sym, subst, eq-eqb}
use Rattle.nz_script.specs.text.Text.{class_of, is_bar}
use Rattle.nz_script.specs.text.ToldAs.{AreToldAs}
use Rattle.nz_script.specs.text.Reading.{in_string, goes_on, passed, taken, next_in, next_outside}
use Rattle.nz_sexpr.specs.Bytes.{ends_word}
use Rattle.nz_sexpr.specs.Part.{filler_of, ends, part_of}
use Rattle.nz_sexpr.specs.Matches.{Matches, is_quiet_at}
use Rattle.nz_sexpr.proofs.OpenCommands.{passes}
use Rattle.nz_sexpr.proofs.Runs.{is_word_part, is_after_quote, is_quoted_part, after_word, second_quote, closing_bar}
use Rattle.nz_sexpr.proofs.Quiet.{told_quietly}
use Rattle.nz_sexpr.specs.declared.scan.Scan.{Scan}
use Rattle.nz_sexpr.proofs.scan.Scan.read_quietly.Goals as goal

pub returns-in-Word-clause-state : goal.returns-in-Word-clause-state
returns-in-Word-clause-state c limits s m few =
    let byte : ℕ = c.args.byte in
    let new : Scan = c.pass_after_token.new.self in
    let w = is_word_part c.in-Word.field-0 s.part (sym c.in-Word.is ∙ m.part) in
    let ends_here : ends_word byte ≡ true = subst (λ p. ends p byte ≡ true) c.in-Word.is c.requires.ends in
    let after = subst (λ p. IfSome (filler_of p) (λ f. Matches limits new (next_outside (class_of byte) byte (taken f s)))) w.1 (c.pass_after_token.ensures.state limits s m few) in
    subst (λ p. Matches limits new (next_in p byte s)) (sym w.1) (subst (Matches limits new) (sym (after_word w.0 byte s ends_here)) after)

pub returns-in-Word-clause-heard : goal.returns-in-Word-clause-heard
returns-in-Word-clause-heard c limits s m few =
    let byte : ℕ = c.args.byte in
    let quiet : is_quiet_at (part_of s.part) (length s.levels) byte ≡ true =
    subst (λ p. is_quiet_at p (length s.levels) byte ≡ true) m.part (subst (λ d. is_quiet_at c.args.self.now.part d byte ≡ true) m.depth c.requires.quiet) in
    subst (AreToldAs []) (sym (told_quietly limits byte s quiet)) tt

pub returns-in-AfterQuote-clause-state : goal.returns-in-AfterQuote-clause-state
returns-in-AfterQuote-clause-state c limits s m few =
    let byte : ℕ = c.args.byte in
    let new : Scan = c.read_doubled_quote.new.self in
    let w = is_after_quote c.in-AfterQuote.clean s.part (sym c.in-AfterQuote.is ∙ m.part) in
    let quote : byte ≡ 34 = c.if-byte-eq34.true in
    let after : Matches limits new (goes_on (in_string (w.0 ++ byte ∷ [])) s) =
    subst (λ b. Matches limits new (goes_on (in_string (w.0 ++ b ∷ [])) s)) (sym quote) (c.read_doubled_quote.ensures.state limits s w.0 m few w.1) in
    subst (λ p. Matches limits new (next_in p byte s)) (sym w.1) (subst (Matches limits new) (sym (second_quote w.0 byte s (eq-eqb byte 34 quote))) after)

pub returns-in-Quoted-clause-state : goal.returns-in-Quoted-clause-state
returns-in-Quoted-clause-state c limits s m few =
    let byte : ℕ = c.args.byte in
    let new : Scan = c.end_part.new.self in
    let w = is_quoted_part c.in-Quoted.field-0 s.part (sym c.in-Quoted.is ∙ m.part) in
    let bar : is_bar byte ≡ true = subst (λ p. ends p byte ≡ true) c.in-Quoted.is c.requires.ends in
    let here : Matches limits c.pass.new.self (passed s) = subst (λ (v : Scan). Matches limits v (passed s)) (sym c.pass.ensures.counted) (passes limits c.args.self.now s 1 m few) in
    let after = subst (λ p. IfSome (filler_of p) (λ f. Matches limits new (taken f (passed s)))) w.1 (c.end_part.ensures.state limits (passed s) here) in
    subst (λ p. Matches limits new (next_in p byte s)) (sym w.1) (subst (Matches limits new) (sym (closing_bar w.0 byte s bar)) after)
