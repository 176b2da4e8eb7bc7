use Rattle.std.proofs.Common.{◌≡◌, ◌∙◌, ◌<◌, ◌||◌, length, Option, IfSome, is_none, sym, ap, subst, arith}
use Rattle.nz_script.specs.text.Reading.{taken}
use Rattle.nz_sexpr.specs.Part.{part_of, filler_of, kind_of_part}
use Rattle.nz_sexpr.specs.Matches.{Matches}
use Rattle.nz_sexpr.specs.Store.{kept_of, TakesToken}
use Rattle.nz_sexpr.proofs.OpenCommands.{token_ends}
use Rattle.nz_sexpr.specs.declared.scan.Scan.{Scan}
use Rattle.nz_sexpr.specs.declared.part.Part.TheVariants as part
use Rattle.nz_sexpr.specs.declared.store.Store.{Store}
use Rattle.nz_sexpr.specs.declared.words.TokenKind.{TokenKind}
use Rattle.nz_sexpr.proofs.scan.Scan.end_part.Goals as goal

pub returns-clause-state : goal.returns-clause-state
returns-clause-state c limits s m =
    let old : Scan = c.args.self.now in
    let store : Store = c.take_token.new.self.store in
    let inside : 0 < length s.levels = omega (arith, m.depth, c.if-self-eq0.false) in
    let token : c.token-token.result ≡ kind_of_part (part_of s.part) = c.token-token.ensures ∙ ap kind_of_part m.part in
    let takes : TakesToken (kind_of_part (part_of s.part)) (kept_of old.store) (kept_of store) =
    subst (λ (o : Option TokenKind). TakesToken o (kept_of old.store) (kept_of store)) token c.take_token.ensures.kept in
    let e : c.take_token.new.self ≡ record old { part = part.Absent; bad = old.bad || is_none (kind_of_part (part_of s.part)); store = store } =
    c.take_token.ensures.rest ∙ ap (λ (o : Option TokenKind). record old { part = part.Absent; bad = old.bad || is_none o; store = store }) token in
    subst (λ (v : Scan). IfSome (filler_of s.part) (λ f. Matches limits v (taken f s))) (sym e) (token_ends limits old s store m inside takes)
