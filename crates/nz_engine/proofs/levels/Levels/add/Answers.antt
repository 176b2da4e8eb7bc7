use Rattle.std.proofs.Common.{◌≡◌, ◌<◌, ◌-◌, suc, length, refl, sym, ap, ◌∙◌, arith}
use Rattle.std.proofs.lemmas.List.{length-map}
use Rattle.std.proofs.lemmas.Result.{err_from_is_err_and}
use Rattle.nz_search.specs.Levels.{with_added}
use Rattle.nz_engine.specs.declared.levels.AddedTerms.{AddedTerms}
use Rattle.nz_engine.specs.Levels.{level_of, levels_of}
use Rattle.nz_engine.proofs.TermsByLevel.{one_asserted, one_number, same_level, term_added, terms_kept}
use Rattle.nz_engine.proofs.levels.Levels.add.Goals as goal

pub returns-in_err-push-clause-err : goal.returns-in_err-push-clause-err
returns-in_err-push-clause-err c =
    let p = err_from_is_err_and c.from_residual.result c.from_residual.ensures.1 in
    let levels = c.self.inside.levels.items in
    let same : levels_of levels ≡ c.args.self.now = c.self.view_is in
    let count : c.len-last.result ≡ length levels = c.len-last.ensures ∙ c.self.inside.levels.ok.0 in
    let some : length c.args.self.now ≡ length levels = ap length (sym same) ∙ length-map levels level_of in
    let positive : 0 < length c.args.self.now = c.requires.some in
    let last : length levels ≡ suc (c.len-last.result - 1) = omega arith in
    let level : AddedTerms = c.index_mut.result.now in
    let new : AddedTerms = record { asserted = c.push.new.self; numbers = level.numbers } in
    rw (p.1) (terms_kept levels (c.len-last.result - 1) level new last c.index_mut.ensures.value (same_level level new c.in_err-push.ensures.items refl) ∙ same)

pub returns-in_err-push-2-clause-err : goal.returns-in_err-push-2-clause-err
returns-in_err-push-2-clause-err c =
    let p = err_from_is_err_and c.from_residual-in_err-push-2.result c.from_residual-in_err-push-2.ensures.1 in
    let levels = c.self.inside.levels.items in
    let same : levels_of levels ≡ c.args.self.now = c.self.view_is in
    let count : c.len-last.result ≡ length levels = c.len-last.ensures ∙ c.self.inside.levels.ok.0 in
    let some : length c.args.self.now ≡ length levels = ap length (sym same) ∙ length-map levels level_of in
    let positive : 0 < length c.args.self.now = c.requires.some in
    let last : length levels ≡ suc (c.len-last.result - 1) = omega arith in
    let level : AddedTerms = c.index_mut-else-is_boolean.result.now in
    let new : AddedTerms = record { asserted = level.asserted; numbers = c.push-else-is_boolean.new.self } in
    rw (p.1) (terms_kept levels (c.len-last.result - 1) level new last c.index_mut-else-is_boolean.ensures.value (same_level level new refl c.in_err-push-2.ensures.items) ∙ same)

pub returns-in_ok-push-clause-ok : goal.returns-in_ok-push-clause-ok
returns-in_ok-push-clause-ok c =
    let ns = c.args.terms.now in
    let levels = c.self.inside.levels.items in
    let same : levels_of levels ≡ c.args.self.now = c.self.view_is in
    let count : c.len-last.result ≡ length levels = c.len-last.ensures ∙ c.self.inside.levels.ok.0 in
    let some : length c.args.self.now ≡ length levels = ap length (sym same) ∙ length-map levels level_of in
    let positive : 0 < length c.args.self.now = c.requires.some in
    let last : length levels ≡ suc (c.len-last.result - 1) = omega arith in
    let level : AddedTerms = c.index_mut.result.now in
    let new : AddedTerms = record { asserted = c.push.new.self; numbers = level.numbers } in
    term_added ns levels (c.len-last.result - 1) c.args.term level new last c.index_mut.ensures.value
    (one_asserted ns c.args.term level new (sym c.is_boolean.ensures.boolean ∙ c.if-is_boolean.true) c.in_ok-push.ensures.items refl)
    ∙ ap (λ ls. with_added ns ls c.args.term) same

pub returns-in_ok-push-2-clause-ok : goal.returns-in_ok-push-2-clause-ok
returns-in_ok-push-2-clause-ok c =
    let ns = c.args.terms.now in
    let levels = c.self.inside.levels.items in
    let same : levels_of levels ≡ c.args.self.now = c.self.view_is in
    let count : c.len-last.result ≡ length levels = c.len-last.ensures ∙ c.self.inside.levels.ok.0 in
    let some : length c.args.self.now ≡ length levels = ap length (sym same) ∙ length-map levels level_of in
    let positive : 0 < length c.args.self.now = c.requires.some in
    let last : length levels ≡ suc (c.len-last.result - 1) = omega arith in
    let level : AddedTerms = c.index_mut-else-is_boolean.result.now in
    let new : AddedTerms = record { asserted = level.asserted; numbers = c.push-else-is_boolean.new.self } in
    term_added ns levels (c.len-last.result - 1) c.args.term level new last c.index_mut-else-is_boolean.ensures.value
    (one_number ns c.args.term level new (sym c.is_boolean.ensures.boolean ∙ c.if-is_boolean.false) refl c.in_ok-push-2.ensures.items)
    ∙ ap (λ ls. with_added ns ls c.args.term) same
