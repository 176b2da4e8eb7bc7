use Rattle.std.proofs.Common.{◌≡◌, ◌∷◌, ◌++◌, [], rules, subst, sym}
use Rattle.std.specs.Prelude.{All, IfSome}
use Rattle.nz_lists.proofs.Members.{has_first, has_more}
use Rattle.nz_search.specs.Theories.{IsClash}
use Rattle.nz_reals.specs.Exclusions.{IsExclusion, IsFresh}
use Rattle.nz_reals.proofs.ExclusionClauses.{exclusions_kept, exclusions_more, fresh_kept, fresh_more}
use Rattle.nz_reals.proofs.reals.Reals.add_exclusion.Goals as goal

pub returns-in_ok-push-clause-clauses : goal.returns-in_ok-push-clause-clauses
returns-in_ok-push-clause-clauses c = λ ids on other_on all.
    let new = c.exclusion.new.log in
    let clash : IsClash new (c.args.literal ∷ c.args.other ∷ []) c.in-Some.clause = subst (λ o. IfSome o (IsClash new (c.args.literal ∷ c.args.other ∷ []))) c.in-Some.is c.in_ok-clause.ensures.clash in
    let items : c.push.new.self.items ≡ c.args.clauses.now.items ++ c.in-Some.clause ∷ [] = search rules in
    subst (All (IsExclusion new ids)) (sym items)
    (exclusions_more c.args.log.now new ids c.args.clauses.now.items c.args.literal c.args.other c.in-Some.clause on other_on (c.exclusion.ensures.adds ids on other_on) all clash)

pub returns-in_default-clause-clauses : goal.returns-in_default-clause-clauses
returns-in_default-clause-clauses c = λ ids on other_on all.
    exclusions_kept c.args.log.now c.exclusion.new.log ids c.args.clauses.now.items (c.exclusion.ensures.adds ids on other_on).keeps all

pub returns-in_ok-push-clause-fresh : goal.returns-in_ok-push-clause-fresh
returns-in_ok-push-clause-fresh c = λ start held none all.
    let new = c.exclusion.new.log in
    let l = c.args.literal in
    let m = c.args.other in
    let clash : IsClash new (l ∷ m ∷ []) c.in-Some.clause = subst (λ o. IfSome o (IsClash new (l ∷ m ∷ []))) c.in-Some.is c.in_ok-clause.ensures.clash in
    let items : c.push.new.self.items ≡ c.args.clauses.now.items ++ c.in-Some.clause ∷ [] = search rules in
    let adds = c.exclusion.ensures.adds (l.atom ∷ m.atom ∷ []) (has_first l.atom (m.atom ∷ [])) (has_more l.atom m.atom (m.atom ∷ []) (has_first m.atom [])) in
    subst (All (IsFresh start new held)) (sym items) (fresh_more start c.args.log.now new held c.args.clauses.now.items l m c.in-Some.clause adds.keeps none all clash)

pub returns-in_default-clause-fresh : goal.returns-in_default-clause-fresh
returns-in_default-clause-fresh c = λ start held none all.
    let l = c.args.literal in
    let m = c.args.other in
    let adds = c.exclusion.ensures.adds (l.atom ∷ m.atom ∷ []) (has_first l.atom (m.atom ∷ [])) (has_more l.atom m.atom (m.atom ∷ []) (has_first m.atom [])) in
    fresh_kept start c.args.log.now c.exclusion.new.log held c.args.clauses.now.items adds.keeps all
