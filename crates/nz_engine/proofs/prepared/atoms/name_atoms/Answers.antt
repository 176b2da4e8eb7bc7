-- Some atoms are named, and then others.
use Rattle.std.proofs.Common.{rules, ◌≡◌, ◌<◌, length, ap, sym, subst, ◌∙◌}
use Rattle.std.specs.Prelude.{All}
use Rattle.std.proofs.lemmas.Result.{on_ok_weaker}
use Rattle.nz_engine.proofs.NamedAtoms.{names_both}
use Rattle.nz_engine.proofs.prepared.atoms.name_atoms.Goals as goal

pub name_more-requires-clause-within : goal.name_more-requires-clause-within
name_more-requires-clause-within c =
    let long = ap length c.deref_mut.ensures.value ∙ c.in_ok-is_named.ensures.long in
    subst (λ n. All (λ i. i < n) c.args.more.now) (sym long) c.requires.within

pub name_more-requires-2-clause-within : goal.name_more-requires-2-clause-within
name_more-requires-2-clause-within c =
    let long : length c.deref_mut-2.result.now ≡ c.args.count = search rules in
    subst (λ n. All (λ i. i < n) c.args.others.now) (sym long) c.requires.others_within

pub returns : goal.returns
returns c =
    record {
      names = on_ok_weaker c.name_more-2.result
          (λ second. names_both c.args.atoms.now.items c.name_more.new.atoms.items c.name_more-2.new.atoms.items c.args.more.now c.args.others.now c.in_ok-name_more.ensures.names second)
          c.name_more-2.ensures.names;
    }
