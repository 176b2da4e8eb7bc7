use Rattle.std.proofs.Common.{map}
use Rattle.nz_command.specs.View.{view as written}
use Rattle.nz_command.specs.Requests.{sort_view, parameter_view}
use Rattle.nz_sort.proofs.DefinitionRules.{comes_defined}
use Rattle.nz_sort.proofs.live.Live.define.Goals as goal

pub returns : goal.returns
returns c =
    record {
      comes = comes_defined c.term_stays.ensures.stays _ _ _ _ c.args.name.now (map parameter_view c.args.parameters.now) (sort_view c.args.sort.now) (written c.args.body.now) c.in_ok-definition.definition
          c.in_ok-definition.ensures.grows c.in_ok-definition.ensures.companions c.in_ok-definition.ensures.accepted c.in_ok-add_definition.ensures.added;
    }
