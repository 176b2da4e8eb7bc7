use Rattle.std.proofs.Common.{◌<◌, length, rules}
use Rattle.nz_engine_tests.proofs.ToldLevels.{added_count, added_ready}
use Rattle.nz_engine_tests.proofs.bench.add_to.Goals as goal

pub returns-clause-ready : goal.returns-clause-ready
returns-clause-ready c =
    λ ready. (let within : c.args.term < length c.args.terms.now = search rules in
    added_ready c.args.terms.now c.args.term within c.args.engine.now c.add.new.self ready c.in_ok-add.ensures.ok c.add.ensures.table)

pub returns-clause-count : goal.returns-clause-count
returns-clause-count c = added_count c.args.terms.now c.args.term c.args.engine.now c.add.new.self c.in_ok-add.ensures.ok
