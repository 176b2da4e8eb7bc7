-- The theory may learn of each of the atoms, and may begin as it might before.
use Rattle.nz_engine.proofs.ArrangedSums.{may_arrange, may_arranged}
use Rattle.nz_engine.proofs.prepared.theory.arrange.Goals as goal

pub arrange-requires : goal.arrange-requires
arrange-requires c = record { may = may_arrange c.args.theory.now c.args.log.now.atoms c.args.atoms.now c.requires.learnable }

pub returns-clause-rest : goal.returns-clause-rest
returns-clause-rest c =
    may_arranged c.args.log.now.atoms c.args.atoms.now c.args.theory.now c.arrange.new.self (λ ns was within. c.arrange.ensures.over ns within was)
    (λ ns ts within tabled was may. c.arrange.ensures.restarts ns ts within tabled was may)

pub returns-in_err-arrange-clause-rest : goal.returns-in_err-arrange-clause-rest
returns-in_err-arrange-clause-rest c =
    may_arranged c.args.log.now.atoms c.args.atoms.now c.args.theory.now c.arrange.new.self (λ ns was within. c.arrange.ensures.over ns within was)
    (λ ns ts within tabled was may. c.arrange.ensures.restarts ns ts within tabled was may)
