use Rattle.change_tests.proofs.acts.snapshot_beside.Goals as goal

pub returns-clause-one : goal.returns-clause-one
returns-clause-one c = c.snapshot.ensures.others c.args.others.0 c.requires.one

pub returns-clause-other : goal.returns-clause-other
returns-clause-other c = c.snapshot.ensures.others c.args.others.1 c.requires.other
