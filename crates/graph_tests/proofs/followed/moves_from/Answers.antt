use Rattle.std.proofs.Common.{rules}
use Rattle.graph_tests.proofs.Following.{may_shift}
use Rattle.graph_tests.proofs.followed.moves_from.Goals as goal

pub returns-then-ne-clause-can : goal.returns-then-ne-clause-can
returns-then-ne-clause-can g c =
    may_shift (g.O.Observer.watch c.args.observer.now).seen c.args.facts.now c.requires
    (search rules)
    c.in_ok-old.old c.args.new.now
    (search rules) (search rules) (search rules) (search rules)
