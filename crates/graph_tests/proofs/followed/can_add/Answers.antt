use Rattle.std.proofs.Common.{rules}
use Rattle.graph_tests.proofs.Following.{may_add}
use Rattle.graph_tests.proofs.followed.can_add.Goals as goal

pub returns-then-has_small_counts-clause-can : goal.returns-then-has_small_counts-clause-can
returns-then-has_small_counts-clause-can g c = λ t.
    may_add (g.O.Observer.watch c.args.observer.now).seen c.args.facts.now c.requires (search rules)
    c.args.f.now (search rules)
    (search rules)
