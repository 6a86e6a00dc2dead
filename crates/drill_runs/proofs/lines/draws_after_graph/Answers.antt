use Rattle.std.proofs.Common.{◌≡◌, arith}
use Rattle.drill_runs.proofs.Counts.{state_first}
use Rattle.drill_runs.proofs.lines.draws_after_graph.Goals as goal

pub returns-clause-state : goal.returns-clause-state
returns-clause-state c =
    let was = c.loop-count.invariant in
    state_first c.loop-count.draws.state c.args.seed c.loop-count.count was.drawn
    (omega (arith, was.room, c.loop-count-test.false))
