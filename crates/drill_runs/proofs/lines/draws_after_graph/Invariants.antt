use Rattle.std.proofs.Common.{◌≡◌, ◌-◌, ◌<◌, ◌≤◌}
use Rattle.plain_machine.specs.Generator.{state}
use Rattle.drill_runs.proofs.lines.draws_after_graph.Given as goal

-- so many numbers were drawn
abbrev pub invariant-loop-count : goal.invariant-loop-count
invariant-loop-count l = record {
  drawn : l.draws.state ≡ state l.seed l.count;
  below : l.draws.state < 2147483647;
  room : l.count ≤ 1600;
}

abbrev pub decreases-loop-count : goal.decreases-loop-count
decreases-loop-count l = 1600 - l.count
