use Rattle.std.proofs.Common.{◌-◌, ◌≤◌, length}
use Rattle.snap_shots.specs.FactViews.{facts_in}
use Rattle.snap_shots.specs.Ranks.{rank}
use Rattle.snap_shots.proofs.facts.RisingFacts.place_of.Given as goal

abbrev pub invariant-loop-low : goal.invariant-loop-low
invariant-loop-low l = record {
  least : l.low ≤ rank l.id (facts_in l.self);
  most : rank l.id (facts_in l.self) ≤ l.high;
  within : l.high ≤ length (facts_in l.self);
}

abbrev pub decreases-loop-low : goal.decreases-loop-low
decreases-loop-low l = l.high - l.low
