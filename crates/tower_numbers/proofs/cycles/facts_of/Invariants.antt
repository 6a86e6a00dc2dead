use Rattle.std.proofs.Common.{◌≡◌, ◌≤◌, ◌-◌, map, take, length}
use Rattle.tower_numbers.specs.Told.{fact_at}
use Rattle.tower_numbers.proofs.cycles.facts_of.Given as goal

abbrev pub invariant-loop-place : goal.invariant-loop-place
invariant-loop-place l = record {
  inside : l.place ≤ length l.arcs;
  facts : l.facts.items ≡ map (fact_at l.g) (take l.place l.arcs);
}

abbrev pub decreases-loop-place : goal.decreases-loop-place
decreases-loop-place l = length l.arcs - l.place
