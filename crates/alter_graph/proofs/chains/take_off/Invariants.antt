use Rattle.std.proofs.Common.{◌≡◌, ◌-◌, ◌≤◌, ◌++◌, take, drop, filter, length}
use Rattle.std.specs.Prelude.{not}
use Rattle.alter_graph.specs.Attaching.{uses_key}
use Rattle.alter_graph.proofs.chains.take_off.Given as goal

abbrev pub invariant-names : goal.invariant-names
invariant-names l = record {
  within : l.i ≤ length l.names.items;
  kept : take l.i l.names.items
      ++ filter (λ k. not (uses_key l.sort l.key.0 k)) (drop l.i l.names.items)
      ≡ filter (λ k. not (uses_key l.sort l.key.0 k)) l.initial.names.items;
}

abbrev pub decreases-names : goal.decreases-names
decreases-names l = length l.names.items - l.i
