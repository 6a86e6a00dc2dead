-- Names of snapshots.
use Rattle.std.specs.Prelude.{◌≢◌}
use Rattle.alter_graph.specs.declared.snaps.SnapKeys.{SnapKeys}

-- no half of the one is a half of the other
pub record AreApart (k other : SnapKeys) : Type 0 where
  pub nodes : k.nodes.0 ≢ other.nodes.0
  pub arcs : k.arcs.0 ≢ other.arcs.0
