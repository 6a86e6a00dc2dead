-- What contracts see of the two observers of a kept view as one type.
use Rattle.observe_core.specs.Seen.{Watched}
use Rattle.kept_views.specs.Ordered.{reach_of}
use Rattle.kept_views.specs.Sound.{nodes-sound, nodes-reach, arcs-sound, arcs-reach}
use Rattle.kept_views.specs.Views.{nodes_seen, arcs_seen}
use Rattle.view_tests.specs.declared.sides.Side.{Side}
use Rattle.view_tests.specs.declared.sides.Side.TheVariants.{Nodes, Arcs}

abbrev pub watched : Side → Watched
watched (Nodes k) = record {
  seen = nodes_seen k;
  room = 0;
  reach = 0;
  sound = nodes-sound k;
  reaches = nodes-reach k;
}
watched (Arcs k) = record {
  seen = arcs_seen k;
  room = 0;
  reach = reach_of k.items.orders;
  sound = arcs-sound k;
  reaches = arcs-reach k;
}
