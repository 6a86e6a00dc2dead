-- What contracts see of a map that tracks nothing of its own.
use Rattle.std.specs.Prelude.{◌≤◌}
use Rattle.std.proofs.Common.{arith}
use Rattle.observe_core.specs.Held.{Nothing}
use Rattle.observe_core.specs.Seen.{Watched, map_seen, need}
use Rattle.observe_core.proofs.SoundLemmas.{map_sound}

pub needs-nothing : need (map_seen Nothing) ≤ 0
needs-nothing = omega arith

abbrev pub moody_watched : Watched
moody_watched = record {
  seen = map_seen Nothing;
  room = 0;
  reach = 0;
  sound = map_sound Nothing tt;
  reaches = needs-nothing;
}
