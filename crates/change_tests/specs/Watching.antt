-- What contracts see of the observers of the tests, and of a digraph under them.
use Rattle.observe_core.specs.Seen.{Watched}
use Rattle.guard_kinds.specs.GuardViews.{guard_seen}
use Rattle.guard_kinds.specs.Sound.{guard-sound, guard-reaches}
use Rattle.snap_shots.specs.Sound.{half_watched}
use Rattle.alter_graph.specs.State.{AlterOf, IsInStep, state_of}
use Rattle.change_tests.specs.declared.watcher.Watcher.{Watcher}
use Rattle.change_tests.specs.declared.watcher.Watcher.TheVariants.{Moody, Guard, Half}
use Rattle.change_tests.specs.Moods.{moody_watched}

abbrev pub watched : Watcher → Watched
watched (Moody o) = moody_watched
watched (Guard o) = record {
  seen = guard_seen o;
  room = 0;
  reach = 4194304;
  sound = guard-sound o;
  reaches = guard-reaches o;
}
watched (Half o) = half_watched o

-- the digraph and its observers are in step
abbrev pub IsWatchedInStep : AlterOf Watcher → Type 0
IsWatchedInStep a = IsInStep (state_of watched a)
