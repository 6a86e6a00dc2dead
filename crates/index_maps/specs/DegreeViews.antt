-- What contracts see of a degree map.
use Rattle.std.specs.Prelude.{ℕ, List}
use Rattle.std.specs.Vec.{vec_capacity}
use Rattle.base_items.specs.declared.items.Fact.{Fact}
use Rattle.observe_core.specs.Facts.{end_of}
use Rattle.observe_core.specs.Held.{Degree as DegreeHeld}
use Rattle.observe_core.specs.Seen.{Seen, map_seen}
use Rattle.index_maps.specs.declared.degree.Degree.{Degree}
use Rattle.index_maps.specs.Counted.{expand, turned}

-- the end of each arc
abbrev pub ends_of_degree : Degree → List ℕ
ends_of_degree d = expand 0 d.counts.items

abbrev pub degree_seen : Degree → Seen
degree_seen d = map_seen (DegreeHeld d.out (ends_of_degree d))

-- nodes below it can be counted without memory
abbrev pub reach_of : Degree → ℕ
reach_of d = vec_capacity d.counts

-- the ends after one arc moves
abbrev pub turned_ends : Degree → Fact → Fact → List ℕ
turned_ends d old now = turned (end_of d.out old) (end_of d.out now) (ends_of_degree d)
