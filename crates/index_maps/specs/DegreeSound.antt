-- What is so of every degree map.
use Rattle.std.proofs.Common.{◌≤◌, arith}
use Rattle.observe_core.specs.Seen.{IsSound, need}
use Rattle.observe_core.specs.Held.{Degree as DegreeHeld}
use Rattle.observe_core.proofs.SoundLemmas.{map_sound}
use Rattle.index_maps.specs.declared.degree.Degree.{Degree}
use Rattle.index_maps.specs.DegreeViews.{degree_seen, ends_of_degree, reach_of}
use Rattle.index_maps.specs.Expanding.{expand-falls, expand-above}

pub degree-sound : (d : Degree) → IsSound (degree_seen d)
degree-sound d = map_sound (DegreeHeld d.out (ends_of_degree d)) (expand-falls 0 d.counts.items)

pub degree-reaches : (d : Degree) → need (degree_seen d) ≤ reach_of d
degree-reaches d = let r =
    expand-above 0 (reach_of d) d.counts.items (omega arith) in omega (arith, r)
