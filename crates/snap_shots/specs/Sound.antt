-- What is so of every half.
use Rattle.std.proofs.Common.{ℕ, ◌+◌, ◌≤◌, nat_le, IsTrue, List, [], ◌∷◌, map, refl, arith}
use Rattle.std.proofs.lemmas.Grind.{common_steps}
use Rattle.base_items.specs.declared.items.Fact.{Fact}
use Rattle.plain_digraph.specs.Facts.{fact_id}
use Rattle.observe_core.specs.Items.{number_id, rises_from}
use Rattle.observe_core.specs.Seen.{Watched, IsSound, need}
use Rattle.observe_core.proofs.ItemLemmas.{and_left, and_right}
use Rattle.observe_core.specs.Held.{Half as HalfHeld}
use Rattle.observe_core.proofs.SoundLemmas.{map_sound}
use Rattle.snap_shots.specs.FactViews.{facts_in, room_of}
use Rattle.snap_shots.specs.declared.half.Half.{Half}
use Rattle.snap_shots.specs.HalfViews.{half_seen, added_ids, kept_facts}

-- the ids of facts that rise rise
pub ids-rise : (low : ℕ) (fs : List Fact) → IsTrue (rises_from fact_id low fs)
    → IsTrue (rises_from number_id low (map fact_id fs))
ids-rise low [] h = refl
ids-rise low (f ∷ fs) h =
    let a = and_left (nat_le low f.id) (rises_from fact_id (f.id + 1) fs) h in
    let r = ids-rise (f.id + 1) fs
    (and_right (nat_le low f.id) (rises_from fact_id (f.id + 1) fs) h) in
    grind (arith, common_steps, a, r)

pub half-sound : (h : Half) → IsSound (half_seen h)
half-sound h = map_sound (HalfHeld (added_ids h) h.others (kept_facts h) h.valid)
    (ids-rise 0 (facts_in h.added) h.added.rising, h.kept.rising)

pub half-reaches : (h : Half) → need (half_seen h) ≤ room_of h.kept
half-reaches h = omega arith

abbrev pub half_watched : Half → Watched
half_watched h = record {
  seen = half_seen h;
  room = 0;
  reach = room_of h.kept;
  sound = half-sound h;
  reaches = half-reaches h;
}
