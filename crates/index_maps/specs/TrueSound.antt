-- What is so of all true items.
use Rattle.std.proofs.Common.{◌≤◌, arith}
use Rattle.observe_core.specs.Held.{Values, Trues}
use Rattle.observe_core.specs.Seen.{IsSound, need}
use Rattle.observe_core.proofs.SoundLemmas.{map_sound}
use Rattle.columns.specs.Sound.{column-rises}
use Rattle.index_maps.specs.declared.trues.TrueItems.{TrueItems}
use Rattle.index_maps.specs.TrueViews.{trues_of, trues_seen}

pub trues-sound : (m : TrueItems) → IsSound (trues_seen m)
trues-sound m = map_sound (Values Trues (trues_of m))
    (column-rises m.column.live.items m.column.values.items, tt)

pub trues-reach : (m : TrueItems) → need (trues_seen m) ≤ 0
trues-reach m = omega arith
