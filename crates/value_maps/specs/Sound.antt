-- What is so of every map.
use Rattle.std.proofs.Common.{◌≤◌, arith}
use Rattle.observe_core.specs.Held.{Values, Ints, Bools, Texts}
use Rattle.observe_core.specs.Seen.{IsSound, need}
use Rattle.observe_core.proofs.SoundLemmas.{map_sound}
use Rattle.columns.specs.Sound.{column-rises}
use Rattle.value_maps.specs.declared.ints.IntMap.{IntMap}
use Rattle.value_maps.specs.declared.bools.BoolMap.{BoolMap}
use Rattle.value_maps.specs.declared.texts.TextMap.{TextMap}
use Rattle.value_maps.specs.Views.{ints_of, ints_seen, bools_of, bools_seen}
use Rattle.value_maps.specs.Views.{texts_of, texts_seen}

pub ints-sound : (m : IntMap) → IsSound (ints_seen m)
ints-sound m = map_sound (Values Ints (ints_of m))
    (column-rises m.column.live.items m.column.values.items, tt)

pub ints-reach : (m : IntMap) → need (ints_seen m) ≤ 0
ints-reach m = omega arith

pub bools-sound : (m : BoolMap) → IsSound (bools_seen m)
bools-sound m = map_sound (Values Bools (bools_of m))
    (column-rises m.column.live.items m.column.values.items, tt)

pub bools-reach : (m : BoolMap) → need (bools_seen m) ≤ 0
bools-reach m = omega arith

pub texts-sound : (m : TextMap) → IsSound (texts_seen m)
texts-sound m = map_sound (Values Texts (texts_of m))
    (column-rises m.column.live.items m.column.values.items, tt)

pub texts-reach : (m : TextMap) → need (texts_seen m) ≤ 0
texts-reach m = omega arith
