-- The changes that an observer may refuse, as one type.
use Rattle.std.specs.Prelude.{ℕ}
use Rattle.observe_core.specs.declared.changes.Change.{Change}
use Rattle.observe_core.specs.declared.changes.Change.TheVariants.{Add, Shift, Build}
use Rattle.observe_core.specs.Seen.{Seen}
use Rattle.observe_core.specs.Told.{added, shifted, built}
use Rattle.observe_core.specs.Untold.{unadded, unshifted, unbuilt}
use Rattle.observe_core.specs.Conditions.{CanAdd, CanShift, CanBuild, CanUndoAdd, CanUndoShift}
use Rattle.observe_core.specs.Conditions.{CanUndoBuild}

-- what an accepted change gives
abbrev pub told : Change → Seen → Seen
told (Add f) s = added f s
told (Shift old now) s = shifted old now s
told (Build all) s = built all.now s

-- the record from before, from the present one
abbrev pub untold : Change → Seen → Seen
untold (Add f) s = unadded f s
untold (Shift old now) s = unshifted old now s
untold (Build all) s = unbuilt s

abbrev pub CanTell : Change → Seen → Type 0
CanTell (Add f) s = CanAdd f s
CanTell (Shift old now) s = CanShift old now s
CanTell (Build all) s = CanBuild all.now s

abbrev pub CanUntell : Change → Seen → ℕ → Type 0
CanUntell (Add f) s reach = CanUndoAdd f s reach
CanUntell (Shift old now) s reach = CanUndoShift old now s reach
CanUntell (Build all) s reach = CanUndoBuild s reach
