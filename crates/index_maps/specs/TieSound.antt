-- What is so of all ties.
use Rattle.std.proofs.Common.{◌≤◌, ℕ, ◌+◌, IsTrue, List, [], ◌∷◌, refl, arith}
use Rattle.std.proofs.lemmas.Grind.{common_steps}
use Rattle.observe_core.specs.Held.{Ties as TiesHeld, Entry, entry_id, tie_id}
use Rattle.observe_core.specs.Items.{rises_from}
use Rattle.observe_core.specs.Seen.{IsSound, need}
use Rattle.observe_core.proofs.SoundLemmas.{map_sound}
use Rattle.columns.specs.Sound.{column-rises}
use Rattle.columns.specs.Views.{entries_of}
use Rattle.index_maps.specs.declared.ties.Ties.{Ties}
use Rattle.index_maps.specs.TieEntries.{ties_in}
use Rattle.index_maps.specs.TieViews.{ties_of, ties_seen}

ties-rise : (low : ℕ) (es : List (Entry ℕ)) → IsTrue (rises_from entry_id low es)
    → IsTrue (rises_from tie_id low (ties_in es))
ties-rise low [] h = refl
ties-rise low (e ∷ es) h =
    let t : IsTrue (rises_from entry_id (e.id + 1) es) = grind (arith, common_steps, h) in
    let r = ties-rise (e.id + 1) es t in
    grind (arith, common_steps, h, r)

pub ties-sound : (t : Ties) → IsSound (ties_seen t)
ties-sound t = map_sound (TiesHeld (ties_of t))
    (ties-rise 0 (entries_of t.column) (column-rises t.column.live.items t.column.values.items))

pub ties-reach : (t : Ties) → need (ties_seen t) ≤ 0
ties-reach t = omega arith
