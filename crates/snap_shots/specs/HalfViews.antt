-- What contracts see of a half.
use Rattle.std.specs.Prelude.{ℕ, ◌+◌, nat_le, true, if◌then◌else◌, List, [], ◌∷◌, map, Option, Some}
use Rattle.std.specs.Prelude.{None}
use Rattle.base_items.specs.declared.items.Fact.{Fact}
use Rattle.plain_digraph.specs.Facts.{fact_id}
use Rattle.observe_core.specs.Items.{has_id, number_id}
use Rattle.observe_core.specs.Told.{kept_moved}
use Rattle.observe_core.specs.Held.{Half as HalfHeld}
use Rattle.observe_core.specs.Seen.{Seen, map_seen}
use Rattle.snap_shots.specs.declared.half.Half.{Half}
use Rattle.snap_shots.specs.FactViews.{facts_in}

-- the ids of the items that were added since, by rising id
abbrev pub added_ids : Half → List ℕ
added_ids h = map fact_id (facts_in h.added)

-- the facts at the making of the items that have moved since, by rising id
abbrev pub kept_facts : Half → List Fact
kept_facts h = facts_in h.kept

abbrev pub half_seen : Half → Seen
half_seen h = map_seen (HalfHeld (added_ids h) h.others (kept_facts h) h.valid)

-- a half that was told of nothing
abbrev pub fresh : Seen
fresh = map_seen (HalfHeld [] 0 [] true)

-- the facts that it keeps after a move
abbrev pub stepped : Half → Fact → Fact → List Fact
stepped h old now =
    if has_id number_id old.id (added_ids h) then kept_facts h else kept_moved old now
    (kept_facts h)

-- ---- walks by rising id

-- the first number that isn't below
abbrev pub from_number : ℕ → List ℕ → Option ℕ
from_number low [] = None
from_number low (n ∷ ns) = if nat_le low n then Some n else from_number low ns

-- the first number above, or the first
abbrev pub next_number : Option ℕ → List ℕ → Option ℕ
next_number None ns = from_number 0 ns
next_number (Some i) ns = from_number (i + 1) ns
