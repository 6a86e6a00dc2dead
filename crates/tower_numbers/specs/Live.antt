-- Items of a tower that come from live items of the base.
use Rattle.std.specs.Prelude.{◌≡◌, ℕ, ◌<◌, Bool, true, List, length}
use Rattle.base_items.specs.declared.items.ItemSort.{ItemSort}
use Rattle.base_items.specs.declared.items.ItemSort.TheVariants.{Node}
use Rattle.plain_certificates.specs.Tables.{at}
use Rattle.plain_views.specs.Marks.{arc_origin}
use Rattle.plain_views.specs.Towers.{Layer, base_node}
use Rattle.view_tower.specs.Origins.{is_live_origin}

module _ {M : Type 0} (live : ItemSort → ℕ → Bool) (tower : List (Layer M)) where
  -- each of these arcs comes from a live item
  abbrev pub AreLiveArcs : List ℕ → Type 0
  AreLiveArcs arcs = (k : ℕ) → k < length arcs
      → is_live_origin live (arc_origin tower (at 0 arcs k)) ≡ true

  -- so does each of these nodes
  abbrev pub AreLiveNodes : List ℕ → Type 0
  AreLiveNodes nodes = (k : ℕ) → k < length nodes
      → live Node (base_node tower (at 0 nodes k)) ≡ true
