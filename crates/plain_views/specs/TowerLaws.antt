-- What towers show over a valid digraph.
use Rattle.std.specs.Prelude.{◌≡◌, ℕ, true, List, [], ◌∷◌}
use Rattle.base_items.specs.declared.limits.TheConstants.{MAX_ARCS}
use Rattle.base_items.specs.declared.items.ItemSort.TheVariants as sorts
use Rattle.plain_digraph.specs.Lists.{has}
use Rattle.plain_digraph.specs.Digraph.{Digraph}
use Rattle.plain_digraph.specs.Items.{IsLive}
use Rattle.plain_digraph.specs.Valid.{IsValid}
use Rattle.plain_views.specs.Shown.{IsShown, AreBelow, has_arc}
use Rattle.plain_views.specs.Adaptors.{twice}
use Rattle.plain_views.specs.Towers.{Layer, Reverse, Sub, Undirect, Residual, Split, Values, shown}
use Rattle.plain_views.specs.Towers.{base_node}
use Rattle.plain_views.specs.Marks.{Origin, FromArc, FromNode, arc_origin}

-- what bounds the ids of a tower: the bound of the base, doubled by each layer that numbers anew
abbrev pub tower_bound : {M : Type 0} → List (Layer M) → ℕ
tower_bound [] = MAX_ARCS
tower_bound (Reverse ∷ below) = tower_bound below
tower_bound (Sub nodes arcs ∷ below) = tower_bound below
tower_bound (Undirect ∷ below) = twice (tower_bound below)
tower_bound (Residual cap flow ∷ below) = twice (tower_bound below)
tower_bound (Split ∷ below) = twice (tower_bound below)

-- a tower over a valid digraph shows a valid digraph, whose ids are below its bound
abbrev pub TowerIsShown : Type 0 → Type 0
TowerIsShown M = (values : Values M) (g : Digraph) (tower : List (Layer M)) → IsValid g
    → IsShown (shown values g tower) × AreBelow (shown values g tower) (tower_bound tower)

-- the item that an arc comes from is live
abbrev pub IsLiveOrigin : Digraph → Origin → Type 0
IsLiveOrigin g (FromArc arc) = IsLive g sorts.Arc arc
IsLiveOrigin g (FromNode node) = IsLive g sorts.Node node

-- each node and each arc that a tower shows comes from a live item of the base
pub record ShowsLiveItems {M : Type 0} (values : Values M) (g : Digraph) (tower : List (Layer M))
    : Type 0 where
  pub nodes : (node : ℕ) → has (shown values g tower).nodes node ≡ true
      → IsLive g sorts.Node (base_node tower node)
  pub arcs : (arc : ℕ) → has_arc (shown values g tower) arc ≡ true
      → IsLiveOrigin g (arc_origin tower arc)

-- so does a tower over any valid digraph
abbrev pub TowerShowsLiveItems : Type 0 → Type 0
TowerShowsLiveItems M = (values : Values M) (g : Digraph) (tower : List (Layer M)) → IsValid g
    → ShowsLiveItems values g tower
