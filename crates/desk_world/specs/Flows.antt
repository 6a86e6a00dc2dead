-- Flows that are written into maps of the arcs.
use Rattle.std.specs.Prelude.{ℕ, ◌==◌, ℤ, pos, Bool, true, false, ◌&&◌, cond, List, [], ◌∷◌}
use Rattle.base_items.specs.declared.items.ItemSort.TheVariants.{Arc}
use Rattle.plain_views.specs.Marks.{Origin, FromArc, FromNode, arc_origin}
use Rattle.plain_views.specs.Towers.{Layer, Undirect, Residual}
use Rattle.plain_world.specs.Effects.{with_map_changed}
use Rattle.plain_world.specs.Tables.{Name}
use Rattle.plain_world.specs.Values.{column_of}
use Rattle.plain_world.specs.World.{World, Ints, live}
use Rattle.desk_world.specs.declared.values.Value.TheVariants.{Int}
use Rattle.desk_world.specs.Values.{put_at}

-- the world whose map of the arcs has these ints
abbrev pub with_ints : World → Name → (ℕ → ℤ) → World
with_ints world map value =
    with_map_changed world Arc map (λ held. Ints (column_of (live world Arc) value))

-- whether an arc comes from this one of the base
abbrev pub comes_from : ℕ → Origin → Bool
comes_from arc (FromArc other) = other == arc
comes_from arc (FromNode node) = false

-- the flow on an arc of the base: of shown arcs, each with its flow, that of the first one that
-- comes from it, and 0 where none does
abbrev pub flow_by : {M : Type 0} → List (Layer M) → List ℕ → List ℤ → ℕ → ℤ
flow_by tower (shown ∷ arcs) (x ∷ flow) arc =
    cond (comes_from arc (arc_origin tower shown)) x (flow_by tower arcs flow arc)
flow_by tower _ _ arc = pos 0

-- the world whose map has the flow at the arc from which a shown one comes; where that is one that
-- binds a node, nothing is written
abbrev pub with_flow_at : World → Name → Origin → ℤ → World
with_flow_at world map (FromArc arc) flow = with_map_changed world Arc map (put_at (Int flow) arc)
with_flow_at world map (FromNode node) flow = world

-- whether a layer shows an arc below it once at most, as it goes; and whether all of them do
abbrev pub keeps_single : {M : Type 0} → Layer M → Bool
keeps_single Undirect = false
keeps_single (Residual cap flow) = false
keeps_single _ = true

abbrev pub shows_single : {M : Type 0} → List (Layer M) → Bool
shows_single [] = true
shows_single (layer ∷ below) = keeps_single layer && shows_single below
