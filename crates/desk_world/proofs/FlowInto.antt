-- A flow of a view that is written into a map is its flow on the base.
use Rattle.std.proofs.Common.{◌≡◌, ℕ, ◌<◌, ℤ, pos, cond, List, [], ◌∷◌, map, length, refl, sym, ◌∙◌}
use Rattle.std.proofs.Common.{Some, suc, arith}
use Rattle.std.specs.Prelude.{position}
use Rattle.std.specs.Option.{option_map_or}
use Rattle.base_items.specs.declared.items.ItemSort.{ItemSort}
use Rattle.plain_certificates.specs.Tables.{at}
use Rattle.plain_digraph.specs.Lists.{AllOf}
use Rattle.plain_views.specs.Marks.{Origin, FromArc, FromNode, arc_origin}
use Rattle.plain_views.specs.Renaming.{renamed}
use Rattle.plain_views.specs.Shown.{ShownArc}
use Rattle.plain_views.specs.TowerLaws.{IsLiveOrigin}
use Rattle.plain_views.specs.Towers.{Layer}
use Rattle.plain_world.specs.Queries as queries
use Rattle.plain_world.specs.Queries.{graph, flow_on_base, with_flow}
use Rattle.plain_world.specs.Tables.{Name}
use Rattle.plain_world.specs.Valid.{IsWorld}
use Rattle.plain_world.specs.Views.{arcs_of, tower_of as named_tower}
use Rattle.plain_world.specs.World.{World}
use Rattle.view_tower.specs.Layers.{tower_of}
use Rattle.desk_world.specs.AskedViews.{Asks}
use Rattle.desk_world.specs.Flows.{with_ints, comes_from, flow_by}
use Rattle.desk_world.specs.MapNumbers.{number_of}
use Rattle.desk_world.specs.declared.asked_views.AskedView.{AskedView}
use Rattle.desk_world.proofs.AskedViews.{arcs_live, origin_lives}
use Rattle.desk_world.proofs.FlowSpread.{by_position}
use Rattle.desk_world.proofs.ViewListed.{same_origin}

-- what holds at each place of a list holds of all of it
all_of_places : (P : ℕ → Type 0) (xs : List ℕ) → ((k : ℕ) → k < length xs → P (at 0 xs k))
    → AllOf P xs
all_of_places P [] so = tt
all_of_places P (x ∷ xs) so =
    (so 0 (omega arith), all_of_places P xs (λ k below. so (suc k) (omega (arith, below))))

-- other names of maps change no flow
renamed_flow : {M N : Type 0} (name : ItemSort → M → N) (tower : List (Layer M)) (arcs : List ℕ)
    (flow : List ℤ) (arc : ℕ)
    → flow_by (map (renamed name) tower) arcs flow arc ≡ flow_by tower arcs flow arc
renamed_flow name tower [] flow arc = refl
renamed_flow name tower (shown ∷ arcs) [] arc = refl
renamed_flow name tower (shown ∷ arcs) (x ∷ flow) arc =
    λ i. cond (comes_from arc (same_origin name tower shown i)) x
    (renamed_flow name tower arcs flow arc i)

same_comes : (world : World) (view : Name) (arc : ℕ) (origin : Origin)
    → comes_from arc origin ≡ queries.comes_from world view arc origin
same_comes world view arc (FromArc other) = refl
same_comes world view arc (FromNode node) = refl

module _ (world : World) (asked : AskedView) (asks : Asks world asked) where
  abbrev view : Name
  view = asked.view.now

  -- each arc of the view comes from a live item
  pub arcs_come : IsWorld world → AllOf (λ arc. IsLiveOrigin world.graph
      (arc_origin (tower_of asked.layers.items) arc)) asked.fixed.arcs
  arcs_come ok =
      all_of_places (λ arc. IsLiveOrigin world.graph
      (arc_origin (tower_of asked.layers.items) arc)) asked.fixed.arcs
      (λ k below. origin_lives world.graph
      (arc_origin (tower_of asked.layers.items) (at 0 asked.fixed.arcs k))
      (arcs_live world asked asks world refl asked.layers.items refl ok.graph_ok k below))

  module _ (flow : List ℤ) (size : length flow ≡ length (arcs_of world view)) where
    on_base : (arc : ℕ) → flow_by (tower_of asked.layers.items) asked.fixed.arcs flow arc
        ≡ flow_on_base world view (at (pos 0) flow) arc
    on_base arc =
        let named = named_tower world view in
        (λ i. flow_by (asks.layers i) (asks.numbers.arcs i) flow arc)
        ∙ renamed_flow (number_of world) named
        (map (λ (shown : ShownArc). shown.id) (arcs_of world view)) flow arc
        ∙ sym (by_position named arc (arcs_of world view) flow size)
        ∙ (λ i. option_map_or (at (pos 0) flow)
        (position (λ shown. same_comes world view arc (arc_origin named shown.id) i)
        (arcs_of world view)) (pos 0))

    pub written_flow : (name : Name)
        → with_ints world name (flow_by (tower_of asked.layers.items) asked.fixed.arcs flow)
        ≡ with_flow world view (Some name) (at (pos 0) flow)
    written_flow name = λ i. with_ints world name (λ arc. on_base arc i)
