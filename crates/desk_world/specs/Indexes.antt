-- Indexes of maps of bools.
use Rattle.std.specs.Prelude.{◌≡◌, ℕ, Bool, false}
use Rattle.std.specs.Str.{bytes_eq}
use Rattle.base_items.specs.declared.items.ItemSort.{ItemSort}
use Rattle.plain_digraph.specs.Rising.{swapped}
use Rattle.observe_core.specs.Held.{Held, Values, Trues, entry_id}
use Rattle.observe_core.specs.Seen.{Seen}
use Rattle.columns.specs.Views.{entry as with_value}
use Rattle.alter_graph.specs.State.{State}
use Rattle.plain_world.specs.Tables.{Name}
use Rattle.desk_seats.specs.Contents.{trues_in}
use Rattle.desk_world.specs.declared.tables.MapKind.{MapKind}
use Rattle.desk_world.specs.declared.tables.MapKind.TheVariants as maps
use Rattle.desk_world.specs.Claims as claims
use Rattle.desk_world.specs.Claims.{Plays}
use Rattle.desk_world.specs.Derived.{bools_seen}
use Rattle.desk_world.specs.Looks.{look_in}
use Rattle.desk_world.specs.Seating.{Comes}

-- whether the map is an index of that of the name
abbrev pub is_index_kind : Name → MapKind → Bool
is_index_kind map maps.Ints = false
is_index_kind map maps.Bools = false
is_index_kind map maps.Texts = false
is_index_kind map (maps.Degrees way) = false
is_index_kind map (maps.Trues name) = bytes_eq name map

-- what an index holds with the item true, or not
abbrev pub trues_with : ℕ → Bool → Seen → Held
trues_with id value s = Values Trues (swapped entry_id (with_value id value) (trues_in s))

-- an index came that has what the map of bools in the other seat has
pub record Indexes (sort : ItemSort) (key source : ℕ) (old new : State) : Type 0 where
  pub index : Seen
  pub graph : new.graph ≡ old.graph
  pub comes : Comes sort key index old.chains new.chains
  pub plays : Plays claims.Trues index
  pub same : trues_in index ≡ bools_seen (look_in old.chains sort source)
