-- A map whose values become those of another type.
use Rattle.std.specs.Prelude.{◌≡◌, ℕ, List, [], Option, Some, option_map}
use Rattle.std.specs.Option.{option_map_or}
use Rattle.base_items.specs.declared.items.Fact.{Fact}
use Rattle.base_items.specs.declared.items.ItemSort.{ItemSort}
use Rattle.script_words.specs.declared.commands.MapType.{MapType}
use Rattle.observe_core.specs.Fits.{HeldFits}
use Rattle.observe_core.specs.Held as held
use Rattle.observe_core.specs.Seen.{Seen, Watched}
use Rattle.alter_graph.specs.Chains.{chains_seen}
use Rattle.alter_graph.specs.Lending.{Writes, graph_with}
use Rattle.alter_graph.specs.State.{AlterOf}
use Rattle.plain_world.specs.Effects.{retyped}
use Rattle.plain_world.specs.Tables.{Name}
use Rattle.plain_world.specs.Values.{text_at}
use Rattle.plain_world.specs.Views.{map_of}
use Rattle.plain_world.specs.World.{World, Held}
use Rattle.desk_world.specs.Claims.{Plays, role_of}
use Rattle.desk_world.specs.Looks.{look_in}
use Rattle.desk_world.specs.Plain.{held_by}
use Rattle.desk_world.specs.Values.{kind_for}

-- the observer is a map of the type, with a value for each of these items
pub record IsMapOf (type : MapType) (live : List Fact) (s : Seen) : Type 0 where
  pub role : Plays (role_of (kind_for type)) s
  pub fits : HeldFits s.held live

-- the text of what the map has at an item
abbrev pub text_by : Option Held → ℕ → List ℕ
text_by map id = option_map_or (λ held. text_at held id) map []

-- what is held is the values of the map of this name, as ones of the type
abbrev pub IsRespelled : World → ItemSort → Name → MapType → held.Held → Type 0
IsRespelled world sort map type h =
    option_map (retyped world sort type) (map_of world sort map) ≡ Some (held_by (kind_for type) h)

-- another observer sits in the seat, and all else is as before
pub record Reseated {O : Type 0} (watch : O → Watched) (sort : ItemSort) (key : ℕ) (now : O)
    (old new : AlterOf O) : Type 0 where
  pub was : O
  pub found : look_in (chains_seen watch old.chains) sort key ≡ Some (watch was).seen
  pub writes : Writes watch sort key old was now
  pub is : new ≡ graph_with sort key now old
