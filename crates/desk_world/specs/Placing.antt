-- Items of kept views that are placed anew, and the seats of a view that is kept.
use Rattle.std.specs.Prelude.{◌≡◌, ℕ, ◌==◌, Bool, false, ◌&&◌, not, is_some, List, map, Option}
use Rattle.std.specs.Prelude.{None, Some, IfSome}
use Rattle.base_items.specs.declared.items.ItemSort.{ItemSort}
use Rattle.base_items.specs.declared.items.ItemSort.TheVariants as sorts
use Rattle.notify_chain.specs.declared.key.SeatKey.{SeatKey}
use Rattle.plain_digraph.specs.Lists.{AllOf}
use Rattle.observe_core.specs.Held as held
use Rattle.observe_core.specs.Held.{Held, Marked}
use Rattle.observe_core.specs.Seen.{Seen, Watched}
use Rattle.alter_graph.specs.Chains.{ChainsSeen, chains_seen}
use Rattle.alter_graph.specs.State as graph
use Rattle.alter_graph.specs.State.{State, state_of}
use Rattle.alter_graph.specs.Verdict.{is_sort}
use Rattle.kept_views.specs.declared.items.Marks.{Marks}
use Rattle.kept_views.specs.ItemViews.{marks, with_marks, marked_set}
use Rattle.kept_walks.specs.Present.{Present, marks_at, can_grow, can_fall, items_seen}
use Rattle.plain_world.specs.Tables.{Named}
use Rattle.desk_seats.specs.Contents.{marked_in, role_in, shows_all}
use Rattle.desk_world.specs.declared.tables.KeptKeys.{KeptKeys}
use Rattle.desk_world.specs.declared.tables.KeptMaps.{KeptMaps}
use Rattle.desk_world.specs.declared.tables.ViewRow.{ViewRow}
use Rattle.desk_world.specs.declared.world.World.{World}
use Rattle.desk_world.specs.Claims as claims
use Rattle.desk_world.specs.Claims.{Role, Plays, Sits, claims_of}
use Rattle.desk_world.specs.Derived.{AreDerived}
use Rattle.desk_world.specs.InStep.{AreSeated, AreBoxes}
use Rattle.desk_world.specs.KeptMaps.{present_in}
use Rattle.desk_world.specs.KeptViews.{items_at, views_of, AreMarkedBy, AreReading}
use Rattle.desk_world.specs.Looks.{Look, look_in}
use Rattle.desk_world.specs.Plain.{look_of}
use Rattle.desk_world.specs.Seating.{Comes}

-- ---- seats

-- the observer in the seat has the role, if there is a seat
abbrev pub SitsGiven : Role → (ℕ → Option Seen) → Option SeatKey → Type 0
SitsGiven role look None = Unit {0}
SitsGiven role look (Some key) = Sits role (look key.0)

-- the maps that a kept view reads are in their seats
pub record SitMaps (look : Look) (m : KeptMaps) : Type 0 where
  pub node_filter : SitsGiven claims.Bools (look sorts.Node) m.node_filter
  pub arc_filter : SitsGiven claims.Bools (look sorts.Arc) m.arc_filter
  pub cap : SitsGiven claims.Ints (look sorts.Arc) m.cap
  pub flow : SitsGiven claims.Ints (look sorts.Arc) m.flow

-- the key of its own seat of a sort, and who sits in it
abbrev pub own_key : ItemSort → KeptKeys → SeatKey
own_key sorts.Node keys = keys.nodes
own_key sorts.Arc keys = keys.arcs

abbrev pub own_role : ItemSort → KeptMaps → Role
own_role sorts.Node m = claims.KeptNodes (not (is_some m.node_filter))
own_role sorts.Arc m = claims.KeptArcs m.shape (not (is_some m.arc_filter))

-- ---- an item is placed

-- its marks by the present values
abbrev pub marks_by : Present → ItemSort → ℕ → Marks
marks_by v sorts.Node id = marks (v.keeps_node id) false false
marks_by v sorts.Arc id = marks (v.keeps_arc id) (can_grow v.cap v.flow id) (can_fall v.flow id)

-- what the observer holds with these marks at the item
abbrev pub marked_with : ℕ → Marks → Seen → Held
marked_with id m s = held.Kept (role_in s) (shows_all s) (marked_set id m (marked_in s))

-- what it holds with marks for each item
abbrev pub all_marked : (ℕ → Marks) → Seen → Held
all_marked m s =
    held.Kept (role_in s) (shows_all s)
    (map (λ (x : Marked). with_marks (m x.fact.id) x.fact) (marked_in s))

-- ---- a world in which an item is still to be placed

-- whether the item of the other sort and id is the one that is to be placed
abbrev pub is_due : (sort : ItemSort) (id : ℕ) (own : ItemSort) (other : ℕ) → Bool
is_due sort id own other = is_sort own sort && other == id

-- every other item is marked by what is said of its id
abbrev pub AreMarkedBut : (ℕ → Bool) → (Marks → Bool) → (ℕ → Bool) → List Marked → Type 0
AreMarkedBut due mark says items =
    AllOf (λ (x : Marked). due x.fact.id ≡ false → mark (marks_at x) ≡ says x.fact.id) items

-- the items of a kept view but one are marked by these values
pub record AreMarkedByBut (v : Present) (due : ItemSort → ℕ → Bool)
    (all_nodes all_arcs : List Marked)
    : Type 0 where
  pub nodes : AreMarkedBut (due sorts.Node) (λ m. m.shown) v.keeps_node all_nodes
  pub arcs : AreMarkedBut (due sorts.Arc) (λ m. m.shown) v.keeps_arc all_arcs
  pub forward : AreMarkedBut (due sorts.Arc) (λ m. m.forward) (can_grow v.cap v.flow)
      all_arcs
  pub backward : AreMarkedBut (due sorts.Arc) (λ m. m.backward) (can_fall v.flow) all_arcs

abbrev pub IsPlacedBut : Look → (ItemSort → ℕ → Bool) → KeptKeys → Type 0
IsPlacedBut look due keys =
    AreMarkedByBut (present_in look keys.maps) due (items_at (look sorts.Node keys.nodes.0))
    (items_at (look sorts.Arc keys.arcs.0))

module _ {O : Type 0} (watch : O → Watched) where
  -- all is in step, but that an item is still to be placed in kept views
  pub record AreUnplaced (sort : ItemSort) (id : ℕ) (w : World O) : Type 0 where
    pub graph : graph.IsInStep (state_of watch w.graph)
    pub seated : AreSeated (claims_of w) (chains_seen watch w.graph.chains)
    pub boxes : AreBoxes watch w.pool.items
    pub snaps : (chains_seen watch w.graph.chains).snaps ≡ map (λ e. e.value) w.snapshots.rows
    pub derived : AreDerived (look_of watch w) w.nodes w.arcs w.attributes.rows
    pub reading : AreReading w.nodes w.arcs (views_of w.views.rows) w.views.rows
    pub placed : AllOf (λ (e : Named ViewRow). IfSome e.value.kept
        (IsPlacedBut (look_of watch w) (is_due sort id))) w.views.rows

-- ---- seats of a kept view come

-- two seats came, of the nodes and of the arcs
pub record SeatsCome (m : KeptMaps) (keys : KeptKeys) (nodes arcs : Seen) (old new : State) : Type 0
  where
    pub maps : keys.maps ≡ m
    pub mid : ChainsSeen
    pub graph : new.graph ≡ old.graph
    pub first : Comes sorts.Node keys.nodes.0 nodes old.chains mid
    pub second : Comes sorts.Arc keys.arcs.0 arcs mid new.chains
    pub nodes_play : Plays (own_role sorts.Node m) nodes
    pub arcs_play : Plays (own_role sorts.Arc m) arcs

abbrev pub SomeSeatsCome : KeptMaps → KeptKeys → State → State → Type 0
SomeSeatsCome m keys old new =
    (nodes : Seen) × (arcs : Seen) × SeatsCome m keys nodes arcs old new

-- each item in them is placed by the present values of these maps
pub record Keeps (m : KeptMaps) (keys : KeptKeys) (old new : State) : Type 0 where
  pub nodes : Seen
  pub arcs : Seen
  pub came : SeatsCome m keys nodes arcs old new
  pub placed : AreMarkedBy (present_in (look_in old.chains) m) (items_seen nodes)
      (items_seen arcs)
