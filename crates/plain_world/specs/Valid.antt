-- What holds of every world.
use Rattle.std.specs.Prelude.{◌≡◌, ◌↔◌, ℕ, ◌<◌, Bool, true, false, IsSome, List, [], ◌∷◌, map, All}
use Rattle.std.specs.Prelude.{Option, None, Some, ◌≤◌, Contains}
use Rattle.std.specs.List.{filter_map}
use Rattle.std.specs.FinMap as fin
use Rattle.base_items.specs.declared.items.ItemSort.{ItemSort}
use Rattle.base_items.specs.declared.items.ItemSort.TheVariants.{Node, Arc}
use Rattle.token_text.specs.Names.{is_among, has_twice}
use Rattle.lgf_file.specs.Documents.{label as label_column, dash}
use Rattle.script_words.specs.declared.commands.GuardWord.{GuardWord}
use Rattle.script_words.specs.declared.commands.GuardWord.TheVariants as kinds
use Rattle.script_words.specs.declared.commands.LayerWord.{LayerWord}
use Rattle.script_words.specs.declared.commands.LayerWord.TheVariants as words
use Rattle.script_words.specs.declared.commands.MapType.TheVariants as types
use Rattle.plain_digraph.specs.Digraph.{Digraph, Place}
use Rattle.plain_digraph.specs.Items.{IsLive, facts, stamp_of}
use Rattle.plain_digraph.specs.Valid as digraph
use Rattle.plain_digraph.specs.Copies.{Copy, copy_of}
use Rattle.plain_digraph.specs.RestoreLaws.{Keeps, StampsApart}
use Rattle.plain_world.specs.Tables.{Name, Named}
use Rattle.plain_world.specs.World.{World, Column, Held, Ints, Bools, Texts, Degrees, Trues, Guard}
use Rattle.plain_world.specs.World.{View, Attribute, Plain, Tied, attached}
use Rattle.plain_world.specs.Views.{base, has_type}
use Rattle.plain_world.specs.Refusals.{law_holds}

-- no name stands twice in the table
abbrev pub NamesDiffer : {X : Type 0} → List (Named X) → Type 0
NamesDiffer table = has_twice (map (λ e. e.name) table) ≡ false

-- there is a value at each live item of the sort, and at no other
abbrev pub IsWhole : {X : Type 0} → Digraph → ItemSort → Column X → Type 0
IsWhole graph sort column = (id : ℕ) → IsLive graph sort id ↔ IsSome (fin.get column id)

-- no two items have one label
abbrev pub LabelsDiffer : Column Name → Type 0
LabelsDiffer labels = (id other : ℕ) (name : Name) → fin.get labels id ≡ Some name
    → fin.get labels other ≡ Some name → id ≡ other

abbrev pub IsHeld : World → ItemSort → Held → Type 0
IsHeld world sort (Ints column) = IsWhole world.graph sort column
IsHeld world sort (Bools column) = IsWhole world.graph sort column
IsHeld world sort (Texts column) = IsWhole world.graph sort column
IsHeld world sort (Degrees way) = sort ≡ Node
IsHeld world sort (Trues map) = has_type world sort types.Bools map ≡ true

pub record IsAttached (world : World) (sort : ItemSort) : Type 0 where
  pub labelled : IsWhole world.graph sort (attached world sort).labels
  pub labels_differ : LabelsDiffer (attached world sort).labels
  pub maps_held : All (λ e. IsHeld world sort e.value) (attached world sort).maps
  pub names_differ : NamesDiffer (attached world sort).maps
  pub no_label : is_among label_column (map (λ e. e.name) (attached world sort).maps) ≡ false
  pub no_dash : is_among dash (map (λ e. e.name) (attached world sort).maps) ≡ false

-- a fuse that is attached has something left, and no other guard has
abbrev pub HasLeft : GuardWord → Guard → Type 0
HasLeft kinds.Fuse guard = (0 < guard.left) × (guard.left ≤ guard.limit)
HasLeft kind guard = guard.left ≡ 0

pub record IsGuard (world : World) (guard : Guard) : Type 0 where
  pub lawful : law_holds guard.kind guard.limit (facts world.graph guard.sort) ≡ true
  pub has_left : HasLeft guard.kind guard

-- a stamp in both lists belongs to one arc
abbrev pub StampsAgree : List Place → List Place → Type 0
StampsAgree places others = (id other stamp : ℕ) → stamp_of places id ≡ Some stamp
    → stamp_of others other ≡ Some stamp → id ≡ other

-- a valid snapshot has the copy of a valid digraph, all items of which are live still: its nodes
-- are as they were, and no other arc has a stamp of one of its arcs
pub record IsCopy (graph : Digraph) (copy : Copy) : Type 0 where
  pub copied : Digraph
  pub copied_ok : digraph.IsValid copied
  pub is_copied : copy_of copied ≡ copy
  pub keeps : Keeps copied graph
  pub apart : StampsApart copied graph

abbrev pub IsSnapshot : Digraph → Option Copy → Type 0
IsSnapshot graph None = Unit {0}
IsSnapshot graph (Some copy) = IsCopy graph copy

-- the stamps of all valid snapshots agree too
abbrev pub CopiesAgree : List Copy → Type 0
CopiesAgree copies = (copy other : Copy) → Contains copies copy → Contains copies other
    → StampsAgree copy.by_source other.by_source × StampsAgree copy.by_target other.by_target

-- the maps that a layer names are of the types that it reads
abbrev pub IsNamed : (Name → Bool) → Option Name → Type 0
IsNamed test None = Unit {0}
IsNamed test (Some name) = test name ≡ true

abbrev pub IsLayer : World → LayerWord → Type 0
IsLayer world (words.Sub nodes arcs) = IsNamed (has_type world Node types.Bools) nodes
    × IsNamed (has_type world Arc types.Bools) arcs
IsLayer world (words.Residual cap flow) = (has_type world Arc types.Ints cap ≡ true)
    × (has_type world Arc types.Ints flow ≡ true)
IsLayer world _ = Unit {0}

-- a view stands on an older one, or on the base
abbrev pub StandOnOlder : List Name → List (Named View) → Type 0
StandOnOlder older [] = Unit {0}
StandOnOlder older (view ∷ views) = (is_among view.value.below older ≡ true)
    × StandOnOlder (view.name ∷ older) views

abbrev pub IsAttribute : Digraph → Attribute → Type 0
IsAttribute graph (Plain text) = Unit {0}
IsAttribute graph (Tied sort id) = IsLive graph sort id

pub record IsWorld (world : World) : Type 0 where
  pub graph_ok : digraph.IsValid world.graph
  pub nodes_ok : IsAttached world Node
  pub arcs_ok : IsAttached world Arc
  pub guards_ok : All (λ e. IsGuard world e.value) world.guards
  pub snapshots_ok : All (λ e. IsSnapshot world.graph e.value) world.snapshots
  pub copies_agree : CopiesAgree (filter_map (λ e. e.value) world.snapshots)
  pub views_stand : StandOnOlder (base ∷ []) world.views
  pub layers_ok : All (λ e. IsLayer world e.value.layer) world.views
  pub attributes_ok : All (λ e. IsAttribute world.graph e.value) world.attributes
  pub guards_differ : NamesDiffer world.guards
  pub snapshots_differ : NamesDiffer world.snapshots
  pub views_differ : NamesDiffer world.views
  pub attributes_differ : NamesDiffer world.attributes
