-- The world: a digraph, and all that is attached to it.
use Rattle.std.specs.Prelude.{ℕ, ℤ, Bool, List, [], Option, unwrap_or}
use Rattle.std.specs.Ordering.{nat_cmp}
use Rattle.std.specs.FinMap as fin
use Rattle.base_items.specs.declared.items.ItemSort.{ItemSort}
use Rattle.base_items.specs.declared.items.ItemSort.TheVariants as sorts
use Rattle.script_words.specs.declared.commands.Direction.{Direction}
use Rattle.script_words.specs.declared.commands.GuardWord.{GuardWord}
use Rattle.script_words.specs.declared.commands.LayerWord.{LayerWord}
use Rattle.plain_digraph.specs.Digraph.{Digraph}
use Rattle.plain_digraph.specs.Items.{ids, all_arcs}
use Rattle.plain_digraph.specs.Copies.{Copy}
use Rattle.plain_world.specs.Tables.{Name, Named}

-- a value for each live item of a sort
abbrev pub Column : Type 0 → Type 0
Column X = fin.FinMap nat_cmp X

-- what stands under the name of a map: values, the degrees of nodes, or the items at which the bool
-- map of this name is true
pub data Held : Type 0 where
  Ints : Column ℤ → Held
  Bools : Column Bool → Held
  Texts : Column (List ℕ) → Held
  Degrees : Direction → Held
  Trues : Name → Held

-- what is attached to the items of a sort. No map is named `label`.
pub record Attached : Type 0 where
  pub labels : Column Name
  pub maps : List (Named Held)

-- a guard, with its number where the kind has one, what a fuse has left, and what a tally has
-- counted
pub record Guard : Type 0 where
  pub sort : ItemSort
  pub kind : GuardWord
  pub limit : ℕ
  pub left : ℕ
  pub added : ℕ
  pub erased : ℕ
  pub moved : ℕ

-- a view over another, and whether it is kept
pub record View : Type 0 where
  pub layer : LayerWord
  pub below : Name
  pub kept : Bool

-- an attribute: plain text, or an item to which it is tied
pub data Attribute : Type 0 where
  Plain : List ℕ → Attribute
  Tied : ItemSort → ℕ → Attribute

-- each table is in the order of making, and no name stands twice in it
pub record World : Type 0 where
  pub graph : Digraph
  pub nodes : Attached
  pub arcs : Attached
  pub guards : List (Named Guard)
  pub pool : List GuardWord  -- the kinds of the boxes
  pub snapshots : List (Named (Option Copy))  -- a stale one has no copy
  pub views : List (Named View)  -- but the base
  pub attributes : List (Named Attribute)

-- ---- by sort

abbrev pub attached : World → ItemSort → Attached
attached world sorts.Node = world.nodes
attached world sorts.Arc = world.arcs

abbrev pub with_attached : World → ItemSort → Attached → World
with_attached world sorts.Node now = record world { nodes = now }
with_attached world sorts.Arc now = record world { arcs = now }

-- the live items in the order of the base
abbrev pub live : World → ItemSort → List ℕ
live world sorts.Node = ids world.graph.nodes
live world sorts.Arc = all_arcs world.graph

abbrev pub label_of : World → ItemSort → ℕ → Name
label_of world sort id = unwrap_or (fin.get (attached world sort).labels id) []
