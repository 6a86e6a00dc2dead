-- The world of a document before its rows are read: no item has a label, and each has an empty text
-- in each map.
use Rattle.std.specs.Prelude.{◌≡◌, ℕ, List, [], map, cond, Some, None}
use Rattle.std.specs.FinMap as fin
use Rattle.base_items.specs.declared.items.Fact.{Fact}
use Rattle.base_items.specs.declared.items.ItemSort.TheVariants.{Node, Arc}
use Rattle.lgf_file.specs.Rows.{Cells}
use Rattle.lgf_file.specs.declared.documents.Link.{Link}
use Rattle.script_words.specs.declared.commands.GuardWord.{GuardWord}
use Rattle.plain_digraph.specs.Digraph.{Digraph}
use Rattle.plain_digraph.specs.Items.{facts, IsLive}
use Rattle.plain_digraph.specs.Facts.{fact_id}
use Rattle.observe_core.specs.Items.{has_id}
use Rattle.plain_world.specs.Tables.{Name, Named, under}
use Rattle.plain_world.specs.World.{World, Column, Held, Texts, Attribute, Plain}
use Rattle.plain_world.specs.Documents.{label_place, item_texts}
use Rattle.desk_world.specs.Loading.{with_nodes, with_arcs}

-- an empty text for each of the items, and nothing else
abbrev pub AreBlank : List Fact → Column (List ℕ) → Type 0
AreBlank live m =
    (q : ℕ) → fin.get m q ≡ cond (has_id fact_id q live) (Some []) None

-- a map for each of the names
abbrev pub blanks : Cells → Column (List ℕ) → List (Named Held)
blanks names m = map (λ name. under name (Texts m)) names

abbrev pub plain_attributes : List (Name × Name) → List (Named Attribute)
plain_attributes attributes = map (λ a. under a.0 (Plain a.1)) attributes

-- a document's own columns, but that of the labels
abbrev pub own_columns : Cells → Cells
own_columns columns = item_texts (label_place columns) columns

module _ (names arc_names : Cells) (pool : List GuardWord) (attributes : List (Name × Name)) where
  -- the world over a digraph in which nothing was read but the columns and the attributes
  abbrev pub blank_world : Digraph → Column (List ℕ) → Column (List ℕ) → World
  blank_world g m n = record {
    graph = g;
    nodes = record { labels = fin.empty; maps = blanks names m };
    arcs = record { labels = fin.empty; maps = blanks arc_names n };
    guards = [];
    pool = pool;
    snapshots = [];
    views = [];
    attributes = plain_attributes attributes;
  }

  -- each item has empty texts and no label
  pub record IsBlank (world : World) : Type 0 where
    pub node_column : Column (List ℕ)
    pub arc_column : Column (List ℕ)
    pub node_texts : AreBlank (facts world.graph Node) node_column
    pub arc_texts : AreBlank (facts world.graph Arc) arc_column
    pub is : world ≡ blank_world world.graph node_column arc_column

-- a blank world over the first digraph becomes one over the second by a node for each row
abbrev pub NodesLead : List Cells → Digraph → Digraph → Type 0
NodesLead rows g h = (names arc_names : Cells) (pool : List GuardWord)
    (attributes : List (Name × Name)) (world : World) → world.graph ≡ g
    → IsBlank names arc_names pool attributes world
    → ((with_nodes world rows).graph ≡ h)
    × IsBlank names arc_names pool attributes (with_nodes world rows)

-- and by these arcs
abbrev pub ArcsLead : List Link → Digraph → Digraph → Type 0
ArcsLead links g h = (names arc_names : Cells) (pool : List GuardWord)
    (attributes : List (Name × Name)) (world : World) → world.graph ≡ g
    → IsBlank names arc_names pool attributes world
    → ((with_arcs world links).graph ≡ h)
    × IsBlank names arc_names pool attributes (with_arcs world links)

-- both ends of the arc are live
abbrev pub HasLiveEnds : Digraph → Link → Type 0
HasLiveEnds g link = IsLive g Node link.from × IsLive g Node link.to
