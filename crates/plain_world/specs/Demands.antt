-- What each command demands of the world, a row each.
use Rattle.std.specs.Prelude.{ℕ, Bool, true, false, ◌||◌, List, [], ◌∷◌, ◌++◌, map, find, Option}
use Rattle.std.specs.Prelude.{None, Some, unwrap_or, is_some, option_map, option_to_list}
use Rattle.std.specs.Option.{option_map_or}
use Rattle.std.specs.List.{flat_map}
use Rattle.std.specs.Str.{bytes_eq}
use Rattle.base_items.specs.declared.items.ItemSort.{ItemSort}
use Rattle.base_items.specs.declared.items.ItemSort.TheVariants.{Node, Arc}
use Rattle.lgf_file.specs.Documents.{label as label_column}
use Rattle.script_words.specs.declared.commands.Command.{Command}
use Rattle.script_words.specs.declared.commands.Command.TheVariants as commands
use Rattle.script_words.specs.declared.commands.GuardWord.{GuardWord}
use Rattle.script_words.specs.declared.commands.LayerWord.{LayerWord}
use Rattle.script_words.specs.declared.commands.LayerWord.TheVariants as words
use Rattle.script_words.specs.declared.commands.MapType.{MapType}
use Rattle.script_words.specs.declared.commands.MapType.TheVariants as types
use Rattle.plain_world.specs.Tables.{Name, entry, has_entry}
use Rattle.plain_world.specs.World.{World, Attribute, Plain, Tied, live, label_of}
use Rattle.plain_world.specs.Views.{is_base, node_named, map_of}

-- ---- names that are there

-- the tables in which names stand
pub data Table : Type 0 where
  Labels : ItemSort → Table
  Maps : ItemSort → Table
  Guards : Table
  Snapshots : Table
  Views : Table
  NodesOf : Name → Table  -- the nodes of the view
  KeptViews : Table
  Attributes : Table
  TiedAttributes : Table

-- the item with this label
abbrev pub item_named : World → ItemSort → Name → Option ℕ
item_named world sort name = find (λ id. bytes_eq (label_of world sort id) name) (live world sort)

abbrev pub is_tied : Attribute → Bool
is_tied (Plain text) = false
is_tied (Tied sort id) = true

abbrev pub is_there : World → Table → Name → Bool
is_there world (Labels sort) name = is_some (item_named world sort name)
is_there world (Maps sort) name = bytes_eq name label_column || is_some (map_of world sort name)
is_there world Guards name = has_entry world.guards name
is_there world Snapshots name = has_entry world.snapshots name
is_there world Views name = is_base name || has_entry world.views name
is_there world (NodesOf view) name = is_some (node_named world view name)
is_there world KeptViews name = option_map_or (λ view. view.kept) (entry world.views name) false
is_there world Attributes name = has_entry world.attributes name
is_there world TiedAttributes name = option_map_or is_tied (entry world.attributes name) false

-- ---- demands

-- what a command may demand of the world. Behind each stands the fault that comes where it isn't
-- met.
pub data Demand : Type 0 where
  There : Table → Name → Demand  -- unknown
  New : Table → Name → Demand  -- taken
  HasType : ItemSort → MapType → (map : Name) → Demand  -- wrongType
  HasValues : ItemSort → (map : Name) → Demand  -- wrongType: the labels, a degree or an index
  IsIndex : ItemSort → (map : Name) → Demand  -- wrongType
  IsNoLabel : (map : Name) → Demand  -- wrongType
  TakesFlow : (view map : Name) → Demand  -- wrongType
  CanBeKept : (view : Name) → Demand  -- wrongType
  IsNoBase : (view : Name) → Demand  -- wrongType
  NoneReads : ItemSort → (map : Name) → Demand  -- inUse
  NoneStandsOn : (view : Name) → Demand  -- inUse
  HasLayerLeft : (view : Name) → Demand  -- tooDeep
  HasBox : GuardWord → Demand  -- noGuard
  HasRoom : (nodes arcs : ℕ) → Demand  -- full
  IsSmall : (view : Name) → Demand  -- full
  Differ : (u v : Name) → Demand  -- sameNode
  Spells : ItemSort → (map item text : Name) → Demand  -- badValue
  AllSpell : ItemSort → (map : Name) → MapType → Demand  -- badValue
  TellsLabel : ItemSort → (attribute : Name) → Demand  -- badValue
  ArcsInRange : (view map : Name) → Demand  -- outOfRange
  NodesInRange : (view map : Name) → Demand  -- outOfRange
  ArcsAtLeast : (view : Name) → ℕ → (map : Name) → Demand  -- negative
  InOrder : (view : Name) → (low up : Option Name) → Demand  -- crossed
  JoinsSides : (view left : Name) → Demand  -- notBipartite
  IsValid : (snapshot : Name) → Demand  -- stale
  MeetsLaw : (guard : Name) → ItemSort → GuardWord → (limit : ℕ) → Demand  -- vetoed

-- a demand for a name that may be absent, and one for each of some
abbrev pub given : (Name → Demand) → Option Name → List Demand
given demand name = option_to_list (option_map demand name)

abbrev pub each : (Name → Demand) → List (Option Name) → List Demand
each demand names = flat_map (given demand) names

-- a new view
abbrev pub layer_demands : LayerWord → List Demand → List Demand
layer_demands (words.Sub nodes arcs) new =
    given (There (Maps Node)) nodes ++ given (There (Maps Arc)) arcs ++ new
    ++ given (HasType Node types.Bools) nodes ++ given (HasType Arc types.Bools) arcs
layer_demands (words.Residual cap flow) new =
    There (Maps Arc) cap ∷ There (Maps Arc) flow ∷ new
    ++ HasType Arc types.Ints cap ∷ HasType Arc types.Ints flow ∷ []
layer_demands _ new = new

-- a query of ways from a node
abbrev pub path_demands : Name → Name → Name → List Demand
path_demands view length start =
    There Views view ∷ There (Maps Arc) length ∷ There (NodesOf view) start
    ∷ HasType Arc types.Ints length ∷ IsSmall view ∷ ArcsInRange view length ∷ []

-- a query of flows within bounds
abbrev pub flow_demands : Name → (low up cost supply into : Option Name) → List Demand
flow_demands view low up cost supply into =
    There Views view ∷ each (There (Maps Arc)) (low ∷ up ∷ cost ∷ [])
    ++ given (There (Maps Node)) supply ++ given (There (Maps Arc)) into
    ++ each (HasType Arc types.Ints) (low ∷ up ∷ cost ∷ [])
    ++ given (HasType Node types.Ints) supply ++ given (TakesFlow view) into
    ++ IsSmall view ∷ each (ArcsInRange view) (low ∷ up ∷ cost ∷ [])
    ++ given (NodesInRange view) supply ++ InOrder view low up ∷ []

-- a query of pairs of left and right nodes
abbrev pub pair_demands : Name → Name → Option Name → List Demand
pair_demands view left weight =
    There Views view ∷ There (Maps Node) left ∷ given (There (Maps Arc)) weight
    ++ HasType Node types.Bools left ∷ given (HasType Arc types.Ints) weight
    ++ IsSmall view ∷ given (ArcsInRange view) weight ++ JoinsSides view left ∷ []

-- the demands of each command, in the order of their faults; those of one fault in the order of the
-- words
abbrev pub demands : Command → List Demand
demands (commands.AddNode label) = New (Labels Node) label ∷ HasRoom 1 0 ∷ []
demands (commands.AddArc label from to) =
    There (Labels Node) from ∷ There (Labels Node) to ∷ New (Labels Arc) label ∷ HasRoom 0 1 ∷ []
demands (commands.DelNode node) = There (Labels Node) node ∷ []
demands (commands.DelArc arc) = There (Labels Arc) arc ∷ []
demands (commands.Source arc node) = There (Labels Arc) arc ∷ There (Labels Node) node ∷ []
demands (commands.Target arc node) = There (Labels Arc) arc ∷ There (Labels Node) node ∷ []
demands (commands.Turn arc) = There (Labels Arc) arc ∷ []
demands (commands.Contract u v loops) =
    There (Labels Node) u ∷ There (Labels Node) v ∷ Differ u v ∷ []
demands (commands.SplitNode node label None) =
    There (Labels Node) node ∷ New (Labels Node) label ∷ HasRoom 1 0 ∷ []
demands (commands.SplitNode node label (Some arc_label)) =
    There (Labels Node) node ∷ New (Labels Node) label ∷ New (Labels Arc) arc_label ∷ HasRoom 1 1 ∷
    []
demands (commands.SplitArc arc label arc_label) =
    There (Labels Arc) arc ∷ New (Labels Node) label ∷ New (Labels Arc) arc_label ∷ HasRoom 1 1 ∷ []
demands commands.Clear = []
demands (commands.NodeMap map type) = New (Maps Node) map ∷ []
demands (commands.ArcMap map type) = New (Maps Arc) map ∷ []
demands (commands.Retype sort map type) =
    There (Maps sort) map ∷ HasValues sort map ∷ NoneReads sort map ∷ AllSpell sort map type ∷ []
demands (commands.Set sort map item value) =
    There (Maps sort) map ∷ There (Labels sort) item ∷ HasValues sort map ∷ Spells sort map item
    value ∷ []
demands (commands.Get sort map item) = There (Maps sort) map ∷ There (Labels sort) item ∷ []
demands (commands.Degree map way) = New (Maps Node) map ∷ []
demands (commands.Trues sort index map) =
    There (Maps sort) map ∷ New (Maps sort) index ∷ HasType sort types.Bools map ∷ []
demands (commands.Items sort index) = There (Maps sort) index ∷ IsIndex sort index ∷ []
demands (commands.DropMap sort map) =
    There (Maps sort) map ∷ IsNoLabel map ∷ NoneReads sort map ∷ []
demands (commands.Total sort map) = There (Maps sort) map ∷ HasType sort types.Ints map ∷ []
demands (commands.Least sort map) = There (Maps sort) map ∷ HasType sort types.Ints map ∷ []
demands (commands.Count sort map) = There (Maps sort) map ∷ HasType sort types.Bools map ∷ []
demands (commands.Guard guard sort kind limit) =
    New Guards guard ∷ HasBox kind ∷ MeetsLaw guard sort kind (unwrap_or limit 0) ∷ []
demands (commands.Unguard guard) = There Guards guard ∷ []
demands commands.Guards = []
demands (commands.Snap snapshot) = New Snapshots snapshot ∷ []
demands (commands.Restore snapshot) = There Snapshots snapshot ∷ IsValid snapshot ∷ []
demands (commands.Forget snapshot) = There Snapshots snapshot ∷ []
demands commands.Snaps = []
demands (commands.View view layer below) =
    There Views below ∷ layer_demands layer (New Views view ∷ []) ++ HasLayerLeft below ∷ []
demands (commands.Keep view) = There Views view ∷ New KeptViews view ∷ CanBeKept view ∷ []
demands (commands.Unview view) = There Views view ∷ IsNoBase view ∷ NoneStandsOn view ∷ []
demands (commands.Nodes view) = There Views view ∷ IsSmall view ∷ []
demands (commands.Arcs view) = There Views view ∷ IsSmall view ∷ []
demands (commands.Out view node) = There Views view ∷ There (NodesOf view) node ∷ []
demands (commands.In view node) = There Views view ∷ There (NodesOf view) node ∷ []
demands (commands.Dijkstra view length start) = path_demands view length start
    ++ ArcsAtLeast view 0 length ∷ []
demands (commands.Bellman view length start) = path_demands view length start
demands (commands.MaxFlow view cap s t into) =
    There Views view ∷ There (Maps Arc) cap ∷ There (NodesOf view) s ∷ There (NodesOf view) t ∷
    given (There (Maps Arc)) into
    ++ HasType Arc types.Ints cap ∷ given (TakesFlow view) into
    ++ IsSmall view ∷ Differ s t ∷ ArcsInRange view cap ∷ ArcsAtLeast view 0 cap ∷ []
demands (commands.Circulate view low up supply into) = flow_demands view low up None supply into
demands (commands.MinCost view low up cost supply into) =
    flow_demands view low up (Some cost) supply into
demands (commands.Simplex view low up cost supply into) =
    flow_demands view low up (Some cost) supply into
demands (commands.Match view left) = pair_demands view left None
demands (commands.Heaviest view left weight) = pair_demands view left (Some weight)
demands (commands.Assign view left cost) = pair_demands view left (Some cost)
demands (commands.MeanCycle view length time) =
    There Views view ∷ There (Maps Arc) length ∷ given (There (Maps Arc)) time
    ++ HasType Arc types.Ints length ∷ given (HasType Arc types.Ints) time
    ++ IsSmall view ∷ ArcsInRange view length ∷ given (ArcsInRange view) time
    ++ given (ArcsAtLeast view 1) time
demands (commands.Tie attribute sort) =
    There Attributes attribute ∷ New TiedAttributes attribute ∷ TellsLabel sort attribute ∷ []
demands (commands.Untie attribute) = There TiedAttributes attribute ∷ []
demands (commands.Attr attribute) = There Attributes attribute ∷ []
demands (commands.Relabel sort old new) = There (Labels sort) old ∷ New (Labels sort) new ∷ []
demands (commands.Save file) = []
