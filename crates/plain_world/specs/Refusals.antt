-- Why a command is refused: the fault of each demand that isn't met, and the veto of a guard.
use Rattle.std.specs.Prelude.{ℕ, ◌+◌, ℤ, pos, Bool, true, false, ◌&&◌, not, cond, nat_lt, int_lt}
use Rattle.std.specs.Prelude.{unsigned_abs, codes, List, [], ◌∷◌, map, length, find, Option, None}
use Rattle.std.specs.Prelude.{Some, is_some, option_map, option_and_then, nat_le}
use Rattle.std.specs.Option.{option_map_or, option_or}
use Rattle.std.specs.List.{list_any}
use Rattle.std.specs.Str.{bytes_eq}
use Rattle.base_items.specs.declared.items.Fact.{Fact}
use Rattle.base_items.specs.declared.items.ItemSort.{ItemSort}
use Rattle.base_items.specs.declared.items.ItemSort.TheVariants.{Node, Arc}
use Rattle.base_items.specs.declared.limits.TheConstants.{MAX_NODES, MAX_ARCS, MAX_LAYERS}
use Rattle.base_items.specs.declared.limits.TheConstants.{VALUE_LIMIT}
use Rattle.lgf_file.specs.Documents.{label as label_column}
use Rattle.script_words.specs.declared.commands.Command.{Command}
use Rattle.script_words.specs.declared.commands.GuardWord.{GuardWord}
use Rattle.script_words.specs.declared.commands.GuardWord.TheVariants as kinds
use Rattle.script_words.specs.declared.commands.MapType.{MapType}
use Rattle.script_words.specs.declared.commands.MapType.TheVariants as types
use Rattle.report_text.specs.declared.faults.Fault.{Fault}
use Rattle.report_text.specs.declared.faults.Fault.TheVariants as faults
use Rattle.plain_digraph.specs.Digraph.{Digraph}
use Rattle.plain_digraph.specs.Items.{facts, count_of}
use Rattle.plain_digraph.specs.Guards.{has_at_most, has_no_loop, is_simple, has_few_from_each}
use Rattle.plain_digraph.specs.Alterations.{Alteration, refusable_steps, vetoer}
use Rattle.plain_views.specs.Shown.{ShownArc}
use Rattle.plain_views.specs.Towers.{Layer, Sub, Undirect, Residual}
use Rattle.plain_world.specs.Tables.{Name, Named, entry, oldest}
use Rattle.plain_world.specs.World.{World, Guard, Held, Trues, Attribute, Plain, Tied, attached}
use Rattle.plain_world.specs.World.{live, label_of}
use Rattle.plain_world.specs.Values.{type_of, spells, text_at}
use Rattle.plain_world.specs.Views.{is_base, map_of, has_type, tower_of, shown_by, arcs_of}
use Rattle.plain_world.specs.Views.{arc_value, node_value, is_left, arc_name, node_name, reads}
use Rattle.plain_world.specs.Demands as demand
use Rattle.plain_world.specs.Demands.{Demand, is_there, item_named, demands}
use Rattle.plain_world.specs.Altering.{alteration_of}

-- ---- words

abbrev pub unless : Bool → Fault → Option Fault
unless met fault = cond met None (Some fault)

-- the first of some faults
abbrev pub first_of : List (Option Fault) → Option Fault
first_of [] = None
first_of (fault ∷ others) = option_or fault (first_of others)

-- ---- maps and views

abbrev pub has_values : World → ItemSort → Name → Bool
has_values world sort map = is_some (option_and_then type_of (map_of world sort map))

abbrev pub is_index : Held → Bool
is_index (Trues map) = true
is_index _ = false

abbrev pub is_index_of : Name → Held → Bool
is_index_of name (Trues map) = bytes_eq map name
is_index_of name _ = false

-- the oldest view that reads the map, or else the oldest index of it
abbrev pub reader_of : World → ItemSort → Name → Option Name
reader_of world sort map =
    option_or (oldest (λ view. reads sort map view.layer) world.views)
    (oldest (is_index_of map) (attached world sort).maps)

-- one sub, one residual, or a residual over a sub
abbrev pub can_be_kept : List (Layer Name) → Bool
can_be_kept (Sub nodes arcs ∷ []) = true
can_be_kept (Residual cap flow ∷ []) = true
can_be_kept (Residual cap flow ∷ Sub nodes arcs ∷ []) = true
can_be_kept _ = false

-- whether an arc of the base is shown once at most, as it goes
abbrev pub has_single_arcs : List (Layer Name) → Bool
has_single_arcs [] = true
has_single_arcs (Undirect ∷ below) = false
has_single_arcs (Residual cap flow ∷ below) = false
has_single_arcs (_ ∷ below) = has_single_arcs below

-- nodes come before arcs
abbrev pub above_limits : (nodes arcs : ℕ) → Option Fault
above_limits nodes arcs =
    option_or (unless (nat_le nodes MAX_NODES) (faults.Full Node MAX_NODES))
    (unless (nat_le arcs MAX_ARCS) (faults.Full Arc MAX_ARCS))

-- ---- values

-- the first item whose value isn't spelled as one of the type
abbrev pub unspelled : World → ItemSort → MapType → Held → Option Fault
unspelled world sort type held =
    option_map (λ id. faults.BadValue (label_of world sort id) (text_at held id))
    (find (λ id. not (spells type (text_at held id))) (live world sort))

-- the plain text of an attribute that is no label
abbrev pub unlabelled : World → ItemSort → Name → Attribute → Option Fault
unlabelled world sort name (Plain text) =
    unless (is_some (item_named world sort text)) (faults.BadValue name text)
unlabelled world sort name (Tied other id) = None

abbrev pub is_too_large : ℤ → Bool
is_too_large value = nat_lt VALUE_LIMIT (unsigned_abs value)

-- the first arc of the view that passes, and the first node
abbrev pub first_arc : World → Name → (ShownArc → Bool) → (ShownArc → Fault) → Option Fault
first_arc world view test fault = option_map fault (find test (arcs_of world view))

abbrev pub first_node : World → Name → (ℕ → Bool) → (ℕ → Fault) → Option Fault
first_node world view test fault = option_map fault (find test (shown_by world view).nodes)

-- an absent lower bound is 0
abbrev pub lower_bound : World → Name → Option Name → ℕ → ℤ
lower_bound world view low arc = option_map_or (λ map. arc_value world view map arc) low (pos 0)

-- whether the upper bound, where there is one, is below the lower one
abbrev pub is_crossed : World → Name → Option Name → Option Name → ℕ → Bool
is_crossed world view low up arc =
    option_map_or (λ map. int_lt (arc_value world view map arc) (lower_bound world view low arc)) up
    false

-- whether both ends of the arc are on one side
abbrev pub is_one_sided : (ℕ → Bool) → ShownArc → Bool
is_one_sided left arc = cond (left arc.from) (left arc.to) (not (left arc.to))

-- ---- guards

abbrev pub kind_word : GuardWord → Name
kind_word kinds.Quota = codes "quota"
kind_word kinds.Loopless = codes "loopless"
kind_word kinds.Simple = codes "simple"
kind_word kinds.OutCap = codes "outcap"
kind_word kinds.Fuse = codes "fuse"
kind_word kinds.Tally = codes "tally"

abbrev pub is_kind : GuardWord → GuardWord → Bool
is_kind kind other = bytes_eq (kind_word kind) (kind_word other)

-- the law of a guard, of the facts of its sort
abbrev pub law_holds : GuardWord → ℕ → List Fact → Bool
law_holds kinds.Quota limit facts = has_at_most limit facts
law_holds kinds.Loopless limit facts = has_no_loop facts
law_holds kinds.Simple limit facts = is_simple facts
law_holds kinds.OutCap limit facts = has_few_from_each limit facts
law_holds kinds.Fuse limit facts = true
law_holds kinds.Tally limit facts = true

abbrev pub is_sort : ItemSort → ItemSort → Bool
is_sort Node Node = true
is_sort Arc Arc = true
is_sort _ _ = false

-- whether the guard is told of items of this sort, and the digraph breaks its law
abbrev pub refuses : Named Guard → ItemSort → Digraph → Bool
refuses guard sort graph = is_sort guard.value.sort sort
    && not (law_holds guard.value.kind guard.value.limit (facts graph sort))

-- the oldest guard that refuses the earliest step that one refuses
abbrev pub veto_of : World → Alteration → Option Fault
veto_of world alteration =
    option_map (λ guard. faults.Vetoed guard.name)
    (vetoer refuses world.guards world.graph (refusable_steps world.graph alteration))

-- ---- refusals

-- the fault of a demand, where it isn't met
abbrev pub breach : World → Demand → Option Fault
breach world (demand.There table name) = unless (is_there world table name) (faults.Unknown name)
breach world (demand.New table name) = unless (not (is_there world table name)) (faults.Taken name)
breach world (demand.HasType sort type map) =
    unless (has_type world sort type map) (faults.WrongType map)
breach world (demand.HasValues sort map) = unless (has_values world sort map) (faults.WrongType map)
breach world (demand.IsIndex sort map) =
    unless (option_map_or is_index (map_of world sort map) false) (faults.WrongType map)
breach world (demand.IsNoLabel map) =
    unless (not (bytes_eq map label_column)) (faults.WrongType map)
breach world (demand.TakesFlow view map) =
    unless (has_type world Arc types.Ints map && has_single_arcs (tower_of world view))
    (faults.WrongType map)
breach world (demand.CanBeKept view) =
    unless (can_be_kept (tower_of world view)) (faults.WrongType view)
breach world (demand.IsNoBase view) = unless (not (is_base view)) (faults.WrongType view)
breach world (demand.NoneReads sort map) = option_map faults.InUse (reader_of world sort map)
breach world (demand.NoneStandsOn view) =
    option_map faults.InUse (oldest (λ other. bytes_eq other.below view) world.views)
breach world (demand.HasLayerLeft view) =
    unless (nat_lt (length (tower_of world view)) MAX_LAYERS) (faults.TooDeep MAX_LAYERS)
breach world (demand.HasBox kind) =
    unless (list_any (is_kind kind) world.pool) (faults.NoGuard (kind_word kind))
breach world (demand.HasRoom nodes arcs) =
    above_limits (count_of world.graph Node + nodes) (count_of world.graph Arc + arcs)
breach world (demand.IsSmall view) =
    above_limits (length (shown_by world view).nodes) (length (shown_by world view).by_source)
breach world (demand.Differ u v) = unless (not (bytes_eq u v)) (faults.SameNode u)
breach world (demand.Spells sort map item text) =
    option_and_then (λ type. unless (spells type text) (faults.BadValue item text))
    (option_and_then type_of (map_of world sort map))
breach world (demand.AllSpell sort map type) =
    option_and_then (unspelled world sort type) (map_of world sort map)
breach world (demand.TellsLabel sort attribute) =
    option_and_then (unlabelled world sort attribute) (entry world.attributes attribute)
breach world (demand.ArcsInRange view map) =
    first_arc world view (λ arc. is_too_large (arc_value world view map arc.id))
    (λ arc. faults.OutOfRange (arc_name world view arc.id) (arc_value world view map arc.id))
breach world (demand.NodesInRange view map) =
    first_node world view (λ node. is_too_large (node_value world view map node))
    (λ node. faults.OutOfRange (node_name world view node) (node_value world view map node))
breach world (demand.ArcsAtLeast view least map) =
    first_arc world view (λ arc. int_lt (arc_value world view map arc.id) (pos least))
    (λ arc. faults.Negative (arc_name world view arc.id))
breach world (demand.InOrder view low up) =
    first_arc world view (λ arc. is_crossed world view low up arc.id)
    (λ arc. faults.Crossed (arc_name world view arc.id))
breach world (demand.JoinsSides view left) =
    first_arc world view (is_one_sided (is_left world view left))
    (λ arc. faults.NotBipartite (arc_name world view arc.id))
breach world (demand.IsValid snapshot) =
    option_and_then (λ copy. unless (is_some copy) (faults.Stale snapshot))
    (entry world.snapshots snapshot)
breach world (demand.MeetsLaw guard sort kind limit) =
    unless (law_holds kind limit (facts world.graph sort)) (faults.Vetoed guard)

-- the first fault by which the command is refused, if any. The veto of an alteration comes last.
abbrev pub refusal_of : World → Command → Option Fault
refusal_of world command =
    option_or (first_of (map (breach world) (demands command)))
    (option_and_then (veto_of world) (alteration_of world command))
