-- The document of a valid world.
use Rattle.std.proofs.Common.{◌≡◌, ℕ, suc, ◌<◌, ◌≤◌, Bool, true, false, cond, refl, sym, ◌∙◌, ap}
use Rattle.std.proofs.Common.{subst, List, [], ◌∷◌, map, filter, length, Option, Some, None}
use Rattle.std.proofs.Common.{is_some}
use Rattle.std.proofs.Common.{All, arith}
use Rattle.std.specs.Prelude.{unwrap_or, ◌==◌}
use Rattle.std.specs.List.{range_with_len}
use Rattle.std.specs.FinMap as fin
use Rattle.std.proofs.lemmas.Bool.{or_from, lt-ltb}
use Rattle.std.proofs.lemmas.List.{length-map}
use Rattle.base_items.specs.declared.items.ItemSort.{ItemSort}
use Rattle.base_items.specs.declared.items.ItemSort.TheVariants.{Node, Arc}
use Rattle.base_items.specs.declared.limits.TheConstants.{MAX_NODES, MAX_ARCS}
use Rattle.token_text.specs.Names.{is_among, has_twice}
use Rattle.lgf_file.specs.Rows.{Cells}
use Rattle.lgf_file.specs.Documents.{label, dash, label_place, label_in, cell_at, labels_of}
use Rattle.lgf_file.specs.Documents.{node_labels}
use Rattle.lgf_file.specs.Documents.{AreColumns, IsTable, IsLink, AreArcs}
use Rattle.plain_digraph.specs.Lists.{has}
use Rattle.plain_digraph.specs.Digraph.{Digraph}
use Rattle.plain_digraph.specs.Items.{IsLive, fact_of, used_of, rising, facts}
use Rattle.plain_digraph.specs.Items.{source_of, target_of}
use Rattle.plain_digraph.specs.Valid as digraph
use Rattle.plain_digraph.proofs.Facts.{named_ids, told_counted}
use Rattle.plain_digraph.proofs.Changes.{live_ends}
use Rattle.plain_digraph.proofs.Rows.{fact_of-id}
use Rattle.plain_digraph.proofs.Shares.{shared_length}
use Rattle.plain_digraph.proofs.Live.{live_ids, free_ids, live_shared, fact_of-has}
use Rattle.plain_digraph.proofs.Live.{live_listed, listed_live, listed_below}
use Rattle.plain_world.specs.Tables.{Name, Named}
use Rattle.plain_world.specs.World.{World, Held, attached, label_of}
use Rattle.plain_world.specs.Documents.{value_maps, columns_of, cells_of, row_of, link_of, doc_of}
use Rattle.plain_world.specs.Effects.{attribute_text}
use Rattle.plain_world.specs.Values.{type_of, text_at}
use Rattle.plain_world.specs.Valid.{IsWorld}
use Rattle.plain_world.specs.Laws.{DocumentsAreValid}
use Rattle.plain_world.proofs.Named.{attached_ok}
use Rattle.plain_world.proofs.Filtered.{names, among_filter, differ_filter, all_passing}
use Rattle.plain_world.proofs.Filtered.{range_listed, labels_once, place_within}

-- ---- columns

columns_ok : (world : World) (sort : ItemSort) → IsWorld world
    → AreColumns (columns_of (attached world sort))
columns_ok world sort ok =
    let items = attached_ok world sort ok in
    let maps = (attached world sort).maps in
    let test : Named Held → Bool = λ e. is_some (type_of e.value) in
    let own = names (value_maps maps) in
    record {
      differ = or_from (is_among label own) (has_twice own)
          (among_filter label test maps items.no_label)
          (differ_filter test maps items.names_differ);
      no_dash = among_filter dash test maps items.no_dash;
    }

wide : (world : World) (sort : ItemSort) (id : ℕ)
    → length (cells_of world sort id) ≡ length (columns_of (attached world sort))
wide world sort id =
    let maps = value_maps (attached world sort).maps in
    ap suc (length-map maps (λ e. text_at e.value id) ∙ sym (length-map maps (λ e. e.name)))

-- ---- the ids of the rows

abbrev is_told : Digraph → ItemSort → ℕ → Bool
is_told g sort id = is_some (fact_of g sort id)

ids_are : (g : Digraph) (sort : ItemSort)
    → rising g sort ≡ filter (is_told g sort) (range_with_len 0 (used_of g sort))
ids_are g sort =
    named_ids (fact_of g sort) (fact_of-id g sort) (range_with_len 0 (used_of g sort))

told_live : (g : Digraph) (sort : ItemSort) (id : ℕ) → digraph.IsValid g
    → is_told g sort id ≡ true → IsLive g sort id
told_live g sort id valid told = listed_live g sort id (sym (fact_of-has g sort id valid) ∙ told)

live_told : (g : Digraph) (sort : ItemSort) (id : ℕ) → digraph.IsValid g → IsLive g sort id
    → is_told g sort id ≡ true
live_told g sort id valid live = fact_of-has g sort id valid ∙ live_listed g sort id live

pub live_rises : (g : Digraph) (sort : ItemSort) (id : ℕ) → digraph.IsValid g → IsLive g sort id
    → has (rising g sort) id ≡ true
live_rises g sort id valid live =
    let below = listed_below g sort id valid (live_listed g sort id live) in
    ap (λ ids. has ids id) (ids_are g sort)
    ∙ range_listed (is_told g sort) 0 (used_of g sort) id (omega arith) (omega (arith, below))
    (live_told g sort id valid live)

rising_counted : (g : Digraph) (sort : ItemSort) → digraph.IsValid g
    → length (rising g sort) ≡ length (live_ids g sort)
rising_counted g sort valid =
    length-map (facts g sort) (λ fact. fact.id)
    ∙ told_counted (fact_of g sort) (fact_of-id g sort) (live_ids g sort) (free_ids g sort)
    (used_of g sort) (live_shared g sort valid) (λ id. fact_of-has g sort id valid)

few : (g : Digraph) (sort : ItemSort) (limit : ℕ) → digraph.IsValid g → used_of g sort ≤ limit
    → length (rising g sort) ≤ limit
few g sort limit valid below =
    let size = rising_counted g sort valid in
    let shared = shared_length (live_ids g sort) (free_ids g sort) (used_of g sort)
    (live_shared g sort valid) in
    omega (arith, size, shared, below)

-- ---- labels

label_first : (columns : Cells) → label_place (label ∷ columns) ≡ Some 0
label_first columns =
    ap (λ b. cond b (Some 0) None) (lt-ltb 0 (suc (length columns)) (omega arith))

label_there : (columns cells : Cells) (name : Name)
    → label_in (label ∷ columns) (name ∷ cells) ≡ name
label_there columns cells name = ap (λ place. cell_at place (name ∷ cells)) (label_first columns)

pub labels_are : (world : World) (sort : ItemSort) (ids : List ℕ)
    → labels_of (columns_of (attached world sort)) (map (cells_of world sort) ids)
    ≡ map (label_of world sort) ids
labels_are world sort [] = refl
labels_are world sort (id ∷ ids) =
    let maps = value_maps (attached world sort).maps in
    let here = label_there (names maps) (map (λ e. text_at e.value id) maps)
    (label_of world sort id) in
    let more = labels_are world sort ids in
    λ i. here i ∷ more i

values_are : (world : World) (ids : List ℕ)
    → map (λ link. link.values) (map (link_of world) ids) ≡ map (cells_of world Arc) ids
values_are world [] = refl
values_are world (id ∷ ids) = ap (λ rows. cells_of world Arc id ∷ rows) (values_are world ids)

some_is : (o : Option Name) → is_some o ≡ true → o ≡ Some (unwrap_or o [])
some_is None some = absurd (unlike some)
  where
    unlike : false ≡ true → ⊥
    unlike e = cc
some_is (Some name) some = refl

one_label : (world : World) (sort : ItemSort) → IsWorld world → (id other : ℕ)
    → IsLive world.graph sort id → IsLive world.graph sort other
    → label_of world sort id ≡ label_of world sort other → id ≡ other
one_label world sort ok id other live also same =
    let items = attached_ok world sort ok in
    let labels = (attached world sort).labels in
    items.labels_differ id other (label_of world sort id)
    (some_is (fin.get labels id) ((items.labelled id).0 live))
    (some_is (fin.get labels other) ((items.labelled other).0 also) ∙ ap Some (sym same))

labels_differ : (world : World) (sort : ItemSort) → IsWorld world
    → has_twice (map (label_of world sort) (rising world.graph sort)) ≡ false
labels_differ world sort ok =
    let g = world.graph in
    ap (λ ids. has_twice (map (label_of world sort) ids)) (ids_are g sort)
    ∙ labels_once (is_told g sort) (label_of world sort)
    (λ id other told also same. one_label world sort ok id other
    (told_live g sort id ok.graph_ok told) (told_live g sort other ok.graph_ok also) same)
    0 (used_of g sort)

-- ---- rows and links

row_ids : (world : World) → List ℕ
row_ids world = rising world.graph Node

nodes_ok : (world : World) → IsWorld world → IsTable (doc_of world).nodes
nodes_ok world ok =
    let g = world.graph in
    let ids = rising g Node in
    record {
      columns_ok = columns_ok world Node ok;
      labelled = refl;
      wide =
          let columns = columns_of world.nodes in
          subst (λ ids.
          All (λ cells. length cells ≡ length columns) (map (cells_of world Node) ids))
          (sym (ids_are g Node))
          (all_passing (is_told g Node) (cells_of world Node)
          (λ cells. length cells ≡ length columns) (λ id told. wide world Node id)
          (range_with_len 0 (used_of g Node)));
      labels_differ = ap has_twice (labels_are world Node ids) ∙ labels_differ world Node ok;
      few =
          let size = length-map ids (cells_of world Node) in
          let below = few g Node MAX_NODES ok.graph_ok ok.graph_ok.few_nodes in
          omega (arith, size, below);
    }

row_within : (world : World) (node : ℕ) → IsWorld world → IsLive world.graph Node node
    → row_of world node < length (node_labels (doc_of world).nodes)
row_within world node ok live =
    let ids = rising world.graph Node in
    let size = ap length (labels_are world Node ids) ∙ length-map ids (label_of world Node) in
    let within = place_within (λ other. other == node) ids (live_rises world.graph Node node
    ok.graph_ok live) in
    subst (λ n. row_of world node < n) (sym size) within

link_ok : (world : World) (arc : ℕ) → IsWorld world → IsLive world.graph Arc arc
    → IsLink (node_labels (doc_of world).nodes) (columns_of world.arcs) (link_of world arc)
link_ok world arc ok live =
    let ends = live_ends world.graph arc ok.graph_ok live in (
      row_within world (source_of world.graph arc) ok ends.0,
      row_within world (target_of world.graph arc) ok ends.1,
      wide world Arc arc,
    )

arcs_ok : (world : World) → IsWorld world
    → AreArcs (node_labels (doc_of world).nodes) (doc_of world).arc_columns (doc_of world).arcs
arcs_ok world ok =
    let g = world.graph in
    let ids = rising g Arc in
    let own = node_labels (doc_of world).nodes in
    let columns = columns_of world.arcs in
    record {
      columns_ok = columns_ok world Arc ok;
      links =
          subst (λ ids. All (IsLink own columns) (map (link_of world) ids)) (sym (ids_are g Arc))
          (all_passing (is_told g Arc) (link_of world) (IsLink own columns)
          (λ id told. link_ok world id ok (told_live g Arc id ok.graph_ok told))
          (range_with_len 0 (used_of g Arc)));
      labels_differ = λ labelled.
          ap (λ rows. has_twice (labels_of columns rows)) (values_are world ids)
          ∙ (ap has_twice (labels_are world Arc ids) ∙ labels_differ world Arc ok);
      few =
          let size = length-map ids (link_of world) in
          let below = few g Arc MAX_ARCS ok.graph_ok ok.graph_ok.few_arcs in
          omega (arith, size, below);
    }

attribute_names : {X : Type 0} (text : X → Name) (es : List (Named X))
    → map (λ (a : Name × Name). a.0) (map (λ e. (e.name, text e.value)) es) ≡ names es
attribute_names text [] = refl
attribute_names text (e ∷ es) = ap (λ more. e.name ∷ more) (attribute_names text es)

pub document_ok : DocumentsAreValid
document_ok world ok = record {
  nodes_ok = nodes_ok world ok;
  arcs_ok = arcs_ok world ok;
  attributes_ok =
      ap has_twice (attribute_names (attribute_text world) world.attributes)
      ∙ ok.attributes_differ;
}
