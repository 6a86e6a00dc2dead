-- The world of a valid document.
use Rattle.std.proofs.Common.{◌≡◌, ℕ, zero, suc, ◌+◌, ◌<◌, ◌≤◌, true, false, refl, sym, ◌∙◌, ap}
use Rattle.std.proofs.Common.{subst, List, [], ◌∷◌, ◌++◌, map, length, Option, Some, None, is_some}
use Rattle.std.proofs.Common.{All, inl, inr, arith}
use Rattle.std.specs.Prelude.{fold, ◌==◌}
use Rattle.std.specs.List.{range_with_len, filter_map}
use Rattle.std.specs.Ordering.{nat_cmp}
use Rattle.std.specs.FinMap as fin
use Rattle.std.specs.Str.{bytes_eq}
use Rattle.std.proofs.lemmas.Bool.{or_parts, or_left, or_right, eq-eqb, cases_eq, true≢false}
use Rattle.std.proofs.lemmas.Option.{none-some, same_Some}
use Rattle.std.proofs.lemmas.List.{append-nil, length-map}
use Rattle.std.proofs.lemmas.List.Elements.{All-nil, All-map, All-head, All-tail}
use Rattle.std.proofs.lemmas.List.Sorted.{list_any-IsPermutation}
use Rattle.std.proofs.lemmas.Slice.Eq.{bytes_eq-Decides}
use Rattle.base_items.specs.declared.items.ItemSort.{ItemSort}
use Rattle.base_items.specs.declared.items.ItemSort.TheVariants.{Node, Arc}
use Rattle.base_items.specs.declared.limits.TheConstants.{MAX_NODES, MAX_ARCS}
use Rattle.token_text.specs.Names.{is_among, has_twice}
use Rattle.lgf_file.specs.Rows.{Cells}
use Rattle.lgf_file.specs.Documents.{label as label_column, dash, label_in, IsDoc}
use Rattle.lgf_file.specs.Documents.{AreColumns, IsLink, node_labels}
use Rattle.lgf_file.specs.declared.documents.Doc.{Doc}
use Rattle.lgf_file.specs.declared.documents.Link.{Link}
use Rattle.script_words.specs.declared.commands.GuardWord.{GuardWord}
use Rattle.plain_digraph.specs.Lists.{has}
use Rattle.plain_digraph.specs.Digraph as plain
use Rattle.plain_digraph.specs.Digraph.{Digraph}
use Rattle.plain_digraph.specs.Items.{ids, IsLive}
use Rattle.plain_digraph.specs.Steps.{new_node, new_arc, add_node, add_arc, next_id, used_after}
use Rattle.plain_digraph.specs.PlainSteps.{Change, Untouched, Added, AddNode, AddArc, change_of}
use Rattle.plain_digraph.specs.Lists.{all_but_first}
use Rattle.plain_digraph.specs.Valid as digraph
use Rattle.plain_digraph.specs.Copies.{Copy}
use Rattle.plain_digraph.proofs.Additions.{valid_with_node, valid_with_arc}
use Rattle.plain_digraph.proofs.Changes.{valid_empty}
use Rattle.plain_digraph.proofs.Shares.{shared_length}
use Rattle.plain_digraph.proofs.Keys.{get_new, get_other}
use Rattle.plain_digraph.proofs.Live.{live_listed, listed_below, live_counted}
use Rattle.plain_world.specs.Tables.{Name, Named, under, each_changed}
use Rattle.plain_world.specs.World.{World, Column, Texts, Attribute, Plain}
use Rattle.plain_world.specs.Views.{base}
use Rattle.plain_world.specs.Following.{attached_after, guard_after, snapshot_after}
use Rattle.plain_world.specs.Following.{attribute_after}
use Rattle.plain_world.specs.Documents.{label_place, item_label, item_texts, with_row, with_link}
use Rattle.plain_world.specs.Documents.{with_texts, no_items, opened}
use Rattle.plain_world.specs.Valid.{IsWorld, IsGuard, IsSnapshot, IsLayer, IsAttribute, CopiesAgree}
use Rattle.plain_world.specs.Valid.{StandOnOlder}
use Rattle.plain_world.specs.Laws.{LoadedWorldsAreValid}
use Rattle.plain_world.proofs.Filtered.{names}
use Rattle.plain_world.proofs.Attaching.{IsKept, IsUnused, Holds, kept_after, kept_texts}
use Rattle.plain_world.proofs.Attaching.{kept_labelled, to_attached}
use Rattle.plain_world.proofs.Living.{node_follows, arc_follows}
use Rattle.plain_world.proofs.RowLabels.{row_labels, labels_apart, label_in_front}

abbrev plain_attributes : List (Name × Name) → List (Named Attribute)
plain_attributes attributes = map (λ attribute. under attribute.0 (Plain attribute.1)) attributes

-- a world while the rows of a document are put to it, after so many nodes and arcs
record Loading (doc : Doc) (nodes arcs : ℕ) (world : World) : Type 0 where
  graph_ok : digraph.IsValid world.graph
  nodes_ok : IsKept world.graph Node None world.nodes
  arcs_ok : IsKept world.graph Arc None world.arcs
  used_nodes : world.graph.used_nodes ≡ nodes
  used_arcs : world.graph.used_arcs ≡ arcs
  no_free_node : world.graph.free_nodes ≡ []
  no_free_arc : world.graph.free_arcs ≡ []
  stamps : world.graph.stamps ≡ nodes + arcs
  no_guard : world.guards ≡ []
  no_snapshot : world.snapshots ≡ []
  no_view : world.views ≡ []
  attributes_are : world.attributes ≡ plain_attributes doc.attributes

-- plain attributes stay
plain_stay : (change : ItemSort → Change) (attributes : List (Name × Name))
    → each_changed (attribute_after change) (plain_attributes attributes)
    ≡ plain_attributes attributes
plain_stay change [] = refl
plain_stay change (a ∷ attributes) =
    ap (λ rest. under a.0 (Plain a.1) ∷ rest) (plain_stay change attributes)

-- ---- a row

module _ (doc : Doc) where
  row_ok : (place : Option ℕ) (cells : Cells) (world : World) (nodes : ℕ)
      → Loading doc nodes 0 world → nodes < MAX_NODES
      → IsUnused world.nodes.labels (item_label place cells nodes)
      → Loading doc (suc nodes) 0 (with_row place world cells)
  row_ok place cells world nodes now room unused =
      let g = world.graph in
      let h = add_node g in
      let new = new_node g in
      let is_next : new ≡ nodes = λ i. next_id (now.no_free_node i) (now.used_nodes i) in
      let unused_new : IsUnused world.nodes.labels (item_label place cells new) =
      subst (λ n. IsUnused world.nodes.labels (item_label place cells n)) (sym is_next) unused in
      let follows = node_follows g now.graph_ok in
      let size = shared_length (ids g.nodes) g.free_nodes g.used_nodes now.graph_ok.node_ids in
      let count = length-map g.nodes (λ p. p.0) in
      let used = now.used_nodes in
      let stamps = now.stamps in
      let added = kept_after g h Node (Added new) None world.nodes follows refl now.nodes_ok in
      let items = attached_after (Added new) world.nodes in
      let texts = item_texts place cells in
      let told = kept_texts h Node (Some new) items new texts follows.1 added in
      let used_now : used_after g.free_nodes g.used_nodes ≡ nodes + 1 =
      λ i. used_after (now.no_free_node i) (used i) in
      record {
        graph_ok = valid_with_node g now.graph_ok
            (omega (arith, size, count, used, room), omega (arith, stamps, room));
        nodes_ok =
            kept_labelled h Node (record items { maps = with_texts items.maps new texts }) new
            (item_label place cells new) follows.1 unused_new told;
        arcs_ok = kept_after g h Arc Untouched None world.arcs (λ x. (λ is. is, λ is. is)) tt
            now.arcs_ok;
        used_nodes = omega (arith, used_now);
        used_arcs = now.used_arcs;
        no_free_node = ap all_but_first now.no_free_node;
        no_free_arc = now.no_free_arc;
        stamps = omega (arith, stamps);
        no_guard = ap (each_changed (guard_after (change_of g AddNode))) now.no_guard;
        no_snapshot = ap (map (λ e. under e.name (snapshot_after g AddNode e.value)))
            now.no_snapshot;
        no_view = now.no_view;
        attributes_are = ap (each_changed (attribute_after (change_of g AddNode)))
            now.attributes_are ∙ plain_stay (change_of g AddNode) doc.attributes;
      }

  link_ok : (place : Option ℕ) (link : Link) (world : World) (nodes arcs : ℕ)
      → Loading doc nodes arcs world → nodes ≤ MAX_NODES → arcs < MAX_ARCS
      → IsLive world.graph Node link.from → IsLive world.graph Node link.to
      → IsUnused world.arcs.labels (item_label place link.values arcs)
      → Loading doc nodes (suc arcs) (with_link place world link)
  link_ok place link world nodes arcs now few room from_live to_live unused =
      let g = world.graph in
      let step = AddArc link.from link.to in
      let h = add_arc g link.from link.to in
      let new = new_arc g in
      let is_next : new ≡ arcs = λ i. next_id (now.no_free_arc i) (now.used_arcs i) in
      let unused_new : IsUnused world.arcs.labels (item_label place link.values new) =
      subst (λ n. IsUnused world.arcs.labels (item_label place link.values n)) (sym is_next)
      unused in
      let follows = arc_follows g link.from link.to now.graph_ok in
      let size = shared_length (fin.keys g.ends) g.free_arcs g.used_arcs now.graph_ok.arc_ids in
      let count = live_counted g Arc now.graph_ok in
      let used = now.used_arcs in
      let stamps = now.stamps in
      let added = kept_after g h Arc (Added new) None world.arcs follows refl now.arcs_ok in
      let items = attached_after (Added new) world.arcs in
      let texts = item_texts place link.values in
      let told = kept_texts h Arc (Some new) items new texts follows.1 added in
      let used_now : used_after g.free_arcs g.used_arcs ≡ arcs + 1 =
      λ i. used_after (now.no_free_arc i) (used i) in
      record {
        graph_ok = valid_with_arc g link.from link.to now.graph_ok
            (omega (arith, size, count, used, room), omega (arith, stamps, few, room))
            from_live to_live;
        nodes_ok = kept_after g h Node Untouched None world.nodes (λ x. (λ is. is, λ is. is)) tt
            now.nodes_ok;
        arcs_ok =
            kept_labelled h Arc (record items { maps = with_texts items.maps new texts }) new
            (item_label place link.values new) follows.1 unused_new told;
        used_nodes = now.used_nodes;
        used_arcs = omega (arith, used_now);
        no_free_node = now.no_free_node;
        no_free_arc = ap all_but_first now.no_free_arc;
        stamps = omega (arith, stamps);
        no_guard = ap (each_changed (guard_after (change_of g step))) now.no_guard;
        no_snapshot = ap (map (λ e. under e.name (snapshot_after g step e.value)))
            now.no_snapshot;
        no_view = now.no_view;
        attributes_are = ap (each_changed (attribute_after (change_of g step)))
            now.attributes_are ∙ plain_stay (change_of g step) doc.attributes;
      }

-- ---- all rows

-- no label is among these names
abbrev AreApart : Column Name → List Name → Type 0
AreApart labels others = (id : ℕ) (name : Name) → fin.get labels id ≡ Some name
    → is_among name others ≡ false

same_name : (name : Name) → bytes_eq name name ≡ true
same_name name = (bytes_eq-Decides name name).1 refl

-- the first of the names isn't used
first_unused : (labels : Column Name) (name : Name) (others : List Name)
    → AreApart labels (name ∷ others) → IsUnused labels name
first_unused labels name others apart id is =
    let parts = or_parts (bytes_eq name name) (is_among name others) (apart id name is) in
    true≢false (sym (same_name name) ∙ parts.0)

-- once it is, the others aren't
rest_apart : (labels : Column Name) (new : ℕ) (name : Name) (others : List Name)
    → has_twice (name ∷ others) ≡ false → AreApart labels (name ∷ others)
    → AreApart (fin.insert labels new name) others
rest_apart labels new name others differ apart id own is = elim (cases_eq id new) [
  | inl same ↦
      let named = same_Some name own (sym (get_new labels new name)
      ∙ (ap (fin.get (fin.insert labels new name)) (sym same) ∙ is)) in
      subst (λ n. is_among n others ≡ false) named
      (or_parts (is_among name others) (has_twice others) differ).0
  | inr other ↦
      (or_parts (bytes_eq own name) (is_among own others)
      (apart id own (sym (get_other labels new name id other) ∙ is))).1
]

module _ (doc : Doc) where
  rows_ok : (place : Option ℕ) (rows : List Cells) (world : World) (nodes : ℕ)
      → Loading doc nodes 0 world → nodes + length rows ≤ MAX_NODES
      → has_twice (row_labels place nodes rows) ≡ false
      → AreApart world.nodes.labels (row_labels place nodes rows)
      → Loading doc (nodes + length rows) 0 (fold (with_row place) world rows)
  rows_ok place [] world nodes now few differ apart =
      subst (λ n. Loading doc n 0 world) (omega arith) now
  rows_ok place (cells ∷ rows) world nodes now few differ apart =
      let name = item_label place cells nodes in
      let others = row_labels place (suc nodes) rows in
      let new = new_node world.graph in
      let is_next : new ≡ nodes = λ i. next_id (now.no_free_node i) (now.used_nodes i) in
      let next = row_ok doc place cells world nodes now (omega (arith, few))
      (first_unused world.nodes.labels name others apart) in
      let further : AreApart (fin.insert world.nodes.labels new (item_label place cells new))
      others =
      subst (λ n. AreApart (fin.insert world.nodes.labels new (item_label place cells n)) others)
      (sym is_next) (rest_apart world.nodes.labels new name others differ apart) in
      subst (λ n. Loading doc n 0 (fold (with_row place) (with_row place world cells) rows))
      (omega arith)
      (rows_ok place rows (with_row place world cells) (suc nodes) next (omega (arith, few))
      (or_parts (is_among name others) (has_twice others) differ).1 further)

  links_ok : (place : Option ℕ) (labels : List Name) (links : List Link) (world : World)
      (nodes arcs : ℕ) (columns : Cells) → length labels ≡ nodes
      → Loading doc nodes arcs world → nodes ≤ MAX_NODES → arcs + length links ≤ MAX_ARCS
      → All (IsLink labels columns) links
      → has_twice (row_labels place arcs (map (λ link. link.values) links)) ≡ false
      → AreApart world.arcs.labels (row_labels place arcs (map (λ link. link.values) links))
      → Loading doc nodes (arcs + length links) (fold (with_link place) world links)
  links_ok place labels [] world nodes arcs columns size now few room are differ apart =
      subst (λ n. Loading doc nodes n world) (omega arith) now
  links_ok place labels (link ∷ links) world nodes arcs columns size now few room are differ apart =
      let name = item_label place link.values arcs in
      let others = row_labels place (suc arcs) (map (λ link. link.values) links) in
      let new = new_arc world.graph in
      let is_next : new ≡ arcs = λ i. next_id (now.no_free_arc i) (now.used_arcs i) in
      let is = All-head (IsLink labels columns) link links are in
      let live : (id : ℕ) → id < length labels → IsLive world.graph Node id = λ id below.
      all_live doc world nodes arcs now id (omega (arith, below, size)) in
      let next = link_ok doc place link world nodes arcs now few (omega (arith, room))
      (live link.from is.0) (live link.to is.1)
      (first_unused world.arcs.labels name others apart) in
      let further : AreApart (fin.insert world.arcs.labels new (item_label place link.values new))
      others =
      subst (λ n. AreApart (fin.insert world.arcs.labels new (item_label place link.values n))
      others)
      (sym is_next) (rest_apart world.arcs.labels new name others differ apart) in
      subst (λ n. Loading doc nodes n (fold (with_link place) (with_link place world link) links))
      (omega arith)
      (links_ok place labels links (with_link place world link) nodes (suc arcs) columns size next
      few (omega (arith, room)) (All-tail (IsLink labels columns) link links are)
      (or_parts (is_among name others) (has_twice others) differ).1 further)
    where
      range_has : (a n id : ℕ) → a ≤ id → id < a + n → has (range_with_len a n) id ≡ true
      range_has a zero id low high = absurd (omega (arith, low, high))
      range_has a (suc n) id low high = elim (cases_eq a id) [
        | inl same ↦ or_left (a == id) (has (range_with_len (a + 1) n) id) (eq-eqb a id same)
        | inr other ↦
            or_right (a == id) (has (range_with_len (a + 1) n) id)
            (range_has (a + 1) n id (omega (arith, low, other)) (omega (arith, high)))
      ]

      all_live : (doc : Doc) (world : World) (nodes arcs : ℕ) → Loading doc nodes arcs world
          → (id : ℕ) → id < nodes → IsLive world.graph Node id
      all_live doc world nodes arcs now id below =
          let g = world.graph in
          let used = now.used_nodes in
          let whole : ids g.nodes ++ g.free_nodes ≡ ids g.nodes =
          ap (λ free. ids g.nodes ++ free) now.no_free_node ∙ append-nil (ids g.nodes) in
          ap (λ all. has all id) (sym whole)
          ∙ (list_any-IsPermutation (λ other. other == id) (ids g.nodes ++ g.free_nodes)
          (range_with_len 0 g.used_nodes) now.graph_ok.node_ids
          ∙ range_has 0 g.used_nodes id (omega arith) (omega (arith, below, used)))

-- ---- the start

unnamed : (id : ℕ) → fin.get (fin.empty {X = Name} {R = nat_cmp}) id ≡ None
unnamed id = fin.get-empty nat_cmp id

column_names : (columns : Cells) → names (map (λ column. under column (Texts fin.empty)) columns)
    ≡ columns
column_names [] = refl
column_names (column ∷ columns) = ap (λ more. column ∷ more) (column_names columns)

nothing_live : (sort : ItemSort) (id : ℕ) → IsLive plain.empty sort id → ⊥
nothing_live Node id live = true≢false (sym live)
nothing_live Arc id live = true≢false (sym live ∙ ap is_some (fin.get-empty nat_cmp id))

no_some : {X : Type 0} {Y : Type 0} (o : Option X) → o ≡ None → is_some o ≡ true → Y
no_some o none some = absurd (true≢false (sym some ∙ ap is_some none))

no_items_kept : (columns : Cells) (sort : ItemSort) → AreColumns columns
    → IsKept plain.empty sort None (no_items columns)
no_items_kept columns sort are =
    let own = item_texts (label_place columns) columns in
    let same = column_names own in
    let labelled = label_in_front columns (label_place columns) are refl in
    let parts = or_parts (is_among label_column own) (has_twice own) labelled.differ in
    let maps = (no_items columns).maps in
    record {
      labelled = λ id. (
        λ some. no_some (fin.get (fin.empty {X = Name} {R = nat_cmp}) id) (unnamed id) some,
        λ is. absurd (nothing_live sort id is.0),
      );
      labels_differ = λ id other name is also. absurd (none-some name (sym (unnamed id) ∙ is));
      maps_held = All-map (λ e. Holds plain.empty sort maps e.value)
          (λ column. under column (Texts fin.empty)) own
          (λ k d within id. (
            λ live. absurd (nothing_live sort id live),
            λ some. no_some (fin.get (fin.empty {X = Name} {R = nat_cmp}) id) (unnamed id) some,
          ));
      names_differ = ap has_twice same ∙ parts.1;
      no_label = ap (is_among label_column) same ∙ parts.0;
      no_dash = ap (is_among dash) same
          ∙ (or_parts (bytes_eq dash label_column) (is_among dash own) labelled.no_dash).1;
    }

opened_ok : (doc : Doc) (pool : List GuardWord) → IsDoc doc → Loading doc 0 0 (opened doc pool)
opened_ok doc pool ok = record {
  graph_ok = valid_empty;
  nodes_ok = no_items_kept doc.nodes.columns Node ok.nodes_ok.columns_ok;
  arcs_ok = no_items_kept doc.arc_columns Arc ok.arcs_ok.columns_ok;
  used_nodes = refl;
  used_arcs = refl;
  no_free_node = refl;
  no_free_arc = refl;
  stamps = refl;
  no_guard = refl;
  no_snapshot = refl;
  no_view = refl;
  attributes_are = refl;
}

-- ---- the end

attribute_names : (attributes : List (Name × Name))
    → names (plain_attributes attributes) ≡ map (λ a. a.0) attributes
attribute_names [] = refl
attribute_names (a ∷ attributes) = ap (λ more. a.0 ∷ more) (attribute_names attributes)

loading_done : (doc : Doc) (nodes arcs : ℕ) (world : World) → IsDoc doc
    → Loading doc nodes arcs world → IsWorld world
loading_done doc nodes arcs world ok now = record {
  graph_ok = now.graph_ok;
  nodes_ok = to_attached world Node now.nodes_ok;
  arcs_ok = to_attached world Arc now.arcs_ok;
  guards_ok = subst (λ es. All (λ e. IsGuard world e.value) es) (sym now.no_guard)
      (All-nil (λ e. IsGuard world e.value));
  snapshots_ok = subst (λ es. All (λ e. IsSnapshot world.graph e.value) es) (sym now.no_snapshot)
      (All-nil (λ e. IsSnapshot world.graph e.value));
  copies_agree = subst (λ es. CopiesAgree (filter_map (λ (e : Named (Option Copy)). e.value) es))
      (sym now.no_snapshot) (λ copy other has also. absurd (omega (arith, has.1)));
  views_stand = subst (StandOnOlder (base ∷ [])) (sym now.no_view) tt;
  layers_ok = subst (λ es. All (λ e. IsLayer world e.value.layer) es) (sym now.no_view)
      (All-nil (λ e. IsLayer world e.value.layer));
  attributes_ok = subst (λ es. All (λ e. IsAttribute world.graph e.value) es)
      (sym now.attributes_are)
      (All-map (λ e. IsAttribute world.graph e.value) (λ a. under a.0 (Plain a.1)) doc.attributes
      (λ k d within. tt));
  guards_differ = ap (λ es. has_twice (names es)) now.no_guard;
  snapshots_differ = ap (λ es. has_twice (names es)) now.no_snapshot;
  views_differ = ap (λ es. has_twice (names es)) now.no_view;
  attributes_differ = ap (λ es. has_twice (names es)) now.attributes_are
      ∙ (ap has_twice (attribute_names doc.attributes) ∙ ok.attributes_ok);
}

pub loaded_ok : LoadedWorldsAreValid
loaded_ok doc pool ok =
    let place = label_place doc.nodes.columns in
    let rows = doc.nodes.rows in
    let start = opened doc pool in
    let few = ok.nodes_ok.few in
    let few_arcs = ok.arcs_ok.few in
    let apart : (others : List Name)
    → AreApart (fin.empty {X = Name} {R = nat_cmp}) others = λ others id name is.
    absurd (none-some name (sym (unnamed id) ∙ is)) in
    let with_rows = rows_ok doc place rows start 0 (opened_ok doc pool ok) (omega (arith, few))
    (labels_apart doc.nodes.columns rows place refl (λ among. ok.nodes_ok.labels_differ)
    (omega (arith, few))) (apart (row_labels place 0 rows)) in
    let middle = fold (with_row place) start rows in
    let arc_place = label_place doc.arc_columns in
    let labels = node_labels doc.nodes in
    let size : length labels ≡ 0 + length rows =
    omega (arith, length-map rows (label_in doc.nodes.columns)) in
    let values = map (λ (link : Link). link.values) doc.arcs in
    let values_size = length-map doc.arcs (λ (link : Link). link.values) in
    let unlabelled : AreApart middle.arcs.labels (row_labels arc_place 0 values) = λ id name is.
    absurd (none_labelled doc (0 + length rows) middle with_rows id name is) in
    loading_done doc (0 + length rows) (0 + length doc.arcs)
    (fold (with_link arc_place) middle doc.arcs) ok
    (links_ok doc arc_place labels doc.arcs middle (0 + length rows) 0 doc.arc_columns size
    with_rows (omega (arith, few)) (omega (arith, few_arcs)) ok.arcs_ok.links
    (labels_apart doc.arc_columns values arc_place refl ok.arcs_ok.labels_differ
    (omega (arith, few_arcs, values_size))) unlabelled)
  where
    none_labelled : (doc : Doc) (nodes : ℕ) (world : World) → Loading doc nodes 0 world → (id : ℕ)
        (name : Name) → fin.get world.arcs.labels id ≡ Some name → ⊥
    none_labelled doc nodes world now id name is =
        let live = ((now.arcs_ok.labelled id).0 (ap is_some is)).0 in
        let below = listed_below world.graph Arc id now.graph_ok
        (live_listed world.graph Arc id live) in
        let used = now.used_arcs in
        omega (arith, below, used)
