-- The world of a valid document: what its rows find, and how many stamps they take.
use Rattle.std.proofs.Common.{◌≡◌, ℕ, ◌+◌, ◌<◌, ◌≤◌, List, [], ◌∷◌, length, Option, is_some, All}
use Rattle.std.proofs.Common.{refl, sym, ap, ◌∙◌, subst, arith, zero-add, true}
use Rattle.std.specs.Prelude.{IsTrue}
use Rattle.std.specs.FinMap as fin
use Rattle.std.proofs.lemmas.List.{length-map}
use Rattle.std.proofs.lemmas.List.Elements.{All-weaker}
use Rattle.base_items.specs.declared.items.ItemSort.TheVariants.{Node, Arc}
use Rattle.base_items.specs.declared.limits.TheConstants.{MAX_NODES, MAX_ARCS}
use Rattle.lgf_file.specs.Rows.{Cells}
use Rattle.lgf_file.specs.Documents.{label_in, IsDoc, IsLink, node_labels}
use Rattle.lgf_file.specs.declared.documents.Doc.{Doc}
use Rattle.lgf_file.specs.declared.documents.Link.{Link}
use Rattle.script_words.specs.declared.commands.GuardWord.{GuardWord}
use Rattle.plain_digraph.specs.Digraph as plain
use Rattle.plain_digraph.specs.Digraph.{Digraph}
use Rattle.plain_digraph.specs.Items.{ids, IsLive}
use Rattle.plain_digraph.specs.Lists.{has}
use Rattle.plain_digraph.specs.PlainSteps.{AddNode, AddArc}
use Rattle.plain_digraph.specs.Valid.{IsValid}
use Rattle.plain_world.specs.World.{World, Attached}
use Rattle.plain_world.specs.Effects.{with_maps}
use Rattle.plain_world.specs.Documents.{load, opened, label_place, described}
use Rattle.plain_world.specs.Following.{follow}
use Rattle.plain_world.specs.Valid.{IsWorld, IsWhole, LabelsDiffer}
use Rattle.plain_world.proofs.Loaded.{loaded_ok}
use Rattle.desk_world.specs.Loading.{with_nodes, with_arcs, all_described, values_of}
use Rattle.desk_world.specs.Blank.{IsBlank, HasLiveEnds, NodesLead, ArcsLead, blank_world}
use Rattle.desk_world.specs.Blank.{own_columns}
use Rattle.desk_world.specs.Describing.{AreReady, new_maps}
use Rattle.desk_world.proofs.Blank.{blank_opened}
use Rattle.desk_world.proofs.Opened.{columns_made, opened_is}
use Rattle.desk_world.proofs.Filled.{rows_fill, links_fill, own_differ, maps_have, no_label}
use Rattle.desk_world.proofs.Readied.{graph_stays, labels_there, are_ready}
use Rattle.desk_world.proofs.TwoPasses.{put_in_two}

-- ---- what rows leave as it is

arcs_stay : (place : Option ℕ) (rows : List Cells) (world : World) (id : ℕ)
    → ((all_described Node place world id rows).arcs ≡ world.arcs)
arcs_stay place [] world id = refl
arcs_stay place (cells ∷ rows) world id =
    arcs_stay place rows (described world Node id place cells) (id + 1)

nodes_stay : (place : Option ℕ) (rows : List Cells) (world : World) (id : ℕ)
    → ((all_described Arc place world id rows).nodes ≡ world.nodes)
nodes_stay place [] world id = refl
nodes_stay place (cells ∷ rows) world id =
    nodes_stay place rows (described world Arc id place cells) (id + 1)

listed_stay : (links : List Link) (world : World)
    → ((with_arcs world links).graph.nodes ≡ world.graph.nodes)
listed_stay [] world = refl
listed_stay (link ∷ links) world = listed_stay links (follow world (AddArc link.from link.to))

-- a stamp for each row
node_stamps : (rows : List Cells) (world : World)
    → (with_nodes world rows).graph.stamps ≡ world.graph.stamps + length rows
node_stamps [] world = plus world.graph.stamps
  where
    plus : (n : ℕ) → n ≡ n + 0
    plus n = omega arith
node_stamps (cells ∷ rows) world =
    let rest = node_stamps rows (follow world AddNode) in
    omega (arith, rest)

arc_stamps : (links : List Link) (world : World)
    → (with_arcs world links).graph.stamps ≡ world.graph.stamps + length links
arc_stamps [] world = plus world.graph.stamps
  where
    plus : (n : ℕ) → n ≡ n + 0
    plus n = omega arith
arc_stamps (link ∷ links) world =
    let rest = arc_stamps links (follow world (AddArc link.from link.to)) in
    omega (arith, rest)

-- ---- a document

module _ (doc : Doc) (pool : List GuardWord) (ok : IsDoc doc) where
  abbrev place : Option ℕ
  place = label_place doc.nodes.columns

  abbrev arc_place : Option ℕ
  arc_place = label_place doc.arc_columns

  -- the world with the nodes, with the arcs too, and with what the rows say of the nodes and of the
  -- arcs
  abbrev pub noded : World
  noded = with_nodes (opened doc pool) doc.nodes.rows

  abbrev pub linked : World
  linked = with_arcs noded doc.arcs

  abbrev pub told : World
  told = all_described Node place linked 0 doc.nodes.rows

  abbrev pub last : World
  last = all_described Arc arc_place told 0 (values_of doc.arcs)

  pub last_is : last ≡ load doc pool
  last_is =
      sym (put_in_two place arc_place doc.nodes.rows doc.arcs (opened doc pool) refl refl refl refl)

  pub last_valid : IsWorld last
  last_valid = subst IsWorld (sym last_is) (loaded_ok doc pool ok)

  told_graph : told.graph ≡ linked.graph
  told_graph = graph_stays Node place doc.nodes.rows linked 0

  last_graph : last.graph ≡ told.graph
  last_graph = graph_stays Arc arc_place (values_of doc.arcs) told 0

  last_nodes : last.nodes ≡ told.nodes
  last_nodes = nodes_stay arc_place (values_of doc.arcs) told 0

  pub last_stamps : last.graph.stamps ≤ MAX_NODES + MAX_ARCS
  last_stamps =
      let stamps : last.graph.stamps ≡ linked.graph.stamps =
      ap (λ (g : Digraph). g.stamps) (last_graph ∙ told_graph) in
      let arcs = arc_stamps doc.arcs noded in
      let nodes : noded.graph.stamps ≡ 0 + length doc.nodes.rows =
      node_stamps doc.nodes.rows (opened doc pool) in
      let few = ok.nodes_ok.few in
      let few_arcs = ok.arcs_ok.few in
      omega (arith, stamps, arcs, nodes, few, few_arcs)

  node_lives : (id : ℕ) → id < length doc.nodes.rows → IsLive noded.graph Node id
  node_lives id below =
      let labels : Attached → ℕ → Option (List ℕ) = λ items k. fin.get items.labels k in
      let there = subst (λ k. is_some (fin.get told.nodes.labels k) ≡ true) (zero-add id)
      (labels_there Node place doc.nodes.rows linked 0 id below) in
      let live : IsLive last.graph Node id =
      (last_valid.nodes_ok.labelled id).1
      (ap (λ items. is_some (labels items id)) last_nodes ∙ there) in
      let same : last.graph.nodes ≡ noded.graph.nodes =
      ap (λ (g : Digraph). g.nodes) (last_graph ∙ told_graph) ∙ listed_stay doc.arcs noded in
      subst (λ nodes. IsTrue (has (ids nodes) id)) same live

  -- the arcs go from live nodes to live nodes
  pub ends_live : All (HasLiveEnds noded.graph) doc.arcs
  ends_live =
      let labels = node_labels doc.nodes in
      let size = length-map doc.nodes.rows (label_in doc.nodes.columns) in
      All-weaker (IsLink labels doc.arc_columns) (HasLiveEnds noded.graph)
      (λ link is.
      let from = is.0 in
      let to = is.1 in (
        node_lives link.from (omega (arith, from, size)),
        node_lives link.to (omega (arith, to, size)),
      )) doc.arcs ok.arcs_ok.links

  module _ (blank : IsBlank (own_columns doc.nodes.columns) (own_columns doc.arc_columns) pool
      doc.attributes linked) where
    pub nodes_ready : AreReady Node place (own_columns doc.nodes.columns) linked 0 doc.nodes.rows
    nodes_ready =
        let columns = own_columns doc.nodes.columns in
        let whole : IsWhole last.graph Node last.nodes.labels = last_valid.nodes_ok.labelled in
        let whole_told : IsWhole linked.graph Node told.nodes.labels =
        subst (λ g. IsWhole g Node told.nodes.labels) (last_graph ∙ told_graph)
        (subst (λ (items : Attached). IsWhole last.graph Node items.labels) last_nodes whole) in
        are_ready Node place columns doc.nodes.rows linked 0
        (maps_have linked Node columns blank.node_column
        (ap (λ (w : World). w.nodes.maps) blank.is)
        (own_differ doc.nodes.columns ok.nodes_ok.columns_ok))
        (rows_fill doc.nodes.columns doc.nodes.rows ok.nodes_ok.wide)
        (λ k above. no_label linked.nodes.labels (ap (λ (w : World). w.nodes.labels) blank.is) k)
        whole_told
        (subst (λ (items : Attached). LabelsDiffer items.labels) last_nodes
        last_valid.nodes_ok.labels_differ)

    pub arcs_ready : AreReady Arc arc_place (own_columns doc.arc_columns) told 0
        (values_of doc.arcs)
    arcs_ready =
        let columns = own_columns doc.arc_columns in
        let stay = arcs_stay place doc.nodes.rows linked 0 in
        are_ready Arc arc_place columns (values_of doc.arcs) told 0
        (maps_have told Arc columns blank.arc_column
        (ap (λ (items : Attached). items.maps) stay ∙ ap (λ (w : World). w.arcs.maps) blank.is)
        (own_differ doc.arc_columns ok.arcs_ok.columns_ok))
        (links_fill (node_labels doc.nodes) doc.arc_columns doc.arcs ok.arcs_ok.links)
        (λ k above. no_label told.arcs.labels
        (ap (λ (items : Attached). items.labels) stay
        ∙ ap (λ (w : World). w.arcs.labels) blank.is) k)
        (subst (λ g. IsWhole g Arc last.arcs.labels) last_graph last_valid.arcs_ok.labelled)
        last_valid.arcs_ok.labels_differ

  -- ---- the digraph with the nodes, and with the arcs too

  abbrev columns : Cells
  columns = own_columns doc.nodes.columns

  abbrev arc_columns : Cells
  arc_columns = own_columns doc.arc_columns

  abbrev Blank : World → Type 0
  Blank = IsBlank columns arc_columns pool doc.attributes

  module _ (g0 g1 : Digraph) (start : g0 ≡ plain.empty) (nodes : NodesLead doc.nodes.rows g0 g1)
    where
      noded_is : (noded.graph ≡ g1) × Blank noded
      noded_is =
          nodes columns arc_columns pool doc.attributes (opened doc pool) (sym start)
          (blank_opened doc pool)

      pub ends_there : All (HasLiveEnds g1) doc.arcs
      ends_there = subst (λ g. All (HasLiveEnds g) doc.arcs) noded_is.0 ends_live

      module _ (g2 : Digraph) (arcs : ArcsLead doc.arcs g1 g2) (valid : IsValid g2)
          (first second third : World)
          (is_first : first ≡ blank_world [] [] pool doc.attributes g2 fin.empty fin.empty)
          (is_second : second ≡ with_maps first Node (new_maps first Node columns))
          (is_third : third ≡ with_maps second Arc (new_maps second Arc arc_columns)) where
        linked_is : (linked.graph ≡ g2) × Blank linked
        linked_is =
            arcs columns arc_columns pool doc.attributes noded noded_is.0 noded_is.1

        third_is : third ≡ linked
        third_is =
            columns_made columns arc_columns pool doc.attributes g2 first second third is_first
            is_second is_third
            ∙ opened_is columns arc_columns pool doc.attributes g2 linked valid linked_is.0
            linked_is.1

        pub rows_ready : AreReady Node place columns third 0 doc.nodes.rows
        rows_ready =
            subst (λ w. AreReady Node place columns w 0 doc.nodes.rows) (sym third_is)
            (nodes_ready linked_is.1)

        module _ (fourth : World)
            (is_fourth : fourth ≡ all_described Node place third 0 doc.nodes.rows) where
          fourth_is : fourth ≡ told
          fourth_is =
              is_fourth ∙ ap (λ w. all_described Node place w 0 doc.nodes.rows) third_is

          pub links_ready : AreReady Arc arc_place arc_columns fourth 0 (values_of doc.arcs)
          links_ready =
              subst (λ w. AreReady Arc arc_place arc_columns w 0 (values_of doc.arcs))
              (sym fourth_is) (arcs_ready linked_is.1)

          -- the world that was loaded
          pub fifth_is : (fifth : World)
              → fifth ≡ all_described Arc arc_place fourth 0 (values_of doc.arcs)
              → fifth ≡ last
          fifth_is fifth is =
              is ∙ ap (λ w. all_described Arc arc_place w 0 (values_of doc.arcs)) fourth_is
