-- The lines of a saved world, an item at a time.
use Rattle.std.proofs.Common.{◌≡◌, ℕ, ◌+◌, List, [], ◌∷◌, ◌++◌, map, sym, ap, Some, None, ◌∙◌}
use Rattle.std.proofs.Common.{append_assoc}
use Rattle.std.specs.List.{flat_map}
use Rattle.std.proofs.lemmas.List.{flat_map_more}
use Rattle.std.proofs.lemmas.List.Concat.{flat_map-append}
use Rattle.std.proofs.lemmas.List.Folds.{flat_map-map}
use Rattle.base_items.specs.declared.items.Fact.{Fact}
use Rattle.base_items.specs.declared.items.ItemSort.{ItemSort}
use Rattle.base_items.specs.declared.items.ItemSort.TheVariants.{Node, Arc}
use Rattle.token_text.specs.Lines.{ended}
use Rattle.lgf_file.specs.Documents.{node_labels, label_at, link_cells}
use Rattle.lgf_file.specs.Plain.{cell_text, row_text}
use Rattle.lgf_file.specs.Rows.{Cells}
use Rattle.plain_digraph.specs.Digraph.{Digraph}
use Rattle.plain_digraph.specs.Items.{fact_of}
use Rattle.plain_world.specs.World.{World, label_of}
use Rattle.plain_world.specs.Documents.{cells_of, doc_of, link_of, row_of}
use Rattle.plain_world.specs.Valid.{IsWorld}
use Rattle.plain_world.proofs.LinkLabels.{row_labelled}
use Rattle.desk_world.specs.RowPlaces.{rising_below}
use Rattle.desk_world.proofs.ArcEnds.{source_told, target_told, ends_live}
use Rattle.desk_world.proofs.RowPlaces.{below_more, below_same}

-- the lines of what is made of items
pub lines_made : {X : Type 0} (text : X → List ℕ) (made : ℕ → X) (ids : List ℕ)
    → flat_map (λ id. ended (text (made id))) ids ≡ flat_map ended (map text (map made ids))
lines_made text made ids =
    sym (flat_map-map ended text (map made ids)
    ∙ flat_map-map (λ x. ended (text x)) made ids)

-- two lines at the head of a section, and its rows behind them
pub section_joined : (front title head rows : List ℕ)
    → ((front ++ title) ++ head) ++ rows ≡ front ++ (title ++ (head ++ rows))
section_joined front title head rows =
    append_assoc (front ++ title) head rows ∙ append_assoc front title (head ++ rows)

module _ (g : Digraph) (sort : ItemSort) (text : ℕ → List ℕ) (front : List ℕ) where
  -- the lines of the live items below an id, behind what stands in front
  abbrev pub saved_below : ℕ → List ℕ
  saved_below id = front ++ flat_map (λ item. ended (text item)) (rising_below g sort id)

  pub saved_more : (id : ℕ) (fact : Fact) → fact_of g sort id ≡ Some fact
      → (out : List ℕ) → out ≡ saved_below id → out ++ ended (text id) ≡ saved_below (id + 1)
  saved_more id fact told out is =
      ap (λ own. own ++ ended (text id)) is
      ∙ flat_map_more (λ item. ended (text item)) front (rising_below g sort id) id
      ∙ ap (λ ids. front ++ flat_map (λ item. ended (text item)) ids)
      (sym (below_more g sort id fact told))

  pub saved_same : (id : ℕ) → fact_of g sort id ≡ None
      → (out : List ℕ) → out ≡ saved_below id → out ≡ saved_below (id + 1)
  saved_same id told out is =
      is
      ∙ ap (λ ids. front ++ flat_map (λ item. ended (text item)) ids)
      (sym (below_same g sort id told))

-- ---- arcs

-- the row of an arc
abbrev pub arc_text : World → ℕ → List ℕ
arc_text world id = row_text (link_cells (node_labels (doc_of world).nodes) (link_of world id))

-- two cells, and a line behind them, are a line
line_joined : (out from to row end : List ℕ)
    → ((out ++ from) ++ to) ++ (row ++ end) ≡ out ++ ((from ++ (to ++ row)) ++ end)
line_joined out from to row end =
    append_assoc (out ++ from) to (row ++ end)
    ∙ append_assoc out from (to ++ (row ++ end))
    ∙ ap (λ own. out ++ own)
    (ap (λ own. from ++ own) (sym (append_assoc to row end))
    ∙ sym (append_assoc from (to ++ row) end))

module _ (world : World) (ok : IsWorld world) (id : ℕ) (fact : Fact)
    (told : fact_of world.graph Arc id ≡ Some fact) where
  abbrev labels : Cells
  labels = node_labels (doc_of world).nodes

  from_is : label_of world Node fact.from ≡ label_at labels (link_of world id).from
  from_is =
      sym (row_labelled world fact.from ok (ends_live world.graph id fact told ok.graph_ok).0)
      ∙ ap (λ node. label_at labels (row_of world node)) (source_told world.graph id fact told)

  to_is : label_of world Node fact.to ≡ label_at labels (link_of world id).to
  to_is =
      sym (row_labelled world fact.to ok (ends_live world.graph id fact told ok.graph_ok).1)
      ∙ ap (λ node. label_at labels (row_of world node)) (target_told world.graph id fact told)

  -- the labels of its ends, and its own line, are the line of an arc
  pub arc_joined : (out : List ℕ)
      → ((out ++ cell_text (label_of world Node fact.from))
      ++ cell_text (label_of world Node fact.to))
      ++ ended (row_text (cells_of world Arc id))
      ≡ out ++ ended (arc_text world id)
  arc_joined out =
      (λ i. ((out ++ cell_text (from_is i)) ++ cell_text (to_is i))
      ++ ended (row_text (cells_of world Arc id)))
      ∙ line_joined out (cell_text (label_at labels (link_of world id).from))
      (cell_text (label_at labels (link_of world id).to))
      (row_text (cells_of world Arc id)) (10 ∷ [])

-- ---- the whole

-- the lines of the three sections
pub parts_joined : (nodes arcs attributes : List (List ℕ))
    → (flat_map ended nodes ++ flat_map ended arcs) ++ flat_map ended attributes
    ≡ flat_map ended (nodes ++ (arcs ++ attributes))
parts_joined nodes arcs attributes =
    append_assoc (flat_map ended nodes) (flat_map ended arcs) (flat_map ended attributes)
    ∙ ap (λ more. flat_map ended nodes ++ more) (sym (flat_map-append ended arcs attributes))
    ∙ sym (flat_map-append ended nodes (arcs ++ attributes))
