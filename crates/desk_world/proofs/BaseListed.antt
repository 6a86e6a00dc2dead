-- What a listing of the base says.
use Rattle.std.proofs.Common.{◌≡◌, ℕ, ◌≤◌, Bool, true, false, cond, List, [], ◌∷◌, ◌++◌, map}
use Rattle.std.proofs.Common.{filter, length, refl, sym, ap, Option, None, ◌∙◌, arith}
use Rattle.std.specs.Prelude.{◌==◌, Ok}
use Rattle.std.specs.List.{flat_map}
use Rattle.std.specs.Option.{option_or, option_map_or}
use Rattle.std.proofs.lemmas.Bool.{le-leb}
use Rattle.std.proofs.lemmas.List.{length-map, map-append}
use Rattle.base_items.specs.declared.items.ItemSort.TheVariants.{Node, Arc}
use Rattle.base_items.specs.declared.limits.TheConstants.{MAX_NODES, MAX_ARCS}
use Rattle.script_words.specs.declared.commands.Command.TheVariants as commands
use Rattle.report_text.specs.declared.replies.ArcLine.{ArcLine}
use Rattle.report_text.specs.declared.replies.NodeLine.{NodeLine}
use Rattle.report_text.specs.declared.replies.Reply.TheVariants as replies
use Rattle.report_text.specs.declared.faults.Fault.TheVariants as faults
use Rattle.plain_digraph.specs.Digraph.{Digraph}
use Rattle.plain_digraph.specs.Items.{ids, out_arcs, all_arcs, used_of}
use Rattle.plain_digraph.specs.Valid.{IsValid}
use Rattle.plain_digraph.proofs.Live.{live_ids, free_ids, live_shared, live_counted}
use Rattle.plain_digraph.proofs.Shares.{shared_length}
use Rattle.plain_views.specs.Shown.{ShownArc, Shown, base_shown, shown_arc, arcs_from}
use Rattle.plain_views.specs.Shown.{arc_ids, arcs_in_order}
use Rattle.plain_views.specs.Towers as towers
use Rattle.plain_views.specs.Towers.{Layer}
use Rattle.plain_views.specs.Marks.{node_marks, arc_marks, arc_origin, marked}
use Rattle.plain_views.proofs.Base.{base_out_ids}
use Rattle.plain_world.specs.Tables.{Name, entry}
use Rattle.plain_world.specs.World.{World, View, label_of}
use Rattle.plain_world.specs.Demands as demands
use Rattle.plain_world.specs.Refusals.{breach, above_limits, unless}
use Rattle.plain_world.specs.Views as views
use Rattle.plain_world.specs.Views.{tower_of, layers_up_to, layer_of, values_of, shown_by}
use Rattle.plain_world.specs.Views.{origin_label}
use Rattle.desk_world.specs.Faults.{Answers}
use Rattle.desk_world.specs.Lines.{node_line, arc_line}

-- ---- the arcs of the base

-- arcs that were kept of some arcs of the base are those with their ids
kept_shown : (g : Digraph) (test : ShownArc → Bool) (arcs : List ℕ)
    → filter test (map (shown_arc g) arcs)
    ≡ map (shown_arc g) (arc_ids (filter test (map (shown_arc g) arcs)))
kept_shown g test [] = refl
kept_shown g test (arc ∷ arcs) =
    let rest = kept_shown g test arcs in
    let more = filter test (map (shown_arc g) arcs) in
    elim (test (shown_arc g arc)) as (λ b. cond b (shown_arc g arc ∷ more) more
    ≡ map (shown_arc g) (arc_ids (cond b (shown_arc g arc ∷ more) more))) [
      | true ↦ ap (λ own. shown_arc g arc ∷ own) rest
      | false ↦ rest
    ]

module _ (g : Digraph) (valid : IsValid g) {X : Type 0} (read : ShownArc → X) where
  from_each : (node : ℕ) → map read (arcs_from (base_shown g) node)
      ≡ map (λ id. read (shown_arc g id)) (out_arcs g node)
  from_each node =
      ap (map read) (kept_shown g (λ arc. arc.from == node) (ids g.by_source))
      ∙ map_map (arc_ids (arcs_from (base_shown g) node))
      ∙ ap (map (λ id. read (shown_arc g id))) (base_out_ids g valid node)
    where
      map_map : (arcs : List ℕ)
          → map read (map (shown_arc g) arcs) ≡ map (λ id. read (shown_arc g id)) arcs
      map_map [] = refl
      map_map (arc ∷ arcs) = ap (λ own. read (shown_arc g arc) ∷ own) (map_map arcs)

  -- what is read of the arcs in order
  read_in_order : (nodes : List ℕ)
      → map read (flat_map (arcs_from (base_shown g)) nodes)
      ≡ map (λ id. read (shown_arc g id)) (flat_map (out_arcs g) nodes)
  read_in_order [] = refl
  read_in_order (node ∷ nodes) =
      map-append read (arcs_from (base_shown g) node) (flat_map (arcs_from (base_shown g)) nodes)
      ∙ (λ i. from_each node i ++ read_in_order nodes i)
      ∙ sym (map-append (λ id. read (shown_arc g id)) (out_arcs g node)
      (flat_map (out_arcs g) nodes))

  pub base_in_order : map read (arcs_in_order (base_shown g))
      ≡ map (λ id. read (shown_arc g id)) (all_arcs g)
  base_in_order = read_in_order (ids g.nodes)

-- ---- a view that isn't in the table: the base

module _ (world : World) (view : Name) (none : entry world.views view ≡ None) where
  base_tower : tower_of world view ≡ []
  base_tower =
      ap (λ (o : Option View). option_map_or (λ v. layer_of v.layer
      ∷ layers_up_to 7 world.views v.below) o []) none

  abbrev shows : List (Layer Name) → Shown
  shows tower = towers.shown (values_of world) world.graph tower

  abbrev named : List (Layer Name) → ℕ → Name
  named tower node =
      marked (label_of world Node (towers.base_node tower node)) (node_marks tower node)

  abbrev arc_told : List (Layer Name) → ShownArc → ArcLine
  arc_told tower arc = record {
    id = arc.id;
    name = marked (origin_label world (arc_origin tower arc.id)) (arc_marks tower arc.id);
    from = named tower arc.from;
    to = named tower arc.to;
  }

  pub nodes_listed : map (views.node_line world view) (shown_by world view).nodes
      ≡ map (node_line world) (ids world.graph.nodes)
  nodes_listed =
      ap (λ tower. map (λ node. record { id = node; name = named tower node }) (shows tower).nodes)
      base_tower

  pub arcs_listed : IsValid world.graph
      → map (views.arc_line world view) (views.arcs_of world view)
      ≡ map (arc_line world) (all_arcs world.graph)
  arcs_listed valid =
      ap (λ tower. map (arc_told tower) (arcs_in_order (shows tower))) base_tower
      ∙ base_in_order world.graph valid (arc_told [])

  -- the base is small enough to be listed
  few_nodes : IsValid world.graph → length (ids world.graph.nodes) ≤ MAX_NODES
  few_nodes valid =
      let size = shared_length (live_ids world.graph Node) (free_ids world.graph Node)
      (used_of world.graph Node) (live_shared world.graph Node valid) in
      let few = valid.few_nodes in
      omega (arith, size, few)

  few_arcs : IsValid world.graph
      → length (map (shown_arc world.graph) (ids world.graph.by_source)) ≤ MAX_ARCS
  few_arcs valid =
      let size = shared_length (live_ids world.graph Arc) (free_ids world.graph Arc)
      (used_of world.graph Arc) (live_shared world.graph Arc valid) in
      let counted = live_counted world.graph Arc valid in
      let shown = length-map (ids world.graph.by_source) (shown_arc world.graph) in
      let own = length-map world.graph.by_source (λ p. p.0) in
      let few = valid.few_arcs in
      omega (arith, size, counted, shown, own, few)

  pub base_small : IsValid world.graph → breach world (demands.IsSmall view) ≡ None
  base_small valid =
      ap (λ tower. above_limits (length (shows tower).nodes) (length (shows tower).by_source))
      base_tower
      ∙ (λ i. option_or
      (unless (le-leb (length (ids world.graph.nodes)) MAX_NODES (few_nodes valid) i)
      (faults.Full Node MAX_NODES))
      (unless (le-leb (length (map (shown_arc world.graph) (ids world.graph.by_source))) MAX_ARCS
      (few_arcs valid) i) (faults.Full Arc MAX_ARCS)))

  -- the answers of listings
  pub told_nodes : IsValid world.graph → breach world (demands.There demands.Views view) ≡ None
      → (lines : List NodeLine) → lines ≡ map (node_line world) (ids world.graph.nodes)
      → Answers world (commands.Nodes view) world (Ok (replies.Nodes lines))
  told_nodes valid there lines are = (
    λ i. option_or (option_or (there i) (option_or (base_small valid i) None)) None,
    (ap replies.Nodes (are ∙ sym nodes_listed), refl),
  )

  pub told_arcs : IsValid world.graph → breach world (demands.There demands.Views view) ≡ None
      → (lines : List ArcLine) → lines ≡ map (arc_line world) (all_arcs world.graph)
      → Answers world (commands.Arcs view) world (Ok (replies.Arcs lines))
  told_arcs valid there lines are = (
    λ i. option_or (option_or (there i) (option_or (base_small valid i) None)) None,
    (ap replies.Arcs (are ∙ sym (arcs_listed valid)), refl),
  )
