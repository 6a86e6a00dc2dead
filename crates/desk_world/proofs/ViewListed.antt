-- What a listing of a view says, from what its tower by numbers shows.
use Rattle.std.proofs.Common.{◌≡◌, ℕ, true, List, [], ◌∷◌, ◌++◌, map, refl, sym, ap, subst, ◌∙◌}
use Rattle.std.proofs.Common.{cond}
use Rattle.std.proofs.Common.{Option, None, is_some}
use Rattle.std.specs.Prelude.{codes, find, unwrap_or, IfOk, IfErr, OnOk, Result, Ok, Err}
use Rattle.std.specs.Str.{bytes_eq}
use Rattle.std.specs.Option.{option_or}
use Rattle.script_words.specs.declared.commands.Command.TheVariants as commands
use Rattle.script_words.specs.declared.commands.Direction.{Direction}
use Rattle.report_text.specs.declared.faults.Fault.TheVariants as faults
use Rattle.report_text.specs.declared.faults.StepFault.{StepFault}
use Rattle.report_text.specs.declared.replies.ArcLine.{ArcLine}
use Rattle.report_text.specs.declared.replies.NodeLine.{NodeLine}
use Rattle.report_text.specs.declared.replies.Reply.TheVariants as replies
use Rattle.base_items.specs.declared.items.ItemSort.{ItemSort}
use Rattle.base_items.specs.declared.items.ItemSort.TheVariants.{Node}
use Rattle.plain_views.specs.Adaptors.{is_even, half}
use Rattle.plain_views.specs.Marks.{node_marks, arc_marks, arc_origin, FromNode, marked}
use Rattle.plain_views.specs.Renaming.{renamed}
use Rattle.plain_views.specs.Shown.{Shown, ShownArc, arcs_in_order}
use Rattle.plain_views.specs.Towers as towers
use Rattle.plain_views.specs.Towers.{Layer, Reverse, Sub, Undirect, Residual, Split, base_node}
use Rattle.plain_world.specs.Demands as demands
use Rattle.plain_world.specs.Refusals.{breach, unless}
use Rattle.plain_world.specs.Tables.{Name}
use Rattle.plain_world.specs.Views as views
use Rattle.plain_world.specs.Views.{shown_by, tower_of}
use Rattle.plain_world.specs.World.{World, label_of}
use Rattle.plain_machine.specs.Built.{RefusedBy}
use Rattle.view_numbers.specs.Listed.{fact_shown}
use Rattle.desk_world.specs.Faults.{Answers, Is, MeetsAll}
use Rattle.desk_world.specs.MapNumbers.{number_of, numbered, numbered_tower}
use Rattle.desk_world.specs.Naming.{node_called, arc_called, called_node, called_arc}
use Rattle.desk_world.specs.NodeWords.{node_called_so}
use Rattle.desk_world.specs.Shown.{arcs_at, fault_of_size}
use Rattle.desk_world.proofs.Demanded.{refused, not_met, met}
use Rattle.desk_world.proofs.MapNumbers.{shown_alike}

-- ---- other names of maps change no name of an item

module _ {M N : Type 0} (name : ItemSort → M → N) where
  abbrev other : List (Layer M) → List (Layer N)
  other tower = map (renamed name) tower

  same_base : (tower : List (Layer M)) (node : ℕ)
      → base_node (other tower) node ≡ base_node tower node
  same_base [] node = refl
  same_base (Reverse ∷ below) node = same_base below node
  same_base (Sub nodes arcs ∷ below) node = same_base below node
  same_base (Undirect ∷ below) node = same_base below node
  same_base (Residual room flow ∷ below) node = same_base below node
  same_base (Split ∷ below) node = same_base below (half node)

  same_marks : (tower : List (Layer M)) (node : ℕ)
      → node_marks (other tower) node ≡ node_marks tower node
  same_marks [] node = refl
  same_marks (Reverse ∷ below) node = same_marks below node
  same_marks (Sub nodes arcs ∷ below) node = same_marks below node
  same_marks (Undirect ∷ below) node = same_marks below node
  same_marks (Residual room flow ∷ below) node = same_marks below node
  same_marks (Split ∷ below) node =
      ap (λ marks. marks ++ cond (is_even node) (codes "i") (codes "o"))
      (same_marks below (half node))

  pub same_origin : (tower : List (Layer M)) (arc : ℕ)
      → arc_origin (other tower) arc ≡ arc_origin tower arc
  same_origin [] arc = refl
  same_origin (Reverse ∷ below) arc = same_origin below arc
  same_origin (Sub nodes arcs ∷ below) arc = same_origin below arc
  same_origin (Undirect ∷ below) arc = same_origin below (half arc)
  same_origin (Residual room flow ∷ below) arc = same_origin below (half arc)
  same_origin (Split ∷ below) arc =
      λ i. cond (is_even arc) (same_origin below (half arc) i)
      (FromNode (same_base below (half arc) i))

  same_arc_marks : (tower : List (Layer M)) (arc : ℕ)
      → arc_marks (other tower) arc ≡ arc_marks tower arc
  same_arc_marks [] arc = refl
  same_arc_marks (Reverse ∷ below) arc = same_arc_marks below arc
  same_arc_marks (Sub nodes arcs ∷ below) arc = same_arc_marks below arc
  same_arc_marks (Undirect ∷ below) arc =
      ap (λ marks. marks ++ cond (is_even arc) (codes "+") (codes "-"))
      (same_arc_marks below (half arc))
  same_arc_marks (Residual room flow ∷ below) arc =
      ap (λ marks. marks ++ cond (is_even arc) (codes "+") (codes "-"))
      (same_arc_marks below (half arc))
  same_arc_marks (Split ∷ below) arc =
      λ i. cond (is_even arc) (same_arc_marks below (half arc) i)
      (same_marks below (half arc) i ++ codes "=")

  module _ (world : World) (tower : List (Layer M)) where
    pub same_node : node_called world (other tower) ≡ node_called world tower
    same_node =
        λ i node. marked (label_of world Node (same_base tower node i)) (same_marks tower node i)

    pub same_arc : arc_called world (other tower) ≡ arc_called world tower
    same_arc =
        λ i arc. marked (views.origin_label world (same_origin tower arc i))
        (same_arc_marks tower arc i)

    pub same_node_line : called_node world (other tower) ≡ called_node world tower
    same_node_line = λ i node. record { id = node; name = same_node i node }

    pub same_arc_line : called_arc world (other tower) ≡ called_arc world tower
    same_arc_line =
        λ i arc. record {
          id = arc.id;
          name = same_arc i arc.id;
          from = same_node i arc.from;
          to = same_node i arc.to;
        }

-- ---- a view by its tower

module _ (world : World) (view : Name) (tower : List (Layer ℕ))
    (is : tower ≡ numbered_tower world view) (p : Shown)
    (shows : p ≡ towers.shown (numbered world) world.graph tower) where
  pub shows_view : p ≡ shown_by world view
  shows_view =
      shows ∙ ap (towers.shown (numbered world) world.graph) is ∙ shown_alike world view

  pub called_nodes : called_node world tower ≡ views.node_line world view
  called_nodes =
      ap (called_node world) is ∙ same_node_line (number_of world) world (tower_of world view)

  pub called_arcs : (arcs : List ShownArc)
      → map (called_arc world tower) (map fact_shown arcs) ≡ map (views.arc_line world view) arcs
  called_arcs arcs =
      ap (λ f. map f (map fact_shown arcs))
      (ap (called_arc world) is ∙ same_arc_line (number_of world) world (tower_of world view))
      ∙ joined arcs
    where
      joined : (arcs : List ShownArc)
          → map (called_arc world (tower_of world view)) (map fact_shown arcs)
          ≡ map (views.arc_line world view) arcs
      joined [] = refl
      joined (arc ∷ arcs) = ap (λ more. views.arc_line world view arc ∷ more) (joined arcs)

  pub node_found : (name : Name)
      → node_called_so world tower p name ≡ views.node_named world view name
  node_found name =
      (λ i. node_called_so world (is i) (shows_view i) name)
      ∙ ap (λ (called : ℕ → Name). find (λ node. bytes_eq (called node) name)
      (shown_by world view).nodes)
      (same_node (number_of world) world (tower_of world view))

  named_told : (way : Direction) (name : Name)
      → map (called_arc world tower) (map fact_shown (arcs_at way p
      (unwrap_or (node_called_so world tower p name) 0)))
      ≡ map (views.arc_line world view) (arcs_at way (shown_by world view)
      (unwrap_or (views.node_named world view name) 0))
  named_told way name =
      called_arcs (arcs_at way p (unwrap_or (node_called_so world tower p name) 0))
      ∙ (λ i. map (views.arc_line world view)
      (arcs_at way (shows_view i) (unwrap_or (node_found name i) 0)))

  pub named_told_by : (way : Direction) (name : Name) (r : Result (List ArcLine) StepFault)
      → IfOk r (λ lines. lines ≡ map (called_arc world tower) (map fact_shown (arcs_at way p
      (unwrap_or (node_called_so world tower p name) 0))))
      → IfOk r (λ lines. lines ≡ map (views.arc_line world view) (arcs_at way (shown_by world view)
      (unwrap_or (views.node_named world view name) 0)))
  named_told_by way name (Ok lines) are = are ∙ named_told way name
  named_told_by way name (Err fault) are = tt

  -- the answer of a call that asks for a node meets the demands on the view and the node
  pub node_meets : {X : Type 0} (name : Name) (r : Result X StepFault)
      → breach world (demands.There demands.Views view) ≡ None
      → OnOk r (is_some (node_called_so world tower p name) ≡ true)
      → IfErr r (Is (unless (is_some (node_called_so world tower p name)) (faults.Unknown name)))
      → MeetsAll world (demands.There demands.Views view
      ∷ demands.There (demands.NodesOf view) name ∷ []) r
  node_meets name (Ok x) there found unknown =
      let node : breach world (demands.There (demands.NodesOf view) name) ≡ None =
      ap (λ b. unless b (faults.Unknown name))
      (ap is_some (sym (node_found name)) ∙ found) in
      λ i. option_or (there i) (option_or (node i) None)
  node_meets name (Err fault) there found unknown =
      met world (demands.There demands.Views view)
      (demands.There (demands.NodesOf view) name ∷ []) fault there
      (not_met world (demands.There (demands.NodesOf view) name) [] fault
      (subst (λ (o : Option ℕ). Is (unless (is_some o) (faults.Unknown name)) fault)
      (node_found name) unknown))

  pub size_fault : fault_of_size p ≡ breach world (demands.IsSmall view)
  size_fault = ap fault_of_size shows_view

  -- ---- listings

  module _ (there : breach world (demands.There demands.Views view) ≡ None) where
    pub nodes_refused : (fault : StepFault) → Is (fault_of_size p) fault
        → RefusedBy world (commands.Nodes view) world fault
    nodes_refused fault full =
        refused world (commands.Nodes view) fault
        (met world (demands.There demands.Views view) (demands.IsSmall view ∷ []) fault there
        (not_met world (demands.IsSmall view) [] fault
        (subst (λ o. Is o fault) size_fault full)))

    pub arcs_refused : (fault : StepFault) → Is (fault_of_size p) fault
        → RefusedBy world (commands.Arcs view) world fault
    arcs_refused fault full =
        refused world (commands.Arcs view) fault
        (met world (demands.There demands.Views view) (demands.IsSmall view ∷ []) fault there
        (not_met world (demands.IsSmall view) [] fault
        (subst (λ o. Is o fault) size_fault full)))

    module _ (small : fault_of_size p ≡ None) where
      pub nodes_told : (lines : List NodeLine) → lines ≡ map (called_node world tower) p.nodes
          → Answers world (commands.Nodes view) world (Ok (replies.Nodes lines))
      nodes_told lines are = (
        λ i. option_or (option_or (there i) (option_or ((sym size_fault ∙ small) i) None)) None,
        (ap replies.Nodes (are ∙ (λ i. map (called_nodes i) (shows_view i).nodes)), refl),
      )

      pub arcs_told : (lines : List ArcLine)
          → lines ≡ map (called_arc world tower) (map fact_shown (arcs_in_order p))
          → Answers world (commands.Arcs view) world (Ok (replies.Arcs lines))
      arcs_told lines are = (
        λ i. option_or (option_or (there i) (option_or ((sym size_fault ∙ small) i) None)) None,
        (
          ap replies.Arcs
              (are ∙ called_arcs (arcs_in_order p)
              ∙ ap (λ (q : Shown). map (views.arc_line world view) (arcs_in_order q)) shows_view),
          refl,
        ),
      )
