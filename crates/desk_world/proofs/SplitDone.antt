-- A world whose items were split, and their labels.
use Rattle.std.proofs.Common.{◌≡◌, ◌+◌, ◌≤◌, ℕ, List, [], ◌∷◌, refl, sym, ap, subst, ◌∙◌}
use Rattle.std.proofs.Common.{Option, Some, None}
use Rattle.std.specs.Prelude.{fold, IsSome}
use Rattle.std.specs.FinMap as fin
use Rattle.base_items.specs.declared.items.ItemSort.{ItemSort}
use Rattle.base_items.specs.declared.items.ItemSort.TheVariants as sorts
use Rattle.base_items.specs.declared.limits.TheConstants.{MAX_ARCS, MAX_NODES}
use Rattle.script_words.specs.declared.commands.Command.TheVariants as commands
use Rattle.report_text.specs.declared.faults.StepFault.{StepFault}
use Rattle.plain_digraph.specs.Items.{IsLive, count_of}
use Rattle.plain_digraph.specs.PlainSteps.{PlainStep, after_steps}
use Rattle.observe_core.specs.Seen.{Watched}
use Rattle.index_maps.specs.RefViews.{HasLabel}
use Rattle.plain_world.specs.Tables.{Name}
use Rattle.plain_world.specs.World as plain
use Rattle.plain_world.specs.World.{attached}
use Rattle.plain_world.specs.Following.{follow, labelled, new_item}
use Rattle.plain_world.specs.Demands.{HasRoom, Labels, New, There}
use Rattle.plain_world.specs.Refusals.{breach}
use Rattle.plain_world.specs.Valid.{IsWorld}
use Rattle.plain_world.proofs.Attaching.{IsUnused}
use Rattle.plain_world.proofs.DemandsMet.{or_none, room, unused}
use Rattle.plain_world.proofs.Followed.{graphs_follow}
use Rattle.plain_machine.specs.Built.{RefusedBy}
use Rattle.desk_world.specs.declared.world.World.{World}
use Rattle.desk_world.specs.Edits.{node_demands, split_demands}
use Rattle.desk_world.specs.Entries.{labels_at, room_for_labels}
use Rattle.desk_world.specs.Faults.{Is}
use Rattle.desk_world.specs.InStep.{AreInStep}
use Rattle.desk_world.specs.Plain.{plain_of}
use Rattle.desk_world.proofs.Added.{TakesLabel}
use Rattle.desk_world.proofs.Demanded.{fault_of, not_met, refused}
use Rattle.desk_world.proofs.Entered.{free_there, unlabelled_there}
use Rattle.desk_world.proofs.Labelled.{attached_ok}
use Rattle.desk_world.proofs.SplitSteps.{AllMay, labels_stay, not_live}

-- an item that isn't live has no label
pub unlabelled : (world : plain.World) → IsWorld world → (sort : ItemSort) (id : ℕ)
    → (IsLive world.graph sort id → ⊥) → fin.get (attached world sort).labels id ≡ None
unlabelled world ok sort id dead =
    none_if (fin.get (attached world sort).labels id) (((attached_ok world ok sort).labelled id).1)
    dead
  where
    none_if : (o : Option Name) → (IsSome o → IsLive world.graph sort id)
        → (IsLive world.graph sort id → ⊥) → o ≡ None
    none_if None back dead = refl
    none_if (Some name) back dead = absurd (dead (back refl))

-- the digraph and the labels of a sort are those of the world after some steps
pub record IsAfter {O : Type 0} (watch : O → Watched) (world : plain.World)
    (steps : List PlainStep) (last : World O) (sort : ItemSort) : Type 0 where
  pub seats : AreInStep watch last
  pub graph : last.graph.graph.graph ≡ after_steps world.graph steps
  pub labels : (attached (plain_of watch last) sort).labels ≡ (attached world sort).labels

-- so the new item of the sort takes a label that is new
module _ {O : Type 0} (watch : O → Watched) (world : plain.World) (ok : IsWorld world)
    (steps : List PlainStep) (last : World O) (sort : ItemSort)
    (is : IsAfter watch world steps last sort) where
  pub takes : (name : Name)
      → IsLive (after_steps world.graph steps) sort (new_item world.graph sort)
      → IsUnused (attached world sort).labels name → 1 ≤ room_for_labels watch last sort
      → (id : ℕ) → id ≡ new_item world.graph sort → TakesLabel watch last sort id name
  takes name live unused room id same =
      let new = new_item world.graph sort in
      let none = unlabelled world ok sort new (not_live world.graph sort ok.graph_ok) in
      record {
        live = subst (λ n. HasLabel n None (labels_at watch last sort)) (sym same)
            (unlabelled_there watch last sort is.seats new
            (subst (λ d. IsLive d sort new) (sym is.graph) live)
            (ap (λ labels. fin.get labels new) is.labels ∙ none));
        free = free_there watch last sort is.seats name
            (subst (λ labels. IsUnused labels name) (sym is.labels) unused);
        room = room;
      }

module _ {O : Type 0} (watch : O → Watched) (world : plain.World) (steps : List PlainStep)
    (last : World O) (seats : AreInStep watch last)
    (is : plain_of watch last ≡ fold follow world steps) (may : AllMay steps) where
  -- after the steps
  pub after_all : (sort : ItemSort) → IsAfter watch world steps last sort
  after_all sort = record {
    seats = seats;
    graph = ap (λ (v : plain.World). v.graph) is ∙ graphs_follow steps world;
    labels = ap (λ v. (attached v sort).labels) is ∙ labels_stay steps world sort may;
  }

  -- and once a node has its label, the arcs are as before
  pub after_node : (later : World O) (id : ℕ) (name : Name) → AreInStep watch later
      → plain_of watch later ≡ labelled (plain_of watch last) sorts.Node id name
      → IsAfter watch world steps later sorts.Arc
  after_node later id name seats_later put = record {
    seats = seats_later;
    graph = ap (λ (v : plain.World). v.graph) put ∙ (after_all sorts.Arc).graph;
    labels = ap (λ (v : plain.World). v.arcs.labels) put ∙ (after_all sorts.Arc).labels;
  }

-- ---- what the demands of a split give

pub record SplitMet (world : plain.World) (label arc_label : Name) : Type 0 where
  pub new : IsUnused world.nodes.labels label
  pub arc_new : IsUnused world.arcs.labels arc_label
  pub nodes : count_of world.graph sorts.Node + 1 ≤ MAX_NODES
  pub arcs : count_of world.graph sorts.Arc + 1 ≤ MAX_ARCS

pub split_met : (world : plain.World) → IsWorld world → (label arc_label : Name)
    → fault_of world (split_demands label arc_label) ≡ None → SplitMet world label arc_label
split_met world ok label arc_label met =
    let first = New (Labels sorts.Node) label in
    let second = New (Labels sorts.Arc) arc_label in
    let third = HasRoom 1 1 in
    let one = or_none (breach world first) (fault_of world (second ∷ third ∷ [])) met in
    let two = or_none (breach world second) (fault_of world (third ∷ [])) one.1 in
    let space = room world 1 1 (or_none (breach world third) None two.1).0 in
    record {
      new = unused world sorts.Node label ok one.0;
      arc_new = unused world sorts.Arc arc_label ok two.0;
      nodes = space.0;
      arcs = space.1;
    }

pub record NodeMet (world : plain.World) (label : Name) : Type 0 where
  pub new : IsUnused world.nodes.labels label
  pub nodes : count_of world.graph sorts.Node + 1 ≤ MAX_NODES
  pub arcs : count_of world.graph sorts.Arc + 0 ≤ MAX_ARCS

pub node_met : (world : plain.World) → IsWorld world → (label : Name)
    → fault_of world (node_demands label) ≡ None → NodeMet world label
node_met world ok label met =
    let first = New (Labels sorts.Node) label in
    let second = HasRoom 1 0 in
    let one = or_none (breach world first) (fault_of world (second ∷ [])) met in
    let space = room world 1 0 (or_none (breach world second) None one.1).0 in
    record {
      new = unused world sorts.Node label ok one.0;
      nodes = space.0;
      arcs = space.1;
    }

-- a node that isn't there
pub no_node : (world : plain.World) (node label : Name) (arc_label : Option Name)
    (fault : StepFault) → Is (breach world (There (Labels sorts.Node) node)) fault
    → RefusedBy world (commands.SplitNode node label arc_label) world fault
no_node world node label None fault is =
    refused world (commands.SplitNode node label None) fault
    (not_met world (There (Labels sorts.Node) node) (node_demands label) fault is)
no_node world node label (Some arc_label) fault is =
    refused world (commands.SplitNode node label (Some arc_label)) fault
    (not_met world (There (Labels sorts.Node) node) (split_demands label arc_label) fault is)
