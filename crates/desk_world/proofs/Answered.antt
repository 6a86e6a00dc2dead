-- What an addition answers, and the world that it leaves.
use Rattle.std.proofs.Common.{◌≡◌, ℕ, ◌+◌, ◌<◌, ◌≤◌, List, [], ◌∷◌, refl, sym, ap}
use Rattle.std.proofs.Common.{subst, Some, None, ◌∙◌, arith}
use Rattle.std.specs.Prelude.{is_some, unwrap_or}
use Rattle.base_items.specs.declared.items.ItemSort.{ItemSort}
use Rattle.base_items.specs.declared.items.ItemSort.TheVariants as sorts
use Rattle.base_items.specs.declared.limits.TheConstants.{MAX_STAMP}
use Rattle.script_words.specs.declared.commands.Command.{Command}
use Rattle.script_words.specs.declared.commands.Command.TheVariants as commands
use Rattle.script_words.specs.Valid as script
use Rattle.report_text.specs.declared.faults.StepFault.{StepFault}
use Rattle.report_text.specs.declared.replies.Reply.TheVariants.{Quiet}
use Rattle.plain_digraph.specs.Items.{IsLive}
use Rattle.plain_digraph.specs.Steps.{new_node, new_arc}
use Rattle.plain_digraph.specs.PlainSteps.{PlainStep, AddNode, AddArc}
use Rattle.plain_digraph.specs.Alterations.{single}
use Rattle.plain_digraph.specs.Valid as digraph
use Rattle.observe_core.specs.Seen.{Watched}
use Rattle.alter_graph.specs.Room.{HasRoomFor}
use Rattle.plain_world.specs.declared.answers.Answer.{Answer}
use Rattle.plain_world.specs.declared.answers.Answer.TheVariants.{Answered}
use Rattle.plain_world.specs.Tables.{Name}
use Rattle.plain_world.specs.World as plain
use Rattle.plain_world.specs.Following.{follow, labelled, new_item}
use Rattle.plain_world.specs.Demands as demand
use Rattle.plain_world.specs.Demands.{demands, item_named}
use Rattle.plain_world.specs.Altering.{item_at}
use Rattle.plain_world.specs.Refusals.{breach, veto_of}
use Rattle.plain_world.specs.Laws.{stamps_taken}
use Rattle.plain_world.specs.Steps.{Step}
use Rattle.plain_world.specs.Valid.{IsWorld}
use Rattle.plain_machine.specs.Built.{RefusedBy}
use Rattle.plain_world.proofs.CommandsKept.{commands_kept}
use Rattle.plain_world.proofs.DemandsMet.{room}
use Rattle.plain_world.proofs.TablesKept.{named_live}
use Rattle.desk_world.specs.declared.world.World.{World}
use Rattle.desk_world.specs.Faults.{Is}
use Rattle.desk_world.specs.InStep.{AreInStep, IsInStep}
use Rattle.desk_world.specs.Plain.{plain_of}
use Rattle.desk_world.proofs.Demanded.{fault_of, refused, met, not_met, both_met, not_vetoed}

-- the world that an addition and a label lead to
pub labelled_then : (world now then later : plain.World) (step asked : PlainStep)
    (sort : ItemSort) (id : ℕ) (label name : Name) → now ≡ world → then ≡ follow now step
    → later ≡ labelled then sort id label → step ≡ asked → id ≡ new_item world.graph sort
    → label ≡ name → later ≡ labelled (follow world asked) sort (new_item world.graph sort) name
labelled_then world now then later step asked sort id label name same follows is one number text =
    let before : then ≡ follow world asked = follows ∙ (λ i. follow (same i) (one i)) in
    is ∙ (λ i. labelled (before i) sort (number i) (text i))

-- the item that was found by a name
pub item_found : (world : plain.World) (sort : ItemSort) (name : Name) (id : ℕ)
    → digraph.IsValid world.graph → item_named world sort name ≡ Some id
    → IsLive world.graph sort id × (id ≡ item_at world sort name)
item_found world sort name id valid is =
    let at : item_at world sort name ≡ id = ap (λ o. unwrap_or o 0) is in
    (subst (IsLive world.graph sort) at (named_live world sort name valid (ap is_some is)), sym at)

module _ (world : plain.World) (label : Name) where
  pub node_met : breach world (demand.New (demand.Labels sorts.Node) label) ≡ None
      → breach world (demand.HasRoom 1 0) ≡ None
      → fault_of world (demands (commands.AddNode label)) ≡ None
  node_met new roomy =
      both_met world (demand.New (demand.Labels sorts.Node) label) (demand.HasRoom 1 0 ∷ []) new
      (both_met world (demand.HasRoom 1 0) [] roomy refl)

  pub node_answered : (later : plain.World)
      → fault_of world (demands (commands.AddNode label)) ≡ None
      → veto_of world (single AddNode) ≡ None
      → later ≡ labelled (follow world AddNode) sorts.Node (new_node world.graph) label
      → Step world (commands.AddNode label) (Answered Quiet) later
  node_answered later all_met none is =
      (not_vetoed world (commands.AddNode label) (single AddNode) all_met refl none, (refl, is))

  module _ (from to : Name) where
    -- the arc as it is asked for
    abbrev pub arc_asked : PlainStep
    arc_asked = AddArc (item_at world sorts.Node from) (item_at world sorts.Node to)

    pub arc_met : breach world (demand.There (demand.Labels sorts.Node) from) ≡ None
        → breach world (demand.There (demand.Labels sorts.Node) to) ≡ None
        → breach world (demand.New (demand.Labels sorts.Arc) label) ≡ None
        → breach world (demand.HasRoom 0 1) ≡ None
        → fault_of world (demands (commands.AddArc label from to)) ≡ None
    arc_met source target new roomy =
        let there = demand.There (demand.Labels sorts.Node) to in
        let unused = demand.New (demand.Labels sorts.Arc) label in
        let room = demand.HasRoom 0 1 ∷ [] in
        both_met world (demand.There (demand.Labels sorts.Node) from) (there ∷ unused ∷ room) source
        (both_met world there (unused ∷ room) target
        (both_met world unused room new (both_met world (demand.HasRoom 0 1) [] roomy refl)))

    pub arc_answered : (later : plain.World)
        → fault_of world (demands (commands.AddArc label from to)) ≡ None
        → veto_of world (single arc_asked) ≡ None
        → later ≡ labelled (follow world arc_asked) sorts.Arc (new_arc world.graph) label
        → Step world (commands.AddArc label from to) (Answered Quiet) later
    arc_answered later all_met none is = (
      not_vetoed world (commands.AddArc label from to) (single arc_asked) all_met refl none,
      (refl, is),
    )

-- the answer leaves the world in step
pub answered_in_step : {O : Type 0} (watch : O → Watched) (w : World O) (old : plain.World)
    (command : Command) (answer : Answer) → AreInStep watch w → IsWorld old
    → script.IsValid command → old.graph.stamps + stamps_taken old command ≤ MAX_STAMP
    → Step old command answer (plain_of watch w) → IsInStep watch w
answered_in_step watch w old command answer seats ok valid left step = record {
  seats = seats;
  valid = commands_kept old (plain_of watch w) command answer ok valid left step;
}

-- where no limit is passed, the digraph has room for the item
pub node_room : (world : plain.World) → breach world (demand.HasRoom 1 0) ≡ None
    → world.graph.stamps + 1 ≤ MAX_STAMP → HasRoomFor (AddNode ∷ []) world.graph
node_room world none left = record {
  for_nodes = λ some. (room world 1 0 none).0;
  for_arcs = λ some. absurd (omega (arith, some));
  for_stamps = λ some. left;
}

pub arc_room : (world : plain.World) (from to : ℕ) → breach world (demand.HasRoom 0 1) ≡ None
    → world.graph.stamps + 1 ≤ MAX_STAMP → HasRoomFor (AddArc from to ∷ []) world.graph
arc_room world from to none left = record {
  for_nodes = λ some. absurd (omega (arith, some));
  for_arcs = λ some. (room world 0 1 none).1;
  for_stamps = λ some. left;
}

pub one_stamp : (stamps limit : ℕ) → stamps + 16777216 ≤ limit → stamps + 1 ≤ limit
one_stamp stamps limit left = omega (arith, left)

pub few_stamps : (new old : ℕ) → new ≡ old + 1 → new < old + 16777216
few_stamps new old is = omega (arith, is)

pub same_stamps : (new old : ℕ) → new ≡ old → new < old + 16777216
same_stamps new old is = omega (arith, is)

-- a world that stands for the same plain one is valid too
pub still_valid : {O : Type 0} (watch : O → Watched) (w later : World O) → AreInStep watch later
    → plain_of watch later ≡ plain_of watch w → IsInStep watch w → IsInStep watch later
still_valid watch w later seats same in_step =
    record { seats = seats; valid = subst IsWorld (sym same) in_step.valid }

-- a node that is refused
module _ (world : plain.World) (label : Name) (fault : StepFault) where
  abbrev new_node_name : demand.Demand
  new_node_name = demand.New (demand.Labels sorts.Node) label

  abbrev room_for_node : List demand.Demand
  room_for_node = demand.HasRoom 1 0 ∷ []

  pub node_taken : Is (breach world new_node_name) fault
      → RefusedBy world (commands.AddNode label) world fault
  node_taken is =
      refused world (commands.AddNode label) fault
      (not_met world new_node_name room_for_node fault is)

  pub no_node_room : breach world new_node_name ≡ None
      → Is (breach world (demand.HasRoom 1 0)) fault
      → RefusedBy world (commands.AddNode label) world fault
  no_node_room unused is =
      refused world (commands.AddNode label) fault
      (met world new_node_name room_for_node fault unused
      (not_met world (demand.HasRoom 1 0) [] fault is))

  -- an arc that is refused
  module _ (from to : Name) where
    abbrev adds : Command
    adds = commands.AddArc label from to

    abbrev source : demand.Demand
    source = demand.There (demand.Labels sorts.Node) from

    abbrev target : demand.Demand
    target = demand.There (demand.Labels sorts.Node) to

    abbrev name : demand.Demand
    name = demand.New (demand.Labels sorts.Arc) label

    abbrev room_for_arc : List demand.Demand
    room_for_arc = demand.HasRoom 0 1 ∷ []

    pub no_source : Is (breach world source) fault → RefusedBy world adds world fault
    no_source is =
        refused world adds fault (not_met world source (target ∷ name ∷ room_for_arc) fault is)

    pub no_target : breach world source ≡ None → Is (breach world target) fault
        → RefusedBy world adds world fault
    no_target one is =
        refused world adds fault
        (met world source (target ∷ name ∷ room_for_arc) fault one
        (not_met world target (name ∷ room_for_arc) fault is))

    pub arc_taken : breach world source ≡ None → breach world target ≡ None
        → Is (breach world name) fault → RefusedBy world adds world fault
    arc_taken one two is =
        refused world adds fault
        (met world source (target ∷ name ∷ room_for_arc) fault one
        (met world target (name ∷ room_for_arc) fault two
        (not_met world name room_for_arc fault is)))

    pub no_arc_room : breach world source ≡ None → breach world target ≡ None
        → breach world name ≡ None → Is (breach world (demand.HasRoom 0 1)) fault
        → RefusedBy world adds world fault
    no_arc_room one two three is =
        refused world adds fault
        (met world source (target ∷ name ∷ room_for_arc) fault one
        (met world target (name ∷ room_for_arc) fault two
        (met world name room_for_arc fault three
        (not_met world (demand.HasRoom 0 1) [] fault is))))
