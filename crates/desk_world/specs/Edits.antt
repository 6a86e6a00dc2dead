-- What the calls that alter the digraph of a world do.
use Rattle.std.specs.Prelude.{◌≡◌, ◌≢◌, true, List, [], ◌∷◌, map, fold, Result, Ok, Err}
use Rattle.std.specs.Prelude.{None}
use Rattle.std.specs.Option.{option_or}
use Rattle.base_items.specs.declared.items.ItemSort.{ItemSort}
use Rattle.base_items.specs.declared.items.ItemSort.TheVariants as sorts
use Rattle.report_text.specs.declared.faults.StepFault.{StepFault}
use Rattle.report_text.specs.declared.replies.Reply.{Reply}
use Rattle.report_text.specs.declared.replies.Reply.TheVariants.{Quiet}
use Rattle.plain_digraph.specs.Digraph.{Digraph}
use Rattle.plain_digraph.specs.Items.{IsLive}
use Rattle.plain_digraph.specs.PlainSteps as steps
use Rattle.plain_digraph.specs.Alterations.{Alteration, single, node_erasure, arc_erasure, clearing}
use Rattle.plain_digraph.specs.Alterations.{node_split, arc_split}
use Rattle.alter_graph.specs.Contraction.{contraction_of}
use Rattle.plain_world.specs.Tables.{Name}
use Rattle.plain_world.specs.World.{World}
use Rattle.plain_world.specs.Following.{altered, labelled, new_item}
use Rattle.plain_world.specs.Demands.{Demand, New, HasRoom, Labels}
use Rattle.plain_world.specs.Refusals.{breach, first_of, veto_of}
use Rattle.desk_world.specs.declared.alterations.Edit.{Edit}
use Rattle.desk_world.specs.declared.alterations.Edit.TheVariants as edits
use Rattle.desk_world.specs.declared.alterations.Split.{Split}
use Rattle.desk_world.specs.declared.alterations.Split.TheVariants as splits
use Rattle.desk_world.specs.Faults.{Is}

-- ---- by ids

-- the alteration of each kind
abbrev pub alteration_by : Edit → Alteration
alteration_by (edits.EraseNode node) = node_erasure node.0
alteration_by (edits.EraseArc arc) = arc_erasure arc.0
alteration_by edits.Clear = clearing
alteration_by (edits.MoveFrom arc node) = single (steps.MoveFrom arc.0 node.0)
alteration_by (edits.MoveTo arc node) = single (steps.MoveTo arc.0 node.0)
alteration_by (edits.Turn arc) = single (steps.Turn arc.0)
alteration_by (edits.Contract u v loops) = contraction_of loops u v

-- its items are live, and nodes that are contracted differ
abbrev pub CanEdit : Edit → Digraph → Type 0
CanEdit (edits.EraseNode node) g = IsLive g sorts.Node node.0
CanEdit (edits.EraseArc arc) g = IsLive g sorts.Arc arc.0
CanEdit edits.Clear g = Unit {0}
CanEdit (edits.MoveFrom arc node) g = IsLive g sorts.Arc arc.0 × IsLive g sorts.Node node.0
CanEdit (edits.MoveTo arc node) g = IsLive g sorts.Arc arc.0 × IsLive g sorts.Node node.0
CanEdit (edits.Turn arc) g = IsLive g sorts.Arc arc.0
CanEdit (edits.Contract u v loops) g =
    IsLive g sorts.Node u.0 × IsLive g sorts.Node v.0 × (u.0 ≢ v.0)

abbrev pub split_by : Digraph → Split → Alteration
split_by g (splits.Node node) = node_split g node.0 true
split_by g (splits.Arc arc) = arc_split g arc.0

-- its item is live
abbrev pub CanSplit : Split → Digraph → Type 0
CanSplit (splits.Node node) g = IsLive g sorts.Node node.0
CanSplit (splits.Arc arc) g = IsLive g sorts.Arc arc.0

-- what a new node with this label demands
abbrev pub node_demands : Name → List Demand
node_demands label = New (Labels sorts.Node) label ∷ HasRoom 1 0 ∷ []

-- what a split demands that makes a node and an arc with these labels
abbrev pub split_demands : Name → Name → List Demand
split_demands label arc_label =
    New (Labels sorts.Node) label ∷ New (Labels sorts.Arc) arc_label ∷ HasRoom 1 1 ∷ []

-- ---- the world after an alteration

-- new items, each with its label
abbrev pub with_labels : Digraph → List (ItemSort × Name) → World → World
with_labels before labels world =
    fold (λ now new. labelled now new.0 (new_item before new.0) new.1) world labels

-- all demands are met, no guard refuses, and the whole alteration happened
pub record Happened (old : World) (demands : List Demand) (alteration : Alteration)
    (labels : List (ItemSort × Name)) (later : World) (reply : Reply) : Type 0 where
  pub met : first_of (map (breach old) demands) ≡ None
  pub unvetoed : veto_of old alteration ≡ None
  pub quiet : reply ≡ Quiet
  pub world : later ≡ with_labels old.graph labels (altered old alteration)

-- a demand isn't met, or a guard refuses, or memory ran out, and nothing has changed
pub record Stopped (old : World) (demands : List Demand) (alteration : Alteration) (later : World)
    (fault : StepFault) : Type 0 where
  pub why : Is (option_or (first_of (map (breach old) demands)) (veto_of old alteration)) fault
  pub same : later ≡ old

-- an alteration that is done where these demands are met, and that gives new items these labels
abbrev pub Edits : World → List Demand → Alteration → List (ItemSort × Name) → World
    → Result Reply StepFault → Type 0
Edits old demands alteration labels later (Ok reply) =
    Happened old demands alteration labels later reply
Edits old demands alteration labels later (Err fault) = Stopped old demands alteration later fault
