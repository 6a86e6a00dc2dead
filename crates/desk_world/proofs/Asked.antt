-- The alteration that a command asks for, by the ids that were found.
use Rattle.std.proofs.Common.{◌≡◌, ◌≢◌, Bool, true, false, refl, sym, ap, ◌∙◌, Some, None, ℕ}
use Rattle.std.specs.Prelude.{is_some}
use Rattle.std.specs.Str.{bytes_eq}
use Rattle.base_items.specs.declared.items.Arc.{Arc}
use Rattle.base_items.specs.declared.items.ItemSort.{ItemSort}
use Rattle.base_items.specs.declared.items.ItemSort.TheVariants as sorts
use Rattle.base_items.specs.declared.items.Node.{Node}
use Rattle.script_words.specs.declared.commands.Command.{Command}
use Rattle.script_words.specs.declared.commands.Command.TheVariants as commands
use Rattle.plain_digraph.specs.Items.{IsLive}
use Rattle.plain_digraph.specs.PlainSteps.{MoveFrom, MoveTo, Turn}
use Rattle.plain_digraph.specs.Alterations.{single, node_erasure, arc_erasure}
use Rattle.plain_digraph.specs.Alterations.{arc_split, contraction, loop_contraction, node_split}
use Rattle.plain_digraph.specs.Valid.{IsValid}
use Rattle.plain_world.specs.Tables.{Name}
use Rattle.plain_world.specs.World.{World}
use Rattle.plain_world.specs.Demands.{item_named}
use Rattle.plain_world.specs.Altering.{alteration_of, item_at}
use Rattle.plain_world.proofs.DemandsMet.{apart}
use Rattle.desk_world.specs.declared.alterations.Edit.{Edit}
use Rattle.desk_world.specs.declared.alterations.Edit.TheVariants as edits
use Rattle.desk_world.specs.declared.alterations.Split.{Split}
use Rattle.desk_world.specs.declared.alterations.Split.TheVariants as splits
use Rattle.desk_world.specs.Edits.{alteration_by, split_by, CanEdit, CanSplit}
use Rattle.desk_world.proofs.Answered.{item_found}

-- the command asks for this, and it can be done
pub record AsksFor (world : World) (command : Command) (edit : Edit) : Type 0 where
  pub alters : alteration_of world command ≡ Some (alteration_by edit)
  pub can : CanEdit edit world.graph

-- so for a split
pub record AsksToSplit (world : World) (command : Command) (split : Split) : Type 0 where
  pub alters : alteration_of world command ≡ Some (split_by world.graph split)
  pub can : CanSplit split world.graph

module _ (world : World) (valid : IsValid world.graph) where
  -- an item that was found is live, and is the one of the name
  live : (sort : ItemSort) (name : Name) (id : ℕ) → item_named world sort name ≡ Some id
      → IsLive world.graph sort id
  live sort name id found = (item_found world sort name id valid found).0

  at : (sort : ItemSort) (name : Name) (id : ℕ) → item_named world sort name ≡ Some id
      → item_at world sort name ≡ id
  at sort name id found = sym (item_found world sort name id valid found).1

  module _ (name : Name) (node : Node) (found : item_named world sorts.Node name ≡ Some node.0)
    where
      pub erases_node : AsksFor world (commands.DelNode name) (edits.EraseNode node)
      erases_node = record {
        alters = ap (λ id. Some (node_erasure id)) (at sorts.Node name node.0 found);
        can = live sorts.Node name node.0 found;
      }

      -- a split without a new arc
      pub splits_off : (label : Name) → alteration_of world (commands.SplitNode name label None)
          ≡ Some (node_split world.graph node.0 false)
      splits_off label =
          ap (λ id. Some (node_split world.graph id false)) (at sorts.Node name node.0 found)

      pub node_live : IsLive world.graph sorts.Node node.0
      node_live = live sorts.Node name node.0 found

      pub splits_node : (label arc_label : Name) → AsksToSplit world
          (commands.SplitNode name label (Some arc_label)) (splits.Node node)
      splits_node label arc_label = record {
        alters =
            ap (λ id. Some (node_split world.graph id true)) (at sorts.Node name node.0 found);
        can = node_live;
      }

      -- a node that goes into it
      module _ (name_v : Name) (v : Node) (found_v : item_named world sorts.Node name_v ≡ Some v.0)
          (differ : bytes_eq name name_v ≡ false) where
        differs : node.0 ≢ v.0
        differs same =
            apart world name name_v (ap is_some found) (ap is_some found_v) differ
            (at sorts.Node name node.0 found ∙ same ∙ sym (at sorts.Node name_v v.0 found_v))

        pub contracts : (loops : Bool)
            → AsksFor world (commands.Contract name name_v loops) (edits.Contract node v loops)
        contracts true = record {
          alters = λ i. Some (loop_contraction (at sorts.Node name node.0 found i)
              (at sorts.Node name_v v.0 found_v i));
          can = (live sorts.Node name node.0 found, live sorts.Node name_v v.0 found_v, differs);
        }
        contracts false = record {
          alters = λ i. Some (contraction (at sorts.Node name node.0 found i)
              (at sorts.Node name_v v.0 found_v i));
          can = (live sorts.Node name node.0 found, live sorts.Node name_v v.0 found_v, differs);
        }

  module _ (name : Name) (arc : Arc) (found : item_named world sorts.Arc name ≡ Some arc.0) where
    pub erases_arc : AsksFor world (commands.DelArc name) (edits.EraseArc arc)
    erases_arc = record {
      alters = ap (λ id. Some (arc_erasure id)) (at sorts.Arc name arc.0 found);
      can = live sorts.Arc name arc.0 found;
    }

    pub splits_arc : (label arc_label : Name)
        → AsksToSplit world (commands.SplitArc name label arc_label) (splits.Arc arc)
    splits_arc label arc_label = record {
      alters = ap (λ id. Some (arc_split world.graph id)) (at sorts.Arc name arc.0 found);
      can = live sorts.Arc name arc.0 found;
    }

    pub turns : AsksFor world (commands.Turn name) (edits.Turn arc)
    turns = record {
      alters = ap (λ id. Some (single (Turn id))) (at sorts.Arc name arc.0 found);
      can = live sorts.Arc name arc.0 found;
    }

    -- an end of it goes to this node
    module _ (end : Name) (node : Node) (end_found : item_named world sorts.Node end ≡ Some node.0)
      where
        pub moves_from : AsksFor world (commands.Source name end) (edits.MoveFrom arc node)
        moves_from = record {
          alters = λ i. Some (single (MoveFrom (at sorts.Arc name arc.0 found i)
              (at sorts.Node end node.0 end_found i)));
          can = (live sorts.Arc name arc.0 found, live sorts.Node end node.0 end_found);
        }

        pub moves_to : AsksFor world (commands.Target name end) (edits.MoveTo arc node)
        moves_to = record {
          alters = λ i. Some (single (MoveTo (at sorts.Arc name arc.0 found i)
              (at sorts.Node end node.0 end_found i)));
          can = (live sorts.Arc name arc.0 found, live sorts.Node end node.0 end_found);
        }

pub clears : (world : World) → AsksFor world commands.Clear edits.Clear
clears world = record { alters = refl; can = tt }
