-- Each command keeps a world valid.
use Rattle.std.proofs.Common.{◌≡◌, ◌+◌, ◌≤◌, ℕ, true, false, refl, sym, ◌∙◌}
use Rattle.std.proofs.Common.{ap, subst, map, length, Option, None, Some, is_some}
use Rattle.std.proofs.Common.{Contains, inl, inr, arith}
use Rattle.std.specs.Prelude.{option_map, option_and_then}
use Rattle.std.specs.Option.{option_map_or}
use Rattle.std.proofs.lemmas.Bool.{true≢false, or_parts}
use Rattle.base_items.specs.declared.limits.TheConstants.{MAX_STAMP}
use Rattle.base_items.specs.declared.items.ItemSort.TheVariants.{Node, Arc}
use Rattle.script_words.specs.declared.commands.Command.{Command}
use Rattle.script_words.specs.declared.commands.Command.TheVariants as commands
use Rattle.script_words.specs.Valid as script
use Rattle.report_text.specs.declared.replies.Reply.{Reply}
use Rattle.plain_digraph.specs.Copies.{Copy}
use Rattle.plain_digraph.specs.PlainSteps.{AddNode, AddArc, MoveFrom, MoveTo, Turn}
use Rattle.plain_digraph.specs.Alterations.{Alteration, restoring, refusable_steps, single}
use Rattle.plain_digraph.specs.Alterations.{contraction, loop_contraction, node_split, arc_split}
use Rattle.plain_world.specs.declared.answers.Answer.TheVariants.{Answered, Refused}
use Rattle.plain_world.specs.Tables.{Name, entry, has_entry}
use Rattle.plain_world.specs.World.{World, Degrees, Trues}
use Rattle.plain_world.specs.Following.{altered}
use Rattle.plain_world.specs.Demands.{demands}
use Rattle.plain_world.specs.Altering.{item_at, alteration_of}
use Rattle.plain_world.specs.Refusals.{first_of, breach, veto_of}
use Rattle.plain_world.specs.Effects.{after, after_command, new_map}
use Rattle.plain_world.specs.Queries.{bounds_of}
use Rattle.plain_world.specs.Choices.{as_cheapest}
use Rattle.plain_world.specs.Steps.{Does}
use Rattle.plain_world.specs.Valid.{IsWorld, IsSnapshot}
use Rattle.plain_world.specs.Laws.{StepsKeepWorlds, stamps_taken}
use Rattle.plain_world.proofs.Named.{items_named}
use Rattle.plain_world.proofs.AlterationsKept.{single_kept, node_erased, arc_erased, cleared}
use Rattle.plain_world.proofs.AlterationsKept.{contracted, loop_contracted, restored}
use Rattle.plain_world.proofs.CopiesKept.{copies_in, entry_holds, all_listed}
use Rattle.plain_world.proofs.Labelled.{node_added, arc_added, node_split_kept}
use Rattle.plain_world.proofs.Labelled.{node_split_joined, arc_split_kept}
use Rattle.plain_world.proofs.WorldParts.{Parts, to_parts, from_parts}
use Rattle.plain_world.proofs.TablesKept.{guard_kept, unguard_kept, snap_kept, forget_kept}
use Rattle.plain_world.proofs.TablesKept.{view_kept, keep_kept, unview_kept, tie_kept, untie_kept}
use Rattle.plain_world.proofs.TablesKept.{named_live}
use Rattle.plain_world.proofs.MapsKept.{map_kept, set_kept, retyped_kept, dropped_kept}
use Rattle.plain_world.proofs.MapsKept.{relabel_kept, spelled_held}
use Rattle.plain_world.proofs.DemandsMet.{AreMet, demands_met, or_none, met, new_name}
use Rattle.plain_world.proofs.DemandsMet.{new_map_name, unread, no_view_on, layer_met, copy_there}
use Rattle.plain_world.proofs.DemandsMet.{unused, room, passing, apart}
use Rattle.plain_world.proofs.FlowsKept.{takes, largest_takes, written_ok, cheapest_ok}

abbrev HasStamps : World → Command → Type 0
HasStamps world command = world.graph.stamps + stamps_taken world command ≤ MAX_STAMP

abbrev NoVeto : World → Command → Type 0
NoVeto world command = option_and_then (veto_of world) (alteration_of world command) ≡ None

restore_ok : (world : World) (snapshot : Name) (copy : Copy) → IsWorld world → Parts world
    → entry world.snapshots snapshot ≡ Some (Some copy)
    → HasStamps world (commands.Restore snapshot) → NoVeto world (commands.Restore snapshot)
    → Parts (after world (commands.Restore snapshot))
restore_ok world snapshot copy ok parts is left none =
    let copies = copies_in world.snapshots in
    let asked : Option (Option Copy) → Option Alteration = λ o.
    option_map restoring (option_and_then (λ c. c) o) in
    let steps : Option Alteration → ℕ = λ o.
    option_map_or (λ a. length (refusable_steps world.graph a)) o 0 in
    let kept = restored world copy parts
    (entry_holds (IsSnapshot world.graph) world.snapshots snapshot (Some copy) parts.snapshots_ok
    is)
    (entry_holds (λ o. (c : Copy) → o ≡ Some c → Contains copies c) world.snapshots snapshot
    (Some copy) (all_listed world.snapshots) is copy refl)
    (subst (λ o. world.graph.stamps + steps (asked o) ≤ MAX_STAMP) is left)
    (passing world (restoring copy)
    (sym (ap (λ o. option_and_then (veto_of world) (asked o)) is) ∙ none)) in
    subst (λ o. Parts
    (after_command (option_map_or (altered world) (asked o) world) (commands.Restore snapshot)))
    (sym is) (forget_kept (altered world (restoring copy)) snapshot kept)

after_ok : (world : World) (command : Command) → IsWorld world → Parts world
    → script.IsValid command → HasStamps world command → NoVeto world command
    → AreMet world (demands command) → Parts (after world command)
after_ok world (commands.AddNode label) ok parts valid left none are =
    let few : world.graph.stamps + 1 ≤ MAX_STAMP = left in
    node_added world label parts (room world 1 0 are.1.0).0 (omega (arith, few))
    (passing world (single AddNode) none) (unused world Node label ok are.0)
after_ok world (commands.AddArc label from to) ok parts valid left none are =
    let u = item_at world Node from in
    let v = item_at world Node to in
    let few : world.graph.stamps + 1 ≤ MAX_STAMP = left in
    arc_added world u v label parts (room world 0 1 are.1.1.1.0).1 (omega (arith, few))
    (named_live world Node from ok.graph_ok (met _ _ are.0))
    (named_live world Node to ok.graph_ok (met _ _ are.1.0))
    (passing world (single (AddArc u v)) none) (unused world Arc label ok are.1.1.0)
after_ok world (commands.DelNode node) ok parts valid left none are =
    node_erased world (item_at world Node node) parts
    (named_live world Node node ok.graph_ok (met _ _ are.0))
after_ok world (commands.DelArc arc) ok parts valid left none are =
    arc_erased world (item_at world Arc arc) parts
    (named_live world Arc arc ok.graph_ok (met _ _ are.0))
after_ok world (commands.Source arc node) ok parts valid left none are =
    let a = item_at world Arc arc in
    let u = item_at world Node node in
    let few : world.graph.stamps + 1 ≤ MAX_STAMP = left in
    let live = named_live world Arc arc ok.graph_ok (met _ _ are.0) in
    let to = named_live world Node node ok.graph_ok (met _ _ are.1.0) in
    single_kept world (MoveFrom a u) parts tt ((live, to, omega (arith, few)), tt)
    (passing world (single (MoveFrom a u)) none) ((λ k d within. tt), tt)
after_ok world (commands.Target arc node) ok parts valid left none are =
    let a = item_at world Arc arc in
    let u = item_at world Node node in
    let few : world.graph.stamps + 1 ≤ MAX_STAMP = left in
    let live = named_live world Arc arc ok.graph_ok (met _ _ are.0) in
    let to = named_live world Node node ok.graph_ok (met _ _ are.1.0) in
    single_kept world (MoveTo a u) parts tt ((live, to, omega (arith, few)), tt)
    (passing world (single (MoveTo a u)) none) ((λ k d within. tt), tt)
after_ok world (commands.Turn arc) ok parts valid left none are =
    let a = item_at world Arc arc in
    let few : world.graph.stamps + 1 ≤ MAX_STAMP = left in
    let live = named_live world Arc arc ok.graph_ok (met _ _ are.0) in
    single_kept world (Turn a) parts tt ((live, omega (arith, few)), tt)
    (passing world (single (Turn a)) none) ((λ k d within. tt), tt)
after_ok world (commands.Contract u v false) ok parts valid left none are =
    let a = item_at world Node u in
    let b = item_at world Node v in
    contracted world a b parts (named_live world Node u ok.graph_ok (met _ _ are.0))
    (named_live world Node v ok.graph_ok (met _ _ are.1.0)) left
    (passing world (contraction a b) none)
after_ok world (commands.Contract u v true) ok parts valid left none are =
    let a = item_at world Node u in
    let b = item_at world Node v in
    let there = met _ _ are.0 in
    let also = met _ _ are.1.0 in
    loop_contracted world a b parts (named_live world Node u ok.graph_ok there)
    (named_live world Node v ok.graph_ok also)
    (apart world u v there also (new_name _ _ are.1.1.0)) left
    (passing world (loop_contraction a b) none)
after_ok world (commands.SplitNode node label None) ok parts valid left none are =
    let a = item_at world Node node in
    node_split_kept world a label parts (room world 1 0 are.1.1.0).0 left
    (passing world (node_split world.graph a false) none) (unused world Node label ok are.1.0)
after_ok world (commands.SplitNode node label (Some arc_label)) ok parts valid left none are =
    let a = item_at world Node node in
    let space = room world 1 1 are.1.1.1.0 in
    node_split_joined world a label arc_label parts
    (named_live world Node node ok.graph_ok (met _ _ are.0)) space.0 space.1 left
    (passing world (node_split world.graph a true) none) (unused world Node label ok are.1.0)
    (unused world Arc arc_label ok are.1.1.0)
after_ok world (commands.SplitArc arc label arc_label) ok parts valid left none are =
    let a = item_at world Arc arc in
    let space = room world 1 1 are.1.1.1.0 in
    arc_split_kept world a label arc_label parts
    (named_live world Arc arc ok.graph_ok (met _ _ are.0)) space.0 space.1 left
    (passing world (arc_split world.graph a) none) (unused world Node label ok are.1.0)
    (unused world Arc arc_label ok are.1.1.0)
after_ok world commands.Clear ok parts valid left none are = cleared world parts
after_ok world (commands.Restore snapshot) ok parts valid left none are =
    let there = copy_there (entry world.snapshots snapshot) _ (met _ _ are.0) are.1.0 in
    restore_ok world snapshot there.0 ok parts there.1 left none
after_ok world (commands.NodeMap name type) ok parts valid left none are =
    let new = new_map_name world Node name are.0 in
    map_kept world Node name (new_map world Node type) parts new.0 valid new.1
    (spelled_held world Node world.nodes.maps type _ ok.graph_ok)
after_ok world (commands.ArcMap name type) ok parts valid left none are =
    let new = new_map_name world Arc name are.0 in
    map_kept world Arc name (new_map world Arc type) parts new.0 valid new.1
    (spelled_held world Arc world.arcs.maps type _ ok.graph_ok)
after_ok world (commands.Degree name way) ok parts valid left none are =
    let new = new_map_name world Node name are.0 in
    map_kept world Node name (Degrees way) parts new.0 valid new.1 refl
after_ok world (commands.Trues sort index name) ok parts valid left none are =
    let new = new_map_name world sort index are.1.0 in
    map_kept world sort index (Trues name) parts new.0 valid new.1 (met _ _ are.1.1.0)
after_ok world (commands.Retype sort name type) ok parts valid left none are =
    let free = unread world sort name are.1.1.0 in
    retyped_kept world sort name type parts free.0 free.1
after_ok world (commands.Set sort name item value) ok parts valid left none are =
    set_kept world sort name (item_at world sort item) value parts
    (named_live world sort item ok.graph_ok (met _ _ are.1.0))
after_ok world (commands.DropMap sort name) ok parts valid left none are =
    let free = unread world sort name are.1.1.0 in
    dropped_kept world sort name parts free.0 free.1
after_ok world (commands.Guard guard sort kind limit) ok parts valid left none are =
    guard_kept world guard sort kind limit parts valid (new_name _ _ are.0) (met _ _ are.1.1.0)
after_ok world (commands.Unguard guard) ok parts valid left none are =
    unguard_kept world guard parts
after_ok world (commands.Snap snapshot) ok parts valid left none are =
    snap_kept world snapshot parts (new_name _ _ are.0)
after_ok world (commands.Forget snapshot) ok parts valid left none are =
    forget_kept world snapshot parts
after_ok world (commands.View view layer below) ok parts valid left none are =
    let is = layer_met world view below layer are in
    view_kept world view below layer parts is.0
    (or_parts _ (has_entry world.views view) is.1).1 is.2
after_ok world (commands.Keep view) ok parts valid left none are = keep_kept world view parts
after_ok world (commands.Unview view) ok parts valid left none are =
    unview_kept world view parts (no_view_on world view are.1.1.0)
after_ok world (commands.Tie attribute sort) ok parts valid left none are =
    tie_kept world attribute sort parts are.1.1.0
after_ok world (commands.Untie attribute) ok parts valid left none are =
    untie_kept world attribute parts
after_ok world (commands.Relabel sort old new) ok parts valid left none are =
    relabel_kept world sort (item_at world sort old) new parts
    (named_live world sort old ok.graph_ok (met _ _ are.0))
    (λ id is. true≢false (sym (ap is_some (items_named world sort id new ok is))
    ∙ new_name _ _ are.1.0))
after_ok world _ ok parts valid left none are = parts

does_ok : (world later : World) (command : Command) (reply : Reply) → IsWorld world → Parts world
    → script.IsValid command → HasStamps world command → NoVeto world command
    → AreMet world (demands command) → Does world command reply later → Parts later
does_ok world later (commands.Dijkstra view length start) reply ok parts valid few none are does =
    subst Parts (sym does.1) parts
does_ok world later (commands.Bellman view length start) reply ok parts valid
    few none are (inl does) =
    subst Parts (sym does.1) parts
does_ok world later (commands.Bellman view length start) reply ok parts valid
    few none are (inr does) =
    subst Parts (sym does.1) parts
does_ok world later (commands.MaxFlow view cap s t into) reply ok parts valid few none are does =
    subst Parts (sym does.2)
    (written_ok world view into does.0 parts (largest_takes world view cap s t into are))
does_ok world later (commands.Circulate view low up supply into) reply ok parts valid few none are
    (inl does) =
    subst Parts (sym does.2)
    (written_ok world view into does.0 parts (takes world view low up None supply into are))
does_ok world later (commands.Circulate view low up supply into) reply ok parts valid few none are
    (inr does) = subst Parts (sym does.1) parts
does_ok world later (commands.MinCost view low up cost supply into) reply ok parts valid
    few none are does =
    cheapest_ok world later view (bounds_of world view low up supply) cost into reply parts
    (takes world view low up (Some cost) supply into are) does
does_ok world later (commands.Simplex view low up cost supply into) reply ok parts valid
    few none are does =
    cheapest_ok world later view (bounds_of world view low up supply) cost into reply parts
    (takes world view low up (Some cost) supply into are)
    (as_cheapest world view (bounds_of world view low up supply) cost into reply later does)
does_ok world later (commands.Match view left) reply ok parts valid few none are does =
    subst Parts (sym does.1) parts
does_ok world later (commands.Heaviest view left weight) reply ok parts valid few none are does =
    subst Parts (sym does.1) parts
does_ok world later (commands.Assign view left cost) reply ok parts valid few none are (inl does) =
    subst Parts (sym does.1) parts
does_ok world later (commands.Assign view left cost) reply ok parts valid few none are (inr does) =
    subst Parts (sym does.1) parts
does_ok world later (commands.MeanCycle view length time) reply ok parts valid
    few none are (inl does) =
    subst Parts (sym does.1) parts
does_ok world later (commands.MeanCycle view length time) reply ok parts valid
    few none are (inr does) =
    subst Parts (sym does.1) parts
does_ok world later command reply ok parts valid few none are does =
    subst Parts (sym does.1) (after_ok world command ok parts valid few none are)

pub commands_kept : StepsKeepWorlds
commands_kept world later command (Refused fault) ok valid left step =
    subst IsWorld (sym step.1) ok
commands_kept world later command (Answered reply) ok valid left step =
    let none = (or_none (first_of (map (breach world) (demands command)))
    (option_and_then (veto_of world) (alteration_of world command)) step.0).1 in
    from_parts later
    (does_ok world later command reply ok (to_parts world ok) valid left none
    (demands_met world command step.0) step.1)
