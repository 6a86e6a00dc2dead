-- A restored world has the lists of the copy.
use Rattle.std.proofs.Common.{◌≡◌, ◌+◌, ◌≤◌, ℕ, refl, sym, ◌∙◌, ap, subst, map, length, Option}
use Rattle.std.proofs.Common.{Some, Contains, arith}
use Rattle.std.specs.Prelude.{option_map, option_and_then}
use Rattle.std.specs.Option.{option_map_or}
use Rattle.std.proofs.lemmas.List.{append-nil, length-map}
use Rattle.base_items.specs.declared.limits.TheConstants.{MAX_STAMP}
use Rattle.script_words.specs.declared.commands.Command.TheVariants as commands
use Rattle.plain_digraph.specs.Digraph.{Digraph}
use Rattle.plain_digraph.specs.PlainSteps.{PlaceBack}
use Rattle.plain_digraph.specs.Copies.{Copy, copy_of, moved}
use Rattle.plain_digraph.specs.Alterations.{Alteration, refusable_steps, all_steps, restoring}
use Rattle.plain_digraph.specs.Valid as digraph
use Rattle.plain_digraph.specs.RestoreLaws.{Keeps, StampsApart, StaysValid}
use Rattle.plain_digraph.proofs.Restored.{restored_is_copied}
use Rattle.plain_world.specs.World.{World}
use Rattle.plain_world.specs.Following.{altered}
use Rattle.plain_world.specs.Altering.{alteration_of}
use Rattle.plain_world.specs.Refusals.{breach, first_of, veto_of}
use Rattle.plain_world.specs.Demands.{demands}
use Rattle.plain_world.specs.Effects.{after_command}
use Rattle.plain_world.specs.Valid.{IsCopy, IsSnapshot}
use Rattle.plain_world.specs.Laws.{RestoredGraphsAreCopied}
use Rattle.plain_world.proofs.AlterationsKept.{restored_of}
use Rattle.plain_world.proofs.CopiesKept.{copies_in, entry_holds, all_listed}
use Rattle.plain_world.proofs.DemandsMet.{or_none, passing}
use Rattle.plain_world.proofs.Followed.{graphs_follow}
use Rattle.plain_world.proofs.Passing.{Passes}
use Rattle.plain_world.proofs.Restoring.{valid_placed, valid_without}
use Rattle.plain_world.proofs.WorldParts.{Parts, to_parts}

copied_again : (w : World) (c : Digraph) → Parts w → digraph.IsValid c → Keeps c w.graph
    → StampsApart c w.graph → Contains (copies_in w.snapshots) (copy_of c)
    → w.graph.stamps + length (refusable_steps w.graph (restoring (copy_of c))) ≤ MAX_STAMP
    → Passes w.guards w.graph (refusable_steps w.graph (restoring (copy_of c)))
    → copy_of (altered w (restoring (copy_of c))).graph ≡ copy_of c
copied_again w c ok valid_c keeps apart listed left passes =
    let g = w.graph in
    let facts = moved (copy_of c) g in
    let steps = all_steps g (restoring (copy_of c)) in
    let size = ap length (append-nil (map PlaceBack facts)) in
    let size_b = length-map facts PlaceBack in
    let few : g.stamps + length facts ≤ MAX_STAMP = omega (arith, left, size, size_b) in
    let same = graphs_follow steps w in
    let stays : StaysValid c g = record {
      placed = valid_placed c g valid_c ok.graph_ok keeps apart few;
      arcs_gone = valid_without c g valid_c ok.graph_ok keeps apart few;
      restored =
          subst digraph.IsValid same
          (restored_of w c ok valid_c keeps apart listed left passes).graph_ok;
    } in
    ap copy_of same ∙ restored_is_copied c g valid_c ok.graph_ok keeps stays

copied_of : (w : World) (copy : Copy) → Parts w → IsCopy w.graph copy
    → Contains (copies_in w.snapshots) copy
    → w.graph.stamps + length (refusable_steps w.graph (restoring copy)) ≤ MAX_STAMP
    → Passes w.guards w.graph (refusable_steps w.graph (restoring copy))
    → copy_of (altered w (restoring copy)).graph ≡ copy
copied_of w copy ok is =
    subst (λ c. Contains (copies_in w.snapshots) c
    → w.graph.stamps + length (refusable_steps w.graph (restoring c)) ≤ MAX_STAMP
    → Passes w.guards w.graph (refusable_steps w.graph (restoring c))
    → copy_of (altered w (restoring c)).graph ≡ c) is.is_copied
    (copied_again w is.copied ok is.copied_ok is.keeps is.apart)

pub restored_copied : RestoredGraphsAreCopied
restored_copied world later snapshot copy reply ok is left step =
    let command = commands.Restore snapshot in
    let copies = copies_in world.snapshots in
    let parts = to_parts world ok in
    let asked : Option (Option Copy) → Option Alteration = λ o.
    option_map restoring (option_and_then (λ c. c) o) in
    let taken : Option Alteration → ℕ = λ o.
    option_map_or (λ a. length (refusable_steps world.graph a)) o 0 in
    let none = (or_none (first_of (map (breach world) (demands command)))
    (option_and_then (veto_of world) (alteration_of world command)) step.0).1 in
    let copied = copied_of world copy parts
    (entry_holds (IsSnapshot world.graph) world.snapshots snapshot (Some copy) parts.snapshots_ok
    is)
    (entry_holds (λ o. (c : Copy) → o ≡ Some c → Contains copies c) world.snapshots snapshot
    (Some copy) (all_listed world.snapshots) is copy refl)
    (subst (λ o. world.graph.stamps + taken (asked o) ≤ MAX_STAMP) is left)
    (passing world (restoring copy)
    (sym (ap (λ o. option_and_then (veto_of world) (asked o)) is) ∙ none)) in
    ap (λ (w : World). copy_of w.graph) step.1.1
    ∙ (ap (λ o. copy_of
    (after_command (option_map_or (altered world) (asked o) world) command).graph) is
    ∙ copied)
