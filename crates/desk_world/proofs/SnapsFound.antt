-- The snapshots of a world by their names.
use Rattle.std.proofs.Common.{◌≡◌, true, ◌++◌, map, refl, ap, ◌∙◌, subst}
use Rattle.std.proofs.Common.{Option, Some, None, is_some}
use Rattle.std.specs.Prelude.{option_and_then}
use Rattle.plain_digraph.specs.Copies.{Copy}
use Rattle.plain_digraph.specs.Digraph.{Digraph}
use Rattle.plain_digraph.specs.Lists.{AllOf}
use Rattle.observe_core.specs.Seen.{Watched}
use Rattle.alter_graph.specs.declared.snaps.SnapKeys.{SnapKeys}
use Rattle.alter_graph.specs.Chains.{ChainsSeen, chains_seen}
use Rattle.alter_graph.specs.Present.{present_of}
use Rattle.alter_graph.specs.Snaps.{is_valid, saved_by}
use Rattle.plain_world.specs.Tables.{Name, Named, entry, has_entry}
use Rattle.desk_world.specs.declared.world.World.{World}
use Rattle.desk_world.specs.Claims.{guard_claim}
use Rattle.desk_world.specs.InStep.{AreInStep}
use Rattle.desk_world.specs.Plain.{plain_of, look_of, snapshot_seen}
use Rattle.desk_world.proofs.GuardTables.{ahead, after, claims_are}
use Rattle.desk_world.proofs.MapsFound.{looked_entry, of_entry}
use Rattle.desk_world.proofs.Seated.{SitsIn, all_right, all_so}
use Rattle.desk_world.proofs.SnapsFollow.{HalvesSit, halves_sit, copy_if, snapshot_shown}

-- what the halves of a snapshot keep
abbrev pub copy_by : Digraph → ChainsSeen → SnapKeys → Option Copy
copy_by g c keys = copy_if (is_valid keys c) (saved_by keys (present_of g) c)

module _ {O : Type 0} (watch : O → Watched) (w : World O) (in_step : AreInStep watch w) where
  abbrev now : ChainsSeen
  now = chains_seen watch w.graph.chains

  abbrev g : Digraph
  g = w.graph.graph.graph

  -- both halves of each row sit
  pub snaps_sit : AllOf (λ (e : Named SnapKeys). HalvesSit (look_of watch w) e.value)
      w.snapshots.rows
  snaps_sit =
      halves_sit now w.snapshots.rows
      (all_right (SitsIn now) (map guard_claim w.guards.rows) (after w)
      (all_right (SitsIn now) (ahead w) (map guard_claim w.guards.rows ++ after w)
      (subst (AllOf (SitsIn now)) (claims_are w) in_step.seated.there)))

  pub snaps_seen : AllOf (λ (e : Named SnapKeys).
      is_some (snapshot_seen g (look_of watch w) e.value) ≡ true) w.snapshots.rows
  snaps_seen =
      all_so (λ (e : Named SnapKeys). HalvesSit (look_of watch w) e.value)
      (λ (e : Named SnapKeys). is_some (snapshot_seen g (look_of watch w) e.value) ≡ true)
      (λ e sit. ap is_some (snapshot_shown g now e.value sit)) w.snapshots.rows snaps_sit

  snap_entry : (name : Name) → entry (plain_of watch w).snapshots name
      ≡ option_and_then (snapshot_seen g (look_of watch w)) (entry w.snapshots.rows name)
  snap_entry name =
      looked_entry (snapshot_seen g (look_of watch w)) w.snapshots.rows name snaps_seen

  -- the snapshot of a name is what the halves of its row keep
  pub snap_found : (name : Name) (keys : SnapKeys) → entry w.snapshots.rows name ≡ Some keys
      → entry (plain_of watch w).snapshots name ≡ Some (copy_by g now keys)
  snap_found name keys found =
      snap_entry name ∙ ap (option_and_then (snapshot_seen g (look_of watch w))) found
      ∙ snapshot_shown g now keys
      (of_entry (HalvesSit (look_of watch w)) w.snapshots.rows name keys snaps_sit found)

  -- a snapshot is there exactly where its row is
  pub snap_there : (name : Name)
      → has_entry (plain_of watch w).snapshots name ≡ has_entry w.snapshots.rows name
  snap_there name = by (entry w.snapshots.rows name) refl
    where
      by : (o : Option SnapKeys) → entry w.snapshots.rows name ≡ o
          → is_some (entry (plain_of watch w).snapshots name) ≡ is_some o
      by None found =
          ap is_some (snap_entry name
          ∙ ap (option_and_then (snapshot_seen g (look_of watch w))) found)
      by (Some keys) found = ap is_some (snap_found name keys found)
