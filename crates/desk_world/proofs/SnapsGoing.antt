-- A world from which a snapshot went.
use Rattle.std.proofs.Common.{◌≡◌, List, ◌++◌, map, sym, ap, ◌∙◌, subst}
use Rattle.std.specs.List.{flat_map}
use Rattle.plain_digraph.specs.Digraph.{Digraph}
use Rattle.plain_digraph.specs.Lists.{AllOf}
use Rattle.observe_core.specs.Seen.{Watched}
use Rattle.alter_graph.specs.declared.snaps.SnapKeys.{SnapKeys}
use Rattle.alter_graph.specs.Chains.{ChainsSeen, chains_seen}
use Rattle.alter_graph.specs.Snapping.{forgotten}
use Rattle.alter_graph.specs.State as graph
use Rattle.alter_graph.specs.State.{AlterOf, state_of}
use Rattle.plain_world.specs.Tables.{Name, Named, without_entry}
use Rattle.desk_names.specs.Rows.{Rows}
use Rattle.desk_world.specs.declared.world.World.{World}
use Rattle.desk_world.specs.Claims.{ClaimsDiffer, snap_claims}
use Rattle.desk_world.specs.InStep.{AreInStep, AreSeated}
use Rattle.desk_world.specs.Looks.{Look, look_in, looked}
use Rattle.desk_world.specs.Plain.{plain_of, look_of, kinds_of, snapshot_seen, world_seen}
use Rattle.desk_world.proofs.Changing.{looked_less}
use Rattle.desk_world.proofs.HalvesGone.{agree_gone, names_gone, others_left, seated_gone}
use Rattle.desk_world.proofs.NamedRows.{Stands}
use Rattle.desk_world.proofs.Relabelled.{Agrees, snapshots_agree}
use Rattle.desk_world.proofs.Seated.{all_left, all_right}
use Rattle.desk_world.proofs.SnapRows.{others, claims_before}
use Rattle.desk_world.proofs.SnapRows.{with_snaps, snaps_show, snaps_in_step}

module _ {O : Type 0} (watch : O → Watched) (w : World O) (rows : Rows SnapKeys) (a : AlterOf O)
    (name : Name) (keys : SnapKeys) (in_step : AreInStep watch w)
    (less : rows.rows ≡ without_entry w.snapshots.rows name)
    (at : Stands w.snapshots.rows name keys)
    (gone : chains_seen watch a.chains ≡ forgotten keys (chains_seen watch w.graph.chains))
    (same_graph : a.graph ≡ w.graph.graph) (then : graph.IsInStep (state_of watch a)) where
  abbrev c : ChainsSeen
  c = chains_seen watch w.graph.chains

  abbrev d : ChainsSeen
  d = chains_seen watch a.chains

  abbrev table : List (Named SnapKeys)
  table = others_left w.snapshots.rows name keys at

  left : rows.rows ≡ table
  left = less ∙ at.less

  -- ---- claims

  seated_before : AreSeated (others w ++ flat_map snap_claims w.snapshots.rows) c
  seated_before = subst (λ list. AreSeated list c) (claims_before w) in_step.seated

  differ : ClaimsDiffer (others w ++ flat_map snap_claims w.snapshots.rows)
  differ = seated_before.claims_differ

  seated : AreSeated (others w ++ flat_map snap_claims rows.rows) d
  seated =
      subst (λ list. AreSeated (others w ++ flat_map snap_claims list) d) (sym left)
      (subst (AreSeated (others w ++ flat_map snap_claims table)) (sym gone)
      (seated_gone w.snapshots.rows name keys at (others w) c seated_before))

  names : d.snaps ≡ map (λ (e : Named SnapKeys). e.value) rows.rows
  names =
      ap (λ (x : ChainsSeen). x.snaps) gone
      ∙ names_gone w.snapshots.rows name keys at (others w) differ c in_step.snaps
      ∙ sym (ap (map (λ (e : Named SnapKeys). e.value)) left)

  -- ---- what is seen

  abbrev look : Look
  look = look_of watch w

  abbrev now : Look
  now = look_in d

  agree : AllOf (Agrees look now) (others w ++ flat_map snap_claims table)
  agree =
      subst (λ (x : ChainsSeen). AllOf (Agrees look (look_in x))
      (others w ++ flat_map snap_claims table)) (sym gone)
      (agree_gone w.snapshots.rows name keys at (others w) differ c)

  agree_others : AllOf (Agrees look now) (others w)
  agree_others = all_left (Agrees look now) (others w) (flat_map snap_claims table) agree

  pub less_in_step : AreInStep watch (with_snaps w rows a)
  less_in_step = snaps_in_step watch w rows a in_step then agree_others names seated

  pub snap_gone : plain_of watch (with_snaps w rows a)
      ≡ record (plain_of watch w) {
        snapshots = without_entry (plain_of watch w).snapshots name;
      }
  snap_gone =
      let pool = kinds_of watch w.pool.items in
      let g : Digraph = w.graph.graph.graph in
      ap (λ r. world_seen r.graph now pool (with_snaps w rows a)) same_graph
      ∙ snaps_show w rows a g look now pool agree_others
      ∙ ap (λ snapshots. record (plain_of watch w) { snapshots = snapshots })
      (ap (looked (snapshot_seen g now)) left
      ∙ snapshots_agree look now g table
      (all_right (Agrees look now) (others w) (flat_map snap_claims table) agree)
      ∙ ap (looked (snapshot_seen g look)) (sym left ∙ less)
      ∙ looked_less (snapshot_seen g look) w.snapshots.rows name)
