-- The lines of snapshots.
use Rattle.std.proofs.Common.{◌≡◌, ℕ, true, false, cond, map, sym, ap, ◌∙◌, subst, Some, None}
use Rattle.std.proofs.Common.{Option, length, refl}
use Rattle.std.specs.Prelude.{option_map, slice_get}
use Rattle.std.proofs.lemmas.Option.{slice_get-map}
use Rattle.base_items.specs.declared.items.ItemSort.{ItemSort}
use Rattle.base_items.specs.declared.items.ItemSort.TheVariants as sorts
use Rattle.report_text.specs.declared.replies.SnapLine.TheVariants as snaps
use Rattle.plain_digraph.specs.Copies.{Copy, added, ids_in}
use Rattle.plain_digraph.specs.Digraph.{Digraph}
use Rattle.plain_digraph.specs.Facts.{fact_id}
use Rattle.plain_digraph.specs.Items.{facts}
use Rattle.plain_digraph.specs.Lists.{has}
use Rattle.observe_core.specs.Fits.{HeldFits}
use Rattle.observe_core.specs.Held as held
use Rattle.observe_core.specs.Held.{Held, making_of}
use Rattle.observe_core.specs.Items.{has_id}
use Rattle.observe_core.specs.Saved.{saved_of}
use Rattle.observe_core.specs.Seen.{Seen, Watched}
use Rattle.alter_graph.specs.declared.snaps.SnapKeys.{SnapKeys}
use Rattle.alter_graph.specs.Chains.{ChainsSeen, chains_seen, seats_in}
use Rattle.alter_graph.specs.Present.{present_of}
use Rattle.alter_graph.specs.Snaps.{IsHalf, added_of, held_at, is_valid, saved_by, Saved}
use Rattle.alter_graph.proofs.Following.{fits_at}
use Rattle.alter_graph.proofs.Saving.{sound_at}
use Rattle.alter_graph.proofs.Taking.{steady_in}
use Rattle.alter_graph.proofs.Tied.{added_outside}
use Rattle.plain_world.specs.Tables.{Name, Named, under}
use Rattle.plain_world.specs.World as plain
use Rattle.plain_world.specs.Replies.{snap_line}
use Rattle.desk_world.specs.declared.world.World.{World}
use Rattle.desk_world.specs.Claims.{Half, Sits}
use Rattle.desk_world.specs.Copies.{copy_of_facts}
use Rattle.desk_world.specs.InStep.{AreInStep}
use Rattle.desk_world.specs.Looks.{look_in}
use Rattle.desk_world.specs.Plain.{plain_of, look_of, snapshot_seen}
use Rattle.desk_world.proofs.GuardsFound.{looked_place, row_at, all_values}
use Rattle.desk_world.proofs.SnapCopies.{copy_has}
use Rattle.desk_world.proofs.SnapsFollow.{HalvesSit, half_seen, snapshot_shown}
use Rattle.desk_world.proofs.SnapsFound.{copy_by, snaps_sit, snaps_seen}

is_half : (h : Held) → making_of h ≡ held.OfHalf → IsHalf h
is_half held.Nothing is = absurd (cc)
is_half (held.Values t es) is = absurd (cc)
is_half (held.Degree out ends) is = absurd (cc)
is_half (held.Half added others kept valid) is = tt
is_half (held.Kept role all items) is = absurd (cc)
is_half (held.Ties ties) is = absurd (cc)

module _ {O : Type 0} (watch : O → Watched) (w : World O) (in_step : AreInStep watch w) where
  abbrev c : ChainsSeen
  c = chains_seen watch w.graph.chains

  abbrev g : Digraph
  g = w.graph.graph.graph

  -- ---- what was added

  abbrev held_in : ItemSort → ℕ → Held
  held_in sort key = held_at key (seats_in sort c)

  half_fits : (sort : ItemSort) (key : ℕ) → HeldFits (held_in sort key) (facts g sort)
  half_fits sorts.Node key =
      fits_at g.stamps (facts g sorts.Node) key c.nodes.seats in_step.graph.seats.nodes
  half_fits sorts.Arc key =
      fits_at g.stamps (facts g sorts.Arc) key c.arcs.seats in_step.graph.seats.arcs

  half_there : (sort : ItemSort) (key : ℕ) (o : Option Seen) → look_in c sort key ≡ o
      → Sits Half o → IsHalf (held_in sort key)
  half_there sort key None is sits = absurd sits
  half_there sort key (Some s) is sits =
      subst IsHalf (sym (half_seen key (seats_in sort c) s is sits.form))
      (is_half s.held sits.making)

  -- the half in a seat has as added what is outside a copy of what it saves
  added_now : (sort : ItemSort) (key : ℕ) (copy : Copy) → Sits Half (look_in c sort key)
      → ((id : ℕ) → has (ids_in copy sort) id
      ≡ has_id fact_id id (saved_of (held_in sort key) (facts g sort)))
      → added_of (held_in sort key) ≡ added copy g sort
  added_now sort key copy sits lists =
      added_outside g in_step.graph.valid sort copy (held_in sort key)
      (half_there sort key (look_in c sort key) refl sits)
      (half_fits sort key) (sound_at key (seats_in sort c) (steady_in watch sort w.graph.chains))
      lists

  -- ---- the line at a place

  module _ (place : ℕ) (keys : SnapKeys)
      (valued : slice_get (map (λ (e : Named SnapKeys). e.value) w.snapshots.rows) place
      ≡ Some keys) (name : Name)
      (named : slice_get (map (λ (e : Named SnapKeys). e.name) w.snapshots.rows) place
      ≡ Some name) (told : Name) (own : told ≡ name) where
    abbrev world : plain.World
    world = plain_of watch w

    sit : HalvesSit (look_of watch w) keys
    sit =
        all_values (HalvesSit (look_of watch w)) w.snapshots.rows place keys
        (snaps_sit watch w in_step) valued

    line_at : slice_get (map (snap_line world) world.snapshots) place
        ≡ Some (snap_line world (under told (copy_by g c keys)))
    line_at =
        slice_get-map (snap_line world) world.snapshots place
        ∙ ap (option_map (snap_line world))
        (looked_place (snapshot_seen g (look_of watch w)) w.snapshots.rows place (under name keys)
        (copy_by g c keys) (snaps_seen watch w in_step)
        (row_at w.snapshots.rows place name keys named valued) (snapshot_shown g c keys sit))
        ∙ ap (λ n. Some (snap_line world (under n (copy_by g c keys)))) (sym own)

    abbrev saved_now : Saved
    saved_now = saved_by keys (present_of g) c

    abbrev copy : Copy
    copy = copy_of_facts saved_now.nodes saved_now.arcs

    pub stale_line : is_valid keys c ≡ false
        → slice_get (map (snap_line world) world.snapshots) place ≡ Some (snaps.Stale told)
    stale_line stale =
        line_at
        ∙ ap (λ b. Some (snap_line world (under told (cond b (Some copy) None)))) stale

    pub valid_line : is_valid keys c ≡ true → (nodes arcs : ℕ)
        → nodes ≡ length (added_of (held_in sorts.Node keys.nodes.0))
        → arcs ≡ length (added_of (held_in sorts.Arc keys.arcs.0))
        → slice_get (map (snap_line world) world.snapshots) place
        ≡ Some (snaps.Valid told nodes arcs)
    valid_line valid nodes arcs nodes_are arcs_are =
        let more_nodes = nodes_are ∙ ap length (added_now sorts.Node keys.nodes.0 copy sit.0
        (copy_has sorts.Node saved_now.nodes saved_now.arcs)) in
        let more_arcs = arcs_are ∙ ap length (added_now sorts.Arc keys.arcs.0 copy sit.1
        (copy_has sorts.Arc saved_now.nodes saved_now.arcs)) in
        line_at
        ∙ ap (λ b. Some (snap_line world (under told (cond b (Some copy) None)))) valid
        ∙ (λ i. Some (snaps.Valid told (sym more_nodes i) (sym more_arcs i)))
