-- A world to which a snapshot came.
use Rattle.std.proofs.Common.{◌≡◌, ℕ, zero, suc, List, [], ◌∷◌, ◌++◌, map, refl, sym, ap}
use Rattle.std.proofs.Common.{◌∙◌, subst, Some, None}
use Rattle.std.specs.List.{flat_map}
use Rattle.std.proofs.lemmas.List.{append-nil, append_assoc}
use Rattle.base_items.specs.declared.items.ItemSort.{ItemSort}
use Rattle.base_items.specs.declared.items.ItemSort.TheVariants as sorts
use Rattle.plain_digraph.specs.Copies.{copy_of}
use Rattle.plain_digraph.specs.Digraph.{Digraph}
use Rattle.plain_digraph.specs.Items.{facts}
use Rattle.plain_digraph.specs.Lists.{AllOf}
use Rattle.observe_core.specs.declared.kinds.Kind.TheVariants as kinds
use Rattle.observe_core.specs.Held as held
use Rattle.observe_core.specs.Held.{Held, making_of}
use Rattle.observe_core.specs.Seen.{Seen, Watched}
use Rattle.notify_chain.specs.Seats.{SeatSeen, find_seat}
use Rattle.alter_graph.specs.declared.snaps.SnapKeys.{SnapKeys}
use Rattle.alter_graph.specs.Attaching.{with_seats}
use Rattle.alter_graph.specs.Chains.{ChainsSeen, chain_in, chains_seen, in_chain}
use Rattle.alter_graph.specs.Present.{present_of}
use Rattle.alter_graph.specs.Snapping.{Makes}
use Rattle.alter_graph.specs.Snaps.{IsHalf, IsHalfSeat, IsSnap, half_of, half_held}
use Rattle.alter_graph.specs.Snaps.{saved_by}
use Rattle.alter_graph.specs.State as graph
use Rattle.alter_graph.specs.State.{AlterOf, state_of}
use Rattle.alter_graph.proofs.Snapping.{held_last, kind_last}
use Rattle.plain_world.specs.Tables.{Name, Named, under, with_entry}
use Rattle.desk_names.specs.Rows.{Rows}
use Rattle.desk_world.specs.declared.world.World.{World}
use Rattle.desk_world.specs.Claims.{Claim, Plays, Sits, Half, claim, snap_claims, is_map}
use Rattle.desk_world.specs.InStep.{AreInStep, AreSeated, keys_in, guards_seated}
use Rattle.desk_world.specs.Looks.{Look, look_in, looked}
use Rattle.desk_world.specs.Plain.{plain_of, look_of, kinds_of, snapshot_seen, world_seen}
use Rattle.desk_world.specs.Seating.{Comes}
use Rattle.desk_world.proofs.Changing.{looked_more}
use Rattle.desk_world.proofs.ClaimsCame.{look_comes, agree_comes, seats_comes}
use Rattle.desk_world.proofs.GuardOrder.{map_comes}
use Rattle.desk_world.proofs.Relabelled.{Agrees, snapshots_agree}
use Rattle.desk_world.proofs.Seated.{all_left, all_right, all_so, all_and}
use Rattle.desk_world.proofs.SnapCopies.{copy_now}
use Rattle.desk_world.proofs.SnapsFollow.{HalvesSit, copy_if, snapshot_shown}
use Rattle.desk_world.proofs.SnapRows.{others, claims_before, claims_apart, values_apart}
use Rattle.desk_world.proofs.SnapRows.{with_snaps, snaps_show, snaps_in_step}
use Rattle.desk_world.proofs.Unchanged.{seated_still}

-- ---- the halves

made_half : (h : Held) → IsHalf h → making_of h ≡ held.OfHalf
made_half held.Nothing is = absurd is
made_half (held.Values t es) is = absurd is
made_half (held.Degree out ends) is = absurd is
made_half (held.Half added unadded kept valid) is = refl
made_half (held.Kept role all items) is = absurd is
made_half (held.Ties ties) is = absurd is

-- what is a half by its form and is a map plays it
plays_half : (s : Seen) → IsHalf (half_of s) → s.kind ≡ kinds.Map → Plays Half s
plays_half s is map_kind = by s.form refl is
  where
    by : (n : ℕ) → s.form ≡ n → IsHalf (half_held n s.held) → Plays Half s
    by zero form half = record {
      form = form;
      making = made_half s.held half;
      kind = ap is_map map_kind;
    }
    by (suc n) form half = absurd half

-- the newest seat of a chain is a half
half_came : (key : ℕ) (ss : List SeatSeen) (seat : SeatSeen) → find_seat key ss ≡ None
    → seat.key ≡ key → IsHalfSeat key (ss ++ seat ∷ []) → Plays Half seat.seen
half_came key ss seat is_new name is =
    plays_half seat.seen (subst IsHalf (held_last key ss seat is_new name) is.half)
    (sym (kind_last key ss seat is_new name) ∙ is.kind)

-- what holds of all holds of the last
of_last : {X : Type 0} (P : X → Type 0) (xs : List X) (x : X) → AllOf P (xs ++ x ∷ []) → P x
of_last P xs x all = (all_right P xs (x ∷ []) all).0

-- ---- names alone

module _ (c : ChainsSeen) (names : List SnapKeys) where
  abbrev named : ChainsSeen
  named = record c { snaps = names }

  look_named : look_in named ≡ look_in c
  look_named = λ i sort key. by sort key i
    where
      by : (sort : ItemSort) (key : ℕ) → look_in named sort key ≡ look_in c sort key
      by sorts.Node key = refl
      by sorts.Arc key = refl

  seated_named : (list : List Claim) → AreSeated list c → AreSeated list named
  seated_named list = seated_still list c named look_named keys guards left
    where
      keys : (sort : ItemSort) → keys_in sort named ≡ keys_in sort c
      keys sorts.Node = refl
      keys sorts.Arc = refl

      guards : (sort : ItemSort) → guards_seated sort named ≡ guards_seated sort c
      guards sorts.Node = refl
      guards sorts.Arc = refl

      left : (sort : ItemSort) → (chain_in sort named).left ≡ (chain_in sort c).left
      left sorts.Node = refl
      left sorts.Arc = refl

-- ---- the world

module _ {O : Type 0} (watch : O → Watched) (w : World O) (rows : Rows SnapKeys) (a : AlterOf O)
    (name : Name) (keys : SnapKeys) (in_step : AreInStep watch w)
    (put : rows.rows ≡ with_entry w.snapshots.rows name keys)
    (makes : Makes keys (state_of watch w.graph) (state_of watch a))
    (node_new : find_seat keys.nodes.0 (chains_seen watch w.graph.chains).nodes.seats ≡ None)
    (arc_new : find_seat keys.arcs.0 (chains_seen watch w.graph.chains).arcs.seats ≡ None)
    (then : graph.IsInStep (state_of watch a)) where
  abbrev c : ChainsSeen
  c = chains_seen watch w.graph.chains

  abbrev d : ChainsSeen
  d = chains_seen watch a.chains

  abbrev g : Digraph
  g = w.graph.graph.graph

  -- first the seat of arcs came, and then that of nodes
  abbrev mid : ChainsSeen
  mid = in_chain sorts.Arc (with_seats (c.arcs.seats ++ makes.arc_seat ∷ [])) c

  abbrev whole : ChainsSeen
  whole = in_chain sorts.Node (with_seats (c.nodes.seats ++ makes.node_seat ∷ [])) mid

  arc_comes : Comes sorts.Arc keys.arcs.0 makes.arc_seat.seen c mid
  arc_comes = record {
    seat = makes.arc_seat;
    name = makes.arc_key;
    seen = refl;
    is_new = arc_new;
    is = refl;
  }

  node_comes : Comes sorts.Node keys.nodes.0 makes.node_seat.seen mid whole
  node_comes = record {
    seat = makes.node_seat;
    name = makes.node_key;
    seen = refl;
    is_new = node_new;
    is = refl;
  }

  last : d ≡ named whole (c.snaps ++ keys ∷ [])
  last = λ i. record { nodes = makes.nodes i; arcs = makes.arcs i; snaps = makes.names i }

  own : IsSnap (present_of a.graph.graph) d keys
  own = of_last (IsSnap (present_of a.graph.graph) d) c.snaps keys
      (subst (AllOf (IsSnap (present_of a.graph.graph) d)) makes.names then.seats.snaps.each)

  node_plays : Plays Half makes.node_seat.seen
  node_plays = half_came keys.nodes.0 c.nodes.seats makes.node_seat node_new makes.node_key
      (subst (λ (x : ChainsSeen). IsHalfSeat keys.nodes.0 x.nodes.seats) last own.nodes)

  arc_plays : Plays Half makes.arc_seat.seen
  arc_plays = half_came keys.arcs.0 c.arcs.seats makes.arc_seat arc_new makes.arc_key
      (subst (λ (x : ChainsSeen). IsHalfSeat keys.arcs.0 x.arcs.seats) last own.arcs)

  -- ---- claims

  abbrev front : List Claim
  front = others w ++ flat_map snap_claims w.snapshots.rows

  abbrev node_claim : Claim
  node_claim = claim sorts.Node keys.nodes.0 Half

  abbrev arc_claim : Claim
  arc_claim = claim sorts.Arc keys.arcs.0 Half

  seated : AreSeated (front ++ []) c
  seated = subst (λ list. AreSeated list c) (claims_before w ∙ sym (append-nil front))
      in_step.seated

  seated_mid : AreSeated (front ++ arc_claim ∷ []) mid
  seated_mid =
      seats_comes sorts.Arc keys.arcs.0 Half front [] makes.arc_seat.seen c mid arc_comes arc_plays
      seated (map_comes front arc_claim [] refl)

  seated_whole : AreSeated (front ++ node_claim ∷ arc_claim ∷ []) whole
  seated_whole =
      seats_comes sorts.Node keys.nodes.0 Half front (arc_claim ∷ []) makes.node_seat.seen mid whole
      node_comes node_plays seated_mid (map_comes front node_claim (arc_claim ∷ []) refl)

  abbrev look : Look
  look = look_of watch w

  abbrev now : Look
  now = look_in d

  look_last : now ≡ look_in whole
  look_last = ap look_in last ∙ look_named whole (c.snaps ++ keys ∷ [])

  agree : AllOf (Agrees look now) front
  agree =
      all_so (λ x. Agrees look (look_in mid) x × Agrees (look_in mid) (look_in whole) x)
      (Agrees look now)
      (λ x both. (λ i. look_last i x.sort x.key) ∙ both.1 ∙ both.0) front
      (all_and (Agrees look (look_in mid)) (Agrees (look_in mid) (look_in whole)) front
      (all_left (Agrees look (look_in mid)) front []
      (agree_comes sorts.Arc keys.arcs.0 Half front [] makes.arc_seat.seen c mid arc_comes arc_plays
      seated))
      (all_left (Agrees (look_in mid) (look_in whole)) front (arc_claim ∷ [])
      (agree_comes sorts.Node keys.nodes.0 Half front (arc_claim ∷ []) makes.node_seat.seen mid
      whole node_comes node_plays seated_mid)))

  agree_others : AllOf (Agrees look now) (others w)
  agree_others =
      all_left (Agrees look now) (others w) (flat_map snap_claims w.snapshots.rows) agree

  claimed : others w ++ flat_map snap_claims rows.rows ≡ front ++ node_claim ∷ arc_claim ∷ []
  claimed =
      ap (λ table. others w ++ flat_map snap_claims table) put
      ∙ ap (λ list. others w ++ list)
      (claims_apart w.snapshots.rows (under name keys ∷ []))
      ∙ sym (append_assoc (others w) (flat_map snap_claims w.snapshots.rows)
      (node_claim ∷ arc_claim ∷ []))

  pub more_in_step : AreInStep watch (with_snaps w rows a)
  more_in_step =
      snaps_in_step watch w rows a in_step then agree_others
      (makes.names ∙ ap (λ list. list ++ keys ∷ []) in_step.snaps
      ∙ sym (ap (map (λ (e : Named SnapKeys). e.value)) put
      ∙ values_apart w.snapshots.rows (under name keys ∷ [])))
      (subst (λ list. AreSeated list d) (sym claimed)
      (subst (AreSeated (front ++ node_claim ∷ arc_claim ∷ [])) (sym last)
      (seated_named whole (c.snaps ++ keys ∷ []) (front ++ node_claim ∷ arc_claim ∷ [])
      seated_whole)))

  -- ---- what it shows

  sit : HalvesSit now keys
  sit = (
    subst (Sits Half)
        (sym ((λ i. look_last i sorts.Node keys.nodes.0)
        ∙ look_comes sorts.Node keys.nodes.0 Half front (arc_claim ∷ []) makes.node_seat.seen mid
        whole node_comes node_plays)) node_plays,
    subst (Sits Half)
        (sym ((λ i. look_last i sorts.Arc keys.arcs.0)
        ∙ look_comes sorts.Arc keys.arcs.0 Half front [] makes.arc_seat.seen c mid arc_comes
        arc_plays)) arc_plays,
  )

  row_seen : snapshot_seen g now keys ≡ Some (Some (copy_of g))
  row_seen =
      snapshot_shown g d keys sit ∙ (λ i. Some (copy_if (makes.valid i) (saved_now i)))
      ∙ ap (λ copy. Some (Some copy)) (copy_now g in_step.graph.valid)
    where
      saved_now : saved_by keys (present_of g) d
          ≡ record { nodes = facts g sorts.Node; arcs = facts g sorts.Arc }
      saved_now =
          (λ i. saved_by keys (present_of (sym makes.graph i)) d)
          ∙ makes.copy

  pub snap_came : plain_of watch (with_snaps w rows a)
      ≡ record (plain_of watch w) {
        snapshots = with_entry (plain_of watch w).snapshots name (Some (copy_of g));
      }
  snap_came =
      let pool = kinds_of watch w.pool.items in
      ap (λ x. world_seen x now pool (with_snaps w rows a)) makes.graph
      ∙ snaps_show w rows a g look now pool agree_others
      ∙ ap (λ table. record (plain_of watch w) { snapshots = table })
      (ap (looked (snapshot_seen g now)) put
      ∙ looked_more (snapshot_seen g now) w.snapshots.rows name keys (Some (copy_of g)) row_seen
      ∙ ap (λ table. with_entry table name (Some (copy_of g)))
      (snapshots_agree look now g w.snapshots.rows
      (all_right (Agrees look now) (others w) (flat_map snap_claims w.snapshots.rows) agree)))
