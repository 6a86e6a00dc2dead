-- A world after a kept view went.
use Rattle.std.proofs.Common.{◌≡◌, not, List, ◌∷◌, ◌++◌, map}
use Rattle.std.proofs.Common.{filter}
use Rattle.std.proofs.Common.{sym, ap, ◌∙◌, subst, Some, None}
use Rattle.std.specs.List.{flat_map}
use Rattle.std.proofs.lemmas.List.{append_assoc}
use Rattle.base_items.specs.declared.items.ItemSort.TheVariants as sorts
use Rattle.plain_digraph.specs.Lists.{AllOf}
use Rattle.observe_core.specs.Seen.{Watched}
use Rattle.alter_graph.specs.Attaching.{detached, uses_key}
use Rattle.alter_graph.specs.Chains.{ChainsSeen, chains_seen}
use Rattle.alter_graph.specs.State as graph
use Rattle.alter_graph.specs.State.{AlterOf, state_of}
use Rattle.plain_world.specs.Demands as demands
use Rattle.plain_world.specs.Refusals.{breach}
use Rattle.plain_world.specs.Tables.{Name, without_entry}
use Rattle.plain_world.proofs.DemandsMet.{no_view_on}
use Rattle.desk_names.specs.Rows.{Rows}
use Rattle.desk_world.specs.declared.tables.KeptKeys.{KeptKeys}
use Rattle.desk_world.specs.declared.tables.ViewRow.{ViewRow}
use Rattle.desk_world.specs.declared.world.World.{World}
use Rattle.desk_world.specs.Claims.{Claim, claim, view_claims, snap_claims}
use Rattle.desk_world.specs.Claims.{guard_claim}
use Rattle.desk_world.specs.InStep.{AreInStep, AreSeated}
use Rattle.desk_world.specs.KeptViews.{AreKept, views_of}
use Rattle.desk_world.specs.Looks.{Look, look_in}
use Rattle.desk_world.specs.Placing.{own_role}
use Rattle.desk_world.specs.Plain.{plain_of, look_of, view_of}
use Rattle.desk_world.proofs.Claimed.{all_less, apart_all}
use Rattle.desk_world.proofs.ClaimsGone.{agree_less, seats_less}
use Rattle.desk_world.proofs.KeptRows.{before, behind, claims_around, with_rows}
use Rattle.desk_world.proofs.KeptRows.{rows_plain, rows_in_step, kept_later}
use Rattle.desk_world.proofs.NamedRows.{Stands}
use Rattle.desk_world.proofs.Relabelled.{Agrees}
use Rattle.desk_world.proofs.Seated.{all_and, all_both, all_left, all_right, all_so}
use Rattle.desk_world.proofs.SnapTables.{snaps_left}
use Rattle.desk_world.proofs.ViewRows.{without_as}
use Rattle.desk_world.proofs.Written.{IsElsewhere}
use Rattle.desk_world.proofs.KeptGone.{front_seats, back_seats, seats_with, seats_without}
use Rattle.desk_world.proofs.KeptGone.{none_below, kept_less}

-- ---- a kept view goes

module _ {O : Type 0} (watch : O → Watched) (w : World O) (rows : Rows ViewRow) (a : AlterOf O)
    (name : Name) (row : ViewRow) (keys : KeptKeys) (in_step : AreInStep watch w)
    (less : rows.rows ≡ without_entry w.views.rows name) (at : Stands w.views.rows name row)
    (is : row.kept ≡ Some keys)
    (gone : chains_seen watch a.chains ≡ detached sorts.Arc keys.arcs.0
    (detached sorts.Node keys.nodes.0 (chains_seen watch w.graph.chains)))
    (same : a.graph ≡ w.graph.graph) (then : graph.IsInStep (state_of watch a)) where
  abbrev c : ChainsSeen
  c = chains_seen watch w.graph.chains

  abbrev mid : ChainsSeen
  mid = detached sorts.Node keys.nodes.0 c

  abbrev d : ChainsSeen
  d = detached sorts.Arc keys.arcs.0 mid

  abbrev vf : List Claim
  vf = front_seats w.views.rows name row at

  abbrev vb : List Claim
  vb = back_seats w.views.rows name row at

  abbrev node_claim : Claim
  node_claim = claim sorts.Node keys.nodes.0 (own_role sorts.Node keys.maps)

  abbrev arc_claim : Claim
  arc_claim = claim sorts.Arc keys.arcs.0 (own_role sorts.Arc keys.maps)

  split : before w ++ (flat_map view_claims w.views.rows ++ behind w)
      ≡ (before w ++ vf) ++ node_claim ∷ arc_claim ∷ (vb ++ behind w)
  split =
      ap (λ seats. before w ++ (seats ++ behind w))
      (seats_with w.views.rows name row at (Some keys) is)
      ∙ ap (λ list. before w ++ list)
      (append_assoc vf (node_claim ∷ arc_claim ∷ vb) (behind w))
      ∙ sym (append_assoc (before w) vf (node_claim ∷ arc_claim ∷ (vb ++ behind w)))

  left_now : flat_map view_claims rows.rows ≡ vf ++ vb
  left_now = ap (flat_map view_claims) less ∙ seats_without w.views.rows name row at

  joined : before w ++ (flat_map view_claims rows.rows ++ behind w)
      ≡ (before w ++ vf) ++ (vb ++ behind w)
  joined =
      ap (λ seats. before w ++ (seats ++ behind w)) left_now
      ∙ ap (λ list. before w ++ list) (append_assoc vf vb (behind w))
      ∙ sym (append_assoc (before w) vf (vb ++ behind w))

  -- ---- seats

  seated_first : AreSeated ((before w ++ vf) ++ node_claim ∷ arc_claim ∷ (vb ++ behind w)) c
  seated_first = subst (λ list. AreSeated list c) (claims_around w ∙ split) in_step.seated

  seated_mid : AreSeated ((before w ++ vf) ++ arc_claim ∷ (vb ++ behind w)) mid
  seated_mid =
      seats_less sorts.Node keys.nodes.0 (own_role sorts.Node keys.maps) (before w ++ vf)
      (arc_claim ∷ (vb ++ behind w)) c seated_first

  seated_last : AreSeated ((before w ++ vf) ++ (vb ++ behind w)) d
  seated_last =
      seats_less sorts.Arc keys.arcs.0 (own_role sorts.Arc keys.maps) (before w ++ vf)
      (vb ++ behind w) mid seated_mid

  -- ---- what is seen

  abbrev look : Look
  look = look_of watch w

  abbrev later : Look
  later = look_in (chains_seen watch a.chains)

  agree : AllOf (Agrees look later) ((before w ++ vf) ++ (vb ++ behind w))
  agree =
      let list = (before w ++ vf) ++ (vb ++ behind w) in
      let first = all_less (Agrees look (look_in mid)) (before w ++ vf) arc_claim (vb ++ behind w)
      (agree_less sorts.Node keys.nodes.0 (own_role sorts.Node keys.maps) (before w ++ vf)
      (arc_claim ∷ (vb ++ behind w)) c seated_first) in
      let second = agree_less sorts.Arc keys.arcs.0 (own_role sorts.Arc keys.maps) (before w ++ vf)
      (vb ++ behind w) mid seated_mid in
      subst (λ (x : ChainsSeen). AllOf (Agrees look (look_in x)) list) (sym gone)
      (all_so (λ x. Agrees look (look_in mid) x × Agrees (look_in mid) (look_in d) x)
      (Agrees look (look_in d)) (λ x both. both.1 ∙ both.0) list
      (all_and (Agrees look (look_in mid)) (Agrees (look_in mid) (look_in d)) list first second))

  agree_front : AllOf (Agrees look later) (before w ++ vf)
  agree_front = all_left (Agrees look later) (before w ++ vf) (vb ++ behind w) agree

  agree_back : AllOf (Agrees look later) (vb ++ behind w)
  agree_back = all_right (Agrees look later) (before w ++ vf) (vb ++ behind w) agree

  agree_others : AllOf (Agrees look later) (before w ++ behind w)
  agree_others =
      all_both (Agrees look later) (before w) (behind w)
      (all_left (Agrees look later) (before w) vf agree_front)
      (all_right (Agrees look later) vb (behind w) agree_back)

  agree_seats : AllOf (Agrees look later) (flat_map view_claims rows.rows)
  agree_seats =
      subst (AllOf (Agrees look later)) (sym left_now)
      (all_both (Agrees look later) vf vb
      (all_right (Agrees look later) (before w) vf agree_front)
      (all_left (Agrees look later) vb (behind w) agree_back))

  -- ---- the snapshots stay

  snaps_of : (P : Claim → Type 0) → AllOf P ((before w ++ vf) ++ (vb ++ behind w))
      → AllOf P (flat_map snap_claims w.snapshots.rows)
  snaps_of P all =
      all_right P (map guard_claim w.guards.rows) (flat_map snap_claims w.snapshots.rows)
      (all_right P vb (behind w) (all_right P (before w ++ vf) (vb ++ behind w) all))

  names : (chains_seen watch a.chains).snaps ≡ c.snaps
  names =
      let P = IsElsewhere sorts.Node keys.nodes.0 in
      let Q = IsElsewhere sorts.Arc keys.arcs.0 in
      ap (λ (x : ChainsSeen). x.snaps) gone
      ∙ ap (λ list. filter (λ k. not (uses_key sorts.Arc keys.arcs.0 k))
      (filter (λ k. not (uses_key sorts.Node keys.nodes.0 k)) list)) in_step.snaps
      ∙ ap (filter (λ k. not (uses_key sorts.Arc keys.arcs.0 k)))
      (snaps_left sorts.Node keys.nodes.0 w.snapshots.rows
      (snaps_of P (all_less P (before w ++ vf) arc_claim (vb ++ behind w)
      (apart_all (before w ++ vf) node_claim (arc_claim ∷ (vb ++ behind w))
      seated_first.claims_differ))))
      ∙ snaps_left sorts.Arc keys.arcs.0 w.snapshots.rows
      (snaps_of Q (apart_all (before w ++ vf) arc_claim (vb ++ behind w)
      seated_mid.claims_differ))
      ∙ sym in_step.snaps

  -- ---- the world

  pub gone_in_step : breach (plain_of watch w) (demands.NoneStandsOn name) ≡ None
      → AreInStep watch (with_rows w rows a)
  gone_in_step alone =
      rows_in_step watch w rows a in_step then agree_others
      (subst (λ list. AreSeated list (chains_seen watch a.chains)) (sym joined)
      (subst (AreSeated ((before w ++ vf) ++ (vb ++ behind w))) (sym gone) seated_last))
      names
      (kept_later watch w rows a in_step then agree_others agree_seats
      (subst (AreKept look w.nodes w.arcs) (sym less)
      (kept_less look w.nodes w.arcs w.views.rows name
      (none_below (views_of w.views.rows) name (no_view_on (plain_of watch w) name alone))
      in_step.kept)))

  pub gone_plain : plain_of watch (with_rows w rows a)
      ≡ record (plain_of watch w) { views = without_entry (plain_of watch w).views name }
  gone_plain =
      rows_plain watch w rows a in_step then agree_others (ap (λ r. r.graph) same)
      ∙ (λ i. record (plain_of watch w) {
        views = (ap views_of less ∙ without_as view_of w.views.rows name) i;
      })
