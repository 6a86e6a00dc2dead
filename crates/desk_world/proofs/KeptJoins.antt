-- A world after a view was kept.
use Rattle.std.proofs.Common.{◌≡◌, List, [], ◌∷◌, ◌++◌, refl}
use Rattle.std.proofs.Common.{sym, ap, ◌∙◌, subst, Some, None}
use Rattle.std.specs.List.{flat_map}
use Rattle.std.specs.Option.{option_map_or}
use Rattle.std.proofs.lemmas.List.{append_assoc}
use Rattle.base_items.specs.declared.items.ItemSort.TheVariants as sorts
use Rattle.plain_digraph.specs.Lists.{AllOf}
use Rattle.observe_core.specs.Seen.{Watched}
use Rattle.alter_graph.specs.Chains.{ChainsSeen, chains_seen}
use Rattle.alter_graph.specs.State as graph
use Rattle.alter_graph.specs.State.{AlterOf, state_of}
use Rattle.kept_walks.specs.Present.{items_seen}
use Rattle.plain_world.specs.Tables.{Name, under, with_change}
use Rattle.desk_names.specs.Rows.{Rows}
use Rattle.desk_world.specs.declared.tables.KeptKeys.{KeptKeys}
use Rattle.desk_world.specs.declared.tables.KeptMaps.{KeptMaps}
use Rattle.desk_world.specs.declared.tables.ViewRow.{ViewRow}
use Rattle.desk_world.specs.declared.world.World.{World}
use Rattle.desk_world.specs.Claims.{Claim, Plays, claim, kept_claims, view_claims}
use Rattle.desk_world.specs.InStep.{AreInStep, AreSeated}
use Rattle.desk_world.specs.KeptMaps.{ReadsMaps, present_in}
use Rattle.desk_world.specs.KeptViews.{IsPlaced, AreMarkedBy}
use Rattle.desk_world.specs.KeptViews.{items_at, views_of}
use Rattle.desk_world.specs.Looks.{Look, look_in}
use Rattle.desk_world.specs.Placing.{Keeps, own_role}
use Rattle.desk_world.specs.Plain.{plain_of, look_of, view_of}
use Rattle.desk_world.specs.Shown.{with_kept}
use Rattle.desk_world.proofs.Claimed.{all_less}
use Rattle.desk_world.proofs.ClaimsCame.{agree_comes, look_comes, look_stays, seats_comes}
use Rattle.desk_world.proofs.GuardOrder.{map_comes}
use Rattle.desk_world.proofs.KeptAgree.{SameMaps, kept_agrees, maps_show, present_same}
use Rattle.desk_world.proofs.KeptGone.{front_seats, back_seats, seats_with}
use Rattle.desk_world.proofs.KeptRows.{before, behind, claims_around, with_rows, seats_apart}
use Rattle.desk_world.proofs.KeptRows.{rows_plain, rows_in_step, agree_nodes, agree_arcs}
use Rattle.desk_world.proofs.NamedRows.{Stands}
use Rattle.desk_world.proofs.Relabelled.{Agrees}
use Rattle.desk_world.proofs.Seated.{all_and, all_both, all_left, all_right, all_so}
use Rattle.desk_world.proofs.KeptNew.{as_kept, rows_are, views_are, kept_now}

-- ---- the world

module _ {O : Type 0} (watch : O → Watched) (w : World O) (rows : Rows ViewRow) (a : AlterOf O)
    (name : Name) (row now : ViewRow) (m : KeptMaps) (keys : KeptKeys)
    (in_step : AreInStep watch w) (at : Stands w.views.rows name row) (unkept : row.kept ≡ None)
    (change : rows.rows ≡ with_change w.views.rows name (λ _. now))
    (alike : view_of now ≡ as_kept (view_of row)) (kept : now.kept ≡ Some keys)
    (keeps : Keeps m keys (state_of watch w.graph) (state_of watch a))
    (then : graph.IsInStep (state_of watch a)) where
  abbrev c : ChainsSeen
  c = chains_seen watch w.graph.chains

  abbrev d : ChainsSeen
  d = chains_seen watch a.chains

  abbrev mid : ChainsSeen
  mid = keeps.came.mid

  abbrev front : List Claim
  front = before w ++ front_seats w.views.rows name row at

  abbrev back : List Claim
  back = back_seats w.views.rows name row at ++ behind w

  abbrev node_claim : Claim
  node_claim = claim sorts.Node keys.nodes.0 (own_role sorts.Node keys.maps)

  abbrev arc_claim : Claim
  arc_claim = claim sorts.Arc keys.arcs.0 (own_role sorts.Arc keys.maps)

  nodes_play : Plays (own_role sorts.Node keys.maps) keeps.nodes
  nodes_play =
      subst (λ x. Plays (own_role sorts.Node x) keeps.nodes) (sym keeps.came.maps)
      keeps.came.nodes_play

  arcs_play : Plays (own_role sorts.Arc keys.maps) keeps.arcs
  arcs_play =
      subst (λ x. Plays (own_role sorts.Arc x) keeps.arcs) (sym keeps.came.maps)
      keeps.came.arcs_play

  -- ---- seats

  put_apart : (seats : List Claim)
      → before w ++ ((front_seats w.views.rows name row at
      ++ (seats ++ back_seats w.views.rows name row at)) ++ behind w) ≡ front ++ (seats ++ back)
  put_apart seats =
      let vf = front_seats w.views.rows name row at in
      let vb = back_seats w.views.rows name row at in
      ap (λ list. before w ++ list)
      (append_assoc vf (seats ++ vb) (behind w)
      ∙ ap (λ list. vf ++ list) (append_assoc seats vb (behind w)))
      ∙ sym (append_assoc (before w) vf (seats ++ (vb ++ behind w)))

  split : before w ++ (flat_map view_claims w.views.rows ++ behind w) ≡ front ++ back
  split =
      ap (λ seats. before w ++ (seats ++ behind w))
      (seats_with w.views.rows name row at None unkept)
      ∙ put_apart []

  joined : before w ++ (flat_map view_claims rows.rows ++ behind w)
      ≡ front ++ node_claim ∷ arc_claim ∷ back
  joined =
      let are = rows_are w.views.rows rows.rows name row now at change alike in
      let vf = front_seats w.views.rows name row at in
      let vb = back_seats w.views.rows name row at in
      ap (λ t. before w ++ (flat_map view_claims t ++ behind w)) are
      ∙ ap (λ seats. before w ++ (seats ++ behind w))
      (seats_apart at.front (under name now ∷ at.back)
      ∙ ap (λ o. vf ++ (option_map_or kept_claims o [] ++ vb)) kept)
      ∙ put_apart (node_claim ∷ arc_claim ∷ [])

  seated_first : AreSeated (front ++ back) c
  seated_first = subst (λ list. AreSeated list c) (claims_around w ∙ split) in_step.seated

  seated_mid : AreSeated (front ++ node_claim ∷ back) mid
  seated_mid =
      seats_comes sorts.Node keys.nodes.0 (own_role sorts.Node keys.maps) front back keeps.nodes c
      mid keeps.came.first nodes_play seated_first (map_comes front node_claim back refl)

  moved : (list : List Claim) → front ++ node_claim ∷ list ≡ (front ++ node_claim ∷ []) ++ list
  moved list = sym (append_assoc front (node_claim ∷ []) list)

  seated_behind : AreSeated ((front ++ node_claim ∷ []) ++ back) mid
  seated_behind = subst (λ list. AreSeated list mid) (moved back) seated_mid

  seated_last : AreSeated (front ++ node_claim ∷ arc_claim ∷ back) d
  seated_last =
      subst (λ list. AreSeated list d) (sym (moved (arc_claim ∷ back)))
      (seats_comes sorts.Arc keys.arcs.0 (own_role sorts.Arc keys.maps) (front ++ node_claim ∷ [])
      back keeps.arcs mid d keeps.came.second arcs_play seated_behind
      (map_comes (front ++ node_claim ∷ []) arc_claim back refl))

  -- ---- what is seen

  abbrev look : Look
  look = look_of watch w

  abbrev later : Look
  later = look_in d

  agree : AllOf (Agrees look later) (front ++ back)
  agree =
      let first = agree_comes sorts.Node keys.nodes.0 (own_role sorts.Node keys.maps) front back
      keeps.nodes c mid keeps.came.first nodes_play seated_first in
      let second = all_less (Agrees (look_in mid) later) front node_claim back
      (subst (AllOf (Agrees (look_in mid) later)) (sym (moved back))
      (agree_comes sorts.Arc keys.arcs.0 (own_role sorts.Arc keys.maps)
      (front ++ node_claim ∷ []) back keeps.arcs mid d keeps.came.second arcs_play
      seated_behind)) in
      all_so (λ x. Agrees look (look_in mid) x × Agrees (look_in mid) later x) (Agrees look later)
      (λ x both. both.1 ∙ both.0) (front ++ back)
      (all_and (Agrees look (look_in mid)) (Agrees (look_in mid) later) (front ++ back) first
      second)

  agree_front : AllOf (Agrees look later) front
  agree_front = all_left (Agrees look later) front back agree

  agree_back : AllOf (Agrees look later) back
  agree_back = all_right (Agrees look later) front back agree

  agree_others : AllOf (Agrees look later) (before w ++ behind w)
  agree_others =
      all_both (Agrees look later) (before w) (behind w)
      (all_left (Agrees look later) (before w) (front_seats w.views.rows name row at) agree_front)
      (all_right (Agrees look later) (back_seats w.views.rows name row at) (behind w) agree_back)

  agree_seats : AllOf (Agrees look later) (flat_map view_claims w.views.rows)
  agree_seats =
      subst (AllOf (Agrees look later)) (sym (seats_with w.views.rows name row at None unkept))
      (all_both (Agrees look later) (front_seats w.views.rows name row at)
      (back_seats w.views.rows name row at)
      (all_right (Agrees look later) (before w) (front_seats w.views.rows name row at) agree_front)
      (all_left (Agrees look later) (back_seats w.views.rows name row at) (behind w) agree_back))

  nodes_seen : later sorts.Node keys.nodes.0 ≡ Some keeps.nodes
  nodes_seen =
      look_stays sorts.Arc keys.arcs.0 (own_role sorts.Arc keys.maps) [] [] keeps.arcs mid d
      keeps.came.second arcs_play sorts.Node keys.nodes.0 keeps.nodes
      (look_comes sorts.Node keys.nodes.0 (own_role sorts.Node keys.maps) [] [] keeps.nodes c mid
      keeps.came.first nodes_play)

  arcs_seen : later sorts.Arc keys.arcs.0 ≡ Some keeps.arcs
  arcs_seen =
      look_comes sorts.Arc keys.arcs.0 (own_role sorts.Arc keys.maps) [] [] keeps.arcs mid d
      keeps.came.second arcs_play

  module _ (reads : ReadsMaps w.nodes w.arcs (views_of w.views.rows) name m) where
    own_reads : ReadsMaps w.nodes w.arcs (views_of w.views.rows) name keys.maps
    own_reads =
        subst (ReadsMaps w.nodes w.arcs (views_of w.views.rows) name) (sym keeps.came.maps) reads

    same_maps : SameMaps look later keys.maps
    same_maps =
        maps_show look later own_reads.layers w.nodes.maps.rows w.arcs.maps.rows keys.maps
        (agree_nodes watch w rows a in_step then agree_others)
        (agree_arcs watch w rows a in_step then agree_others) own_reads.maps

    own_placed : IsPlaced later keys
    own_placed =
        subst (λ v. AreMarkedBy v (items_at (later sorts.Node keys.nodes.0))
        (items_at (later sorts.Arc keys.arcs.0)))
        (ap (present_in look) (sym keeps.came.maps)
        ∙ sym (present_same look later keys.maps same_maps))
        (subst (λ o. AreMarkedBy (present_in look m) (items_at o)
        (items_at (later sorts.Arc keys.arcs.0))) (sym nodes_seen)
        (subst (λ o. AreMarkedBy (present_in look m) (items_seen keeps.nodes) (items_at o))
        (sym arcs_seen) keeps.placed))

    pub new_in_step : AreInStep watch (with_rows w rows a)
    new_in_step =
        rows_in_step watch w rows a in_step then agree_others
        (subst (λ list. AreSeated list d) (sym joined) seated_last)
        (ap (λ (x : ChainsSeen). x.snaps) keeps.came.second.is
        ∙ ap (λ (x : ChainsSeen). x.snaps) keeps.came.first.is)
        (kept_now w.views.rows rows.rows name row now at change alike later w.nodes w.arcs keys kept
        (kept_agrees look later w.nodes w.arcs w.views.rows agree_seats
        (agree_nodes watch w rows a in_step then agree_others)
        (agree_arcs watch w rows a in_step then agree_others) in_step.kept)
        own_reads own_placed)

  pub new_plain : plain_of watch (with_rows w rows a) ≡ with_kept (plain_of watch w) name
  new_plain =
      rows_plain watch w rows a in_step then agree_others keeps.came.graph
      ∙ (λ i. record (plain_of watch w) {
        views = views_are w.views.rows rows.rows name row now at change alike i;
      })
