-- A world with a node or an arc more, which has no label yet.
use Rattle.std.proofs.Common.{◌≡◌, ℕ, ◌≤◌, true, [], refl, sym, ap}
use Rattle.std.proofs.Common.{subst, Option, Some, None, ◌∙◌, arith}
use Rattle.std.specs.Prelude.{option_map}
use Rattle.std.specs.Option.{option_map_or}
use Rattle.base_items.specs.declared.items.Fact.{Fact}
use Rattle.base_items.specs.declared.items.ItemSort.{ItemSort}
use Rattle.base_items.specs.declared.items.ItemSort.TheVariants as sorts
use Rattle.plain_digraph.specs.Digraph.{Digraph}
use Rattle.plain_digraph.specs.Items.{IsLive, node_fact, arc_fact}
use Rattle.plain_digraph.specs.Steps.{new_node, new_arc}
use Rattle.plain_digraph.specs.PlainSteps.{PlainStep, AddNode, AddArc, is_refusable, sort_of}
use Rattle.plain_digraph.specs.Alterations.{single}
use Rattle.plain_digraph.specs.Rising.{with_item}
use Rattle.observe_core.specs.declared.changes.Change.TheVariants.{Add}
use Rattle.observe_core.specs.Changes.{told as told_of}
use Rattle.observe_core.specs.Held.{Labels, entry_id}
use Rattle.observe_core.specs.Seen.{Seen, Watched}
use Rattle.notify_chain.specs.Seats.{Each, Became}
use Rattle.alter_graph.specs.Chains.{ChainsSeen, chain_in, chains_seen, seats_in, seats_heard}
use Rattle.alter_graph.specs.Outcome.{Happens}
use Rattle.alter_graph.specs.State as graph
use Rattle.alter_graph.specs.State.{IsSame, AlterOf, state_of}
use Rattle.alter_graph.specs.Steps.{Tells, notice_of, noticed, took, CanTake}
use Rattle.alter_graph.proofs.Saving.{held_noticed}
use Rattle.index_maps.specs.RefViews.{HasLabel, IsFreeLabel}
use Rattle.plain_world.specs.Tables.{Name}
use Rattle.plain_world.specs.Following.{follow}
use Rattle.desk_seats.specs.Contents.{labels_in, among, labels_among}
use Rattle.desk_world.specs.declared.world.World.{World}
use Rattle.desk_world.specs.Claims as claims
use Rattle.desk_world.specs.Claims.{Sits}
use Rattle.desk_world.specs.Entries.{labels_at, room_for_labels}
use Rattle.desk_world.specs.InStep.{AreInStep}
use Rattle.desk_world.specs.Looks.{look_in, room_at, seen_at}
use Rattle.desk_world.specs.Plain.{plain_of, tables_of}
use Rattle.desk_world.proofs.Adding.{fresh, fresh_there, fresh_free, room_heard, room_same}
use Rattle.desk_world.proofs.AsMade.{as_values}
use Rattle.desk_world.proofs.Following.{chain_here}
use Rattle.desk_world.proofs.Kept.{stays_in_step, plain_follows}
use Rattle.desk_world.proofs.Looks.{seen_same, seen_heard}
use Rattle.desk_world.proofs.Seated.{labels_sit}
use Rattle.desk_world.proofs.Unchanged.{same_in}
use Rattle.alter_graph.specs.State.{SnapsFollow}
use Rattle.std.proofs.Common.{◌∷◌}

-- ---- what became of the labels

fresh_label : (f : Fact) (o : Option Seen) → Sits claims.Labels o
    → option_map_or labels_in (option_map (told_of (Add f)) o) []
    ≡ with_item entry_id (fresh f.id) (option_map_or labels_in o [])
fresh_label f None sits = absurd sits
fresh_label f (Some s) sits =
    let v = as_values Labels s.held sits.making in
    subst (λ h. among labels_among (held_noticed (Tells (Add f)) h)
    ≡ with_item entry_id (fresh f.id) (among labels_among h)) (sym v.is) refl

-- an item was added: all stays in step, the plain world follows, and the new item has no label yet
pub record Joins {O : Type 0} (watch : O → Watched) (step : PlainStep) (id : ℕ) (w later : World O)
    : Type 0 where
  pub in_step : AreInStep watch later
  pub plain : plain_of watch later ≡ follow (plain_of watch w) step
  pub labels : labels_at watch later (sort_of step)
      ≡ with_item entry_id (fresh id) (labels_at watch w (sort_of step))
  pub room : room_for_labels watch w (sort_of step) ≤ room_for_labels watch later (sort_of step)

module _ {O : Type 0} (watch : O → Watched) (w : World O) (a : AlterOf O) (step : PlainStep)
    (f : Fact) (in_step : AreInStep watch w) (may : is_refusable step ≡ true)
    (can : CanTake step w.graph.graph.graph)
    (tells : notice_of step w.graph.graph.graph ≡ Tells (Add f))
    (went : IsSame (took step (state_of watch w.graph)) (state_of watch a))
    (then : graph.IsInStep (state_of watch a))
    (follows : SnapsFollow (step ∷ []) (state_of watch w.graph) (state_of watch a)) where
  abbrev more : World O
  more = record w { graph = a }

  abbrev sort : ItemSort
  sort = sort_of step

  abbrev key : ℕ
  key = (tables_of w sort).labels.0

  abbrev c : ChainsSeen
  c = chains_seen watch w.graph.chains

  abbrev d : ChainsSeen
  d = (took step (state_of watch w.graph)).chains

  abbrev e : ChainsSeen
  e = chains_seen watch a.chains

  same_key : (x : ItemSort) → (tables_of more x).labels.0 ≡ (tables_of w x).labels.0
  same_key sorts.Node = refl
  same_key sorts.Arc = refl

  hears : seats_in sort d ≡ seats_heard (told_of (Add f)) (seats_in sort c)
  hears =
      chain_here sort (noticed (notice_of step w.graph.graph.graph)) c
      ∙ ap (λ n. (noticed n (chain_in sort c)).seats) tells

  seats_same : Each (Became (λ s. s)) (seats_in sort d) (seats_in sort e)
  seats_same = same_in d e went.chains sort

  look_more : look_in e sort key ≡ option_map (told_of (Add f)) (look_in c sort key)
  look_more =
      seen_same key (seats_in sort d) (seats_in sort e) seats_same
      ∙ ap (seen_at key) hears
      ∙ seen_heard (told_of (Add f)) key (seats_in sort c)

  labels_more : labels_at watch more sort
      ≡ with_item entry_id (fresh f.id) (labels_at watch w sort)
  labels_more =
      ap (λ k. option_map_or labels_in (look_in e sort k) []) (same_key sort)
      ∙ ap (λ o. option_map_or labels_in o []) look_more
      ∙ fresh_label f (look_in c sort key) (labels_sit w c in_step.seated sort)

  room_stays : room_for_labels watch w sort ≤ room_for_labels watch more sort
  room_stays =
      subst (λ k. room_at key (seats_in sort c) ≤ room_at k (seats_in sort e)) (sym (same_key sort))
      (subst (λ n. n ≤ room_at key (seats_in sort e))
      (ap (room_at key) hears ∙ room_heard (told_of (Add f)) key (seats_in sort c))
      (room_same key (seats_in sort d) (seats_in sort e) seats_same))

  joins : Joins watch step f.id w more
  joins = record {
    in_step = stays_in_step watch step w a may in_step can went then follows;
    plain = plain_follows watch step w a may in_step can went then follows;
    labels = labels_more;
    room = room_stays;
  }

module _ {O : Type 0} (watch : O → Watched) (w : World O) (a : AlterOf O)
    (in_step : AreInStep watch w) where
  abbrev g : Digraph
  g = w.graph.graph.graph

  pub node_joins : Happens (single AddNode) (state_of watch w.graph) (state_of watch a)
      → Joins watch AddNode (new_node g) w (record w { graph = a })
  node_joins happens =
      joins watch w a AddNode (node_fact (new_node g) g.stamps) in_step refl tt refl
      happens.goes.took happens.goes.in_step happens.goes.snaps

  pub arc_joins : (from to : ℕ) → IsLive g sorts.Node from → IsLive g sorts.Node to
      → Happens (single (AddArc from to)) (state_of watch w.graph) (state_of watch a)
      → Joins watch (AddArc from to) (new_arc g) w (record w { graph = a })
  arc_joins from to source target happens =
      joins watch w a (AddArc from to) (arc_fact (new_arc g) (from, to) g.stamps g.stamps) in_step
      refl (source, target) refl happens.goes.took happens.goes.in_step happens.goes.snaps

-- ---- the new item may be given a label

pub record TakesLabel {O : Type 0} (watch : O → Watched) (w : World O) (sort : ItemSort) (id : ℕ)
    (label : Name) : Type 0 where
  pub live : HasLabel id None (labels_at watch w sort)
  pub free : IsFreeLabel label (labels_at watch w sort)
  pub room : 1 ≤ room_for_labels watch w sort

pub takes_label : {O : Type 0} (watch : O → Watched) (step : PlainStep) (new : ℕ)
    (w later : World O) (id : ℕ) (label : Name) → Joins watch step new w later → id ≡ new
    → IsFreeLabel label (labels_at watch w (sort_of step))
    → 1 ≤ room_for_labels watch w (sort_of step)
    → TakesLabel watch later (sort_of step) id label
takes_label watch step new w later id label joined is free room =
    let es = labels_at watch w (sort_of step) in
    let there : HasLabel id None (with_item entry_id (fresh new) es) =
    subst (λ n. HasLabel n None (with_item entry_id (fresh new) es)) (sym is)
    (fresh_there new es) in
    let stays = joined.room in
    record {
      live = subst (HasLabel id None) (sym joined.labels) there;
      free = subst (IsFreeLabel label) (sym joined.labels) (fresh_free new label es free);
      room = omega (arith, stays, room);
    }
