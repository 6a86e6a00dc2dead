-- Seats of a kept view come: that of its nodes, then that of its arcs.
use Rattle.std.proofs.Common.{◌≡◌, ℕ, Bool, true, false, cond, if◌then◌else◌, not, List, [], ◌∷◌}
use Rattle.std.proofs.Common.{◌++◌, filter, refl, sym, ap, ◌∙◌, subst, Some, None, inl, inr}
use Rattle.std.specs.Prelude.{◌==◌}
use Rattle.std.proofs.lemmas.Bool.{eq-eqb, cases_eq, ne_eqb}
use Rattle.std.proofs.lemmas.Option.{none-some}
use Rattle.base_items.specs.declared.items.ItemSort.TheVariants as sorts
use Rattle.plain_digraph.specs.Items.{facts}
use Rattle.plain_digraph.specs.Lists.{AllOf}
use Rattle.plain_digraph.specs.Rising.{without_item}
use Rattle.observe_core.specs.declared.kinds.KeptShape.{KeptShape}
use Rattle.observe_core.specs.Held as held
use Rattle.observe_core.specs.Seen.{Seen, Watched, map_seen}
use Rattle.observe_core.specs.Told.{built}
use Rattle.notify_chain.specs.declared.key.SeatKey.{SeatKey}
use Rattle.notify_chain.specs.Seats.{SeatSeen, Each, Became, find_seat, seat_key}
use Rattle.alter_graph.specs.declared.snaps.SnapKeys.{SnapKeys}
use Rattle.alter_graph.specs.Attaching.{Attaches, detached, uses_key}
use Rattle.alter_graph.specs.Chains.{ChainsSeen, ChainSeen, IsSameChain, IsSameChains, chains_seen}
use Rattle.alter_graph.specs.Present.{Present, present_of}
use Rattle.alter_graph.specs.Snaps.{IsSnap, IsHalf, held_at}
use Rattle.alter_graph.specs.State as graph
use Rattle.alter_graph.specs.State.{AlterOf, IsSame, state_of}
use Rattle.alter_graph.proofs.Snapping.{held_missing}
use Rattle.desk_seats.specs.Forms as forms
use Rattle.desk_world.specs.declared.tables.KeptMaps.{KeptMaps}
use Rattle.desk_world.specs.Claims as claims
use Rattle.desk_world.specs.Claims.{Plays}
use Rattle.desk_world.specs.Placing.{SomeSeatsCome, own_role}
use Rattle.desk_world.proofs.ClaimsCame.{comes_attached}
use Rattle.desk_world.proofs.DerivedMaps.{IsUntold}
use Rattle.desk_world.proofs.MapsComing.{built_plays}

-- ---- the seats as they are made

abbrev pub new_nodes : Bool → Seen
new_nodes all =
    record (map_seen (held.Kept held.KeptNodes all [])) { form = forms.nodes_form }

abbrev pub new_arcs : KeptShape → Bool → Seen
new_arcs shape all =
    record (map_seen (held.Kept (held.KeptArcs shape) all [])) { form = forms.arcs_form }

pub nodes_untold : (all : Bool) (s : Seen) → s ≡ new_nodes all → IsUntold (claims.KeptNodes all) s
nodes_untold all s is = subst (IsUntold (claims.KeptNodes all)) (sym is) (record {
  plays = record { form = refl; making = refl; kind = refl };
  empty = refl;
  counts = record { added = refl; erased = refl; moved = refl };
})

pub arcs_untold : (shape : KeptShape) (all : Bool) (s : Seen) → s ≡ new_arcs shape all
    → IsUntold (claims.KeptArcs shape all) s
arcs_untold shape all s is = subst (IsUntold (claims.KeptArcs shape all)) (sym is) (record {
  plays = record { form = refl; making = refl; kind = refl };
  empty = refl;
  counts = record { added = refl; erased = refl; moved = refl };
})

-- a test by its opposite
pub opposite : (some none : Bool) → some ≡ not none → none ≡ not some
opposite some true is = sym (ap not is)
opposite some false is = sym (ap not is)

-- ---- both come

module _ {O : Type 0} (watch : O → Watched) (old mid new : AlterOf O) (m : KeptMaps)
    (nodes_key arcs_key : SeatKey) (nodes arcs : Watched)
    (first : Attaches sorts.Node nodes_key.0 nodes (state_of watch old) (state_of watch mid))
    (second : Attaches sorts.Arc arcs_key.0 arcs (state_of watch mid) (state_of watch new))
    (nodes_play : Plays (own_role sorts.Node m) nodes.seen)
    (arcs_play : Plays (own_role sorts.Arc m) arcs.seen) where
  pub seats_come : SomeSeatsCome m (record { maps = m; nodes = nodes_key; arcs = arcs_key })
      (state_of watch old) (state_of watch new)
  seats_come = (
    built (facts old.graph.graph sorts.Node) nodes.seen,
    built (facts mid.graph.graph sorts.Arc) arcs.seen,
    record {
      maps = refl;
      mid = chains_seen watch mid.chains;
      graph = second.graph ∙ first.graph;
      first = comes_attached sorts.Node nodes_key.0 nodes (state_of watch old)
          (state_of watch mid) first;
      second = comes_attached sorts.Arc arcs_key.0 arcs (state_of watch mid) (state_of watch new)
          second;
      nodes_play = built_plays (own_role sorts.Node m) (facts old.graph.graph sorts.Node)
          nodes.seen nodes_play;
      arcs_play = built_plays (own_role sorts.Arc m) (facts mid.graph.graph sorts.Arc) arcs.seen
          arcs_play;
    },
  )

-- ---- the first is taken out again

gone_each : (key : ℕ) (xs : List SeatSeen) (s : SeatSeen) (ys : List SeatSeen)
    → find_seat key xs ≡ None → s.key ≡ key → Each (Became (λ s. s)) (xs ++ s ∷ []) ys
    → Each (Became (λ s. s)) xs (without_item seat_key key ys)
gone_each key [] s [] new name each = absurd each
gone_each key [] s (y ∷ []) new name each =
    let same : (y.key == key) ≡ true = eq-eqb y.key key (each.0.key ∙ name) in
    subst (λ (b : Bool). Each (Became (λ s. s)) [] (if b then [] else y ∷ [])) (sym same) tt
gone_each key [] s (y ∷ z ∷ ys) new name each = absurd each.1
gone_each key (x ∷ xs) s [] new name each = absurd each
gone_each key (x ∷ xs) s (y ∷ ys) new name each = elim (cases_eq x.key key) [
  | inl same ↦
      absurd (none-some x
      (sym new ∙ ap (λ (b : Bool). if b then Some x else find_seat key xs) (eq-eqb x.key key same)))
  | inr apart ↦
      let away = ne_eqb x.key key apart in
      let rest = gone_each key xs s ys
      (sym (ap (λ (b : Bool). if b then Some x else find_seat key xs) away) ∙ new) name each.1 in
      subst (λ (b : Bool). Each (Became (λ s. s)) (x ∷ xs)
      (if b then without_item seat_key key ys else y ∷ without_item seat_key key ys))
      (sym (ap (λ k. k == key) each.0.key ∙ away)) (each.0, rest)
]

-- no snapshot uses a key that has no seat
unused : (p : Present) (c : ChainsSeen) (key : ℕ) → find_seat key c.nodes.seats ≡ None
    → (snaps : List SnapKeys) → AllOf (IsSnap p c) snaps
    → filter (λ k. not (uses_key sorts.Node key k)) snaps ≡ snaps
unused p c key new [] all = refl
unused p c key new (k ∷ ks) all = elim (cases_eq k.nodes.0 key) [
  | inl same ↦
      absurd (subst IsHalf
      (ap (λ (x : ℕ). held_at x c.nodes.seats) same ∙ held_missing key c.nodes.seats new)
      all.0.nodes.half)
  | inr apart ↦
      let rest = unused p c key new ks all.1 in
      ap (λ (b : Bool). cond (not b) (k ∷ filter (λ x. not (uses_key sorts.Node key x)) ks)
      (filter (λ x. not (uses_key sorts.Node key x)) ks)) (ne_eqb k.nodes.0 key apart)
      ∙ ap (λ list. k ∷ list) rest
]

module _ {O : Type 0} (watch : O → Watched) (old mid tried last : AlterOf O) (key : ℕ)
    (came : Watched) (in_step : graph.IsInStep (state_of watch old))
    (first : Attaches sorts.Node key came (state_of watch old) (state_of watch mid))
    (same : IsSame (state_of watch mid) (state_of watch tried))
    (same_graph : last.graph ≡ tried.graph)
    (gone : chains_seen watch last.chains
    ≡ detached sorts.Node key (chains_seen watch tried.chains)) where
  abbrev c : ChainsSeen
  c = chains_seen watch old.chains

  abbrev t : ChainsSeen
  t = chains_seen watch tried.chains

  pub taken_back : IsSame (state_of watch old) (state_of watch last)
  taken_back = record {
    graph = ap (λ r. r.graph) same_graph ∙ same.graph ∙ first.graph;
    chains = subst (IsSameChains c) (sym gone) (record {
      nodes = record {
        seats = gone_each key c.nodes.seats first.seat.seat t.nodes.seats first.seat.is_new
            first.seat.name
            (subst (λ ss. Each (Became (λ s. s)) ss t.nodes.seats) first.seat.last
            same.chains.nodes.seats);
        left = same.chains.nodes.left ∙ ap (λ (x : ChainsSeen). x.nodes.left) first.rest;
      };
      arcs = subst (λ (x : ChainSeen). IsSameChain x t.arcs)
          (ap (λ (x : ChainsSeen). x.arcs) first.rest) same.chains.arcs;
      snaps = ap (filter (λ k. not (uses_key sorts.Node key k)))
          (same.chains.snaps ∙ ap (λ (x : ChainsSeen). x.snaps) first.rest)
          ∙ unused (present_of old.graph.graph) c key first.seat.is_new c.snaps
          in_step.seats.snaps.each;
    });
  }
