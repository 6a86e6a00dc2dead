use Rattle.std.proofs.Common.{◌≡◌, ◌∙◌, IsTrue, sym, ap, subst, IfErr, Ok, Err, Result}
use Rattle.base_items.specs.declared.items.ItemSort.TheVariants as sorts
use Rattle.notify_chain.proofs.SeatLemmas.{on_ok}
use Rattle.alter_graph.specs.declared.snaps.SnapKeys.{SnapKeys}
use Rattle.alter_graph.specs.Chains.{chains_seen}
use Rattle.alter_graph.specs.State.{State, state_of}
use Rattle.alter_graph.specs.Snaps.{is_valid, arc_half, kept_of}
use Rattle.alter_graph.specs.Steps.{plain_steps, CanTakeAll, HaveOwnPlaces}
use Rattle.alter_graph.specs.Room.{nodes_in, arcs_in}
use Rattle.alter_graph.specs.Outcome.{Alters, Stays}
use Rattle.alter_graph.specs.Restoring.{places, PlacesBack}
use Rattle.alter_graph.proofs.Sameness.{same_refl}
use Rattle.alter_graph.proofs.Taking.{steady_in}
use Rattle.alter_graph.proofs.Kept.{kept_can, kept_have, no_nodes, no_arcs}
use Rattle.alter_graph.proofs.Replaced.{given_up_at, node_half_stays}
use Rattle.alter_graph.proofs.Declined.{leaves_all}
use Rattle.alter_graph.proofs.Tied.{refusable_tied}
use Rattle.alter_graph.proofs.graph.Alterable.place_back.Goals as goal

if_err : {T E : Type 0} {P Q : E → Type 0} (r : Result T E) → ((e : E) → P e → Q e) → IfErr r P
    → IfErr r Q
if_err (Ok x) f h = tt
if_err (Err e) f h = f e h

pub returns-then-not-snapshot_valid : goal.returns-then-not-snapshot_valid
returns-then-not-snapshot_valid g c = record {
  places = tt;
  leaves = (
    sym c.if-not-snapshot_valid.ensures,
    record {
      same = same_refl (state_of g.O.Observer.watch c.args.self.now);
      in_step = c.requires.in_step;
    },
  );
}

pub returns-in-Err-clause-leaves : goal.returns-in-Err-clause-leaves
returns-in-Err-clause-leaves g c = record {
  same = same_refl (state_of g.O.Observer.watch c.args.self.now);
  in_step = c.requires.in_step;
}

pub run_moves-requires-clause-can : goal.run_moves-requires-clause-can
run_moves-requires-clause-can g c =
    let w = g.O.Observer.watch in
    let s : State = state_of w c.args.self.now in
    let e : plain_steps c.as_slice.result.now ≡ places c.args.name s.chains =
    ap plain_steps c.as_slice.ensures.value ∙ c.in-Ok.ensures
    ∙ ap (λ x. places c.args.name (chains_seen w x)) c.chains.ensures in
    subst (λ l. CanTakeAll l s.graph) (sym e) (kept_can s c.requires.in_step c.args.name
    c.requires.there (sym c.if-not-snapshot_valid.ensures)
    (steady_in w sorts.Arc c.args.self.now.chains))

pub run_moves-requires-clause-own : goal.run_moves-requires-clause-own
run_moves-requires-clause-own g c =
    let w = g.O.Observer.watch in
    let s : State = state_of w c.args.self.now in
    let e : plain_steps c.as_slice.result.now ≡ places c.args.name s.chains =
    ap plain_steps c.as_slice.ensures.value ∙ c.in-Ok.ensures
    ∙ ap (λ x. places c.args.name (chains_seen w x)) c.chains.ensures in
    subst (λ l. HaveOwnPlaces l s) (sym e) (kept_have s c.requires.in_step c.args.name
    c.requires.there (sym c.if-not-snapshot_valid.ensures)
    (steady_in w sorts.Arc c.args.self.now.chains))

pub run_moves-requires-clause-no_nodes : goal.run_moves-requires-clause-no_nodes
run_moves-requires-clause-no_nodes g c =
    let w = g.O.Observer.watch in
    let s : State = state_of w c.args.self.now in
    let e : plain_steps c.as_slice.result.now ≡ places c.args.name s.chains =
    ap plain_steps c.as_slice.ensures.value ∙ c.in-Ok.ensures
    ∙ ap (λ x. places c.args.name (chains_seen w x)) c.chains.ensures in
    ap nodes_in e ∙ no_nodes (kept_of (arc_half c.args.name s.chains))

pub run_moves-requires-clause-no_arcs : goal.run_moves-requires-clause-no_arcs
run_moves-requires-clause-no_arcs g c =
    let w = g.O.Observer.watch in
    let s : State = state_of w c.args.self.now in
    let e : plain_steps c.as_slice.result.now ≡ places c.args.name s.chains =
    ap plain_steps c.as_slice.ensures.value ∙ c.in-Ok.ensures
    ∙ ap (λ x. places c.args.name (chains_seen w x)) c.chains.ensures in
    ap arcs_in e ∙ no_arcs (kept_of (arc_half c.args.name s.chains))

pub returns-in-Ok-clause-places : goal.returns-in-Ok-clause-places
returns-in-Ok-clause-places g c =
    let w = g.O.Observer.watch in
    let s : State = state_of w c.args.self.now in
    let t : State = state_of w c.run_moves.new.self in
    let k : SnapKeys = c.args.name in
    let e : plain_steps c.as_slice.result.now ≡ places k s.chains =
    ap plain_steps c.as_slice.ensures.value ∙ c.in-Ok.ensures
    ∙ ap (λ x. places k (chains_seen w x)) c.chains.ensures in
    let v : IsTrue (is_valid k s.chains) = sym c.if-not-snapshot_valid.ensures in
    let happens : Alters (places k s.chains) (places k s.chains) s t → PlacesBack k s t = λ h.
    let up = given_up_at s t k c.requires.in_step c.requires.there v
    (steady_in w sorts.Arc c.args.self.now.chains) h.goes.took in
    record {
      valid = v;
      alters = h;
      back = up.0;
      added = up.1;
      nodes = node_half_stays s t k h.goes.took;
    } in
    on_ok c.run_moves.result (λ h. happens (subst (λ l. Alters l l s t) e h))
    c.run_moves.ensures.happens

pub returns-in-Ok-clause-leaves : goal.returns-in-Ok-clause-leaves
returns-in-Ok-clause-leaves g c =
    let w = g.O.Observer.watch in
    let s : State = state_of w c.args.self.now in
    let t : State = state_of w c.run_moves.new.self in
    let k : SnapKeys = c.args.name in
    let e : plain_steps c.as_slice.result.now ≡ places k s.chains =
    ap plain_steps c.as_slice.ensures.value ∙ c.in-Ok.ensures
    ∙ ap (λ x. places k (chains_seen w x)) c.chains.ensures in
    let v : IsTrue (is_valid k s.chains) = sym c.if-not-snapshot_valid.ensures in
    if_err c.run_moves.result
    (λ f h. leaves_all k s t c.requires.in_step v
    (λ making is. refusable_tied k making s c.requires.in_step c.requires.there is
    (steady_in w sorts.Arc c.args.self.now.chains)) f (subst (λ l. Stays l s t f) e h))
    c.run_moves.ensures.stays
