use Rattle.std.proofs.Common.{◌≡◌, sym, ◌∙◌, refl}
use Rattle.base_items.specs.declared.items.ItemSort.TheVariants as sorts
use Rattle.observe_core.specs.Changes.{told}
use Rattle.notify_chain.specs.Seats.{seats}
use Rattle.notify_chain.proofs.SeatLemmas.{on_ok, on_err}
use Rattle.alter_graph.specs.Chains.{chain_seen}
use Rattle.alter_graph.specs.Steps.{done_sort, change_of}
use Rattle.alter_graph.proofs.Sameness.{each_heard, chain_refl}
use Rattle.alter_graph.proofs.chains.Chains.tell.Goals as goal

pub returns-in-Node-clause-told : goal.returns-in-Node-clause-told
returns-in-Node-clause-told g c =
    let b = g.O.Observer in
    let i = c.self.inside in
    let e : done_sort c.args.done.now ≡ sorts.Node = sym c.sort.ensures ∙ c.in-Node.is in
    let h = rw c.change.ensures at c.announce.ensures.ok in
    rw (e, ← c.self.view_is) (on_ok c.announce.result (λ h. record {
      nodes = record {
        seats = each_heard (told (change_of c.args.done.now)) (seats b.watch i.nodes)
            (seats b.watch c.announce.new.self) h;
        left = c.announce.ensures.left;
      };
      arcs = chain_refl (chain_seen b.watch i.arcs);
      snaps = refl;
    }) h)

pub returns-in-Node-clause-same : goal.returns-in-Node-clause-same
returns-in-Node-clause-same g c =
    let b = g.O.Observer in
    let i = c.self.inside in
    rw (← c.self.view_is) (on_err c.announce.result (λ h. record {
      nodes = record { seats = h; left = c.announce.ensures.left };
      arcs = chain_refl (chain_seen b.watch i.arcs);
      snaps = refl;
    }) c.announce.ensures.err)

pub returns-in-Arc-clause-told : goal.returns-in-Arc-clause-told
returns-in-Arc-clause-told g c =
    let b = g.O.Observer in
    let i = c.self.inside in
    let e : done_sort c.args.done.now ≡ sorts.Arc = sym c.sort.ensures ∙ c.in-Arc.is in
    let h = rw c.change-in-Arc.ensures at c.announce-in-Arc.ensures.ok in
    rw (e, ← c.self.view_is) (on_ok c.announce-in-Arc.result (λ h. record {
      nodes = chain_refl (chain_seen b.watch i.nodes);
      arcs = record {
        seats = each_heard (told (change_of c.args.done.now)) (seats b.watch i.arcs)
            (seats b.watch c.announce-in-Arc.new.self) h;
        left = c.announce-in-Arc.ensures.left;
      };
      snaps = refl;
    }) h)

pub returns-in-Arc-clause-same : goal.returns-in-Arc-clause-same
returns-in-Arc-clause-same g c =
    let b = g.O.Observer in
    let i = c.self.inside in
    rw (← c.self.view_is) (on_err c.announce-in-Arc.result (λ h. record {
      nodes = chain_refl (chain_seen b.watch i.nodes);
      arcs = record { seats = h; left = c.announce-in-Arc.ensures.left };
      snaps = refl;
    }) c.announce-in-Arc.ensures.err)
