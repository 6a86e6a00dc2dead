use Rattle.std.proofs.Common.{◌≡◌, sym, ◌∙◌, refl}
use Rattle.base_items.specs.declared.items.ItemSort.TheVariants as sorts
use Rattle.observe_core.specs.Changes.{untold}
use Rattle.notify_chain.specs.Seats.{seats}
use Rattle.alter_graph.specs.Chains.{chain_seen}
use Rattle.alter_graph.specs.Steps.{done_sort, change_of}
use Rattle.alter_graph.proofs.Sameness.{each_heard, chain_refl}
use Rattle.alter_graph.proofs.chains.Chains.untell.Goals as goal

pub returns-in-Node : goal.returns-in-Node
returns-in-Node g c =
    let b = g.O.Observer in
    let i = c.self.inside in
    let e : done_sort c.args.done.now ≡ sorts.Node = sym c.sort.ensures ∙ c.in-Node.is in
    let h = rw c.change.ensures at c.undo.ensures.untold in
    rw (e, ← c.self.view_is) (record {
      nodes = record {
        seats = each_heard (untold (change_of c.args.done.now)) (seats b.watch i.nodes)
            (seats b.watch c.undo.new.self) h;
        left = c.undo.ensures.left;
      };
      arcs = chain_refl (chain_seen b.watch i.arcs);
      snaps = refl;
    })

pub returns-in-Arc : goal.returns-in-Arc
returns-in-Arc g c =
    let b = g.O.Observer in
    let i = c.self.inside in
    let e : done_sort c.args.done.now ≡ sorts.Arc = sym c.sort.ensures ∙ c.in-Arc.is in
    let h = rw c.change-in-Arc.ensures at c.undo-in-Arc.ensures.untold in
    rw (e, ← c.self.view_is) (record {
      nodes = chain_refl (chain_seen b.watch i.nodes);
      arcs = record {
        seats = each_heard (untold (change_of c.args.done.now)) (seats b.watch i.arcs)
            (seats b.watch c.undo-in-Arc.new.self) h;
        left = c.undo-in-Arc.ensures.left;
      };
      snaps = refl;
    })
