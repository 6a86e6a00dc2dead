use Rattle.std.proofs.Common.{refl}
use Rattle.alter_graph.specs.Chains.{chain_seen}
use Rattle.alter_graph.proofs.Sameness.{chain_refl}
use Rattle.alter_graph.proofs.chains.Chains.lose.Goals as goal

pub returns-in-Node : goal.returns-in-Node
returns-in-Node g c =
    let b = g.O.Observer in
    let i = c.self.inside in
    rw (c.in-Node.is, ← c.self.view_is)
    (record {
      nodes = record { seats = c.lose.ensures.stay; left = c.lose.ensures.left };
      arcs =
          chain_refl (chain_seen b.watch i.arcs);
      snaps = refl;
    })

pub returns-in-Arc : goal.returns-in-Arc
returns-in-Arc g c =
    let b = g.O.Observer in
    let i = c.self.inside in
    rw (c.in-Arc.is, ← c.self.view_is)
    (record {
      nodes = chain_refl (chain_seen b.watch i.nodes);
      arcs =
          record { seats = c.lose-in-Arc.ensures.stay; left = c.lose-in-Arc.ensures.left };
      snaps =
          refl;
    })
