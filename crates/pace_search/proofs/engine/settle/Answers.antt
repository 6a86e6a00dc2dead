use Rattle.std.proofs.Common.{◌+◌, length, ap, arith}
use Rattle.std.specs.Option.{option_map}
use Rattle.plain_certificates.specs.Tables.{at}
use Rattle.static_digraph.specs.Fixed.{graph_of}
use Rattle.pace_search.specs.Paces.{pace_graph}
use Rattle.pace_search.proofs.Begun.{first_state, first_within}
use Rattle.pace_search.proofs.Found.{within_again}
use Rattle.pace_search.proofs.engine.settle.Goals as goal

pub rounds-init : goal.rounds-init
rounds-init c =
    let g = pace_graph (graph_of c.args.g.now) (length c.args.len.now) in
    record {
      sizes = c.requires.sizes;
      within = first_within g.arcs g.nodes c.args.dist.now c.args.via.now c.requires.fresh;
      state = first_state g (at 0 c.args.len.now) c.args.dist.now c.args.via.now
          c.requires.sizes.vias c.requires.fresh;
    }

pub find_round-requires-clause-tree : goal.find_round-requires-clause-tree
find_round-requires-clause-tree c =
    let was = c.rounds.invariant in
    let dists = c.relax_all.auto.dist in
    let vias = c.relax_all.auto.via in
    let sizes = was.sizes.dists in
    let arcs = was.sizes.vias in
    let begun = c.requires.sizes.dists in
    record {
      ends = was.sizes.ends;
      dists = omega (arith, dists, sizes);
      vias = omega (arith, vias, arcs);
      lens = at 0 c.args.len.now;
      first = at 0 c.args.dist.now;
      high = λ v l. c.requires.fresh.low v 0 (omega (arith, l, begun));
      state = c.relax_all.ensures.tree (at 0 c.args.dist.now) was.state;
    }

pub rounds-preserved : goal.rounds-preserved
rounds-preserved c =
    let g = pace_graph (graph_of c.args.g.now) (length c.args.len.now) in
    let was = c.rounds.invariant in
    let dists = c.relax_all.auto.dist in
    let vias = c.relax_all.auto.via in
    let sizes = was.sizes.dists in
    let arcs = was.sizes.vias in
    record {
      sizes = record {
        ends = was.sizes.ends;
        lens = was.sizes.lens;
        dists = omega (arith, dists, sizes);
        vias = omega (arith, vias, arcs);
      };
      within = within_again g (g.nodes + g.arcs) c.relax_all.new.dist (at 0 c.relax_all.new.via)
          (option_map (λ round. round.items) c.in_ok-round.field-0)
          (ap (option_map (λ round. round.items)) c.in-None.is) (omega (arith, dists, sizes))
          c.in_ok-round.ensures c.relax_all.ensures.within;
      state = c.relax_all.ensures.tree (at 0 c.args.dist.now) was.state;
    }
