use Rattle.std.proofs.Common.{arith}
use Rattle.static_digraph.specs.Fixed.{graph_of}
use Rattle.plain_certificates.specs.Walks.{start_of}
use Rattle.view_numbers.proofs.Rounds.{walk_inside}
use Rattle.view_numbers.proofs.cycles.least_place.Goals as goal

-- src/cycles.rt:38:12
pub arc_item-requires : goal.arc_item-requires
arc_item-requires c =
    walk_inside (graph_of c.args.g.now) c.args.cycle.now
    (start_of (graph_of c.args.g.now) c.args.cycle.now)
    (start_of (graph_of c.args.g.now) c.args.cycle.now) c.loop-place.place c.requires.closed
    c.loop-place-test.true

-- src/cycles.rt:38:39
pub arc_item-requires-in-loop-place : goal.arc_item-requires-in-loop-place
arc_item-requires-in-loop-place c =
    walk_inside (graph_of c.args.g.now) c.args.cycle.now
    (start_of (graph_of c.args.g.now) c.args.cycle.now)
    (start_of (graph_of c.args.g.now) c.args.cycle.now) c.loop-place.least c.requires.closed
    (omega (arith, c.loop-place.invariant.least.inside, c.loop-place-test.true))
