use Rattle.std.proofs.Common.{arith}
use Rattle.net_simplex.proofs.start.first_flow.Goals as goal

pub loads_of-requires-clause-few : goal.loads_of-requires-clause-few
loads_of-requires-clause-few c =
    let few = c.requires.few in
    let arcs = c.arc_count.ensures.few in
    (few, omega (arith, arcs))

pub prices_of-requires : goal.prices_of-requires
prices_of-requires c = c.requires.few
