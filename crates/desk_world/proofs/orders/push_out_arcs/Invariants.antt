use Rattle.std.proofs.Common.{length}
use Rattle.std.specs.Prelude.{option_map}
use Rattle.plain_digraph.specs.Lists.{ahead}
use Rattle.plain_digraph.specs.Items.{out_arcs}
use Rattle.desk_world.proofs.Walked.{Walked}
use Rattle.desk_world.proofs.orders.push_out_arcs.Given as goal

abbrev pub invariant-arcs : goal.invariant-arcs
invariant-arcs l =
    Walked (out_arcs l.graph.graph l.fn.node) (option_map (λ a. a.0) l.next)
    l.initial.arcs.items l.arcs.items

abbrev pub decreases-arcs : goal.decreases-arcs
decreases-arcs l = length (ahead (out_arcs l.graph.graph l.fn.node) (option_map (λ a. a.0) l.next))
