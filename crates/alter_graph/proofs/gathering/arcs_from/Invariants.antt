use Rattle.std.proofs.Common.{[], length}
use Rattle.std.specs.Prelude.{option_map}
use Rattle.plain_digraph.specs.Lists.{ahead}
use Rattle.plain_digraph.specs.Items.{out_arcs}
use Rattle.alter_graph.proofs.Walked.{Walked}
use Rattle.alter_graph.proofs.gathering.arcs_from.Given as goal

abbrev pub invariant-arcs : goal.invariant-arcs
invariant-arcs l = Walked (out_arcs l.graph.graph l.fn.n.0) (option_map (λ a. a.0) l.next) []
    l.arcs.items

abbrev pub decreases-arcs : goal.decreases-arcs
decreases-arcs l = length (ahead (out_arcs l.graph.graph l.fn.n.0) (option_map (λ a. a.0) l.next))
