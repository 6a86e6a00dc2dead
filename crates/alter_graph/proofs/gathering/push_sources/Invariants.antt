use Rattle.std.proofs.Common.{◌≡◌, ◌++◌, take}
use Rattle.plain_digraph.specs.Alterations.{sources_to}
use Rattle.alter_graph.specs.Steps.{plain_steps}
use Rattle.alter_graph.proofs.gathering.push_sources.Given as goal

abbrev pub invariant-loop-arc : goal.invariant-loop-arc
invariant-loop-arc l = plain_steps l.steps.items
    ≡ plain_steps l.initial.steps.items ++ sources_to l.u.0 (take l.arc-index l.arcs)
