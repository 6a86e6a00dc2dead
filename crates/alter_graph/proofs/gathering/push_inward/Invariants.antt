use Rattle.std.proofs.Common.{length}
use Rattle.std.specs.Prelude.{◌||◌, option_map}
use Rattle.plain_digraph.specs.Lists.{ahead}
use Rattle.plain_digraph.specs.Items.{in_arcs, source_of}
use Rattle.plain_digraph.specs.PlainSteps.{MoveTo}
use Rattle.plain_digraph.specs.Alterations.{is_neither}
use Rattle.alter_graph.specs.Steps.{plain_steps}
use Rattle.alter_graph.proofs.Pushed.{Pushed}
use Rattle.alter_graph.proofs.gathering.push_inward.Given as goal

abbrev pub invariant-arcs : goal.invariant-arcs
invariant-arcs l = Pushed (λ arc. MoveTo arc l.u.0)
    (λ arc. l.all || is_neither l.u.0 l.v.0 (source_of l.graph.graph arc))
    (in_arcs l.graph.graph l.v.0) (option_map (λ a. a.0) l.next)
    (plain_steps l.initial.steps.items) (plain_steps l.steps.items)

abbrev pub decreases-arcs : goal.decreases-arcs
decreases-arcs l = length (ahead (in_arcs l.graph.graph l.v.0) (option_map (λ a. a.0) l.next))
