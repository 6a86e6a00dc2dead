use Rattle.std.proofs.Common.{◌∙◌, sym}
use Rattle.plain_digraph.specs.Lists.{has}
use Rattle.plain_views.specs.Shown.{has_arc}
use Rattle.kept_views.specs.Views.{nodes_of}
use Rattle.kept_walks.specs.Stored.{shows_all}
use Rattle.kept_walks.proofs.Lookups.{node_has, admits_arc}
use Rattle.kept_walks.proofs.kept.part.Goals as goal

pub new-requires-2-clause-nodes : goal.new-requires-2-clause-nodes
new-requires-2-clause-nodes c node h =
    sym (node_has (nodes_of c.args.nodes.now) node)
    ∙ sym (λ i. has (shows_all (c.new.ensures.nodes i) (c.new.ensures.arcs i)).nodes node) ∙ h

pub new-requires-2-clause-arcs : goal.new-requires-2-clause-arcs
new-requires-2-clause-arcs c arc h =
    sym (admits_arc c.args.nodes.now c.args.arcs.now arc)
    ∙ sym (λ i. has_arc (shows_all (c.new.ensures.nodes i) (c.new.ensures.arcs i)) arc) ∙ h
