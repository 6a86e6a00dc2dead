use Rattle.std.proofs.Common.{true, false, sym, subst}
use Rattle.observe_core.specs.Held.{KeptNodes}
use Rattle.alter_graph.specs.Lending.{Rewrites}
use Rattle.kept_views.specs.ItemViews.{marks}
use Rattle.kept_views.specs.Views.{nodes_of, nodes_seen}
use Rattle.view_tests.specs.Sides.{watched}
use Rattle.view_tests.proofs.Placed.{placed_rewrites}
use Rattle.view_tests.proofs.sides.Side.place_node.Goals as goal

pub returns-then-shown : goal.returns-then-shown
returns-then-shown c live =
    let n = c.in-Nodes.nodes in
    subst (λ s. Rewrites live (watched s).seen (nodes_seen c.set.new.self)) (sym c.in-Nodes.is)
    (subst (Rewrites live (nodes_seen n)) (sym c.set.ensures)
    (placed_rewrites live KeptNodes n.items.all c.args.id (marks true false false) (nodes_of n)))

pub returns-then-not-all : goal.returns-then-not-all
returns-then-not-all c live =
    let n = c.in-Nodes.nodes in
    let set = c.set-then-not-all in
    subst (λ s. Rewrites live (watched s).seen (nodes_seen set.new.self)) (sym c.in-Nodes.is)
    (subst (Rewrites live (nodes_seen n)) (sym set.ensures)
    (placed_rewrites live KeptNodes n.items.all c.args.id (marks false false false) (nodes_of n)))
