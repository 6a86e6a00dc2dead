use Rattle.std.proofs.Common.{ap, ◌∙◌}
use Rattle.base_items.specs.declared.items.ItemSort.TheVariants as sorts
use Rattle.list_digraph.specs.Roomy.{Roomy}
use Rattle.alter_graph.specs.State.{State, state_of}
use Rattle.alter_graph.specs.Snaps.{added_of, kept_of}
use Rattle.alter_graph.proofs.Replaced.{valid_placed}
use Rattle.alter_graph.proofs.Taking.{steady_in}
use Rattle.alter_graph.proofs.Reverted.{restores, happens}
use Rattle.alter_graph.proofs.graph.Alterable.restore.Goals as goal

pub erase_added_arcs-requires-clause-valid : goal.erase_added_arcs-requires-clause-valid
erase_added_arcs-requires-clause-valid g c =
    let s : State = state_of g.O.Observer.watch c.args.self.now in
    let t : State = state_of g.O.Observer.watch c.place_back.new.self in
    let first = c.in_default.ensures.places in
    valid_placed s t c.args.name c.requires.there first.alters.goes.snaps first.valid

pub returns-clause-restores : goal.returns-clause-restores
returns-clause-restores g c =
    let s : State = state_of g.O.Observer.watch c.args.self.now in
    let t : State = state_of g.O.Observer.watch c.place_back.new.self in
    let u : State = state_of g.O.Observer.watch c.erase_added_arcs.new.self in
    let v : State = state_of g.O.Observer.watch c.erase_added_nodes.new.self in
    let w : State = state_of g.O.Observer.watch c.forget.new.self in
    let watch = g.O.Observer.watch in
    let k = c.args.name in
    let there = c.requires.there in
    let placed = c.in_default.ensures.places in
    let arcs = c.erase_added_arcs.ensures in
    let nodes = c.erase_added_nodes.ensures in
    let tied = happens k s t u v there placed arcs.goes nodes.goes arcs.nodes c.requires.in_step
    arcs.valid (steady_in watch sorts.Arc c.args.self.now.chains)
    (steady_in watch sorts.Arc c.place_back.new.self.chains)
    (steady_in watch sorts.Node c.erase_added_arcs.new.self.chains) in
    restores k s t u v there placed arcs.goes nodes.goes
    arcs.nodes nodes.there nodes.valid nodes.none (ap added_of nodes.arcs ∙ arcs.none)
    (ap kept_of nodes.arcs ∙ arcs.back) w (ap (λ (x : Roomy). x.graph) c.forget.ensures.graph)
    c.forget.ensures.forgotten (c.forget.ensures.in_step nodes.goes.in_step)
    (c.forget.ensures.snaps nodes.goes.in_step) tied
