use Rattle.base_items.specs.declared.items.ItemSort.TheVariants as sorts
use Rattle.alter_graph.specs.State.{State, state_of}
use Rattle.alter_graph.proofs.Reseated.{both_stay}
use Rattle.alter_graph.proofs.graph.Alterable.forget.Goals as goal

pub returns-clause-snaps : goal.returns-clause-snaps
returns-clause-snaps g c = λ was.
    let w = g.O.Observer.watch in
    let s : State = state_of w c.args.self.now in
    let t : State = state_of w c.detach.new.self in
    let u : State = state_of w c.detach-2.new.self in
    both_stay s t u sorts.Arc c.args.name.arcs.0 c.detach-2.ensures.detached
    (c.detach.ensures.snaps was) (c.detach-2.ensures.snaps (c.detach.ensures.in_step was))
