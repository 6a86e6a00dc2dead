use Rattle.alter_graph.specs.State.{State, state_of}
use Rattle.alter_graph.proofs.Emptying.{three_parts}
use Rattle.alter_graph.proofs.graph.Alterable.erase_node.Goals as goal

pub erase_in-requires-clause-in_step : goal.erase_in-requires-clause-in_step
erase_in-requires-clause-in_step g c = c.erase_out.ensures.goes.in_step

pub erase_bare-requires-clause-in_step : goal.erase_bare-requires-clause-in_step
erase_bare-requires-clause-in_step g c = c.erase_in.ensures.goes.in_step

pub returns : goal.returns
returns g c =
    let s : State = state_of g.O.Observer.watch c.args.self.now in
    let t : State = state_of g.O.Observer.watch c.erase_out.new.self in
    let u : State = state_of g.O.Observer.watch c.erase_in.new.self in
    let v : State = state_of g.O.Observer.watch c.erase_bare.new.self in
    record {
      erases = three_parts c.args.n.0 s t u v c.erase_out.ensures.goes c.erase_in.ensures.goes
          c.erase_bare.ensures.goes;
    }
