use Rattle.std.proofs.Common.{sym, ap, subst}
use Rattle.alter_graph.specs.Present.{present_of}
use Rattle.alter_graph.specs.Chains.{ChainsSeen, chains_seen}
use Rattle.alter_graph.specs.State.{state_of, IsInStep}
use Rattle.alter_graph.proofs.Reseated.{popped_in_step}
use Rattle.alter_graph.proofs.graph.Alterable.pop_left.Goals as goal

pub returns-clause-in_step : goal.returns-clause-in_step
returns-clause-in_step g c = λ was.
    let w = g.O.Observer.watch in
    let at = subst (λ v. IsInStep (state_of w v)) (sym c.self.view_is) was in
    let popped = c.pop_left.ensures.popped in
    record {
      valid = at.valid;
      seats =
          popped_in_step (present_of c.self.inside.graph.graph) (chains_seen w c.self.inside.chains)
          (chains_seen w c.pop_left.new.self) (ap (λ (d : ChainsSeen). d.nodes.seats) popped)
          (ap (λ (d : ChainsSeen). d.arcs.seats) popped)
          (ap (λ (d : ChainsSeen). d.snaps) popped) at.seats;
    }
