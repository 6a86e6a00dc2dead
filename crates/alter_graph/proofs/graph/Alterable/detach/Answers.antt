use Rattle.std.proofs.Common.{sym, subst}
use Rattle.alter_graph.specs.Present.{present_of}
use Rattle.alter_graph.specs.Chains.{ChainsSeen, chains_seen}
use Rattle.alter_graph.specs.State.{State, state_of, InStep, IsInStep, SnapsStay}
use Rattle.alter_graph.proofs.Reseated.{detached_in_step, detached_stay}
use Rattle.alter_graph.proofs.graph.Alterable.detach.Goals as goal

pub returns-clause-in_step : goal.returns-clause-in_step
returns-clause-in_step g c = λ was.
    let w = g.O.Observer.watch in
    let at = subst (λ v. IsInStep (state_of w v)) (sym c.self.view_is) was in
    record {
      valid = at.valid;
      seats =
          subst (InStep (present_of c.self.inside.graph.graph)) (sym c.detach.ensures.detached)
          (detached_in_step (present_of c.self.inside.graph.graph)
          (chains_seen w c.self.inside.chains) c.args.sort c.args.key.0 at.seats);
    }

pub returns-clause-snaps : goal.returns-clause-snaps
returns-clause-snaps g c =
    let w = g.O.Observer.watch in
    let s : State = record {
      graph = c.self.inside.graph.graph;
      chains = chains_seen w c.self.inside.chains;
    } in
    rw (← c.self.view_is) (λ was.
    subst (λ (d : ChainsSeen). SnapsStay d.snaps s (record { graph = s.graph; chains = d }))
    (sym c.detach.ensures.detached)
    (detached_stay (present_of s.graph) s.chains c.args.sort c.args.key.0 was.seats))
