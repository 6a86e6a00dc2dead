use Rattle.std.proofs.Common.{sym, subst}
use Rattle.alter_graph.specs.State.{state_of}
use Rattle.alter_graph.specs.Steps.{CanGoBack}
use Rattle.alter_graph.proofs.graph.Alterable.step_back.Goals as goal

pub untake-requires : goal.untake-requires
untake-requires g c =
    let h = subst (λ v. CanGoBack c.args.done.now (state_of g.O.Observer.watch v))
    (sym c.self.view_is) c.requires in h.graph

pub untell-requires : goal.untell-requires
untell-requires g c =
    let h = subst (λ v. CanGoBack c.args.done.now (state_of g.O.Observer.watch v))
    (sym c.self.view_is) c.requires in h.seats

pub returns : goal.returns
returns g c = rw (← c.self.view_is) (record { graph = c.untake.ensures; chains = c.untell.ensures })
