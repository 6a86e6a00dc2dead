use Rattle.std.proofs.Common.{refl, sym, subst}
use Rattle.plain_digraph.specs.Steps.{clear_arcs}
use Rattle.plain_digraph.specs.PlainSteps.{ClearArcs, ClearNodes}
use Rattle.observe_core.specs.declared.losses.Loss.TheVariants.{Clear}
use Rattle.alter_graph.specs.State.{state_of, IsInStep}
use Rattle.alter_graph.proofs.Losing.{may_lose, arcs_cleared, all_cleared}
use Rattle.alter_graph.proofs.graph.Alterable.clear.Goals as goal

pub lose-requires : goal.lose-requires
lose-requires g c =
    let w = g.O.Observer.watch in
    let at = subst (λ v. IsInStep (state_of w v)) (sym c.self.view_is) c.requires.in_step in
    may_lose w ClearArcs c.self.inside.graph.graph c.self.inside.chains refl at tt Clear refl

pub lose-requires-2 : goal.lose-requires-2
lose-requires-2 g c =
    let w = g.O.Observer.watch in
    let d = c.self.inside.graph.graph in
    let at = subst (λ v. IsInStep (state_of w v)) (sym c.self.view_is) c.requires.in_step in
    let first = arcs_cleared w d c.self.inside.chains c.lose.new.self at c.lose.ensures in
    may_lose w ClearNodes (clear_arcs d) c.lose.new.self refl first.in_step (d, at.valid, refl)
    Clear refl

pub returns : goal.returns
returns g c =
    let w = g.O.Observer.watch in
    let at = subst (λ v. IsInStep (state_of w v)) (sym c.self.view_is) c.requires.in_step in
    rw (← c.self.view_is) (record {
      erases =
          all_cleared w c.self.inside.graph.graph c.self.inside.chains c.lose.new.self at
          c.clear.new.self.graph c.lose-2.new.self c.lose.ensures c.clear.ensures.cleared
          c.lose-2.ensures;
    })
