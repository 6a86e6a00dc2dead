use Rattle.std.proofs.Common.{refl, sym, subst}
use Rattle.base_items.specs.declared.items.Fact.{Fact}
use Rattle.base_items.specs.declared.items.ItemSort.TheVariants as sorts
use Rattle.plain_digraph.specs.Items.{IsLive}
use Rattle.plain_digraph.specs.PlainSteps.{EraseArc}
use Rattle.observe_core.specs.declared.losses.Loss.TheVariants.{Erase}
use Rattle.observe_core.specs.Losses.{CanLose}
use Rattle.notify_chain.specs.Seats.{AllSeats}
use Rattle.alter_graph.specs.Chains.{chains_seen, seats_in, in_chain, chain_lost, IsSameChains}
use Rattle.alter_graph.specs.State.{state_of, IsInStep}
use Rattle.alter_graph.proofs.Losing.{may_lose, lost_goes}
use Rattle.alter_graph.proofs.graph.Alterable.erase_arc.Goals as goal

pub told_of-fact-requires-clause-valid : goal.told_of-fact-requires-clause-valid
told_of-fact-requires-clause-valid g c =
    (subst (λ v. IsInStep (state_of g.O.Observer.watch v)) (sym c.self.view_is)
    c.requires.in_step).valid

pub told_of-fact-requires-clause-live : goal.told_of-fact-requires-clause-live
told_of-fact-requires-clause-live g c =
    subst (λ v. IsLive (state_of g.O.Observer.watch v).graph sorts.Arc c.args.a.0)
    (sym c.self.view_is) c.requires.arc

pub erase_arc-requires : goal.erase_arc-requires
erase_arc-requires g c =
    subst (λ v. IsLive (state_of g.O.Observer.watch v).graph sorts.Arc c.args.a.0)
    (sym c.self.view_is) c.requires.arc

pub lose-requires : goal.lose-requires
lose-requires g c =
    let w = g.O.Observer.watch in
    let at = subst (λ v. IsInStep (state_of w v)) (sym c.self.view_is) c.requires.in_step in
    let live = subst (λ v. IsLive (state_of w v).graph sorts.Arc c.args.a.0)
    (sym c.self.view_is) c.requires.arc in
    subst (λ (f : Fact). AllSeats (λ x. CanLose (Erase f) x.seen)
    (seats_in sorts.Arc (chains_seen w c.self.inside.chains))) (sym c.told_of-fact.ensures)
    (may_lose w (EraseArc c.args.a.0) c.self.inside.graph.graph c.self.inside.chains refl at live
    (Erase _) refl)

pub returns : goal.returns
returns g c =
    let w = g.O.Observer.watch in
    let at = subst (λ v. IsInStep (state_of w v)) (sym c.self.view_is) c.requires.in_step in
    let live = subst (λ v. IsLive (state_of w v).graph sorts.Arc c.args.a.0)
    (sym c.self.view_is) c.requires.arc in
    let told = subst (λ (f : Fact). IsSameChains
    (in_chain sorts.Arc (chain_lost (Erase f)) (chains_seen w c.self.inside.chains))
    (chains_seen w c.lose.new.self)) c.told_of-fact.ensures c.lose.ensures in
    rw (← c.self.view_is) (record {
      erases =
          lost_goes w (EraseArc c.args.a.0) c.self.inside.graph.graph c.self.inside.chains refl at
          live
          (Erase _) refl c.erase_arc.new.self.graph c.lose.new.self c.erase_arc.ensures.erased told;
    })
