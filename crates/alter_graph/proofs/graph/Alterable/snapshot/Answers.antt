use Rattle.std.proofs.Common.{sym, subst, ◌∙◌, IfSome}
use Rattle.base_items.specs.declared.items.ItemSort.TheVariants as sorts
use Rattle.observe_core.specs.Conditions.{CanBuild}
use Rattle.plain_digraph.specs.Items.{facts}
use Rattle.alter_graph.specs.Chains.{ChainsSeen, chains_seen}
use Rattle.alter_graph.specs.Present.{present_of}
use Rattle.alter_graph.specs.State.{State, state_of, IsSame, InStep, IsInStep}
use Rattle.alter_graph.specs.Snapping.{Seated}
use Rattle.alter_graph.proofs.Sameness.{same_refl}
use Rattle.alter_graph.proofs.Snapping.{may_build_half, made_in_step, made_makes}
use Rattle.alter_graph.proofs.Snapping.{on_some, on_none, some_or_none}
use Rattle.alter_graph.proofs.graph.Alterable.snapshot.Goals as goal

pub snapshot-requires-clause-nodes : goal.snapshot-requires-clause-nodes
snapshot-requires-clause-nodes g c =
    let w = g.O.Observer.watch in
    let at = subst (λ v. IsInStep (state_of w v)) (sym c.self.view_is) c.requires.in_step in
    let x = (w c.from_half-node.result).seen in
    subst (λ fs. CanBuild fs x) (sym (c.as_slice.ensures.value ∙ c.in-Ok.ensures))
    (may_build_half c.self.inside.graph.graph sorts.Node at.valid x
    (c.from_half-node.ensures ∙ c.new.ensures))

pub snapshot-requires-clause-arcs : goal.snapshot-requires-clause-arcs
snapshot-requires-clause-arcs g c =
    let w = g.O.Observer.watch in
    let at = subst (λ v. IsInStep (state_of w v)) (sym c.self.view_is) c.requires.in_step in
    let x = (w c.from_half-arc.result).seen in
    subst (λ fs. CanBuild fs x) (sym (c.as_slice-2.ensures.value ∙ c.in-Ok-all_facts.ensures))
    (may_build_half c.self.inside.graph.graph sorts.Arc at.valid x
    (c.from_half-arc.ensures ∙ c.new-2.ensures))

pub returns-in-Err-clause-same : goal.returns-in-Err-clause-same
returns-in-Err-clause-same g c = same_refl (state_of g.O.Observer.watch c.args.self.now)

pub returns-in-Err-all_facts-clause-same : goal.returns-in-Err-all_facts-clause-same
returns-in-Err-all_facts-clause-same g c = same_refl (state_of g.O.Observer.watch c.args.self.now)

pub returns-clause-makes : goal.returns-clause-makes
returns-clause-makes g c =
    let w = g.O.Observer.watch in
    let at = subst (λ v. IsInStep (state_of w v)) (sym c.self.view_is) c.requires.in_step in
    let s : State = record {
      graph = c.self.inside.graph.graph;
      chains = chains_seen w c.self.inside.chains;
    } in
    let d : ChainsSeen = chains_seen w c.snapshot.new.self in
    let nodes = c.as_slice.ensures.value ∙ c.in-Ok.ensures in
    let arcs = c.as_slice-2.ensures.value ∙ c.in-Ok-all_facts.ensures in
    let node = w c.from_half-node.result in
    let arc = w c.from_half-arc.result in
    let seated = subst (λ fs. IfSome c.snapshot.result (λ name. Seated name node arc fs
    (facts s.graph sorts.Arc) s.chains d)) nodes
    (subst (λ fs. IfSome c.snapshot.result (λ name. Seated name node arc c.as_slice.result.now fs
    s.chains d)) arcs c.snapshot.ensures.seated) in
    rw (← c.self.view_is) (on_some c.snapshot.result
    (λ name h. made_makes s d name node arc at (c.from_half-node.ensures ∙ c.new.ensures)
    (c.from_half-arc.ensures ∙ c.new-2.ensures) h) seated)

pub returns-clause-same : goal.returns-clause-same
returns-clause-same g c =
    let w = g.O.Observer.watch in
    let s : State = record {
      graph = c.self.inside.graph.graph;
      chains = chains_seen w c.self.inside.chains;
    } in
    rw (← c.self.view_is) (on_none c.snapshot.result
    (λ e. subst (λ (d : ChainsSeen). IsSame s (record { graph = s.graph; chains = d }))
    {y = chains_seen w c.snapshot.new.self}
    (sym e) (same_refl s)) c.snapshot.ensures.same)

pub returns-clause-in_step : goal.returns-clause-in_step
returns-clause-in_step g c =
    let w = g.O.Observer.watch in
    let at = subst (λ v. IsInStep (state_of w v)) (sym c.self.view_is) c.requires.in_step in
    let s : State = record {
      graph = c.self.inside.graph.graph;
      chains = chains_seen w c.self.inside.chains;
    } in
    let d : ChainsSeen = chains_seen w c.snapshot.new.self in
    let nodes = c.as_slice.ensures.value ∙ c.in-Ok.ensures in
    let arcs = c.as_slice-2.ensures.value ∙ c.in-Ok-all_facts.ensures in
    let node = w c.from_half-node.result in
    let arc = w c.from_half-arc.result in
    let seated = subst (λ fs. IfSome c.snapshot.result (λ name. Seated name node arc fs
    (facts s.graph sorts.Arc) s.chains d)) nodes
    (subst (λ fs. IfSome c.snapshot.result (λ name. Seated name node arc c.as_slice.result.now fs
    s.chains d)) arcs c.snapshot.ensures.seated) in
    record {
      valid = at.valid;
      seats =
          some_or_none c.snapshot.result
          (λ name h. made_in_step s d name node arc at (c.from_half-node.ensures ∙ c.new.ensures)
          (c.from_half-arc.ensures ∙ c.new-2.ensures) h)
          (λ e. subst (InStep (present_of s.graph)) (sym e) at.seats) seated
          c.snapshot.ensures.same;
    }
