use Rattle.std.proofs.Common.{◌≢◌, List, sym, subst}
use Rattle.base_items.specs.declared.items.Node.{Node}
use Rattle.base_items.specs.declared.items.ItemSort.TheVariants as sorts
use Rattle.std.specs.Prelude.{Bool}
use Rattle.plain_digraph.specs.Items.{IsLive}
use Rattle.plain_digraph.specs.PlainSteps.{PlainStep}
use Rattle.plain_digraph.specs.Alterations.{refusable_steps}
use Rattle.alter_graph.specs.declared.faults.AlterFault.{AlterFault}
use Rattle.alter_graph.specs.declared.faults.AlterFault.TheVariants as fault
use Rattle.alter_graph.specs.State.{State, state_of}
use Rattle.alter_graph.specs.Outcome.{Refuses}
use Rattle.alter_graph.specs.Contraction.{contraction_of, Keeps}
use Rattle.alter_graph.proofs.Sameness.{same_refl}
use Rattle.alter_graph.proofs.Parting.{graph_on}
use Rattle.alter_graph.proofs.Moves.{live_after, moves_refusable}
use Rattle.alter_graph.proofs.Contracted.{contraction_moves, contracted}
use Rattle.alter_graph.proofs.graph.Alterable.contract.Goals as goal

keeps : (loops : Bool) (u v : Node) (s t : State) (why : AlterFault) → u.0 ≢ v.0
    → Refuses (contraction_of loops u v) s t why → Keeps loops u v s t why
keeps loops u v s t (fault.Vetoed sort key) apart h = (apart, h)
keeps loops u v s t fault.SameNode apart h = absurd h.refused
keeps loops u v s t (fault.Full limit) apart h = (apart, h)
keeps loops u v s t fault.Stale apart h = h.refused
keeps loops u v s t fault.Memory apart h = h

pub returns-then-u-v-clause-keeps : goal.returns-then-u-v-clause-keeps
returns-then-u-v-clause-keeps g c =
    let s : State = state_of g.O.Observer.watch c.args.self.now in
    (c.if-u-v.true, record { same = same_refl s; in_step = c.requires.in_step })

pub returns-in-Err-clause-keeps : goal.returns-in-Err-clause-keeps
returns-in-Err-clause-keeps g c =
    let s : State = state_of g.O.Observer.watch c.args.self.now in
    let t : State = state_of g.O.Observer.watch c.contract_moves.new.self in
    keeps c.args.loops c.args.u c.args.v s t c.in-Err.fault c.if-u-v.false c.in-Err.ensures.stays

pub erase_node-requires-clause-in_step : goal.erase_node-requires-clause-in_step
erase_node-requires-clause-in_step g c = c.in_default.ensures.happens.goes.in_step

pub erase_node-requires-clause-node : goal.erase_node-requires-clause-node
erase_node-requires-clause-node g c =
    let s : State = state_of g.O.Observer.watch c.args.self.now in
    let t : State = state_of g.O.Observer.watch c.contract_moves.new.self in
    let moves : List PlainStep =
    refusable_steps s.graph (contraction_of c.args.loops c.args.u c.args.v) in
    let r = moves_refusable moves s.graph (contraction_moves c.args.loops c.args.u c.args.v s.graph
    c.requires.in_step.valid c.requires.into) in
    subst (λ x. IsLive x sorts.Node c.args.v.0)
    (sym (graph_on moves s t c.in_default.ensures.happens.goes.took))
    (live_after moves s.graph sorts.Node c.args.v.0 r c.requires.from)

pub returns-clause-contracts : goal.returns-clause-contracts
returns-clause-contracts g c =
    let s : State = state_of g.O.Observer.watch c.args.self.now in
    let t : State = state_of g.O.Observer.watch c.contract_moves.new.self in
    let w : State = state_of g.O.Observer.watch c.erase_node.new.self in
    record {
      differ = c.if-u-v.false;
      happens = contracted c.args.loops c.args.u c.args.v s t w c.if-u-v.false
          c.requires.in_step.valid c.requires.into c.in_default.ensures.happens
          c.erase_node.ensures.erases;
    }
