use Rattle.std.proofs.Common.{◌≡◌, List, sym, ap, subst, ◌∙◌, IfErr, Ok, Err, Result}
use Rattle.base_items.specs.declared.items.ItemSort.TheVariants as sorts
use Rattle.list_digraph.specs.Roomy.{Roomy}
use Rattle.plain_digraph.specs.Items.{IsLive}
use Rattle.plain_digraph.specs.PlainSteps.{PlainStep}
use Rattle.plain_digraph.specs.Alterations.{refusable_steps}
use Rattle.plain_digraph.specs.Valid.{IsValid}
use Rattle.notify_chain.proofs.SeatLemmas.{on_ok}
use Rattle.alter_graph.specs.State.{State, state_of}
use Rattle.alter_graph.specs.Steps.{plain_steps, CanTakeAll, HaveOwnPlaces}
use Rattle.alter_graph.specs.Room.{nodes_in, arcs_in}
use Rattle.alter_graph.specs.Outcome.{Alters, Stays}
use Rattle.alter_graph.specs.Contraction.{contraction_of}
use Rattle.alter_graph.proofs.Sameness.{same_refl}
use Rattle.alter_graph.proofs.Moves.{moves_can, moves_own, moves_no_nodes, moves_no_arcs}
use Rattle.alter_graph.proofs.Contracted.{contraction_moves}
use Rattle.alter_graph.proofs.graph.Alterable.contract_moves.Goals as goal

if_err : {T E : Type 0} {P Q : E → Type 0} (r : Result T E) → ((e : E) → P e → Q e) → IfErr r P
    → IfErr r Q
if_err (Ok x) f h = tt
if_err (Err e) f h = f e h

pub contraction_steps-requires-clause-valid : goal.contraction_steps-requires-clause-valid
contraction_steps-requires-clause-valid g c =
    subst (λ (x : Roomy). IsValid x.graph) (sym c.graph.ensures) c.requires.in_step.valid

pub contraction_steps-requires-clause-live : goal.contraction_steps-requires-clause-live
contraction_steps-requires-clause-live g c =
    subst (λ (x : Roomy). IsLive x.graph sorts.Node c.args.v.0) (sym c.graph.ensures)
    c.requires.from

pub returns-in-Err-clause-stays : goal.returns-in-Err-clause-stays
returns-in-Err-clause-stays g c =
    let s : State = state_of g.O.Observer.watch c.args.self.now in
    record { same = same_refl s; refused = tt; in_step = c.requires.in_step }

pub run_moves-requires-clause-can : goal.run_moves-requires-clause-can
run_moves-requires-clause-can g c =
    let d = c.args.self.now.graph.graph in
    let moves : List PlainStep =
    refusable_steps d (contraction_of c.args.loops c.args.u c.args.v) in
    let e : plain_steps c.as_slice.result.now ≡ moves =
    ap plain_steps c.as_slice.ensures.value ∙ c.in-Ok.ensures
    ∙ ap (λ (x : Roomy). refusable_steps x.graph (contraction_of c.args.loops c.args.u c.args.v))
    c.graph.ensures in
    subst (λ l. CanTakeAll l d) (sym e) (moves_can moves d
    (contraction_moves c.args.loops c.args.u c.args.v d c.requires.in_step.valid c.requires.into))

pub run_moves-requires-clause-own : goal.run_moves-requires-clause-own
run_moves-requires-clause-own g c =
    let s : State = state_of g.O.Observer.watch c.args.self.now in
    let d = c.args.self.now.graph.graph in
    let moves : List PlainStep =
    refusable_steps d (contraction_of c.args.loops c.args.u c.args.v) in
    let e : plain_steps c.as_slice.result.now ≡ moves =
    ap plain_steps c.as_slice.ensures.value ∙ c.in-Ok.ensures
    ∙ ap (λ (x : Roomy). refusable_steps x.graph (contraction_of c.args.loops c.args.u c.args.v))
    c.graph.ensures in
    subst (λ l. HaveOwnPlaces l s) (sym e) (moves_own moves d s
    (contraction_moves c.args.loops c.args.u c.args.v d c.requires.in_step.valid c.requires.into))

pub run_moves-requires-clause-no_nodes : goal.run_moves-requires-clause-no_nodes
run_moves-requires-clause-no_nodes g c =
    let d = c.args.self.now.graph.graph in
    let moves : List PlainStep =
    refusable_steps d (contraction_of c.args.loops c.args.u c.args.v) in
    let e : plain_steps c.as_slice.result.now ≡ moves =
    ap plain_steps c.as_slice.ensures.value ∙ c.in-Ok.ensures
    ∙ ap (λ (x : Roomy). refusable_steps x.graph (contraction_of c.args.loops c.args.u c.args.v))
    c.graph.ensures in
    ap nodes_in e ∙ moves_no_nodes moves d
    (contraction_moves c.args.loops c.args.u c.args.v d c.requires.in_step.valid c.requires.into)

pub run_moves-requires-clause-no_arcs : goal.run_moves-requires-clause-no_arcs
run_moves-requires-clause-no_arcs g c =
    let d = c.args.self.now.graph.graph in
    let moves : List PlainStep =
    refusable_steps d (contraction_of c.args.loops c.args.u c.args.v) in
    let e : plain_steps c.as_slice.result.now ≡ moves =
    ap plain_steps c.as_slice.ensures.value ∙ c.in-Ok.ensures
    ∙ ap (λ (x : Roomy). refusable_steps x.graph (contraction_of c.args.loops c.args.u c.args.v))
    c.graph.ensures in
    ap arcs_in e ∙ moves_no_arcs moves d
    (contraction_moves c.args.loops c.args.u c.args.v d c.requires.in_step.valid c.requires.into)

pub returns-in-Ok : goal.returns-in-Ok
returns-in-Ok g c =
    let s : State = state_of g.O.Observer.watch c.args.self.now in
    let t : State = state_of g.O.Observer.watch c.run_moves.new.self in
    let e = ap plain_steps c.as_slice.ensures.value ∙ c.in-Ok.ensures
    ∙ ap (λ (x : Roomy). refusable_steps x.graph (contraction_of c.args.loops c.args.u c.args.v))
    c.graph.ensures in
    record {
      happens = on_ok c.run_moves.result (subst (λ l. Alters l l s t) e)
          c.run_moves.ensures.happens;
      stays = if_err c.run_moves.result (λ f. subst (λ l. Stays l s t f) e)
          c.run_moves.ensures.stays;
    }
