use Rattle.std.proofs.Common.{◌≡◌, ℕ, true, false, List, [], ◌∷◌, ◌++◌, length, refl, sym}
use Rattle.std.proofs.Common.{ap, subst, ◌∙◌, arith}
use Rattle.std.proofs.lemmas.Grind.{common_steps}
use Rattle.base_items.specs.declared.items.Fact.{Fact}
use Rattle.base_items.specs.declared.items.ItemSort.TheVariants as sorts
use Rattle.list_digraph.specs.Roomy.{Roomy}
use Rattle.plain_digraph.specs.Lists.{AllOf}
use Rattle.plain_digraph.specs.Digraph.{Digraph}
use Rattle.plain_digraph.specs.Items.{IsLive, out_arcs, node_fact}
use Rattle.plain_digraph.specs.Steps.{add_node, new_node, new_arc}
use Rattle.plain_digraph.specs.PlainSteps.{PlainStep, AddNode, AddArc, after_steps}
use Rattle.plain_digraph.specs.Alterations.{refusable_steps, node_split, sources_to}
use Rattle.plain_digraph.specs.Valid.{IsValid}
use Rattle.plain_digraph.proofs.StepLiving.{live_items_stay, added_items_are_live}
use Rattle.observe_core.proofs.ItemLemmas.{all_more}
use Rattle.alter_graph.specs.declared.faults.AlterFault.TheVariants.{Memory}
use Rattle.alter_graph.specs.declared.steps.Done.{Done}
use Rattle.alter_graph.specs.State.{State, state_of}
use Rattle.alter_graph.specs.Steps.{plain_steps, CanTakeAll, CanUndo, HaveOwnPlaces}
use Rattle.alter_graph.specs.Room.{HasRoomFor}
use Rattle.alter_graph.specs.Parts.{Takes, Fails}
use Rattle.alter_graph.specs.Outcome.{Happens, Refuses}
use Rattle.alter_graph.proofs.Sameness.{same_refl}
use Rattle.alter_graph.proofs.Parting.{takes_none, takes_both, fails_later, fails_first}
use Rattle.alter_graph.proofs.Parting.{fails_for_memory, graph_on, stays}
use Rattle.alter_graph.proofs.Moves.{outs_live, sources_move, moves_can, moves_own, live_after}
use Rattle.alter_graph.proofs.Moves.{IsMoveAt, moves_refusable}
use Rattle.alter_graph.proofs.Splitting.{emptied, linked, emptied_refusable, split_room}
use Rattle.alter_graph.proofs.Splitting.{split_passes, arc_id_stays}
use Rattle.alter_graph.proofs.graph.Alterable.split_node.Goals as goal

-- the moves, as the alteration has them
moves_are : (n : ℕ) (d : Digraph) (f : Fact) (arcs : List ℕ) (l : List PlainStep)
    → l ≡ sources_to f.id arcs → arcs ≡ out_arcs d n → f ≡ node_fact (new_node d) d.stamps
    → l ≡ sources_to (new_node d) (out_arcs d n)
moves_are n d f arcs l e a p = e ∙ (λ i. sources_to (p i).id (a i))

-- what was gathered before can be moved once the node is added
gathered_move : (n : ℕ) (d : Digraph) (f : Fact) → IsValid d
    → f ≡ node_fact (new_node d) d.stamps
    → AllOf (IsMoveAt (add_node d))
    (sources_to (new_node d) (out_arcs d n))
gathered_move n d f valid p = sources_move (add_node d) (new_node d) (out_arcs d n)
    (added_items_are_live d 0 0).0
    (all_more (λ arc live. live_items_stay d AddNode sorts.Arc arc refl live) (out_arcs d n)
    (outs_live d n valid))

-- the parts
module _ (n : ℕ) (s t : State) (i : List Done) (one : Takes (AddNode ∷ []) s t [] i) where
  two : (u : State) (j : List Done)
      → Takes (sources_to (new_node s.graph) (out_arcs s.graph n)) t u i j
      → Takes (emptied n s.graph) s u [] j
  two u j more = takes_both (AddNode ∷ []) (sources_to (new_node s.graph) (out_arcs s.graph n))
      s t u [] i j (refl, tt) one more

pub arcs_from-requires-clause-valid : goal.arcs_from-requires-clause-valid
arcs_from-requires-clause-valid g c =
    subst (λ (x : Roomy). IsValid x.graph) (sym c.graph.ensures) c.requires.in_step.valid

pub arcs_from-requires-clause-live : goal.arcs_from-requires-clause-live
arcs_from-requires-clause-live g c =
    subst (λ (x : Roomy). IsLive x.graph sorts.Node c.args.n.0) (sym c.graph.ensures)
    c.requires.node

pub returns-in-Err-clause-refuses : goal.returns-in-Err-clause-refuses
returns-in-Err-clause-refuses g c = record {
  same = same_refl (state_of g.O.Observer.watch c.args.self.now);
  refused = tt;
  in_step = c.requires.in_step;
}

pub returns-in-Some-clause-refuses : goal.returns-in-Some-clause-refuses
returns-in-Some-clause-refuses g c =
    let s : State = state_of g.O.Observer.watch c.args.self.now in
    let n = c.args.n.0 in
    let l : c.len.result ≡ length c.in-Ok.arcs.items =
    grind (arith, c.len.ensures, c.in-Ok.arcs.ok.0) in
    let a = c.in-Ok.ensures ∙ ap (λ (x : Roomy). out_arcs x.graph n) c.graph.ensures in
    record {
      same = same_refl s;
      refused = split_passes c.args.connect n s.graph c.in-Ok.arcs.items c.len.result
          c.links-links.result l a c.links-links.ensures c.in-Some.limit c.in-Some.ensures.full;
      in_step = c.requires.in_step;
    }

pub attempt-requires-clause-undo : goal.attempt-requires-clause-undo
attempt-requires-clause-undo g c =
    subst (λ l. CanUndo l (state_of g.O.Observer.watch c.args.self.now))
    (sym c.new-journal.ensures.items) tt

pub returns-in-Err-attempt-clause-refuses : goal.returns-in-Err-attempt-clause-refuses
returns-in-Err-attempt-clause-refuses g c =
    let s : State = state_of g.O.Observer.watch c.args.self.now in
    let t : State = state_of g.O.Observer.watch c.attempt.new.self in
    let n = c.args.n.0 in
    let x = c.in-Err-attempt.fault in
    let l : c.len.result ≡ length c.in-Ok.arcs.items =
    grind (arith, c.len.ensures, c.in-Ok.arcs.ok.0) in
    let a = c.in-Ok.ensures ∙ ap (λ (x : Roomy). out_arcs x.graph n) c.graph.ensures in
    let room = split_room c.args.connect n s.graph c.in-Ok.arcs.items c.len.result
    c.links-links.result l a c.links-links.ensures c.in_default.ensures.room in
    let f : Fails (AddNode ∷ []) s t [] x =
    subst (λ l. Fails (AddNode ∷ []) s t l x) c.new-journal.ensures.items
    c.in-Err-attempt.ensures.fails in
    stays (refusable_steps s.graph (node_split s.graph n c.args.connect)) s t x
    c.requires.in_step room
    (fails_first (AddNode ∷ [])
    (sources_to (new_node s.graph) (out_arcs s.graph n) ++ linked c.args.connect n s.graph)
    s t [] x f)

pub unwind-requires : goal.unwind-requires
unwind-requires g c = c.in-Ok-attempt.ensures.takes.undo

pub returns-in-Err-push_sources-clause-refuses : goal.returns-in-Err-push_sources-clause-refuses
returns-in-Err-push_sources-clause-refuses g c =
    let s : State = state_of g.O.Observer.watch c.args.self.now in
    let t : State = state_of g.O.Observer.watch c.attempt.new.self in
    let u : State = state_of g.O.Observer.watch c.unwind.new.self in
    let n = c.args.n.0 in
    let l : c.len.result ≡ length c.in-Ok.arcs.items =
    grind (arith, c.len.ensures, c.in-Ok.arcs.ok.0) in
    let a = c.in-Ok.ensures ∙ ap (λ (x : Roomy). out_arcs x.graph n) c.graph.ensures in
    let room = split_room c.args.connect n s.graph c.in-Ok.arcs.items c.len.result
    c.links-links.result l a c.links-links.ensures c.in_default.ensures.room in
    let i = c.attempt.new.journal.items in
    let one : Takes (AddNode ∷ []) s t [] i =
    subst (λ l. Takes (AddNode ∷ []) s t l i) c.new-journal.ensures.items
    c.in-Ok-attempt.ensures.takes in
    stays (refusable_steps s.graph (node_split s.graph n c.args.connect)) s u Memory
    c.requires.in_step room
    (fails_for_memory (AddNode ∷ [])
    (sources_to (new_node s.graph) (out_arcs s.graph n) ++ linked c.args.connect n s.graph)
    s t u [] i one c.unwind.ensures)

pub run-requires-clause-step : goal.run-requires-clause-step
run-requires-clause-step g c = c.in-Ok-attempt.ensures.takes.goes.in_step

pub run-requires-clause-undo : goal.run-requires-clause-undo
run-requires-clause-undo g c = c.in-Ok-attempt.ensures.takes.undo

pub run-requires-clause-can : goal.run-requires-clause-can
run-requires-clause-can g c =
    let s : State = state_of g.O.Observer.watch c.args.self.now in
    let t : State = state_of g.O.Observer.watch c.attempt.new.self in
    let n = c.args.n.0 in
    let e : plain_steps c.as_slice-2.result.now
    ≡ sources_to c.in-Ok-attempt.fact.id c.as_slice.result.now =
    ap plain_steps c.as_slice-2.ensures.value ∙ c.in_default-push_sources.ensures
    ∙ ap (λ l. plain_steps l ++ sources_to c.in-Ok-attempt.fact.id c.as_slice.result.now)
    c.new-moves.ensures.items in
    let k = moves_are n s.graph c.in-Ok-attempt.fact c.as_slice.result.now
    (plain_steps c.as_slice-2.result.now) e (c.as_slice.ensures.value ∙ c.in-Ok.ensures
    ∙ ap (λ (x : Roomy). out_arcs x.graph n) c.graph.ensures) c.in-Ok-attempt.ensures.fact in
    subst (λ l. CanTakeAll l t.graph) (sym k)
    (subst (λ x. CanTakeAll (sources_to (new_node s.graph) (out_arcs s.graph n)) x)
    (sym c.in-Ok-attempt.ensures.takes.goes.took.graph)
    (moves_can (sources_to (new_node s.graph) (out_arcs s.graph n)) (add_node s.graph)
    (gathered_move n s.graph c.in-Ok-attempt.fact c.requires.in_step.valid
    c.in-Ok-attempt.ensures.fact)))

pub run-requires-clause-own : goal.run-requires-clause-own
run-requires-clause-own g c =
    let s : State = state_of g.O.Observer.watch c.args.self.now in
    let t : State = state_of g.O.Observer.watch c.attempt.new.self in
    let n = c.args.n.0 in
    let e : plain_steps c.as_slice-2.result.now
    ≡ sources_to c.in-Ok-attempt.fact.id c.as_slice.result.now =
    ap plain_steps c.as_slice-2.ensures.value ∙ c.in_default-push_sources.ensures
    ∙ ap (λ l. plain_steps l ++ sources_to c.in-Ok-attempt.fact.id c.as_slice.result.now)
    c.new-moves.ensures.items in
    let k = moves_are n s.graph c.in-Ok-attempt.fact c.as_slice.result.now
    (plain_steps c.as_slice-2.result.now) e (c.as_slice.ensures.value ∙ c.in-Ok.ensures
    ∙ ap (λ (x : Roomy). out_arcs x.graph n) c.graph.ensures) c.in-Ok-attempt.ensures.fact in
    subst (λ l. HaveOwnPlaces l t) (sym k)
    (moves_own (sources_to (new_node s.graph) (out_arcs s.graph n)) (add_node s.graph) t
    (gathered_move n s.graph c.in-Ok-attempt.fact c.requires.in_step.valid
    c.in-Ok-attempt.ensures.fact))

pub returns-in-Err-run-clause-refuses : goal.returns-in-Err-run-clause-refuses
returns-in-Err-run-clause-refuses g c =
    let s : State = state_of g.O.Observer.watch c.args.self.now in
    let t : State = state_of g.O.Observer.watch c.attempt.new.self in
    let u : State = state_of g.O.Observer.watch c.run.new.self in
    let j = c.run.new.journal.items in
    let n = c.args.n.0 in
    let e : plain_steps c.as_slice-2.result.now
    ≡ sources_to c.in-Ok-attempt.fact.id c.as_slice.result.now =
    ap plain_steps c.as_slice-2.ensures.value ∙ c.in_default-push_sources.ensures
    ∙ ap (λ l. plain_steps l ++ sources_to c.in-Ok-attempt.fact.id c.as_slice.result.now)
    c.new-moves.ensures.items in
    let k = moves_are n s.graph c.in-Ok-attempt.fact c.as_slice.result.now
    (plain_steps c.as_slice-2.result.now) e (c.as_slice.ensures.value ∙ c.in-Ok.ensures
    ∙ ap (λ (x : Roomy). out_arcs x.graph n) c.graph.ensures) c.in-Ok-attempt.ensures.fact in
    let l : c.len.result ≡ length c.in-Ok.arcs.items =
    grind (arith, c.len.ensures, c.in-Ok.arcs.ok.0) in
    let a = c.in-Ok.ensures ∙ ap (λ (x : Roomy). out_arcs x.graph n) c.graph.ensures in
    let room = split_room c.args.connect n s.graph c.in-Ok.arcs.items c.len.result
    c.links-links.result l a c.links-links.ensures c.in_default.ensures.room in
    let i = c.attempt.new.journal.items in
    let one : Takes (AddNode ∷ []) s t [] i =
    subst (λ l. Takes (AddNode ∷ []) s t l i) c.new-journal.ensures.items
    c.in-Ok-attempt.ensures.takes in
    let x = c.in-Err-run.fault in
    let f : Fails (emptied n s.graph) s u [] x =
    fails_later (AddNode ∷ []) (sources_to (new_node s.graph) (out_arcs s.graph n)) s t u [] i x
    (refl, tt) one (subst (λ l. Fails l t u i x) k c.in-Err-run.ensures.fails) in
    stays (refusable_steps s.graph (node_split s.graph n c.args.connect)) s u x
    c.requires.in_step room
    (fails_first (emptied n s.graph) (linked c.args.connect n s.graph) s u [] x f)

pub returns-then-not-connect-clause-happens : goal.returns-then-not-connect-clause-happens
returns-then-not-connect-clause-happens g c =
    let s : State = state_of g.O.Observer.watch c.args.self.now in
    let t : State = state_of g.O.Observer.watch c.attempt.new.self in
    let u : State = state_of g.O.Observer.watch c.run.new.self in
    let j = c.run.new.journal.items in
    let n = c.args.n.0 in
    let e : plain_steps c.as_slice-2.result.now
    ≡ sources_to c.in-Ok-attempt.fact.id c.as_slice.result.now =
    ap plain_steps c.as_slice-2.ensures.value ∙ c.in_default-push_sources.ensures
    ∙ ap (λ l. plain_steps l ++ sources_to c.in-Ok-attempt.fact.id c.as_slice.result.now)
    c.new-moves.ensures.items in
    let k = moves_are n s.graph c.in-Ok-attempt.fact c.as_slice.result.now
    (plain_steps c.as_slice-2.result.now) e (c.as_slice.ensures.value ∙ c.in-Ok.ensures
    ∙ ap (λ (x : Roomy). out_arcs x.graph n) c.graph.ensures) c.in-Ok-attempt.ensures.fact in
    let i = c.attempt.new.journal.items in
    let one : Takes (AddNode ∷ []) s t [] i =
    subst (λ l. Takes (AddNode ∷ []) s t l i) c.new-journal.ensures.items
    c.in-Ok-attempt.ensures.takes in
    let both = two n s t i one u j
    (subst (λ l. Takes l t u i j) k c.in_default-run.ensures.takes) in
    let all : Takes (emptied n s.graph ++ []) s u [] j =
    takes_both (emptied n s.graph) [] s u u [] j j (emptied_refusable n s.graph) both
    (takes_none u j both.goes.in_step both.undo) in
    let unlinked : c.args.connect ≡ false = grind (arith, common_steps, c.if-not-connect.true) in
    subst (λ b. Happens (node_split s.graph n b) s u) (sym unlinked)
    (record { goes = all.goes; passes = all.passes })

pub attempt-requires-2-clause-step : goal.attempt-requires-2-clause-step
attempt-requires-2-clause-step g c = c.in_default-run.ensures.takes.goes.in_step

pub attempt-requires-2-clause-undo : goal.attempt-requires-2-clause-undo
attempt-requires-2-clause-undo g c = c.in_default-run.ensures.takes.undo

pub attempt-requires-2-clause-can : goal.attempt-requires-2-clause-can
attempt-requires-2-clause-can g c =
    let s : State = state_of g.O.Observer.watch c.args.self.now in
    let t : State = state_of g.O.Observer.watch c.attempt.new.self in
    let u : State = state_of g.O.Observer.watch c.run.new.self in
    let j = c.run.new.journal.items in
    let n = c.args.n.0 in
    let e : plain_steps c.as_slice-2.result.now
    ≡ sources_to c.in-Ok-attempt.fact.id c.as_slice.result.now =
    ap plain_steps c.as_slice-2.ensures.value ∙ c.in_default-push_sources.ensures
    ∙ ap (λ l. plain_steps l ++ sources_to c.in-Ok-attempt.fact.id c.as_slice.result.now)
    c.new-moves.ensures.items in
    let k = moves_are n s.graph c.in-Ok-attempt.fact c.as_slice.result.now
    (plain_steps c.as_slice-2.result.now) e (c.as_slice.ensures.value ∙ c.in-Ok.ensures
    ∙ ap (λ (x : Roomy). out_arcs x.graph n) c.graph.ensures) c.in-Ok-attempt.ensures.fact in
    let w = c.in-Ok-attempt.fact.id in
    let m = c.in-Ok-attempt.ensures.takes.goes.took.graph in
    let moves : List PlainStep = sources_to (new_node s.graph) (out_arcs s.graph n) in
    let r = moves_refusable moves (add_node s.graph) (gathered_move n s.graph c.in-Ok-attempt.fact
    c.requires.in_step.valid c.in-Ok-attempt.ensures.fact) in
    let e2 : u.graph ≡ after_steps (add_node s.graph) moves =
    graph_on moves t u (subst (λ l. Takes l t u c.attempt.new.journal.items j) k
    c.in_default-run.ensures.takes).goes.took ∙ ap (λ x. after_steps x moves) m in
    let new : IsLive (add_node s.graph) sorts.Node w =
    subst (λ (f : Fact). IsLive (add_node s.graph) sorts.Node f.id)
    (sym c.in-Ok-attempt.ensures.fact) (added_items_are_live s.graph 0 0).0 in
    let old : IsLive (add_node s.graph) sorts.Node n =
    live_items_stay s.graph AddNode sorts.Node n refl c.requires.node in (
      subst (λ x. IsLive x sorts.Node n) (sym e2)
          (live_after moves (add_node s.graph) sorts.Node n r old),
      subst (λ x. IsLive x sorts.Node w) (sym e2)
          (live_after moves (add_node s.graph) sorts.Node w r new),
    )

pub returns-in-Ok-attempt-2-clause-happens : goal.returns-in-Ok-attempt-2-clause-happens
returns-in-Ok-attempt-2-clause-happens g c =
    let s : State = state_of g.O.Observer.watch c.args.self.now in
    let t : State = state_of g.O.Observer.watch c.attempt.new.self in
    let u : State = state_of g.O.Observer.watch c.run.new.self in
    let j = c.run.new.journal.items in
    let v : State = state_of g.O.Observer.watch c.attempt-2.new.self in
    let q = c.attempt-2.new.journal.items in
    let n = c.args.n.0 in
    let e : plain_steps c.as_slice-2.result.now
    ≡ sources_to c.in-Ok-attempt.fact.id c.as_slice.result.now =
    ap plain_steps c.as_slice-2.ensures.value ∙ c.in_default-push_sources.ensures
    ∙ ap (λ l. plain_steps l ++ sources_to c.in-Ok-attempt.fact.id c.as_slice.result.now)
    c.new-moves.ensures.items in
    let k = moves_are n s.graph c.in-Ok-attempt.fact c.as_slice.result.now
    (plain_steps c.as_slice-2.result.now) e (c.as_slice.ensures.value ∙ c.in-Ok.ensures
    ∙ ap (λ (x : Roomy). out_arcs x.graph n) c.graph.ensures) c.in-Ok-attempt.ensures.fact in
    let i = c.attempt.new.journal.items in
    let one : Takes (AddNode ∷ []) s t [] i =
    subst (λ l. Takes (AddNode ∷ []) s t l i) c.new-journal.ensures.items
    c.in-Ok-attempt.ensures.takes in
    let both = two n s t i one u j
    (subst (λ l. Takes l t u i j) k c.in_default-run.ensures.takes) in
    let link : List PlainStep = AddArc n (new_node s.graph) ∷ [] in
    let last : Takes link u v j q = subst (λ (f : Fact). Takes (AddArc n f.id ∷ []) u v j q)
    c.in-Ok-attempt.ensures.fact c.in-Ok-attempt-2.ensures.takes in
    let all : Takes (emptied n s.graph ++ link) s v [] q =
    takes_both (emptied n s.graph) link s u v [] j q (emptied_refusable n s.graph) both last in
    let yes : c.args.connect ≡ true = grind (arith, common_steps, c.if-not-connect.false) in
    subst (λ b. Happens (node_split s.graph n b) s v) (sym yes)
    (record { goes = all.goes; passes = all.passes })

pub returns-in-Ok-attempt-2-clause-new_arc : goal.returns-in-Ok-attempt-2-clause-new_arc
returns-in-Ok-attempt-2-clause-new_arc g c =
    let s : State = state_of g.O.Observer.watch c.args.self.now in
    let t : State = state_of g.O.Observer.watch c.attempt.new.self in
    let u : State = state_of g.O.Observer.watch c.run.new.self in
    let j = c.run.new.journal.items in
    let n = c.args.n.0 in
    let e : plain_steps c.as_slice-2.result.now
    ≡ sources_to c.in-Ok-attempt.fact.id c.as_slice.result.now =
    ap plain_steps c.as_slice-2.ensures.value ∙ c.in_default-push_sources.ensures
    ∙ ap (λ l. plain_steps l ++ sources_to c.in-Ok-attempt.fact.id c.as_slice.result.now)
    c.new-moves.ensures.items in
    let k = moves_are n s.graph c.in-Ok-attempt.fact c.as_slice.result.now
    (plain_steps c.as_slice-2.result.now) e (c.as_slice.ensures.value ∙ c.in-Ok.ensures
    ∙ ap (λ (x : Roomy). out_arcs x.graph n) c.graph.ensures) c.in-Ok-attempt.ensures.fact in
    let moves : List PlainStep = sources_to (new_node s.graph) (out_arcs s.graph n) in
    let m : u.graph ≡ after_steps t.graph moves =
    graph_on moves t u (subst (λ l. Takes l t u c.attempt.new.journal.items j) k
    c.in_default-run.ensures.takes).goes.took in
    ap (λ (f : Fact). f.id) c.in-Ok-attempt-2.ensures.fact ∙ ap new_arc m
    ∙ arc_id_stays (out_arcs s.graph n) (new_node s.graph) t.graph
    ∙ ap new_arc c.in-Ok-attempt.ensures.takes.goes.took.graph

pub returns-clause-refuses : goal.returns-clause-refuses
returns-clause-refuses g c =
    let s : State = state_of g.O.Observer.watch c.args.self.now in
    let t : State = state_of g.O.Observer.watch c.attempt.new.self in
    let u : State = state_of g.O.Observer.watch c.run.new.self in
    let j = c.run.new.journal.items in
    let v : State = state_of g.O.Observer.watch c.attempt-2.new.self in
    let q = c.attempt-2.new.journal.items in
    let n = c.args.n.0 in
    let e : plain_steps c.as_slice-2.result.now
    ≡ sources_to c.in-Ok-attempt.fact.id c.as_slice.result.now =
    ap plain_steps c.as_slice-2.ensures.value ∙ c.in_default-push_sources.ensures
    ∙ ap (λ l. plain_steps l ++ sources_to c.in-Ok-attempt.fact.id c.as_slice.result.now)
    c.new-moves.ensures.items in
    let k = moves_are n s.graph c.in-Ok-attempt.fact c.as_slice.result.now
    (plain_steps c.as_slice-2.result.now) e (c.as_slice.ensures.value ∙ c.in-Ok.ensures
    ∙ ap (λ (x : Roomy). out_arcs x.graph n) c.graph.ensures) c.in-Ok-attempt.ensures.fact in
    let l : c.len.result ≡ length c.in-Ok.arcs.items =
    grind (arith, c.len.ensures, c.in-Ok.arcs.ok.0) in
    let a = c.in-Ok.ensures ∙ ap (λ (x : Roomy). out_arcs x.graph n) c.graph.ensures in
    let room = split_room c.args.connect n s.graph c.in-Ok.arcs.items c.len.result
    c.links-links.result l a c.links-links.ensures c.in_default.ensures.room in
    let i = c.attempt.new.journal.items in
    let one : Takes (AddNode ∷ []) s t [] i =
    subst (λ l. Takes (AddNode ∷ []) s t l i) c.new-journal.ensures.items
    c.in-Ok-attempt.ensures.takes in
    let both = two n s t i one u j
    (subst (λ l. Takes l t u i j) k c.in_default-run.ensures.takes) in
    let x = c.in-Err-attempt-2.fault in
    let link : List PlainStep = AddArc n (new_node s.graph) ∷ [] in
    let last : Fails link u v j x = subst (λ (f : Fact). Fails (AddArc n f.id ∷ []) u v j x)
    c.in-Ok-attempt.ensures.fact c.in-Err-attempt-2.ensures.fails in
    let yes : c.args.connect ≡ true = grind (arith, common_steps, c.if-not-connect.false) in
    subst (λ b. Refuses (node_split s.graph n b) s v x) (sym yes)
    (stays (refusable_steps s.graph (node_split s.graph n true)) s v x c.requires.in_step
    (subst (λ b. HasRoomFor (refusable_steps s.graph (node_split s.graph n b)) s.graph) yes room)
    (fails_later (emptied n s.graph) link s u v [] j x (emptied_refusable n s.graph) both last))
