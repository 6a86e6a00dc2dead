use Rattle.std.proofs.Common.{◌≡◌, [], ◌∷◌, refl, sym, ap, subst, ◌∙◌}
use Rattle.base_items.specs.declared.items.Fact.{Fact}
use Rattle.base_items.specs.declared.items.ItemSort.TheVariants as sorts
use Rattle.list_digraph.specs.Roomy.{Roomy}
use Rattle.plain_digraph.specs.Items.{IsLive, target_of}
use Rattle.plain_digraph.specs.Steps.{add_node, new_arc}
use Rattle.plain_digraph.specs.PlainSteps.{AddNode, AddArc, MoveTo}
use Rattle.plain_digraph.specs.Alterations.{refusable_steps, arc_split}
use Rattle.plain_digraph.proofs.Changes.{live_ends}
use Rattle.plain_digraph.proofs.StepLiving.{live_items_stay, added_items_are_live}
use Rattle.alter_graph.specs.Present.{fact_at}
use Rattle.alter_graph.specs.State.{State, state_of}
use Rattle.alter_graph.specs.Parts.{Takes, Fails}
use Rattle.alter_graph.proofs.Sameness.{same_refl}
use Rattle.alter_graph.proofs.Gathered.{target_is}
use Rattle.alter_graph.proofs.Parting.{takes_both, fails_later, fails_first, stays}
use Rattle.alter_graph.proofs.Splitting.{arc_steps_are}
use Rattle.alter_graph.proofs.graph.Alterable.split_arc.Goals as goal

pub returns-in-Some-clause-refuses : goal.returns-in-Some-clause-refuses
returns-in-Some-clause-refuses g c = record {
  same = same_refl (state_of g.O.Observer.watch c.args.self.now);
  refused = c.in-Some.ensures.full;
  in_step = c.requires.in_step;
}

pub returns-in-Err-clause-refuses : goal.returns-in-Err-clause-refuses
returns-in-Err-clause-refuses g c =
    let s : State = state_of g.O.Observer.watch c.args.self.now in
    let t : State = state_of g.O.Observer.watch c.attempt.new.self in
    let f : Fails (AddNode ∷ []) s t [] c.in-Err.fault =
    subst (λ l. Fails (AddNode ∷ []) s t l c.in-Err.fault) c.new-journal.ensures.items
    c.in-Err.ensures.fails in
    stays (refusable_steps s.graph (arc_split s.graph c.args.a.0)) s t c.in-Err.fault
    c.requires.in_step c.in_default.ensures.room
    (fails_first (AddNode ∷ []) _ s t [] c.in-Err.fault f)

pub returns-in-Err-attempt-clause-refuses : goal.returns-in-Err-attempt-clause-refuses
returns-in-Err-attempt-clause-refuses g c =
    let s : State = state_of g.O.Observer.watch c.args.self.now in
    let t : State = state_of g.O.Observer.watch c.attempt.new.self in
    let u : State = state_of g.O.Observer.watch c.attempt-2.new.self in
    let a = c.args.a.0 in
    let w = c.in-Ok.fact.id in
    let end = c.told_of.result.to in
    let x = c.in-Err-attempt.fault in
    let q : end ≡ target_of s.graph a = ap (λ (f : Fact). f.to) (c.told_of.ensures
    ∙ ap (λ (r : Roomy). fact_at r.graph sorts.Arc a) c.graph.ensures)
    ∙ target_is s.graph a c.requires.in_step.valid c.requires.arc in
    let one : Takes (AddNode ∷ []) s t [] c.attempt.new.journal.items =
    subst (λ l. Takes (AddNode ∷ []) s t l c.attempt.new.journal.items)
    c.new-journal.ensures.items c.in-Ok.ensures.takes in
    let f : Fails (AddNode ∷ MoveTo a w ∷ AddArc w end ∷ []) s u [] x =
    fails_first (AddNode ∷ MoveTo a w ∷ []) (AddArc w end ∷ []) s u [] x
    (fails_later (AddNode ∷ []) (MoveTo a w ∷ []) s t u [] c.attempt.new.journal.items x
    (refl, tt) one c.in-Err-attempt.ensures.fails) in
    stays (refusable_steps s.graph (arc_split s.graph a)) s u x c.requires.in_step
    c.in_default.ensures.room
    (subst (λ l. Fails l s u [] x) (arc_steps_are s.graph a end c.in-Ok.fact c.in-Ok.ensures.fact q)
    f)

pub attempt-requires-2-clause-can : goal.attempt-requires-2-clause-can
attempt-requires-2-clause-can g c =
    let s : State = state_of g.O.Observer.watch c.args.self.now in
    let e = sym c.in-Ok.ensures.takes.goes.took.graph in (
      subst (λ x. IsLive x sorts.Arc c.args.a.0) e
          (live_items_stay s.graph AddNode sorts.Arc c.args.a.0 refl c.requires.arc),
      subst (λ x. IsLive x sorts.Node c.in-Ok.fact.id) e
          (subst (λ (f : Fact). IsLive (add_node s.graph) sorts.Node f.id)
          (sym c.in-Ok.ensures.fact) (added_items_are_live s.graph 0 0).0),
    )

pub attempt-requires-3-clause-can : goal.attempt-requires-3-clause-can
attempt-requires-3-clause-can g c =
    let s : State = state_of g.O.Observer.watch c.args.self.now in
    let t : State = state_of g.O.Observer.watch c.attempt.new.self in
    let a = c.args.a.0 in
    let w = c.in-Ok.fact.id in
    let end = c.told_of.result.to in
    let q : end ≡ target_of s.graph a = ap (λ (f : Fact). f.to) (c.told_of.ensures
    ∙ ap (λ (r : Roomy). fact_at r.graph sorts.Arc a) c.graph.ensures)
    ∙ target_is s.graph a c.requires.in_step.valid c.requires.arc in
    let d = sym c.in-Ok.ensures.takes.goes.took.graph in
    let e = sym c.in_default-attempt.ensures.takes.goes.took.graph in
    let new : IsLive t.graph sorts.Node w = subst (λ x. IsLive x sorts.Node w) d
    (subst (λ (f : Fact). IsLive (add_node s.graph) sorts.Node f.id) (sym c.in-Ok.ensures.fact)
    (added_items_are_live s.graph 0 0).0) in
    let old : IsLive s.graph sorts.Node end = subst (IsLive s.graph sorts.Node) (sym q)
    (live_ends s.graph a c.requires.in_step.valid c.requires.arc).1 in
    let there : IsLive t.graph sorts.Node end = subst (λ x. IsLive x sorts.Node end) d
    (live_items_stay s.graph AddNode sorts.Node end refl old) in (
      subst (λ x. IsLive x sorts.Node w) e
          (live_items_stay t.graph (MoveTo a w) sorts.Node w refl new),
      subst (λ x. IsLive x sorts.Node end) e
          (live_items_stay t.graph (MoveTo a w) sorts.Node end refl there),
    )

pub returns-in-Ok-attempt-clause-happens : goal.returns-in-Ok-attempt-clause-happens
returns-in-Ok-attempt-clause-happens g c =
    let s : State = state_of g.O.Observer.watch c.args.self.now in
    let t : State = state_of g.O.Observer.watch c.attempt.new.self in
    let u : State = state_of g.O.Observer.watch c.attempt-2.new.self in
    let v : State = state_of g.O.Observer.watch c.attempt-3.new.self in
    let a = c.args.a.0 in
    let w = c.in-Ok.fact.id in
    let end = c.told_of.result.to in
    let q : end ≡ target_of s.graph a = ap (λ (f : Fact). f.to) (c.told_of.ensures
    ∙ ap (λ (r : Roomy). fact_at r.graph sorts.Arc a) c.graph.ensures)
    ∙ target_is s.graph a c.requires.in_step.valid c.requires.arc in
    let i = c.attempt.new.journal.items in
    let j = c.attempt-2.new.journal.items in
    let k = c.attempt-3.new.journal.items in
    let one : Takes (AddNode ∷ []) s t [] i =
    subst (λ l. Takes (AddNode ∷ []) s t l i) c.new-journal.ensures.items c.in-Ok.ensures.takes in
    let two : Takes (AddNode ∷ MoveTo a w ∷ []) s u [] j =
    takes_both (AddNode ∷ []) (MoveTo a w ∷ []) s t u [] i j (refl, tt) one
    c.in_default-attempt.ensures.takes in
    let all : Takes (AddNode ∷ MoveTo a w ∷ AddArc w end ∷ []) s v [] k =
    takes_both (AddNode ∷ MoveTo a w ∷ []) (AddArc w end ∷ []) s u v [] j k
    (refl, (refl, tt)) two c.in-Ok-attempt.ensures.takes in
    let whole : Takes (refusable_steps s.graph (arc_split s.graph a)) s v [] k =
    subst (λ l. Takes l s v [] k)
    (arc_steps_are s.graph a end c.in-Ok.fact c.in-Ok.ensures.fact q) all in
    record { goes = whole.goes; passes = whole.passes }

pub returns-clause-refuses : goal.returns-clause-refuses
returns-clause-refuses g c =
    let s : State = state_of g.O.Observer.watch c.args.self.now in
    let t : State = state_of g.O.Observer.watch c.attempt.new.self in
    let u : State = state_of g.O.Observer.watch c.attempt-2.new.self in
    let v : State = state_of g.O.Observer.watch c.attempt-3.new.self in
    let a = c.args.a.0 in
    let w = c.in-Ok.fact.id in
    let end = c.told_of.result.to in
    let x = c.in-Err-attempt-2.fault in
    let q : end ≡ target_of s.graph a = ap (λ (f : Fact). f.to) (c.told_of.ensures
    ∙ ap (λ (r : Roomy). fact_at r.graph sorts.Arc a) c.graph.ensures)
    ∙ target_is s.graph a c.requires.in_step.valid c.requires.arc in
    let i = c.attempt.new.journal.items in
    let j = c.attempt-2.new.journal.items in
    let one : Takes (AddNode ∷ []) s t [] i =
    subst (λ l. Takes (AddNode ∷ []) s t l i) c.new-journal.ensures.items c.in-Ok.ensures.takes in
    let two : Takes (AddNode ∷ MoveTo a w ∷ []) s u [] j =
    takes_both (AddNode ∷ []) (MoveTo a w ∷ []) s t u [] i j (refl, tt) one
    c.in_default-attempt.ensures.takes in
    let f : Fails (AddNode ∷ MoveTo a w ∷ AddArc w end ∷ []) s v [] x =
    fails_later (AddNode ∷ MoveTo a w ∷ []) (AddArc w end ∷ []) s u v [] j x
    (refl, (refl, tt)) two c.in-Err-attempt-2.ensures.fails in
    stays (refusable_steps s.graph (arc_split s.graph a)) s v x c.requires.in_step
    c.in_default.ensures.room
    (subst (λ l. Fails l s v [] x) (arc_steps_are s.graph a end c.in-Ok.fact c.in-Ok.ensures.fact q)
    f)

pub returns-in-Ok-attempt-clause-new_arc : goal.returns-in-Ok-attempt-clause-new_arc
returns-in-Ok-attempt-clause-new_arc g c =
    ap (λ (f : Fact). f.id) c.in-Ok-attempt.ensures.fact
    ∙ ap new_arc c.in_default-attempt.ensures.takes.goes.took.graph
    ∙ ap new_arc c.in-Ok.ensures.takes.goes.took.graph
