use Rattle.std.proofs.Common.{◌≡◌, Some, subst, arith}
use Rattle.std.proofs.lemmas.Grind.{common_steps}
use Rattle.base_items.specs.declared.items.ItemSort.TheVariants as sorts
use Rattle.plain_digraph.specs.Items.{fact_of}
use Rattle.alter_graph.specs.declared.steps.Done.TheVariants.{Moved}
use Rattle.alter_graph.proofs.Opening.{returnable}
use Rattle.alter_graph.proofs.Moved.{source_told, target_told, turn_told}
use Rattle.alter_graph.proofs.steps.take_step.Goals as goal

pub place-old-requires : goal.place-old-requires
place-old-requires c =
    let g = c.args.graph.now.graph in
    let can = rw c.in-Place.is at c.requires.can in
    let e = c.stamps_left-in-Place.ensures in
    let n = c.if-stamps_left-eq0-4.false in
    returnable c.in-Place.fact g c.requires.valid can (grind (arith, common_steps, e, n))

pub returns-else-stamps_left-eq0-clause-done : goal.returns-else-stamps_left-eq0-clause-done
returns-else-stamps_left-eq0-clause-done c =
    let g = c.args.graph.now.graph in
    let can = rw c.in-MoveFrom.is at c.requires.can in
    let told = subst (λ h. fact_of h sorts.Arc c.in-MoveFrom.a.0 ≡ Some c.move_from-now.result)
    c.move_from-now.ensures.moved c.move_from-now.ensures.fact in
    let now = source_told g c.in-MoveFrom.a.0 c.requires.valid can.0 c.move_from-now.result
    c.in-MoveFrom.u.0 told in
    let old = c.told_of-old.ensures in
    rw c.in-MoveFrom.is (λ i. Moved (old i) (now i))

pub returns-else-stamps_left-eq0-2-clause-done : goal.returns-else-stamps_left-eq0-2-clause-done
returns-else-stamps_left-eq0-2-clause-done c =
    let g = c.args.graph.now.graph in
    let can = rw c.in-MoveTo.is at c.requires.can in
    let told = subst (λ h. fact_of h sorts.Arc c.in-MoveTo.a.0 ≡ Some c.move_to-now.result)
    c.move_to-now.ensures.moved c.move_to-now.ensures.fact in
    let now = target_told g c.in-MoveTo.a.0 c.requires.valid can.0 c.move_to-now.result
    c.in-MoveTo.v.0 told in
    let old = c.told_of-old-in-MoveTo.ensures in
    rw c.in-MoveTo.is (λ i. Moved (old i) (now i))

pub returns-else-stamps_left-eq0-3-clause-done : goal.returns-else-stamps_left-eq0-3-clause-done
returns-else-stamps_left-eq0-3-clause-done c =
    let g = c.args.graph.now.graph in
    let can = rw c.in-Turn.is at c.requires.can in
    let told = subst (λ h. fact_of h sorts.Arc c.in-Turn.a.0 ≡ Some c.turn-now.result)
    c.turn-now.ensures.turned c.turn-now.ensures.fact in
    let now = turn_told g c.in-Turn.a.0 c.requires.valid can c.turn-now.result told in
    let old = c.told_of-old-in-Turn.ensures in
    rw c.in-Turn.is (λ i. Moved (old i) (now i))
