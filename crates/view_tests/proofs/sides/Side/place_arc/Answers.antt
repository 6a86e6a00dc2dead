use Rattle.std.proofs.Common.{◌∙◌, true, false, sym, subst}
use Rattle.observe_core.specs.Held.{KeptArcs}
use Rattle.alter_graph.specs.Lending.{Rewrites}
use Rattle.kept_views.specs.ItemViews.{marks}
use Rattle.kept_views.specs.Views.{arcs_of, arcs_seen}
use Rattle.view_tests.specs.Sides.{watched}
use Rattle.view_tests.proofs.Placed.{placed_rewrites, held_if}
use Rattle.view_tests.proofs.sides.Side.place_arc.Goals as goal

pub set-requires-clause-live : goal.set-requires-clause-live
set-requires-clause-live c =
    held_if (arcs_of c.in-Arcs.arcs) c.args.id c.fact.result c.fact.ensures.there
    (sym c.is_some.ensures ∙ c.if-is_some.true)

pub set-requires-then-not-all-clause-live : goal.set-requires-then-not-all-clause-live
set-requires-then-not-all-clause-live c =
    held_if (arcs_of c.in-Arcs.arcs) c.args.id c.fact.result c.fact.ensures.there
    (sym c.is_some.ensures ∙ c.if-is_some.true)

pub returns-then-shown : goal.returns-then-shown
returns-then-shown c live =
    let k = c.in-Arcs.arcs in
    subst (λ s. Rewrites live (watched s).seen (arcs_seen c.set.new.self)) (sym c.in-Arcs.is)
    (subst (Rewrites live (arcs_seen k)) (sym c.set.ensures)
    (placed_rewrites live (KeptArcs k.shape) k.items.all c.args.id
    (marks true c.args.forward c.args.backward) (arcs_of k)))

pub returns-then-not-all : goal.returns-then-not-all
returns-then-not-all c live =
    let k = c.in-Arcs.arcs in
    let set = c.set-then-not-all in
    subst (λ s. Rewrites live (watched s).seen (arcs_seen set.new.self)) (sym c.in-Arcs.is)
    (subst (Rewrites live (arcs_seen k)) (sym set.ensures)
    (placed_rewrites live (KeptArcs k.shape) k.items.all c.args.id
    (marks false c.args.forward c.args.backward) (arcs_of k)))
