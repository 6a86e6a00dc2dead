use Rattle.std.proofs.Common.{ℕ, Bool, List, [], ◌∷◌, Vec, Global, refl, sym, ap, ◌∙◌}
use Rattle.std.specs.Prelude.{◌||◌, option_map}
use Rattle.base_items.specs.declared.items.Arc.{Arc}
use Rattle.plain_digraph.specs.Lists.{after}
use Rattle.plain_digraph.specs.Items.{in_arcs, source_of}
use Rattle.plain_digraph.specs.PlainSteps.{PlainStep, MoveTo}
use Rattle.plain_digraph.specs.Alterations.{is_neither}
use Rattle.plain_digraph.proofs.Orders.{in_arcs_once, in_arc_own}
use Rattle.alter_graph.specs.declared.steps.Step.{Step}
use Rattle.alter_graph.specs.Steps.{plain_steps}
use Rattle.alter_graph.proofs.Planned.{plain-append}
use Rattle.alter_graph.proofs.Pushed.{push_start, push_on, one_more, no_more, push_end}
use Rattle.alter_graph.proofs.Walked.{fewer_ahead}
use Rattle.alter_graph.proofs.gathering.push_inward.Goals as goal
use Rattle.alter_graph.proofs.gathering.push_inward.Goals.{then-comes_over+in_ok-push}
use Rattle.alter_graph.proofs.gathering.push_inward.Goals.{else-comes_over}

pub arcs-init : goal.arcs-init
arcs-init c = push_start _ _ _ _ _ c.first_in-next.ensures

pub comes_over-requires-clause-live : goal.comes_over-requires-clause-live
comes_over-requires-clause-live c =
    let listed = c.arcs.invariant.listed c.in-Some.arc.0
    (ap (option_map (λ (a : Arc). a.0)) c.in-Some.is) in
    (in_arc_own c.args.graph.now.graph c.args.v.0 c.in-Some.arc.0 listed).0

pub next_in-next-requires : goal.next_in-next-requires
next_in-next-requires c =
    let listed = c.arcs.invariant.listed c.in-Some.arc.0
    (ap (option_map (λ (a : Arc). a.0)) c.in-Some.is) in
    (in_arc_own c.args.graph.now.graph c.args.v.0 c.in-Some.arc.0 listed).0

pub arcs-smaller : goal.arcs-smaller
arcs-smaller c =
    let graph = c.args.graph.now.graph in
    let v = c.args.v.0 in
    let listed = c.arcs.invariant.listed c.in-Some.arc.0
    (ap (option_map (λ (a : Arc). a.0)) c.in-Some.is) in
    let own = in_arc_own graph v c.in-Some.arc.0 listed in
    let goes = c.next_in-next.ensures
    ∙ ap (λ n. after (in_arcs graph n) c.in-Some.arc.0) own.1 in
    rw c.in-Some.is (fewer_ahead _ c.in-Some.arc.0 _
    (in_arcs_once graph v c.requires.valid) listed goes)

pub arcs-preserved : goal.arcs-preserved
arcs-preserved c =
    let graph = c.args.graph.now.graph in
    let u = c.args.u.0 in
    let v = c.args.v.0 in
    let arc = c.in-Some.arc.0 in
    let ids : List ℕ = in_arcs graph v in
    let make : ℕ → PlainStep = λ a. MoveTo a u in
    let test : ℕ → Bool = λ a. c.args.all || is_neither u v (source_of graph a) in
    let was = rw c.in-Some.is at c.arcs.invariant in
    let own = in_arc_own graph v arc (was.listed arc refl) in
    let goes = c.next_in-next.ensures ∙ ap (λ n. after (in_arcs graph n) arc) own.1 in
    let now = plain_steps c.arcs.steps.items in
    let start = plain_steps c.args.steps.now.items in
    let once = in_arcs_once graph v c.requires.valid in
    elim c.if-comes_over.branch [
      | then-comes_over+in_ok-push w ↦
          push_on make test ids arc _ start now _ once was goes
          (one_more make test ids arc now _ (sym c.comes_over.ensures ∙ w.if-comes_over.true)
          (ap (λ (s : Vec Step Global). plain_steps s.items) w.steps-is
          ∙ ap plain_steps w.in_ok-push.ensures.items
          ∙ plain-append c.arcs.steps.items (_ ∷ [])))
      | else-comes_over w ↦
          push_on make test ids arc _ start now _ once was goes
          (no_more make test ids arc now _ (sym c.comes_over.ensures ∙ w.if-comes_over.false)
          (ap (λ (s : Vec Step Global). plain_steps s.items) w.steps-is))
    ]

pub returns : goal.returns
returns c = push_end _ _ _ _ _ (rw c.in_default.is at c.arcs.invariant)
