use Rattle.std.proofs.Common.{ℕ, Bool, List, [], ◌∷◌, Vec, Global, refl, sym, ap, ◌∙◌}
use Rattle.std.specs.Prelude.{◌||◌, option_map}
use Rattle.base_items.specs.declared.items.Arc.{Arc}
use Rattle.plain_digraph.specs.Lists.{after}
use Rattle.plain_digraph.specs.Items.{out_arcs, target_of}
use Rattle.plain_digraph.specs.PlainSteps.{PlainStep, MoveFrom}
use Rattle.plain_digraph.specs.Alterations.{is_neither}
use Rattle.plain_digraph.proofs.Orders.{out_arcs_once, out_arc_own}
use Rattle.alter_graph.specs.declared.steps.Step.{Step}
use Rattle.alter_graph.specs.Steps.{plain_steps}
use Rattle.alter_graph.proofs.Planned.{plain-append}
use Rattle.alter_graph.proofs.Pushed.{push_start, push_on, one_more, no_more, push_end}
use Rattle.alter_graph.proofs.Walked.{fewer_ahead}
use Rattle.alter_graph.proofs.gathering.push_outward.Goals as goal
use Rattle.alter_graph.proofs.gathering.push_outward.Goals.{then-goes_over+in_ok-push}
use Rattle.alter_graph.proofs.gathering.push_outward.Goals.{else-goes_over}

pub arcs-init : goal.arcs-init
arcs-init c = push_start _ _ _ _ _ c.first_out-next.ensures

pub goes_over-requires-clause-live : goal.goes_over-requires-clause-live
goes_over-requires-clause-live c =
    let listed = c.arcs.invariant.listed c.in-Some.arc.0
    (ap (option_map (λ (a : Arc). a.0)) c.in-Some.is) in
    (out_arc_own c.args.graph.now.graph c.args.v.0 c.in-Some.arc.0 listed).0

pub next_out-next-requires : goal.next_out-next-requires
next_out-next-requires c =
    let listed = c.arcs.invariant.listed c.in-Some.arc.0
    (ap (option_map (λ (a : Arc). a.0)) c.in-Some.is) in
    (out_arc_own c.args.graph.now.graph c.args.v.0 c.in-Some.arc.0 listed).0

pub arcs-smaller : goal.arcs-smaller
arcs-smaller c =
    let graph = c.args.graph.now.graph in
    let v = c.args.v.0 in
    let listed = c.arcs.invariant.listed c.in-Some.arc.0
    (ap (option_map (λ (a : Arc). a.0)) c.in-Some.is) in
    let own = out_arc_own graph v c.in-Some.arc.0 listed in
    let goes = c.next_out-next.ensures
    ∙ ap (λ n. after (out_arcs graph n) c.in-Some.arc.0) own.1 in
    rw c.in-Some.is (fewer_ahead _ c.in-Some.arc.0 _
    (out_arcs_once graph v c.requires.valid) listed goes)

pub arcs-preserved : goal.arcs-preserved
arcs-preserved c =
    let graph = c.args.graph.now.graph in
    let u = c.args.u.0 in
    let v = c.args.v.0 in
    let arc = c.in-Some.arc.0 in
    let ids : List ℕ = out_arcs graph v in
    let make : ℕ → PlainStep = λ a. MoveFrom a u in
    let test : ℕ → Bool = λ a. c.args.all || is_neither u v (target_of graph a) in
    let was = rw c.in-Some.is at c.arcs.invariant in
    let own = out_arc_own graph v arc (was.listed arc refl) in
    let goes = c.next_out-next.ensures ∙ ap (λ n. after (out_arcs graph n) arc) own.1 in
    let now = plain_steps c.arcs.steps.items in
    let start = plain_steps c.args.steps.now.items in
    let once = out_arcs_once graph v c.requires.valid in
    elim c.if-goes_over.branch [
      | then-goes_over+in_ok-push w ↦
          push_on make test ids arc _ start now _ once was goes
          (one_more make test ids arc now _ (sym c.goes_over.ensures ∙ w.if-goes_over.true)
          (ap (λ (s : Vec Step Global). plain_steps s.items) w.steps-is
          ∙ ap plain_steps w.in_ok-push.ensures.items
          ∙ plain-append c.arcs.steps.items (_ ∷ [])))
      | else-goes_over w ↦
          push_on make test ids arc _ start now _ once was goes
          (no_more make test ids arc now _ (sym c.goes_over.ensures ∙ w.if-goes_over.false)
          (ap (λ (s : Vec Step Global). plain_steps s.items) w.steps-is))
    ]

pub returns : goal.returns
returns c = push_end _ _ _ _ _ (rw c.in_default.is at c.arcs.invariant)
