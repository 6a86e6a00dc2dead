use Rattle.std.proofs.Common.{ap, ◌∙◌}
use Rattle.std.specs.Prelude.{option_map}
use Rattle.base_items.specs.declared.items.Arc.{Arc}
use Rattle.plain_digraph.specs.Lists.{after}
use Rattle.plain_digraph.specs.Items.{out_arcs}
use Rattle.plain_digraph.proofs.Orders.{out_arcs_once, out_arc_own}
use Rattle.desk_world.proofs.Walked.{walk_on, fewer_ahead}
use Rattle.desk_world.proofs.orders.push_out_arcs.Goals as goal

pub next_out-next-requires : goal.next_out-next-requires
next_out-next-requires c =
    let listed = c.arcs.invariant.listed c.in-Some.arc.0
    (ap (option_map (λ (a : Arc). a.0)) c.in-Some.is) in
    (out_arc_own c.args.graph.now.graph c.args.node c.in-Some.arc.0 listed).0

pub arcs-smaller : goal.arcs-smaller
arcs-smaller c =
    let graph = c.args.graph.now.graph in
    let listed = c.arcs.invariant.listed c.in-Some.arc.0
    (ap (option_map (λ (a : Arc). a.0)) c.in-Some.is) in
    let own = out_arc_own graph c.args.node c.in-Some.arc.0 listed in
    let goes = c.next_out-next.ensures ∙ ap (λ n. after (out_arcs graph n) c.in-Some.arc.0) own.1 in
    rw c.in-Some.is (fewer_ahead _ c.in-Some.arc.0 _
    (out_arcs_once graph c.args.node c.requires.valid) listed goes)

pub arcs-preserved : goal.arcs-preserved
arcs-preserved c =
    let graph = c.args.graph.now.graph in
    let listed = c.arcs.invariant.listed c.in-Some.arc.0
    (ap (option_map (λ (a : Arc). a.0)) c.in-Some.is) in
    let own = out_arc_own graph c.args.node c.in-Some.arc.0 listed in
    let goes = c.next_out-next.ensures ∙ ap (λ n. after (out_arcs graph n) c.in-Some.arc.0) own.1 in
    let was = rw c.in-Some.is at c.arcs.invariant in
    rw c.in_ok-push.ensures.items
    (walk_on _ c.in-Some.arc.0 _ _ _ (out_arcs_once graph c.args.node c.requires.valid) was goes)
