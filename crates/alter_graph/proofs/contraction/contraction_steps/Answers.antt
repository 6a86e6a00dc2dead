use Rattle.std.proofs.Common.{◌++◌, sym, ◌∙◌}
use Rattle.std.specs.Prelude.{◌||◌, filter}
use Rattle.plain_digraph.specs.Items.{out_arcs, in_arcs, source_of, target_of}
use Rattle.plain_digraph.specs.Alterations.{sources_to, targets_to, is_neither}
use Rattle.alter_graph.specs.Steps.{plain_steps}
use Rattle.alter_graph.proofs.Pushed.{contraction_is_pushed}
use Rattle.alter_graph.proofs.contraction.contraction_steps.Goals as goal

pub returns : goal.returns
returns c =
    let g = c.args.graph.now.graph in
    let u = c.args.u.0 in
    let v = c.args.v.0 in
    let into = targets_to u
    (filter (λ arc. c.args.loops || is_neither u v (source_of g arc)) (in_arcs g v)) in
    let out = sources_to u
    (filter (λ arc. c.args.loops || is_neither u v (target_of g arc)) (out_arcs g v)) in
    c.in_ok-push_inward.ensures
    ∙ (λ i. (c.in_ok-push_outward.ensures
    ∙ (λ j. plain_steps (c.in_ok-steps.ensures.items j) ++ out)) i ++ into)
    ∙ sym (contraction_is_pushed c.args.loops c.args.u c.args.v g c.requires.valid)
