use Rattle.std.proofs.Common.{◌≡◌, ◌+◌, ◌++◌, [], ◌∷◌, take, get_or, sym, ap, ◌∙◌, append_assoc}
use Rattle.std.proofs.lemmas.List.{take_more, map-append}
use Rattle.plain_digraph.specs.PlainSteps.{MoveFrom}
use Rattle.plain_digraph.specs.Alterations.{sources_to}
use Rattle.alter_graph.specs.Steps.{plain_steps}
use Rattle.alter_graph.proofs.Planned.{plain-append}
use Rattle.alter_graph.proofs.gathering.push_sources.Goals as goal

pub loop-arc-preserved : goal.loop-arc-preserved
loop-arc-preserved c =
    let arcs = c.args.arcs.now in
    let i = c.loop-arc.arc-index in
    let old = plain_steps c.args.steps.now.items in
    let done = sources_to c.args.u.0 (take i arcs) in
    let more : sources_to c.args.u.0 (take (i + 1) arcs) ≡ done
    ++ MoveFrom (get_or arcs i 0) c.args.u.0 ∷ [] =
    ap (sources_to c.args.u.0) (take_more arcs i 0 c.loop-arc-test.true)
    ∙ map-append (λ arc. MoveFrom arc c.args.u.0) (take i arcs) (get_or arcs i 0 ∷ []) in
    ap plain_steps c.in_ok-push.ensures.items
    ∙ plain-append c.loop-arc.steps.items (_ ∷ [])
    ∙ ap (λ l. l ++ MoveFrom (get_or arcs i 0) c.args.u.0 ∷ []) c.loop-arc.invariant
    ∙ append_assoc old done (MoveFrom (get_or arcs i 0) c.args.u.0 ∷ [])
    ∙ ap (λ l. old ++ l) (sym more)
