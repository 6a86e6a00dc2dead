use Rattle.std.proofs.Common.{ap, ◌∙◌}
use Rattle.plain_digraph.specs.Items.{all_arcs}
use Rattle.list_digraph.specs.Roomy.{Roomy}
use Rattle.desk_world.proofs.listings.World+Seat+B.list_arcs.Goals as goal

pub see_arcs-requires-clause-listed : goal.see_arcs-requires-clause-listed
see_arcs-requires-clause-listed g c =
    c.as_slice.ensures.value ∙ c.in_ok-arcs.ensures
    ∙ ap (λ (r : Roomy). all_arcs r.graph) c.graph.ensures
