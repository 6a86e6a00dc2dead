use Rattle.graph_maker.proofs.Sent.{stopped_ends}
use Rattle.graph_maker.proofs.making.make_graph.Goals as goal

pub returns-in-Err-clause-ends : goal.returns-in-Err-clause-ends
returns-in-Err-clause-ends g c =
    let was = c.in-Err.ensures.stopped in
    (was.sent, was.took, stopped_ends _ _ _ _ _ c.in-Err.status was)
