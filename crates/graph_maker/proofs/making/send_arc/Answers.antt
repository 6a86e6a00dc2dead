use Rattle.graph_maker.proofs.Sent.{stops_short}
use Rattle.graph_maker.proofs.making.send_arc.Goals as goal

pub returns-in-Err-clause-stopped : goal.returns-in-Err-clause-stopped
returns-in-Err-clause-stopped g c =
    stops_short (g.K.Sink.taken c.args.report.now) _ (g.K.Sink.faults c.args.report.now)
