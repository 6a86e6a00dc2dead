use Rattle.std.proofs.Common.{◌++◌, sym, ap, ◌∙◌, subst, arith}
use Rattle.std.proofs.lemmas.Result.{err_from_is_err_and}
use Rattle.graph_maker.specs.Cells.{node_line, nodes_text}
use Rattle.graph_maker.specs.Sending.{Sends}
use Rattle.graph_maker.proofs.Lines.{lines_in, one_more}
use Rattle.graph_maker.proofs.Sent.{sends_on, stops_on}
use Rattle.graph_maker.proofs.making.send_nodes.Goals as goal

pub returns-in_err-send_node-clause-stopped : goal.returns-in_err-send_node-clause-stopped
returns-in_err-send_node-clause-stopped g c =
    let p = err_from_is_err_and c.from_residual.result c.from_residual.ensures.1 in
    let was = c.loop-node.invariant in
    let held = c.args.held.now.items in
    let node = c.loop-node.node in
    let more = lines_in node_line node c.args.nodes c.loop-node-test.true in
    rw (p.1, p.2)
    (stops_on (g.K.Sink.taken c.args.report.now) (g.K.Sink.taken c.loop-node.report)
    (g.K.Sink.taken c.send_node.new.report) held c.loop-node.held.items (nodes_text node)
    (node_line node) more.0 (held ++ nodes_text c.args.nodes)
    (g.K.Sink.faults c.args.report.now) (g.K.Sink.faults c.loop-node.report)
    (g.K.Sink.faults c.send_node.new.report) _ was.2 was.0 c.in_err-send_node.ensures.stopped
    (ap (λ xs. held ++ xs) more.1))

pub loop-node-preserved : goal.loop-node-preserved
loop-node-preserved g c =
    let was = c.loop-node.invariant in
    let held = c.args.held.now.items in
    let node = c.loop-node.node in
    let below = c.loop-node-test.true in (
      subst (Sends (g.K.Sink.taken c.args.report.now) (g.K.Sink.taken c.send_node.new.report) held
          c.send_node.new.held.items) (sym (one_more node_line node))
          (sends_on (g.K.Sink.taken c.args.report.now) (g.K.Sink.taken c.loop-node.report)
          (g.K.Sink.taken c.send_node.new.report) held c.loop-node.held.items
          c.send_node.new.held.items (nodes_text node) (node_line node) was.0
          c.in_ok-send_node.ensures.sent),
      omega (arith, below),
      c.in_ok-send_node.ensures.quiet ∙ was.2,
    )
