use Rattle.std.proofs.Common.{ℕ, ◌%◌, ◌<◌, ◌∙◌}
use Rattle.std.proofs.lemmas.Nat.{mod_below}
use Rattle.std.proofs.lemmas.Result.{err_from_is_err_and}
use Rattle.graph_maker.specs.Cells.{nodes_text, arcs_text}
use Rattle.graph_maker.proofs.Drawn.{nodes_head, arcs_head, first_part, second_part}
use Rattle.graph_maker.proofs.Sent.{sends_on, on_ok_both, if_err_so}
use Rattle.graph_maker.proofs.Whole.{stops_first, stops_second, stops_third, stops_fourth}
use Rattle.graph_maker.proofs.Whole.{stops_last, goes_out}
use Rattle.graph_maker.proofs.making.send_graph.Goals as goal

pub returns-in_err-send_text-clause-stopped : goal.returns-in_err-send_text-clause-stopped
returns-in_err-send_text-clause-stopped g c =
    let p = err_from_is_err_and c.from_residual.result c.from_residual.ensures.1 in
    let seed = c.args.seed in
    let nodes = c.args.nodes in
    let arcs = c.args.arcs in
    let some : (n : ℕ) → n % nodes < nodes = λ n. mod_below n nodes c.requires.nodes in
    let t0 = g.K.Sink.taken c.args.report.now in
    let h0 = c.new-held.result.items in
    let f0 = g.K.Sink.faults c.args.report.now in
    let t1 = g.K.Sink.taken c.send_text.new.report in
    let h1 = c.send_text.new.held.items in
    let f1 = g.K.Sink.faults c.send_text.new.report in
    rw (p.1, p.2) (stops_first seed nodes arcs some t0 t1 h0 c.new-held.ensures.items f0 f1 _
    c.in_err-send_text.ensures.stopped)

pub returns-in_err-send_nodes-clause-stopped : goal.returns-in_err-send_nodes-clause-stopped
returns-in_err-send_nodes-clause-stopped g c =
    let p = err_from_is_err_and c.from_residual-in_err-send_nodes.result
    c.from_residual-in_err-send_nodes.ensures.1 in
    let seed = c.args.seed in
    let nodes = c.args.nodes in
    let arcs = c.args.arcs in
    let some : (n : ℕ) → n % nodes < nodes = λ n. mod_below n nodes c.requires.nodes in
    let t0 = g.K.Sink.taken c.args.report.now in
    let h0 = c.new-held.result.items in
    let f0 = g.K.Sink.faults c.args.report.now in
    let t1 = g.K.Sink.taken c.send_text.new.report in
    let h1 = c.send_text.new.held.items in
    let f1 = g.K.Sink.faults c.send_text.new.report in
    let t2 = g.K.Sink.taken c.send_nodes.new.report in
    let h2 = c.send_nodes.new.held.items in
    let f2 = g.K.Sink.faults c.send_nodes.new.report in
    let s1 = c.in_ok-send_text.ensures.sent in
    let q1 = c.in_ok-send_text.ensures.quiet in
    rw (p.1, p.2) (stops_second seed nodes arcs some t0 t2 h0 c.new-held.ensures.items f0 f2
    t1 h1 f1 q1 _ s1 c.in_err-send_nodes.ensures.stopped)

pub returns-in_err-send_text-2-clause-stopped : goal.returns-in_err-send_text-2-clause-stopped
returns-in_err-send_text-2-clause-stopped g c =
    let p = err_from_is_err_and c.from_residual-in_err-send_text-2.result
    c.from_residual-in_err-send_text-2.ensures.1 in
    let seed = c.args.seed in
    let nodes = c.args.nodes in
    let arcs = c.args.arcs in
    let some : (n : ℕ) → n % nodes < nodes = λ n. mod_below n nodes c.requires.nodes in
    let t0 = g.K.Sink.taken c.args.report.now in
    let h0 = c.new-held.result.items in
    let f0 = g.K.Sink.faults c.args.report.now in
    let t1 = g.K.Sink.taken c.send_text.new.report in
    let h1 = c.send_text.new.held.items in
    let f1 = g.K.Sink.faults c.send_text.new.report in
    let t2 = g.K.Sink.taken c.send_nodes.new.report in
    let h2 = c.send_nodes.new.held.items in
    let f2 = g.K.Sink.faults c.send_nodes.new.report in
    let t3 = g.K.Sink.taken c.send_text-2.new.report in
    let h3 = c.send_text-2.new.held.items in
    let f3 = g.K.Sink.faults c.send_text-2.new.report in
    let s1 = c.in_ok-send_text.ensures.sent in
    let q1 = c.in_ok-send_text.ensures.quiet in
    let s2 = sends_on t0 t1 t2 h0 h1 h2 nodes_head
    (nodes_text nodes) s1 c.in_ok-send_nodes.ensures.sent in
    let q2 = c.in_ok-send_nodes.ensures.quiet ∙ q1 in
    rw (p.1, p.2) (stops_third seed nodes arcs some t0 t3 h0 c.new-held.ensures.items f0 f3
    t2 h2 f2 q2 _ s2 c.in_err-send_text-2.ensures.stopped)

pub returns-in_err-send_arcs-clause-stopped : goal.returns-in_err-send_arcs-clause-stopped
returns-in_err-send_arcs-clause-stopped g c =
    let p = err_from_is_err_and c.from_residual-in_err-send_arcs.result
    c.from_residual-in_err-send_arcs.ensures.1 in
    let seed = c.args.seed in
    let nodes = c.args.nodes in
    let arcs = c.args.arcs in
    let some : (n : ℕ) → n % nodes < nodes = λ n. mod_below n nodes c.requires.nodes in
    let t0 = g.K.Sink.taken c.args.report.now in
    let h0 = c.new-held.result.items in
    let f0 = g.K.Sink.faults c.args.report.now in
    let t1 = g.K.Sink.taken c.send_text.new.report in
    let h1 = c.send_text.new.held.items in
    let f1 = g.K.Sink.faults c.send_text.new.report in
    let t2 = g.K.Sink.taken c.send_nodes.new.report in
    let h2 = c.send_nodes.new.held.items in
    let f2 = g.K.Sink.faults c.send_nodes.new.report in
    let t3 = g.K.Sink.taken c.send_text-2.new.report in
    let h3 = c.send_text-2.new.held.items in
    let f3 = g.K.Sink.faults c.send_text-2.new.report in
    let t4 = g.K.Sink.taken c.send_arcs.new.report in
    let h4 = c.send_arcs.new.held.items in
    let f4 = g.K.Sink.faults c.send_arcs.new.report in
    let s1 = c.in_ok-send_text.ensures.sent in
    let q1 = c.in_ok-send_text.ensures.quiet in
    let s2 = sends_on t0 t1 t2 h0 h1 h2 nodes_head
    (nodes_text nodes) s1 c.in_ok-send_nodes.ensures.sent in
    let q2 = c.in_ok-send_nodes.ensures.quiet ∙ q1 in
    let s3 = sends_on t0 t2 t3 h0 h2 h3 (first_part seed nodes arcs some)
    arcs_head s2 c.in_ok-send_text-2.ensures.sent in
    let q3 = c.in_ok-send_text-2.ensures.quiet ∙ q2 in
    rw (p.1, p.2) (stops_fourth seed nodes arcs some t0 t4 h0 c.new-held.ensures.items f0 f4
    t3 h3 f3 q3 _ s3 c.in_err-send_arcs.ensures.stopped)

pub returns-clause-sent : goal.returns-clause-sent
returns-clause-sent g c =
    let seed = c.args.seed in
    let nodes = c.args.nodes in
    let arcs = c.args.arcs in
    let some : (n : ℕ) → n % nodes < nodes = λ n. mod_below n nodes c.requires.nodes in
    let t0 = g.K.Sink.taken c.args.report.now in
    let h0 = c.new-held.result.items in
    let f0 = g.K.Sink.faults c.args.report.now in
    let t1 = g.K.Sink.taken c.send_text.new.report in
    let h1 = c.send_text.new.held.items in
    let f1 = g.K.Sink.faults c.send_text.new.report in
    let t2 = g.K.Sink.taken c.send_nodes.new.report in
    let h2 = c.send_nodes.new.held.items in
    let f2 = g.K.Sink.faults c.send_nodes.new.report in
    let t3 = g.K.Sink.taken c.send_text-2.new.report in
    let h3 = c.send_text-2.new.held.items in
    let f3 = g.K.Sink.faults c.send_text-2.new.report in
    let t4 = g.K.Sink.taken c.send_arcs.new.report in
    let h4 = c.send_arcs.new.held.items in
    let f4 = g.K.Sink.faults c.send_arcs.new.report in
    let t5 = g.K.Sink.taken c.send.new.report in
    let h5 = c.send.new.held.items in
    let f5 = g.K.Sink.faults c.send.new.report in
    let s1 = c.in_ok-send_text.ensures.sent in
    let q1 = c.in_ok-send_text.ensures.quiet in
    let s2 = sends_on t0 t1 t2 h0 h1 h2 nodes_head
    (nodes_text nodes) s1 c.in_ok-send_nodes.ensures.sent in
    let q2 = c.in_ok-send_nodes.ensures.quiet ∙ q1 in
    let s3 = sends_on t0 t2 t3 h0 h2 h3 (first_part seed nodes arcs some)
    arcs_head s2 c.in_ok-send_text-2.ensures.sent in
    let q3 = c.in_ok-send_text-2.ensures.quiet ∙ q2 in
    let s4 = sends_on t0 t3 t4 h0 h3 h4 (second_part seed nodes arcs some)
    (arcs_text seed nodes arcs) s3 c.in_ok-send_arcs.ensures.sent in
    let q4 = c.in_ok-send_arcs.ensures.quiet ∙ q3 in
    on_ok_both c.send.result (goes_out seed nodes arcs some t0 t5 h0 c.new-held.ensures.items f0 f5
    t4 h4 h5 s4) c.send.ensures.sent c.send.ensures.all

pub returns-clause-stopped : goal.returns-clause-stopped
returns-clause-stopped g c =
    let seed = c.args.seed in
    let nodes = c.args.nodes in
    let arcs = c.args.arcs in
    let some : (n : ℕ) → n % nodes < nodes = λ n. mod_below n nodes c.requires.nodes in
    let t0 = g.K.Sink.taken c.args.report.now in
    let h0 = c.new-held.result.items in
    let f0 = g.K.Sink.faults c.args.report.now in
    let t1 = g.K.Sink.taken c.send_text.new.report in
    let h1 = c.send_text.new.held.items in
    let f1 = g.K.Sink.faults c.send_text.new.report in
    let t2 = g.K.Sink.taken c.send_nodes.new.report in
    let h2 = c.send_nodes.new.held.items in
    let f2 = g.K.Sink.faults c.send_nodes.new.report in
    let t3 = g.K.Sink.taken c.send_text-2.new.report in
    let h3 = c.send_text-2.new.held.items in
    let f3 = g.K.Sink.faults c.send_text-2.new.report in
    let t4 = g.K.Sink.taken c.send_arcs.new.report in
    let h4 = c.send_arcs.new.held.items in
    let f4 = g.K.Sink.faults c.send_arcs.new.report in
    let t5 = g.K.Sink.taken c.send.new.report in
    let h5 = c.send.new.held.items in
    let f5 = g.K.Sink.faults c.send.new.report in
    let s1 = c.in_ok-send_text.ensures.sent in
    let q1 = c.in_ok-send_text.ensures.quiet in
    let s2 = sends_on t0 t1 t2 h0 h1 h2 nodes_head
    (nodes_text nodes) s1 c.in_ok-send_nodes.ensures.sent in
    let q2 = c.in_ok-send_nodes.ensures.quiet ∙ q1 in
    let s3 = sends_on t0 t2 t3 h0 h2 h3 (first_part seed nodes arcs some)
    arcs_head s2 c.in_ok-send_text-2.ensures.sent in
    let q3 = c.in_ok-send_text-2.ensures.quiet ∙ q2 in
    let s4 = sends_on t0 t3 t4 h0 h3 h4 (second_part seed nodes arcs some)
    (arcs_text seed nodes arcs) s3 c.in_ok-send_arcs.ensures.sent in
    let q4 = c.in_ok-send_arcs.ensures.quiet ∙ q3 in
    if_err_so c.send.result
    (λ status then. stops_last seed nodes arcs some t0 t5 h0 c.new-held.ensures.items f0 f5
    t4 h4 f4 q4 status s4 then) c.send.ensures.stopped
