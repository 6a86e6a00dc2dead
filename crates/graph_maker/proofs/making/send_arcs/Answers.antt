use Rattle.std.proofs.Common.{ℕ, List, ◌++◌, ◌*◌, sym, ap, ◌∙◌, subst, arith}
use Rattle.std.proofs.lemmas.Result.{err_from_is_err_and}
use Rattle.plain_machine.specs.Generator.{state}
use Rattle.graph_maker.specs.Cells.{after_four, arc_line, arcs_text}
use Rattle.graph_maker.specs.Sending.{Sends, Stops}
use Rattle.graph_maker.proofs.Drawn.{four_on}
use Rattle.graph_maker.proofs.Lines.{lines_in, one_more}
use Rattle.graph_maker.proofs.Sent.{sends_on, stops_on}
use Rattle.graph_maker.proofs.making.send_arcs.Goals as goal

pub returns-in_err-send_arc-clause-stopped : goal.returns-in_err-send_arc-clause-stopped
returns-in_err-send_arc-clause-stopped g c =
    let p = err_from_is_err_and c.from_residual.result c.from_residual.ensures.1 in
    let was = c.loop-arc.invariant in
    let held = c.args.held.now.items in
    let kept = c.loop-arc.held.items in
    let arc = c.loop-arc.arc in
    let nodes = c.args.nodes in
    let line : ℕ → List ℕ = λ n. arc_line nodes n (state c.args.seed (4 * n)) in
    let more = lines_in line arc c.args.arcs c.loop-arc-test.true in
    let first = g.K.Sink.taken c.args.report.now in
    let mid = g.K.Sink.taken c.loop-arc.report in
    let last = g.K.Sink.taken c.send_arc.new.report in
    let before = g.K.Sink.faults c.loop-arc.report in
    let now = g.K.Sink.faults c.send_arc.new.report in
    rw (p.1, p.2)
    (stops_on first mid last held kept (arcs_text c.args.seed nodes arc) (line arc) more.0
    (held ++ arcs_text c.args.seed nodes c.args.arcs) (g.K.Sink.faults c.args.report.now) before
    now _ was.2 was.0
    (subst (λ s. Stops mid last (kept ++ arc_line nodes arc s) before now
    c.in_err-send_arc.field-0.0) was.3
    c.in_err-send_arc.ensures.stopped)
    (ap (λ xs. held ++ xs) more.1))

pub loop-arc-preserved : goal.loop-arc-preserved
loop-arc-preserved g c =
    let was = c.loop-arc.invariant in
    let held = c.args.held.now.items in
    let kept = c.loop-arc.held.items in
    let rest = c.send_arc.new.held.items in
    let arc = c.loop-arc.arc in
    let nodes = c.args.nodes in
    let line : ℕ → List ℕ = λ n. arc_line nodes n (state c.args.seed (4 * n)) in
    let first = g.K.Sink.taken c.args.report.now in
    let mid = g.K.Sink.taken c.loop-arc.report in
    let last = g.K.Sink.taken c.send_arc.new.report in
    let below = c.loop-arc-test.true in
    let sent = subst (λ s. Sends mid last kept rest (arc_line nodes arc s)) was.3
    c.in_ok-send_arc.ensures.sent in (
      subst (Sends first last held rest) (sym (one_more line arc))
          (sends_on first mid last held kept rest (arcs_text c.args.seed nodes arc) (line arc)
          was.0 sent),
      omega (arith, below),
      c.in_ok-send_arc.ensures.quiet ∙ was.2,
      c.in_ok-send_arc.ensures.drawn ∙ ap after_four was.3 ∙ four_on c.args.seed arc,
      c.in_ok-send_arc.ensures.below,
    )
