use Rattle.std.proofs.Common.{ℤ, pos, List, subst, ◌∙◌}
use Rattle.report_text.specs.declared.replies.Reply.TheVariants as replies
use Rattle.plain_certificates.specs.Tables.{at}
use Rattle.plain_certificates.specs.Walks.{along}
use Rattle.plain_world.specs.Queries.{cycle_lines}
use Rattle.static_digraph.specs.Fixed.{graph_of}
use Rattle.path_search.specs.Answers.{AreWalks}
use Rattle.path_search.specs.declared.signed_search.Walks.TheVariants as walks
use Rattle.desk_seats.specs.contracts.seat.SeatObserver.TheImpl.{watch-value}
use Rattle.desk_world.specs.Plain.{plain_of}
use Rattle.desk_world.proofs.PathsTold.{vias_below, finds_paths, finds_cycle, paths_told}
use Rattle.desk_world.proofs.PathsTold.{cycle_found}
use Rattle.desk_world.proofs.asked_paths.World+Seat+B.bellman.Goals as goal

pub lines_of_paths-requires-clause-arcs : goal.lines_of_paths-requires-clause-arcs
lines_of_paths-requires-clause-arcs g c =
    let w = (watch-value g.row.B g.B.Observer g.B.Observer-dict g.B.Destruct-dict).it in
    let read = c.in_ok-read.read in
    let graph = graph_of read.asked.fixed in
    vias_below (plain_of w c.args.self.now) c.args.view.now c.args.length.now c.args.start.now read
    c.in_ok-read.ensures.asks c.in-Paths.paths.dist c.in-Paths.paths.via
    (subst (λ (len : List ℤ). AreWalks graph len read.start (walks.Paths c.in-Paths.paths))
    c.as_slice-lengths.ensures.value
    (subst (AreWalks graph c.as_slice-lengths.result.now read.start) c.in-Paths.is
    c.in_ok-paths.ensures))

pub returns-in-Paths : goal.returns-in-Paths
returns-in-Paths g c =
    let w = (watch-value g.row.B g.B.Observer g.B.Observer-dict g.B.Destruct-dict).it in
    let world = plain_of w c.args.self.now in
    let view = c.args.view.now in
    let length = c.args.length.now in
    let start = c.args.start.now in
    let read = c.in_ok-read.read in
    let graph = graph_of read.asked.fixed in
    paths_told world view length start c.in_ok-read.ensures.meets
    (replies.Paths c.in_ok-lines-in-Paths.lines)
    (finds_paths world view length start read c.in_ok-read.ensures.asks c.in-Paths.paths.dist
    c.in-Paths.paths.via
    (subst (λ (len : List ℤ). AreWalks graph len read.start (walks.Paths c.in-Paths.paths))
    c.as_slice-lengths.ensures.value
    (subst (AreWalks graph c.as_slice-lengths.result.now read.start) c.in-Paths.is
    c.in_ok-paths.ensures))
    c.in_ok-lines-in-Paths.lines c.in_ok-lines-in-Paths.ensures)

pub told_cycle-requires-clause-cycle : goal.told_cycle-requires-clause-cycle
told_cycle-requires-clause-cycle g c =
    let read = c.in_ok-read.read in
    (subst (AreWalks (graph_of read.asked.fixed) c.as_slice-lengths.result.now read.start)
    c.in-Cycle.is c.in_ok-paths.ensures).is_cycle

pub returns : goal.returns
returns g c =
    let w = (watch-value g.row.B g.B.Observer g.B.Observer-dict g.B.Destruct-dict).it in
    let world = plain_of w c.args.self.now in
    let view = c.args.view.now in
    let length = c.args.length.now in
    let start = c.args.start.now in
    let read = c.in_ok-read.read in
    let graph = graph_of read.asked.fixed in
    let cycle = c.in-Cycle.cycle in
    cycle_found world view length start c.in_ok-read.ensures.meets c.in_ok-reply-in-Cycle.reply
    (finds_cycle world view length start read c.in_ok-read.ensures.asks cycle
    (subst (λ (len : List ℤ). AreWalks graph len read.start (walks.Cycle cycle))
    c.as_slice-lengths.ensures.value
    (subst (AreWalks graph c.as_slice-lengths.result.now read.start) c.in-Cycle.is
    c.in_ok-paths.ensures))
    c.in_ok-reply-in-Cycle.reply
    (c.in_ok-reply-in-Cycle.ensures
    ∙ (λ i. replies.Cycle (cycle_lines world read.asked.view.now cycle)
    (along (at (pos 0) (c.as_slice-lengths.ensures.value i)) cycle))))
