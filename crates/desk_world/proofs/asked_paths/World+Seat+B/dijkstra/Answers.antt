use Rattle.std.proofs.Common.{◌≡◌, ℤ, List, subst, ◌∙◌, None}
use Rattle.script_words.specs.declared.commands.Command.TheVariants as commands
use Rattle.report_text.specs.declared.replies.Reply.TheVariants as replies
use Rattle.plain_world.specs.Demands as demands
use Rattle.plain_world.specs.Refusals.{breach}
use Rattle.static_digraph.specs.Fixed.{graph_of}
use Rattle.path_search.specs.Answers.{IsAnswer}
use Rattle.desk_seats.specs.contracts.seat.SeatObserver.TheImpl.{watch-value}
use Rattle.desk_world.specs.Faults.{Answers, Is}
use Rattle.desk_world.specs.Plain.{plain_of}
use Rattle.desk_world.proofs.Handed.{handed_on}
use Rattle.desk_world.proofs.PathsTold.{own_lengths, vias_below, finds_paths, dijkstra_told}
use Rattle.desk_world.proofs.PathsTold.{too_low, dijkstra_refused}
use Rattle.desk_world.proofs.asked_paths.World+Seat+B.dijkstra.Goals as goal

pub lines_of_paths-requires-clause-arcs : goal.lines_of_paths-requires-clause-arcs
lines_of_paths-requires-clause-arcs g c =
    let w = (watch-value g.row.B g.B.Observer g.B.Observer-dict g.B.Destruct-dict).it in
    let read = c.in_ok-read.read in
    let paths = c.in_ok-paths.paths in
    vias_below (plain_of w c.args.self.now) c.args.view.now c.args.length.now c.args.start.now read
    c.in_ok-read.ensures.asks paths.dist paths.via
    (subst (λ (len : List ℤ).
    IsAnswer (graph_of read.asked.fixed) len read.start paths.dist paths.via)
    c.as_slice-lengths.ensures.value c.in_ok-paths.ensures)

pub returns-in_err-read : goal.returns-in_err-read
returns-in_err-read g c =
    let w = (watch-value g.row.B g.B.Observer g.B.Observer-dict g.B.Destruct-dict).it in
    let world = plain_of w c.args.self.now in
    let view = c.args.view.now in
    let length = c.args.length.now in
    let start = c.args.start.now in
    let fault = c.in_err-read.field-0.0 in
    handed_on (Answers world (commands.Dijkstra view length start) world) c.from_residual.result
    fault c.from_residual.ensures.1
    (dijkstra_refused world view length start fault c.in_err-read.ensures.meets)

pub returns-in_err-ask_at_least : goal.returns-in_err-ask_at_least
returns-in_err-ask_at_least g c =
    let w = (watch-value g.row.B g.B.Observer g.B.Observer-dict g.B.Destruct-dict).it in
    let world = plain_of w c.args.self.now in
    let view = c.args.view.now in
    let length = c.args.length.now in
    let start = c.args.start.now in
    let read = c.in_ok-read.read in
    let asks = c.in_ok-read.ensures.asks in
    let fault = c.in_err-ask_at_least.field-0.0 in
    handed_on (Answers world (commands.Dijkstra view length start) world)
    c.from_residual-in_err-ask_at_least.result fault c.from_residual-in_err-ask_at_least.ensures.1
    (too_low world view length start c.in_ok-read.ensures.meets fault
    (subst (λ v. Is (breach world (demands.ArcsAtLeast v 0 length)) fault) asks.view_is
    (c.in_err-ask_at_least.ensures.meets length
    (c.as_slice-lengths.ensures.value ∙ own_lengths world view length start read asks))))

pub returns : goal.returns
returns g c =
    let w = (watch-value g.row.B g.B.Observer g.B.Observer-dict g.B.Destruct-dict).it in
    let world = plain_of w c.args.self.now in
    let view = c.args.view.now in
    let length = c.args.length.now in
    let start = c.args.start.now in
    let read = c.in_ok-read.read in
    let asks = c.in_ok-read.ensures.asks in
    let paths = c.in_ok-paths.paths in
    dijkstra_told world view length start c.in_ok-read.ensures.meets
    (subst (λ v. breach world (demands.ArcsAtLeast v 0 length) ≡ None) asks.view_is
    (c.in_ok-ask_at_least.ensures.meets length
    (c.as_slice-lengths.ensures.value ∙ own_lengths world view length start read asks)))
    (replies.Paths c.in_ok-lines.lines)
    (finds_paths world view length start read asks paths.dist paths.via
    (subst (λ (len : List ℤ).
    IsAnswer (graph_of read.asked.fixed) len read.start paths.dist paths.via)
    c.as_slice-lengths.ensures.value c.in_ok-paths.ensures)
    c.in_ok-lines.lines c.in_ok-lines.ensures)
