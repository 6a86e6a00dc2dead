use Rattle.std.proofs.Common.{pos, ap, subst, ◌∙◌, None}
use Rattle.std.specs.Option.{option_copied}
use Rattle.script_words.specs.declared.commands.Command.TheVariants as commands
use Rattle.report_text.specs.declared.replies.Reply.TheVariants as replies
use Rattle.plain_certificates.specs.Tables.{at}
use Rattle.plain_world.specs.declared.answers.Answer.TheVariants.{Answered}
use Rattle.plain_world.proofs.CommandsKept.{commands_kept}
use Rattle.list_digraph.specs.Roomy.{Roomy}
use Rattle.static_digraph.specs.Fixed.{graph_of}
use Rattle.task_bounds.specs.Given.{bounds_given}
use Rattle.flow_circulate.specs.Answers as circulations
use Rattle.desk_seats.specs.contracts.seat.SeatObserver.TheImpl.{watch-value}
use Rattle.desk_world.specs.Plain.{plain_of}
use Rattle.desk_world.proofs.Answered.{same_stamps}
use Rattle.desk_world.proofs.BoundsTold.{finds_flow, finds_barrier, same_written}
use Rattle.desk_world.proofs.BoundsTold.{flow_found, barrier_found}
use Rattle.desk_world.proofs.MapCommands.{left}
use Rattle.desk_world.proofs.cheapest_flows.World+Seat+B.circulation.Goals as goal

pub returns-in-Flow : goal.returns-in-Flow
returns-in-Flow g c =
    let w = (watch-value g.row.B g.B.Observer g.B.Observer-dict g.B.Destruct-dict).it in
    let world = plain_of w c.args.self.now in
    let view = c.args.view.now in
    let low = c.args.low.now in
    let up = c.args.up.now in
    let supply = c.args.supply.now in
    let into = c.args.into.now in
    let read = c.in_ok-read.read in
    let asks = c.in_ok-read.ensures.asks in
    let lower_is = c.slice_given-lower.ensures ∙ asks.lower in
    let upper_is = c.slice_given-upper.ensures ∙ asks.upper in
    let supply_is = c.slice_given-supplies.ensures ∙ asks.supply_is in
    let flow = c.in-Flow.flow in
    let answer = subst (circulations.Answers (graph_of read.asked.fixed) (bounds_given
    (option_copied c.slice_given-lower.result) (option_copied c.slice_given-upper.result)
    (option_copied c.slice_given-supplies.result))) c.in-Flow.is c.in_ok-flow.ensures in
    let lines = c.in_ok-lines-in-Flow.lines in
    let last = c.write_into.new.self in
    let step = flow_found world view low up supply into c.in_ok-read.ensures.meets
    (at (pos 0) flow) (replies.Circulation lines)
    (finds_flow world view low up None supply read asks _ _ _ lower_is upper_is supply_is flow
    answer.1 lines c.in_ok-lines-in-Flow.ensures) (plain_of w last)
    (same_written world view low up None supply read asks into (at (pos 0) flow) (plain_of w last)
    c.in_ok-write_into-in-Flow.ensures.written) in
    record {
      step = step;
      in_step = record {
        seats = c.write_into.ensures.in_step;
        valid = commands_kept world (plain_of w last)
            (commands.Circulate view low up supply into) (Answered (replies.Circulation lines))
            c.requires.in_step.valid c.requires.valid (left world c.requires.stamps) step;
      };
      stamps = same_stamps _ _ (ap (λ (r : Roomy). r.graph.stamps) c.write_into.ensures.graph);
    }

pub returns-clause-step : goal.returns-clause-step
returns-clause-step g c =
    let w = (watch-value g.row.B g.B.Observer g.B.Observer-dict g.B.Destruct-dict).it in
    let world = plain_of w c.args.self.now in
    let view = c.args.view.now in
    let low = c.args.low.now in
    let up = c.args.up.now in
    let supply = c.args.supply.now in
    let read = c.in_ok-read.read in
    let asks = c.in_ok-read.ensures.asks in
    let barrier = c.in-Barrier.barrier in
    let shows = subst (circulations.Answers (graph_of read.asked.fixed) (bounds_given
    (option_copied c.slice_given-lower.result) (option_copied c.slice_given-upper.result)
    (option_copied c.slice_given-supplies.result))) c.in-Barrier.is c.in_ok-flow.ensures in
    barrier_found world view low up supply c.args.into.now c.in_ok-read.ensures.meets
    c.in_ok-reply-in-Barrier.reply
    (finds_barrier world view low up None supply read asks _ _ _
    (c.slice_given-lower.ensures ∙ asks.lower) (c.slice_given-upper.ensures ∙ asks.upper)
    (c.slice_given-supplies.ensures ∙ asks.supply_is) barrier shows c.in_ok-reply-in-Barrier.reply
    c.in_ok-reply-in-Barrier.ensures)
