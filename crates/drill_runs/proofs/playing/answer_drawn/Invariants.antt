use Rattle.std.proofs.Common.{◌≡◌, ◌+◌, ◌-◌, ◌*◌, ◌<◌, ◌≤◌, length}
use Rattle.std.specs.Prelude.{◌^◌}
use Rattle.plain_machine.specs.Drill.{first_lines, drawn_lines, line_state}
use Rattle.drill_runs.specs.Counting.{Counted, no_counts}
use Rattle.drill_runs.proofs.playing.answer_drawn.Given as goal

-- the lines before this number were drawn, answered and counted
abbrev pub invariant-lines : goal.invariant-lines
invariant-lines g l = record {
  room : l.number ≤ l.lines;
  below : l.draws.state < 2147483647;
  state : l.draws.state ≡ line_state l.seed l.number;
  accepted : l.counts.accepted ≤ l.number;
  refused : l.counts.refused ≤ l.number;
  in_step : g.D.Desk.in_step l.desk;
  stamps : (g.D.Desk.plain l.desk).graph.stamps
      ≤ (g.D.Desk.plain l.initial.desk).graph.stamps + 2 ^ 24 * l.number;
  counted : Counted (g.D.Desk.plain l.initial.desk) (g.D.Desk.plain l.desk)
      (length first_lines + 1) (drawn_lines l.seed l.number) no_counts l.counts;
}

abbrev pub decreases-lines : goal.decreases-lines
decreases-lines g l = l.lines - l.number
