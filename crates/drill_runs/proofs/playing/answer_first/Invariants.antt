use Rattle.std.proofs.Common.{◌≡◌, ℕ, ◌+◌, ◌-◌, ◌*◌, ◌≤◌, List, take}
use Rattle.std.specs.Prelude.{◌^◌}
use Rattle.plain_world.specs.declared.answers.Answer.{Answer}
use Rattle.plain_machine.specs.Built.{Answers}
use Rattle.plain_machine.specs.Runs.{Run}
use Rattle.plain_machine.specs.Drill.{first_lines}
use Rattle.drill_runs.proofs.playing.answer_first.Given as goal

-- the lines before this place were answered
abbrev pub invariant-lines : goal.invariant-lines
invariant-lines g l = record {
  room : l.place ≤ 7;
  in_step : g.D.Desk.in_step l.desk;
  stamps : (g.D.Desk.plain l.desk).graph.stamps
      ≤ (g.D.Desk.plain l.initial.desk).graph.stamps + 2 ^ 24 * l.place;
  opened : (said : List (ℕ × Answer)) × Run Answers (g.D.Desk.plain l.initial.desk) 1
      (take l.place first_lines) said (g.D.Desk.plain l.desk);
}

abbrev pub decreases-lines : goal.decreases-lines
decreases-lines g l = 7 - l.place
