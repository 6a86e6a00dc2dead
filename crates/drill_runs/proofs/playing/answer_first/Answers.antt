use Rattle.std.proofs.Common.{◌+◌, arith}
use Rattle.drill_runs.proofs.Counts.{first_on}
use Rattle.drill_runs.proofs.playing.answer_first.Goals as goal

pub lines-preserved : goal.lines-preserved
lines-preserved g c =
    let was = c.lines.invariant in
    let place = c.lines.place in
    let did = c.in_ok-count_line.ensures in
    record {
      room = omega (arith, c.lines-test.true);
      in_step = did.in_step;
      stamps = omega (arith, was.stamps, did.stamps);
      opened = first_on _ _ _ place was.opened.0 c.first_line.result.now _ _ c.lines-test.true
          c.first_line.ensures was.opened.1 (did.counted (1 + place));
    }
