use Rattle.std.proofs.Common.{◌≡◌, ◌+◌, ap, sym, ◌∙◌, subst, arith}
use Rattle.plain_machine.specs.Drill.{line_text, after_line, drawn_lines}
use Rattle.drill_runs.specs.Counting.{Counted, no_counts}
use Rattle.drill_runs.proofs.Counts.{drawn_on, state_on}
use Rattle.drill_runs.proofs.playing.answer_drawn.Goals as goal

pub lines-preserved : goal.lines-preserved
lines-preserved g c =
    let was = c.lines.invariant in
    let number = c.lines.number in
    let seed = c.args.seed in
    let drew = c.in_ok-line.ensures in
    let did = c.in_ok-counts.ensures in
    let line = c.as_slice.ensures.value ∙ drew.text ∙ ap (line_text number) was.state in
    record {
      room = omega (arith, c.lines-test.true);
      below = drew.below;
      state = drew.drawn ∙ ap after_line was.state ∙ sym (state_on seed number);
      accepted = omega (arith, was.accepted, did.few.0);
      refused = omega (arith, was.refused, did.few.1);
      in_step = did.in_step;
      stamps = omega (arith, was.stamps, did.stamps);
      counted = drawn_on _ _ _ seed number c.as_slice.result.now _ _ _ line was.counted
          (did.counted (8 + number));
    }

pub returns-clause-counted : goal.returns-clause-counted
returns-clause-counted g c =
    let was = c.lines.invariant in
    let all : c.lines.number ≡ c.args.lines = omega (arith, was.room, c.lines-test.false) in
    subst (λ count. Counted (g.D.Desk.plain c.args.desk.now) (g.D.Desk.plain c.lines.desk) 8
    (drawn_lines c.args.seed count) no_counts c.lines.counts) all was.counted
