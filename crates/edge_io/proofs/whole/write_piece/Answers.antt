use Rattle.std.proofs.Common.{◌≡◌, ◌∙◌, ◌-◌, ◌≤◌, length, take, drop, arith, length-drop}
use Rattle.std.proofs.Math.Seq.{take-add}
use Rattle.std.proofs.lemmas.List.{take_all}
use Rattle.edge_io.proofs.Pieces.{took_more}
use Rattle.edge_io.proofs.whole.write_piece.Goals as goal

pub loop-done-preserved : goal.loop-done-preserved
loop-done-preserved g c =
    let was = c.loop-done.invariant in
    let put = c.in_ok-done.ensures in
    let part = drop c.loop-done.done c.args.bytes.now in
    let size : length part ≤ length c.args.bytes.now - c.loop-done.done =
    omega (arith, length-drop c.loop-done.done c.args.bytes.now) in
    let whole : take (length c.args.bytes.now - c.loop-done.done) part ≡ part =
    take_all _ part size in
    record {
      within = omega
          (arith, rw whole at put.bound, length-drop c.loop-done.done c.args.bytes.now, was.within);
      took = rw (take-add c.loop-done.done c.in_ok-done.field-0 c.args.bytes.now)
          (took_more _ _ _ _ _ was.took (rw whole at put.took));
      quiet = put.quiet ∙ was.quiet;
    }
