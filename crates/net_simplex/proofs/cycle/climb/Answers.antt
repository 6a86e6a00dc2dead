use Rattle.std.proofs.Common.{◌++◌, length, arith}
use Rattle.pivot_flow.specs.Tree.{tree_of}
use Rattle.net_simplex.proofs.Climbed.{above_up, laid_all, laid_more, step_up}
use Rattle.net_simplex.specs.Cycles.{ups_to}
use Rattle.net_simplex.proofs.cycle.climb.Goals as goal

pub loop-here-preserved : goal.loop-here-preserved
loop-here-preserved c =
    let was = c.loop-here.invariant in
    let h = tree_of c.args.parent.now c.args.arc.now c.args.depth.now in
    let n = length c.args.parent.now in
    let here = c.loop-here.here in
    record {
      inside = (step_up n h c.requires.hung here c.args.top was.inside was.above
          c.loop-here-test.true).0;
      above = above_up n h c.requires.hung here c.args.top was.inside was.above
          c.loop-here-test.true;
      laid = rw c.in_ok-push.ensures.items
          (laid_more n h c.requires.hung here c.args.top was.inside was.above
          c.loop-here-test.true c.loop-here.path.items
          (c.args.path.now.items ++ ups_to h c.args.top c.args.node) was.laid);
    }

pub loop-here-smaller : goal.loop-here-smaller
loop-here-smaller c =
    let was = c.loop-here.invariant in
    let h = tree_of c.args.parent.now c.args.arc.now c.args.depth.now in
    let fall = (step_up (length c.args.parent.now) h c.requires.hung c.loop-here.here c.args.top
    was.inside was.above c.loop-here-test.true).1 in
    omega (arith, fall)

pub returns : goal.returns
returns c =
    let h = tree_of c.args.parent.now c.args.arc.now c.args.depth.now in
    laid_all h c.loop-here.here c.args.top c.loop-here.path.items
    (c.args.path.now.items ++ ups_to h c.args.top c.args.node) c.loop-here-test.false
    c.loop-here.invariant.laid
