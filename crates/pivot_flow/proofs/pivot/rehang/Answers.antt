use Rattle.std.proofs.Common.{[], length, w64}
use Rattle.std.proofs.lemmas.Int.{to_z-of_z}
use Rattle.pivot_flow.proofs.Parting.{cut_turned}
use Rattle.pivot_flow.proofs.Recasting.{cut_bare}
use Rattle.pivot_flow.specs.Tree.{at, task_of, tree_of}
use Rattle.pivot_flow.proofs.pivot.rehang.Goals as goal

pub spread-requires-clause-cut : goal.spread-requires-clause-cut
spread-requires-clause-cut c =
    let n = length c.args.parent.now in
    let t = task_of n c.args.ends.now [] in
    let h = tree_of c.args.parent.now c.args.arc.now c.args.depth.now in
    let tu = c.hang.ensures.turned in
    let lens = c.hang.auto.parent in
    let cut = cut_bare n c.args.ends.now (at c.hang.new.parent) (at c.args.depth.now) c.args.inner
    c.args.outer
    (cut_turned t h (at c.hang.new.parent) (at c.hang.new.arc) c.args.inner c.args.outer
    c.args.entering c.args.x c.requires.hung tu c.requires.inside.0 c.requires.cut
    c.requires.over c.requires.inside.1 c.requires.apart) in
    rw (lens, tu.first.0) cut

pub spread-requires-clause-kids : goal.spread-requires-clause-kids
spread-requires-clause-kids c =
    let lens = c.hang.auto.parent in
    rw lens c.hang.ensures.kids

pub returns-clause-settled : goal.returns-clause-settled
returns-clause-settled c =
    let lens = c.hang.auto.parent in
    let settled =
    rw (
      lens,
      c.hang.ensures.turned.first.0,
      to_z-of_z w64 c.args.by
          c.ranges.by,
    ) at c.spread.ensures in
    settled
