use Rattle.std.proofs.Common.{◌≡◌, ◌+◌, ◌∙◌, inl, inr, ap, arith}
use Rattle.std.proofs.Math.ListN.{length-set, set}
use Rattle.std.proofs.lemmas.Bool.Decides.{eqb_tells, nat_tests}
use Rattle.net_simplex.proofs.Begun.{tree_begun}
use Rattle.task_bounds.proofs.Filled.{set_here, set_other}
use Rattle.task_bounds.proofs.Filled.{set_more}
use Rattle.net_simplex.proofs.start.first_tree.Goals as goal

pub loop-v-preserved : goal.loop-v-preserved
loop-v-preserved c =
    let was = c.loop-v.invariant in
    let v = c.loop-v.v in
    let arc = c.loop-v.arc.items in
    let next = c.loop-v.next.items in
    let prev = c.loop-v.prev.items in
    let arc_all = was.arc_all in
    let next_all = was.next_all in
    let prev_all = was.prev_all in
    record {
      arc_all = length-set arc v (c.args.m + v) ∙ was.arc_all;
      next_all = length-set next v (v + 1) ∙ was.next_all;
      prev_all = length-set prev (v + 1) v ∙ was.prev_all;
      arc = set_more 0 (λ j x. x ≡ c.args.m + j) arc v (c.args.m + v) (omega (arith, arc_all))
          was.arc (omega arith);
      next = set_more 0 (λ j x. x ≡ j + 1) next v (v + 1) (omega (arith, next_all)) was.next
          (omega arith);
      prev = λ j l. elim (eqb_tells j v) [
        | inl e ↦
            (let q = e.1 in
            rw q (set_here 0 prev (v + 1) v (omega (arith, prev_all))))
        | inr e ↦
            (let q = e.1 in
            set_other 0 prev (v + 1) (j + 1) v (omega (arith, prev_all))
            (grind (arith, nat_tests, q)) ∙ was.prev j (omega (arith, q, l)))
      ];
      last = set_other 0 next v c.args.n (v + 1) (omega (arith, next_all))
          (grind (arith, nat_tests)) ∙ was.last;
      start = set_other 0 prev (v + 1) 0 v (omega (arith, prev_all))
          (grind (arith, nat_tests)) ∙ was.start;
    }

pub returns : goal.returns
returns c =
    let n = c.args.n in
    let was = c.loop-v.invariant in
    tree_begun n c.args.m c.in_ok-parent.parent.items c.loop-v.arc.items
    (set c.in_ok-depth.depth.items n 0) (set c.in_ok-first.first.items n 0) c.loop-v.next.items
    c.loop-v.prev.items (c.in_ok-parent.ensures.items_if_clones_equal (λ y e. e))
    (ap (λ xs. set xs n 0) (c.in_ok-depth.ensures.items_if_clones_equal (λ y e. e)))
    (ap (λ xs. set xs n 0) (c.in_ok-first.ensures.items_if_clones_equal (λ y e. e)))
    was.arc_all was.next_all was.prev_all (λ v l. was.arc v (omega (arith, l)))
    (λ v l. was.next v (omega (arith, l))) (λ v l. was.prev v (omega (arith, l))) was.last was.start
