use Rattle.std.proofs.Common.{◌≡◌, length, ◌∙◌}
use Rattle.std.proofs.Common.{sym, ap, subst, arith}
use Rattle.std.proofs.lemmas.List.{get_or_default}
use Rattle.plain_certificates.specs.Tables.{at}
use Rattle.static_digraph.specs.Rows.{IsLaying, rows_before}
use Rattle.static_digraph.proofs.Laying.{starts_more, laying_begins, laying_more}
use Rattle.static_digraph.proofs.Laying.{laying_rises, laying_ends}
use Rattle.static_digraph.proofs.rows.rows_by.Goals as goal

pub loop-arc-init : goal.loop-arc-init
loop-arc-init c =
    let ends = c.args.ends.now in
    let was = c.loop-node.invariant in
    let l = c.loop-node-test.true in
    let first = c.in_ok-first.field-0.first.items in
    let next = c.in_ok-first.field-0.next.items in
    let size = was.links.firsts in
    let read : c.index.result.now ≡ at 0 first c.loop-node.node =
    c.index.ensures
    ∙ get_or_default first c.loop-node.node c.index.result.now 0 (omega (arith, l, size)) in
    record {
      inside = l;
      links = was.links;
      starts =
          (let same = ap length was.laid in
          let is = c.len.ensures in
          let count : c.len.result
          ≡ length (rows_before (at 0 ends) (length ends) c.loop-node.node) =
          omega (arith, same, is) in
          c.in_ok-push.ensures.items
          ∙ (rw (was.starts, count)
          (sym (starts_more (at 0 ends) (length ends) c.loop-node.node))));
      laying = subst
          (λ x. IsLaying c.args.nodes (length ends) (at 0 ends) (at 0 next) c.loop-node.node x
          c.loop-node.arcs.items)
          (sym read)
          (laying_begins c.args.nodes (length ends) (at 0 ends) first next c.loop-node.arcs.items
          c.loop-node.node l was.links was.laid);
    }

pub loop-arc-smaller : goal.loop-arc-smaller
loop-arc-smaller c =
    let ends = c.args.ends.now in
    let was = c.loop-arc.invariant in
    let l = c.loop-arc-test.true in
    let next = c.in_ok-first.field-0.next.items in
    let size = was.links.nexts in
    let read : c.index-in-loop-arc.result.now ≡ at 0 next c.loop-arc.arc =
    c.index-in-loop-arc.ensures
    ∙ get_or_default next c.loop-arc.arc c.index-in-loop-arc.result.now 0
    (omega (arith, l, size)) in
    let rises = laying_rises c.args.nodes (length ends) (at 0 ends) (at 0 next) c.loop-node.node
    c.loop-arc.arc c.loop-arc.arcs.items was.laying l in
    omega (arith, l, read, rises)

pub loop-arc-preserved : goal.loop-arc-preserved
loop-arc-preserved c =
    let ends = c.args.ends.now in
    let was = c.loop-arc.invariant in
    let l = c.loop-arc-test.true in
    let next = c.in_ok-first.field-0.next.items in
    let size = was.links.nexts in
    let read : c.index-in-loop-arc.result.now ≡ at 0 next c.loop-arc.arc =
    c.index-in-loop-arc.ensures
    ∙ get_or_default next c.loop-arc.arc c.index-in-loop-arc.result.now 0
    (omega (arith, l, size)) in
    record {
      inside = was.inside;
      links = was.links;
      starts = was.starts;
      laying = rw (c.in_ok-push-2.ensures.items, read)
          (laying_more c.args.nodes (length ends) (at 0 ends) (at 0 next) c.loop-node.node
          c.loop-arc.arc c.loop-arc.arcs.items was.laying l);
    }

pub loop-node-preserved : goal.loop-node-preserved
loop-node-preserved c =
    let ends = c.args.ends.now in
    let was = c.loop-arc.invariant in
    let next = c.in_ok-first.field-0.next.items in
    let over = c.loop-arc-test.false in
    let inside = was.inside in
    record {
      below = omega (arith, inside);
      links = was.links;
      starts = was.starts;
      laid = laying_ends c.args.nodes (length ends) (at 0 ends) (at 0 next) c.loop-node.node
          c.loop-arc.arc c.loop-arc.arcs.items was.laying over;
    }

pub returns : goal.returns
returns c =
    let ends = c.args.ends.now in
    let was = c.loop-node.invariant in
    let below = was.below in
    let over = c.loop-node-test.false in
    let is : c.loop-node.node ≡ c.args.nodes = omega (arith, below, over) in
    let same = ap length was.laid in
    let size = c.len-2.ensures in
    let count : c.len-2.result ≡ length (rows_before (at 0 ends) (length ends) c.loop-node.node) =
    omega (arith, same, size) in
    let starts = c.in_ok-push-3.ensures.items
    ∙ (rw (was.starts, count) (sym (starts_more (at 0 ends) (length ends) c.loop-node.node))) in
    record {
      starts = rw (← is) starts;
      laid = rw (← is) was.laid;
    }
