use Rattle.std.proofs.Common.{◌+◌, ◌-◌, ◌<◌, ◌≡◌, length, get_or, ◌∙◌, sym, subst, arith}
use Rattle.std.proofs.Math.ListN.{set}
use Rattle.std.proofs.lemmas.List.{get_or_default}
use Rattle.plain_certificates.specs.Tables.{at}
use Rattle.static_digraph.specs.Rows.{AreLinked}
use Rattle.static_digraph.proofs.Linking.{link_more}
use Rattle.static_digraph.proofs.rows.link_arcs.Goals as goal

pub loop-arc-preserved : goal.loop-arc-preserved
loop-arc-preserved c =
    let ends = c.args.ends.now in
    let k = c.loop-arc.arc - 1 in
    let first = c.loop-arc.first.items in
    let next = c.loop-arc.next.items in
    let below = c.loop-arc.invariant.below in
    let some = c.loop-arc-test.true in
    let l : k < length ends = omega (arith, below, some) in
    let is : c.loop-arc.arc ≡ k + 1 = omega (arith, some) in
    let links = subst (AreLinked c.args.nodes (length ends) (at 0 ends) first next) is
    c.loop-arc.invariant.links in
    let inside = c.requires.nodes k 0 l in
    let size = links.firsts in
    let read : c.index.result.now ≡ at 0 first (at 0 ends k) =
    c.index.ensures
    ∙ get_or_default first (get_or ends k 0) c.index.result.now 0
    (omega (arith, inside, size)) in
    record {
      below = omega (arith, l);
      links = subst
          (λ x. AreLinked c.args.nodes (length ends) (at 0 ends) (set first (get_or ends k 0) k)
          (set next k x) k)
          (sym read) (link_more c.args.nodes (length ends) (at 0 ends) first next k l inside links);
    }
