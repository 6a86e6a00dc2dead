use Rattle.std.proofs.Common.{sym, ap, ◌∙◌, ◌++◌, [], ◌∷◌, arith}
use Rattle.plain_digraph.specs.Items.{node_fact}
use Rattle.static_digraph.proofs.Telling.{nodes_more}
use Rattle.static_digraph.proofs.told.node_facts.Goals as goal

pub loop-node-preserved : goal.loop-node-preserved
loop-node-preserved c =
    let node = c.loop-node.node in
    let l = c.loop-node-test.true in
    record {
      below = omega (arith, l);
      told = c.in_ok-push.ensures.items
          ∙ (ap (λ facts. facts ++ node_fact node node ∷ []) c.loop-node.invariant.told
          ∙ sym (nodes_more node));
    }
