use Rattle.std.proofs.Common.{sym, ap, ◌∙◌, ◌++◌, [], ◌∷◌, arith}
use Rattle.plain_digraph.specs.Items.{arc_fact}
use Rattle.plain_certificates.specs.Tables.{at}
use Rattle.static_digraph.proofs.Telling.{arcs_more}
use Rattle.static_digraph.proofs.told.arc_facts.Goals as goal

pub loop-arc-preserved : goal.loop-arc-preserved
loop-arc-preserved c =
    let arc = c.loop-arc.arc in
    let from = at 0 c.args.from.now in
    let to = at 0 c.args.to.now in
    let l = c.loop-arc-test.true in
    record {
      below = omega (arith, l);
      told = c.in_ok-push.ensures.items
          ∙ (ap (λ facts. facts ++ arc_fact arc (from arc, to arc) arc arc ∷ [])
          c.loop-arc.invariant.told
          ∙ sym (arcs_more arc from to));
    }
