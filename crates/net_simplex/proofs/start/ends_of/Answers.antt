use Rattle.std.proofs.Common.{◌∙◌, pos, arith}
use Rattle.std.proofs.Math.ListN.{length-set}
use Rattle.plain_certificates.specs.Tables.{at}
use Rattle.static_digraph.specs.Fixed.{graph_of}
use Rattle.net_simplex.specs.Start.{IsEnd}
use Rattle.task_bounds.proofs.Filled.{set_more}
use Rattle.net_simplex.proofs.start.ends_of.Goals as goal

pub loop-k-preserved : goal.loop-k-preserved
loop-k-preserved c =
    let was = c.loop-k.invariant in
    let all = was.all in
    record {
      all = length-set c.loop-k.ends.items c.loop-k.k c.end_at.result ∙ was.all;
      each = set_more (record { from = 0; to = 0 })
          (λ j e. IsEnd (graph_of c.args.g.now) (at (pos 0) c.args.excess.now) j e)
          c.loop-k.ends.items c.loop-k.k c.end_at.result (omega (arith, all)) was.each
          c.end_at.ensures;
    }
