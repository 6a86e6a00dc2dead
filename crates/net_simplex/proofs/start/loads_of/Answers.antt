use Rattle.std.proofs.Common.{◌∙◌, pos, arith}
use Rattle.std.proofs.Math.ListN.{length-set}
use Rattle.plain_certificates.specs.Tables.{at}
use Rattle.net_simplex.specs.Start.{IsLoad}
use Rattle.task_bounds.proofs.Filled.{set_more}
use Rattle.net_simplex.proofs.start.loads_of.Goals as goal

pub loop-k-preserved : goal.loop-k-preserved
loop-k-preserved c =
    let was = c.loop-k.invariant in
    let all = was.all in
    record {
      all = length-set c.loop-k.loads.items c.loop-k.k c.load_at.result ∙ was.all;
      each = set_more 0 (λ j x. IsLoad c.args.m (at (pos 0) c.args.excess.now) j x)
          c.loop-k.loads.items c.loop-k.k c.load_at.result (omega (arith, all)) was.each
          c.load_at.ensures;
    }
