use Rattle.std.proofs.Common.{inl, inr, arith}
use Rattle.std.proofs.lemmas.Int.{ints}
use Rattle.std.proofs.lemmas.Bool.Decides.{eqb_tells}
use Rattle.pivot_flow.proofs.entering.best_of.Goals.{then-gain-best, else-gain-best}
use Rattle.pivot_flow.proofs.entering.best_of.Goals as goal

pub loop-e-preserved : goal.loop-e-preserved
loop-e-preserved c =
    let was = c.loop-e.invariant in
    let gain = c.gain_of-gain in
    elim c.if-gain-best.branch [
      | then-gain-best w ↦
          (let more = w.if-gain-best.true in
          let low = was.low in
          rw w.best-is
          (record {
            low = gain.ensures.low;
            some = gain.ensures.some;
            none = λ z. absurd (omega (arith, ints, more, low, z));
          }))
      | else-gain-best w ↦
          (let less = w.if-gain-best.false in
          let low = gain.ensures.low in
          rw w.best-is
          (record {
            low = was.low;
            some = was.some;
            none = λ z e a b.
                elim (eqb_tells e c.loop-e.e) [
                  | inl q ↦ rw q.1 (gain.ensures.none (omega (arith, ints, less, low, z)))
                  | inr q ↦ (let n = q.1 in was.none z e a (omega (arith, b, n)))
                ];
          }))
    ]
