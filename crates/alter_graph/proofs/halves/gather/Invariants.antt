use Rattle.std.proofs.Common.{◌≡◌, ◌++◌, length, map}
use Rattle.plain_digraph.specs.PlainSteps.{PlaceBack}
use Rattle.snap_shots.specs.HalfViews.{kept_facts}
use Rattle.alter_graph.specs.Steps.{plain_steps}
use Rattle.alter_graph.proofs.KeptWalk.{all_after}
use Rattle.alter_graph.proofs.halves.gather.Given as goal

abbrev pub invariant-facts : goal.invariant-facts
invariant-facts l = record {
  walked : plain_steps l.steps.items ++ map PlaceBack (all_after l.after (kept_facts l.half))
      ≡ map PlaceBack (kept_facts l.half);
}

abbrev pub decreases-facts : goal.decreases-facts
decreases-facts l = length (all_after l.after (kept_facts l.half))
