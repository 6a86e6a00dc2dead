use Rattle.std.proofs.Common.{◌≡◌, [], drop}
use Rattle.plain_digraph.specs.Facts.{fact_id}
use Rattle.observe_core.specs.Items.{place_all}
use Rattle.fact_table.specs.Filling.{Fresh}
use Rattle.guard_kinds.specs.GuardViews.{guard_seen}
use Rattle.guard_kinds.specs.Putting.{tracking}
use Rattle.fact_table.specs.Table.{facts_of}
use Rattle.guard_kinds.proofs.guard.GuardObserver.build.Given as goal

abbrev pub invariant-loop-f : goal.invariant-loop-f
invariant-loop-f l = record {
  target : place_all fact_id (drop l.f-index l.all) (facts_of l.self.table)
      ≡ place_all fact_id l.all [];
  fresh : Fresh (drop l.f-index l.all) (facts_of l.self.table);
  same : tracking [] (guard_seen l.self) ≡ guard_seen l.fn.self;
}
