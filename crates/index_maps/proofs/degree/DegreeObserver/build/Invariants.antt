use Rattle.std.proofs.Common.{◌≡◌, ◌≤◌, [], map, drop, length}
use Rattle.observe_core.specs.Facts.{end_of}
use Rattle.observe_core.specs.Items.{place_all, number_id}
use Rattle.index_maps.specs.DegreeViews.{ends_of_degree, reach_of}
use Rattle.index_maps.proofs.degree.DegreeObserver.build.Given as goal

abbrev pub invariant-loop-f : goal.invariant-loop-f
invariant-loop-f l = record {
  out : l.self.out ≡ l.fn.self.out;
  target : place_all number_id (map (end_of l.fn.self.out) (drop l.f-index l.all)) (ends_of_degree
      l.self) ≡ place_all number_id (map (end_of l.fn.self.out) l.all) [];
  counted : length (ends_of_degree l.self) ≡ l.f-index;
  reach : reach_of l.fn.self ≤ reach_of l.self;
}
