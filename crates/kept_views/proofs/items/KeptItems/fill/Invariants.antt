use Rattle.std.proofs.Common.{◌≡◌, ◌≤◌, [], map, drop}
use Rattle.observe_core.specs.Held.{marked_id}
use Rattle.observe_core.specs.Items.{place_all}
use Rattle.observe_core.specs.Told.{new_marked}
use Rattle.fact_table.specs.Filling.{Fresh}
use Rattle.fact_table.specs.Table.{facts_of}
use Rattle.kept_views.specs.ItemViews.{items_of}
use Rattle.kept_views.specs.Ordered.{listings, reach_of}
use Rattle.kept_views.proofs.items.KeptItems.fill.Given as goal

abbrev pub invariant-loop-f : goal.invariant-loop-f
invariant-loop-f l = record {
  all : l.self.all ≡ l.fn.self.all;
  target : place_all marked_id (map (new_marked l.fn.self.all) (drop l.f-index l.all)) (items_of
      l.self) ≡ place_all marked_id (map (new_marked l.fn.self.all) l.all) [];
  listings : listings l.self.orders ≡ listings l.fn.self.orders;
  reach : reach_of l.fn.self.orders ≤ reach_of l.self.orders;
  fresh : Fresh (drop l.f-index l.all) (facts_of l.self.table);
}
