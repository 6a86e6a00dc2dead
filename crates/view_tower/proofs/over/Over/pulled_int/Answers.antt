use Rattle.std.proofs.Common.{refl}
use Rattle.plain_views.specs.Towers.{shown}
use Rattle.view_tower.specs.Layers.{tower_of}
use Rattle.view_tower.proofs.Stacked.{origin_is_live}
use Rattle.view_tower.proofs.over.Over.pulled_int.Goals as goal

pub arc_int_at-requires-clause-live : goal.arc_int_at-requires-clause-live
arc_int_at-requires-clause-live g c =
    let s = c.args.self.now in
    let values = g.V.Values.values s.values.now in
    let tower = tower_of s.layers.now in
    origin_is_live values s.base.now.graph (g.V.Values.is_live s.values.now)
    c.count.ensures.valid s.live (shown values s.base.now.graph tower) tower refl c.args.a.0
    c.requires.shown
