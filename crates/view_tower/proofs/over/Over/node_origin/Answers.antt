use Rattle.std.proofs.Common.{◌∙◌, ap, refl}
use Rattle.base_items.specs.declared.items.ItemSort.TheVariants as sorts
use Rattle.plain_views.specs.Towers.{shown}
use Rattle.view_tower.specs.Layers.{tower_of}
use Rattle.view_tower.proofs.Stacked.{node_is_live}
use Rattle.view_tower.proofs.over.Over.node_origin.Goals as goal

pub returns-clause-live : goal.returns-clause-live
returns-clause-live g c =
    let s = c.args.self.now in
    let values = g.V.Values.values s.values.now in
    let tower = tower_of s.layers.now in
    ap (g.V.Values.is_live s.values.now sorts.Node) c.base_of.ensures
    ∙ node_is_live values s.base.now.graph (g.V.Values.is_live s.values.now)
    c.count.ensures.valid s.live (shown values s.base.now.graph tower) tower refl c.args.n.0
    c.requires
