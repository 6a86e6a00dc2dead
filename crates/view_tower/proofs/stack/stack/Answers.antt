use Rattle.std.proofs.Common.{rules, sym, ◌∙◌, ap, take, ◌<◌, length}
use Rattle.base_items.specs.declared.items.ItemSort.TheVariants as sorts
use Rattle.plain_views.specs.Towers.{base_node, node_bool, arc_bool, arc_int, passes, shown}
use Rattle.plain_views.specs.Marks.{arc_origin}
use Rattle.view_tower.specs.declared.layers.Layer.TheVariants.{Reverse, Sub, Residual}
use Rattle.view_tower.specs.Layers.{tower_of}
use Rattle.view_tower.specs.Origins.{is_live_origin}
use Rattle.view_tower.proofs.Stacked.{node_is_live, origin_is_live, sub_level, residual_level}
use Rattle.view_tower.proofs.Stacked.{tower_step}
use Rattle.view_tower.proofs.stack.stack.Goals as goal

pub new-requires-in-Sub-2-clause-nodes : goal.new-requires-in-Sub-2-clause-nodes
new-requires-in-Sub-2-clause-nodes g c = λ node at.
    let made = c.new-in-Sub.ensures in
    (λ i. g.V.Values.is_live (made.values i) sorts.Node (base_node (tower_of (made.below i)) node))
    ∙ node_is_live (g.V.Values.values c.args.values.now) c.args.base.now.graph
    (g.V.Values.is_live c.args.values.now) c.count.ensures.valid c.requires.live
    (g.G.Shown.graph c.args.below) (tower_of (take c.args.at c.args.layers.now)) c.requires.shows
    node at

pub new-requires-in-Sub-2-clause-arcs : goal.new-requires-in-Sub-2-clause-arcs
new-requires-in-Sub-2-clause-arcs g c = λ arc at.
    let made = c.new-in-Sub.ensures in
    (λ i. is_live_origin (g.V.Values.is_live (made.values i))
    (arc_origin (tower_of (made.below i)) arc))
    ∙ origin_is_live (g.V.Values.values c.args.values.now) c.args.base.now.graph
    (g.V.Values.is_live c.args.values.now) c.count.ensures.valid c.requires.live
    (g.G.Shown.graph c.args.below) (tower_of (take c.args.at c.args.layers.now)) c.requires.shows
    arc at

pub new-requires-in-Residual-2-clause-arcs : goal.new-requires-in-Residual-2-clause-arcs
new-requires-in-Residual-2-clause-arcs g c = λ arc at.
    let made = c.new-in-Residual.ensures in
    (λ i. is_live_origin (g.V.Values.is_live (made.values i))
    (arc_origin (tower_of (made.below i)) arc))
    ∙ origin_is_live (g.V.Values.values c.args.values.now) c.args.base.now.graph
    (g.V.Values.is_live c.args.values.now) c.count.ensures.valid c.requires.live
    (g.G.Shown.graph c.args.below) (tower_of (take c.args.at c.args.layers.now)) c.requires.shows
    arc at

pub returns-in-Sub-clause-shows : goal.returns-in-Sub-clause-shows
returns-in-Sub-clause-shows g c =
    let made = c.new-in-Sub.ensures in
    let inside : c.args.at < length c.args.layers.now = search rules in
    sub_level _ _ (λ s. arc_int (g.V.Values.values s.values.now) (tower_of s.below.now) s.cap)
    (λ s. arc_int (g.V.Values.values s.values.now) (tower_of s.below.now) s.flow)
    c.new-in-Sub-2.result.how (g.G.Shown.graph c.new-in-Sub-2.result.below)
    (shown (g.V.Values.values c.args.values.now) c.args.base.now.graph
    (tower_of (take c.args.at c.args.layers.now)))
    (ap g.G.Shown.graph c.new-in-Sub-2.ensures.below ∙ c.requires.shows) c.new-in-Sub.result _ _
    c.new-in-Sub-2.ensures.how
    (λ i. passes (g.V.Values.values (made.values i))
    (node_bool (g.V.Values.values (made.values i)) (tower_of (made.below i))) (made.nodes i))
    (λ i. passes (g.V.Values.values (made.values i))
    (arc_bool (g.V.Values.values (made.values i)) (tower_of (made.below i))) (made.arcs i))
    ∙ sym (ap (shown (g.V.Values.values c.args.values.now) c.args.base.now.graph)
    (tower_step c.args.layers.now c.args.at (Sub c.in-Sub.nodes c.in-Sub.arcs) Reverse inside
    c.in-Sub.is))

pub returns-in-Residual-clause-shows : goal.returns-in-Residual-clause-shows
returns-in-Residual-clause-shows g c =
    let made = c.new-in-Residual.ensures in
    let inside : c.args.at < length c.args.layers.now = search rules in
    residual_level _ _ (λ s. arc_int (g.V.Values.values s.values.now) (tower_of s.below.now) s.cap)
    (λ s. arc_int (g.V.Values.values s.values.now) (tower_of s.below.now) s.flow)
    c.new-in-Residual-2.result.how
    (g.G.Shown.graph c.new-in-Residual-2.result.below)
    (shown (g.V.Values.values c.args.values.now) c.args.base.now.graph
    (tower_of (take c.args.at c.args.layers.now)))
    (ap g.G.Shown.graph c.new-in-Residual-2.ensures.below ∙ c.requires.shows)
    c.new-in-Residual.result _ _ c.new-in-Residual-2.ensures.how
    (λ i. arc_int (g.V.Values.values (made.values i)) (tower_of (made.below i)) (made.cap i))
    (λ i. arc_int (g.V.Values.values (made.values i)) (tower_of (made.below i)) (made.flow i))
    ∙ sym (ap (shown (g.V.Values.values c.args.values.now) c.args.base.now.graph)
    (tower_step c.args.layers.now c.args.at (Residual c.in-Residual.cap c.in-Residual.flow) Reverse
    inside c.in-Residual.is))
