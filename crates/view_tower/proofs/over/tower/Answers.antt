use Rattle.std.proofs.Common.{◌≡◌, ◌∙◌, ap, take}
use Rattle.std.proofs.lemmas.List.{take_all}
use Rattle.plain_views.specs.Towers.{shown}
use Rattle.view_tower.specs.Layers.{tower_of}
use Rattle.view_tower.proofs.over.tower.Goals as goal

pub invariant_of-result : goal.invariant_of-result
invariant_of-result g c =
    let whole : take 8 c.args.layers.now ≡ c.args.layers.now =
    take_all 8 c.args.layers.now c.requires.few in
    record {
      live = c.requires.live;
      shows = c.four-top.ensures.shows
          ∙ ap (λ l. shown (g.V.Values.values c.args.values.now) c.args.base.now.graph (tower_of l))
          whole;
    }
