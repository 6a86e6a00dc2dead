use Rattle.std.proofs.Common.{◌∙◌, ap}
use Rattle.plain_digraph.specs.Lists.{has}
use Rattle.plain_views.specs.Shown.{Shown}
use Rattle.tower_numbers.proofs.Eight.{all_eight}
use Rattle.tower_numbers.proofs.finding.shows_above.Goals as goal

pub returns : goal.returns
returns g c =
    c.has_node.ensures
    ∙ ap (λ (p : Shown). has p.nodes c.args.node)
    (c.four-top.ensures.shows
    ∙ all_eight (g.V.Values.values c.args.values.now) c.args.base.now.graph c.args.layers.now
    c.requires.few)
