use Rattle.std.proofs.Common.{◌∙◌, subst}
use Rattle.std.specs.Prelude.{IfOk, IfErr, OnOk}
use Rattle.plain_views.specs.Shown.{Shown}
use Rattle.view_numbers.specs.Listed.{Numbers, Fits, IsFull}
use Rattle.tower_numbers.proofs.Eight.{all_eight}
use Rattle.tower_numbers.proofs.numbering.number_above.Goals as goal

pub returns-clause-numbered : goal.returns-clause-numbered
returns-clause-numbered g c =
    subst (λ (p : Shown). IfOk c.number.result (Numbers p))
    (c.four-top.ensures.shows
    ∙ all_eight (g.V.Values.values c.args.values.now) c.args.base.now.graph c.args.layers.now
    c.requires.few)
    c.number.ensures.numbered

pub returns-clause-fits : goal.returns-clause-fits
returns-clause-fits g c =
    subst (λ (p : Shown). OnOk c.number.result (Fits p))
    (c.four-top.ensures.shows
    ∙ all_eight (g.V.Values.values c.args.values.now) c.args.base.now.graph c.args.layers.now
    c.requires.few)
    c.number.ensures.fits

pub returns-clause-full : goal.returns-clause-full
returns-clause-full g c =
    subst (λ (p : Shown). IfErr c.number.result (IsFull p))
    (c.four-top.ensures.shows
    ∙ all_eight (g.V.Values.values c.args.values.now) c.args.base.now.graph c.args.layers.now
    c.requires.few)
    c.number.ensures.full
