use Rattle.std.proofs.Common.{◌∙◌, ap, arith}
use Rattle.observe_core.specs.Facts.{end_of}
use Rattle.observe_core.specs.Items.{drop_number}
use Rattle.index_maps.specs.Counted.{how_often, turned}
use Rattle.index_maps.specs.DegreeViews.{ends_of_degree}
use Rattle.index_maps.proofs.DegreeLemmas.{ends-seen, put-once}
use Rattle.index_maps.proofs.degree.Degree.turn.Goals as goal

pub raise-requires-clause-small : goal.raise-requires-clause-small
raise-requires-clause-small c =
    let self = c.args.self.now in
    let ends = ends_of_degree self in
    let a = c.end-from.result in
    let b = c.end-to.result in
    let p = put-once b (drop_number a ends) in
    let s = ap (λ n. how_often n (turned a n ends)) c.end-to.ensures
    ∙ ap (λ m. how_often (end_of self.out c.args.new.now)
    (turned m (end_of self.out c.args.new.now) ends)) c.end-from.ensures in
    let w = ap (how_often b) (ap ends-seen c.lower.ensures.seen) in
    omega (arith, p, s, w, c.requires.small)
