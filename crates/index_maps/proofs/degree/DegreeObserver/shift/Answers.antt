use Rattle.std.proofs.Common.{ap, arith}
use Rattle.observe_core.specs.Facts.{end_of}
use Rattle.index_maps.specs.Counted.{how_often}
use Rattle.index_maps.specs.DegreeViews.{ends_of_degree}
use Rattle.index_maps.proofs.DegreeLemmas.{few-ends, ends-seen, turned-few}
use Rattle.index_maps.proofs.degree.DegreeObserver.shift.Goals as goal

pub turn-requires-clause-small : goal.turn-requires-clause-small
turn-requires-clause-small c =
    let self = c.args.self.now in
    let made = c.make_room.new.self in
    let v = end_of made.out c.args.new in
    let t = turned-few (end_of made.out c.args.old) v (ends_of_degree made) in
    let e = ap (how_often v) (ap ends-seen c.make_room.ensures.same) in
    let w = few-ends self.out (ends_of_degree self) c.requires.live v c.requires.is_live
    c.requires.fits.held in
    omega (arith, t, e, w)
