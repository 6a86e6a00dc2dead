use Rattle.std.proofs.Common.{arith}
use Rattle.observe_core.specs.Facts.{end_of}
use Rattle.observe_core.specs.Items.{drop_number}
use Rattle.index_maps.specs.Counted.{turned}
use Rattle.index_maps.specs.DegreeViews.{ends_of_degree}
use Rattle.index_maps.proofs.DegreeLemmas.{few-ends, above-put}
use Rattle.index_maps.proofs.degree.DegreeObserver.undo_shift.Goals as goal

pub turn-requires-clause-room : goal.turn-requires-clause-room
turn-requires-clause-room c =
    let self = c.args.self.now in
    let a = above-put (end_of self.out c.args.old)
    (drop_number (end_of self.out c.args.new) (ends_of_degree self)) in
    let r = c.requires.reached in
    omega (arith, a, r)

pub turn-requires-clause-small : goal.turn-requires-clause-small
turn-requires-clause-small c =
    let self = c.args.self.now in
    let from = end_of self.out c.args.new in
    let to = end_of self.out c.args.old in
    let w = few-ends self.out (turned from to (ends_of_degree self)) c.requires.could.live to
    c.requires.could.is_live c.requires.could.fits.held in
    omega (arith, w)
