use Rattle.std.proofs.Common.{rules, ◌≤◌, ap, arith}
use Rattle.observe_core.specs.Facts.{ends_of}
use Rattle.observe_core.specs.Items.{above_all}
use Rattle.kept_views.specs.Ordered.{reach_of}
use Rattle.kept_views.specs.Views.{arcs_of}
use Rattle.kept_views.proofs.Undoing.{moved_is_there, ends_reach}
use Rattle.kept_views.proofs.arcs.KeptArcsObserver.undo_shift.Goals as goal

pub unreachable-requires : goal.unreachable-requires
unreachable-requires c =
    let k = c.args.self.now in
    let could = c.requires.could in
    let e = ap (λ l. above_all (ends_of l)) could.fits.held in
    let reached : above_all (ends_of could.live) ≤ reach_of k.items.orders =
    omega (arith, c.requires.reached, e) in
    let there = moved_is_there c.args.old (arcs_of k) could.live could.fits.held could.tracked in
    let reach = ends_reach k.items.orders c.args.old could.live k.by_ends could.tracked reached in
    let o = c.exchange.ensures.succeeds there reach in
    search (rules, o)
