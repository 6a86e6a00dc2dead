use Rattle.std.proofs.Common.{rules, IsTrue, subst}
use Rattle.fact_table.specs.Table.{facts_of}
use Rattle.kept_views.specs.Views.{nodes_of}
use Rattle.kept_views.proofs.ItemsLemmas.{has-marked}
use Rattle.kept_views.proofs.Undoing.{moved_is_there, whole_reach}
use Rattle.kept_views.proofs.nodes.KeptNodesObserver.undo_shift.Goals as goal

pub unreachable-requires : goal.unreachable-requires
unreachable-requires c =
    let k = c.args.self.now in
    let old = c.args.old in
    let fs = facts_of k.items.table in
    let could = c.requires.could in
    let there = moved_is_there old (nodes_of k) could.live could.fits.held could.tracked in
    let has = subst IsTrue (has-marked k.items.marks.items old.id fs) there in
    let o = c.exchange.ensures.succeeds there
    (whole_reach k.items.orders old fs k.whole k.items.ordered has) in
    search (rules, o)
