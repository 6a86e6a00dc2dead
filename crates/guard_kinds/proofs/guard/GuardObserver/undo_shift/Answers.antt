use Rattle.std.proofs.Common.{IsTrue, sym, subst}
use Rattle.plain_digraph.specs.Facts.{fact_id}
use Rattle.observe_core.specs.Facts.{IsInBounds}
use Rattle.plain_digraph.specs.Rising.{swapped}
use Rattle.observe_core.specs.Items.{has_id}
use Rattle.observe_core.proofs.ItemLemmas.{contains-has}
use Rattle.guard_kinds.specs.GuardViews.{guard_seen}
use Rattle.fact_table.specs.Table.{facts_of}
use Rattle.fact_table.specs.TableFacts.{table-bounded}
use Rattle.guard_kinds.proofs.GuardLemmas.{tracked, was-shifted, all-swapped, law-breaks}
use Rattle.guard_kinds.proofs.guard.GuardObserver.undo_shift.Goals as goal

pub exchange-requires-clause-there : goal.exchange-requires-clause-there
exchange-requires-clause-there c =
    let self = c.args.self.now in
    let was = swapped fact_id c.args.old (facts_of self.table) in
    let there = tracked self.kind was c.requires.could.live c.args.old self.guards
    c.requires.could.fits.guard c.requires.could.tracked in
    let has = subst (λ i. IsTrue (has_id fact_id i was)) (sym c.requires.could.same_id)
    (contains-has fact_id c.args.old was there) in
    was-shifted (guard_seen self) c.args.old c.args.new has c.requires.same

pub exchange-requires-clause-within : goal.exchange-requires-clause-within
exchange-requires-clause-within c =
    let self = c.args.self.now in
    let was = swapped fact_id c.args.old (facts_of self.table) in
    law-breaks self.kind self.k was
    (all-swapped IsInBounds c.args.old (facts_of self.table) c.requires.could.old_bounded
    (table-bounded self.table)) c.requires.sound.lawful
