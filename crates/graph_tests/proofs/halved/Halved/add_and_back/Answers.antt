use Rattle.std.proofs.Common.{sym, subst}
use Rattle.observe_core.specs.declared.changes.Change.TheVariants.{Add}
use Rattle.observe_core.specs.Fits.{Fits}
use Rattle.fact_table.specs.Table.{facts_of}
use Rattle.graph_tests.proofs.Halving.{may_undo, undone}
use Rattle.graph_tests.proofs.halved.Halved.add_and_back.Goals as goal

pub undo_add-requires : goal.undo_add-requires
undo_add-requires c =
    may_undo c.args.self.now.half c.add.new.self (Add c.args.f)
    (c.can_add.ensures.can c.if-not-can_add.false)
    c.in_default.ensures.told c.in_default.ensures.reach

pub invariant_of-self-2 : goal.invariant_of-self-2
invariant_of-self-2 c =
    let self = c.args.self.now in
    let back = undone self.half c.add.new.self (Add c.args.f)
    (c.can_add.ensures.can c.if-not-can_add.false)
    c.in_default.ensures.told c.undo_add.new.self c.undo_add.ensures.untold in
    record { fits = subst (λ s. Fits s (facts_of self.facts)) (sym back) self.fits }
