use Rattle.std.proofs.Common.{rules, sym, subst}
use Rattle.observe_core.specs.declared.changes.Change.TheVariants.{Shift}
use Rattle.observe_core.specs.Conditions.{CanShift}
use Rattle.observe_core.specs.Fits.{Fits}
use Rattle.fact_table.specs.Table.{facts_of}
use Rattle.snap_shots.specs.HalfViews.{half_seen}
use Rattle.graph_tests.proofs.Halving.{may_undo, undone}
use Rattle.graph_tests.proofs.halved.Halved.shift_and_back.Goals as goal

pub undo_shift-requires : goal.undo_shift-requires
undo_shift-requires c =
    let self = c.args.self.now in
    let old = c.in_ok-old.old in
    let can : CanShift old c.args.new (half_seen self.half) = search rules in
    may_undo self.half c.shift.new.self (Shift old c.args.new) can c.in_default.ensures.told
    c.in_default.ensures.reach

pub invariant_of-self-2 : goal.invariant_of-self-2
invariant_of-self-2 c =
    let self = c.args.self.now in
    let old = c.in_ok-old.old in
    let can : CanShift old c.args.new (half_seen self.half) = search rules in
    let back = undone self.half c.shift.new.self (Shift old c.args.new) can
    c.in_default.ensures.told
    c.undo_shift.new.self c.undo_shift.ensures.untold in
    record { fits = subst (λ s. Fits s (facts_of self.facts)) (sym back) self.fits }
