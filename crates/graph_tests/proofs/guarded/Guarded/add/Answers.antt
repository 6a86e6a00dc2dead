use Rattle.std.proofs.Common.{rules, ◌≡◌, sym, subst}
use Rattle.observe_core.specs.declared.changes.Change.TheVariants.{Add}
use Rattle.observe_core.specs.Fits.{Fits}
use Rattle.fact_table.specs.Table.{facts_of}
use Rattle.guard_kinds.specs.GuardViews.{guard_seen}
use Rattle.graph_tests.proofs.Guarding.{may_undo, undone}
use Rattle.graph_tests.proofs.guarded.Guarded.add.Goals as goal

pub undo_add-requires : goal.undo_add-requires
undo_add-requires c =
    may_undo c.args.self.now.guard c.add.new.self (Add c.args.f)
    (c.can_add.ensures.can c.if-not-can_add.false)
    c.in_default.ensures.told

pub invariant_of-self-then-is_err : goal.invariant_of-self-then-is_err
invariant_of-self-then-is_err c =
    let self = c.args.self.now in
    let back = undone self.guard c.add.new.self (Add c.args.f)
    (c.can_add.ensures.can c.if-not-can_add.false)
    c.in_default.ensures.told c.undo_add.new.self c.undo_add.ensures.untold in
    let same : facts_of c.insert.new.self ≡ facts_of self.facts = search rules in
    record {
      fits =
          subst (λ s. Fits s (facts_of c.insert.new.self)) (sym back)
          (subst (Fits (guard_seen self.guard)) (sym same) self.fits);
    }
