use Rattle.std.proofs.Common.{rules, ◌≡◌, sym, subst}
use Rattle.observe_core.specs.declared.changes.Change.TheVariants.{Add}
use Rattle.plain_digraph.specs.Facts.{fact_id}
use Rattle.plain_digraph.specs.Rising.{with_item}
use Rattle.observe_core.specs.Fits.{Fits}
use Rattle.observe_core.specs.Told.{added}
use Rattle.observe_core.proofs.FitLaws.{fits-added}
use Rattle.fact_table.specs.Table.{facts_of}
use Rattle.snap_shots.specs.HalfViews.{half_seen}
use Rattle.graph_tests.proofs.Halving.{may_undo, undone}
use Rattle.graph_tests.proofs.halved.Halved.add.Goals as goal

pub undo_add-requires : goal.undo_add-requires
undo_add-requires c =
    may_undo c.args.self.now.half c.add.new.self (Add c.args.f)
    (c.can_add.ensures.can c.if-not-can_add.false)
    c.in_default.ensures.told c.in_default.ensures.reach

pub invariant_of-self-then-is_err : goal.invariant_of-self-then-is_err
invariant_of-self-then-is_err c =
    let self = c.args.self.now in
    let back = undone self.half c.add.new.self (Add c.args.f)
    (c.can_add.ensures.can c.if-not-can_add.false)
    c.in_default.ensures.told c.undo_add.new.self c.undo_add.ensures.untold in
    let same : facts_of c.insert.new.self ≡ facts_of self.facts = search rules in
    record {
      fits =
          subst (λ s. Fits s (facts_of c.insert.new.self)) (sym back)
          (subst (Fits (half_seen self.half)) (sym same) self.fits);
    }

pub invariant_of-self-else-is_err : goal.invariant_of-self-else-is_err
invariant_of-self-else-is_err c =
    let self = c.args.self.now in
    let f = c.args.f in
    let lacks = c.can_add.ensures.lacks c.if-not-can_add.false in
    let put : facts_of c.insert.new.self ≡ with_item fact_id f (facts_of self.facts) =
    search rules in
    let fits = fits-added f (half_seen self.half) (facts_of self.facts) self.fits lacks in
    record {
      fits =
          subst (λ s. Fits s (facts_of c.insert.new.self)) (sym c.in_default.ensures.told)
          (subst (Fits (added f (half_seen self.half))) (sym put) fits);
    }
