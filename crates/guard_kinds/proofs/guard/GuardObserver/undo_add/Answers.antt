use Rattle.guard_kinds.specs.GuardViews.{guard_seen}
use Rattle.guard_kinds.proofs.GuardLemmas.{was-added}
use Rattle.guard_kinds.proofs.guard.GuardObserver.undo_add.Goals as goal

pub take-requires : goal.take-requires
take-requires c =
    was-added (guard_seen c.args.self.now) c.args.f c.args.self.now.guards c.requires.same
