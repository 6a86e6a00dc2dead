use Rattle.std.proofs.Common.{◌∙◌, refl, sym, arith}
use Rattle.graph_tests.proofs.Back.{placed_back}
use Rattle.graph_tests.proofs.undone.move_and_place.Goals as goal

pub place-requires : goal.place-requires
place-requires c =
    placed_back c.args.graph.now.graph c.move_from.new.self.graph c.args.arc c.args.node
    c.in_ok-old.old
    c.count-count.ensures.valid c.count-later.ensures.valid (c.if-not-can_move.ensures.arc refl)
    (sym c.fact.ensures ∙ c.in_ok-old.was) c.move_from.ensures.moved (omega arith)
