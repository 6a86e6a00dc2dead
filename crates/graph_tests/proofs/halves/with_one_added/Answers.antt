use Rattle.std.proofs.Common.{sym, subst}
use Rattle.observe_core.specs.Conditions.{CanAdd}
use Rattle.graph_tests.proofs.Halving.{can_add_first}
use Rattle.graph_tests.proofs.halves.with_one_added.Goals as goal

pub add-requires : goal.add-requires
add-requires c =
    subst (CanAdd c.args.f) (sym c.new-half.ensures) (can_add_first c.args.f c.requires)
