use Rattle.std.proofs.Common.{arith}
use Rattle.base_items.specs.declared.items.Fact.{Fact}
use Rattle.observe_core.specs.Conditions.{CanAdd}
use Rattle.change_tests.proofs.MoodySeats.{moody_seats, can_add}
use Rattle.change_tests.proofs.chains.add.Goals as goal

abbrev added : Fact
added = record { id = 2; from = 1; to = 1; from_at = 5; to_at = 5 }

pub announce_add-requires : goal.announce_add-requires
announce_add-requires c =
    moody_seats (CanAdd added) (can_add added (omega arith, omega arith, omega arith))
    c.args.chain.now
