use Rattle.std.proofs.Common.{◌≡◌, ◌≢◌, refl, ap, arith}
use Rattle.base_items.specs.declared.items.Fact.{Fact}
use Rattle.observe_core.specs.Conditions.{CanShift}
use Rattle.change_tests.proofs.MoodySeats.{moody_seats, can_shift}
use Rattle.change_tests.proofs.chains.shift.Goals as goal

abbrev before : Fact
before = record { id = 1; from = 2; to = 1; from_at = 4; to_at = 4 }

abbrev moved : Fact
moved = record { id = 1; from = 2; to = 2; from_at = 4; to_at = 5 }

differs : moved ≢ before
differs e = let q : 5 ≡ 4 = ap (λ (f : Fact). f.to_at) e in omega (arith, q)

pub announce_shift-requires : goal.announce_shift-requires
announce_shift-requires c =
    moody_seats (CanShift before moved)
    (can_shift before moved (omega arith, omega arith, omega arith)
    (omega arith, omega arith, omega arith) refl differs)
    c.args.chain.now
