use Rattle.std.proofs.Common.{◌+◌, ◌≤◌, length, sym, subst, arith}
use Rattle.desk_seats.specs.declared.seat.Seat.{Seat}
use Rattle.desk_seats.specs.contracts.seat.SeatObserver.TheImpl.{watch-value}
use Rattle.desk_world.specs.declared.world.World.{World}
use Rattle.desk_world.proofs.PlacedWalk.{IsPlacing, maps_there, seat_there, placing_passes}
use Rattle.desk_world.proofs.PlacedWalk.{placing_steps, placing_ends, placing_plain}
use Rattle.desk_world.proofs.placing.World+Seat+B.place_anew.Goals as goal
use Rattle.desk_world.proofs.placing.World+Seat+B.place_anew.Goals.{in-Some, in_default}

pub place_item-requires-clause-maps : goal.place_item-requires-clause-maps
place_item-requires-clause-maps g c =
    let w = (watch-value g.row.B g.B.Observer g.B.Observer-dict g.B.Destruct-dict).it in
    maps_there w c.args.self.now c.args.sort c.args.id c.requires.in_step c.loop-place.place
    c.loop-place.self c.loop-place.invariant c.value.result.now c.value.ensures c.in-Some.keys
    c.in-Some.is

pub place_item-requires-clause-seat : goal.place_item-requires-clause-seat
place_item-requires-clause-seat g c =
    let w = (watch-value g.row.B g.B.Observer g.B.Observer-dict g.B.Destruct-dict).it in
    seat_there w c.args.self.now c.args.sort c.args.id c.requires.in_step c.loop-place.place
    c.loop-place.self c.loop-place.invariant c.value.result.now c.value.ensures c.in-Some.keys
    c.in-Some.is

pub loop-place-preserved : goal.loop-place-preserved
loop-place-preserved g c =
    let w = (watch-value g.row.B g.B.Observer g.B.Observer-dict g.B.Destruct-dict).it in
    let Later : World (Seat g.row.B.Denot) → Type 0 = IsPlacing w c.args.self.now c.args.sort
    c.args.id (c.loop-place.place + 1) in
    elim c.match-value.branch [
      | in-Some b ↦
          subst Later (sym b.self-is)
          (placing_steps w c.args.self.now c.args.sort c.args.id c.requires.in_step
          c.loop-place.place c.loop-place.self c.loop-place.invariant c.value.result.now
          c.value.ensures b.in-Some.keys b.in-Some.is b.place_item.new.graph
          b.place_item.ensures.puts b.place_item.ensures.graph b.place_item.ensures.in_step)
      | in_default b ↦
          subst Later (sym b.self-is)
          (placing_passes w c.args.self.now c.args.sort c.args.id c.requires.in_step
          c.loop-place.place c.loop-place.self c.loop-place.invariant c.value.result.now
          c.value.ensures b.in_default.is)
    ]

pub returns-clause-in_step : goal.returns-clause-in_step
returns-clause-in_step g c =
    let w = (watch-value g.row.B g.B.Observer g.B.Observer-dict g.B.Destruct-dict).it in
    let size = c.len-place-end.ensures in
    let over = c.loop-place-test.false in
    let high = c.loop-place.auto.place-end in
    let all : length c.args.self.now.views.rows ≤ c.loop-place.place =
    omega (arith, size, over, high) in
    placing_ends w c.args.self.now c.args.sort c.args.id c.requires.in_step c.loop-place.place
    c.loop-place.self c.loop-place.invariant all

pub returns-clause-same : goal.returns-clause-same
returns-clause-same g c =
    let w = (watch-value g.row.B g.B.Observer g.B.Observer-dict g.B.Destruct-dict).it in
    let size = c.len-place-end.ensures in
    let over = c.loop-place-test.false in
    let high = c.loop-place.auto.place-end in
    let all : length c.args.self.now.views.rows ≤ c.loop-place.place =
    omega (arith, size, over, high) in
    placing_plain w c.args.self.now c.args.sort c.args.id c.requires.in_step c.loop-place.place
    c.loop-place.self c.loop-place.invariant all
