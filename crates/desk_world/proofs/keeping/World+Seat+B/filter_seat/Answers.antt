use Rattle.std.proofs.Common.{IfSome, subst}
use Rattle.script_words.specs.declared.commands.MapType.TheVariants as types
use Rattle.desk_seats.specs.contracts.seat.SeatObserver.TheImpl.{watch-value}
use Rattle.desk_world.specs.Plain.{plain_of}
use Rattle.desk_world.specs.Values.{HasType}
use Rattle.desk_world.proofs.keeping.World+Seat+B.filter_seat.Goals as goal

pub map_seat-requires-clause-there : goal.map_seat-requires-clause-there
map_seat-requires-clause-there g c =
    let w = (watch-value g.row.B g.B.Observer g.B.Observer-dict g.B.Destruct-dict).it in
    let world = plain_of w c.args.self.now in (
      types.Bools,
      subst (λ o. IfSome o (λ name. HasType world c.args.sort name types.Bools)) c.in-Some.is
          c.requires.bools,
    )

pub returns-in-Some : goal.returns-in-Some
returns-in-Some g c =
    let w = (watch-value g.row.B g.B.Observer g.B.Observer-dict g.B.Destruct-dict).it in
    let world = plain_of w c.args.self.now in
    let typed = subst (λ o. IfSome o (λ name. HasType world c.args.sort name types.Bools))
    c.in-Some.is c.requires.bools in
    rw c.in-Some.is (c.map_seat.ensures types.Bools typed)

pub returns-in-None : goal.returns-in-None
returns-in-None g c = rw c.in-None.is tt
