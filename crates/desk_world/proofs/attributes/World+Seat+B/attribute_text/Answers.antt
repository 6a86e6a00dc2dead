use Rattle.std.proofs.Common.{ap, sym, ◌∙◌, Some, None, refl}
use Rattle.std.specs.Option.{option_copied}
use Rattle.desk_seats.specs.contracts.seat.SeatObserver.TheImpl.{watch-value}
use Rattle.desk_world.proofs.AttributesFound.{text_told}
use Rattle.desk_world.proofs.attributes.World+Seat+B.attribute_text.Goals as goal

pub returns-in-Some : goal.returns-in-Some
returns-in-Some g c =
    let w = (watch-value g.row.B g.B.Observer g.B.Observer-dict g.B.Destruct-dict).it in
    text_told w c.args.self.now c.args.name.now c.get.ensures.differ (Some c.in-Some.row.now)
    (sym c.get.ensures.found ∙ ap option_copied c.in-Some.is)
    (option_copied c.row_attribute.result) c.row_attribute.ensures

pub returns-in-None : goal.returns-in-None
returns-in-None g c =
    let w = (watch-value g.row.B g.B.Observer g.B.Observer-dict g.B.Destruct-dict).it in
    text_told w c.args.self.now c.args.name.now c.get.ensures.differ None
    (sym c.get.ensures.found ∙ ap option_copied c.in-None.is) None refl
