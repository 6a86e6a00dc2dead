use Rattle.std.proofs.Common.{ap, sym, Some, None, ◌∙◌}
use Rattle.std.specs.Option.{option_copied}
use Rattle.desk_seats.specs.contracts.seat.SeatObserver.TheImpl.{watch-value}
use Rattle.desk_world.specs.declared.tables.AttributeRow.TheVariants as rows
use Rattle.desk_world.proofs.AttributesFound.{plain_untied, none_untied}
use Rattle.desk_world.proofs.ties.World+Seat+B.tie_named.Goals as goal

pub unreachable-requires : goal.unreachable-requires
unreachable-requires g c =
    let w = (watch-value g.row.B g.B.Observer g.B.Observer-dict g.B.Destruct-dict).it in
    plain_untied w c.args.self.now c.args.name.now c.get.ensures.differ c.requires.0 c.requires.1
    c.in-Some-Plain.field-0-0
    (sym c.get.ensures.found ∙ ap option_copied c.in-Some-Plain.is
    ∙ ap Some c.in-Some-Plain.field-0-is)

pub unreachable-requires-in-None : goal.unreachable-requires-in-None
unreachable-requires-in-None g c =
    let w = (watch-value g.row.B g.B.Observer g.B.Observer-dict g.B.Destruct-dict).it in
    none_untied w c.args.self.now c.args.name.now c.get.ensures.differ c.requires.0 c.requires.1
    (sym c.get.ensures.found ∙ ap option_copied c.in-None.is)

pub returns : goal.returns
returns g c =
    sym c.get.ensures.found ∙ ap option_copied c.in-Some-Tied.is
    ∙ ap Some c.in-Some-Tied.field-0-is
