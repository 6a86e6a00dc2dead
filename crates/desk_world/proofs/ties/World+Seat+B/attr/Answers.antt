use Rattle.std.proofs.Common.{sym, ap, ◌∙◌, refl, Some}
use Rattle.script_words.specs.declared.commands.Command.TheVariants as commands
use Rattle.report_text.specs.declared.faults.StepFault.TheVariants as faults
use Rattle.std.specs.Option.{option_copied}
use Rattle.desk_seats.specs.contracts.seat.SeatObserver.TheImpl.{watch-value}
use Rattle.desk_world.specs.Faults.{Answers}
use Rattle.desk_world.specs.Plain.{plain_of}
use Rattle.desk_world.proofs.AttributeCommands.{no_attribute, attribute_told}
use Rattle.desk_world.proofs.Handed.{handed_on}
use Rattle.desk_world.proofs.ties.World+Seat+B.attr.Goals as goal

pub returns-in-None : goal.returns-in-None
returns-in-None g c =
    let w = (watch-value g.row.B g.B.Observer g.B.Observer-dict g.B.Destruct-dict).it in
    let world = plain_of w c.args.self.now in
    no_attribute world c.args.attribute.now c.unknown.result
    (sym (ap option_copied c.in-None.is) ∙ c.attribute_text.ensures) c.unknown.ensures

pub returns-in_err-copy_text-in-Some : goal.returns-in_err-copy_text-in-Some
returns-in_err-copy_text-in-Some g c =
    let w = (watch-value g.row.B g.B.Observer g.B.Observer-dict g.B.Destruct-dict).it in
    let world = plain_of w c.args.self.now in
    handed_on (Answers world (commands.Attr c.args.attribute.now) world) c.from_residual.result
    faults.Memory c.from_residual.ensures.1 refl

pub returns-in_ok-copy_text-in-Some : goal.returns-in_ok-copy_text-in-Some
returns-in_ok-copy_text-in-Some g c =
    let w = (watch-value g.row.B g.B.Observer g.B.Observer-dict g.B.Destruct-dict).it in
    let world = plain_of w c.args.self.now in
    let text = c.in_ok-copy_text-in-Some.ensures ∙ c.as_bytes.ensures in
    attribute_told world c.args.attribute.now c.in_ok-copy_text-in-Some.field-0
    (ap Some text ∙ sym (ap option_copied c.in-Some.is) ∙ c.attribute_text.ensures)
