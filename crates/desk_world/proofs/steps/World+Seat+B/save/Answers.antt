use Rattle.std.proofs.Common.{refl, ◌∙◌}
use Rattle.script_words.specs.declared.commands.Command.TheVariants as commands
use Rattle.report_text.specs.declared.faults.StepFault.TheVariants as faults
use Rattle.report_text.specs.declared.replies.Reply.TheVariants as replies
use Rattle.desk_seats.specs.contracts.seat.SeatObserver.TheImpl.{watch-value}
use Rattle.desk_world.specs.Faults.{Answers}
use Rattle.desk_world.specs.Plain.{plain_of}
use Rattle.desk_world.proofs.Handed.{handed_on}
use Rattle.desk_world.proofs.steps.World+Seat+B.save.Goals as goal

pub returns-in_err-name : goal.returns-in_err-name
returns-in_err-name g c =
    let w = (watch-value g.row.B g.B.Observer g.B.Observer-dict g.B.Destruct-dict).it in
    let world = plain_of w c.args.self.now in
    handed_on (Answers world (commands.Save c.args.file.now) world)
    c.from_residual.result faults.Memory c.from_residual.ensures.1 refl

pub returns-in_err-written : goal.returns-in_err-written
returns-in_err-written g c =
    let w = (watch-value g.row.B g.B.Observer g.B.Observer-dict g.B.Destruct-dict).it in
    let world = plain_of w c.args.self.now in
    handed_on (Answers world (commands.Save c.args.file.now) world)
    c.from_residual-in_err-written.result faults.Memory
    c.from_residual-in_err-written.ensures.1 refl

pub returns : goal.returns
returns g c =
    let name = c.in_ok-name.ensures ∙ c.as_bytes.ensures in
    let bytes = c.from_vec.ensures ∙ c.in_ok-written.ensures in
    (refl, ((λ i. replies.Save (name i) (bytes i)), refl))
