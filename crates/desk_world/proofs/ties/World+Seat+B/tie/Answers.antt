use Rattle.std.proofs.Common.{refl, sym, ap, subst, ◌∙◌, None}
use Rattle.std.specs.Option.{option_or}
use Rattle.script_words.specs.declared.commands.Command.TheVariants as commands
use Rattle.report_text.specs.declared.faults.StepFault.TheVariants as faults
use Rattle.report_text.specs.declared.replies.Reply.TheVariants.{Quiet}
use Rattle.plain_world.specs.declared.answers.Answer.TheVariants.{Answered}
use Rattle.plain_world.specs.Steps.{Step}
use Rattle.plain_world.proofs.CommandsKept.{commands_kept}
use Rattle.desk_seats.specs.contracts.seat.SeatObserver.TheImpl.{watch-value}
use Rattle.desk_world.specs.Faults.{Answers}
use Rattle.desk_world.specs.Plain.{plain_of}
use Rattle.desk_world.proofs.Answered.{same_stamps, still_valid}
use Rattle.desk_world.proofs.Demanded.{refused}
use Rattle.desk_world.proofs.Handed.{handed_on}
use Rattle.desk_world.proofs.MapCommands.{left}
use Rattle.desk_world.proofs.ties.World+Seat+B.tie.Goals as goal

pub returns-in_err-id : goal.returns-in_err-id
returns-in_err-id g c =
    let w = (watch-value g.row.B g.B.Observer g.B.Observer-dict g.B.Destruct-dict).it in
    let world = plain_of w c.args.self.now in
    let asked = commands.Tie c.args.attribute.now c.args.sort in
    record {
      step = handed_on (Answers world asked world) c.from_residual.result _
          c.from_residual.ensures.1 (refused world asked _ c.in_err-id.ensures.meets);
      in_step = c.requires.in_step;
      stamps = same_stamps _ _ refl;
    }

pub returns-in_err-start_tie : goal.returns-in_err-start_tie
returns-in_err-start_tie g c =
    let w = (watch-value g.row.B g.B.Observer g.B.Observer-dict g.B.Destruct-dict).it in
    let self = c.args.self.now in
    let last = c.start_tie.new.self in
    let world = plain_of w self in
    let asked = commands.Tie c.args.attribute.now c.args.sort in
    let same = c.in_err-start_tie.ensures.same in
    record {
      step = handed_on (Answers world asked (plain_of w last))
          c.from_residual-in_err-start_tie.result faults.Memory
          c.from_residual-in_err-start_tie.ensures.1 same;
      in_step = still_valid w self last c.start_tie.ensures.in_step same c.requires.in_step;
      stamps = same_stamps _ _ (ap (λ r. r.graph.stamps) c.start_tie.ensures.graph);
    }

pub returns : goal.returns
returns g c =
    let w = (watch-value g.row.B g.B.Observer g.B.Observer-dict g.B.Destruct-dict).it in
    let self = c.args.self.now in
    let last = c.start_tie.new.self in
    let world = plain_of w self in
    let asked = commands.Tie c.args.attribute.now c.args.sort in
    let step : Step world asked (Answered Quiet) (plain_of w last) = (
      ap (λ o. option_or o None) c.in_ok-id.ensures.meets,
      (refl, c.in_ok-start_tie.ensures.tied),
    ) in
    record {
      step = step;
      in_step = record {
        seats = c.start_tie.ensures.in_step;
        valid = commands_kept world (plain_of w last) asked (Answered Quiet)
            c.requires.in_step.valid tt (left world c.requires.stamps) step;
      };
      stamps = same_stamps _ _ (ap (λ r. r.graph.stamps) c.start_tie.ensures.graph);
    }
