use Rattle.std.proofs.Common.{refl, ap, ◌∙◌, None, []}
use Rattle.std.specs.Option.{option_or}
use Rattle.script_words.specs.declared.commands.Command.TheVariants as commands
use Rattle.report_text.specs.declared.replies.Reply.TheVariants.{Quiet}
use Rattle.plain_world.specs.declared.answers.Answer.TheVariants.{Answered}
use Rattle.plain_world.specs.Demands as demands
use Rattle.plain_world.specs.Steps.{Step}
use Rattle.plain_world.proofs.CommandsKept.{commands_kept}
use Rattle.desk_seats.specs.contracts.seat.SeatObserver.TheImpl.{watch-value}
use Rattle.desk_world.specs.Faults.{Answers}
use Rattle.desk_world.specs.Plain.{plain_of}
use Rattle.desk_world.proofs.Answered.{same_stamps}
use Rattle.desk_world.proofs.Demanded.{refused, not_met, both_met}
use Rattle.desk_world.proofs.Handed.{handed_on}
use Rattle.desk_world.proofs.MapCommands.{left}
use Rattle.desk_world.proofs.ties.World+Seat+B.untie.Goals as goal

pub returns-in_err-text : goal.returns-in_err-text
returns-in_err-text g c =
    let w = (watch-value g.row.B g.B.Observer g.B.Observer-dict g.B.Destruct-dict).it in
    let world = plain_of w c.args.self.now in
    let name = c.args.attribute.now in
    let asked = commands.Untie name in
    record {
      step = handed_on (Answers world asked world) c.from_residual.result _
          c.from_residual.ensures.1
          (refused world asked _ (not_met world (demands.There demands.TiedAttributes name) [] _
          c.in_err-text.ensures.meets));
      in_step = c.requires.in_step;
      stamps = same_stamps _ _ refl;
    }

pub end_tie-requires-clause-in_step : goal.end_tie-requires-clause-in_step
end_tie-requires-clause-in_step g c = c.requires.in_step.seats

pub end_tie-requires-clause-tied : goal.end_tie-requires-clause-tied
end_tie-requires-clause-tied g c = c.in_ok-text.ensures.label

pub returns : goal.returns
returns g c =
    let w = (watch-value g.row.B g.B.Observer g.B.Observer-dict g.B.Destruct-dict).it in
    let last = c.end_tie.new.self in
    let world = plain_of w c.args.self.now in
    let name = c.args.attribute.now in
    let asked = commands.Untie name in
    let step : Step world asked (Answered Quiet) (plain_of w last) = (
      ap (λ o. option_or o None) (both_met world (demands.There demands.TiedAttributes name) []
          c.in_ok-text.ensures.meets refl),
      (refl, c.end_tie.ensures.plain),
    ) in
    record {
      step = step;
      in_step = record {
        seats = c.end_tie.ensures.in_step;
        valid = commands_kept world (plain_of w last) asked (Answered Quiet)
            c.requires.in_step.valid tt (left world c.requires.stamps) step;
      };
      stamps = same_stamps _ _ (ap (λ r. r.graph.stamps) c.end_tie.ensures.graph);
    }
