use Rattle.std.proofs.Common.{refl, sym, ap, ◌∙◌, ◌∷◌, [], None, Some}
use Rattle.std.specs.Option.{option_or}
use Rattle.base_items.specs.declared.items.ItemSort.TheVariants as sorts
use Rattle.script_words.specs.declared.commands.Command.TheVariants as commands
use Rattle.plain_world.specs.Demands as demands
use Rattle.desk_seats.specs.contracts.seat.SeatObserver.TheImpl.{watch-value}
use Rattle.desk_world.specs.Faults.{Answers}
use Rattle.desk_world.specs.Plain.{plain_of}
use Rattle.desk_world.proofs.Answered.{same_stamps}
use Rattle.desk_world.proofs.Asked.{turns}
use Rattle.desk_world.proofs.Demanded.{refused, not_met}
use Rattle.desk_world.proofs.Edited.{ends, few_asked}
use Rattle.desk_world.proofs.Handed.{handed_on}
use Rattle.desk_world.proofs.altering.World+Seat+B.turn.Goals as goal

pub returns-in_err-id : goal.returns-in_err-id
returns-in_err-id g c =
    let w = (watch-value g.row.B g.B.Observer g.B.Observer-dict g.B.Destruct-dict).it in
    let self = c.args.self.now in
    let world = plain_of w self in
    let asked = commands.Turn c.args.arc.now in
    record {
      step = handed_on (Answers world asked world) c.from_residual.result _
          c.from_residual.ensures.1
          (refused world asked _ (not_met world (demands.There (demands.Labels sorts.Arc)
          c.args.arc.now) [] _
          c.in_err-id.ensures.meets));
      in_step = c.requires.in_step;
      stamps = same_stamps _ _ refl;
    }

pub edit-requires : goal.edit-requires
edit-requires g c =
    let w = (watch-value g.row.B g.B.Observer g.B.Observer-dict g.B.Destruct-dict).it in
    let self = c.args.self.now in
    let world = plain_of w self in
    let asks = turns world c.requires.in_step.valid.graph_ok c.args.arc.now _
    c.in_ok-id.ensures.found in
    record {
      in_step = c.requires.in_step;
      stamps = c.requires.stamps;
      can = asks.can;
      few = few_asked world (commands.Turn c.args.arc.now) _ c.requires.in_step.valid asks.alters;
    }

pub returns : goal.returns
returns g c =
    let w = (watch-value g.row.B g.B.Observer g.B.Observer-dict g.B.Destruct-dict).it in
    let self = c.args.self.now in
    let world = plain_of w self in
    let last = c.edit.new.self in
    let asks = turns world c.requires.in_step.valid.graph_ok c.args.arc.now _
    c.in_ok-id.ensures.found in
    let done = ends w self last (commands.Turn c.args.arc.now) (demands.There (demands.Labels
    sorts.Arc) c.args.arc.now ∷ []) [] _ []
    c.requires.in_step c.requires.stamps tt refl asks.alters (ap (λ o. option_or o None)
    c.in_ok-id.ensures.meets)
    (λ reply later quiet is. (quiet, is)) c.edit.ensures.in_step c.edit.result
    c.edit.ensures.edits in
    record { step = done.step; in_step = done.in_step; stamps = c.edit.ensures.stamps }
