use Rattle.std.proofs.Common.{refl, sym, ap, ◌∙◌, ◌∷◌, [], None, Some}
use Rattle.std.specs.Option.{option_or}
use Rattle.base_items.specs.declared.items.ItemSort.TheVariants as sorts
use Rattle.script_words.specs.declared.commands.Command.TheVariants as commands
use Rattle.plain_world.specs.Demands as demands
use Rattle.desk_seats.specs.contracts.seat.SeatObserver.TheImpl.{watch-value}
use Rattle.desk_world.specs.Plain.{plain_of}
use Rattle.desk_world.proofs.Asked.{clears}
use Rattle.desk_world.proofs.Edited.{ends, few_asked}
use Rattle.desk_world.proofs.altering.World+Seat+B.clear.Goals as goal

pub edit-requires : goal.edit-requires
edit-requires g c =
    let w = (watch-value g.row.B g.B.Observer g.B.Observer-dict g.B.Destruct-dict).it in
    let self = c.args.self.now in
    let world = plain_of w self in
    let asks = clears world in
    record {
      in_step = c.requires.in_step;
      stamps = c.requires.stamps;
      can = asks.can;
      few = few_asked world (commands.Clear) _
          c.requires.in_step.valid asks.alters;
    }

pub returns : goal.returns
returns g c =
    let w = (watch-value g.row.B g.B.Observer g.B.Observer-dict g.B.Destruct-dict).it in
    let self = c.args.self.now in
    let world = plain_of w self in
    let last = c.edit.new.self in
    let asks = clears world in
    let done = ends w self last (commands.Clear)
    ([]) [] _ []
    c.requires.in_step c.requires.stamps tt refl asks.alters (refl)
    (λ reply later quiet is. (quiet, is)) c.edit.ensures.in_step c.edit.result
    c.edit.ensures.edits in
    record { step = done.step; in_step = done.in_step; stamps = c.edit.ensures.stamps }
