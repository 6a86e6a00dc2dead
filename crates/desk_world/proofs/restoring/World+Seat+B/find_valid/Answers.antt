use Rattle.std.proofs.Common.{sym, ap, ◌∙◌}
use Rattle.std.specs.Option.{option_copied}
use Rattle.desk_seats.specs.contracts.seat.SeatObserver.TheImpl.{watch-value}
use Rattle.desk_world.proofs.RestoreCommands.{none_known, stale_known, valid_known}
use Rattle.desk_world.proofs.restoring.World+Seat+B.find_valid.Goals as goal

pub returns-in-None-clause-meets : goal.returns-in-None-clause-meets
returns-in-None-clause-meets g c =
    let w = (watch-value g.row.B g.B.Observer g.B.Observer-dict g.B.Destruct-dict).it in
    none_known w c.args.self.now c.requires c.args.name.now
    (sym c.get.ensures.found ∙ ap option_copied c.in-None.is) c.unknown.result c.unknown.ensures

pub returns-then-not-snapshot_valid-clause-meets : goal.returns-then-not-snapshot_valid-clause-meets
returns-then-not-snapshot_valid-clause-meets g c =
    let w = (watch-value g.row.B g.B.Observer g.B.Observer-dict g.B.Destruct-dict).it in
    stale_known w c.args.self.now c.requires c.args.name.now _
    (sym c.get.ensures.found ∙ ap option_copied c.in-Some.is)
    (sym c.snapshot_valid.ensures ∙ c.if-not-snapshot_valid.true) c.stale.result c.stale.ensures

pub returns-else-not-snapshot_valid : goal.returns-else-not-snapshot_valid
returns-else-not-snapshot_valid g c =
    let w = (watch-value g.row.B g.B.Observer g.B.Observer-dict g.B.Destruct-dict).it in
    let found = sym c.get.ensures.found ∙ ap option_copied c.in-Some.is in
    let valid = sym c.snapshot_valid.ensures ∙ c.if-not-snapshot_valid.false in
    record {
      meets = valid_known w c.args.self.now c.requires c.args.name.now _ found valid;
      found = found;
      valid = valid;
    }
