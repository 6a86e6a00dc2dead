use Rattle.std.proofs.Common.{◌≡◌, true, false, sym, ap, subst}
use Rattle.observe_core.specs.Seen.{Seen}
use Rattle.desk_seats.specs.Forms.{degrees_form}
use Rattle.desk_seats.specs.declared.seat.Seat.TheVariants.{Degrees}
use Rattle.desk_seats.specs.contracts.seat.SeatObserver.TheImpl.{watch-value}
use Rattle.desk_world.specs.declared.tables.MapKind.TheVariants as maps
use Rattle.desk_world.specs.Claims.{Plays, role_of}
use Rattle.desk_world.proofs.DerivedMaps.{new_degrees, degrees_untold}
use Rattle.desk_world.proofs.new_degrees.no_degrees.Goals as goal

pub returns-in-Out : goal.returns-in-Out
returns-in-Out g c =
    let w = (watch-value g.row.B g.B.Observer g.B.Observer-dict g.B.Destruct-dict).it in
    let came = (w (Degrees c.new.result)).seen in
    let is : came ≡ new_degrees true = ap (λ (s : Seen). record s { form = degrees_form })
    c.new.ensures in
    let fine = degrees_untold true came is in
    record {
      role = subst (λ way. Plays (role_of (maps.Degrees way)) came) (sym c.in-Out.is) fine.plays;
      empty = fine.empty;
      counts = fine.counts;
    }

pub returns-in-In : goal.returns-in-In
returns-in-In g c =
    let w = (watch-value g.row.B g.B.Observer g.B.Observer-dict g.B.Destruct-dict).it in
    let came = (w (Degrees c.new-in-In.result)).seen in
    let is : came ≡ new_degrees false = ap (λ (s : Seen). record s { form = degrees_form })
    c.new-in-In.ensures in
    let fine = degrees_untold false came is in
    record {
      role = subst (λ way. Plays (role_of (maps.Degrees way)) came) (sym c.in-In.is) fine.plays;
      empty = fine.empty;
      counts = fine.counts;
    }
