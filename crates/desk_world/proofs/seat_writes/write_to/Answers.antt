use Rattle.std.proofs.Common.{sym, ap, ◌∙◌, subst}
use Rattle.desk_seats.specs.Contents.{holding}
use Rattle.desk_seats.specs.contracts.seat.SeatObserver.TheImpl.{watch-value}
use Rattle.desk_world.specs.Claims.{Plays}
use Rattle.desk_world.specs.Values.{HasItem, held_with}
use Rattle.desk_world.proofs.MapsWritten.{own_role}
use Rattle.desk_world.proofs.seat_writes.write_to.Goals as goal

pub set_int-requires-clause-form : goal.set_int-requires-clause-form
set_int-requires-clause-form g c =
    let w = (watch-value g.row.B g.B.Observer g.B.Observer-dict g.B.Destruct-dict).it in
    (subst (λ v. Plays (own_role v) (w c.args.seat.now).seen) c.in-Int.is c.requires.role).form

pub set_int-requires-clause-live : goal.set_int-requires-clause-live
set_int-requires-clause-live g c =
    let w = (watch-value g.row.B g.B.Observer g.B.Observer-dict g.B.Destruct-dict).it in
    subst (λ v. HasItem v c.args.id (w c.args.seat.now).seen) c.in-Int.is c.requires.live

pub set_bool-requires-clause-form : goal.set_bool-requires-clause-form
set_bool-requires-clause-form g c =
    let w = (watch-value g.row.B g.B.Observer g.B.Observer-dict g.B.Destruct-dict).it in
    (subst (λ v. Plays (own_role v) (w c.args.seat.now).seen) c.in-Bool.is c.requires.role).form

pub set_bool-requires-clause-live : goal.set_bool-requires-clause-live
set_bool-requires-clause-live g c =
    let w = (watch-value g.row.B g.B.Observer g.B.Observer-dict g.B.Destruct-dict).it in
    subst (λ v. HasItem v c.args.id (w c.args.seat.now).seen) c.in-Bool.is c.requires.live

pub returns-in-Bool-clause-seen : goal.returns-in-Bool-clause-seen
returns-in-Bool-clause-seen g c =
    let w = (watch-value g.row.B g.B.Observer g.B.Observer-dict g.B.Destruct-dict).it in
    let old = (w c.args.seat.now).seen in
    c.set_bool.ensures.seen ∙ ap (λ v. holding (held_with v c.args.id old) old) (sym c.in-Bool.is)

pub set_text-requires-clause-form : goal.set_text-requires-clause-form
set_text-requires-clause-form g c =
    let w = (watch-value g.row.B g.B.Observer g.B.Observer-dict g.B.Destruct-dict).it in
    (subst (λ v. Plays (own_role v) (w c.args.seat.now).seen) c.in-Text.is c.requires.role).form

pub set_text-requires-clause-live : goal.set_text-requires-clause-live
set_text-requires-clause-live g c =
    let w = (watch-value g.row.B g.B.Observer g.B.Observer-dict g.B.Destruct-dict).it in
    subst (λ v. HasItem v c.args.id (w c.args.seat.now).seen) c.in-Text.is c.requires.live

pub returns-in-Text-clause-seen : goal.returns-in-Text-clause-seen
returns-in-Text-clause-seen g c =
    let w = (watch-value g.row.B g.B.Observer g.B.Observer-dict g.B.Destruct-dict).it in
    let old = (w c.args.seat.now).seen in
    c.set_text.ensures.seen ∙ ap (λ v. holding (held_with v c.args.id old) old) (sym c.in-Text.is)
