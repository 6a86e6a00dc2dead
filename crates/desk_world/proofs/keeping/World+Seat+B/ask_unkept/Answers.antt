use Rattle.std.proofs.Common.{sym, ap, subst, ◌∙◌, Some, None, not, is_some}
use Rattle.std.specs.Option.{option_copied}
use Rattle.report_text.specs.declared.faults.Fault.TheVariants as faults
use Rattle.plain_world.specs.Refusals.{unless}
use Rattle.desk_seats.specs.contracts.seat.SeatObserver.TheImpl.{watch-value}
use Rattle.desk_world.specs.Faults.{Is}
use Rattle.desk_world.proofs.KeepCommands.{kept_new}
use Rattle.desk_world.proofs.keeping.World+Seat+B.ask_unkept.Goals as goal

pub returns-in-None : goal.returns-in-None
returns-in-None g c =
    let w = (watch-value g.row.B g.B.Observer g.B.Observer-dict g.B.Destruct-dict).it in
    kept_new w c.args.self.now c.args.view.now None
    (sym c.get.ensures.found ∙ ap option_copied c.in-None.is)

pub returns-in-None-kept : goal.returns-in-None-kept
returns-in-None-kept g c =
    let w = (watch-value g.row.B g.B.Observer g.B.Observer-dict g.B.Destruct-dict).it in
    let name = c.args.view.now in
    kept_new w c.args.self.now name (Some c.in-Some.row.now)
    (sym c.get.ensures.found ∙ ap option_copied c.in-Some.is)
    ∙ ap (λ o. unless (not (is_some o)) (faults.Taken name)) c.in-None-kept.is

pub returns-in-Some-kept : goal.returns-in-Some-kept
returns-in-Some-kept g c =
    let w = (watch-value g.row.B g.B.Observer g.B.Observer-dict g.B.Destruct-dict).it in
    let name = c.args.view.now in
    subst (λ o. Is o c.taken.result)
    (sym (kept_new w c.args.self.now name (Some c.in-Some.row.now)
    (sym c.get.ensures.found ∙ ap option_copied c.in-Some.is)
    ∙ ap (λ o. unless (not (is_some o)) (faults.Taken name)) c.in-Some-kept.is))
    c.taken.ensures
