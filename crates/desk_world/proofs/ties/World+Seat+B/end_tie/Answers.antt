use Rattle.std.proofs.Common.{refl, ap, sym, subst, ◌∙◌}
use Rattle.std.specs.Prelude.{IfSome}
use Rattle.std.specs.Option.{option_copied_mut}
use Rattle.notify_chain.specs.Seats.{seat_seen}
use Rattle.alter_graph.specs.Lending.{MayWrite}
use Rattle.desk_seats.specs.contracts.seat.SeatObserver.TheImpl.{watch-value}
use Rattle.desk_world.proofs.AttributesFound.{tie_leads}
use Rattle.desk_world.proofs.TieCalls.{same_tables, ended}
use Rattle.desk_world.proofs.TiesFound.{ties_found, ties_there}
use Rattle.desk_world.proofs.ties.World+Seat+B.end_tie.Goals as goal

pub tie_named-sort-requires : goal.tie_named-sort-requires
tie_named-sort-requires g c = (c.args.text, c.requires.tied)

pub unreachable-requires : goal.unreachable-requires
unreachable-requires g c =
    let w = (watch-value g.row.B g.B.Observer g.B.Observer-dict g.B.Destruct-dict).it in
    let self = c.args.self.now in
    let sort = c.tie_named-sort.result.0 in
    let items = c.tables.result.now in
    ties_there w self sort items c.requires.in_step
    (c.tables.ensures ∙ same_tables self c.replace.new.self sort)
    (sym (ap (λ r. seat_seen w items.ties.0 (option_copied_mut r)) c.in_default.is)
    ∙ c.seat_mut.ensures.value)

pub drop_tie-requires : goal.drop_tie-requires
drop_tie-requires g c =
    let w = (watch-value g.row.B g.B.Observer g.B.Observer-dict g.B.Destruct-dict).it in
    let self = c.args.self.now in
    let sort = c.tie_named-sort.result.0 in
    let items = c.tables.result.now in
    record {
      form = (ties_found w self sort items c.in-Some.seat.now c.requires.in_step
          (c.tables.ensures ∙ same_tables self c.replace.new.self sort)
          (sym (ap (λ r. seat_seen w items.ties.0 (option_copied_mut r)) c.in-Some.is)
          ∙ c.seat_mut.ensures.value)).plays.form;
    }

pub returns : goal.returns
returns g c =
    let w = (watch-value g.row.B g.B.Observer g.B.Observer-dict g.B.Destruct-dict).it in
    let self = c.args.self.now in
    let sort = c.tie_named-sort.result.0 in
    let number = c.tie_named-sort.result.1 in
    let name = c.args.name.now in
    let items = c.tables.result.now in
    let found =
    sym (ap (λ r. seat_seen w items.ties.0 (option_copied_mut r)) c.in-Some.is)
    ∙ c.seat_mut.ensures.value in
    let may = subst (λ r. IfSome r (λ o. MayWrite w sort items.ties.0 self.graph o.now))
    c.in-Some.is c.seat_mut.ensures.writes in
    let row = c.tie_named-sort.ensures in
    let tie = tie_leads w self name c.replace.ensures.differ c.args.text sort number row
    c.requires.tied in
    let done = ended w self sort items c.in-Some.seat.now c.drop_tie.new.self c.requires.in_step
    (c.tables.ensures ∙ same_tables self c.replace.new.self sort) found may number
    c.drop_tie.ensures.seen c.drop_tie.ensures.fits c.replace.new.self name c.args.text tie.id
    c.replace.ensures.differ row c.replace.ensures.rows tie.leads tie.label_is in
    record { plain = done.plain; in_step = done.in_step; graph = refl }
