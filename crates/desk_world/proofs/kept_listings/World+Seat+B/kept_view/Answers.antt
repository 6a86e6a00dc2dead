use Rattle.std.proofs.Common.{sym, ap, subst, ◌∙◌, Some, None, is_some}
use Rattle.kept_views.specs.Views.{arcs_of}
use Rattle.kept_walks.specs.Stored.{HasEnds, kept}
use Rattle.desk_seats.specs.contracts.seat.SeatObserver.TheImpl.{watch-value}
use Rattle.desk_world.proofs.KeptShown.{kept_there, sit, ends, shows}
use Rattle.desk_world.proofs.kept_listings.World+Seat+B.kept_view.Goals as goal

pub returns-in_err-row-clause-kept : goal.returns-in_err-row-clause-kept
returns-in_err-row-clause-kept g c =
    let w = (watch-value g.row.B g.B.Observer g.B.Observer-dict g.B.Destruct-dict).it in
    ap is_some c.from_residual.ensures
    ∙ sym (kept_there w c.args.self.now c.args.view.now None (sym c.in_err-row.ensures.found))

pub returns-in_default-clause-kept : goal.returns-in_default-clause-kept
returns-in_default-clause-kept g c =
    let w = (watch-value g.row.B g.B.Observer g.B.Observer-dict g.B.Destruct-dict).it in
    sym (kept_there w c.args.self.now c.args.view.now (Some c.in_ok-row.row.now)
    (sym c.in_ok-row.ensures.found) ∙ ap is_some c.in_default.is)

pub kept_nodes-requires : goal.kept_nodes-requires
kept_nodes-requires g c =
    let w = (watch-value g.row.B g.B.Observer g.B.Observer-dict g.B.Destruct-dict).it in
    (sit w c.args.self.now c.requires.seats c.args.view.now c.in_ok-row.row.now c.in-Some.keys
    (sym c.in_ok-row.ensures.found) c.in-Some.is).nodes

pub kept_arcs-requires : goal.kept_arcs-requires
kept_arcs-requires g c =
    let w = (watch-value g.row.B g.B.Observer g.B.Observer-dict g.B.Destruct-dict).it in
    (sit w c.args.self.now c.requires.seats c.args.view.now c.in_ok-row.row.now c.in-Some.keys
    (sym c.in_ok-row.ensures.found) c.in-Some.is).arcs

pub new-requires : goal.new-requires
new-requires g c =
    let w = (watch-value g.row.B g.B.Observer g.B.Observer-dict g.B.Destruct-dict).it in
    let held = ends w c.args.self.now c.requires.seats c.args.view.now c.in_ok-row.row.now
    c.in-Some.keys (sym c.in_ok-row.ensures.found) c.in-Some.is in
    subst (λ nodes. HasEnds nodes (arcs_of c.kept_arcs.result.now)) (sym c.kept_nodes.ensures)
    (subst (HasEnds _) (sym c.kept_arcs.ensures.arcs) held)

pub returns-clause-shows : goal.returns-clause-shows
returns-clause-shows g c =
    let w = (watch-value g.row.B g.B.Observer g.B.Observer-dict g.B.Destruct-dict).it in
    c.new.ensures
    ∙ (λ i. kept (c.kept_arcs.ensures.shape i) (c.kept_nodes.ensures i)
    (c.kept_arcs.ensures.arcs i))
    ∙ shows w c.args.self.now c.requires.seats c.args.view.now c.in_ok-row.row.now
    c.in-Some.keys (sym c.in_ok-row.ensures.found) c.in-Some.is

pub returns-clause-kept : goal.returns-clause-kept
returns-clause-kept g c =
    let w = (watch-value g.row.B g.B.Observer g.B.Observer-dict g.B.Destruct-dict).it in
    sym (kept_there w c.args.self.now c.args.view.now (Some c.in_ok-row.row.now)
    (sym c.in_ok-row.ensures.found) ∙ ap is_some c.in-Some.is)
