use Rattle.std.proofs.Common.{sym, ap, ◌∙◌}
use Rattle.std.specs.Option.{option_copied}
use Rattle.base_items.specs.declared.items.ItemSort.TheVariants.{Arc}
use Rattle.alter_graph.specs.Chains.{chains_seen}
use Rattle.notify_chain.specs.Seats.{seat_seen}
use Rattle.kept_views.specs.Views.{arcs_of}
use Rattle.desk_seats.specs.contracts.seat.SeatObserver.TheImpl.{watch-value}
use Rattle.desk_world.specs.Placing.{own_role}
use Rattle.desk_world.proofs.KeptShown.{none_sits, plays_there, items_there, shape_is}
use Rattle.desk_world.proofs.kept_listings.World+Seat+B.kept_arcs.Goals as goal

pub unreachable-requires : goal.unreachable-requires
unreachable-requires g c =
    let w = (watch-value g.row.B g.B.Observer g.B.Observer-dict g.B.Destruct-dict).it in
    let keys = c.args.keys.now in
    none_sits w (chains_seen w c.args.self.now.graph.chains) Arc keys.arcs.0
    (own_role Arc keys.maps) c.requires
    (sym (ap (λ r. seat_seen w keys.arcs.0 (option_copied r)) c.in-None.is) ∙ c.seat.ensures)

pub kept_arcs-requires : goal.kept_arcs-requires
kept_arcs-requires g c =
    let w = (watch-value g.row.B g.B.Observer g.B.Observer-dict g.B.Destruct-dict).it in
    let keys = c.args.keys.now in
    (plays_there w (chains_seen w c.args.self.now.graph.chains) Arc keys.arcs.0
    (own_role Arc keys.maps) c.requires c.in-Some.seat.now
    (sym (ap (λ r. seat_seen w keys.arcs.0 (option_copied r)) c.in-Some.is) ∙ c.seat.ensures)).form

pub returns-clause-arcs : goal.returns-clause-arcs
returns-clause-arcs g c =
    let w = (watch-value g.row.B g.B.Observer g.B.Observer-dict g.B.Destruct-dict).it in
    let keys = c.args.keys.now in
    items_there w (chains_seen w c.args.self.now.graph.chains) Arc keys.arcs.0
    (own_role Arc keys.maps) c.requires c.in-Some.seat.now
    (sym (ap (λ r. seat_seen w keys.arcs.0 (option_copied r)) c.in-Some.is) ∙ c.seat.ensures)
    (arcs_of c.kept_arcs.result.now) c.kept_arcs.ensures.arcs

pub returns-clause-shape : goal.returns-clause-shape
returns-clause-shape g c =
    let w = (watch-value g.row.B g.B.Observer g.B.Observer-dict g.B.Destruct-dict).it in
    let keys = c.args.keys.now in
    shape_is keys.maps (w c.in-Some.seat.now).seen c.kept_arcs.result.now.shape
    (plays_there w (chains_seen w c.args.self.now.graph.chains) Arc keys.arcs.0
    (own_role Arc keys.maps) c.requires c.in-Some.seat.now
    (sym (ap (λ r. seat_seen w keys.arcs.0 (option_copied r)) c.in-Some.is) ∙ c.seat.ensures))
    c.kept_arcs.ensures.shape
