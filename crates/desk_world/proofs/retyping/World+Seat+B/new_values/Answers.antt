use Rattle.std.proofs.Common.{sym, ap, ◌∙◌, subst}
use Rattle.plain_digraph.specs.Items.{facts}
use Rattle.list_digraph.specs.Roomy.{Roomy}
use Rattle.observe_core.specs.Conditions.{CanBuild}
use Rattle.alter_graph.proofs.Attached.{may_build}
use Rattle.desk_seats.specs.contracts.seat.SeatObserver.TheImpl.{watch-value}
use Rattle.desk_world.specs.Plain.{plain_of}
use Rattle.desk_world.proofs.RetypeSteps.{values_built, values_new}
use Rattle.desk_world.proofs.retyping.World+Seat+B.new_values.Goals as goal

pub build-requires : goal.build-requires
build-requires g c =
    let w = (watch-value g.row.B g.B.Observer g.B.Observer-dict g.B.Destruct-dict).it in
    let empty = (w c.empty_map-seat.result).seen in
    subst (λ all. CanBuild all empty)
    (sym (c.as_slice.ensures.value ∙ c.in_ok-all.ensures
    ∙ ap (λ (r : Roomy). facts r.graph c.args.sort) c.graph.ensures))
    (may_build c.args.self.now.graph.graph.graph c.args.sort c.requires.graph.valid empty
    c.empty_map-seat.ensures.empty)

pub returns-in-Ok-clause-seat : goal.returns-in-Ok-clause-seat
returns-in-Ok-clause-seat g c =
    let w = (watch-value g.row.B g.B.Observer g.B.Observer-dict g.B.Destruct-dict).it in
    let empty = (w c.empty_map-seat.result).seen in
    values_built w c.args.self.now c.requires c.args.sort c.args.kind empty
    (w c.build.new.self).seen c.build.result c.as_slice.result.now
    (c.as_slice.ensures.value ∙ c.in_ok-all.ensures
    ∙ ap (λ (r : Roomy). facts r.graph c.args.sort) c.graph.ensures)
    c.in-Ok.is c.build.ensures.told c.empty_map-seat.ensures.empty c.empty_map-seat.ensures.counts
    c.empty_map-seat.ensures.role

pub returns-in-Ok-clause-new : goal.returns-in-Ok-clause-new
returns-in-Ok-clause-new g c =
    let w = (watch-value g.row.B g.B.Observer g.B.Observer-dict g.B.Destruct-dict).it in
    let empty = (w c.empty_map-seat.result).seen in
    values_new w c.args.self.now c.requires c.args.sort c.args.kind empty
    (w c.build.new.self).seen c.build.result c.as_slice.result.now
    (c.as_slice.ensures.value ∙ c.in_ok-all.ensures
    ∙ ap (λ (r : Roomy). facts r.graph c.args.sort) c.graph.ensures)
    c.in-Ok.is c.build.ensures.told c.empty_map-seat.ensures.empty c.empty_map-seat.ensures.counts
    c.empty_map-seat.ensures.role
