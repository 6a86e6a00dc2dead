use Rattle.std.proofs.Common.{◌≡◌, ◌≤◌, ◌+◌, [], length, sym, ap, subst, ◌∙◌, arith}
use Rattle.std.specs.Option.{option_copied}
use Rattle.std.specs.Prelude.{option_map}
use Rattle.plain_views.specs.Renaming.{renamed}
use Rattle.view_tower.specs.Layers as code
use Rattle.desk_seats.specs.contracts.seat.SeatObserver.TheImpl.{watch-value}
use Rattle.desk_world.specs.MapNumbers.{number_of}
use Rattle.desk_world.specs.Plain.{plain_of, view_of}
use Rattle.desk_world.proofs.Layered.{Gathers, left_after, gathers_more, gathers_all, at_base, at_most}
use Rattle.desk_world.proofs.ViewRows.{entry_as}
use Rattle.desk_world.proofs.layers.World+Seat+B.layers_of.Goals as goal
use Rattle.desk_world.proofs.layers.World+Seat+B.layers_of.Goals.{else-down-test, then-down-test+in_default}

pub down-preserved : goal.down-preserved
down-preserved g c =
    let w = (watch-value g.row.B g.B.Observer g.B.Observer-dict g.B.Destruct-dict).it in
    let self = c.args.self.now in
    let world = plain_of w self in
    let name = c.down.name.now in
    let below = c.in-Some.row.now.below in
    subst (λ met. Gathers world.views (renamed (number_of world)) c.args.view.now met below)
    (sym c.in_ok-push.ensures.items)
    (gathers_more world.views (renamed (number_of world)) c.args.view.now c.down.layers.items name
    (view_of c.in-Some.row.now) c.in_ok-numbered.field-0 c.down.invariant
    (let few = c.down-test.true in let size = c.len.ensures in omega (arith, few, size))
    (entry_as view_of self.views.rows name
    ∙ ap (option_map view_of) (sym c.get.ensures.found ∙ ap option_copied c.in-Some.is))
    c.in_ok-numbered.ensures)

pub returns-clause-layers : goal.returns-clause-layers
returns-clause-layers g c =
    let w = (watch-value g.row.B g.B.Observer g.B.Observer-dict g.B.Destruct-dict).it in
    let self = c.args.self.now in
    let world = plain_of w self in
    let met = c.down.layers.items in
    let name = c.down.name.now in
    let none : left_after world.views (length met) name ≡ [] =
    elim c.down-test.branch [
      | else-down-test a ↦ at_most world.views (length met) name
          (let many = a.down-test.false in let size = c.len.ensures in omega (arith, many, size))
      | then-down-test+in_default a ↦ at_base world.views (length met) name
          (entry_as view_of self.views.rows name
          ∙ ap (option_map view_of) (sym a.get.ensures.found ∙ ap option_copied a.in_default.is))
    ] in
    ap code.tower_of c.reverse.ensures.items
    ∙ gathers_all world.views (renamed (number_of world)) c.args.view.now met name
    c.down.invariant none
