use Rattle.std.proofs.Common.{◌≡◌, map, sym, ap, subst, All, None}
use Rattle.std.specs.Prelude.{IfOk, IfErr, OnOk}
use Rattle.script_words.specs.declared.commands.MapType.TheVariants as types
use Rattle.plain_views.specs.Shown.{Shown}
use Rattle.plain_world.specs.World as plain
use Rattle.view_tower.specs.Layers.{tower_of, HasMaps}
use Rattle.desk_seats.specs.contracts.seat.SeatObserver.TheImpl.{watch-value}
use Rattle.desk_world.specs.Faults.{Is}
use Rattle.desk_world.specs.MapNumbers.{numbers_type}
use Rattle.desk_world.specs.Naming.{called_node}
use Rattle.desk_world.specs.Plain.{plain_of}
use Rattle.desk_world.specs.Shown.{fault_of_size}
use Rattle.desk_world.proofs.KeptListed.{of_some, view_lives, as_read}
use Rattle.desk_world.proofs.NumberedMaps.{maps_there}
use Rattle.desk_world.proofs.kept_listings.World+Seat+B.nodes_by.Goals as goal

pub nodes_shown-nodes-requires-clause-live : goal.nodes_shown-nodes-requires-clause-live
nodes_shown-nodes-requires-clause-live g c =
    let w = (watch-value g.row.B g.B.Observer g.B.Observer-dict g.B.Destruct-dict).it in
    let world = plain_of w c.args.self.now in
    let tower = tower_of c.args.layers.now in
    let shows = of_some _ c.kept_view.result c.in-Some.kept c.in-Some.is
    c.kept_view.ensures.shows in
    view_lives world c.args.view.now tower c.requires.layers c.requires.in_step.valid.graph_ok _
    shows

pub nodes_over-requires-clause-maps : goal.nodes_over-requires-clause-maps
nodes_over-requires-clause-maps g c =
    let w = (watch-value g.row.B g.B.Observer g.B.Observer-dict g.B.Destruct-dict).it in
    let list = c.args.layers.now in
    subst (λ (v : plain.World). All (HasMaps (numbers_type v types.Ints)
    (numbers_type v types.Bools)) list) (sym (ap (plain_of w) c.in_ok-values.ensures))
    (maps_there (plain_of w c.args.self.now) c.args.view.now list c.requires.in_step.valid
    c.requires.layers)

pub returns-in-Some-clause-lines : goal.returns-in-Some-clause-lines
returns-in-Some-clause-lines g c =
    let w = (watch-value g.row.B g.B.Observer g.B.Observer-dict g.B.Destruct-dict).it in
    let world = plain_of w c.args.self.now in
    let tower = tower_of c.args.layers.now in
    let shows = of_some _ c.kept_view.result c.in-Some.kept c.in-Some.is
    c.kept_view.ensures.shows in
    subst (λ (p : Shown). IfOk c.nodes_shown-nodes.result
    (λ lines. lines ≡ map (called_node world tower) p.nodes)) shows
    c.nodes_shown-nodes.ensures.lines

pub returns-clause-lines : goal.returns-clause-lines
returns-clause-lines g c =
    let w = (watch-value g.row.B g.B.Observer g.B.Observer-dict g.B.Destruct-dict).it in
    let world = plain_of w c.args.self.now in
    let tower = tower_of c.args.layers.now in
    let shows = as_read world c.args.view.now tower c.requires.layers
    (plain_of w c.in_ok-values.values.world.now) (ap (plain_of w) c.in_ok-values.ensures) in
    subst (λ (p : Shown). IfOk c.nodes_over.result
    (λ lines. lines ≡ map (called_node world tower) p.nodes)) shows
    c.nodes_over.ensures.lines

pub returns-in-Some-clause-small : goal.returns-in-Some-clause-small
returns-in-Some-clause-small g c =
    let w = (watch-value g.row.B g.B.Observer g.B.Observer-dict g.B.Destruct-dict).it in
    let world = plain_of w c.args.self.now in
    let tower = tower_of c.args.layers.now in
    let shows = of_some _ c.kept_view.result c.in-Some.kept c.in-Some.is
    c.kept_view.ensures.shows in
    subst (λ (p : Shown). OnOk c.nodes_shown-nodes.result (fault_of_size p ≡ None)) shows
    c.nodes_shown-nodes.ensures.small

pub returns-clause-small : goal.returns-clause-small
returns-clause-small g c =
    let w = (watch-value g.row.B g.B.Observer g.B.Observer-dict g.B.Destruct-dict).it in
    let world = plain_of w c.args.self.now in
    let tower = tower_of c.args.layers.now in
    let shows = as_read world c.args.view.now tower c.requires.layers
    (plain_of w c.in_ok-values.values.world.now) (ap (plain_of w) c.in_ok-values.ensures) in
    subst (λ (p : Shown). OnOk c.nodes_over.result (fault_of_size p ≡ None)) shows
    c.nodes_over.ensures.small

pub returns-in-Some-clause-full : goal.returns-in-Some-clause-full
returns-in-Some-clause-full g c =
    let w = (watch-value g.row.B g.B.Observer g.B.Observer-dict g.B.Destruct-dict).it in
    let world = plain_of w c.args.self.now in
    let tower = tower_of c.args.layers.now in
    let shows = of_some _ c.kept_view.result c.in-Some.kept c.in-Some.is
    c.kept_view.ensures.shows in
    subst (λ (p : Shown). IfErr c.nodes_shown-nodes.result (Is (fault_of_size p))) shows
    c.nodes_shown-nodes.ensures.full

pub returns-clause-full : goal.returns-clause-full
returns-clause-full g c =
    let w = (watch-value g.row.B g.B.Observer g.B.Observer-dict g.B.Destruct-dict).it in
    let world = plain_of w c.args.self.now in
    let tower = tower_of c.args.layers.now in
    let shows = as_read world c.args.view.now tower c.requires.layers
    (plain_of w c.in_ok-values.values.world.now) (ap (plain_of w) c.in_ok-values.ensures) in
    subst (λ (p : Shown). IfErr c.nodes_over.result (Is (fault_of_size p))) shows
    c.nodes_over.ensures.full
