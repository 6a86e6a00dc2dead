use Rattle.std.proofs.Common.{sym, ap, subst, All}
use Rattle.script_words.specs.declared.commands.MapType.TheVariants as types
use Rattle.list_digraph.specs.Roomy.{Roomy}
use Rattle.plain_views.specs.Shown.{Shown}
use Rattle.plain_views.proofs.Towered.{tower_is_shown}
use Rattle.plain_world.specs.Tables.{Name}
use Rattle.plain_world.specs.Views.{shown_by, values_of, tower_of as named_tower}
use Rattle.plain_world.specs.World as plain
use Rattle.view_numbers.specs.Listed.{Numbers, Fits, IsFull}
use Rattle.view_tower.specs.Layers.{tower_of, HasMaps}
use Rattle.desk_seats.specs.contracts.seat.SeatObserver.TheImpl.{watch-value}
use Rattle.desk_world.specs.MapNumbers.{numbers_type}
use Rattle.desk_world.specs.Plain.{plain_of}
use Rattle.desk_world.proofs.AskedViews.{read_shows}
use Rattle.desk_world.proofs.NumberedMaps.{maps_there}
use Rattle.desk_world.proofs.ViewSizes.{numbered_small, numbered_full}
use Rattle.desk_world.proofs.asked_views.World+Seat+B.number_layers.Goals as goal

pub number_tower-requires-clause-maps : goal.number_tower-requires-clause-maps
number_tower-requires-clause-maps g c =
    let w = (watch-value g.row.B g.B.Observer g.B.Observer-dict g.B.Destruct-dict).it in
    let world = plain_of w c.args.self.now in
    let list = c.args.layers.now in
    subst (λ (v : plain.World). All (HasMaps (numbers_type v types.Ints)
    (numbers_type v types.Bools)) list) (sym (ap (plain_of w) c.in_ok-values.ensures))
    (maps_there world c.args.view.now list c.requires.in_step.valid c.requires.layers)

pub returns-in-Ok-clause-numbers : goal.returns-in-Ok-clause-numbers
returns-in-Ok-clause-numbers g c =
    let w = (watch-value g.row.B g.B.Observer g.B.Observer-dict g.B.Destruct-dict).it in
    let world = plain_of w c.args.self.now in
    let read = plain_of w c.in_ok-values.values.world.now in
    subst (λ (p : Shown). Numbers p c.in-Ok.fixed)
    (read_shows world read (ap (plain_of w) c.in_ok-values.ensures) c.args.view.now
    c.graph.result.now.graph (tower_of c.args.layers.now)
    (ap (λ (r : Roomy). r.graph) c.graph.ensures) c.requires.layers)
    c.in-Ok.ensures.numbered

pub returns-in-Ok-clause-meets : goal.returns-in-Ok-clause-meets
returns-in-Ok-clause-meets g c =
    let w = (watch-value g.row.B g.B.Observer g.B.Observer-dict g.B.Destruct-dict).it in
    let world = plain_of w c.args.self.now in
    let read = plain_of w c.in_ok-values.values.world.now in
    let view = c.args.view.now in
    numbered_small (shown_by world view)
    (tower_is_shown Name (values_of world) world.graph c.requires.in_step.valid.graph_ok
    (named_tower world view))
    (subst Fits
    (read_shows world read (ap (plain_of w) c.in_ok-values.ensures) view
    c.graph.result.now.graph (tower_of c.args.layers.now)
    (ap (λ (r : Roomy). r.graph) c.graph.ensures) c.requires.layers)
    c.in-Ok.ensures.fits)

pub returns-clause-meets : goal.returns-clause-meets
returns-clause-meets g c =
    let w = (watch-value g.row.B g.B.Observer g.B.Observer-dict g.B.Destruct-dict).it in
    let world = plain_of w c.args.self.now in
    let read = plain_of w c.in_ok-values.values.world.now in
    let view = c.args.view.now in
    rw c.not_listed.ensures
    (numbered_full (shown_by world view)
    (tower_is_shown Name (values_of world) world.graph c.requires.in_step.valid.graph_ok
    (named_tower world view)) c.in-Err.fault
    (subst (λ (p : Shown). IsFull p c.in-Err.fault)
    (read_shows world read (ap (plain_of w) c.in_ok-values.ensures) view
    c.graph.result.now.graph (tower_of c.args.layers.now)
    (ap (λ (r : Roomy). r.graph) c.graph.ensures) c.requires.layers)
    c.in-Err.ensures.full))
