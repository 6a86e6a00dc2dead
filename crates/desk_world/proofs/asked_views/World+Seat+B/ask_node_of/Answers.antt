use Rattle.std.proofs.Common.{sym, ap, subst, ◌∙◌, All, Some, None, Option, ℕ, is_some}
use Rattle.report_text.specs.declared.faults.Fault.TheVariants as faults
use Rattle.script_words.specs.declared.commands.MapType.TheVariants as types
use Rattle.list_digraph.specs.Roomy.{Roomy}
use Rattle.plain_digraph.specs.Lists.{has}
use Rattle.plain_views.specs.Towers as towers
use Rattle.plain_world.specs.Refusals.{unless}
use Rattle.plain_world.specs.World as plain
use Rattle.view_tower.specs.Layers.{tower_of, HasMaps}
use Rattle.desk_seats.specs.contracts.seat.SeatObserver.TheImpl.{watch-value}
use Rattle.desk_world.specs.Faults.{Is}
use Rattle.desk_world.specs.MapNumbers.{numbers_type, numbered}
use Rattle.desk_world.specs.NodeWords.{Means}
use Rattle.desk_world.specs.Plain.{plain_of}
use Rattle.desk_world.proofs.AskedViews.{node_there, node_hidden, node_unmeant}
use Rattle.desk_world.proofs.NumberedMaps.{maps_there}
use Rattle.desk_world.proofs.asked_views.World+Seat+B.ask_node_of.Goals as goal

pub shows_node-requires-clause-maps : goal.shows_node-requires-clause-maps
shows_node-requires-clause-maps g c =
    let w = (watch-value g.row.B g.B.Observer g.B.Observer-dict g.B.Destruct-dict).it in
    let world = plain_of w c.args.self.now in
    let list = c.as_slice-in-Some.result.now in
    subst (λ (v : plain.World). All (HasMaps (numbers_type v types.Ints)
    (numbers_type v types.Bools)) list) (sym (ap (plain_of w) c.in_ok-values.ensures))
    (maps_there world c.args.view.now list c.requires.valid
    (ap tower_of c.as_slice-in-Some.ensures.value ∙ c.in_ok-layers.ensures.layers))

pub returns-then-shows_node-clause-found : goal.returns-then-shows_node-clause-found
returns-then-shows_node-clause-found g c =
    let w = (watch-value g.row.B g.B.Observer g.B.Observer-dict g.B.Destruct-dict).it in
    let world = plain_of w c.args.self.now in
    let name = c.args.name.now in
    let node = c.in-Some.node in
    let same = ap (plain_of w) c.in_ok-values.ensures in
    let graph = ap (λ (r : Roomy). r.graph) c.graph.ensures in
    node_there world c.requires.valid c.args.view.now (tower_of c.in_ok-layers.layers.items)
    c.in_ok-layers.ensures.layers name node
    (subst (λ ls. Means world (tower_of ls) name (Some node)) c.as_slice.ensures.value
    (subst (Means world (tower_of c.as_slice.result.now) name) c.in-Some.is c.in_ok-node.ensures))
    (sym (c.shows_node.ensures
    ∙ (λ i. has (towers.shown (numbered (same i)) (graph i)
    (tower_of (c.as_slice-in-Some.ensures.value i))).nodes node))
    ∙ c.if-shows_node.true)

pub returns-then-shows_node-clause-meets : goal.returns-then-shows_node-clause-meets
returns-then-shows_node-clause-meets g c =
    ap (λ (o : Option ℕ). unless (is_some o) (faults.Unknown c.args.name.now))
    (returns-then-shows_node-clause-found g c)

pub returns-in-Some-clause-meets : goal.returns-in-Some-clause-meets
returns-in-Some-clause-meets g c =
    let w = (watch-value g.row.B g.B.Observer g.B.Observer-dict g.B.Destruct-dict).it in
    let world = plain_of w c.args.self.now in
    let name = c.args.name.now in
    let node = c.in-Some.node in
    let same = ap (plain_of w) c.in_ok-values.ensures in
    let graph = ap (λ (r : Roomy). r.graph) c.graph.ensures in
    subst (λ (o : Option ℕ). Is (unless (is_some o) (faults.Unknown name)) c.unknown.result)
    (sym (node_hidden world c.requires.valid c.args.view.now
    (tower_of c.in_ok-layers.layers.items) c.in_ok-layers.ensures.layers name node
    (subst (λ ls. Means world (tower_of ls) name (Some node)) c.as_slice.ensures.value
    (subst (Means world (tower_of c.as_slice.result.now) name) c.in-Some.is c.in_ok-node.ensures))
    (sym (c.shows_node.ensures
    ∙ (λ i. has (towers.shown (numbered (same i)) (graph i)
    (tower_of (c.as_slice-in-Some.ensures.value i))).nodes node))
    ∙ c.if-shows_node.false)))
    c.unknown.ensures

pub returns-clause-meets : goal.returns-clause-meets
returns-clause-meets g c =
    let w = (watch-value g.row.B g.B.Observer g.B.Observer-dict g.B.Destruct-dict).it in
    let world = plain_of w c.args.self.now in
    let name = c.args.name.now in
    subst (λ (o : Option ℕ). Is (unless (is_some o) (faults.Unknown name))
    c.unknown-in-None.result)
    (sym (node_unmeant world c.requires.valid c.args.view.now
    (tower_of c.in_ok-layers.layers.items) c.in_ok-layers.ensures.layers name
    (subst (λ ls. Means world (tower_of ls) name None) c.as_slice.ensures.value
    (subst (Means world (tower_of c.as_slice.result.now) name) c.in-None.is c.in_ok-node.ensures))))
    c.unknown-in-None.ensures
