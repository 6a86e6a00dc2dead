use Rattle.std.proofs.Common.{◌≡◌, map, sym, ap, subst, All}
use Rattle.std.specs.Prelude.{IfOk, IfErr, OnOk, is_some, unwrap_or, true}
use Rattle.script_words.specs.declared.commands.MapType.TheVariants as types
use Rattle.report_text.specs.declared.faults.Fault.TheVariants as faults
use Rattle.plain_world.specs.Refusals.{unless}
use Rattle.plain_views.specs.Shown.{Shown}
use Rattle.plain_world.specs.World as plain
use Rattle.view_tower.specs.Layers.{tower_of, HasMaps}
use Rattle.view_numbers.specs.Listed.{fact_shown}
use Rattle.desk_seats.specs.contracts.seat.SeatObserver.TheImpl.{watch-value}
use Rattle.desk_world.specs.Faults.{Is}
use Rattle.desk_world.specs.MapNumbers.{numbers_type}
use Rattle.desk_world.specs.Naming.{called_arc}
use Rattle.desk_world.specs.NodeWords.{node_called_so}
use Rattle.desk_world.specs.Plain.{plain_of}
use Rattle.desk_world.specs.Shown.{arcs_at}
use Rattle.desk_world.proofs.KeptListed.{of_some, view_lives, as_read}
use Rattle.desk_world.proofs.NumberedMaps.{maps_there}
use Rattle.desk_world.proofs.kept_listings.World+Seat+B.arcs_named_by.Goals as goal

pub arcs_named-arcs-requires-clause-live : goal.arcs_named-arcs-requires-clause-live
arcs_named-arcs-requires-clause-live g c =
    let w = (watch-value g.row.B g.B.Observer g.B.Observer-dict g.B.Destruct-dict).it in
    let world = plain_of w c.args.self.now in
    let tower = tower_of c.args.layers.now in
    let shows = of_some _ c.kept_view.result c.in-Some.kept c.in-Some.is
    c.kept_view.ensures.shows in
    view_lives world c.args.view.now tower c.requires.layers c.requires.in_step.valid.graph_ok _
    shows

pub arcs_named_over-requires-clause-maps : goal.arcs_named_over-requires-clause-maps
arcs_named_over-requires-clause-maps g c =
    let w = (watch-value g.row.B g.B.Observer g.B.Observer-dict g.B.Destruct-dict).it in
    let list = c.args.layers.now in
    subst (λ (v : plain.World). All (HasMaps (numbers_type v types.Ints)
    (numbers_type v types.Bools)) list) (sym (ap (plain_of w) c.in_ok-values.ensures))
    (maps_there (plain_of w c.args.self.now) c.args.view.now list c.requires.in_step.valid
    c.requires.layers)

pub returns-in-Some-clause-lines : goal.returns-in-Some-clause-lines
returns-in-Some-clause-lines g c =
    let w = (watch-value g.row.B g.B.Observer g.B.Observer-dict g.B.Destruct-dict).it in
    let world = plain_of w c.args.self.now in
    let tower = tower_of c.args.layers.now in
    let shows = of_some _ c.kept_view.result c.in-Some.kept c.in-Some.is
    c.kept_view.ensures.shows in
    subst (λ (p : Shown). IfOk c.arcs_named-arcs.result (λ lines. lines
    ≡ map (called_arc world tower) (map fact_shown (arcs_at c.args.way p
    (unwrap_or (node_called_so world tower p c.args.name.now) 0))))) shows
    c.arcs_named-arcs.ensures.lines

pub returns-clause-lines : goal.returns-clause-lines
returns-clause-lines g c =
    let w = (watch-value g.row.B g.B.Observer g.B.Observer-dict g.B.Destruct-dict).it in
    let world = plain_of w c.args.self.now in
    let tower = tower_of c.args.layers.now in
    let shows = as_read world c.args.view.now tower c.requires.layers
    (plain_of w c.in_ok-values.values.world.now) (ap (plain_of w) c.in_ok-values.ensures) in
    subst (λ (p : Shown). IfOk c.arcs_named_over.result (λ lines. lines
    ≡ map (called_arc world tower) (map fact_shown (arcs_at c.args.way p
    (unwrap_or (node_called_so world tower p c.args.name.now) 0))))) shows
    c.arcs_named_over.ensures.lines

pub returns-in-Some-clause-there : goal.returns-in-Some-clause-there
returns-in-Some-clause-there g c =
    let w = (watch-value g.row.B g.B.Observer g.B.Observer-dict g.B.Destruct-dict).it in
    let world = plain_of w c.args.self.now in
    let tower = tower_of c.args.layers.now in
    let shows = of_some _ c.kept_view.result c.in-Some.kept c.in-Some.is
    c.kept_view.ensures.shows in
    subst (λ (p : Shown). OnOk c.arcs_named-arcs.result
    (is_some (node_called_so world tower p c.args.name.now) ≡ true)) shows
    c.arcs_named-arcs.ensures.there

pub returns-clause-there : goal.returns-clause-there
returns-clause-there g c =
    let w = (watch-value g.row.B g.B.Observer g.B.Observer-dict g.B.Destruct-dict).it in
    let world = plain_of w c.args.self.now in
    let tower = tower_of c.args.layers.now in
    let shows = as_read world c.args.view.now tower c.requires.layers
    (plain_of w c.in_ok-values.values.world.now) (ap (plain_of w) c.in_ok-values.ensures) in
    subst (λ (p : Shown). OnOk c.arcs_named_over.result
    (is_some (node_called_so world tower p c.args.name.now) ≡ true)) shows
    c.arcs_named_over.ensures.there

pub returns-in-Some-clause-unknown : goal.returns-in-Some-clause-unknown
returns-in-Some-clause-unknown g c =
    let w = (watch-value g.row.B g.B.Observer g.B.Observer-dict g.B.Destruct-dict).it in
    let world = plain_of w c.args.self.now in
    let tower = tower_of c.args.layers.now in
    let shows = of_some _ c.kept_view.result c.in-Some.kept c.in-Some.is
    c.kept_view.ensures.shows in
    subst (λ (p : Shown). IfErr c.arcs_named-arcs.result
    (Is (unless (is_some (node_called_so world tower p c.args.name.now)) (faults.Unknown
    c.args.name.now)))) shows
    c.arcs_named-arcs.ensures.unknown

pub returns-clause-unknown : goal.returns-clause-unknown
returns-clause-unknown g c =
    let w = (watch-value g.row.B g.B.Observer g.B.Observer-dict g.B.Destruct-dict).it in
    let world = plain_of w c.args.self.now in
    let tower = tower_of c.args.layers.now in
    let shows = as_read world c.args.view.now tower c.requires.layers
    (plain_of w c.in_ok-values.values.world.now) (ap (plain_of w) c.in_ok-values.ensures) in
    subst (λ (p : Shown). IfErr c.arcs_named_over.result
    (Is (unless (is_some (node_called_so world tower p c.args.name.now)) (faults.Unknown
    c.args.name.now)))) shows
    c.arcs_named_over.ensures.unknown
