use Rattle.std.proofs.Common.{sym, ap, subst, ◌∙◌, FitsSigned, w64, rules}
use Rattle.std.proofs.lemmas.Int.{to_z-of_z}
use Rattle.alter_graph.specs.Chains.{chains_seen}
use Rattle.plain_world.specs.Effects.{with_map_changed}
use Rattle.desk_seats.specs.contracts.seat.SeatObserver.TheImpl.{watch-value}
use Rattle.desk_world.specs.declared.values.Value.TheVariants.{Int, Text}
use Rattle.desk_world.specs.Plain.{plain_of}
use Rattle.desk_world.specs.Seating.{Puts}
use Rattle.desk_world.specs.Values.{HasType, type_for, put_at, held_with}
use Rattle.desk_world.proofs.WriteCalls.{value_sits, value_now_unplaced, value_now_written}
use Rattle.desk_world.proofs.WriteCalls.{ints_apart, texts_apart}
use Rattle.desk_world.proofs.map_changes.World+Seat+B.write_maps.Goals as goal

pub write_seat-requires : goal.write_seat-requires
write_seat-requires g c =
    let w = (watch-value g.row.B g.B.Observer g.B.Observer-dict g.B.Destruct-dict).it in
    let old = c.args.self.now in
    let sort = c.args.sort in
    let name = c.args.map.now in
    let value = Int c.in-Int.value in
    let typed = subst (λ v. HasType (plain_of w old) sort name (type_for v)) c.in-Int.is
    c.requires.of_type in
    record {
      in_step = c.requires.in_step.graph;
      there = value_sits w old sort name c.args.key value c.args.id c.requires.in_step typed
          c.requires.row;
      live = c.requires.live;
    }

pub returns-in-Int-clause-written : goal.returns-in-Int-clause-written
returns-in-Int-clause-written g c =
    let w = (watch-value g.row.B g.B.Observer g.B.Observer-dict g.B.Destruct-dict).it in
    let old = c.args.self.now in
    let sort = c.args.sort in
    let name = c.args.map.now in
    let value = Int c.in-Int.value in
    let typed = subst (λ v. HasType (plain_of w old) sort name (type_for v)) c.in-Int.is
    c.requires.of_type in
    let fits : FitsSigned w64 c.in-Int.value = search rules in
    let puts = subst (λ v. Puts sort c.args.key.0 (held_with (Int v) c.args.id)
    (chains_seen w old.graph.chains) (chains_seen w c.write_seat.new.graph.chains))
    (to_z-of_z w64 c.in-Int.value fits) c.write_seat.ensures.puts in
    value_now_written w old sort name c.args.key value c.args.id c.requires.in_step typed
    c.requires.row c.requires.live c.write_seat.new.graph c.requires.differ puts
    c.write_seat.ensures.graph c.write_seat.ensures.in_step ints_apart
    ∙ ap (λ v. with_map_changed (plain_of w old) sort name (put_at v c.args.id)) (sym c.in-Int.is)

pub returns-in-Int-clause-in_step : goal.returns-in-Int-clause-in_step
returns-in-Int-clause-in_step g c =
    let w = (watch-value g.row.B g.B.Observer g.B.Observer-dict g.B.Destruct-dict).it in
    let old = c.args.self.now in
    let sort = c.args.sort in
    let name = c.args.map.now in
    let value = Int c.in-Int.value in
    let typed = subst (λ v. HasType (plain_of w old) sort name (type_for v)) c.in-Int.is
    c.requires.of_type in
    let fits : FitsSigned w64 c.in-Int.value = search rules in
    let puts = subst (λ v. Puts sort c.args.key.0 (held_with (Int v) c.args.id)
    (chains_seen w old.graph.chains) (chains_seen w c.write_seat.new.graph.chains))
    (to_z-of_z w64 c.in-Int.value fits) c.write_seat.ensures.puts in
    value_now_unplaced w old sort name c.args.key value c.args.id c.requires.in_step typed
    c.requires.row c.requires.live c.write_seat.new.graph c.requires.differ puts
    c.write_seat.ensures.graph c.write_seat.ensures.in_step ints_apart

pub write_seat-requires-in-Text : goal.write_seat-requires-in-Text
write_seat-requires-in-Text g c =
    let w = (watch-value g.row.B g.B.Observer g.B.Observer-dict g.B.Destruct-dict).it in
    let old = c.args.self.now in
    let sort = c.args.sort in
    let name = c.args.map.now in
    let value = Text c.in-Text.value in
    let typed = subst (λ v. HasType (plain_of w old) sort name (type_for v)) c.in-Text.is
    c.requires.of_type in
    record {
      in_step = c.requires.in_step.graph;
      there = value_sits w old sort name c.args.key value c.args.id c.requires.in_step typed
          c.requires.row;
      live = c.requires.live;
    }

pub returns-in-Text-clause-written : goal.returns-in-Text-clause-written
returns-in-Text-clause-written g c =
    let w = (watch-value g.row.B g.B.Observer g.B.Observer-dict g.B.Destruct-dict).it in
    let old = c.args.self.now in
    let sort = c.args.sort in
    let name = c.args.map.now in
    let value = Text c.in-Text.value in
    let typed = subst (λ v. HasType (plain_of w old) sort name (type_for v)) c.in-Text.is
    c.requires.of_type in
    value_now_written w old sort name c.args.key value c.args.id c.requires.in_step typed
    c.requires.row c.requires.live c.write_seat-in-Text.new.graph c.requires.differ
    c.write_seat-in-Text.ensures.puts c.write_seat-in-Text.ensures.graph
    c.write_seat-in-Text.ensures.in_step texts_apart
    ∙ ap (λ v. with_map_changed (plain_of w old) sort name (put_at v c.args.id)) (sym c.in-Text.is)

pub returns-in-Text-clause-in_step : goal.returns-in-Text-clause-in_step
returns-in-Text-clause-in_step g c =
    let w = (watch-value g.row.B g.B.Observer g.B.Observer-dict g.B.Destruct-dict).it in
    let old = c.args.self.now in
    let sort = c.args.sort in
    let name = c.args.map.now in
    let value = Text c.in-Text.value in
    let typed = subst (λ v. HasType (plain_of w old) sort name (type_for v)) c.in-Text.is
    c.requires.of_type in
    value_now_unplaced w old sort name c.args.key value c.args.id c.requires.in_step typed
    c.requires.row c.requires.live c.write_seat-in-Text.new.graph c.requires.differ
    c.write_seat-in-Text.ensures.puts c.write_seat-in-Text.ensures.graph
    c.write_seat-in-Text.ensures.in_step texts_apart

pub write_bool-requires-clause-of_type : goal.write_bool-requires-clause-of_type
write_bool-requires-clause-of_type g c =
    let w = (watch-value g.row.B g.B.Observer g.B.Observer-dict g.B.Destruct-dict).it in
    subst (λ v. HasType (plain_of w c.args.self.now) c.args.sort c.args.map.now (type_for v))
    c.in-Bool.is c.requires.of_type

pub returns-in-Bool-clause-written : goal.returns-in-Bool-clause-written
returns-in-Bool-clause-written g c =
    let w = (watch-value g.row.B g.B.Observer g.B.Observer-dict g.B.Destruct-dict).it in
    c.write_bool.ensures.written
    ∙ ap (λ v. with_map_changed (plain_of w c.args.self.now) c.args.sort c.args.map.now
    (put_at v c.args.id)) (sym c.in-Bool.is)
