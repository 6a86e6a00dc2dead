use Rattle.std.proofs.Common.{◌≡◌, ◌+◌, ◌≤◌, map, length, Some, sym, ap, subst, ◌∙◌, arith}
use Rattle.std.specs.Prelude.{slice_get}
use Rattle.plain_world.specs.Tables.{Named}
use Rattle.desk_seats.specs.declared.seat.Seat.{Seat}
use Rattle.desk_seats.specs.contracts.seat.SeatObserver.TheImpl.{watch-value}
use Rattle.desk_world.specs.declared.tables.ItemTables.{ItemTables}
use Rattle.desk_world.specs.declared.tables.MapRow.{MapRow}
use Rattle.desk_world.specs.declared.world.World.{World}
use Rattle.desk_world.specs.Indexes.{is_index_kind}
use Rattle.desk_world.specs.Plain.{tables_of}
use Rattle.desk_world.proofs.WriteCalls.{map_sits, walk_begins, walk_sits, still_live, walk_steps}
use Rattle.desk_world.proofs.WriteCalls.{walk_passes, no_index, walked_plain, IsWalked}
use Rattle.desk_world.proofs.WriteCalls.{walked_unplaced, same_tables, tables_kept}
use Rattle.desk_world.proofs.map_changes.World+Seat+B.write_bool.Goals as goal
use Rattle.desk_world.proofs.map_changes.World+Seat+B.write_bool.Goals.{in-Some, in_default}

pub write_seat-requires : goal.write_seat-requires
write_seat-requires g c =
    let w = (watch-value g.row.B g.B.Observer g.B.Observer-dict g.B.Destruct-dict).it in
    record {
      in_step = c.requires.in_step.graph;
      there = map_sits w c.args.self.now c.args.sort c.args.map.now c.args.key c.args.value
          c.args.id c.requires.in_step c.requires.of_type c.requires.row c.requires.live;
      live = c.requires.live;
    }

pub loop-place-init : goal.loop-place-init
loop-place-init g c =
    let w = (watch-value g.row.B g.B.Observer g.B.Observer-dict g.B.Destruct-dict).it in
    walk_begins w c.args.self.now c.args.sort c.args.map.now c.args.key c.args.value c.args.id
    c.requires.in_step c.requires.of_type c.requires.row c.requires.live c.write_seat.new.graph
    c.requires.differ c.write_seat.ensures.puts c.write_seat.ensures.graph
    c.write_seat.ensures.in_step

pub write_true-requires : goal.write_true-requires
write_true-requires g c =
    let w = (watch-value g.row.B g.B.Observer g.B.Observer-dict g.B.Destruct-dict).it in
    let at = subst (λ (t : ItemTables). slice_get (map (λ (e : Named MapRow). e.value) t.maps.rows)
    c.loop-place.place ≡ Some c.value.result.now) c.tables-in-loop-place.ensures c.value.ensures in
    record {
      in_step = c.loop-place.invariant.writing.kept.then;
      there = walk_sits w c.args.self.now c.args.sort c.args.map.now c.args.key c.args.value
          c.args.id c.requires.in_step c.requires.of_type c.requires.row c.requires.live
          c.loop-place.place c.loop-place.self c.loop-place.invariant c.value.result.now at
          c.in-Some.index (sym c.index_key.ensures ∙ c.in-Some.is);
      live = still_live w c.args.self.now c.args.sort c.args.map.now c.args.key c.args.value
          c.args.id c.requires.in_step c.requires.of_type c.requires.row c.requires.live
          c.loop-place.place c.loop-place.self c.loop-place.invariant;
    }

pub loop-place-preserved : goal.loop-place-preserved
loop-place-preserved g c =
    let w = (watch-value g.row.B g.B.Observer g.B.Observer-dict g.B.Destruct-dict).it in
    let at = subst (λ (t : ItemTables). slice_get (map (λ (e : Named MapRow). e.value) t.maps.rows)
    c.loop-place.place ≡ Some c.value.result.now) c.tables-in-loop-place.ensures c.value.ensures in
    let Later : World (Seat g.row.B.Denot) → Type 0 = IsWalked w c.args.self.now c.args.sort
    c.args.map.now c.args.key c.args.value c.args.id (c.loop-place.place + 1) in
    elim c.match-index_key.branch [
      | in-Some b ↦
          subst Later (sym b.self-is)
          (walk_steps w c.args.self.now c.args.sort c.args.map.now c.args.key c.args.value c.args.id
          c.requires.in_step c.requires.of_type c.requires.row c.requires.live
          c.loop-place.place c.loop-place.self c.loop-place.invariant c.value.result.now at
          b.in-Some.index (sym c.index_key.ensures ∙ b.in-Some.is) b.write_true.new.graph
          b.write_true.ensures.puts b.write_true.ensures.graph b.write_true.ensures.in_step)
      | in_default b ↦
          subst Later (sym b.self-is)
          (walk_passes w c.args.self.now c.args.sort c.args.map.now c.args.key c.args.value
          c.args.id
          c.requires.in_step c.requires.of_type c.requires.row c.requires.live
          c.loop-place.place c.loop-place.self c.loop-place.invariant c.value.result.now at
          (no_index (is_index_kind c.args.map.now c.value.result.now.kind)
          c.value.result.now.key (sym c.index_key.ensures ∙ b.in_default.is)))
    ]

pub value-requires : goal.value-requires
value-requires g c =
    let w = (watch-value g.row.B g.B.Observer g.B.Observer-dict g.B.Destruct-dict).it in
    let size = subst (λ (t : ItemTables). c.len-place-end.result ≡ length t.maps.rows)
    (c.tables.ensures ∙ tables_kept c.args.self.now c.args.sort c.write_seat.new.graph)
    c.len-place-end.ensures in
    let now = ap (λ (t : ItemTables). length t.maps.rows) (c.tables-in-loop-place.ensures
    ∙ same_tables w c.args.self.now c.args.sort c.args.map.now c.args.key c.args.value c.args.id
    c.requires.in_step c.requires.of_type c.requires.row c.requires.live c.loop-place.place
    c.loop-place.self c.loop-place.invariant) in
    let below = c.loop-place-test.true in
    let high = c.loop-place.auto.place-end in
    omega (arith, size, now, below, high)

pub returns : goal.returns
returns g c =
    let w = (watch-value g.row.B g.B.Observer g.B.Observer-dict g.B.Destruct-dict).it in
    let size = subst (λ (t : ItemTables). c.len-place-end.result ≡ length t.maps.rows)
    (c.tables.ensures ∙ tables_kept c.args.self.now c.args.sort c.write_seat.new.graph)
    c.len-place-end.ensures in
    let over = c.loop-place-test.false in
    let high = c.loop-place.auto.place-end in
    let all : length (tables_of c.args.self.now c.args.sort).maps.rows ≤ c.loop-place.place =
    omega (arith, size, over, high) in
    record {
      written = walked_plain w c.args.self.now c.args.sort c.args.map.now c.args.key
          c.args.value c.args.id
          c.requires.in_step c.requires.of_type c.requires.row c.requires.live
          c.loop-place.place c.loop-place.self c.loop-place.invariant all;
      in_step = walked_unplaced w c.args.self.now c.args.sort c.args.map.now c.args.key
          c.args.value c.args.id
          c.requires.in_step c.requires.of_type c.requires.row c.requires.live
          c.loop-place.place c.loop-place.self c.loop-place.invariant all;
      graph = c.loop-place.invariant.writing.kept.graph;
      pool = ap (λ (x : World (Seat g.row.B.Denot)). x.pool) c.loop-place.invariant.others;
    }
