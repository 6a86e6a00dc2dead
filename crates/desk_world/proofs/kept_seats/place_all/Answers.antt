use Rattle.std.proofs.Common.{◌+◌, sym, ap, subst, ◌∙◌, arith, is_some}
use Rattle.plain_digraph.specs.Items.{fact_of, used_of}
use Rattle.list_digraph.specs.Roomy.{Roomy}
use Rattle.alter_graph.proofs.Listing.{told_live}
use Rattle.desk_seats.specs.contracts.seat.SeatObserver.TheImpl.{watch-value}
use Rattle.desk_world.proofs.PlacedAll.{IsPlacingAll, all_begins, all_passes, all_steps, all_ends}
use Rattle.desk_world.proofs.PlacedAll.{own_sits, maps_there}
use Rattle.desk_world.proofs.RowPlaces.{some_told, none_told}
use Rattle.desk_world.proofs.kept_seats.place_all.Goals as goal
use Rattle.desk_world.proofs.kept_seats.place_all.Goals.{then-is_some, else-is_some}

pub loop-id-init : goal.loop-id-init
loop-id-init g c =
    let w = (watch-value g.row.B g.B.Observer g.B.Observer-dict g.B.Destruct-dict).it in
    all_begins w c.args.sort c.args.keys.now c.args.graph.now c.requires.in_step c.requires.maps
    c.requires.seat

pub place_item-requires : goal.place_item-requires
place_item-requires g c =
    let w = (watch-value g.row.B g.B.Observer g.B.Observer-dict g.B.Destruct-dict).it in
    let sort = c.args.sort in
    let keys = c.args.keys.now in
    let old = c.args.graph.now in
    let id = c.loop-id.id in
    let a = c.loop-id.graph in
    let asked = c.fact.ensures ∙ ap (λ (r : Roomy). fact_of r.graph sort id)
    c.graph-in-loop-id.ensures in
    let told = some_told (fact_of a.graph.graph sort id)
    (sym (ap is_some asked) ∙ sym c.is_some.ensures ∙ c.if-is_some.true) in
    record {
      in_step = c.loop-id.invariant.then;
      maps = maps_there w sort keys old c.requires.in_step c.requires.maps c.requires.seat id a
          c.loop-id.invariant;
      seat = own_sits w sort keys old c.requires.in_step c.requires.maps c.requires.seat id a
          c.loop-id.invariant;
      live = told_live a.graph.graph sort c.loop-id.invariant.then.valid id told.0 told.1;
    }

pub loop-id-preserved : goal.loop-id-preserved
loop-id-preserved g c =
    let w = (watch-value g.row.B g.B.Observer g.B.Observer-dict g.B.Destruct-dict).it in
    let sort = c.args.sort in
    let keys = c.args.keys.now in
    let old = c.args.graph.now in
    let id = c.loop-id.id in
    let a = c.loop-id.graph in
    let asked = c.fact.ensures ∙ ap (λ (r : Roomy). fact_of r.graph sort id)
    c.graph-in-loop-id.ensures in
    elim c.if-is_some.branch [
      | then-is_some b ↦
          subst (IsPlacingAll w sort keys old (id + 1)) (sym b.graph-is)
          (all_steps w sort keys old c.requires.in_step c.requires.maps c.requires.seat id a
          c.loop-id.invariant b.place_item.new.graph b.place_item.ensures.puts
          b.place_item.ensures.graph b.place_item.ensures.in_step)
      | else-is_some b ↦
          subst (IsPlacingAll w sort keys old (id + 1)) (sym b.graph-is)
          (all_passes w sort keys old c.requires.in_step c.requires.maps c.requires.seat id a
          c.loop-id.invariant
          (none_told (fact_of a.graph.graph sort id)
          (sym (ap is_some asked) ∙ sym c.is_some.ensures ∙ b.if-is_some.false)))
    ]

pub returns : goal.returns
returns g c =
    let w = (watch-value g.row.B g.B.Observer g.B.Observer-dict g.B.Destruct-dict).it in
    let sort = c.args.sort in
    let a = c.loop-id.graph in
    let used = c.used-id-end.ensures ∙ ap (λ (r : Roomy). used_of r.graph sort)
    c.graph.ensures in
    let same = ap (λ (r : Roomy). used_of r.graph sort) c.loop-id.invariant.graph in
    let low = c.loop-id-test.false in
    let high = c.loop-id.auto.id-end in
    record {
      puts = all_ends w sort c.args.keys.now c.args.graph.now c.requires.in_step c.requires.maps
          c.requires.seat c.loop-id.id a c.loop-id.invariant
          (omega (arith, used, same, low, high));
      in_step = c.loop-id.invariant.then;
      graph = c.loop-id.invariant.graph;
    }
