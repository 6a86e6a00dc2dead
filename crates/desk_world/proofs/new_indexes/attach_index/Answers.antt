use Rattle.std.proofs.Common.{◌≡◌, ◌+◌, sym, ap, subst, ◌∙◌, arith, is_some}
use Rattle.observe_core.specs.Seen.{Seen}
use Rattle.plain_digraph.specs.Items.{fact_of, used_of}
use Rattle.list_digraph.specs.Roomy.{Roomy}
use Rattle.alter_graph.proofs.Listing.{told_live}
use Rattle.desk_seats.specs.Forms.{trues_form}
use Rattle.desk_seats.specs.declared.seat.Seat.TheVariants.{Trues}
use Rattle.desk_seats.specs.contracts.seat.SeatObserver.TheImpl.{watch-value}
use Rattle.desk_world.proofs.DerivedMaps.{new_trues, trues_untold}
use Rattle.desk_world.proofs.IndexMade.{filling_begins, filling_passes, filling_steps, IsFilling}
use Rattle.desk_world.proofs.IndexMade.{filling_ends, source_sits, index_sits}
use Rattle.desk_world.proofs.RowPlaces.{some_told, none_told}
use Rattle.desk_world.proofs.new_indexes.attach_index.Goals as goal
use Rattle.desk_world.proofs.new_indexes.attach_index.Goals.{then-is_some, else-is_some}

pub attach-requires : goal.attach-requires
attach-requires g c =
    let w = (watch-value g.row.B g.B.Observer g.B.Observer-dict g.B.Destruct-dict).it in
    let came = (w (Trues c.new.result)).seen in
    let is : came ≡ new_trues = ap (λ (s : Seen). record s { form = trues_form }) c.new.ensures in
    let fine = trues_untold came is in
    record { in_step = c.requires.in_step; empty = fine.empty; counts = fine.counts }

pub loop-id-init : goal.loop-id-init
loop-id-init g c =
    let w = (watch-value g.row.B g.B.Observer g.B.Observer-dict g.B.Destruct-dict).it in
    let came = (w (Trues c.new.result)).seen in
    let is : came ≡ new_trues = ap (λ (s : Seen). record s { form = trues_form }) c.new.ensures in
    filling_begins w c.args.sort c.in_ok-key.key.0 c.args.source.0 c.args.graph.now
    c.requires.in_step c.requires.bools c.attach.new.graph (w (Trues c.new.result))
    c.in_ok-key.ensures.attaches c.attach.ensures.in_step (trues_untold came is).plays

pub bool_at-value-requires : goal.bool_at-value-requires
bool_at-value-requires g c =
    let w = (watch-value g.row.B g.B.Observer g.B.Observer-dict g.B.Destruct-dict).it in
    let sort = c.args.sort in
    let old = c.args.graph.now in
    let id = c.loop-id.id in
    let a = c.loop-id.graph in
    let asked = c.fact.ensures ∙ ap (λ (r : Roomy). fact_of r.graph sort id)
    c.graph-in-loop-id.ensures in
    let told = some_told (fact_of a.graph.graph sort id)
    (sym (ap is_some asked) ∙ sym c.is_some.ensures ∙ c.if-is_some.true) in
    record {
      in_step = c.loop-id.invariant.then;
      there = source_sits w sort c.in_ok-key.key.0 c.args.source.0 old c.requires.in_step
          c.requires.bools id a c.loop-id.invariant;
      live = told_live a.graph.graph sort c.loop-id.invariant.then.valid id told.0 told.1;
    }

pub write_true-requires : goal.write_true-requires
write_true-requires g c =
    let w = (watch-value g.row.B g.B.Observer g.B.Observer-dict g.B.Destruct-dict).it in
    let sort = c.args.sort in
    let old = c.args.graph.now in
    let id = c.loop-id.id in
    let a = c.loop-id.graph in
    let asked = c.fact.ensures ∙ ap (λ (r : Roomy). fact_of r.graph sort id)
    c.graph-in-loop-id.ensures in
    let told = some_told (fact_of a.graph.graph sort id)
    (sym (ap is_some asked) ∙ sym c.is_some.ensures ∙ c.if-is_some.true) in
    record {
      in_step = c.loop-id.invariant.then;
      there = index_sits w sort c.in_ok-key.key.0 c.args.source.0 old c.requires.in_step
          c.requires.bools id a c.loop-id.invariant;
      live = told_live a.graph.graph sort c.loop-id.invariant.then.valid id told.0 told.1;
    }

pub loop-id-preserved : goal.loop-id-preserved
loop-id-preserved g c =
    let w = (watch-value g.row.B g.B.Observer g.B.Observer-dict g.B.Destruct-dict).it in
    let sort = c.args.sort in
    let old = c.args.graph.now in
    let id = c.loop-id.id in
    let a = c.loop-id.graph in
    let asked = c.fact.ensures ∙ ap (λ (r : Roomy). fact_of r.graph sort id)
    c.graph-in-loop-id.ensures in
    elim c.if-is_some.branch [
      | then-is_some b ↦
          subst (IsFilling w sort c.in_ok-key.key.0 c.args.source.0 old (id + 1)) (sym b.graph-is)
          (filling_steps w sort c.in_ok-key.key.0 c.args.source.0 old c.requires.in_step
          c.requires.bools id a c.loop-id.invariant b.write_true.new.graph b.bool_at-value.result
          b.bool_at-value.ensures b.write_true.ensures.puts b.write_true.ensures.in_step
          b.write_true.ensures.graph)
      | else-is_some b ↦
          subst (IsFilling w sort c.in_ok-key.key.0 c.args.source.0 old (id + 1)) (sym b.graph-is)
          (filling_passes w sort c.in_ok-key.key.0 c.args.source.0 old c.requires.in_step
          c.requires.bools id a c.loop-id.invariant
          (none_told (fact_of a.graph.graph sort id)
          (sym (ap is_some asked) ∙ sym c.is_some.ensures ∙ b.if-is_some.false)))
    ]

pub returns : goal.returns
returns g c =
    let w = (watch-value g.row.B g.B.Observer g.B.Observer-dict g.B.Destruct-dict).it in
    let sort = c.args.sort in
    let a = c.loop-id.graph in
    let used = c.used-id-end.ensures ∙ ap (λ (r : Roomy). used_of r.graph sort)
    c.graph.ensures in
    let same = ap (λ g. used_of g sort) (c.loop-id.invariant.graph
    ∙ sym c.in_ok-key.ensures.attaches.graph) in
    let low = c.loop-id-test.false in
    let high = c.loop-id.auto.id-end in
    record {
      indexes = filling_ends w sort c.in_ok-key.key.0 c.args.source.0 c.args.graph.now
          c.requires.in_step c.requires.bools c.loop-id.id a c.loop-id.invariant
          (omega (arith, used, same, low, high));
      same = tt;
      in_step = c.loop-id.invariant.then;
    }
