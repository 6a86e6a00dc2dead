use Rattle.std.proofs.Common.{false, refl, sym, ap, subst, ◌∙◌, ◌∷◌, [], ◌+◌, ◌<◌, ◌≤◌, arith}
use Rattle.base_items.specs.declared.items.ItemSort.TheVariants as sorts
use Rattle.list_digraph.specs.Roomy.{Roomy}
use Rattle.plain_digraph.specs.Alterations.{all_steps, node_split, refusable_steps}
use Rattle.plain_digraph.specs.Steps.{new_node, new_arc}
use Rattle.desk_seats.specs.contracts.seat.SeatObserver.TheImpl.{watch-value}
use Rattle.plain_world.specs.Following.{labelled}
use Rattle.plain_world.specs.Refusals.{veto_of}
use Rattle.std.specs.Option.{option_or}
use Rattle.desk_world.specs.Edits.{split_by}
use Rattle.desk_world.specs.Faults.{Is}
use Rattle.desk_world.specs.Plain.{plain_of}
use Rattle.desk_world.proofs.Altered.{altered_room, valid_then}
use Rattle.desk_world.proofs.EditsDone.{are_refused, is_done, plain_stays, seats_stay, stamps_after}
use Rattle.desk_world.proofs.EditsDone.{stamps_stay, veto_is}
use Rattle.desk_world.proofs.SplitDone.{after_all, after_node, split_met, node_met, takes}
use Rattle.desk_world.proofs.SplitSteps.{split_has_room, split_makes, split_takes}
use Rattle.desk_world.proofs.SplitSteps.{node_room, off_makes}
use Rattle.desk_world.proofs.TakesAll.{takes_node_split}
use Rattle.desk_world.proofs.splits.World+Seat+B.split_off_labelled.Goals as goal

pub refusal-requires : goal.refusal-requires
refusal-requires g c =
    let w = (watch-value g.row.B g.B.Observer g.B.Observer-dict g.B.Destruct-dict).it in
    let self = c.args.self.now in
    let world = plain_of w self in
    let d = self.graph.graph.graph in
    let a = c.split_node.new.self in
    let ok = c.requires.in_step in
    let alteration = node_split d c.args.node.0 false in
    let met = node_met world ok.valid c.args.label c.requires.met in
    let room = node_room false d c.args.node.0 met.nodes met.arcs c.requires.few c.requires.stamps
    in
    let why = c.in-Err.fault in
    let stays = c.in-Err.ensures.refuses in
    record {
      in_step = seats_stay w self a alteration ok why room stays;
      refused = (refusable_steps d alteration, are_refused w self a alteration ok why room stays);
    }

pub returns-in-Err : goal.returns-in-Err
returns-in-Err g c =
    let w = (watch-value g.row.B g.B.Observer g.B.Observer-dict g.B.Destruct-dict).it in
    let self = c.args.self.now in
    let world = plain_of w self in
    let d = self.graph.graph.graph in
    let a = c.split_node.new.self in
    let ok = c.requires.in_step in
    let alteration = node_split d c.args.node.0 false in
    let met = node_met world ok.valid c.args.label c.requires.met in
    let room = node_room false d c.args.node.0 met.nodes met.arcs c.requires.few c.requires.stamps
    in
    let why = c.in-Err.fault in
    let stays = c.in-Err.ensures.refuses in
    let refused = are_refused w self a alteration ok why room stays in
    let veto = veto_is w self a alteration ok why room stays c.refusal.result
    (c.refusal.ensures (refusable_steps d alteration) refused) in
    record {
      edits = record {
        why = subst (λ o. Is (option_or o (veto_of world alteration)) c.refusal.result)
            (sym c.requires.met) veto;
        same = plain_stays w self a alteration ok why room stays;
      };
      in_step = seats_stay w self a alteration ok why room stays;
      stamps = stamps_stay w self a alteration ok why room stays;
    }

pub let_guards_go-requires : goal.let_guards_go-requires
let_guards_go-requires g c =
    let w = (watch-value g.row.B g.B.Observer g.B.Observer-dict g.B.Destruct-dict).it in
    let self = c.args.self.now in
    let world = plain_of w self in
    let d = self.graph.graph.graph in
    let a = c.split_node.new.self in
    let ok = c.requires.in_step in
    let alteration = node_split d c.args.node.0 false in
    let steps = all_steps d alteration in
    let happens = c.in-Ok.ensures.happens in
    let can = takes_node_split d ok.valid.graph_ok c.args.node.0 false c.requires.live
    (valid_then w self a steps ok.seats happens.goes) in
    let done = is_done w self a alteration ok can happens in
    record { altered = done.seats }

pub put_label-requires : goal.put_label-requires
put_label-requires g c =
    let w = (watch-value g.row.B g.B.Observer g.B.Observer-dict g.B.Destruct-dict).it in
    let self = c.args.self.now in
    let world = plain_of w self in
    let d = self.graph.graph.graph in
    let a = c.split_node.new.self in
    let ok = c.requires.in_step in
    let alteration = node_split d c.args.node.0 false in
    let steps = all_steps d alteration in
    let happens = c.in-Ok.ensures.happens in
    let can = takes_node_split d ok.valid.graph_ok c.args.node.0 false c.requires.live
    (valid_then w self a steps ok.seats happens.goes) in
    let done = is_done w self a alteration ok can happens in
    let gone = c.let_guards_go.new.self in
    let seats = c.let_guards_go.ensures.in_step in
    let is = c.let_guards_go.ensures.same ∙ done.plain in
    let makes = off_makes d c.args.node.0 in
    let there = c.requires.room in
    let more = altered_room w self a steps ok.seats happens.goes can sorts.Node in
    let stays = c.let_guards_go.ensures.room sorts.Node in
    let met = node_met world ok.valid c.args.label c.requires.met in
    let entry = takes w world ok.valid steps gone sorts.Node
    (after_all w world steps gone seats is makes.may sorts.Node) c.args.label makes.node met.new
    (omega (arith, there, more, stays)) c.in-Ok.made.0.0 c.in-Ok.ensures.new_node in
    record { in_step = seats; live = entry.live; free = entry.free; room = entry.room }

pub returns-in-Ok : goal.returns-in-Ok
returns-in-Ok g c =
    let w = (watch-value g.row.B g.B.Observer g.B.Observer-dict g.B.Destruct-dict).it in
    let self = c.args.self.now in
    let world = plain_of w self in
    let d = self.graph.graph.graph in
    let a = c.split_node.new.self in
    let ok = c.requires.in_step in
    let alteration = node_split d c.args.node.0 false in
    let steps = all_steps d alteration in
    let happens = c.in-Ok.ensures.happens in
    let can = takes_node_split d ok.valid.graph_ok c.args.node.0 false c.requires.live
    (valid_then w self a steps ok.seats happens.goes) in
    let done = is_done w self a alteration ok can happens in
    let gone = c.let_guards_go.ensures in
    record {
      edits = record {
        met = c.requires.met;
        unvetoed = done.unvetoed;
        quiet = refl;
        world = c.put_label.ensures.labelled
            ∙ (λ i. labelled ((gone.same ∙ done.plain) i) sorts.Node (c.in-Ok.ensures.new_node i)
            c.args.label);
      };
      in_step = c.put_label.ensures.in_step;
      stamps = subst (λ (r : Roomy). r.graph.stamps < d.stamps + 16777216)
          (sym (c.put_label.ensures.graph ∙ gone.graph))
          (stamps_after w self a alteration ok tt c.requires.few happens);
    }
