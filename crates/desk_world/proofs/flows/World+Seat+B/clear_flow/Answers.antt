use Rattle.std.proofs.Common.{ℕ, suc, ◌≡◌, ◌+◌, ◌∷◌, drop, drop-cons, get_or, refl, sym, ap, ◌∙◌}
use Rattle.std.proofs.Common.{subst, arith}
use Rattle.std.proofs.lemmas.List.{drop_all}
use Rattle.base_items.specs.declared.items.ItemSort.TheVariants.{Arc}
use Rattle.plain_digraph.specs.Items.{IsLive}
use Rattle.plain_world.proofs.Named.{live_listed}
use Rattle.desk_seats.specs.contracts.seat.SeatObserver.TheImpl.{watch-value}
use Rattle.desk_world.specs.Plain.{plain_of}
use Rattle.desk_world.proofs.FlowSpread.{AreCleared, cleared_first, cleared_next, cleared_last}
use Rattle.desk_world.proofs.FlowSpread.{cleared_typed}
use Rattle.desk_world.proofs.Ordered.{live_at}
use Rattle.desk_world.proofs.flows.World+Seat+B.clear_flow.Goals as goal

pub loop-id-init : goal.loop-id-init
loop-id-init g c =
    let w = (watch-value g.row.B g.B.Observer g.B.Observer-dict g.B.Destruct-dict).it in
    let world = plain_of w c.args.self.now in
    let map = c.args.map.now in
    record {
      in_step = c.requires.in_step.seats;
      cleared = subst (λ xs. AreCleared world map xs world) (sym c.requires.order)
          (cleared_first world map c.requires.of_type c.requires.in_step.valid);
      graph = refl;
    }

pub write_value-requires : goal.write_value-requires
write_value-requires g c =
    let w = (watch-value g.row.B g.B.Observer g.B.Observer-dict g.B.Destruct-dict).it in
    let world = plain_of w c.args.self.now in
    let map = c.args.map.now in
    let order = c.args.order.now in
    let k = c.loop-id.id-index in
    record {
      in_step = c.loop-id.invariant.in_step;
      live = subst (λ d. IsLive d.graph Arc (get_or order k 0)) (sym c.loop-id.invariant.graph)
          (live_at world Arc c.requires.in_step.valid.graph_ok order c.requires.order k
          c.loop-id-test.true);
      of_type = cleared_typed world map (drop k order) (plain_of w c.loop-id.self)
          c.loop-id.invariant.cleared c.requires.of_type;
    }

pub loop-id-preserved : goal.loop-id-preserved
loop-id-preserved g c =
    let w = (watch-value g.row.B g.B.Observer g.B.Observer-dict g.B.Destruct-dict).it in
    let world = plain_of w c.args.self.now in
    let map = c.args.map.now in
    let order = c.args.order.now in
    let k = c.loop-id.id-index in
    let id = get_or order k 0 in
    let now = plain_of w c.loop-id.self in
    let later = plain_of w c.write_value.new.self in
    let more : (n : ℕ) → suc n ≡ n + 1 = λ n. omega arith in
    let next : drop k order ≡ id ∷ drop (k + 1) order =
    drop-cons order k 0 c.loop-id-test.true ∙ ap (λ n. id ∷ drop n order) (more k) in
    let valid = c.requires.in_step.valid.graph_ok in
    record {
      in_step = c.write_value.ensures.in_step;
      cleared = cleared_next world map id (drop (k + 1) order) now later
          (subst (λ xs. AreCleared world map xs now) next c.loop-id.invariant.cleared)
          (live_listed world Arc id valid
          (live_at world Arc valid order c.requires.order k c.loop-id-test.true))
          c.write_value.ensures.written;
      graph = c.write_value.ensures.graph ∙ c.loop-id.invariant.graph;
    }

pub returns : goal.returns
returns g c =
    let w = (watch-value g.row.B g.B.Observer g.B.Observer-dict g.B.Destruct-dict).it in
    let world = plain_of w c.args.self.now in
    let map = c.args.map.now in
    let order = c.args.order.now in
    let now = plain_of w c.loop-id.self in
    record {
      cleared = cleared_last world map now
          (subst (λ xs. AreCleared world map xs now)
          (drop_all c.loop-id.id-index order c.loop-id-test.false) c.loop-id.invariant.cleared);
      in_step = c.loop-id.invariant.in_step;
      graph = c.loop-id.invariant.graph;
    }
