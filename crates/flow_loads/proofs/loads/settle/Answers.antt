use Rattle.std.proofs.Common.{◌≡◌, ◌<◌, ◌≤◌, ◌^◌, ℕ, List, length, take, drop, ◌++◌, ◌∙◌, ap}
use Rattle.std.proofs.Common.{arith}
use Rattle.std.proofs.lemmas.List.{take_at}
use Rattle.plain_certificates.specs.Numbered.{EndsAreNodes}
use Rattle.push_flow.specs.Held.{supply_of, IsHeld}
use Rattle.push_flow.specs.Search.{IsShut}
use Rattle.push_flow.specs.Slices.{at, graph_of, spoke_at, task_of, AreRows}
use Rattle.push_flow.specs.declared.push.Ends.{Ends}
use Rattle.push_flow.specs.declared.push.Spoke.{Spoke}
use Rattle.flow_loads.proofs.Loading.{held_lists, quiet_lists, shut_lists}
use Rattle.flow_loads.specs.Loads.{load_supply}
use Rattle.flow_loads.proofs.loads.settle.Goals as goal

pub solve-requires-clause-sizes : goal.solve-requires-clause-sizes
solve-requires-clause-sizes c =
    let is = c.requires in
    let caps = is.caps_all in
    let flows = is.flow_all in
    let ends = ap length c.deref.ensures.value in
    let flow = ap length c.deref_mut.ensures.value in
    (omega (arith, caps, ends), omega (arith, flows, ends, flow))

pub solve-requires-clause-lens : goal.solve-requires-clause-lens
solve-requires-clause-lens c =
    let is = c.requires in
    let starts = is.starts_all in
    let excesses = is.excess_all in
    let wants = is.want_all in
    let few = is.few in
    let start = ap length c.deref-2.ensures.value in
    let excess = ap length c.deref_mut-2.ensures.value in
    let want = ap length c.deref_mut-3.ensures.value in
    let height = ap length c.deref_mut-5.ensures.value in
    let ring = ap length c.deref_mut-7.ensures.value in
    let all = c.in_ok-ring.ensures.len in
    let held = c.in_ok-ring.ring.ok.0 in
    let nodes = c.len-nodes.ensures in (
      omega (arith, wants, want, height),
      omega (arith, excesses, excess, height),
      omega (arith, ring, all, held, nodes, height),
      omega (arith, starts, start, height),
      omega (arith, few, height),
    )

pub solve-requires-clause-ends_in : goal.solve-requires-clause-ends_in
solve-requires-clause-ends_in c =
    rw (c.deref.ensures.value, c.deref_mut-5.ensures.value) c.requires.ends_in

pub solve-requires-clause-rows : goal.solve-requires-clause-rows
solve-requires-clause-rows c =
    rw (
      c.deref.ensures.value,
      c.deref-2.ensures.value,
      c.deref-3.ensures.value,
      c.deref_mut-5.ensures.value,
    ) c.requires.rows

pub solve-requires-clause-held : goal.solve-requires-clause-held
solve-requires-clause-held c =
    rw (
      c.deref.ensures.value,
      c.deref_mut.ensures.value,
      c.deref_mut-2.ensures.value,
      c.deref_mut-3.ensures.value,
      c.deref_mut-5.ensures.value,
    ) c.requires.held

pub returns : goal.returns
returns c =
    let old = c.args.load in
    let new = c.solve.new in
    let flow = c.solve.auto.flow in
    let flow_long = c.deref_mut.ensures.len in
    let excess = c.solve.auto.excess in
    let excess_long = c.deref_mut-2.ensures.len in
    let want = c.solve.auto.want in
    let want_long = c.deref_mut-3.ensures.len in
    let height = c.solve.auto.height in
    let height_long = c.deref_mut-5.ensures.len in
    let flow_is = take_at new.flow (drop (length new.flow) old.flow.items) old.flow.len
    (omega (arith, flow, flow_long)) in
    let excess_is = take_at new.excess (drop (length new.excess) old.excess.items) old.excess.len
    (omega (arith, excess, excess_long)) in
    let want_is = take_at new.want (drop (length new.want) old.want.items) old.want.len
    (omega (arith, want, want_long)) in
    let height_is = take_at new.height (drop (length new.height) old.height.items) old.height.len
    (omega (arith, height, height_long)) in
    let flow_all = ap length c.deref_mut.ensures.value in
    let excess_all = ap length c.deref_mut-2.ensures.value in
    let want_all = ap length c.deref_mut-3.ensures.value in
    let height_all = ap length c.deref_mut-5.ensures.value in
    let held = rw (
      c.deref.ensures.value,
      c.deref_mut.ensures.value,
      c.deref_mut-2.ensures.value,
      c.deref_mut-3.ensures.value,
      c.deref_mut-5.ensures.value,
    ) at c.solve.ensures.held in
    let shut = rw (c.deref.ensures.value, c.deref_mut-5.ensures.value) at c.solve.ensures.shut in
    let quiet = rw c.deref_mut-5.ensures.value at c.solve.ensures.quiet in
    let n = length old.height.items in
    let t = task_of n c.args.net.now.ends.items c.args.cap.now in
    let f = take old.flow.len (new.flow ++ drop (length new.flow) old.flow.items) in
    let e = take old.excess.len (new.excess ++ drop (length new.excess) old.excess.items) in
    let w = take old.want.len (new.want ++ drop (length new.want) old.want.items) in
    let y = take old.height.len (new.height ++ drop (length new.height) old.height.items) in
    record {
      flow_all = ap length flow_is ∙ (omega (arith, flow, flow_all));
      excess_all = ap length excess_is ∙ (omega (arith, excess, excess_all));
      want_all = ap length want_is ∙ (omega (arith, want, want_all));
      height_all = ap length height_is ∙ (omega (arith, height, height_all));
      held = held_lists t (load_supply t old) new.flow new.excess new.want new.height f e w y
          flow_is excess_is want_is height_is held;
      shut = shut_lists t new.flow new.height f y flow_is height_is shut;
      quiet = quiet_lists n new.excess new.height e y excess_is height_is quiet;
    }
