use Rattle.std.proofs.Common.{◌∙◌, ℕ, List, length, map, eqb, true, false}
use Rattle.std.proofs.Common.{ap, replicate, arith}
use Rattle.std.proofs.lemmas.List.{length-map, length-replicate}
use Rattle.plain_certificates.specs.Tables.{at}
use Rattle.static_digraph.specs.Fixed.{graph_of}
use Rattle.flow_circulate.proofs.Answered.{is_over, is_under}
use Rattle.flow_circulate.proofs.Found.{none_found, some_found}
use Rattle.flow_circulate.proofs.Runs.{all_at, excess_long, height_long, top_side}
use Rattle.flow_circulate.proofs.Runs.{want_long}
use Rattle.flow_circulate.proofs.circulation.barrier_at.Goals as goal

pub barrier_of-barrier-requires : goal.barrier_of-barrier-requires
barrier_of-barrier-requires c =
    let g = graph_of c.args.g.now in
    let ended = c.args.ended.now in
    record {
      nodes = ap length c.in_ok-side.ensures
          ∙ (length-map c.deref-in-Some.result.now (λ h. eqb h c.node_count-nodes.result)
          ∙ (ap length c.deref-in-Some.ensures.value
          ∙ height_long g c.args.plan.now ended c.requires.ran));
      lower = c.requires.ready.lower;
      upper = c.requires.ready.upper;
      supply = c.requires.ready.supply;
    }

pub returns-in-Some : goal.returns-in-Some
returns-in-Some c =
    let g = graph_of c.args.g.now in
    let plan = c.args.plan.now in
    let ended = c.args.ended.now in
    let heights = ended.height.items in
    let count = c.node_count-nodes.ensures.count in
    let run = c.requires.ran in
    let b = c.barrier_of-barrier.result in
    let told = c.barrier_of-barrier.ensures.told in
    let side = c.in_ok-side.ensures
    ∙ (ap (λ (xs : List ℕ). map (λ h. eqb h c.node_count-nodes.result) xs)
    c.deref-in-Some.ensures.value
    ∙ ap (λ (n : ℕ). map (λ h. eqb h n) heights) count) in
    let nodes = c.barrier_of-barrier.ensures.nodes ∙ side in
    let some = some_found g.nodes ended.excess.items c.deref.result.now c.deref.ensures.value
    (excess_long g plan ended run) c.first_positive.result c.first_positive.ensures.found
    c.in-Some._left c.in-Some.is in
    let inside = some.0 in
    λ bounds task.
    (let set = ap (at false) nodes ∙ top_side g.nodes heights (omega (arith, inside)) in
    let shown = is_over g bounds plan ended c.requires.ready task run b told set c.in-Some._left
    some.0 some.1 in (
      ap length nodes ∙ (length-map heights (λ h. eqb h g.nodes) ∙ height_long g plan ended run),
      rw told.over_is shown,
    ))

pub barrier_of-lack-requires : goal.barrier_of-lack-requires
barrier_of-lack-requires c = record {
  nodes = ap length c.from_vec-set.ensures
      ∙ (ap length (c.in_ok-all.ensures.items_if_clones_equal (λ y e. e))
      ∙ (length-replicate c.node_count-nodes.result true ∙ c.node_count-nodes.ensures.count));
  lower = c.requires.ready.lower;
  upper = c.requires.ready.upper;
  supply = c.requires.ready.supply;
}

pub returns-in-Some-first_positive : goal.returns-in-Some-first_positive
returns-in-Some-first_positive c =
    let g = graph_of c.args.g.now in
    let plan = c.args.plan.now in
    let ended = c.args.ended.now in
    let count = c.node_count-nodes.ensures.count in
    let run = c.requires.ran in
    let b = c.barrier_of-lack.result in
    let told = c.barrier_of-lack.ensures.told in
    let set = c.barrier_of-lack.ensures.nodes
    ∙ (c.from_vec-set.ensures
    ∙ (c.in_ok-all.ensures.items_if_clones_equal (λ y e. e) ∙ ap (λ n. replicate n true) count)) in
    let none = none_found g.nodes ended.excess.items c.deref.result.now c.deref.ensures.value
    (excess_long g plan ended run) c.first_positive.result c.first_positive.ensures.found
    c.in_default.not-Some in
    let some = some_found g.nodes ended.want.items c.deref-2.result.now c.deref-2.ensures.value
    (want_long g plan ended run) c.first_positive-2.result c.first_positive-2.ensures.found
    c.in-Some-first_positive._wanted c.in-Some-first_positive.is in
    λ bounds task.
    (let shown = is_under g bounds plan ended c.requires.ready task run b told
    (all_at g.nodes b.nodes set) none c.in-Some-first_positive._wanted some.0 some.1 in
    (ap length set ∙ length-replicate g.nodes true, rw told.over_is shown))

pub returns : goal.returns
returns c =
    let g = graph_of c.args.g.now in
    let plan = c.args.plan.now in
    let ended = c.args.ended.now in
    let run = c.requires.ran in
    λ bounds task. record {
      none_left = none_found g.nodes ended.excess.items c.deref.result.now c.deref.ensures.value
          (excess_long g plan ended run) c.first_positive.result c.first_positive.ensures.found
          c.in_default.not-Some;
      none_wanted = none_found g.nodes ended.want.items c.deref-2.result.now
          c.deref-2.ensures.value (want_long g plan ended run) c.first_positive-2.result
          c.first_positive-2.ensures.found c.in_default-first_positive.not-Some;
    }
