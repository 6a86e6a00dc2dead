-- A world whose seats are as before, but for room and reach.
use Rattle.std.proofs.Common.{◌≡◌, true, List, sym, ◌∙◌, subst}
use Rattle.base_items.specs.declared.items.ItemSort.{ItemSort}
use Rattle.base_items.specs.declared.items.ItemSort.TheVariants as sorts
use Rattle.plain_digraph.specs.Lists.{AllOf}
use Rattle.observe_core.specs.Seen.{Watched}
use Rattle.notify_chain.specs.Seats.{Each, Became}
use Rattle.alter_graph.specs.Chains.{ChainsSeen, chain_in, chains_seen, seats_in, IsSameChains}
use Rattle.alter_graph.specs.State as graph
use Rattle.alter_graph.specs.State.{IsSame, AlterOf, state_of}
use Rattle.desk_world.specs.declared.world.World.{World}
use Rattle.desk_world.specs.Claims.{Claim, Sits, claims_of, is_claimed}
use Rattle.desk_world.specs.Derived.{AreDerived}
use Rattle.desk_world.specs.KeptViews.{AreKept}
use Rattle.desk_world.specs.InStep.{AreSeated, AreInStep, Differ, keys_in, guards_seated}
use Rattle.desk_world.specs.Looks.{Look, look_in}
use Rattle.desk_world.specs.Plain.{plain_of, world_seen, kinds_of}
use Rattle.desk_world.proofs.GuardOrder.{guards_same}
use Rattle.desk_world.proofs.StillClaimed.{keys_alike}
use Rattle.desk_world.proofs.Looks.{seen_same}

-- where each look-up and all keys are as before, so are the claims
pub seated_still : (list : List Claim) (c d : ChainsSeen) → look_in d ≡ look_in c
    → ((sort : ItemSort) → keys_in sort d ≡ keys_in sort c)
    → ((sort : ItemSort) → guards_seated sort d ≡ guards_seated sort c)
    → ((sort : ItemSort) → (chain_in sort d).left ≡ (chain_in sort c).left) → AreSeated list c
    → AreSeated list d
seated_still list c d looks keys guards left seated = record {
  there = subst (λ (look : Look). AllOf (λ x. Sits x.role (look x.sort x.key)) list) (sym looks)
      seated.there;
  no_other = λ sort. subst (AllOf (λ key. is_claimed list sort key ≡ true)) (sym (keys sort))
      (seated.no_other sort);
  claims_differ = seated.claims_differ;
  keys_differ = λ sort. subst Differ (sym (keys sort)) (seated.keys_differ sort);
  in_order = λ sort. guards sort ∙ seated.in_order sort;
  none_left = λ sort. left sort ∙ seated.none_left sort;
}

module _ (c d : ChainsSeen) (same : IsSameChains c d) where
  pub same_in : (sort : ItemSort) → Each (Became (λ s. s)) (seats_in sort c) (seats_in sort d)
  same_in sorts.Node = same.nodes.seats
  same_in sorts.Arc = same.arcs.seats

  pub look_still : look_in d ≡ look_in c
  look_still = λ i sort key.
      seen_same key (seats_in sort c) (seats_in sort d) (same_in sort) i

  pub keys_still : (sort : ItemSort) → keys_in sort d ≡ keys_in sort c
  keys_still sort = keys_alike (seats_in sort c) (seats_in sort d) (same_in sort)

  pub guards_still : (sort : ItemSort) → guards_seated sort d ≡ guards_seated sort c
  guards_still sort = guards_same (seats_in sort c) (seats_in sort d) (same_in sort)

  pub left_still : (sort : ItemSort) → (chain_in sort d).left ≡ (chain_in sort c).left
  left_still sorts.Node = same.nodes.left
  left_still sorts.Arc = same.arcs.left

module _ {O : Type 0} (watch : O → Watched) (w : World O) (a : AlterOf O)
    (in_step : AreInStep watch w) (same : IsSame (state_of watch w.graph) (state_of watch a))
    (then : graph.IsInStep (state_of watch a)) where
  abbrev c : ChainsSeen
  c = chains_seen watch w.graph.chains

  abbrev d : ChainsSeen
  d = chains_seen watch a.chains

  pub still_in_step : AreInStep watch (record w { graph = a })
  still_in_step = record {
    graph = then;
    seated = seated_still (claims_of w) c d (look_still c d same.chains)
        (keys_still c d same.chains) (guards_still c d same.chains) (left_still c d same.chains)
        in_step.seated;
    boxes = in_step.boxes;
    snaps = same.chains.snaps ∙ in_step.snaps;
    derived = subst (λ look. AreDerived look w.nodes w.arcs w.attributes.rows)
        (sym (look_still c d same.chains)) in_step.derived;
    kept = subst (λ look. AreKept look w.nodes w.arcs w.views.rows)
        (sym (look_still c d same.chains)) in_step.kept;
  }

  pub plain_still : plain_of watch (record w { graph = a }) ≡ plain_of watch w
  plain_still =
      let looks = look_still c d same.chains in
      let g = same.graph in
      λ i. world_seen (g i) (looks i) (kinds_of watch w.pool.items) w
