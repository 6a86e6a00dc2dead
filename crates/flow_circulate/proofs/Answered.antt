-- What a run of the engine shows of the task that was made ready.
use Rattle.std.proofs.Common.{◌≡◌, inl, inr, ℕ, ◌<◌, ◌≤◌, ◌^◌, Bool, true, false, cond, ℤ}
use Rattle.std.proofs.Common.{pos, neg_ℤ}
use Rattle.std.proofs.Common.{◌+ℤ◌, ◌-ℤ◌, ◌*ℤ◌, ◌≤ℤ◌, ◌<ℤ◌, List, length}
use Rattle.std.proofs.Common.{refl, sym, ◌∙◌, ap, subst, arith}
use Rattle.std.proofs.Math.IntN.{zero-*ℤ}
use Rattle.std.proofs.lemmas.Int.{ints, by_lt_z}
use Rattle.static_digraph.specs.declared.answers.Barrier.{Barrier}
use Rattle.plain_certificates.proofs.Nets.{net-zero}
use Rattle.plain_certificates.proofs.Products.{one_times}
use Rattle.plain_certificates.proofs.Sums.{mark, sum_to-le, sum_where-same}
use Rattle.plain_certificates.proofs.Totals.{total_is_sum}
use Rattle.plain_certificates.specs.Cuts.{leaves, enters}
use Rattle.plain_certificates.specs.Feasible.{Bounds, IsFeasible, IsOver, IsUnder}
use Rattle.plain_certificates.specs.Feasible.{upper_of}
use Rattle.plain_certificates.specs.Numbered.{Numbered, EndsAreNodes, net, sum_to, sum_where}
use Rattle.plain_certificates.specs.Rooms.{as_flow}
use Rattle.plain_certificates.specs.Tables.{at}
use Rattle.plain_certificates.specs.Totals.{total_to}
use Rattle.push_flow.proofs.Start.{fresh_held}
use Rattle.push_flow.specs.Held.{Supply, most}
use Rattle.push_flow.specs.declared.push.Ends.{Ends}
use Rattle.push_flow.specs.declared.push.Spoke.{Spoke}
use Rattle.push_flow.specs.Search.{side_of}
use Rattle.flow_rows.specs.Network.{IsNetwork}
use Rattle.flow_loads.proofs.Loading.{fresh_loaded}
use Rattle.flow_loads.specs.declared.loads.Load.{Load}
use Rattle.flow_loads.specs.Loads.{HasSettled, IsLoaded, load_supply, task_in}
use Rattle.task_bounds.proofs.Weighing.{total_weight, weight_most}
use Rattle.task_bounds.specs.declared.plan.Plan.{Plan}
use Rattle.task_bounds.specs.Barriers.{IsToldOf}
use Rattle.task_bounds.specs.Excess.{AreLight, weight}
use Rattle.task_bounds.specs.Given.{AreFlows}
use Rattle.task_bounds.specs.Plan.{IsReady, IsReadyFor}
use Rattle.flow_circulate.proofs.Shift.{feasible, over, under}
use Rattle.flow_circulate.specs.Parts.{AreParts, IsFirst, IsPart}
use Rattle.flow_circulate.specs.Runs.{HasRun}

-- a value is what it has above 0 without what its opposite has
split_parts : (x : ℤ) (e w : ℕ) → IsPart x e → IsPart (neg_ℤ x) w → pos e -ℤ pos w ≡ x
split_parts x e w sends takes =
    by_lt_z (pos 0) x
    (λ lt.
    (let a = sends.0 lt in
    let b = takes.1 (omega (arith, ints, lt)) in
    omega (arith, ints, a, b)))
    (λ ge.
    (let a = sends.1 (omega (arith, ints, ge)) in
    by_lt_z (pos 0) (neg_ℤ x)
    (λ lt. (let b = takes.0 lt in omega (arith, ints, a, b)))
    (λ le.
    (let b = takes.1 (omega (arith, ints, le)) in omega (arith, ints, a, b, ge, le)))))

part_most : (x w : ℤ) (e : ℕ) → IsPart x e → neg_ℤ w ≤ℤ x → x ≤ℤ w → pos e ≤ℤ w
part_most x w e is low high =
    by_lt_z (pos 0) x
    (λ lt. (let a = is.0 lt in omega (arith, ints, a, high)))
    (λ ge. (let a = is.1 (omega (arith, ints, ge)) in omega (arith, ints, a, low, high)))

one_alone : (x : ℤ) (e w : ℕ) → IsPart x e → IsPart (neg_ℤ x) w → 0 < e → w ≡ 0
one_alone x e w sends takes some =
    by_lt_z (pos 0) x
    (λ lt. takes.1 (omega (arith, ints, lt)))
    (λ ge. (let a = sends.1 (omega (arith, ints, ge)) in absurd (omega (arith, a, some))))

marked_most : (b : Bool) (s w : ℤ) → s ≤ℤ w → pos 0 ≤ℤ w → (cond b (pos 1) (pos 0) *ℤ s) ≤ℤ w
marked_most true s w l z = let a = one_times s in omega (arith, ints, a, l)
marked_most false s w l z = let a = zero-*ℤ s in omega (arith, ints, a, z)

-- all nodes together have less to send than an open arc can carry
weights_few : (g : Numbered) → EndsAreNodes g → g.nodes ≤ 2 ^ 20 → g.arcs ≤ 2 ^ 22
    → sum_to g.nodes (weight g) <ℤ pos (2 ^ 62)
weights_few g ends nodes arcs =
    let all = total_weight g ends in
    omega (arith, ints, all, nodes, arcs)

-- the engine is given no more than it can have
pub excess_few : (g : Numbered) (x : ℕ → ℤ) (excess : List ℕ) → EndsAreNodes g
    → g.nodes ≤ 2 ^ 20 → g.arcs ≤ 2 ^ 22 → AreLight g x → AreParts g.nodes false x excess
    → total_to g.nodes (at 0 excess) ≤ most
excess_few g x excess ends nodes arcs light sends =
    let few = weights_few g ends nodes arcs in
    let is = total_is_sum g.nodes (at 0 excess) in
    let low = sum_to-le g.nodes (λ v. pos (at 0 excess v)) (weight g)
    (λ v l. part_most (x v) (weight g v) (at 0 excess v) (sends.each v l) (light v l).0
    (light v l).1) in
    omega (arith, ints, few, is, low)

pub begun_apart : (n : ℕ) (x : ℕ → ℤ) (excess want : List ℕ) → AreParts n false x excess
    → AreParts n true x want → (v : ℕ) → v < n → 0 < at 0 excess v → at 0 want v ≡ 0
begun_apart n x excess want sends takes v l some =
    one_alone (x v) (at 0 excess v) (at 0 want v) (sends.each v l) (takes.each v l) some

-- ---- the start

pub first_same : (n m count : ℕ) (xs ys : List ℤ) (load : Load) → ys ≡ xs → length xs ≡ n
    → count ≡ m → IsFirst (length ys) count (at (pos 0) ys) load
    → IsFirst n m (at (pos 0) xs) load
first_same n m count xs ys load same all count_is first =
    subst (λ k. IsFirst k m (at (pos 0) xs) load) all
    (subst (λ k. IsFirst (length xs) k (at (pos 0) xs) load) count_is
    (subst (λ zs. IsFirst (length zs) count (at (pos 0) zs) load) same first))

module _ (g : Numbered) (plan : Plan) (p : IsReady g 0 plan) where
  pub begun_small : (v : ℕ) → v < g.nodes
      → (neg_ℤ (pos (2 ^ 61)) ≤ℤ at (pos 0) plan.excess.items v)
      × (at (pos 0) plan.excess.items v ≤ℤ pos (2 ^ 61))
  begun_small v l =
      let most = weight_most g v p.few_arcs in
      let light = p.light v l in
      let low = light.0 in
      let high = light.1 in
      (omega (arith, ints, most, low), omega (arith, ints, most, high))

  -- the engine can begin
  pub begun_loaded : (begun : Load) (ends : List Ends) (start : List ℕ) (row : List Spoke)
      → IsFirst g.nodes g.arcs (at (pos 0) plan.excess.items) begun
      → IsNetwork g ends start row → IsLoaded ends start row plan.caps.items begun
  begun_loaded begun ends start row first net' =
      let caps = p.caps.all in
      fresh_loaded g ends start row plan.caps.items begun net' p.few_nodes (omega (arith, caps))
      first.flow_all first.sends.all first.takes.all first.height_all
      (λ k l. (let none = first.still k in omega (arith, none)))
      (excess_few g (at (pos 0) plan.excess.items) begun.excess.items p.ends p.few_nodes
      p.few_arcs p.light first.sends)
      (begun_apart g.nodes (at (pos 0) plan.excess.items) begun.excess.items begun.want.items
      first.sends first.takes)
      first.low

  -- where nothing has to be sent, nothing can be moved
  pub begun_settled : (begun : Load)
      → IsFirst g.nodes g.arcs (at (pos 0) plan.excess.items) begun
      → ((v : ℕ) → v < g.nodes → at 0 begun.excess.items v ≡ 0)
      → HasSettled (task_in g (at 0 plan.caps.items)) begun begun
  begun_settled begun first none = record {
    flow_all = refl;
    excess_all = refl;
    want_all = refl;
    height_all = refl;
    held = fresh_held (task_in g (at 0 plan.caps.items)) (at 0 begun.flow.items)
        (at 0 begun.excess.items) (at 0 begun.want.items) (at 0 begun.height.items)
        (λ k l. (let zero = first.still k in omega (arith, zero)))
        (excess_few g (at (pos 0) plan.excess.items) begun.excess.items p.ends p.few_nodes
        p.few_arcs p.light first.sends)
        (begun_apart g.nodes (at (pos 0) plan.excess.items) begun.excess.items begun.want.items
        first.sends first.takes)
        first.low;
    shut = λ k x u _ lx _ _ _ _. (let low = first.low x in omega (arith, low, lx));
    quiet = λ v l _. none v l;
  }

-- ---- the end

-- no flow is above the capacity of an open arc
pub sent_few : (g : Numbered) (plan : Plan) (ended : Load) → IsReady g 0 plan
    → HasRun g plan ended → (k : ℕ) → k < g.arcs → at 0 ended.flow.items k ≤ 2 ^ 62
sent_few g plan ended p r k l =
    let within = r.settled.held.within k l in
    elim (p.caps.inner k l) [
      | inl few ↦ omega (arith, within, few)
      | inr open_cap ↦ omega (arith, within, open_cap)
    ]

module _ (g : Numbered) (plan : Plan) (ended : Load) (r : HasRun g plan ended) where
  abbrev run_supplies : ℕ → Supply
  run_supplies = load_supply (task_in g (at 0 plan.caps.items)) r.begun

  sends_is : (v : ℕ) → v < g.nodes → (run_supplies v).sends ≡ at (pos 0) plan.excess.items v
  sends_is v l =
      let none = net-zero g (as_flow (at 0 r.begun.flow.items)) v
      (λ k _. ap pos (r.first.still k)) in
      let parts = split_parts (at (pos 0) plan.excess.items v) (at 0 r.begun.excess.items v)
      (at 0 r.begun.want.items v) (r.first.sends.each v l) (r.first.takes.each v l) in
      omega (arith, ints, none, parts)

  -- what a node sends, with what is left over there and without what it wants still, is what it
  -- has to
  pub run_balance : (v : ℕ) → v < g.nodes
      → (net g (as_flow (at 0 ended.flow.items)) v +ℤ pos (at 0 ended.excess.items v))
      -ℤ pos (at 0 ended.want.items v) ≡ at (pos 0) plan.excess.items v
  run_balance v l =
      let is = r.settled.held.balance v l in
      let sends = sends_is v l in
      omega (arith, ints, is, sends)

module _ (g : Numbered) (bounds : Bounds) (plan : Plan) (ended : Load) (p : IsReady g 0 plan)
    (q : IsReadyFor g bounds plan) (r : HasRun g plan ended) where
  abbrev s : HasSettled (task_in g (at 0 plan.caps.items)) r.begun ended
  s = r.settled

  abbrev supplies : ℕ → Supply
  supplies = run_supplies g plan ended r

  needs : (v : ℕ) → v < g.nodes → (supplies v).sends ≡ bounds.supply v -ℤ net g bounds.lower v
  needs v l =
      let is = sends_is g plan ended r v l in
      let x = q.excess v l in
      omega (arith, ints, is, x)

  small : (set : ℕ → Bool) → sum_to g.nodes (λ v. mark set v *ℤ (supplies v).sends)
      <ℤ pos (2 ^ 62)
  small set =
      let few = weights_few g p.ends p.few_nodes p.few_arcs in
      let low = sum_to-le g.nodes (λ v. mark set v *ℤ (supplies v).sends) (weight g)
      (λ v l.
      (let light = p.light v l in
      let down = light.0 in
      let up = light.1 in
      let is = sends_is g plan ended r v l in
      marked_most (set v) (supplies v).sends (weight g v) (omega (arith, ints, is, up))
      (omega (arith, ints, down, up)))) in
      omega (arith, ints, few, low)

  -- nothing is left over or wanted: the flow is feasible
  pub is_feasible : (flow : List ℤ)
      → AreFlows g.arcs (at (pos 0) plan.lower.items) (at 0 ended.flow.items) flow
      → ((v : ℕ) → v < g.nodes → at 0 ended.excess.items v ≡ 0)
      → ((v : ℕ) → v < g.nodes → at 0 ended.want.items v ≡ 0)
      → IsFeasible g bounds (at (pos 0) flow)
  is_feasible flow flows no_e no_w =
      feasible g bounds (at 0 plan.caps.items) (at 0 ended.flow.items) (at 0 ended.excess.items)
      (at 0 ended.want.items) (at 0 ended.height.items) supplies p.ends s.held needs q.spans
      (at (pos 0) flow)
      (λ k l. flows.each k l ∙ ap (λ z. z +ℤ pos (at 0 ended.flow.items k)) (q.lower k l))
      no_e no_w

  supplied : (set : ℕ → Bool) → sum_where g.nodes set (at (pos 0) plan.supply.items)
      ≡ sum_where g.nodes set bounds.supply
  supplied set = sum_where-same g.nodes set (at (pos 0) plan.supply.items) bounds.supply
      (λ v l _. q.supply v l)

  lower_at : (test : ℕ → Bool) → sum_where g.arcs test (at (pos 0) plan.lower.items)
      ≡ sum_where g.arcs test bounds.lower
  lower_at test = sum_where-same g.arcs test (at (pos 0) plan.lower.items) bounds.lower
      (λ k l _. q.lower k l)

  upper_at : (test : ℕ → Bool) → sum_where g.arcs test (at (pos 0) plan.upper.items)
      ≡ sum_where g.arcs test (upper_of bounds)
  upper_at test = sum_where-same g.arcs test (at (pos 0) plan.upper.items) (upper_of bounds)
      (λ k l _. q.upper k l)

  abbrev pub Told : Bool → Barrier → Type 0
  Told = IsToldOf g (at (pos 0) plan.lower.items) (at (pos 0) plan.upper.items)
      (at (pos 0) plan.supply.items)

  -- something is left over: the shut side supplies too much
  pub is_over : (b : Barrier) → Told true b
      → at false b.nodes ≡ side_of g.nodes (at 0 ended.height.items) → (v : ℕ) → v < g.nodes
      → 0 < at 0 ended.excess.items v → IsOver g bounds (at false b.nodes) b.supply b.limit
  is_over b told side v l some =
      let set = at false b.nodes in
      let shown = over g bounds (at 0 plan.caps.items) (at 0 ended.flow.items)
      (at 0 ended.excess.items) (at 0 ended.want.items) (at 0 ended.height.items) supplies p.ends
      s.held needs q.spans s.shut s.quiet (small (side_of g.nodes (at 0 ended.height.items)))
      v l some in
      let shown' : IsOver g bounds set (sum_where g.nodes set bounds.supply)
      (sum_where g.arcs (leaves g set) (upper_of bounds)
      -ℤ sum_where g.arcs (enters g set) bounds.lower) =
      subst (λ (x : ℕ → Bool). IsOver g bounds x (sum_where g.nodes x bounds.supply)
      (sum_where g.arcs (leaves g x) (upper_of bounds)
      -ℤ sum_where g.arcs (enters g x) bounds.lower)) (sym side) shown in
      let leave = upper_at (leaves g set) in
      let enter = lower_at (enters g set) in
      let limit : b.limit ≡ sum_where g.arcs (leaves g set) (upper_of bounds)
      -ℤ sum_where g.arcs (enters g set) bounds.lower =
      (let is = told.limit_is in omega (arith, ints, is, leave, enter)) in
      rw (told.supply_is ∙ supplied set, limit) shown'

  -- nothing is left over and something is wanted: all nodes together supply too little
  pub is_under : (b : Barrier) → Told false b
      → ((v : ℕ) → v < g.nodes → at false b.nodes v ≡ true)
      → ((v : ℕ) → v < g.nodes → at 0 ended.excess.items v ≡ 0) → (v : ℕ) → v < g.nodes
      → 0 < at 0 ended.want.items v → IsUnder g bounds (at false b.nodes) b.supply b.limit
  is_under b told all no_e v l some =
      let set = at false b.nodes in
      let shown = under g bounds (at 0 plan.caps.items) (at 0 ended.flow.items)
      (at 0 ended.excess.items) (at 0 ended.want.items) (at 0 ended.height.items) supplies p.ends
      s.held needs q.spans set all no_e v l some in
      let leave = lower_at (leaves g set) in
      let enter = upper_at (enters g set) in
      let limit : b.limit ≡ sum_where g.arcs (leaves g set) bounds.lower
      -ℤ sum_where g.arcs (enters g set) (upper_of bounds) =
      (let is = told.limit_is in omega (arith, ints, is, leave, enter)) in
      rw (told.supply_is ∙ supplied set, limit) shown
