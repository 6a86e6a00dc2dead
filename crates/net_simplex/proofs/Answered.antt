-- What the answers show.
use Rattle.std.proofs.Common.{◌≡◌, ℕ, ◌+◌, ◌<◌, Bool, true, false, ℤ, pos}
use Rattle.std.proofs.Common.{◌+ℤ◌, ◌*ℤ◌, ◌<ℤ◌, ◌≤ℤ◌, Option, None, List, ap}
use Rattle.std.proofs.Common.{◌∙◌, refl, subst, arith}
use Rattle.std.specs.Prelude.{MatchOption}
use Rattle.std.proofs.lemmas.Int.{ints}
use Rattle.static_digraph.specs.declared.answers.Barrier.{Barrier}
use Rattle.pivot_flow.specs.Enter.{NoneEnters}
use Rattle.pivot_flow.specs.Spread.{price_at}
use Rattle.pivot_flow.specs.Tree.{Task, Tree}
use Rattle.pivot_flow.specs.declared.pivots.Endless.{Endless}
use Rattle.plain_certificates.proofs.Sums.{sum_where-same}
use Rattle.plain_certificates.specs.Cuts.{enters, leaves}
use Rattle.plain_certificates.specs.Feasible.{Bounds, IsBarrier, IsFeasible, upper_of}
use Rattle.plain_certificates.specs.Numbered.{Numbered, sum_to, sum_where}
use Rattle.plain_certificates.specs.Tables.{at as flag_at}
use Rattle.net_simplex.proofs.Barriers.{above_0, below_0, over, under}
use Rattle.net_simplex.proofs.Ended.{basic, feasible, optimal}
use Rattle.plain_certificates.specs.Cheapest.{IsBasic}
use Rattle.task_bounds.specs.Answers.{IsCheapest}
use Rattle.task_bounds.specs.Excess.{IsExcess}
use Rattle.net_simplex.specs.Network.{IsNetwork, IsWeighed}
use Rattle.net_simplex.specs.Solved.{IsLast, IsEndless}
use Rattle.task_bounds.specs.Given.{AreFlows}
use Rattle.net_simplex.specs.Told.{AreSides, IsSide}
use Rattle.task_bounds.specs.Potentials.{ArePotentials}
use Rattle.task_bounds.specs.Barriers.{IsToldOf}

-- ---- sides

side_true : (over b : Bool) (price : ℤ) → IsSide over price b → IsSide over price true → b ≡ true
side_true true true price is on = refl
side_true true false price is on = absurd (omega (arith, ints, is, on))
side_true false true price is on = refl
side_true false false price is on = absurd (omega (arith, ints, is, on))

stops_in : (t : Task) (c : ℕ → ℤ) (f : ℕ → ℕ) (y : ℕ → ℤ) (P : Endless → Type 0)
    (endless : Option Endless) → endless ≡ None → MatchOption endless (NoneEnters t c f y) P
    → NoneEnters t c f y
stops_in t c f y P endless none match = subst (λ e. MatchOption e (NoneEnters t c f y) P) none match

module _ (g : Numbered) (bounds : Bounds) (excess : ℕ → ℤ) (t : Task) (c : ℕ → ℤ) (h : Tree)
    (f : ℕ → ℕ) (y : ℕ → ℤ) (endless : Option Endless) (nw : IsNetwork g bounds t)
    (ex : IsExcess g bounds excess)
    (last : IsLast g excess t c h f y endless) (stopped : endless ≡ None)
    (lower upper supply : ℕ → ℤ)
    (lower_is : (k : ℕ) → k < g.arcs → lower k ≡ bounds.lower k) where
  stop : NoneEnters t c f y
  stop = stops_in t c f y (λ x. IsEndless t c h f y x) endless stopped last.stops

  module _ (flow : List ℤ) (flows : AreFlows g.arcs lower f flow) where
    flow_is : (k : ℕ) → k < g.arcs
        → price_at flow k ≡ bounds.lower k +ℤ pos (f k)
    flow_is k l = flows.each k l ∙ ap (λ z. z +ℤ pos (f k)) (lower_is k l)

    -- no added arc carries anything: a cheapest flow, which is basic
    pub is_best : (cost : ℕ → ℤ) (pi : List ℤ) (total : ℤ) → ArePotentials g.nodes y pi
        → ((v : ℕ) → v < g.nodes → f (g.arcs + v) ≡ 0)
        → ((k : ℕ) → k < g.arcs → c k ≡ cost k)
        → total ≡ sum_to g.arcs (λ k. cost k *ℤ price_at flow k)
        → IsCheapest g bounds cost flow pi total × IsBasic g bounds (price_at flow)
    is_best cost pi total prices none costs sum = (
      record {
        flow_all = flows.all;
        pi_all = prices.all;
        optimal = optimal g bounds excess t c h f y nw ex last.running (price_at flow) flow_is cost
            (price_at pi) total none stop costs prices.each sum;
      },
      basic g bounds excess t c h f y nw ex last.running (price_at flow) flow_is last.basic,
    )

    -- or, of a run with other costs, a feasible flow
    pub is_feasible : ((v : ℕ) → v < g.nodes → f (g.arcs + v) ≡ 0)
        → IsFeasible g bounds (price_at flow)
    is_feasible none = feasible g bounds excess t c h f y nw ex last.running (price_at flow)
        flow_is none

  -- some added arc still carries something: a barrier
  module _ (w : IsWeighed g c) (upper_is : (k : ℕ) → k < g.arcs → upper k ≡ upper_of bounds k)
      (supply_is : (v : ℕ) → v < g.nodes → supply v ≡ bounds.supply v) (b : Barrier) where
    abbrev pub flow_of : ℕ → ℤ
    flow_of k = bounds.lower k +ℤ pos (f k)

    abbrev pub set : ℕ → Bool
    set v = flag_at false b.nodes v

    supplied : sum_where g.nodes set supply ≡ sum_where g.nodes set bounds.supply
    supplied = sum_where-same g.nodes set supply bounds.supply (λ v l _. supply_is v l)

    lower_at : (test : ℕ → Bool) → sum_where g.arcs test lower ≡ sum_where g.arcs test bounds.lower
    lower_at test = sum_where-same g.arcs test lower bounds.lower (λ k l _. lower_is k l)

    upper_at : (test : ℕ → Bool)
        → sum_where g.arcs test upper ≡ sum_where g.arcs test (upper_of bounds)
    upper_at test = sum_where-same g.arcs test upper (upper_of bounds) (λ k l _. upper_is k l)

    above : (v : ℕ) → v < g.nodes → pos 0 ≤ℤ y v → pos 0 <ℤ y v
    above = above_0 g bounds excess t c h f y nw ex last.running flow_of (λ k l. refl) last.costed w
        last.ends stop set

    below : (v : ℕ) → v < g.nodes → y v ≤ℤ pos 0 → y v <ℤ pos 0
    below = below_0 g bounds excess t c h f y nw ex last.running flow_of (λ k l. refl) last.costed w
        last.ends stop set

    pub is_barrier : (is_over : Bool) (short : ℕ) → IsToldOf g lower upper supply is_over b
        → AreSides g.nodes y is_over b.nodes → short < g.nodes → 0 < f (g.arcs + short)
        → IsSide true (y short) is_over
        → IsBarrier g bounds is_over set b.supply b.limit
    is_barrier true short told are l some low =
        let sides = are.each in
        let leave = upper_at (leaves g set) in
        let enter = lower_at (enters g set) in
        over g bounds excess t c h f y nw ex last.running flow_of (λ k q. refl) last.costed w
        last.ends stop set
        (λ v q on. subst (IsSide true (y v)) on (sides v q))
        (λ v q off. above v q (subst (IsSide true (y v)) off (sides v q)))
        short l (side_true true (set short) (y short) (sides short l) low) some b.supply
        b.limit (told.supply_is ∙ supplied)
        (let is = told.limit_is in omega (arith, ints, is, leave, enter))
    is_barrier false short told are l some low =
        let sides = are.each in
        let leave = lower_at (leaves g set) in
        let enter = upper_at (enters g set) in
        under g bounds excess t c h f y nw ex last.running flow_of (λ k q. refl) last.costed w
        last.ends stop set
        (λ v q on. subst (IsSide false (y v)) on (sides v q))
        (λ v q off. below v q (subst (IsSide false (y v)) off (sides v q)))
        short l (side_true false (set short) (y short) (sides short l) (above short l low))
        some b.supply b.limit (told.supply_is ∙ supplied)
        (let is = told.limit_is in omega (arith, ints, is, leave, enter))
