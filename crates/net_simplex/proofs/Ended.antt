-- What a run leaves, seen from the task: the lower bounds and what the run sends are a flow.
use Rattle.std.proofs.Common.{◌≡◌, ◌≢◌, inl, inr, ℕ, ◌+◌, ◌<◌, ◌≤◌, ◌^◌, Bool, true, false}
use Rattle.std.proofs.Common.{cond}
use Rattle.std.proofs.Common.{eqb, ℤ, pos, neg_ℤ, ◌+ℤ◌, ◌-ℤ◌, List, [], ◌∷◌}
use Rattle.std.proofs.Common.{All, Option, None, Some, ap, arith}
use Rattle.std.specs.Prelude.{unwrap_or}
use Rattle.std.proofs.lemmas.Int.{ints}
use Rattle.std.proofs.lemmas.Bool.Decides.{eqb_tells}
use Rattle.std.proofs.lemmas.List.Elements.{All-head, All-tail, All-cons}
use Rattle.plain_certificates.proofs.Nets.{net-same, net-add}
use Rattle.plain_certificates.specs.Cheapest.{cost_of, reduced_cost, IsOptimal, IsBasic, IsBetween}
use Rattle.plain_certificates.specs.Feasible.{Bounds, IsAtMost, IsBelow, IsFeasible}
use Rattle.plain_certificates.specs.Numbered.{Numbered, net}
use Rattle.plain_certificates.specs.Rooms.{as_flow}
use Rattle.plain_certificates.specs.Walks.{IsTrail, Pace, pace_to, arcs_of}
use Rattle.pivot_flow.specs.Enter.{NoneEnters}
use Rattle.pivot_flow.specs.State.{cap_bounds}
use Rattle.pivot_flow.specs.Tree.{Task, Tree}
use Rattle.net_simplex.proofs.Best.{best_where}
use Rattle.net_simplex.proofs.Rim.{net_rooted}
use Rattle.task_bounds.specs.Given.{IsSpan}
use Rattle.net_simplex.specs.Network.{IsNetwork, IsRunning, added}
use Rattle.task_bounds.specs.Excess.{IsExcess}

-- ---- one arc

span_most : (l x : ℤ) (u : Option ℤ) (cap f : ℕ) → IsSpan l u cap → f ≤ cap
    → x ≡ l +ℤ pos f → IsAtMost x u
span_most l x None cap f span le is = tt
span_most l x (Some b) cap f span le is =
    let sum = span.0 in omega (arith, ints, sum, le, is)

-- below its upper bound an arc has room
span_below : (l x : ℤ) (u : Option ℤ) (cap f : ℕ) → IsSpan l u cap → f ≤ cap
    → (f ≡ cap → cap ≤ 2 ^ 37) → x ≡ l +ℤ pos f → IsBelow x u → f < cap
span_below l x None cap f span le free is below = elim (eqb_tells f cap) [
  | inl e ↦ (let few = free e.1 in absurd (omega (arith, span, few)))
  | inr e ↦ (let off = e.1 in omega (arith, off, le))
]
span_below l x (Some b) cap f span le free is below =
    let sum = span.0 in omega (arith, ints, sum, is, below)

-- a full arc is at its upper bound
pub span_full : (l x : ℤ) (u : Option ℤ) (cap f : ℕ) → IsSpan l u cap → f ≡ cap
    → (f ≡ cap → cap ≤ 2 ^ 37) → x ≡ l +ℤ pos f → (x ≡ unwrap_or u (pos 0)) × (u ≢ None)
span_full l x None cap f span full free is =
    let few = free full in absurd (omega (arith, span, few))
span_full l x (Some b) cap f span full free is =
    let sum = span.0 in (omega (arith, ints, sum, full, is), λ e. absurd cc)

none_added : (b : Bool) (n : ℕ) → n ≡ 0 → cond b (pos n) (neg_ℤ (pos n)) ≡ pos 0
none_added true n e = omega (arith, ints, e)
none_added false n e = omega (arith, ints, e)

-- ---- all arcs

module _ (g : Numbered) (bounds : Bounds) (excess : ℕ → ℤ) (t : Task) (c : ℕ → ℤ) (h : Tree)
    (f : ℕ → ℕ) (y : ℕ → ℤ) (nw : IsNetwork g bounds t) (ex : IsExcess g bounds excess)
    (run : IsRunning g excess t c h f y) (x : ℕ → ℤ)
    (is : (k : ℕ) → k < g.arcs → x k ≡ bounds.lower k +ℤ pos (f k)) where
  inside : (k : ℕ) → k < g.arcs → k < t.net.arcs
  inside k l = let all = nw.rooted.arcs in omega (arith, all, l)

  pub within : (k : ℕ) → k < g.arcs → f k ≤ t.cap k
  within k l = run.state.held.within k (inside k l)

  pub free_at : (k : ℕ) → k < g.arcs → f k ≡ t.cap k → t.cap k ≤ 2 ^ 37
  free_at k l full = run.free.full k (inside k l) full

  -- what each node sends, with what its added arc carries, is its supply
  pub supplied : (v : ℕ) → v < g.nodes
      → net g x v +ℤ added g t (as_flow f) v ≡ bounds.supply v
  supplied v l =
      let same = net-same g x (λ k. bounds.lower k +ℤ pos (f k)) v is in
      let parts = net-add g bounds.lower (as_flow f) v in
      let whole = net_rooted g t nw.rooted (as_flow f) v l in
      let all = nw.rooted.nodes in
      let met = run.state.held.met v (omega (arith, all, l)) in
      let sends = run.sends_are v l in
      let is_excess = ex v l in
      omega (arith, ints, same, parts, whole, met, sends, is_excess)

  -- where no added arc carries anything, it is a feasible flow
  pub feasible : ((v : ℕ) → v < g.nodes → f (g.arcs + v) ≡ 0) → IsFeasible g bounds x
  feasible none = record {
    above_lower = λ k l. (let e = is k l in omega (arith, ints, e));
    within_upper = λ k l. span_most (bounds.lower k) (x k) (bounds.upper k) (t.cap k) (f k)
        (nw.spans k l) (within k l) (is k l);
    supplied = λ v l.
        (let all = supplied v l in
        let zero = none_added (eqb (t.net.from (g.arcs + v)) v) (f (g.arcs + v)) (none v l) in
        omega (arith, ints, all, zero));
  }

  -- and where no arc may enter, it is a cheapest one
  pub optimal : (cost pi : ℕ → ℤ) (total : ℤ)
      → ((v : ℕ) → v < g.nodes → f (g.arcs + v) ≡ 0) → NoneEnters t c f y
      → ((k : ℕ) → k < g.arcs → c k ≡ cost k)
      → ((v : ℕ) → v < g.nodes → pi v ≡ y v -ℤ y 0)
      → total ≡ cost_of g cost x → IsOptimal g bounds cost x pi total
  optimal cost pi total none stop costs prices sum =
      let best = best_where t c f y stop in
      let same : (k : ℕ) → k < g.arcs → reduced_cost g cost pi k ≡ reduced_cost t.net c y k =
      λ k l.
      (let from = prices (g.from k) (nw.ends k l).0 in
      let to = prices (g.to k) (nw.ends k l).1 in
      let a = ap y (nw.rooted.from k l) in
      let b = ap y (nw.rooted.to k l) in
      let e = costs k l in
      omega (arith, ints, from, to, a, b, e)) in
      record {
        feasible = feasible none;
        total_is = sum;
        first_is_0 = λ some. (let e = prices 0 some in omega (arith, ints, e));
        no_gain = λ k l below.
            (let room = span_below (bounds.lower k) (x k) (bounds.upper k) (t.cap k) (f k)
            (nw.spans k l) (within k l) (free_at k l) (is k l) below in
            let up = best.up k (inside k l) room in
            let e = same k l in
            omega (arith, ints, up, e));
        no_loss = λ k l above.
            (let e = is k l in
            let down = best.down k (inside k l) (omega (arith, ints, e, above)) in
            let r = same k l in
            omega (arith, ints, down, r));
      }

  -- ---- trails in the digraph are trails in the network

  trail_in : (paces : List Pace) (u v : ℕ) → IsTrail g u paces v → IsTrail t.net u paces v
  trail_in [] u v trail = trail
  trail_in (p ∷ paces) u v trail =
      let a = nw.rooted.from p.arc trail.0 in
      let b = nw.rooted.to p.arc trail.0 in (
        inside p.arc trail.0,
        rw (a, b) trail.1,
        rw (a, b) (trail_in paces (pace_to g p) v trail.2),
      )

  between_in : (k : ℕ) → k < g.arcs → IsBetween bounds x k
      → IsBetween (cap_bounds t run.sends) (as_flow f) k
  between_in k l between =
      let e = is k l in
      let low = between.0 in
      let room = span_below (bounds.lower k) (x k) (bounds.upper k) (t.cap k) (f k)
      (nw.spans k l) (within k l) (free_at k l) (is k l) between.1 in
      (omega (arith, ints, e, low), omega (arith, ints, room))

  all_between : (paces : List Pace) (u v : ℕ) → IsTrail g u paces v
      → All (IsBetween bounds x) (arcs_of paces)
      → All (IsBetween (cap_bounds t run.sends) (as_flow f)) (arcs_of paces)
  all_between [] u v trail all = λ k d l. absurd (omega (arith, l))
  all_between (p ∷ paces) u v trail all =
      All-cons (IsBetween (cap_bounds t run.sends) (as_flow f)) p.arc (arcs_of paces)
      (between_in p.arc trail.0 (All-head (IsBetween bounds x) p.arc (arcs_of paces) all))
      (all_between paces (pace_to g p) v trail.2
      (All-tail (IsBetween bounds x) p.arc (arcs_of paces) all))

  pub basic : IsBasic t.net (cap_bounds t run.sends) (as_flow f) → IsBasic g bounds x
  basic tree node paces some differ all trail =
      tree node paces some differ (all_between paces node node trail all)
      (trail_in paces node node trail)
