-- Free cycles: by other costs, and told with a feasible flow.
use Rattle.std.proofs.Common.{◌≡◌, ℕ, ◌<◌, ◌≤◌, ◌^◌, ℤ, pos, All, List, [], ◌∷◌, length}
use Rattle.std.proofs.Common.{Option, None, Some, refl, arith}
use Rattle.std.proofs.lemmas.Int.{ints}
use Rattle.std.proofs.lemmas.List.Elements.{All-head, All-tail}
use Rattle.plain_certificates.specs.Cheapest.{IsFreeCycle}
use Rattle.plain_certificates.specs.Feasible.{Bounds, IsFeasible}
use Rattle.plain_certificates.specs.Numbered.{Numbered}
use Rattle.plain_certificates.specs.Tables.{at}
use Rattle.plain_certificates.specs.Walks.{along}
use Rattle.task_bounds.specs.Answers.{IsFree}
use Rattle.task_bounds.specs.Given.{IsSpan}

-- an arc with much room has no upper bound
pub span_open : (l : ℤ) (u : Option ℤ) (cap : ℕ) → IsSpan l u cap → 2 ^ 61 ≤ cap → u ≡ None
span_open l None cap span much = refl
span_open l (Some b) cap span much = let few = span.1 in absurd (omega (arith, few, much))

module _ (g : Numbered) (cap : ℕ → ℕ) where
  along_same : (c cost : ℕ → ℤ) → ((k : ℕ) → k < g.arcs → c k ≡ cost k) → (xs : List ℕ)
      → All (λ k. (k < g.arcs) × (2 ^ 61 ≤ cap k)) xs → along c xs ≡ along cost xs
  along_same c cost same [] all = refl
  along_same c cost same (x ∷ xs) all =
      let here = same x (All-head (λ k. (k < g.arcs) × (2 ^ 61 ≤ cap k)) x xs all).0 in
      let rest = along_same c cost same xs
      (All-tail (λ k. (k < g.arcs) × (2 ^ 61 ≤ cap k)) x xs all) in
      omega (arith, ints, here, rest)

  -- other costs, which are the same on the arcs of the digraph
  pub free_same : (c cost : ℕ → ℤ) (cycle : List ℕ) → ((k : ℕ) → k < g.arcs → c k ≡ cost k)
      → IsFree g cap c cycle → IsFree g cap cost cycle
  free_same c cost cycle same free = record {
    is_cycle = free.is_cycle;
    roomy = free.roomy;
    negative =
        (let is = along_same c cost same cycle free.roomy in
        let less = free.negative in
        omega (arith, ints, is, less));
  }

  pub is_free_cycle : (bounds : Bounds) (cost flow : ℕ → ℤ) (cycle : List ℕ) (total : ℤ)
      → ((k : ℕ) → k < g.arcs → IsSpan (bounds.lower k) (bounds.upper k) (cap k))
      → IsFree g cap cost cycle → IsFeasible g bounds flow → total ≡ along cost cycle
      → IsFreeCycle g bounds cost flow cycle total
  is_free_cycle bounds cost flow cycle total spans free feasible sum = record {
    feasible = feasible;
    is_cycle = free.is_cycle;
    unbounded = λ i d l.
        (let arc = free.roomy i d l in
        span_open (bounds.lower _) (bounds.upper _) (cap _) (spans _ arc.0) arc.1);
    total_is = sum;
    negative = (let less = free.negative in omega (arith, ints, sum, less));
  }

-- the lists and the number of an answer may be given by others that are the same
pub told_free : (g : Numbered) (bounds : Bounds) (cost : ℕ → ℤ) (flow told_flow : List ℤ)
    (cycle told_cycle : List ℕ) (total told_total : ℤ) → told_flow ≡ flow → told_cycle ≡ cycle
    → told_total ≡ total → length flow ≡ g.arcs
    → IsFreeCycle g bounds cost (at (pos 0) flow) cycle total
    → (length told_flow ≡ g.arcs)
    × IsFreeCycle g bounds cost (at (pos 0) told_flow) told_cycle told_total
told_free g bounds cost flow told_flow cycle told_cycle total told_total flow_is cycle_is total_is
    all free =
    rw (flow_is, cycle_is, total_is) (all, free)
