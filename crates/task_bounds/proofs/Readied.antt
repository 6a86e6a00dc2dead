-- A task is made ready.
use Rattle.std.proofs.Common.{◌≡◌, ◌⊎◌, inl, inr, ℕ, ◌+◌, ◌≤◌, ◌^◌, ℤ, pos, List, length}
use Rattle.std.proofs.Common.{Option, None, Some, refl, ◌∙◌, subst, arith}
use Rattle.std.specs.Prelude.{unwrap_or}
use Rattle.std.proofs.lemmas.Int.{ints}
use Rattle.plain_certificates.proofs.Nets.{net-same}
use Rattle.plain_certificates.specs.Numbered.{Numbered, EndsAreNodes}
use Rattle.plain_certificates.specs.Tables.{at}
use Rattle.task_bounds.specs.declared.plan.Plan.{Plan}
use Rattle.task_bounds.specs.Given.{bounds_given, given, upper_given}
use Rattle.task_bounds.specs.Excess.{IsTaken}
use Rattle.task_bounds.specs.Given.{AreRooms, AreValues, IsSpan}
use Rattle.task_bounds.specs.Plan.{AreSmall, IsReady, IsReadyFor}

-- the upper bound, and 0 where there is none
given_upper : (upper : Option (List ℤ)) (k : ℕ)
    → given upper k ≡ unwrap_or (upper_given upper k) (pos 0)
given_upper None k = refl
given_upper (Some xs) k = refl

span_cap : (l : ℤ) (u : Option ℤ) (c : ℕ) → IsSpan l u c → (c ≤ 2 ^ 37) ⊎ (c ≡ 2 ^ 62)
span_cap l None c span = inr span
span_cap l (Some u) c span = inl span.1

are_small : (count : ℕ) (value : ℕ → ℤ) (list : List ℤ) → AreValues count value list
    → AreSmall count list
are_small count value list values = record { all = values.all; small = values.small }

module _ (g : Numbered) (lower upper supply : Option (List ℤ)) (added : ℕ) (plan : Plan)
    (ends : EndsAreNodes g) (few_nodes : g.nodes ≤ 2 ^ 20) (few_arcs : g.arcs ≤ 2 ^ 22)
    (low : AreValues g.arcs (given lower) plan.lower.items)
    (high : AreValues g.arcs (given upper) plan.upper.items)
    (supplies : AreValues g.nodes (given supply) plan.supply.items)
    (rooms : AreRooms g.arcs (g.arcs + added) (at (pos 0) plan.lower.items) (upper_given upper)
    plan.caps.items)
    (excess_all : length plan.excess.items ≡ g.nodes)
    (taken : IsTaken g (at (pos 0) plan.lower.items) (at (pos 0) plan.supply.items)
    (at (pos 0) plan.excess.items)) where
  pub is_ready : IsReady g added plan
  is_ready = record {
    ends = ends;
    few_nodes = few_nodes;
    few_arcs = few_arcs;
    lower = are_small g.arcs (given lower) plan.lower.items low;
    upper = are_small g.arcs (given upper) plan.upper.items high;
    supply = are_small g.nodes (given supply) plan.supply.items supplies;
    caps = record {
      all = rooms.all_are;
      inner = λ k l. span_cap (at (pos 0) plan.lower.items k) (upper_given upper k)
          (at 0 plan.caps.items k) (rooms.spans k l);
      rim = λ v l. rooms.rest (g.arcs + v) (omega arith) (omega (arith, l));
    };
    excess_all = excess_all;
    light = taken.light;
  }

  pub is_ready_for : IsReadyFor g (bounds_given lower upper supply) plan
  is_ready_for = record {
    lower = low.each;
    upper = λ k l. high.each k l ∙ given_upper upper k;
    supply = supplies.each;
    spans = λ k l. subst (λ z. IsSpan z (upper_given upper k) (at 0 plan.caps.items k))
        (low.each k l) (rooms.spans k l);
    excess = λ v l.
        (let each = taken.each v l in
        let same = net-same g (at (pos 0) plan.lower.items) (given lower) v low.each in
        let supply_is = supplies.each v l in
        omega (arith, ints, each, same, supply_is));
  }
