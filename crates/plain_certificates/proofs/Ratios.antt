-- No cycle has a smaller ratio than potentials allow, and none goes on in an order.
use Rattle.std.proofs.Common.{ℕ, suc, ◌+◌, ◌<◌, ℤ, pos, ◌+ℤ◌, ◌-ℤ◌, ◌*ℤ◌, ◌≤ℤ◌, List, [], ◌∷◌}
use Rattle.std.proofs.Common.{length, ap, arith}
use Rattle.std.proofs.Math.IntN.{*ℤ-zero, *ℤ_comm}
use Rattle.std.proofs.lemmas.Int.{ints}
use Rattle.plain_certificates.specs.Numbered.{Numbered}
use Rattle.plain_certificates.specs.Walks.{IsWalk, along}
use Rattle.plain_certificates.specs.Means.{scaled_cost}
use Rattle.plain_certificates.specs.Tables.{place_of}
use Rattle.plain_certificates.specs.Laws.{MeansAreLeast, OrdersLeaveNoCycle}
use Rattle.plain_certificates.proofs.Products.{mul-add}

-- along a walk the potentials fall by at most what the scaled costs add up to
pub walk_scaled : (g : Numbered) (length time : ℕ → ℤ) (total times : ℤ) (pi : ℕ → ℤ)
    → ((arc : ℕ) → arc < g.arcs → pos 0 ≤ℤ scaled_cost g length time total times pi arc)
    → (arcs : List ℕ) (u v : ℕ) → IsWalk g u arcs v
    → pos 0 ≤ℤ (((times *ℤ along length arcs -ℤ total *ℤ along time arcs) +ℤ pi u) -ℤ pi v)
walk_scaled g length time total times pi low [] u v walk =
    let a = *ℤ-zero times in
    let b = *ℤ-zero total in
    let same = ap pi walk in
    omega (arith, ints, a, b, same)
walk_scaled g length time total times pi low (arc ∷ arcs) u v walk =
    let here = low arc walk.0 in
    let rest = walk_scaled g length time total times pi low arcs (g.to arc) v walk.2 in
    let from = ap pi walk.1 in
    let a = mul-add times (length arc) (along length arcs) in
    let b = mul-add total (time arc) (along time arcs) in
    omega (arith, ints, here, rest, from, a, b)

pub means_are_least : MeansAreLeast
means_are_least g length time cycle pi total times mean start round closed =
    let all = walk_scaled g length time total times pi mean.no_less round start start closed in
    let turn = *ℤ_comm times (along length round) in
    omega (arith, ints, all, turn)

-- a walk goes on in the order
walk_onward : (g : Numbered) (place : ℕ → ℕ)
    → ((arc : ℕ) → arc < g.arcs → place (g.from arc) < place (g.to arc))
    → (arcs : List ℕ) (u v : ℕ) → IsWalk g u arcs v → length arcs + place u < suc (place v)
walk_onward g place onward [] u v walk = let same = ap place walk in omega (arith, same)
walk_onward g place onward (arc ∷ arcs) u v walk =
    let here = onward arc walk.0 in
    let rest = walk_onward g place onward arcs (g.to arc) v walk.2 in
    let from = ap place walk.1 in
    omega (arith, here, rest, from)

pub orders_leave_no_cycle : OrdersLeaveNoCycle
orders_leave_no_cycle g order acyclic start round some closed =
    let goes = walk_onward g (place_of order) acyclic.onward round start start closed in
    absurd (omega (arith, goes, some))
