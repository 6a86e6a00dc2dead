-- What the first lists have together.
use Rattle.std.proofs.Common.{◌≡◌, inl, inr, ℕ, ◌+◌, ◌-◌, ◌<◌, ℤ, pos}
use Rattle.std.proofs.Common.{List, length, ap, ◌∙◌, arith}
use Rattle.std.proofs.Math.ListN.{set, length-set, replicate}
use Rattle.std.proofs.lemmas.Int.{by_lt_z}
use Rattle.std.proofs.lemmas.Bool.Decides.{eqb_tells, nat_tests}
use Rattle.std.proofs.lemmas.List.{get_or-replicate, length-replicate}
use Rattle.pivot_flow.specs.Spread.{price_at}
use Rattle.pivot_flow.specs.Tree.{at, ends_at}
use Rattle.pivot_flow.specs.declared.look.Ends.{Ends}
use Rattle.plain_certificates.specs.Numbered.{Numbered}
use Rattle.task_bounds.proofs.Filled.{set_here, set_other}
use Rattle.net_simplex.specs.Start.{AreEnds, AreFirstPrices, AreLoads, IsFirstFlow}
use Rattle.net_simplex.specs.Start.{IsFirstTree, IsSpoke}

pub flow_begun : (g : Numbered) (excess : ℕ → ℤ) (ends : List Ends) (loads : List ℕ)
    (prices : List ℤ) → AreEnds g excess ends → AreLoads g.arcs g.nodes excess loads
    → AreFirstPrices g.nodes excess prices → IsFirstFlow g excess ends loads prices
flow_begun g excess ends loads prices e l p = record {
  ends_all = e.all;
  flow_all = l.all;
  price_all = p.all;
  from = λ k q. (e.each k (omega (arith, q))).from q;
  to = λ k q. (e.each k (omega (arith, q))).to q;
  still = λ k q. (l.each k (omega (arith, q))).inner q;
  rim = λ v q. spoke v q;
  top = p.top;
}
  where
    spoke : (v : ℕ) → v < g.nodes → IsSpoke g.nodes v (excess v) (ends_at ends (g.arcs + v))
        (at loads (g.arcs + v)) (price_at prices v)
    spoke v q =
        let inside : g.arcs + v < g.arcs + g.nodes = omega (arith, q) in
        let end = e.each (g.arcs + v) inside in
        let load = l.each (g.arcs + v) inside in
        let price = p.each v q in
        let same : g.arcs + v ≡ g.arcs + v = omega arith in
        by_lt_z (pos 0) (excess v)
        (λ more. inl (record {
          some = more;
          from = (end.out v same more).0;
          to = (end.out v same more).1;
          carries = load.out v same more;
          priced = price.out more;
        }))
        (λ less. inr (record {
          none = less;
          from = (end.into v same less).0;
          to = (end.into v same less).1;
          carries = load.into v same less;
          priced = price.into less;
        }))

-- a list of one value, but for its last place
pub last_set : (n x y : ℕ) (xs : List ℕ) → xs ≡ set (replicate (n + 1) x) n y
    → (length xs ≡ n + 1) × ((v : ℕ) → v < n → at xs v ≡ x) × (at xs n ≡ y)
last_set n x y xs is =
    let all = length-replicate (n + 1) x in
    rw is (
      length-set (replicate (n + 1) x) n y ∙ all,
      (λ v l. set_other 0 (replicate (n + 1) x) n v y (omega (arith, all))
          (grind (arith, nat_tests, l)) ∙ get_or-replicate (n + 1) v x 0 (omega (arith, l))),
      set_here 0 (replicate (n + 1) x) n y (omega (arith, all)),
    )

pub tree_begun : (n m : ℕ) (parent arc depth first next prev : List ℕ)
    → parent ≡ replicate (n + 1) n → depth ≡ set (replicate (n + 1) 1) n 0
    → first ≡ set (replicate (n + 1) n) n 0
    → length arc ≡ n + 1 → length next ≡ n + 1 → length prev ≡ n + 1
    → ((v : ℕ) → v < n → at arc v ≡ m + v) → ((v : ℕ) → v < n → at next v ≡ v + 1)
    → ((v : ℕ) → v < n → at prev (v + 1) ≡ v) → at next n ≡ n → at prev 0 ≡ n
    → IsFirstTree n m parent arc depth first next prev
tree_begun n m parent arc depth first next prev parent_is depth_is first_is arc_all next_all
    prev_all arcs nexts prevs last start =
    let depths = last_set n 1 0 depth depth_is in
    let firsts = last_set n n 0 first first_is in
    record {
      parent_all = ap length parent_is ∙ length-replicate (n + 1) n;
      arc_all = arc_all;
      depth_all = depths.0;
      first_all = firsts.0;
      next_all = next_all;
      prev_all = prev_all;
      hangs = λ v l. ap (λ xs. at xs v) parent_is
          ∙ get_or-replicate (n + 1) v n 0 (omega (arith, l));
      hangs_by = arcs;
      deep = depths.1;
      top = depths.2;
      first_top = firsts.2;
      first_low = firsts.1;
      next_low = nexts;
      next_top = omega (arith, last);
      prev_zero = λ _. start;
      prev_more = prevs;
      prev_top = elim (eqb_tells n 0) [
        | inl e ↦ (let is = ap (at prev) e.1 in omega (arith, is, start))
        | inr e ↦
            (let off = e.1 in
            let one : (n - 1) + 1 ≡ n = omega (arith, off) in
            let is = ap (at prev) one in
            let low = prevs (n - 1) (omega (arith, off)) in
            omega (arith, is, low))
      ];
    }
