-- Where nodes have levels, no arc without an upper bound is full: what it carries enters the set of
-- the nodes no higher than its target, which no arc without an upper bound leaves.
use Rattle.std.proofs.Common.{◌≡◌, ◌⊎◌, inl, inr, ℕ, zero, suc, ◌<◌, ◌≤◌, ◌*◌, ◌^◌, Bool, true}
use Rattle.std.proofs.Common.{false, ◌&&◌, not, cond, ℤ, pos, neg_ℤ, ◌≤ℤ◌, ◌<ℤ◌}
use Rattle.std.proofs.Common.{refl, ◌∙◌, ap, arith}
use Rattle.std.specs.Prelude.{int_lt}
use Rattle.std.proofs.lemmas.Int.{ints}
use Rattle.plain_certificates.proofs.Sides.{set_sends}
use Rattle.plain_certificates.proofs.Sums.{part-le, sum_to-le, sum_to-neg}
use Rattle.plain_certificates.specs.Cuts.{enters, leaves}
use Rattle.plain_certificates.specs.Numbered.{EndsAreNodes, Numbered, net, sum_to, sum_where}
use Rattle.plain_certificates.specs.Rooms.{as_flow}
use Rattle.task_bounds.proofs.Weighing.{sum_to-const, total_weight}
use Rattle.task_bounds.specs.Excess.{AreLight, weight}
use Rattle.flow_mincost.specs.Prices.{HasLevels}

-- ---- the side of a level: whether another is no higher

abbrev side : ℤ → ℤ → Bool
side top x = not (int_lt top x)

side_in : (top x : ℤ) → side top x ≡ true → x ≤ℤ top
side_in top x e = by (int_lt top x) refl e
  where
    by : (t : Bool) → int_lt top x ≡ t → not t ≡ true → x ≤ℤ top
    by true i n = absurd cc
    by false i n = omega (arith, ints)

is_in : (top x : ℤ) → x ≤ℤ top → side top x ≡ true
is_in top x l = by (int_lt top x) refl
  where
    by : (t : Bool) → int_lt top x ≡ t → side top x ≡ true
    by true i = absurd (omega (arith, ints, l))
    by false i = ap not i

is_out : (top x : ℤ) → top <ℤ x → side top x ≡ false
is_out top x l = by (int_lt top x) refl
  where
    by : (t : Bool) → int_lt top x ≡ t → side top x ≡ false
    by true i = ap not i
    by false i = absurd (omega (arith, ints, l))

-- ---- one arc, one node

crosses : (a b : Bool) → (a && not b) ≡ true → (a ≡ true) × (b ≡ false)
crosses true false e = (refl, refl)
crosses true true e = absurd cc
crosses false b e = absurd cc

off : {b : Bool} → b ≡ false → b ≡ true → ⊥
off f t = cc

not_neg : (b : Bool) (x : ℕ) → pos 0 ≤ℤ cond b (pos x) (pos 0)
not_neg true x = omega (arith, ints)
not_neg false x = omega (arith, ints)

chosen_few : (b : Bool) (x : ℕ) → (b ≡ true → x ≤ 2 ^ 37)
    → cond b (pos x) (pos 0) ≤ℤ pos (2 ^ 37)
chosen_few true x few = let l = few refl in omega (arith, ints, l)
chosen_few false x few = omega (arith, ints)

chosen_low : (b : Bool) (x w : ℤ) → neg_ℤ w ≤ℤ x → x ≤ℤ w → neg_ℤ w ≤ℤ cond b x (pos 0)
chosen_low true x w low high = low
chosen_low false x w low high = omega (arith, ints, low, high)

-- ---- all of them

module _ (g : Numbered) (cap sent : ℕ → ℕ) (excess : ℕ → ℤ) (levels : HasLevels g cap sent)
    (ends : EndsAreNodes g) (few_nodes : g.nodes ≤ 2 ^ 20) (few_arcs : g.arcs ≤ 2 ^ 22)
    (within : (k : ℕ) → k < g.arcs → sent k ≤ cap k)
    (inner : (k : ℕ) → k < g.arcs → (cap k ≤ 2 ^ 37) ⊎ (cap k ≡ 2 ^ 62))
    (balance : (v : ℕ) → v < g.nodes → net g (as_flow sent) v ≡ excess v)
    (light : AreLight g excess) where
  abbrev low_set : ℤ → ℕ → Bool
  low_set top v = side top (levels.level v)

  -- what leaves such a set has an upper bound
  leaves_few : (top : ℤ) (k : ℕ) → k < g.arcs → leaves g (low_set top) k ≡ true
      → sent k ≤ 2 ^ 37
  leaves_few top k l on = elim (inner k l) [
    | inl few ↦ (let most = within k l in omega (arith, most, few))
    | inr open_cap ↦ by (sent k) refl open_cap
  ]
    where
      by : (n : ℕ) → n ≡ sent k → cap k ≡ 2 ^ 62 → sent k ≤ 2 ^ 37
      by zero e open_cap = omega (arith, e)
      by (suc n) e open_cap =
          let out = crosses (low_set top (g.from k)) (low_set top (g.to k)) on in
          let from = side_in top (levels.level (g.from k)) out.0 in
          let falls = levels.falls k l open_cap (omega (arith, e)) in
          absurd (off out.1 (is_in top (levels.level (g.to k)) (omega (arith, ints, from, falls))))

  all_leave : (top : ℤ)
      → sum_where g.arcs (leaves g (low_set top)) (as_flow sent) ≤ℤ pos (g.arcs * 2 ^ 37)
  all_leave top =
      let most = sum_to-le g.arcs (λ k. cond (leaves g (low_set top) k) (pos (sent k)) (pos 0))
      (λ _. pos (2 ^ 37))
      (λ k l. chosen_few (leaves g (low_set top) k) (sent k) (leaves_few top k l)) in
      let sum = sum_to-const g.arcs (2 ^ 37) in
      omega (arith, ints, most, sum)

  -- no set sends less than its nodes can take
  all_send : (set : ℕ → Bool)
      → neg_ℤ (sum_to g.nodes (weight g)) ≤ℤ sum_where g.nodes set (net g (as_flow sent))
  all_send set =
      let least = sum_to-le g.nodes (λ v. neg_ℤ (weight g v))
      (λ v. cond (set v) (net g (as_flow sent) v) (pos 0))
      (λ v l.
      (let is = balance v l in
      let x = light v l in
      let low = x.0 in
      let high = x.1 in
      chosen_low (set v) (net g (as_flow sent) v) (weight g v) (omega (arith, ints, is, low))
      (omega (arith, ints, is, high)))) in
      let sum = sum_to-neg g.nodes (weight g) in
      omega (arith, ints, least, sum)

  pub none_full : (k : ℕ) → k < g.arcs → cap k ≡ 2 ^ 62 → sent k < 2 ^ 62
  none_full k l open_cap = by (sent k) refl
    where
      by : (n : ℕ) → n ≡ sent k → sent k < 2 ^ 62
      by zero e = omega (arith, e)
      by (suc n) e =
          let top = levels.level (g.to k) in
          let set = low_set top in
          let falls = levels.falls k l open_cap (omega (arith, e)) in
          let from = is_out top (levels.level (g.from k)) falls in
          let to = is_in top top (omega (arith, ints)) in
          let on : enters g set k ≡ true = ap (λ b. not b && set (g.to k)) from ∙ to in
          let part = part-le g.arcs k (λ j. cond (enters g set j) (pos (sent j)) (pos 0)) l
          (λ j _. not_neg (enters g set j) (sent j)) in
          let here = ap (λ b. cond b (pos (sent k)) (pos 0)) on in
          let sends = set_sends g set (as_flow sent) ends in
          let out = all_leave top in
          let nodes = all_send set in
          let total = total_weight g ends in
          omega (arith, ints, part, here, sends, out, nodes, total, few_nodes, few_arcs)
