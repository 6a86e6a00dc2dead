-- How each change of a search keeps its state.
use Rattle.std.proofs.Common.{◌≡◌, ◌≢◌, ◌⊎◌, inl, inr, ℕ, ◌+◌, ◌*◌, ◌<◌, ◌≤◌, ◌^◌, true}
use Rattle.std.proofs.Common.{false, eqb, ◌&&◌, List, [], ◌∷◌, All, sym, ◌∙◌, ap}
use Rattle.std.proofs.Common.{arith}
use Rattle.std.specs.Prelude.{IsPermutation}
use Rattle.std.proofs.lemmas.Bool.Decides.{nat_tests, eqb_tells}
use Rattle.std.proofs.lemmas.List.Sorted.{All-permutation, list_any-IsPermutation}
use Rattle.std.proofs.lemmas.List.Elements.{All-head, All-tail, All-cons, All-weaker}
use Rattle.plain_certificates.specs.Numbered.{Numbered}
use Rattle.plain_certificates.specs.Tables.{set_at}
use Rattle.path_search.specs.Search.{queues, IsVia, IsSearch, IsFound}
use Rattle.pace_search.specs.Tree.{far}

-- an entry of a settled node is passed over
pub skipped : (g : Numbered) (len : ℕ → ℕ) (s : ℕ) (P : ℕ → Type 0) (D V T : ℕ
    → ℕ) (count floor reach : ℕ) (q r : List (ℕ × ℕ)) (x : ℕ × ℕ) →
    IsSearch g len s P D V T count floor reach q → IsPermutation q (x ∷ r) → 0 < T x.1
    → IsSearch g len s P D V T count floor reach r
skipped g len s P D V T count floor reach q r x h p t = record {
  start = h.start;
  source = h.source;
  relaxed = h.relaxed;
  queued = λ v l o n.
      (let a = h.queued v l o n in
      let b = list_any-IsPermutation (λ e. eqb e.0 (D v) && eqb e.1 v) q (x ∷ r) p in
      grind (arith, nat_tests, a, b, t, o));
  named = All-tail (λ e. e.1 < g.nodes) x r
      (All-permutation (λ e. e.1 < g.nodes) q (x ∷ r) p h.named);
  above = All-tail (λ e. D e.1 ≤ e.0) x r (All-permutation (λ e. D e.1 ≤ e.0) q (x ∷ r) p h.above);
  high = All-tail (λ e. floor ≤ e.0) x r (All-permutation (λ e. floor ≤ e.0) q (x ∷ r) p h.high);
  low = All-tail (λ e. e.0 ≤ reach) x r (All-permutation (λ e. e.0 ≤ reach) q (x ∷ r) p h.low);
  settled = h.settled;
  via = h.via;
  turns = h.turns;
  short = h.short;
}

-- a queue with an entry has it in front or behind, where its key is the least
least_queued : (q : List (ℕ × ℕ)) (k d v : ℕ) → All (λ e. k ≤ e.0) q → queues q d v ≡ true → k ≤ d
least_queued [] k d v a h = absurd (true_not_false (sym h))
  where
    true_not_false : true ≡ false → ⊥
    true_not_false e = cc
least_queued (e ∷ q) k d v a h =
    let b = All-head (λ e. k ≤ e.0) e q a in
    let c = least_queued q k d v (All-tail (λ e. k ≤ e.0) e q a) in
    grind (arith, nat_tests, b, c, h)

-- the key of the least entry of an open node is its dist
pub least_is_dist : (g : Numbered) (len : ℕ → ℕ) (s : ℕ) (P : ℕ → Type 0) (D V T : ℕ
    → ℕ) (count floor reach : ℕ) (q r : List (ℕ × ℕ)) (x : ℕ × ℕ) →
    IsSearch g len s P D V T count floor reach q → IsPermutation q (x ∷ r) → All (λ e. x.0 ≤ e.0) r
    → T x.1 ≡ 0 → reach < far → x.0 ≡ D x.1
least_is_dist g len s P D V T count floor reach q r x h p least o few =
    let n = All-head (λ e. e.1 < g.nodes) x r
    (All-permutation (λ e. e.1 < g.nodes) q (x ∷ r) p h.named) in
    let a = All-head (λ e. D e.1 ≤ e.0) x r
    (All-permutation (λ e. D e.1 ≤ e.0) q (x ∷ r) p h.above) in
    let b = All-head (λ e. e.0 ≤ reach) x r
    (All-permutation (λ e. e.0 ≤ reach) q (x ∷ r) p h.low) in
    let l : D x.1 < far = omega (arith, a, b, few) in
    let c = h.queued x.1 n o l in
    let d = sym (list_any-IsPermutation (λ e. eqb e.0 (D x.1) && eqb e.1 x.1) q (x ∷ r) p) ∙ c in
    let e = least_queued (x ∷ r) x.0 (D x.1) x.1 (All-cons (λ e. x.0 ≤ e.0) x r (omega arith) least)
    d in
    omega (arith, a, e)

-- the least entry's node is settled
pub settle : (g : Numbered) (len : ℕ → ℕ) (s : ℕ) (P : ℕ → Type 0) (D V T : ℕ
    → ℕ) (count floor reach : ℕ) (q r : List (ℕ × ℕ)) (x : ℕ × ℕ) (more : ℕ) →
    IsSearch g len s P D V T count floor reach q → IsPermutation q (x ∷ r) → All (λ e. x.0 ≤ e.0) r
    → T x.1 ≡ 0 → reach < far → reach ≤ more →
    IsSearch g len s P D V (set_at T x.1 (count + 1)) (count + 1) x.0 more r
settle g len s P D V T count floor reach q r x more h p least o few grows =
    let is = least_is_dist g len s P D V T count floor reach q r x h p least o few in
    let f = All-head (λ e. floor ≤ e.0) x r
    (All-permutation (λ e. floor ≤ e.0) q (x ∷ r) p h.high) in
    record {
      start = h.start;
      source = λ k pk. (let a = h.source k pk in grind (arith, nat_tests, a));
      relaxed = h.relaxed;
      queued = λ v l fresh n.
          (let a = h.queued v l in
          let b = list_any-IsPermutation (λ e. eqb e.0 (D v) && eqb e.1 v) q (x ∷ r) p in
          grind (arith, nat_tests, a, b, fresh, n));
      named = All-tail (λ e. e.1 < g.nodes) x r
          (All-permutation (λ e. e.1 < g.nodes) q (x ∷ r) p h.named);
      above = All-tail (λ e. D e.1 ≤ e.0) x r
          (All-permutation (λ e. D e.1 ≤ e.0) q (x ∷ r) p h.above);
      high = least;
      low = All-weaker (λ e. e.0 ≤ reach) (λ e. e.0 ≤ more) (λ e l. omega (arith, l)) r
          (All-tail (λ e. e.0 ≤ reach) x r (All-permutation (λ e. e.0 ≤ reach) q (x ∷ r) p h.low));
      settled = λ v t. (let a = h.settled v in grind (arith, nat_tests, a, is, f, t));
      via = λ v l ne n. settled_via v (h.via v l ne n);
      turns = λ v. (let a = h.turns v in grind (arith, nat_tests, a));
      short = λ v n. (let a = h.short v n in omega (arith, a));
    }
  where
    settled_via : (v : ℕ) → IsVia g len D V T v → IsVia g len D V (set_at T x.1 (count + 1)) v
    settled_via v w =
        let a = h.turns (g.from (V v)) in
        let b = w.settled in
        let c = w.before in
        record {
          within = w.within;
          ends = w.ends;
          settled = grind (arith, nat_tests, b);
          before = λ t. grind (arith, nat_tests, a, b, c, o, t);
          tight = w.tight;
        }

-- fewer arcs count as relaxed
pub fewer : (g : Numbered) (len : ℕ → ℕ) (s : ℕ) (P Q : ℕ → Type 0) (D V T : ℕ
    → ℕ) (count floor reach : ℕ) (q : List (ℕ × ℕ)) → ((k : ℕ) → k < g.arcs → Q k → P k)
    → ((k : ℕ) → Q k → 0 < T (g.from k)) →
    IsSearch g len s P D V T count floor reach q → IsSearch g len s Q D V T count floor reach q
fewer g len s P Q D V T count floor reach q f t h = record {
  start = h.start;
  source = t;
  relaxed = λ k l x. h.relaxed k l (f k l x);
  queued = h.queued;
  named = h.named;
  above = h.above;
  high = h.high;
  low = h.low;
  settled = h.settled;
  via = h.via;
  turns = h.turns;
  short = h.short;
}

-- an arc that leads no nearer is relaxed
pub kept : (g : Numbered) (len : ℕ → ℕ) (s : ℕ) (P : ℕ → Type 0) (D V T : ℕ
    → ℕ) (count floor reach : ℕ) (q : List (ℕ × ℕ)) (k : ℕ) → 0 < T (g.from k)
    → D (g.to k) ≤ D (g.from k) + len k →
    IsSearch g len s P D V T count floor reach q
    → IsSearch g len s (λ j. P j ⊎ (j ≡ k)) D V T count floor reach q
kept g len s P D V T count floor reach q k t le h = record {
  start = h.start;
  source = λ j. elim [ inl x ↦ h.source j x | inr e ↦ rw e t ];
  relaxed = λ j l. elim [ inl x ↦ h.relaxed j l x | inr e ↦ rw e le ];
  queued = h.queued;
  named = h.named;
  above = h.above;
  high = h.high;
  low = h.low;
  settled = h.settled;
  via = h.via;
  turns = h.turns;
  short = h.short;
}

-- an arc that leads nearer gives its target a dist and an entry
pub nearer : (g : Numbered) (len : ℕ → ℕ) (s : ℕ) (P : ℕ → Type 0) (D V T : ℕ
    → ℕ) (count floor reach : ℕ) (q r : List (ℕ × ℕ)) (k d : ℕ) →
    k < g.arcs → 0 < T (g.from k) → D (g.from k) ≡ floor → d ≡ D (g.from k) + len k → d < D (g.to k)
    → d ≤ reach → g.to k < g.nodes → IsPermutation ((d, g.to k) ∷ q) r →
    IsSearch g len s P D V T count floor reach q
    → IsSearch g len s (λ j. P j ⊎ (j ≡ k)) (set_at D (g.to k) d) (set_at V (g.to k) k) T count
    floor reach r
nearer g len s P D V T count floor reach q r k d within t is sum less short node p h =
    let fresh : T (g.to k) ≡ 0 = (let a = h.settled (g.to k) in grind (arith, a)) in
    let not_start : g.to k ≢ s = (λ e. (let a = ap D e ∙ h.start in omega (arith, a))) in
    record {
      start = (let a = h.start in grind (arith, nat_tests, a, not_start));
      source = λ j. elim [ inl x ↦ h.source j x | inr e ↦ rw e t ];
      relaxed = λ j l. elim [
        | inl x ↦ (let a = h.relaxed j l x in let b =
            h.source j x in grind (arith, nat_tests, a, b, fresh))
        | inr e ↦ rw e (grind (arith, nat_tests, fresh, t, sum))
      ];
      queued = λ v l o n.
          (let a = h.queued v l o in
          let b = list_any-IsPermutation (λ e. eqb e.0 (set_at D (g.to k) d v) && eqb e.1 v)
          ((d, g.to k) ∷ q) r p in
          grind (arith, nat_tests, a, b, n));
      named = All-permutation (λ e. e.1 < g.nodes) ((d, g.to k) ∷ q) r p
          (All-cons (λ e. e.1 < g.nodes) (d, g.to k) q node h.named);
      above = All-permutation (λ e. set_at D (g.to k) d e.1 ≤ e.0) ((d, g.to k) ∷ q) r p
          (All-cons (λ e. set_at D (g.to k) d e.1 ≤ e.0) (d, g.to k) q (grind (arith, nat_tests))
          (All-weaker (λ e. D e.1 ≤ e.0) (λ e. set_at D (g.to k) d e.1 ≤ e.0)
          (λ e a. grind (arith, nat_tests, a, less)) q h.above));
      high = All-permutation (λ e. floor ≤ e.0) ((d, g.to k) ∷ q) r p
          (All-cons (λ e. floor ≤ e.0) (d, g.to k) q (omega arith) h.high);
      low = All-permutation (λ e. e.0 ≤ reach) ((d, g.to k) ∷ q) r p
          (All-cons (λ e. e.0 ≤ reach) (d, g.to k) q short h.low);
      settled = λ v b. (let a = h.settled v b in grind (arith, nat_tests, a, b, fresh));
      via = λ v l ne n. elim (eqb_tells v (g.to k)) [
        | inl e ↦
            (let vk : set_at V (g.to k) k v ≡ k = (let f = e.0 in grind (arith, f)) in
            let dv : set_at D (g.to k) d v ≡ d = (let f = e.0 in grind (arith, f)) in
            let keep : set_at D (g.to k) d (g.from k) ≡ D (g.from k) =
            grind (arith, nat_tests, fresh, t) in
            via_new v vk dv keep e.1)
        | inr e ↦
            (let vk : set_at V (g.to k) k v ≡ V v = (let f = e.0 in grind (arith, f)) in
            let dv : set_at D (g.to k) d v ≡ D v = (let f = e.0 in grind (arith, f)) in
            let w = h.via v l ne (rw dv at n) in
            let keep : set_at D (g.to k) d (g.from (V v)) ≡ D (g.from (V v)) =
            (let b = w.settled in grind (arith, nat_tests, fresh, b)) in
            via_old v vk dv keep w)
      ];
      turns = h.turns;
      short = λ v n. (let a = h.short v in grind (arith, nat_tests, a, n, short));
    }
  where
    via_new : (v : ℕ) → set_at V (g.to k) k v ≡ k → set_at D (g.to k) d v ≡ d
        → set_at D (g.to k) d (g.from k) ≡ D (g.from k) → v ≡ g.to k
        → IsVia g len (set_at D (g.to k) d) (set_at V (g.to k) k) T v
    via_new v vk dv keep e = record {
      within = rw vk within;
      ends = rw vk (sym e);
      settled = rw vk t;
      before = λ b.
          (let a = h.settled (g.to k) in let c : 0 < T (g.to k) =
          rw (← e) b in absurd (omega (arith, a, c, is, sum, less)));
      tight = rw (dv, vk, keep) sum;
    }

    via_old : (v : ℕ) → set_at V (g.to k) k v ≡ V v → set_at D (g.to k) d v ≡ D v
        → set_at D (g.to k) d (g.from (V v)) ≡ D (g.from (V v)) → IsVia g len D V T v
        → IsVia g len (set_at D (g.to k) d) (set_at V (g.to k) k) T v
    via_old v vk dv keep w = record {
      within = rw vk w.within;
      ends = rw vk w.ends;
      settled = rw vk w.settled;
      before = λ b. rw vk (w.before b);
      tight = rw (dv, vk, keep) w.tight;
    }

-- where nothing is queued, all that has a distance is settled
pub found : (g : Numbered) (len : ℕ → ℕ) (s : ℕ) (D V T : ℕ → ℕ) (count floor : ℕ)
    → IsSearch g len s (λ k. 0 < T (g.from k)) D V T count floor (2 ^ 36 * count) []
    → count ≤ g.nodes → IsFound g len s D V T
found g len s D V T count floor h few = record {
  start = h.start;
  each = λ k l m n. h.relaxed k l (let a = h.queued (g.from k) m in grind (arith, a, n));
  via = h.via;
  settled = λ v m n. (let a = h.queued v m in grind (arith, a, n));
  turns = λ v. (let a = h.turns v in omega (arith, a, few));
  short = λ v n. (let a = h.short v n in omega (arith, a, few));
}
