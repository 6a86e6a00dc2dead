-- Rows that begin and end, and how many nodes are open.
use Rattle.std.proofs.Common.{◌≡◌, ◌⊎◌, inl, inr, ℕ, zero, suc, ◌+◌, ◌*◌, ◌<◌, ◌≤◌, ◌^◌}
use Rattle.std.proofs.Common.{true, false, eqb, ◌&&◌, List, [], ◌∷◌, All, length}
use Rattle.std.proofs.Common.{refl, sym, ◌∙◌, arith}
use Rattle.std.proofs.Math.ListN.{set, replicate}
use Rattle.std.specs.Prelude.{IsPermutation}
use Rattle.std.proofs.lemmas.Bool.Decides.{nat_tests, eqb_tells}
use Rattle.std.proofs.lemmas.List.{get_or-set_same}
use Rattle.std.proofs.lemmas.List.Elements.{All-nil, All-cons, All-head}
use Rattle.std.proofs.lemmas.List.Sorted.{All-permutation, list_any-IsPermutation}
use Rattle.std.proofs.lemmas.Simd.{get_or-replicate, length-replicate}
use Rattle.plain_certificates.specs.Numbered.{Numbered}
use Rattle.plain_certificates.specs.Tables.{at, set_at}
use Rattle.plain_certificates.proofs.Tables.{at-set}
use Rattle.path_search.specs.Search.{IsSearch, IsRow, Done, Settled}
use Rattle.pace_search.specs.Tree.{far}
use Rattle.pace_search.specs.Climbs.{open_count}
use Rattle.pace_search.proofs.Marks.{fewer_open}
use Rattle.path_search.specs.Steps.{IsLast, IsSearching}
use Rattle.path_search.proofs.Changes.{skipped, least_is_dist, settle, fewer}

pub settle_more : (g : Numbered) (len : ℕ → ℕ) (s : ℕ) (D V : ℕ
    → ℕ) (turns : List ℕ) (count floor reach : ℕ) (q r : List (ℕ × ℕ)) (x : ℕ × ℕ) (more : ℕ)
    → x.1 < length turns →
    IsSearch g len s (Settled g (at 0 turns)) D V (at 0 turns) count floor reach q
    → IsPermutation q (x ∷ r) → All (λ e. x.0 ≤ e.0) r → at 0 turns x.1 ≡ 0 → reach < far
    → reach ≤ more →
    IsSearch g len s (Done g (at 0 (set turns x.1 (count + 1))) x.1 []) D V
    (at 0 (set turns x.1 (count + 1))) (count + 1) x.0 more r
settle_more g len s D V turns count floor reach q r x more l h p least o few grows =
    rw (at-set 0 turns x.1 (count + 1) l)
    (fewer g len s (Settled g (at 0 turns)) (Done g (set_at (at 0 turns) x.1 (count + 1)) x.1 []) D
    V (set_at (at 0 turns) x.1 (count + 1)) (count + 1) x.0 more r
    (λ k _ d. was_settled k d) (λ k d. d.0)
    (settle g len s (Settled g (at 0 turns)) D V (at 0 turns) count floor reach q r x more h p least
    o few grows))
  where
    was_settled : (k : ℕ) → Done g (set_at (at 0 turns) x.1 (count + 1)) x.1 [] k
        → 0 < at 0 turns (g.from k)
    was_settled k d = elim (d.1) [
      | inl ne ↦ (let a = d.0 in grind (arith, nat_tests, a, ne))
      | inr f ↦ absurd (let e : false ≡ true = f in cc)
    ]

pub row_done : (g : Numbered) (len : ℕ → ℕ) (s u : ℕ) (D V T : ℕ
    → ℕ) (count floor reach : ℕ) (q : List (ℕ × ℕ)) (row : List ℕ) → IsRow g u row →
    IsSearch g len s (Done g T u row) D V T count floor reach q
    → IsSearch g len s (Settled g T) D V T count floor reach q
row_done g len s u D V T count floor reach q row is h =
    fewer g len s (Done g T u row) (Settled g T) D V T count floor reach q
    (λ k l t. (
      t,
      elim (eqb_tells (g.from k) u) [ inl e ↦ inr (is.whole k l e.1) | inr e ↦ inl e.1 ],
    ))
    (λ k t. t) h

zeros : (n v : ℕ) → at zero (replicate n zero) v ≡ zero
zeros zero v = refl
zeros (suc n) zero = refl
zeros (suc n) (suc v) = zeros n v

either : (n v : ℕ) → (at 0 (replicate n far) v ≡ far) ⊎ (at 0 (replicate n far) v ≡ 0)
either zero v = inr refl
either (suc n) zero = inl refl
either (suc n) (suc v) = either n v

-- the state before the first step
pub begun : (g : Numbered) (len : ℕ → ℕ) (s n : ℕ) → g.nodes ≡ n → s < n →
    IsSearch g len s (Settled g (at 0 (replicate n 0))) (at 0 (set (replicate n far) s 0))
    (at 0 (replicate n 0)) (at 0 (replicate n 0)) 0 0 0 ((0, s) ∷ [])
begun g len s n e l =
    rw (at-set 0 (replicate n far) s 0 (let a = length-replicate n far in omega (arith, a, l)))
    (record {
      start = grind (arith, nat_tests);
      source = λ k t. t;
      relaxed = λ k _ t. absurd (let a = zeros n (g.from k) in omega (arith, a, t));
      queued = λ v v_in _ near.
          (let a = only v near (let b = e in omega (arith, b, v_in)) in rw a
          (grind (arith, nat_tests)));
      named = All-cons (λ x. x.1 < g.nodes) (0, s) [] (let b = e in omega (arith, b, l))
          (All-nil (λ x. x.1 < g.nodes));
      above = All-cons (λ x. set_at (at 0 (replicate n far)) s 0 x.1 ≤ x.0) (0, s) []
          (grind (arith, nat_tests)) (All-nil (λ x. set_at (at 0 (replicate n far)) s 0 x.1 ≤ x.0));
      high = All-cons (λ x. 0 ≤ x.0) (0, s) [] (omega arith) (All-nil (λ x. 0 ≤ x.0));
      low = All-cons (λ x. x.0 ≤ 0) (0, s) [] (omega arith) (All-nil (λ x. x.0 ≤ 0));
      settled = λ v t. absurd (let a = zeros n v in omega (arith, a, t));
      via = λ v v_in ne near. absurd (ne (only v near (let b = e in omega (arith, b, v_in))));
      turns = λ v. (let a = zeros n v in omega (arith, a));
      short = λ v near. low_dist v near;
    })
  where
    only : (v : ℕ) → set_at (at 0 (replicate n far)) s 0 v < far → v < n → v ≡ s
    only v near v_in =
        (let a = get_or-replicate n v far 0 v_in in grind (arith, nat_tests, a, near))

    low_dist : (v : ℕ) → set_at (at 0 (replicate n far)) s 0 v < far
        → set_at (at 0 (replicate n far)) s 0 v ≤ 0
    low_dist v near = (let a = either n v in grind (arith, nat_tests, a, near))

-- the queue in another order
pub reordered : (g : Numbered) (len : ℕ → ℕ) (s : ℕ) (P : ℕ → Type 0) (D V T : ℕ
    → ℕ) (count floor reach : ℕ) (q r : List (ℕ × ℕ)) → IsPermutation q r →
    IsSearch g len s P D V T count floor reach q → IsSearch g len s P D V T count floor reach r
reordered g len s P D V T count floor reach q r p h = record {
  start = h.start;
  source = h.source;
  relaxed = h.relaxed;
  queued = λ v l o n. sym (list_any-IsPermutation (λ e. eqb e.0 (D v) && eqb e.1 v) q r p)
      ∙ h.queued v l o n;
  named = All-permutation (λ e. e.1 < g.nodes) q r p h.named;
  above = All-permutation (λ e. D e.1 ≤ e.0) q r p h.above;
  high = All-permutation (λ e. floor ≤ e.0) q r p h.high;
  low = All-permutation (λ e. e.0 ≤ reach) q r p h.low;
  settled = h.settled;
  via = h.via;
  turns = h.turns;
  short = h.short;
}

-- the least entry's node is one of the nodes, and its key is no higher than `reach`
pub top_node : (g : Numbered) (len : ℕ → ℕ) (s : ℕ) (P : ℕ → Type 0) (D V T : ℕ
    → ℕ) (count floor reach : ℕ) (q r : List (ℕ × ℕ)) (x : ℕ × ℕ) → IsPermutation q (x ∷ r)
    → IsSearch g len s P D V T count floor reach q → x.1 < g.nodes
top_node g len s P D V T count floor reach q r x p h =
    All-head (λ e. e.1 < g.nodes) x r (All-permutation (λ e. e.1 < g.nodes) q (x ∷ r) p h.named)

pub top_low : (g : Numbered) (len : ℕ → ℕ) (s : ℕ) (P : ℕ → Type 0) (D V T : ℕ
    → ℕ) (count floor reach : ℕ) (q r : List (ℕ × ℕ)) (x : ℕ × ℕ) → IsPermutation q (x ∷ r)
    → IsSearch g len s P D V T count floor reach q → x.0 ≤ reach
top_low g len s P D V T count floor reach q r x p h =
    All-head (λ e. e.0 ≤ reach) x r (All-permutation (λ e. e.0 ≤ reach) q (x ∷ r) p h.low)

pub zero_open : (turns : List ℕ) (u : ℕ) → u < length turns → at 0 turns u ≡ 0
    → 0 < open_count turns
zero_open turns u l o = (let a = fewer_open turns u 1 l o (omega arith) in omega (arith, a))

-- the least entry's node is settled, if it is open
pub settle_last : (g : Numbered) (len : ℕ → ℕ) (s : ℕ) (D V : ℕ → ℕ) (turns : List ℕ) (count : ℕ)
    (q r : List (ℕ × ℕ)) (x : ℕ × ℕ) → x.1 < length turns
    → IsSearching g len s D V (at 0 turns) count q → IsPermutation q (x ∷ r)
    → All (λ e. x.0 ≤ e.0) r → at 0 turns x.1 ≡ zero → count + open_count turns ≡ g.nodes
    → g.nodes ≤ 1048576
    → IsLast g len s x.1 x.0 D V (at 0 (set turns x.1 (count + 1))) (count + 1)
    (2 ^ 36 * (count + 1)) r
settle_last g len s D V turns count q r x l st p least fresh all few =
    let P = Settled g (at 0 turns) in
    let T = at 0 turns in
    let some = zero_open turns x.1 l fresh in
    let low : 2 ^ 36 * count < far = omega (arith, all, few, some) in
    let top = top_low g len s P D V T count st.floor (2 ^ 36 * count) q r x p st.search in
    record {
      settled = rw (get_or-set_same turns x.1 (count + 1) 0 l) (omega arith);
      room = omega (arith, top);
      low = omega (arith, all, few, some);
      here = sym (least_is_dist g len s P D V T count st.floor (2 ^ 36 * count) q r x st.search p
          least fresh low);
      search = settle_more g len s D V turns count st.floor (2 ^ 36 * count) q r x
          (2 ^ 36 * (count + 1)) l st.search p least fresh low (omega arith);
    }

-- an entry of a node that was settled is passed over
pub skip_entry : (g : Numbered) (len : ℕ → ℕ) (s : ℕ) (D V T : ℕ → ℕ) (count : ℕ)
    (q r : List (ℕ × ℕ)) (x : ℕ × ℕ) → IsSearching g len s D V T count q
    → IsPermutation q (x ∷ r) → 0 < T x.1 → IsSearching g len s D V T count r
skip_entry g len s D V T count q r x st p t = record {
  floor = st.floor;
  search = skipped g len s (Settled g T) D V T count st.floor (2 ^ 36 * count) q r x st.search p t;
}

-- an entry's node is one, and its key is small
pub entry_node : (g : Numbered) (len : ℕ → ℕ) (s : ℕ) (D V T : ℕ → ℕ) (count : ℕ)
    (q r : List (ℕ × ℕ)) (x : ℕ × ℕ) → IsSearching g len s D V T count q
    → IsPermutation q (x ∷ r) → (x.1 < g.nodes) × (x.0 ≤ 2 ^ 36 * count)
entry_node g len s D V T count q r x st p = (
  top_node g len s (Settled g T) D V T count st.floor (2 ^ 36 * count) q r x p st.search,
  top_low g len s (Settled g T) D V T count st.floor (2 ^ 36 * count) q r x p st.search,
)
