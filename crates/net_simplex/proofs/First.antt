-- A run begins in a state of the network that has room for it.
use Rattle.std.proofs.Common.{◌≡◌, ◌≢◌, ◌⊎◌, inl, inr, ℕ, suc, ◌+◌, ◌-◌, ◌<◌, ◌≤◌, ◌^◌}
use Rattle.std.proofs.Common.{false, cond, eqb, ℤ, pos, neg_ℤ}
use Rattle.std.proofs.Common.{◌≤ℤ◌, ◌<ℤ◌, List, length, ap, ◌∙◌, refl}
use Rattle.std.proofs.Common.{arith}
use Rattle.std.proofs.lemmas.Int.{ints}
use Rattle.std.proofs.lemmas.Bool.Decides.{nat_tests, eqb_tells}
use Rattle.plain_certificates.proofs.Nets.{net-zero}
use Rattle.plain_certificates.proofs.Sums.{sum_to-same, sum_to-le, sum_to-zero}
use Rattle.plain_certificates.proofs.Tables.{self_eqb}
use Rattle.plain_certificates.specs.Numbered.{Numbered, EndsAreNodes, sum_to}
use Rattle.plain_certificates.specs.Rooms.{as_flow}
use Rattle.pivot_flow.specs.Kids.{AreKids, bare, links_of}
use Rattle.pivot_flow.specs.Open.{IsOpenFree, IsRoomy, most_of}
use Rattle.pivot_flow.specs.Spread.{price_at}
use Rattle.pivot_flow.specs.State.{IsCosted, IsState, sends_of}
use Rattle.pivot_flow.specs.Tree.{at, ends_at, task_of, tree_of}
use Rattle.pivot_flow.specs.declared.look.Ends.{Ends}
use Rattle.net_simplex.proofs.Planting.{planted_state, planted_kids}
use Rattle.net_simplex.proofs.Rim.{net_rooted, sum_to-split}
use Rattle.task_bounds.specs.Plan.{AreCaps}
use Rattle.net_simplex.specs.Network.{IsRooted, IsWeighed}
use Rattle.net_simplex.specs.Planted.{IsPlanted}
use Rattle.task_bounds.specs.Excess.{AreLight}
use Rattle.net_simplex.specs.Start.{IsFirstFlow, IsFirstTree}
use Rattle.task_bounds.specs.Excess.{weight}
use Rattle.task_bounds.proofs.Weighing.{at_end-most}
use Rattle.net_simplex.proofs.Spokes.{spoke_adds, spoke_carries, spoke_down}
use Rattle.net_simplex.proofs.Spokes.{spoke_joins, spoke_small, spoke_up}
use Rattle.task_bounds.proofs.Weighing.{sum_to-const}
use Rattle.task_bounds.proofs.Weighing.{total_weight, weight_most}

-- ---- the first state

module _ (g : Numbered) (excess : ℕ → ℤ) (ends : List Ends) (cap flow : List ℕ)
    (cost price : List ℤ) (parent arc depth first next prev : List ℕ) (nodes_few : g.nodes ≤ 2 ^ 20)
    (arcs_few : g.arcs ≤ 2 ^ 22) (shape : EndsAreNodes g) (light : AreLight g excess)
    (caps : AreCaps g g.nodes cap)
    (w : IsWeighed g (price_at cost)) (b : IsFirstFlow g excess ends flow price)
    (tr : IsFirstTree g.nodes g.arcs parent arc depth first next prev) (count : ℕ)
    (count_is : count ≡ g.nodes + 1) where
  -- an arc is one of the digraph or an added one
  either : (k : ℕ) → k < length ends → (k < g.arcs)
      ⊎ ((v : ℕ) × ((v < g.nodes) × (k ≡ g.arcs + v)))
  either k l =
      let all = b.ends_all in
      elim (below k g.arcs) [
        | inl lt ↦ inl lt
        | inr ge ↦ inr (k - g.arcs, (omega (arith, l, all, ge), omega (arith, ge)))
      ]
    where
      below : (j m : ℕ) → (j < m) ⊎ (m ≤ j)
      below j m = grind (arith, nat_tests)

  small : (v : ℕ) → v < g.nodes → at flow (g.arcs + v) ≤ 2 ^ 60
  small v l =
      let most = spoke_small g.nodes v (excess v) (weight g v) (ends_at ends (g.arcs + v))
      (at flow (g.arcs + v)) (price_at price v) (b.rim v l) (light v l).0 (light v l).1 in
      let few = weight_most g v arcs_few in
      omega (arith, ints, most, few)

  pub first_rooted : IsRooted g (task_of count ends cap)
  first_rooted = record {
    root = (let n = count_is in omega (arith, n));
    nodes = count_is;
    arcs = b.ends_all;
    from = b.from;
    to = b.to;
    rim = λ v l. spoke_joins g v (excess v) (ends_at ends (g.arcs + v)) (at flow (g.arcs + v))
        (price_at price v) (b.rim v l);
  }

  pub first_ends : EndsAreNodes (task_of count ends cap).net
  first_ends k l = elim (either k l) [
    | inl below ↦
        (let a = shape k below in
        let from = b.from k below in
        let to = b.to k below in
        let all = count_is in
        let c = a.0 in
        let d = a.1 in
        (omega (arith, c, from, all), omega (arith, d, to, all)))
    | inr added ↦
        (let all = count_is in
        let v = added.0 in
        let lv = added.1.0 in
        let at_k = added.1.1 in
        let joins = spoke_joins g v (excess v) (ends_at ends (g.arcs + v))
        (at flow (g.arcs + v)) (price_at price v) (b.rim v lv) in
        rw at_k (elim joins [
          | inl j ↦ (let c = j.0 in let d = j.1 in
              (omega (arith, c, lv, all), omega (arith, d, all)))
          | inr j ↦ (let c = j.0 in let d = j.1 in
              (omega (arith, c, all), omega (arith, d, lv, all)))
        ]))
  ]

  pub first_costed : IsCosted (task_of count ends cap) (price_at cost)
  first_costed = record {
    nodes = (let all = count_is in omega (arith, all, nodes_few));
    least = λ k l. elim (either k l) [
      | inl below ↦ (let c = w.least k below in omega (arith, ints, c))
      | inr added ↦
          (let c = ap (price_at cost) added.1.1 in
          let d = w.rim added.0 added.1.0 in
          omega (arith, ints, c, d))
    ];
    most = λ k l. elim (either k l) [
      | inl below ↦ (let c = w.most k below in omega (arith, ints, c))
      | inr added ↦
          (let c = ap (price_at cost) added.1.1 in
          let d = w.rim added.0 added.1.0 in
          omega (arith, ints, c, d))
    ];
    least_inside = λ k l nf nt. w.least k (inner k l nf nt);
    most_inside = λ k l nf nt. w.most k (inner k l nf nt);
  }
    where
      inner : (k : ℕ) → k < length ends → (ends_at ends k).from ≢ count - 1
          → (ends_at ends k).to ≢ count - 1 → k < g.arcs
      inner k l nf nt = elim (either k l) [
        | inl below ↦ below
        | inr added ↦
            (let all = count_is in
            let v = added.0 in
            let from = ap (λ j. (ends_at ends j).from) added.1.1 in
            let to = ap (λ j. (ends_at ends j).to) added.1.1 in
            elim (spoke_joins g v (excess v) (ends_at ends (g.arcs + v))
            (at flow (g.arcs + v)) (price_at price v) (b.rim v added.1.0)) [
              | inl j ↦ (let e = j.1 in absurd (nt (omega (arith, e, to, all))))
              | inr j ↦ (let e = j.0 in absurd (nf (omega (arith, e, from, all))))
            ])
      ]

  first_planted : IsPlanted (task_of count ends cap) (price_at cost)
      (tree_of parent arc depth) (links_of first next prev) (at flow) (price_at price) g.nodes
      g.arcs
  first_planted = record {
    root = first_rooted.root;
    nodes = count_is;
    arcs = b.ends_all;
    joins = first_rooted.rim;
    parent = tr.hangs;
    arc = tr.hangs_by;
    depth = tr.deep;
    top = tr.top;
    within = λ k l. elim (either k (let all = b.ends_all in omega (arith, l, all))) [
      | inl below ↦ (let zero = b.still k below in omega (arith, zero))
      | inr added ↦
          (let few = small added.0 added.1.0 in
          let cap_is = caps.rim added.0 added.1.0 in
          rw added.1.1 (omega (arith, few, cap_is)))
    ];
    still = b.still;
    carries = λ v l from. spoke_carries g.nodes v (excess v) (ends_at ends (g.arcs + v))
        (at flow (g.arcs + v)) (price_at price v) l (b.rim v l) from;
    room = λ v l from. (let few = small v l in let cap_is = caps.rim v l in
        omega (arith, few, cap_is));
    top_price = b.top;
    price_up = λ v l from. spoke_up g.nodes v (excess v) (price_at cost (g.arcs + v))
        (ends_at ends (g.arcs + v)) (at flow (g.arcs + v)) (price_at price v) l (w.rim v l)
        (b.rim v l) from;
    price_down = λ v l from. spoke_down g.nodes v (excess v) (price_at cost (g.arcs + v))
        (ends_at ends (g.arcs + v)) (at flow (g.arcs + v)) (price_at price v) l (w.rim v l)
        (b.rim v l) from;
    first_top = tr.first_top;
    first_low = tr.first_low;
    next_low = tr.next_low;
    next_top = tr.next_top;
    prev_zero = tr.prev_zero;
    prev_more = λ v l. tr.prev_more v (omega (arith, l));
    prev_top = tr.prev_top;
  }

  pub first_state : let t = task_of count ends cap in
      IsState t (sends_of t (at flow)) (price_at cost) (tree_of parent arc depth) (at flow)
      (price_at price)
  first_state = planted_state (task_of count ends cap) (price_at cost)
      (tree_of parent arc depth) (links_of first next prev) (at flow) (price_at price) g.nodes
      g.arcs first_planted

  pub first_kids : AreKids (bare count) (links_of first next prev) (at parent)
  first_kids =
      let kids = planted_kids (task_of count ends cap) (price_at cost)
      (tree_of parent arc depth) (links_of first next prev) (at flow) (price_at price) g.nodes
      g.arcs first_planted in
      record {
        nodes = kids.nodes;
        first = kids.first;
        next = kids.next;
        prev = kids.prev;
        least = kids.least;
        place = kids.place;
        grows = kids.grows;
      }

  pub first_free : IsOpenFree (task_of count ends cap) (at flow) (2 ^ 37)
  first_free = record {
    full = λ k l full. elim (either k l) [
      | inl below ↦ (let zero = b.still k below in omega (arith, zero, full))
      | inr added ↦
          (let few = small added.0 added.1.0 in
          let cap_is = caps.rim added.0 added.1.0 in
          let here = ap (at flow) added.1.1 in
          let there = ap (at cap) added.1.1 in
          absurd (omega (arith, few, cap_is, here, there, full)))
    ];
  }

  -- each node sends what it has to
  pub first_sends : (v : ℕ) → v < g.nodes
      → sends_of (task_of count ends cap) (at flow) v ≡ excess v
  first_sends v l =
      let t = task_of count ends cap in
      let whole = net_rooted g t first_rooted (as_flow (at flow)) v l in
      let inside = net-zero g (as_flow (at flow)) v (λ k q. ap pos (b.still k q)) in
      let adds = spoke_adds g.nodes v (excess v) (ends_at ends (g.arcs + v))
      (at flow (g.arcs + v)) (price_at price v) l (b.rim v l) in
      omega (arith, ints, whole, inside, adds)

  -- ---- room

  abbrev pub size : ℕ → ℤ
  size v = cond (eqb v g.nodes) (sum_to g.nodes (weight g)) (weight g v)

  size_low : (v : ℕ) → v < g.nodes → size v ≡ weight g v
  size_low v l =
      let off : eqb v g.nodes ≡ false = grind (arith, nat_tests, l) in rw off refl

  size_top : size g.nodes ≡ sum_to g.nodes (weight g)
  size_top = rw (self_eqb g.nodes) refl

  -- the root takes at most what all nodes send
  flows_most : sum_to (length ends) (as_flow (at flow)) ≤ℤ sum_to g.nodes (weight g)
  flows_most =
      let all = ap (λ j. sum_to j (as_flow (at flow))) b.ends_all in
      let parts = sum_to-split g.arcs g.nodes (as_flow (at flow)) in
      let inside = sum_to-zero g.arcs (as_flow (at flow)) (λ k l. ap pos (b.still k l)) in
      let rim = sum_to-le g.nodes (λ v. pos (at flow (g.arcs + v))) (weight g)
      (λ v l. spoke_small g.nodes v (excess v) (weight g v) (ends_at ends (g.arcs + v))
      (at flow (g.arcs + v)) (price_at price v) (b.rim v l) (light v l).0 (light v l).1) in
      omega (arith, ints, all, parts, inside, rim)

  pub sized : (v : ℕ) → v < count → let t = task_of count ends cap in
      (neg_ℤ (size v) ≤ℤ sends_of t (at flow) v) × (sends_of t (at flow) v ≤ℤ size v)
  sized v l = elim (eqb_tells v g.nodes) [
    | inl e ↦
        (let top = ap size e.1 ∙ size_top in
        let t = task_of count ends cap in
        let most = flows_most in
        let out = at_end-most (length ends) t.net.from (at flow) v in
        let back = at_end-most (length ends) t.net.to (at flow) v in
        let out_low = out.0 in
        let out_high = out.1 in
        let back_low = back.0 in
        let back_high = back.1 in (
          omega (arith, ints, top, most, out_low, out_high, back_low, back_high),
          omega (arith, ints, top, most, out_low, out_high, back_low, back_high),
        ))
    | inr e ↦
        (let all = count_is in
        let off = e.1 in
        let lv : v < g.nodes = omega (arith, l, all, off) in
        let is = size_low v lv in
        let sends = first_sends v lv in
        let low = (light v lv).0 in
        let high = (light v lv).1 in
        (omega (arith, ints, is, sends, low), omega (arith, ints, is, sends, high)))
  ]

  pub all_light : most_of (task_of count ends cap) size (2 ^ 37) <ℤ pos (2 ^ 61)
  all_light =
      let n : count ≡ suc g.nodes = (let all = count_is in omega (arith, all)) in
      let all = ap (λ j. sum_to j size) n in
      let low = sum_to-same g.nodes size (weight g) (λ v l. size_low v l) in
      let top = size_top in
      let weights = total_weight g shape in
      let arcs = sum_to-const (length ends) (2 ^ 37) in
      let ends_all = b.ends_all in
      omega (arith, ints, all, low, top, weights, arcs, ends_all, nodes_few, arcs_few)

  pub first_roomy : let t = task_of count ends cap in IsRoomy t (sends_of t (at flow))
  first_roomy = record {
    size = size;
    sized = sized;
    total = (let less = all_light in omega (arith, ints, less));
    caps = λ k l. elim (either k l) [
      | inl below ↦ caps.inner k below
      | inr added ↦ inr (ap (at cap) added.1.1 ∙ caps.rim added.0 added.1.0)
    ];
  }
