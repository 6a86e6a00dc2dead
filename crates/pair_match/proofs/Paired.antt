-- The lists of an answer, read from the two runs.
use Rattle.std.proofs.Common.{◌≡◌, inl, inr, ℕ, zero, suc, ◌+◌, ◌-◌, ◌<◌, ◌≤◌, ◌^◌, Bool, true}
use Rattle.std.proofs.Common.{false, ◌&&◌, not}
use Rattle.std.proofs.Common.{cond, eqb, pos, negsuc, ◌+ℤ◌, ◌-ℤ◌, List, [], ◌∷◌, ◌++◌, length}
use Rattle.std.proofs.Common.{map, filter, get_or, replicate, refl, sym, ◌∙◌, ap, subst, arith}
use Rattle.std.specs.List.{range_with_len}
use Rattle.std.proofs.lemmas.Int.{ints}
use Rattle.std.proofs.lemmas.Bool.Decides.{eqb_tells}
use Rattle.std.proofs.lemmas.List.{append-nil, get_or-map, get_or-replicate, get_or_past}
use Rattle.std.proofs.lemmas.List.{length-map}
use Rattle.std.proofs.lemmas.List.{length-replicate, map-id}
use Rattle.std.proofs.lemmas.List.FromFn.{filter_of_map_range_with_len_more}
use Rattle.std.proofs.lemmas.List.FromFn.{get_or-map-range_with_len, length-map-range_with_len}
use Rattle.plain_certificates.proofs.Nets.{net-zero}
use Rattle.plain_certificates.proofs.Totals.{total-le}
use Rattle.plain_certificates.specs.Numbered.{Numbered, EndsAreNodes, net}
use Rattle.plain_certificates.specs.Pairings.{IsBipartite, IsPairing}
use Rattle.plain_certificates.specs.Rooms.{as_flow}
use Rattle.plain_certificates.specs.Tables.{at}
use Rattle.plain_certificates.specs.Totals.{total_to}
use Rattle.push_flow.specs.declared.push.Ends.{Ends}
use Rattle.push_flow.specs.declared.push.Spoke.{Spoke}
use Rattle.push_flow.specs.Held.{Task, most}
use Rattle.flow_rows.specs.Network.{IsNetwork}
use Rattle.flow_loads.proofs.Loading.{fresh_loaded}
use Rattle.flow_loads.specs.declared.loads.Load.{Load}
use Rattle.flow_loads.specs.Loads.{HasSettled, IsLoaded, load_supply, task_in}
use Rattle.pair_match.proofs.Matched.{paired}
use Rattle.pair_match.proofs.Turning.{facing_shape, from_left, pairing_back, to_right}
use Rattle.pair_match.specs.Answers.{IsAnswer}
use Rattle.pair_match.specs.Facing.{facing, flags}
use Rattle.pair_match.specs.Loads.{IsFirst, IsSecond}

-- one number more is looked at
picked : (p : ℕ → Bool) (k : ℕ) → filter p (range_with_len 0 (k + 1))
    ≡ filter p (range_with_len 0 k) ++ cond (p k) (k ∷ []) []
picked p k =
    ap (filter p) (sym (map-id (range_with_len 0 (k + 1))))
    ∙ (filter_of_map_range_with_len_more p (λ j. j) 0 k k (omega arith)
    ∙ ap (λ xs. filter p xs ++ cond (p k) (k ∷ []) []) (map-id (range_with_len 0 k)))

-- it passes the test
pub picked_on : (p : ℕ → Bool) (k : ℕ) (xs : List ℕ) → xs ≡ filter p (range_with_len 0 k)
    → p k ≡ true → xs ++ k ∷ [] ≡ filter p (range_with_len 0 (k + 1))
picked_on p k xs was on =
    ap (λ ys. ys ++ k ∷ []) was
    ∙ sym (picked p k
    ∙ ap (λ b. filter p (range_with_len 0 k) ++ cond b (k ∷ []) []) on)

-- or it doesn't
pub picked_off : (p : ℕ → Bool) (k : ℕ) (xs : List ℕ) → xs ≡ filter p (range_with_len 0 k)
    → p k ≡ false → xs ≡ filter p (range_with_len 0 (k + 1))
picked_off p k xs was off =
    was
    ∙ sym (picked p k
    ∙ (ap (λ b. filter p (range_with_len 0 k) ++ cond b (k ∷ []) []) off
    ∙ append-nil (filter p (range_with_len 0 k))))

-- a number for each side
side_at : (left : List Bool) (on off v : ℕ) → v < length left
    → at 0 (map (λ l. cond l on off) left) v ≡ cond (flags left v) on off
side_at left on off v l = get_or-map (λ b. cond b on off) left v false 0 l

pub side_most : (left : List Bool) (on off v : ℕ) → on ≤ 1 → off ≤ 1 → v < length left
    → at 0 (map (λ l. cond l on off) left) v ≤ 1
side_most left on off v few none l =
    let is = side_at left on off v l in
    let low = pick (flags left v) in
    omega (arith, is, low)
  where
    pick : (b : Bool) → cond b on off ≤ 1
    pick true = few
    pick false = none

one_side : (b : Bool) → (pos 0 +ℤ pos (cond b 1 0)) -ℤ pos (cond b 0 1)
    ≡ cond b (pos 1) (negsuc 0)
one_side true = omega (arith, ints)
one_side false = omega (arith, ints)

count-most : (n : ℕ) → total_to n (λ _. 1) ≡ n
count-most zero = refl
count-most (suc n) = let rest = count-most n in omega (arith, rest)

-- the engine is given no more than it can have
pub first_few : (n : ℕ) (left : List Bool) → length left ≡ n → n ≤ 2 ^ 20
    → total_to n (at 0 (map (λ l. cond l 1 0) left)) ≤ most
first_few n left all few =
    let low = total-le n (at 0 (map (λ l. cond l 1 0) left)) (λ _. 1)
    (λ v l. side_most left 1 0 v (omega arith) (omega arith) (omega (arith, l, all))) in
    let count = count-most n in
    omega (arith, low, count, few)

pub first_apart : (left : List Bool) (v : ℕ) → v < length left
    → 0 < at 0 (map (λ l. cond l 1 0) left) v
    → ◌≡◌ {A = ℕ} (at 0 (map (λ l. cond l 0 1) left) v) 0
first_apart left v l some =
    side_at left 0 1 v l ∙ pick (flags left v) (subst (λ x. 0 < x) (side_at left 1 0 v l) some)
  where
    pick : (b : Bool) → 0 < cond b 1 0 → ◌≡◌ {A = ℕ} (cond b 0 1) 0
    pick true some = refl
    pick false some = absurd (omega (arith, some))

module _ (g : Numbered) (left : List Bool) (all : length left ≡ g.nodes) (first second : Load)
    (a : IsSecond left first second) where
  kept_at : (v : ℕ) → v < g.nodes
      → at 0 second.excess.items v ≡ cond (flags left v) 0 (at 0 first.excess.items v)
  kept_at v l =
      ap (λ xs. get_or xs v 0) a.excess_is
      ∙ get_or-map-range_with_len (λ u. cond (flags left u) 0 (at 0 first.excess.items u)) 0
      (length left) v v 0 (omega (arith, l, all)) (omega arith)

  pub kept_all : length second.excess.items ≡ g.nodes
  kept_all =
      ap length a.excess_is
      ∙ (length-map-range_with_len (λ u. cond (flags left u) 0 (at 0 first.excess.items u)) 0
      (length left) ∙ all)

  -- no more is left over than before
  pub kept_few : total_to g.nodes (at 0 first.excess.items) ≤ most
      → total_to g.nodes (at 0 second.excess.items) ≤ most
  kept_few few =
      let low = total-le g.nodes (at 0 second.excess.items) (at 0 first.excess.items)
      (λ v l. (let is = kept_at v l in
      let less = pick (flags left v) (at 0 first.excess.items v) in
      omega (arith, is, less))) in
      omega (arith, low, few)
    where
      pick : (b : Bool) (x : ℕ) → cond b 0 x ≤ x
      pick true x = omega arith
      pick false x = omega arith

  pub kept_apart : (v : ℕ) → v < g.nodes → 0 < at 0 second.excess.items v
      → at 0 second.want.items v ≡ 0
  kept_apart v l some =
      ap (λ xs. get_or xs v 0) a.want_is
      ∙ (side_at left 1 0 v (omega (arith, l, all))
      ∙ pick (flags left v) (at 0 first.excess.items v) (subst (λ x. 0 < x) (kept_at v l) some))
    where
      pick : (b : Bool) (x : ℕ) → 0 < cond b 0 x → ◌≡◌ {A = ℕ} (cond b 1 0) 0
      pick true x some = absurd (omega (arith, some))
      pick false x some = refl

module _ (g : Numbered) (left : List Bool) (all : length left ≡ g.nodes) (shape : EndsAreNodes g)
    (two : IsBipartite g (flags left)) (caps : List ℕ)
    (caps_two : (k : ℕ) → k < g.arcs → at 0 caps k ≡ 2) (begun sent again ended : Load)
    (b : IsFirst g.arcs left begun)
    (s : HasSettled (task_in (facing g (flags left)) (at 0 caps)) begun sent)
    (a : IsSecond left sent again)
    (d : HasSettled (task_in (facing g (flags left)) (at 0 caps)) again ended) where
  abbrev pub task : Task
  task = task_in (facing g (flags left)) (at 0 caps)

  first_sends : (v : ℕ) → v < g.nodes
      → (load_supply task begun v).sends ≡ cond (flags left v) (pos 1) (negsuc 0)
  first_sends v l =
      let inside : v < length left = omega (arith, l, all) in
      let none = net-zero (facing g (flags left)) (as_flow (at 0 begun.flow.items)) v
      (λ k _. ap pos (b.still k)) in
      let has = ap (λ xs. get_or xs v 0) b.excess_is ∙ side_at left 1 0 v inside in
      let wants = ap (λ xs. get_or xs v 0) b.want_is ∙ side_at left 0 1 v inside in
      let flag = one_side (flags left v) in
      omega (arith, ints, none, has, wants, flag)

  first_owes : (v : ℕ) → v < g.nodes → (load_supply task begun v).wants ≡ cond (flags left v) 0 1
  first_owes v l =
      ap (λ xs. get_or xs v 0) b.want_is ∙ side_at left 0 1 v (omega (arith, l, all))

  second_sends : (v : ℕ) → v < g.nodes → (load_supply task again v).sends
      ≡ (net (facing g (flags left)) (as_flow (at 0 sent.flow.items)) v
      +ℤ pos (cond (flags left v) 0 (at 0 sent.excess.items v)))
      -ℤ pos (cond (flags left v) 1 0)
  second_sends v l =
      let has = kept_at g left all sent again a v l in
      let wants = ap (λ xs. get_or xs v 0) a.want_is
      ∙ side_at left 1 0 v (omega (arith, l, all)) in
      let flow = ap (λ xs. net (facing g (flags left)) (as_flow (at 0 xs)) v) a.flow_same in
      omega (arith, ints, flow, has, wants)

  second_owes : (v : ℕ) → v < g.nodes → (load_supply task again v).wants ≡ cond (flags left v) 1 0
  second_owes v l =
      ap (λ xs. get_or xs v 0) a.want_is ∙ side_at left 1 0 v (omega (arith, l, all))

  abbrev pub stuck : ℕ → Bool
  stuck v = flags left v && eqb (at 0 sent.height.items v) (length left)

  stuck_at : (v : ℕ) → flags (map stuck (range_with_len 0 (length left))) v
      ≡ (flags left v && eqb (at 0 sent.height.items v) g.nodes)
  stuck_at v = elim (eqb_tells (length left - v) 0) [
    | inl q ↦
        (let out = q.1 in
        let none : flags left v ≡ false =
        get_or_past left v false (omega (arith, out)) in
        let size = length-map-range_with_len stuck 0 (length left) in
        get_or_past (map stuck (range_with_len 0 (length left))) v false
        (omega (arith, size, out))
        ∙ ap (λ b. b && eqb (at 0 sent.height.items v) g.nodes) (sym none))
    | inr q ↦
        (let inside = q.1 in
        get_or-map-range_with_len stuck 0 (length left) v v false (omega (arith, inside))
        (omega arith)
        ∙ ap (λ n. flags left v && eqb (at 0 sent.height.items v) n) all)
  ]

  flow_long : length ended.flow.items ≡ g.arcs
  flow_long = d.flow_all ∙ (ap length a.flow_same ∙ (s.flow_all ∙ b.flow_all))

  pub answered : IsAnswer g (flags left)
      (filter (λ k. not (eqb (at 0 ended.flow.items k) 0))
      (range_with_len 0 (length ended.flow.items)))
      (map stuck (range_with_len 0 (length left)))
  answered =
      let chosen = λ (k : ℕ). not (eqb (at 0 ended.flow.items k) 0) in
      let sides : flags (map stuck (range_with_len 0 (length left)))
      ≡ (λ (v : ℕ). flags left v && eqb (at 0 sent.height.items v) g.nodes) =
      (λ i v. stuck_at v i) in
      record {
        chosen = chosen;
        arcs_are = ap (λ n. filter chosen (range_with_len 0 n)) flow_long;
        hall_all = length-map-range_with_len stuck 0 (length left) ∙ all;
        pairing =
            subst (λ (x : ℕ → Bool). IsPairing g (flags left) chosen x) (sym sides)
            (pairing_back g (flags left) chosen
            (λ v. flags left v && eqb (at 0 sent.height.items v) g.nodes)
            (paired (facing g (flags left)) (flags left) (from_left g (flags left) two)
            (to_right g (flags left) two) (at 0 caps) caps_two
            (facing_shape g (flags left) shape) (load_supply task begun) (at 0 sent.flow.items)
            (at 0 sent.excess.items) (at 0 sent.want.items) (at 0 sent.height.items) first_sends
            first_owes s.held s.shut s.quiet (load_supply task again) (at 0 ended.flow.items)
            (at 0 ended.excess.items) (at 0 ended.want.items) (at 0 ended.height.items)
            second_sends second_owes d.held d.shut d.quiet));
      }

-- ---- the engine can begin

pub twos : (n m : ℕ) (caps : List ℕ) → caps ≡ replicate n 2 → n ≡ m
    → (length caps ≡ m) × ((k : ℕ) → k < m → at 0 caps k ≡ 2)
twos n m caps is count = (
  ap length is ∙ (length-replicate n 2 ∙ count),
  λ k l. ap (λ xs. get_or xs k 0) is ∙ get_or-replicate n k 2 0 (omega (arith, l, count)),
)

module _ (g : Numbered) (left : List Bool) (all : length left ≡ g.nodes) (few : g.nodes ≤ 2 ^ 20)
    (caps : List ℕ) (long : length caps ≡ g.arcs) (ends : List Ends) (start : List ℕ)
    (row : List Spoke) (net' : IsNetwork (facing g (flags left)) ends start row) (begun : Load)
    (b : IsFirst g.arcs left begun) where
  pub first_loaded : IsLoaded ends start row caps begun
  first_loaded = fresh_loaded (facing g (flags left)) ends start row caps begun net' few long
      b.flow_all
      (ap length b.excess_is ∙ (length-map left (λ l. cond l 1 0) ∙ all))
      (ap length b.want_is ∙ (length-map left (λ l. cond l 0 1) ∙ all))
      (b.height_all ∙ all)
      (λ k l. (let none = b.still k in omega (arith, none)))
      (subst (λ xs. total_to g.nodes (at 0 xs) ≤ most) (sym b.excess_is)
      (first_few g.nodes left all few))
      (λ v l some. ap (λ xs. get_or xs v 0) b.want_is
      ∙ first_apart left v (omega (arith, l, all))
      (subst (λ xs. 0 < at 0 xs v) b.excess_is some))
      b.low

  pub second_loaded : (sent again : Load)
      → HasSettled (task_in (facing g (flags left)) (at 0 caps)) begun sent
      → IsSecond left sent again → IsLoaded ends start row caps again
  second_loaded sent again s a =
      fresh_loaded (facing g (flags left)) ends start row caps again net' few long
      (ap length a.flow_same ∙ (s.flow_all ∙ b.flow_all))
      (kept_all g left all sent again a)
      (ap length a.want_is ∙ (length-map left (λ l. cond l 1 0) ∙ all))
      (a.height_all ∙ all)
      (λ k l. subst (λ xs. at 0 xs k ≤ at 0 caps k) (sym a.flow_same) (s.held.within k l))
      (kept_few g left all sent again a s.held.small)
      (kept_apart g left all sent again a)
      a.low
