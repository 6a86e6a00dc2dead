-- Two runs of the engine show a largest pairing: one from left nodes to the others, and one that
-- brings back what is stuck.
use Rattle.std.proofs.Common.{◌≡◌, ◌≢◌, ◌⊎◌, inl, inr, ℕ, zero, suc, ◌<◌, ◌≤◌}
use Rattle.std.proofs.Common.{Bool, true, false, ◌&&◌, ◌||◌, not, cond, eqb, ℤ, pos, negsuc, neg_ℤ}
use Rattle.std.proofs.Common.{◌+ℤ◌, ◌-ℤ◌, ◌*ℤ◌, ◌≤ℤ◌, ◌<ℤ◌, refl, sym, ◌∙◌, ap, arith}
use Rattle.std.proofs.Math.IntN.{zero-*ℤ}
use Rattle.std.proofs.lemmas.Int.{ints, by_lt_z}
use Rattle.std.proofs.lemmas.Bool.Decides.{nat_tests, eqb_tells}
use Rattle.plain_certificates.proofs.Products.{neg-mul, one_times}
use Rattle.plain_certificates.proofs.Sums.{any_to-from, any_to-found, mark, part-le, sum_to-add}
use Rattle.plain_certificates.proofs.Sums.{sum_to-le, sum_to-same, sum_to-zero}
use Rattle.plain_certificates.proofs.Tables.{self_eqb, apart_eqb}
use Rattle.plain_certificates.proofs.Weights.{at_end, weighed}
use Rattle.plain_certificates.specs.Cuts.{leaves}
use Rattle.plain_certificates.specs.Numbered.{Numbered, EndsAreNodes, net, sum_to}
use Rattle.plain_certificates.specs.Numbered.{count_where}
use Rattle.plain_certificates.specs.Pairings.{IsPairing, ShareNoNode, is_neighbour, meets}
use Rattle.plain_certificates.specs.Pairings.{pairs_at}
use Rattle.plain_certificates.specs.Rooms.{as_flow, room_from}
use Rattle.push_flow.proofs.Cut.{both_sides}
use Rattle.push_flow.proofs.Shut.{shut_rests, shut_sum}
use Rattle.push_flow.specs.Held.{IsHeld, Supply}
use Rattle.push_flow.specs.Search.{IsShut, side_of}
use Rattle.flow_loads.specs.Loads.{task_in}

-- ---- flags and single terms

not_both : {b : Bool} → b ≡ true → b ≡ false → ⊥
not_both p q = cc

same_flag : (a b : Bool) → (a ≡ true → b ≡ true) → (b ≡ true → a ≡ true) → a ≡ b
same_flag true true p q = refl
same_flag true false p q = absurd (let e : false ≡ true = p refl in cc)
same_flag false true p q = absurd (let e : false ≡ true = q refl in cc)
same_flag false false p q = refl

and_is : (a b : Bool) → a ≡ true → b ≡ true → (a && b) ≡ true
and_is true b p q = q
and_is false b p q = absurd cc

or_is : (a b : Bool) → a ≡ true → (a || b) ≡ true
or_is true b p = refl
or_is false b p = absurd cc

not_is : (b : Bool) → b ≡ false → not b ≡ true
not_is true e = absurd cc
not_is false e = refl

when_on : {A : Type 0} (b : Bool) (x y : A) → b ≡ true → cond b x y ≡ x
when_on true x y e = refl
when_on false x y e = absurd cc

when_off : {A : Type 0} (b : Bool) (x y : A) → b ≡ false → cond b x y ≡ y
when_off true x y e = absurd cc
when_off false x y e = refl

and_true : (a b : Bool) → (a && b) ≡ true → (a ≡ true) × (b ≡ true)
and_true true true e = (refl, refl)
and_true true false e = absurd cc
and_true false b e = absurd cc

or_true : (a b : Bool) → (a || b) ≡ true → (a ≡ true) ⊎ (b ≡ true)
or_true true b e = inl refl
or_true false true e = inr refl
or_true false false e = absurd cc

is_eqb : (a b : ℕ) → eqb a b ≡ true → a ≡ b
is_eqb a b e = grind (arith, nat_tests)

chosen_low : (b : Bool) (x : ℕ) → pos 0 ≤ℤ cond b (pos x) (pos 0)
chosen_low true x = omega (arith, ints)
chosen_low false x = omega (arith, ints)

chosen_some : (b : Bool) (x : ℕ) → pos 0 <ℤ cond b (pos x) (pos 0) → (b ≡ true) × (0 < x)
chosen_some true x l = (refl, omega (arith, ints, l))
chosen_some false x l = absurd (omega (arith, ints, l))

-- a sum above 0 has a term above 0
sum_some : (n : ℕ) (x : ℕ → ℤ) → pos 0 <ℤ sum_to n x → (k : ℕ) × (k < n) × (pos 0 <ℤ x k)
sum_some zero x l = absurd (omega (arith, ints, l))
sum_some (suc n) x l =
    by_lt_z (pos 0) (x n)
    (λ lt. (n, omega arith, lt))
    (λ ge.
    (let found = sum_some n x (omega (arith, ints, l, ge)) in
    let below = found.1 in
    (found.0, omega (arith, below), found.2)))

-- an arc in use at one of its ends
meet_most : (c a b : Bool) (x : ℕ) → (c ≡ true → 0 < x)
    → cond (c && (a || b)) (pos 1) (pos 0)
    ≤ℤ (cond a (pos x) (pos 0) +ℤ cond b (pos x) (pos 0))
meet_most true true true x h = let some = h refl in omega (arith, ints, some)
meet_most true true false x h = let some = h refl in omega (arith, ints, some)
meet_most true false true x h = let some = h refl in omega (arith, ints, some)
meet_most true false false x h = omega (arith, ints)
meet_most false a b x h =
    let p = chosen_low a x in
    let q = chosen_low b x in
    omega (arith, ints, p, q)

in_use : (x : ℕ) → not (eqb x 0) ≡ true → 0 < x
in_use zero e = absurd cc
in_use (suc x) e = omega arith

used_once : (x : ℕ) → x ≤ 1 → cond (not (eqb x 0)) (pos 1) (pos 0) ≡ pos x
used_once zero l = refl
used_once (suc zero) l = refl
used_once (suc (suc x)) l = absurd (omega (arith, l))

neg_one : (y : ℤ) → negsuc 0 *ℤ y ≡ neg_ℤ y
neg_one y = neg-mul (pos 1) y ∙ ap neg_ℤ (one_times y)

-- an arc from a left node to another, which carries one or nothing
arc_part : (a b : Bool) (x : ℕ) → a ≡ true → b ≡ false → x ≤ 1
    → cond (not (eqb x 0)) (pos 1) (pos 0)
    ≡ (cond a (pos 0) (negsuc 0) -ℤ cond b (pos 0) (negsuc 0)) *ℤ pos x
arc_part true false x p q few = used_once x few ∙ sym (one_times (pos x))
arc_part true true x p q few = absurd cc
arc_part false b x p q few = absurd cc

-- ---- flows whose arcs all lead from left nodes to others

module _ (g : Numbered) (left : ℕ → Bool)
    (from_left : (k : ℕ) → k < g.arcs → left (g.from k) ≡ true)
    (to_right : (k : ℕ) → k < g.arcs → left (g.to k) ≡ false) where
  apart_ends : (k v : ℕ) → k < g.arcs → left v ≡ true → eqb (g.to k) v ≡ false
  apart_ends k v l on =
      apart_eqb (g.to k) v (λ q. not_both on (ap left (sym q) ∙ to_right k l))

  apart_froms : (k v : ℕ) → k < g.arcs → left v ≡ false → eqb (g.from k) v ≡ false
  apart_froms k v l off =
      apart_eqb (g.from k) v (λ q. not_both (ap left (sym q) ∙ from_left k l) off)

  none_in : (f : ℕ → ℕ) (v : ℕ) → left v ≡ true → at_end g.arcs g.to (as_flow f) v ≡ pos 0
  none_in f v on = sum_to-zero g.arcs (λ k. cond (eqb (g.to k) v) (as_flow f k) (pos 0))
      (λ k l. when_off (eqb (g.to k) v) (as_flow f k) (pos 0) (apart_ends k v l on))

  none_out : (f : ℕ → ℕ) (v : ℕ) → left v ≡ false → at_end g.arcs g.from (as_flow f) v ≡ pos 0
  none_out f v off = sum_to-zero g.arcs (λ k. cond (eqb (g.from k) v) (as_flow f k) (pos 0))
      (λ k l. when_off (eqb (g.from k) v) (as_flow f k) (pos 0) (apart_froms k v l off))

  -- an arc carries no more than its left node sends
  sent_most : (f : ℕ → ℕ) (k : ℕ) → k < g.arcs
      → pos (f k) ≤ℤ net g (as_flow f) (g.from k)
  sent_most f k l =
      let part = part-le g.arcs k (λ j. cond (eqb (g.from j) (g.from k)) (as_flow f j) (pos 0)) l
      (λ j q. chosen_low (eqb (g.from j) (g.from k)) (f j)) in
      let here = when_on (eqb (g.from k) (g.from k)) (as_flow f k) (pos 0)
      (self_eqb (g.from k)) in
      let none = none_in f (g.from k) (from_left k l) in
      omega (arith, ints, part, here, none)

  -- where no node sends or takes more than one, the arcs in use share no node
  shared : (f : ℕ → ℕ)
      → ((v : ℕ) → v < g.nodes → left v ≡ true → net g (as_flow f) v ≤ℤ pos 1)
      → ((v : ℕ) → v < g.nodes → left v ≡ false → pos 0 ≤ℤ (net g (as_flow f) v +ℤ pos 1))
      → ShareNoNode g (λ k. not (eqb (f k) 0))
  shared f sent taken v l =
      let most = sum_to-le g.arcs
      (λ k. cond (not (eqb (f k) 0) && meets g v k) (pos 1) (pos 0))
      (λ k. cond (eqb (g.from k) v) (as_flow f k) (pos 0)
      +ℤ cond (eqb (g.to k) v) (as_flow f k) (pos 0))
      (λ k _. meet_most (not (eqb (f k) 0)) (eqb (g.from k) v) (eqb (g.to k) v) (f k)
      (in_use (f k))) in
      let add = sum_to-add g.arcs (λ k. cond (eqb (g.from k) v) (as_flow f k) (pos 0))
      (λ k. cond (eqb (g.to k) v) (as_flow f k) (pos 0)) in
      at_most (left v) refl most add
    where
      at_most : (b : Bool) → left v ≡ b
          → pairs_at g (λ k. not (eqb (f k) 0)) v
          ≤ℤ sum_to g.arcs (λ k. cond (eqb (g.from k) v) (as_flow f k) (pos 0)
          +ℤ cond (eqb (g.to k) v) (as_flow f k) (pos 0))
          → sum_to g.arcs (λ k. cond (eqb (g.from k) v) (as_flow f k) (pos 0)
          +ℤ cond (eqb (g.to k) v) (as_flow f k) (pos 0))
          ≡ at_end g.arcs g.from (as_flow f) v +ℤ at_end g.arcs g.to (as_flow f) v
          → pairs_at g (λ k. not (eqb (f k) 0)) v ≤ℤ pos 1
      at_most true on most add =
          let none = none_in f v on in
          let few = sent v l on in
          omega (arith, ints, most, add, none, few)
      at_most false off most add =
          let none = none_out f v off in
          let few = taken v l off in
          omega (arith, ints, most, add, none, few)

  -- as many arcs are in use as the other nodes take
  counted : (f : ℕ → ℕ) → EndsAreNodes g → ((k : ℕ) → k < g.arcs → f k ≤ 1)
      → count_where g.arcs (λ k. not (eqb (f k) 0))
      ≡ sum_to g.nodes (λ v. cond (left v) (pos 0) (negsuc 0) *ℤ net g (as_flow f) v)
  counted f shape few =
      sum_to-same g.arcs (λ k. cond (not (eqb (f k) 0)) (pos 1) (pos 0))
      (λ k. (cond (left (g.from k)) (pos 0) (negsuc 0)
      -ℤ cond (left (g.to k)) (pos 0) (negsuc 0)) *ℤ as_flow f k)
      (λ k l. arc_part (left (g.from k)) (left (g.to k)) (f k) (from_left k l) (to_right k l)
      (few k l))
      ∙ sym (weighed g (λ v. cond (left v) (pos 0) (negsuc 0)) (as_flow f) shape)

  -- ---- the two runs

  module _ (cap : ℕ → ℕ) (caps : (k : ℕ) → k < g.arcs → cap k ≡ 2) (shape : EndsAreNodes g)
      (supply : ℕ → Supply) (f e w h : ℕ → ℕ)
      (sends : (v : ℕ) → v < g.nodes → (supply v).sends ≡ cond (left v) (pos 1) (negsuc 0))
      (owes : (v : ℕ) → v < g.nodes → (supply v).wants ≡ cond (left v) 0 1)
      (st : IsHeld (task_in g cap) supply f e w h) (shut : IsShut (task_in g cap) f h)
      (quiet : (v : ℕ) → v < g.nodes → h v < g.nodes → e v ≡ 0) where
    abbrev pub hall_in : ℕ → Bool
    hall_in v = left v && side_of g.nodes h v

    left_net : (v : ℕ) → v < g.nodes → left v ≡ true
        → (w v ≡ 0) × (net g (as_flow f) v +ℤ pos (e v) ≡ pos 1)
    left_net v l on =
        let owed = st.owed v l in
        let none = owes v l ∙ when_on (left v) 0 1 on in
        let one = sends v l ∙ when_on (left v) (pos 1) (negsuc 0) on in
        let kept = st.balance v l in
        let zero : w v ≡ 0 = omega (arith, owed, none) in
        (zero, omega (arith, ints, kept, one, zero))

    right_net : (v : ℕ) → v < g.nodes → left v ≡ false
        → (w v ≤ 1) × ((net g (as_flow f) v +ℤ pos (e v)) +ℤ pos 1 ≡ pos (w v))
    right_net v l off =
        let owed = st.owed v l in
        let most = owes v l ∙ when_off (left v) 0 1 off in
        let one = sends v l ∙ when_off (left v) (pos 1) (negsuc 0) off in
        let kept = st.balance v l in
        (omega (arith, owed, most), omega (arith, ints, kept, one))

    low_flow : (k : ℕ) → k < g.arcs → f k ≤ 1
    low_flow k l =
        let most = sent_most f k l in
        let from = (left_net (g.from k) (shape k l).0 (from_left k l)).1 in
        omega (arith, ints, most, from)

    -- no arc leaves the shut side, since none is full
    closed : (k : ℕ) → k < g.arcs → h (g.from k) ≡ g.nodes → h (g.to k) ≡ g.nodes
    closed k l top = elim (eqb_tells (h (g.to k)) g.nodes) [
      | inl q ↦ q.1
      | inr q ↦
          (let off = q.1 in
          let high = st.high (g.to k) (shape k l).1 in
          let two = caps k l in
          let few = low_flow k l in
          let room : 0 < room_from g cap f k (g.from k) =
          rw (self_eqb (g.from k)) (omega (arith, two, few)) in
          let got = shut k (g.from k) (g.to k) l (shape k l).0 (shape k l).1 (inl (refl, refl))
          room (omega (arith, off, high)) in
          absurd (omega (arith, got, top)))
    ]

    -- where an arc in use leads to a node that is shut off, its left node is shut off too
    back_top : (k u : ℕ) → k < g.arcs → u < g.nodes → left u ≡ false → g.to k ≡ u → 0 < f k
        → h u ≡ g.nodes → h (g.from k) ≡ g.nodes
    back_top k u l lu off to some top = elim (eqb_tells (h (g.from k)) g.nodes) [
      | inl q ↦ q.1
      | inr q ↦
          (let low = q.1 in
          let high = st.high (g.from k) (shape k l).0 in
          let room : 0 < room_from g cap f k u = rw (apart_froms k u l off) some in
          let got = shut k u (g.from k) l lu (shape k l).0 (inr (refl, to)) room
          (omega (arith, low, high)) in
          absurd (omega (arith, got, top)))
    ]

    top_wants_none : (v : ℕ) → v < g.nodes → h v ≡ g.nodes → w v ≡ 0
    top_wants_none v l top = elim (eqb_tells (w v) 0) [
      | inl q ↦ q.1
      | inr q ↦
          (let some = q.1 in
          let zero = st.wants v l (omega (arith, some)) in
          absurd (omega (arith, zero, top, l)))
    ]

    -- a node that isn't left and is shut off has an arc from a left node that is shut off
    reached : (u : ℕ) → u < g.nodes → left u ≡ false → h u ≡ g.nodes
        → (k : ℕ) × (k < g.arcs) × (g.to k ≡ u) × (h (g.from k) ≡ g.nodes)
    reached u l off top =
        let none = top_wants_none u l top in
        let kept = (right_net u l off).1 in
        let out = none_out f u off in
        let found = sum_some g.arcs (λ k. cond (eqb (g.to k) u) (as_flow f k) (pos 0))
        (omega (arith, ints, none, kept, out)) in
        let part = chosen_some (eqb (g.to found.0) u) (f found.0) found.2 in
        let to = is_eqb (g.to found.0) u part.0 in
        (found.0, found.1, to, back_top found.0 u found.1 l off to part.1 top)

    top_is : (v : ℕ) → side_of g.nodes h v ≡ true → h v ≡ g.nodes
    top_is v e = is_eqb (h v) g.nodes e

    under_top : (v : ℕ) → v < g.nodes → side_of g.nodes h v ≡ false → h v < g.nodes
    under_top v l e =
        let off : h v ≢ g.nodes = grind (arith, nat_tests) in
        let high = st.high v l in
        omega (arith, off, high)

    is_top : (v : ℕ) → h v ≡ g.nodes → side_of g.nodes h v ≡ true
    is_top v e = ap (λ x. eqb x g.nodes) e ∙ self_eqb g.nodes

    -- the neighbours of the set are the other nodes that are shut off
    neighbours : (u : ℕ) → u < g.nodes
        → is_neighbour g hall_in u ≡ (not (left u) && side_of g.nodes h u)
    neighbours u l = same_flag (is_neighbour g hall_in u) (not (left u) && side_of g.nodes h u)
        (λ on.
        (let found = any_to-found g.arcs
        (λ k. (hall_in (g.from k) && eqb (g.to k) u) || (hall_in (g.to k) && eqb (g.from k) u))
        on in
        let k = found.0 in
        let inside = found.1 in
        elim (or_true (hall_in (g.from k) && eqb (g.to k) u)
        (hall_in (g.to k) && eqb (g.from k) u) found.2) [
          | inl q ↦
              (let p = and_true (hall_in (g.from k)) (eqb (g.to k) u) q in
              let is = is_eqb (g.to k) u p.1 in
              let top = top_is (g.from k)
              (and_true (left (g.from k)) (side_of g.nodes h (g.from k)) p.0).1 in
              let off : left u ≡ false = ap left (sym is) ∙ to_right k inside in
              let on' : side_of g.nodes h u ≡ true =
              is_top u (ap h (sym is) ∙ closed k inside top) in
              and_is (not (left u)) (side_of g.nodes h u) (not_is (left u) off) on')
          | inr q ↦
              (let p = and_true (hall_in (g.to k)) (eqb (g.from k) u) q in
              let r = and_true (left (g.to k)) (side_of g.nodes h (g.to k)) p.0 in
              absurd (not_both r.0 (to_right k inside)))
        ]))
        (λ on.
        (let p = and_true (not (left u)) (side_of g.nodes h u) on in
        let off : left u ≡ false = not_true (left u) p.0 in
        let found = reached u l off (top_is u p.1) in
        let k = found.0 in
        let from : hall_in (g.from k) ≡ true =
        and_is (left (g.from k)) (side_of g.nodes h (g.from k)) (from_left k found.1)
        (is_top (g.from k) found.3) in
        let to = ap (λ x. eqb x u) found.2 ∙ self_eqb u in
        any_to-from g.arcs k
        (λ j. (hall_in (g.from j) && eqb (g.to j) u) || (hall_in (g.to j) && eqb (g.from j) u))
        found.1 (or_is (hall_in (g.from k) && eqb (g.to k) u)
        (hall_in (g.to k) && eqb (g.from k) u)
        (and_is (hall_in (g.from k)) (eqb (g.to k) u) from to))))
      where
        not_true : (b : Bool) → not b ≡ true → b ≡ false
        not_true true e = absurd cc
        not_true false e = refl

    -- the nodes that aren't shut off send to each other alone
    outside_rests : sum_to g.nodes
        (λ v. (pos 1 -ℤ mark (side_of g.nodes h) v) *ℤ net g (as_flow f) v) ≡ pos 0
    outside_rests =
        let both = both_sides g (as_flow f) (mark (side_of g.nodes h)) shape in
        let cut = shut_sum (task_in g cap) f h shape st.within st.high shut in
        let none = sum_to-zero g.arcs
        (λ k. cond (leaves g (side_of g.nodes h) k) (as_flow cap k) (pos 0))
        (λ k l. no_leaving (side_of g.nodes h (g.from k)) (side_of g.nodes h (g.to k))
        (as_flow cap k) (λ on. is_top (g.to k) (closed k l (top_is (g.from k) on)))) in
        omega (arith, ints, both, cut, none)
      where
        no_leaving : (a b : Bool) (x : ℤ) → (a ≡ true → b ≡ true)
            → cond (a && not b) x (pos 0) ≡ pos 0
        no_leaving true true x p = refl
        no_leaving true false x p = absurd (let e : false ≡ true = p refl in cc)
        no_leaving false b x p = refl

    module _ (supply' : ℕ → Supply) (f' e' w' h' : ℕ → ℕ)
        (sends' : (v : ℕ) → v < g.nodes → (supply' v).sends
        ≡ (net g (as_flow f) v +ℤ pos (cond (left v) 0 (e v))) -ℤ pos (cond (left v) 1 0))
        (owes' : (v : ℕ) → v < g.nodes → (supply' v).wants ≡ cond (left v) 1 0)
        (st' : IsHeld (task_in g cap) supply' f' e' w' h')
        (shut' : IsShut (task_in g cap) f' h')
        (quiet' : (v : ℕ) → v < g.nodes → h' v < g.nodes → e' v ≡ 0) where
      left_sends : (v : ℕ) → v < g.nodes → left v ≡ true
          → (supply' v).sends +ℤ pos 1 ≡ net g (as_flow f) v
      left_sends v l on =
          let is = sends' v l
          ∙ ap (λ b. (net g (as_flow f) v +ℤ pos (cond b 0 (e v))) -ℤ pos (cond b 1 0)) on in
          omega (arith, ints, is)

      right_sends : (v : ℕ) → v < g.nodes → left v ≡ false
          → (supply' v).sends ≡ net g (as_flow f) v +ℤ pos (e v)
      right_sends v l off =
          let is = sends' v l
          ∙ ap (λ b. (net g (as_flow f) v +ℤ pos (cond b 0 (e v))) -ℤ pos (cond b 1 0)) off in
          omega (arith, ints, is)

      all_low : (v : ℕ) → v < g.nodes → (b : Bool) → left v ≡ b → (supply' v).sends ≤ℤ pos 0
      all_low v l true on =
          let is = left_sends v l on in
          let was = (left_net v l on).1 in
          omega (arith, ints, is, was)
      all_low v l false off =
          let is = right_sends v l off in
          let was = (right_net v l off).1 in
          let few = (right_net v l off).0 in
          omega (arith, ints, is, was, few)

      rests : (v : ℕ) → v < g.nodes → e' v ≡ 0
      rests = shut_rests (task_in g cap) supply' f' e' w' h' shape st' shut' quiet'
          (λ v l top. all_low v l (left v) refl)

      left_then : (v : ℕ) → v < g.nodes → left v ≡ true → net g (as_flow f') v ≤ℤ pos 1
      left_then v l on =
          let kept = st'.balance v l in
          let none = rests v l in
          let owed = st'.owed v l in
          let one = owes' v l ∙ when_on (left v) 1 0 on in
          let low = all_low v l true on in
          omega (arith, ints, kept, none, owed, one, low)

      right_then : (v : ℕ) → v < g.nodes → left v ≡ false
          → net g (as_flow f') v +ℤ pos 1 ≡ pos (w v)
      right_then v l off =
          let kept = st'.balance v l in
          let none = rests v l in
          let owed = st'.owed v l in
          let zero = owes' v l ∙ when_off (left v) 1 0 off in
          let is = right_sends v l off in
          let was = (right_net v l off).1 in
          omega (arith, ints, kept, none, owed, zero, is, was)

      few_then : (k : ℕ) → k < g.arcs → f' k ≤ 1
      few_then k l =
          let most = sent_most f' k l in
          let from = left_then (g.from k) (shape k l).0 (from_left k l) in
          omega (arith, ints, most, from)

      abbrev pub chosen_in : ℕ → Bool
      chosen_in k = not (eqb (f' k) 0)

      -- a node's part in the number of pairs
      node_part : (v : ℕ) → v < g.nodes → (l b : Bool) → left v ≡ l → side_of g.nodes h v ≡ b
          → cond l (pos 0) (negsuc 0) *ℤ net g (as_flow f') v
          +ℤ (pos 1 -ℤ cond b (pos 1) (pos 0)) *ℤ net g (as_flow f) v
          ≡ cond (l && not (l && b)) (pos 1) (pos 0) +ℤ cond (not l && b) (pos 1) (pos 0)
      node_part v q true true on top =
          let a = zero-*ℤ (net g (as_flow f') v) in
          let b = zero-*ℤ (net g (as_flow f) v) in
          omega (arith, ints, a, b)
      node_part v q true false on low =
          let a = zero-*ℤ (net g (as_flow f') v) in
          let b = one_times (net g (as_flow f) v) in
          let was = (left_net v q on).1 in
          let none = quiet v q (under_top v q low) in
          omega (arith, ints, a, b, was, none)
      node_part v q false true off top =
          let a = neg_one (net g (as_flow f') v) in
          let b = zero-*ℤ (net g (as_flow f) v) in
          let is = right_then v q off in
          let none = top_wants_none v q (top_is v top) in
          omega (arith, ints, a, b, is, none)
      node_part v q false false off low =
          let a = neg_one (net g (as_flow f') v) in
          let b = one_times (net g (as_flow f) v) in
          let is = right_then v q off in
          let was = (right_net v q off).1 in
          let none = quiet v q (under_top v q low) in
          omega (arith, ints, a, b, is, was, none)

      abbrev one : ℕ → ℤ
      one v = cond (left v) (pos 0) (negsuc 0) *ℤ net g (as_flow f') v

      abbrev other : ℕ → ℤ
      other v = (pos 1 -ℤ mark (side_of g.nodes h) v) *ℤ net g (as_flow f) v

      tight : count_where g.arcs chosen_in
          ≡ count_where g.nodes (λ v. left v && not (hall_in v))
          +ℤ count_where g.nodes (is_neighbour g hall_in)
      tight =
          let count = counted f' shape few_then in
          let rest = outside_rests in
          let add = sum_to-add g.nodes one other in
          let each = sum_to-same g.nodes (λ v. one v +ℤ other v)
          (λ v. cond (left v && not (hall_in v)) (pos 1) (pos 0)
          +ℤ cond (is_neighbour g hall_in v) (pos 1) (pos 0))
          (λ v l. node_part v l (left v) (side_of g.nodes h v) refl refl
          ∙ ap (λ b. cond (left v && not (hall_in v)) (pos 1) (pos 0) +ℤ cond b (pos 1) (pos 0))
          (sym (neighbours v l))) in
          let apart = sum_to-add g.nodes
          (λ v. cond (left v && not (hall_in v)) (pos 1) (pos 0))
          (λ v. cond (is_neighbour g hall_in v) (pos 1) (pos 0)) in
          omega (arith, ints, count, rest, add, each, apart)

      -- what the two runs show
      pub paired : IsPairing g left chosen_in hall_in
      paired = record {
        apart = shared f' left_then
            (λ v l off. (let is = right_then v l off in omega (arith, ints, is)));
        hall_left = λ v l on. (and_true (left v) (side_of g.nodes h v) on).0;
        tight = tight;
      }
