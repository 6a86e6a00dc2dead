-- The states at which the two runs of `solve` begin.
use Rattle.std.proofs.Common.{◌≡◌, ◌≢◌, inl, inr, ℕ, zero, suc, ◌<◌, ◌≤◌, ◌^◌}
use Rattle.std.proofs.Common.{pos, refl, sym, ◌∙◌, ap}
use Rattle.std.proofs.Common.{arith}
use Rattle.std.proofs.lemmas.Int.{ints}
use Rattle.std.proofs.lemmas.Bool.Decides.{eqb_tells}
use Rattle.plain_certificates.proofs.Nets.{net-zero}
use Rattle.plain_certificates.proofs.Tables.{set_at-here, set_at-other}
use Rattle.plain_certificates.proofs.Totals.{total-one, total-le}
use Rattle.plain_certificates.specs.Numbered.{net}
use Rattle.plain_certificates.specs.Rooms.{as_flow}
use Rattle.plain_certificates.specs.Tables.{set_at}
use Rattle.plain_certificates.specs.Totals.{total_to}
use Rattle.push_flow.proofs.Cut.{IsAsked}
use Rattle.push_flow.specs.Held.{Supply, Task, most, IsHeld, supply_of}

-- at height 0 each flow within the capacities is held
pub fresh_held : (t : Task) (f e w h : ℕ → ℕ) → ((k : ℕ) → k < t.graph.arcs → f k ≤ t.cap k)
    → total_to t.graph.nodes e ≤ most → ((v : ℕ) → v < t.graph.nodes → 0 < e v → w v ≡ 0)
    → ((v : ℕ) → h v ≡ 0) → IsHeld t (supply_of t f e w) f e w h
fresh_held t f e w h within small apart zero_h = record {
  within = within;
  balance = λ v l. omega (arith, ints);
  owed = λ v l. omega arith;
  small = small;
  high = λ v l. (let a = zero_h v in omega (arith, a));
  wants = λ v l _. zero_h v;
  apart = apart;
  gentle = λ k v u l j r. (let a = zero_h v in omega (arith, a));
}

sum_none : (n : ℕ) (e : ℕ → ℕ) → ((v : ℕ) → e v ≡ 0) → total_to n e ≡ 0
sum_none zero e h = refl
sum_none (suc n) e h = let a = sum_none n e h in let b = h n in omega (arith, a, b)

module _ (t : Task) (f e w h : ℕ → ℕ) (s tt : ℕ) (ls : s < t.graph.nodes) (ne : s ≢ tt)
    (f0 : (k : ℕ) → f k ≡ 0) (e0 : (v : ℕ) → e v ≡ 0) (w0 : (v : ℕ) → w v ≡ 0)
    (h0 : (v : ℕ) → h v ≡ 0) where
  net_none : (v : ℕ) → net t.graph (as_flow f) v ≡ pos 0
  net_none v = net-zero t.graph (as_flow f) v (λ k l. ap pos (f0 k))

  pub start_held : IsHeld t (supply_of t f (set_at e s (2 ^ 62)) (set_at w tt (2 ^ 62))) f (set_at e
      s (2 ^ 62)) (set_at w tt (2 ^ 62)) h
  start_held = fresh_held t f (set_at e s (2 ^ 62)) (set_at w tt (2 ^ 62)) h
      (λ k l. (let a = f0 k in omega (arith, a)))
      (let one = total-one t.graph.nodes s (set_at e s (2 ^ 62)) e ls
      (λ v l off. set_at-other e s (2 ^ 62) v off) in
      let a = set_at-here e s (2 ^ 62) in
      let b = sum_none t.graph.nodes e e0 in
      omega (arith, one, a, b))
      (λ v l has. elim (eqb_tells v tt) [
        | inl q ↦ absurd
            (let off : v ≢ s = (λ z. ne (sym z ∙ q.1)) in let a =
            set_at-other e s (2 ^ 62) v off in let b = e0 v in omega (arith, a, b, has))
        | inr q ↦ set_at-other w tt (2 ^ 62) v q.1 ∙ w0 v
      ])
      h0

  pub start_asked : IsAsked (supply_of t f (set_at e s (2 ^ 62))
      (set_at w tt (2 ^ 62))) t.graph.nodes s tt
  start_asked = record {
    source = (let a = net_none s in let b = set_at-here e s (2 ^ 62) in let c =
        set_at-other w tt (2 ^ 62) s ne in let d = w0 s in rw (b, c) (omega (arith, ints, a, d)));
    target = (let a = net_none tt in let b =
        set_at-other e s (2 ^ 62) tt (λ z. ne (sym z)) in let c =
        set_at-here w tt (2 ^ 62) in let d = e0 tt in rw (b, c) (omega (arith, ints, a, d)));
    most = (let c = set_at-here w tt (2 ^ 62) in omega (arith, c));
    others = λ x l a b.
        (let p = net_none x in let q = set_at-other e s (2 ^ 62) x a in let r =
        set_at-other w tt (2 ^ 62) x b in let y = e0 x in let z =
        w0 x in rw (q, r) (omega (arith, ints, p, y, z)));
    want = λ x l b. (let r = set_at-other w tt (2 ^ 62) x b in let z = w0 x in omega (arith, r, z));
  }

-- the second run begins with the first one's flow: s wants all excess back
pub back_held : (t : Task) (supply : ℕ → Supply) (f e w h h' z : ℕ → ℕ) (s : ℕ) → s < t.graph.nodes
    → IsHeld t supply f e w h → ((v : ℕ) → h' v ≡ 0) → ((v : ℕ) → z v ≡ 0) →
    IsHeld t (supply_of t f (set_at e s 0) (set_at z s (2 ^ 62))) f (set_at e s 0)
    (set_at z s (2 ^ 62)) h'
back_held t supply f e w h h' z s ls st h0 z0 =
    fresh_held t f (set_at e s 0) (set_at z s (2 ^ 62)) h'
    st.within
    (let a = total-le t.graph.nodes (set_at e s 0) e
    (λ v l. elim (eqb_tells v s)
    [ inl q ↦ rw q.0 (omega arith) | inr q ↦ rw q.0 (omega arith) ]) in let b =
    st.small in omega (arith, a, b))
    (λ v l has. elim (eqb_tells v s) [
      | inl q ↦ absurd
          (let a = set_at-here e s 0 in let b : 0 < set_at e s 0 s =
          rw q.1 at has in omega (arith, a, b))
      | inr q ↦ set_at-other z s (2 ^ 62) v q.1 ∙ z0 v
    ])
    h0
