-- One parent more is turned.
use Rattle.std.proofs.Common.{◌≡◌, ◌≢◌, inl, inr, ℕ, ◌<◌, ◌≤◌, refl, sym, ◌∙◌, ap, arith}
use Rattle.std.proofs.lemmas.Bool.Decides.{eqb_tells}
use Rattle.plain_certificates.proofs.Forest.{over_same, over_self}
use Rattle.plain_certificates.proofs.Tables.{set_at-here, set_at-other}
use Rattle.plain_certificates.specs.Tables.{set_at}
use Rattle.pivot_flow.proofs.Above.{over_parent}
use Rattle.pivot_flow.specs.Tree.{ComesTo, IsHung, IsLow, Task, Tree, forest_of}
use Rattle.pivot_flow.specs.Turn.{IsTurned, IsTurning}

-- a node deeper than another hangs
pub deep_low : (t : Task) (h : Tree) (v d : ℕ) → IsHung t h → v < t.net.nodes → d < h.depth v
    → IsLow t v
deep_low t h v d s l q = (
  l,
  λ e. (let z : h.depth v ≡ 0 = ap h.depth e
      ∙ s.top_depth in absurd (omega (arith, z, q))),
)

pub turn_begins : (t : Task) (h : Tree) (inner outer e : ℕ) → IsHung t h → inner < t.net.nodes
    → IsTurning t h h.parent h.arc inner outer e inner outer e
turn_begins t h inner outer e s l = record {
  node = l;
  over = over_self (forest_of h) inner;
  kept = λ v _. (refl, refl);
  done = λ u lu o q. absurd (let x = o.high in let fall = s.falls u lu in
      omega (arith, x, fall, q));
  first = λ q. absurd (omega (arith, q));
  next = inl (refl, (refl, refl));
}

module _ (t : Task) (h : Tree) (p a : ℕ → ℕ) (inner outer e c hook by stop : ℕ) (s : IsHung t h)
    (st : IsTurning t h p a inner outer e c hook by) (over : ComesTo h inner stop)
    (le : h.depth stop ≤ h.depth c) (ne : c ≢ stop) where
  stop_above : h.depth stop < h.depth c
  stop_above =
      let off : h.depth stop ≢ h.depth c =
      λ q. ne (over_same (forest_of h) inner c stop st.over over (sym q)) in
      omega (arith, off, le)

  pub turn_low : IsLow t c
  turn_low = deep_low t h c (h.depth stop) s st.node stop_above

  -- the child of c that was turned last
  is_hook : (u : ℕ) → IsLow t u → ComesTo h inner u → h.parent u ≡ c → (hook ≡ u) × (by ≡ h.arc u)
  is_hook u lu o is =
      let fall = s.falls u lu in
      let same = ap h.depth is in
      elim st.next [
        | inl x ↦ absurd (let z = ap h.depth x.0 in let top = o.high in
            omega (arith, fall, same, z, top))
        | inr x ↦
            (let fall_hook = s.falls hook x.1.0 in
            let same_hook = ap h.depth x.1.1.1.0 in
            let one = over_same (forest_of h) inner hook u x.1.1.0 o
            (omega (arith, fall, same, fall_hook, same_hook)) in
            (one, x.1.1.1.1 ∙ ap h.arc one))
      ]

  pub turn_step : IsTurning t h (set_at p c hook) (set_at a c by) inner outer e (h.parent c) c
      (h.arc c)
  turn_step =
      let low = turn_low in
      let fall = s.falls c low in
      let off : (v : ℕ) → v ≢ c → (set_at p c hook v ≡ p v)
      × (set_at a c by v ≡ a v) = λ v n. (set_at-other p c hook v n, set_at-other a c by v n) in
      let on : (set_at p c hook c ≡ hook)
      × (set_at a c by c ≡ by) = (set_at-here p c hook, set_at-here a c by) in
      record {
        node = s.parent c low;
        over = over_parent t h inner c s low st.over;
        kept = λ v q.
            (let n : v ≢ c = λ z. (let r = q (rw z st.over) in let y = ap h.depth z in
            absurd (omega (arith, r, y, fall))) in
            let o = off v n in
            let k = st.kept v (λ x. (let r = q x in omega (arith, r, fall))) in
            (o.0 ∙ k.0, o.1 ∙ k.1));
        done = λ u lu o q.
            elim (eqb_tells (h.parent u) c) [
              | inl z ↦ (let k = is_hook u lu o z.1 in rw z.1 (on.0 ∙ k.0, on.1 ∙ k.1))
              | inr z ↦
                  (let up = over_parent t h inner u s lu o in
                  let far : h.depth c ≢ h.depth (h.parent u) =
                  λ r. z.1 (over_same (forest_of h) inner (h.parent u) c up st.over (sym r)) in
                  let old = st.done u lu o (omega (arith, far, q, fall)) in
                  let n = off (h.parent u) z.1 in
                  (n.0 ∙ old.0, n.1 ∙ old.1))
            ];
        first = λ q.
            elim st.next [
              | inl x ↦ rw (← x.0) (on.0 ∙ x.1.0, on.1 ∙ x.1.1)
              | inr x ↦
                  (let old = st.first x.0 in
                  let n = off inner (λ z. (let y = ap h.depth z in let r = x.0 in
                  absurd (omega (arith, y, r)))) in
                  (n.0 ∙ old.0, n.1 ∙ old.1))
            ];
        next = inr (
          (let top = st.over.high in omega (arith, top, fall)),
          (low, (st.over, (refl, refl))),
        );
      }

-- the turning ends at the parent of x
pub turn_ends : (t : Task) (h : Tree) (p a : ℕ → ℕ) (inner outer e x c hook by : ℕ) → IsHung t h
    → IsLow t x → ComesTo h inner x → c ≡ h.parent x → IsTurning t h p a inner outer e c hook by
    → IsTurned t h p a inner outer e x
turn_ends t h p a inner outer e x c hook by s low o is st =
    let fall = s.falls x low in
    let at = ap h.depth is in
    let top = o.high in
    record {
      kept = λ v q. st.kept v (λ y. (let r = q y in omega (arith, r, fall, at)));
      turned = λ u lu y q. st.done u lu y (let f = s.falls u lu in omega (arith, f, fall, at, q));
      first = st.first (omega (arith, top, fall, at));
    }
