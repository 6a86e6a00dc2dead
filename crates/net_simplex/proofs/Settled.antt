-- What is known of a run that is settled.
use Rattle.std.proofs.Common.{◌≡◌, inl, inr, ℕ, ◌+◌, ◌<◌, ◌≤◌, ◌^◌, ℤ, pos, List, length, sym}
use Rattle.std.proofs.Common.{Option, None, Some, refl, ap, ◌∙◌, subst, arith}
use Rattle.std.specs.Prelude.{MatchOption}
use Rattle.plain_certificates.specs.Numbered.{Numbered}
use Rattle.plain_certificates.specs.Tables.{at}
use Rattle.task_bounds.specs.Given.{IsValue}
use Rattle.task_bounds.specs.Plan.{AreCaps}
use Rattle.net_simplex.specs.Network.{IsWeighed}
use Rattle.task_bounds.specs.Plan.{AreSmall}
use Rattle.net_simplex.specs.Weights.{AreWeights}
use Rattle.net_simplex.specs.Solved.{IsSolved}
use Rattle.net_simplex.specs.declared.solved.Solved.{Solved}

pub weighed_by : (g : Numbered) (cost weights : List ℤ) → AreSmall g.arcs cost
    → AreWeights g.arcs g.nodes (at (pos 0) cost) weights → IsWeighed g (at (pos 0) weights)
weighed_by g cost weights small w = record {
  least = λ k l. (value k l).0;
  most = λ k l. (value k l).1;
  rim = w.rim;
}
  where
    value : (k : ℕ) → k < g.arcs → IsValue (at (pos 0) weights k)
    value k l = subst (λ z. IsValue z) (sym (w.inner k l)) (small.small k l)

-- what an arc carries is at most its capacity
pub sent_most : (g : Numbered) (excess : ℕ → ℤ) (cap : List ℕ) (cost : List ℤ) (solved : Solved)
    → AreCaps g g.nodes cap → IsSolved g excess cap cost solved → (k : ℕ) → k < g.arcs
    → at 0 solved.flow.sent.items k ≤ 2 ^ 62
sent_most g excess cap cost solved caps is k l =
    let all = is.last.rooted.arcs in
    let within = is.last.running.state.held.within k (omega (arith, all, l)) in
    elim (caps.inner k l) [
      | inl few ↦ omega (arith, within, few)
      | inr open_cap ↦ omega (arith, within, open_cap)
    ]

-- ---- added arcs that carry something

pub short_found : (g : Numbered) (m : ℕ) (sent list : List ℕ) (found : Option ℕ) (v : ℕ)
    → found ≡ Some v → m ≡ g.arcs → list ≡ sent → length sent ≡ g.arcs + g.nodes
    → MatchOption found ((k : ℕ) → m ≤ k → k < length list → at 0 list k ≡ 0)
    (λ u. (m + u < length list) × (0 < at 0 list (m + u)))
    → (v < g.nodes) × (0 < at 0 sent (g.arcs + v))
short_found g m sent list found v is m_is list_is all match =
    let there = subst (λ o. MatchOption o ((k : ℕ) → m ≤ k → k < length list → at 0 list k ≡ 0)
    (λ u. (m + u < length list) × (0 < at 0 list (m + u)))) is match in
    let inside = there.0 in
    let size = ap length list_is in
    (omega (arith, inside, size, all, m_is), rw (m_is, list_is) at there.1)

none_there : (found : Option ℕ) → ((x : ℕ) → found ≡ Some x → ⊥) → found ≡ None
none_there None off = refl
none_there (Some x) off = absurd (off x refl)

pub short_none : (g : Numbered) (m : ℕ) (sent list : List ℕ) (found : Option ℕ)
    → ((x : ℕ) → found ≡ Some x → ⊥) → m ≡ g.arcs → list ≡ sent → length sent ≡ g.arcs + g.nodes
    → MatchOption found ((k : ℕ) → m ≤ k → k < length list → at 0 list k ≡ 0)
    (λ u. (m + u < length list) × (0 < at 0 list (m + u)))
    → (v : ℕ) → v < g.nodes → at 0 sent (g.arcs + v) ≡ 0
short_none g m sent list found off m_is list_is all match v l =
    let none = subst (λ o. MatchOption o ((k : ℕ) → m ≤ k → k < length list → at 0 list k ≡ 0)
    (λ u. (m + u < length list) × (0 < at 0 list (m + u)))) (none_there found off) match in
    let size = ap length list_is in
    let zero = none (g.arcs + v) (omega (arith, m_is)) (omega (arith, l, size, all)) in
    ap (λ xs. at 0 xs (g.arcs + v)) (sym list_is) ∙ zero
