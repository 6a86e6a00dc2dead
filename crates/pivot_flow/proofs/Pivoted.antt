-- The bounds that hold before a pivot, and the flow after it.
use Rattle.std.proofs.Common.{◌≡◌, ℕ, ◌<◌, ◌≤◌, ◌^◌, Bool, ℤ, pos, neg_ℤ, ◌≤ℤ◌, List, length}
use Rattle.std.proofs.Common.{ap, ◌∙◌, arith}
use Rattle.std.proofs.Math.ListN.{set}
use Rattle.std.proofs.lemmas.Int.{ints}
use Rattle.plain_certificates.proofs.Tables.{at-set}
use Rattle.plain_certificates.specs.Numbered.{EndsAreNodes}
use Rattle.plain_certificates.specs.Tables.{set_at}
use Rattle.pivot_flow.specs.declared.look.Leaves.{Leaves}
use Rattle.pivot_flow.proofs.Holding.{same_e}
use Rattle.pivot_flow.proofs.Opening.{roomy_kept}
use Rattle.pivot_flow.proofs.Parting.{depth_small}
use Rattle.pivot_flow.proofs.Pivoting.{off_tree}
use Rattle.pivot_flow.proofs.Pricing.{price_small}
use Rattle.pivot_flow.specs.Enter.{MayEnter, enter_room, entered, head_of, tail_of}
use Rattle.pivot_flow.specs.Look.{IsLook}
use Rattle.pivot_flow.specs.Open.{IsOpenFree, IsRoomy}
use Rattle.pivot_flow.specs.Send.{IsSent}
use Rattle.pivot_flow.specs.State.{IsCosted, IsState, sends_of}
use Rattle.pivot_flow.specs.Tree.{Task, Tree, at}

-- potentials and depths are small
module _ (t : Task) (supply cost : ℕ → ℤ) (h : Tree) (f : ℕ → ℕ) (y : ℕ → ℤ)
    (st : IsState t supply cost h f y) (costed : IsCosted t cost) (v : ℕ)
    (l : v < t.net.nodes) where
  pub prices_small : (neg_ℤ (pos (2 ^ 61)) ≤ℤ y v) × (y v ≤ℤ pos (2 ^ 61))
  prices_small =
      let small = price_small t cost h y st.hung st.priced costed v l in
      (omega (arith, ints, small), omega (arith, ints, small))

  pub depths_small : h.depth v ≤ 2 ^ 22
  depths_small =
      let small = depth_small t h v st.hung l in
      let few = costed.nodes in
      omega (arith, small, few)

-- the flow of the entering arc is written
pub entered_at : (flow next : List ℕ) (e : ℕ) (forward : Bool) (step : ℕ)
    → next ≡ set flow e (entered (at flow) e forward step) → e < length flow
    → at next ≡ set_at (at flow) e (entered (at flow) e forward step)
entered_at flow next e forward step is inside =
    ap at is ∙ at-set 0 flow e (entered (at flow) e forward step) inside

-- and no arc that is as good as unbounded is full
pub free_kept : (t : Task) (cost : ℕ → ℤ) (h : Tree) (f g : ℕ → ℕ) (y : ℕ → ℤ) (e : ℕ)
    (forward : Bool) (apex step : ℕ) (leaves : Leaves) → EndsAreNodes t.net
    → IsState t (sends_of t f) cost h f y → MayEnter t cost f y e forward
    → IsLook t h f (tail_of t.net e forward) (head_of t.net e forward) (enter_room t f e forward)
    apex apex step leaves
    → IsSent t h f g (tail_of t.net e forward) (head_of t.net e forward) apex apex step
    → IsRoomy t (sends_of t f) → IsOpenFree t f (2 ^ 37) → step < 2 ^ 61
    → IsOpenFree t (set_at g e (entered g e forward step)) (2 ^ 37)
free_kept t cost h f g y e forward apex step leaves shape st may look sent roomy free short =
    roomy_kept t (sends_of t f) h f g (tail_of t.net e forward) (head_of t.net e forward) apex step
    e forward st.hung st.held shape roomy free sent
    (same_e t (sends_of t f) h f g e forward apex step leaves st.hung st.held may.arc
    (off_tree t cost h f y e forward st.priced may) look sent)
    short
