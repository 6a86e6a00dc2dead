-- A walk over that part by first children and next neighbours.
use Rattle.std.specs.Prelude.{◌≡◌, ◌≢◌, ◌⊎◌, ℕ, ◌+◌, ◌<◌, ◌≤◌, Bool, true, false, ℤ, ◌+ℤ◌}
use Rattle.pivot_flow.specs.Kids.{AreKids, Links}
use Rattle.pivot_flow.specs.Spread.{IsCut}
use Rattle.pivot_flow.specs.Tree.{IsLow, Task}

-- the state of a walk from `inner` down, over each node's first child and next neighbour: q has the
-- nodes that were reached, `tail` of them, the first `head` of which are done;
-- of w, the last one done, the first child is still due at stage 0, and the neighbour at stages 0
-- and 1
pub record IsStroll (t : Task) (l : Links) (p q d₀ d : ℕ → ℕ) (y₀ y : ℕ → ℤ) (inner outer : ℕ)
    (by : ℤ) (head tail w stage : ℕ) : Type 0 where
  pub cut : IsCut t p d₀ inner outer
  pub links : AreKids t l p
  pub seen : ℕ → Bool
  pub done : ℕ → Bool
  pub place : ℕ → ℕ
  pub ordered : head ≤ tail
  pub listed : (k : ℕ) → k < tail → (seen (q k) ≡ true) × (place (q k) ≡ k)
  pub found : (v : ℕ) → seen v ≡ true → (place v < tail) × (q (place v) ≡ v)
  pub node : (v : ℕ) → seen v ≡ true → IsLow t v × ((cut.part v ≡ true) × (v ≢ inner))
  pub begins : done inner ≡ true
  pub past : (v : ℕ) → done v ≡ true → (v ≡ inner) ⊎ ((seen v ≡ true) × (place v < head))
  pub dealt : (v : ℕ) → seen v ≡ true → place v < head → done v ≡ true
  pub up : (v : ℕ) → seen v ≡ true → (done (p v) ≡ true) × ((p v ≡ inner) ⊎ (place (p v) < place v))
  pub first_by : (v : ℕ) → seen v ≡ true → l.prev v ≡ t.root → (done (p v) ≡ true)
      × ((p v ≢ w) ⊎ (0 < stage))
  pub next_by : (v : ℕ) → seen v ≡ true → l.prev v ≢ t.root → (done (l.prev v) ≡ true)
      × ((l.prev v ≢ w) ⊎ (1 < stage))
  pub kids : (u : ℕ) → done u ≡ true → l.first u ≢ t.root → ((u ≡ w) × (stage < 1))
      ⊎ (seen (l.first u) ≡ true)
  pub sibs : (u : ℕ) → done u ≡ true → u ≢ inner → l.next u ≢ t.root → ((u ≡ w) × (stage < 2))
      ⊎ (seen (l.next u) ≡ true)
  pub depth : (v : ℕ) → done v ≡ true → d v ≡ d (p v) + 1
  pub high : (v : ℕ) → seen v ≡ true → done v ≡ true → d v ≤ (d₀ outer + 2) + place v
  pub high_inner : d inner ≤ d₀ outer + 1
  pub price : (v : ℕ) → done v ≡ true → y v ≡ y₀ v +ℤ by
  pub same : (v : ℕ) → done v ≡ false → (d v ≡ d₀ v) × (y v ≡ y₀ v)
