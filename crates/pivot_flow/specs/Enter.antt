-- Arcs that may enter the tree, and what their entering leaves to be shown.
use Rattle.std.specs.Prelude.{◌≡◌, ◌≢◌, ◌⊎◌, ℕ, ◌+◌, ◌-◌, ◌<◌, Bool, if◌then◌else◌, ℤ, pos, neg_ℤ}
use Rattle.std.specs.Prelude.{◌+ℤ◌, ◌<ℤ◌}
use Rattle.plain_certificates.specs.Cheapest.{reduced_cost}
use Rattle.plain_certificates.specs.Numbered.{Numbered}
use Rattle.plain_certificates.specs.Rooms.{room_from, room_to}
use Rattle.pivot_flow.specs.Tree.{ComesTo, IsLow, Task, Tree}

-- an arc that enters forward is sent along, one that enters backward gives back: where the sending
-- starts, where it ends, and what can be sent
abbrev pub tail_of : Numbered → ℕ → Bool → ℕ
tail_of g e forward = if forward then g.from e else g.to e

abbrev pub head_of : Numbered → ℕ → Bool → ℕ
head_of g e forward = if forward then g.to e else g.from e

abbrev pub enter_room : Task → (ℕ → ℕ) → ℕ → Bool → ℕ
enter_room t f e forward = if forward then t.cap e - f e else f e

abbrev pub entered : (ℕ → ℕ) → ℕ → Bool → ℕ → ℕ
entered f e forward step = if forward then f e + step else f e - step

-- what a unit that is sent along the entering arc and round the tree saves
abbrev pub saving : Numbered → (ℕ → ℤ) → (ℕ → ℤ) → ℕ → Bool → ℤ
saving g cost y e forward = if forward then neg_ℤ (reduced_cost g cost y e) else reduced_cost g cost
    y e

-- an arc that may enter
pub record MayEnter (t : Task) (cost : ℕ → ℤ) (f : ℕ → ℕ) (y : ℕ → ℤ) (e : ℕ)
    (forward : Bool) : Type 0 where
  pub arc : e < t.net.arcs
  pub room : 0 < enter_room t f e forward
  pub saves : pos 0 <ℤ saving t.net cost y e forward

-- no arc may enter
abbrev pub NoneEnters : Task → (ℕ → ℤ) → (ℕ → ℕ) → (ℕ → ℤ) → Type 0
NoneEnters t cost f y = (e : ℕ) (forward : Bool) → MayEnter t cost f y e forward → ⊥

-- what the new flow leaves to be sent along the arcs of the new tree, whose part below x hangs at
-- `inner`
pub record HasRoom (t : Task) (h : Tree) (f : ℕ → ℕ) (inner e x : ℕ) : Type 0 where
  pub kept : (v : ℕ) → IsLow t v → (ComesTo h inner v → h.depth v < h.depth x)
      → 0 < room_to t.net t.cap f (h.arc v) v
  pub turned : (u : ℕ) → IsLow t u → ComesTo h inner u → h.depth x < h.depth u
      → 0 < room_from t.net t.cap f (h.arc u) u
  pub first : 0 < room_to t.net t.cap f e inner
  pub leaves : (f (h.arc x) ≡ 0) ⊎ (f (h.arc x) ≡ t.cap (h.arc x))

-- the depths and potentials d, y are set right below `inner`, which hangs under `outer`, where the
-- potentials change by `by`
pub record IsSettled (t : Task) (p : ℕ → ℕ) (y y' : ℕ → ℤ) (d' : ℕ → ℕ) (inner outer : ℕ)
    (by : ℤ) : Type 0 where
  pub top : d' t.root ≡ 0
  pub top_price : y' t.root ≡ y t.root
  pub depth : (v : ℕ) → IsLow t v → d' v ≡ d' (p v) + 1
  pub moved : (v : ℕ) → IsLow t v → v ≢ inner → y' v +ℤ y (p v) ≡ y' (p v) +ℤ y v
  pub inner_price : y' inner ≡ y inner +ℤ by
  pub outer_price : y' outer ≡ y outer
  pub each : (v : ℕ) → v < t.net.nodes → (y' v ≡ y v) ⊎ (y' v ≡ y v +ℤ by)
