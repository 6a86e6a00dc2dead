-- The endless cycle as a list of arcs.
use Rattle.std.specs.Prelude.{◌≡◌, ℕ, zero, suc, ◌+◌, ◌-◌, ◌<◌, List, [], ◌∷◌, ◌++◌}
use Rattle.std.specs.Prelude.{reverse}
use Rattle.pivot_flow.specs.Tree.{Tree}

-- the arcs on the way up from a node, so many
abbrev pub ups : Tree → ℕ → ℕ → List ℕ
ups h zero node = []
ups h (suc n) node = h.arc node ∷ ups h n (h.parent node)

-- the arcs on the way up to a node above
abbrev pub ups_to : Tree → ℕ → ℕ → List ℕ
ups_to h top node = ups h (h.depth node - h.depth top) node

-- down from a node to the source of an arc, over the arc, and up from its target
abbrev pub round_of : Tree → ℕ → ℕ → ℕ → ℕ → List ℕ
round_of h top from arc to = reverse (ups_to h top from) ++ arc ∷ ups_to h top to

-- each node below the highest hangs on one that is one less deep
abbrev pub HangsIn : ℕ → Tree → Type 0
HangsIn nodes h =
    (v : ℕ) → v < nodes → 0 < h.depth v
    → (h.parent v < nodes) × (h.depth v ≡ h.depth (h.parent v) + 1)
