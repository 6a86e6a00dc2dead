-- Digraphs whose nodes and arcs are numbered from 0, sums over their numbers, and net flow.
use Rattle.std.specs.Prelude.{ℕ, zero, suc, ◌<◌, ◌==◌, ◌||◌, Bool, false, cond, ℤ, pos, ◌+ℤ◌, ◌-ℤ◌}

-- how many nodes and arcs there are, and the ends of each arc
pub record Numbered : Type 0 where
  pub nodes : ℕ
  pub arcs : ℕ
  pub from : ℕ → ℕ
  pub to : ℕ → ℕ

-- both ends of each arc are nodes
abbrev pub EndsAreNodes : Numbered → Type 0
EndsAreNodes g = (arc : ℕ) → arc < g.arcs → (g.from arc < g.nodes) × (g.to arc < g.nodes)

-- ---- over the numbers below one

-- the sum of a term
abbrev pub sum_to : ℕ → (ℕ → ℤ) → ℤ
sum_to zero term = pos 0
sum_to (suc n) term = sum_to n term +ℤ term n

-- the sum of a term where a number is chosen
abbrev pub sum_where : ℕ → (ℕ → Bool) → (ℕ → ℤ) → ℤ
sum_where n chosen term = sum_to n (λ k. cond (chosen k) (term k) (pos 0))

-- how many are chosen
abbrev pub count_where : ℕ → (ℕ → Bool) → ℤ
count_where n chosen = sum_where n chosen (λ k. pos 1)

-- whether one is chosen
abbrev pub any_to : ℕ → (ℕ → Bool) → Bool
any_to zero chosen = false
any_to (suc n) chosen = any_to n chosen || chosen n

-- ---- flows

-- the flow on the arcs from the node minus that on the arcs to it
abbrev pub net : Numbered → (ℕ → ℤ) → ℕ → ℤ
net g flow node =
    sum_where g.arcs (λ arc. g.from arc == node) flow
    -ℤ sum_where g.arcs (λ arc. g.to arc == node) flow
