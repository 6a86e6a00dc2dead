-- Largest pairings, heaviest ones and cheapest ones that cover the left nodes.
use Rattle.std.specs.Prelude.{◌≡◌, ℕ, ◌<◌, ◌==◌, ◌&&◌, ◌||◌, Bool, true, false, not, ℤ, pos, ◌+ℤ◌}
use Rattle.std.specs.Prelude.{◌≤ℤ◌, ◌<ℤ◌}
use Rattle.plain_certificates.specs.Numbered.{Numbered, sum_to, sum_where, count_where, any_to}

-- each arc joins a left node and one that isn't
abbrev pub IsBipartite : Numbered → (ℕ → Bool) → Type 0
IsBipartite g left = (arc : ℕ) → arc < g.arcs → left (g.to arc) ≡ not (left (g.from arc))

-- whether the node is an end of the arc
abbrev pub meets : Numbered → ℕ → ℕ → Bool
meets g node arc = g.from arc == node || g.to arc == node

-- how many of the arcs chosen meet the node
abbrev pub pairs_at : Numbered → (ℕ → Bool) → ℕ → ℤ
pairs_at g chosen node = count_where g.arcs (λ arc. chosen arc && meets g node arc)

-- no node is met by two of the arcs chosen
abbrev pub ShareNoNode : Numbered → (ℕ → Bool) → Type 0
ShareNoNode g chosen = (node : ℕ) → node < g.nodes → pairs_at g chosen node ≤ℤ pos 1

-- ---- largest pairings

-- the set has left nodes alone
abbrev pub AreLeft : Numbered → (ℕ → Bool) → (ℕ → Bool) → Type 0
AreLeft g left set = (node : ℕ) → node < g.nodes → set node ≡ true → left node ≡ true

-- whether an arc joins the node to one of the set
abbrev pub is_neighbour : Numbered → (ℕ → Bool) → ℕ → Bool
is_neighbour g set node =
    any_to g.arcs (λ arc. (set (g.from arc) && g.to arc == node)
    || (set (g.to arc) && g.from arc == node))

-- as many pairs as there are left nodes outside the set and neighbours of it
pub record IsPairing (g : Numbered) (left chosen hall : ℕ → Bool) : Type 0 where
  pub apart : ShareNoNode g chosen
  pub hall_left : AreLeft g left hall
  pub tight : count_where g.arcs chosen
      ≡ count_where g.nodes (λ node. left node && not (hall node))
      +ℤ count_where g.nodes (is_neighbour g hall)

-- ---- weights and costs

-- the two ends' duals together
abbrev pub ends_dual : Numbered → (ℕ → ℤ) → ℕ → ℤ
ends_dual g dual arc = dual (g.from arc) +ℤ dual (g.to arc)

-- a pairing, and duals that outweigh each arc and add up to the weight of the pairing
pub record IsHeaviest (g : Numbered) (weight : ℕ → ℤ) (chosen : ℕ → Bool) (dual : ℕ → ℤ)
    (total : ℤ) : Type 0 where
  pub apart : ShareNoNode g chosen
  pub total_is : total ≡ sum_where g.arcs chosen weight
  pub at_least_0 : (node : ℕ) → node < g.nodes → pos 0 ≤ℤ dual node
  pub no_heavier : (arc : ℕ) → arc < g.arcs → weight arc ≤ℤ ends_dual g dual arc
  pub tight : sum_to g.nodes dual ≡ total

-- the pairing meets each left node
abbrev pub CoversLeft : Numbered → (ℕ → Bool) → (ℕ → Bool) → Type 0
CoversLeft g left chosen =
    (node : ℕ) → node < g.nodes → left node ≡ true → pairs_at g chosen node ≡ pos 1

-- a pairing that covers the left nodes, and duals that no arc is cheaper than and that add up to
-- the cost of the pairing
pub record IsAssigned (g : Numbered) (left : ℕ → Bool) (cost : ℕ → ℤ) (chosen : ℕ → Bool)
    (dual : ℕ → ℤ) (total : ℤ) : Type 0 where
  pub apart : ShareNoNode g chosen
  pub covered : CoversLeft g left chosen
  pub total_is : total ≡ sum_where g.arcs chosen cost
  pub at_most_0 : (node : ℕ) → node < g.nodes → left node ≡ false → dual node ≤ℤ pos 0
  pub no_cheaper : (arc : ℕ) → arc < g.arcs → ends_dual g dual arc ≤ℤ cost arc
  pub tight : sum_to g.nodes dual ≡ total

-- left nodes with fewer neighbours than members
pub record IsShort (g : Numbered) (left set : ℕ → Bool) : Type 0 where
  pub set_left : AreLeft g left set
  pub fewer : count_where g.nodes (is_neighbour g set) <ℤ count_where g.nodes set
