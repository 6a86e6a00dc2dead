-- Whether some steps would pass a limit.
use Rattle.std.specs.Prelude.{ℕ, ◌+◌, ◌<◌, ◌≤◌, List, [], ◌∷◌, length}
use Rattle.base_items.specs.declared.items.ItemSort.TheVariants as sorts
use Rattle.base_items.specs.declared.limits.Limit.{Limit}
use Rattle.base_items.specs.declared.limits.Limit.TheVariants as limits
use Rattle.base_items.specs.declared.limits.TheConstants.{MAX_NODES, MAX_ARCS, MAX_STAMP}
use Rattle.plain_digraph.specs.Digraph.{Digraph}
use Rattle.plain_digraph.specs.Items.{count_of}
use Rattle.plain_digraph.specs.PlainSteps.{PlainStep, AddNode, AddArc}
use Rattle.list_digraph.specs.declared.faults.AddFault.{AddFault}
use Rattle.list_digraph.specs.declared.faults.AddFault.TheVariants as add

-- how many nodes a step adds, and how many arcs
abbrev pub nodes_by : PlainStep → ℕ
nodes_by AddNode = 1
nodes_by _ = 0

abbrev pub arcs_by : PlainStep → ℕ
arcs_by (AddArc from to) = 1
arcs_by _ = 0

-- how many all of them add
abbrev pub nodes_in : List PlainStep → ℕ
nodes_in [] = 0
nodes_in (step ∷ steps) = nodes_by step + nodes_in steps

abbrev pub arcs_in : List PlainStep → ℕ
arcs_in [] = 0
arcs_in (step ∷ steps) = arcs_by step + arcs_in steps

-- new items, if there are any, stay within the limit
abbrev pub Fits : ℕ → ℕ → ℕ → Type 0
Fits new there limit = 0 < new → there + new ≤ limit

abbrev pub Passes : ℕ → ℕ → ℕ → Type 0
Passes new there limit = (0 < new) × (limit < there + new)

pub record HasRoom (nodes arcs stamps : ℕ) (g : Digraph) : Type 0 where
  pub for_nodes : Fits nodes (count_of g sorts.Node) MAX_NODES
  pub for_arcs : Fits arcs (count_of g sorts.Arc) MAX_ARCS
  pub for_stamps : Fits stamps g.stamps MAX_STAMP

-- the first limit that would be passed: of the nodes, of the arcs, of the stamps
abbrev pub PassesLimit : ℕ → ℕ → ℕ → Digraph → Limit → Type 0
PassesLimit nodes arcs stamps g limits.Nodes = Passes nodes (count_of g sorts.Node) MAX_NODES
PassesLimit nodes arcs stamps g limits.Arcs = Fits nodes (count_of g sorts.Node) MAX_NODES
    × Passes arcs (count_of g sorts.Arc) MAX_ARCS
PassesLimit nodes arcs stamps g limits.Stamps = Fits nodes (count_of g sorts.Node) MAX_NODES
    × Fits arcs (count_of g sorts.Arc) MAX_ARCS
    × Passes stamps g.stamps MAX_STAMP

-- each step takes a stamp
abbrev pub HasRoomFor : List PlainStep → Digraph → Type 0
HasRoomFor steps g = HasRoom (nodes_in steps) (arcs_in steps) (length steps) g

abbrev pub WouldPass : List PlainStep → Digraph → Limit → Type 0
WouldPass steps g limit = PassesLimit (nodes_in steps) (arcs_in steps) (length steps) g limit

-- why the digraph refuses a step
abbrev pub IsFull : PlainStep → Digraph → AddFault → Type 0
IsFull step g (add.Full limit) = WouldPass (step ∷ []) g limit
IsFull step g add.Memory = Unit {0}
