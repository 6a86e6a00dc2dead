-- Alterations: refusable steps, and then sure ones.
use Rattle.std.specs.Prelude.{ℕ, ◌==◌, ◌||◌, Bool, not, cond, List, [], ◌∷◌, ◌++◌, map, filter}
use Rattle.std.specs.Prelude.{find, Option, None}
use Rattle.std.specs.Option.{option_or}
use Rattle.base_items.specs.declared.items.ItemSort.{ItemSort}
use Rattle.base_items.specs.declared.items.ItemSort.TheVariants as sorts
use Rattle.plain_digraph.specs.Digraph.{Digraph}
use Rattle.plain_digraph.specs.Items.{source_of, target_of, out_arcs, in_arcs}
use Rattle.plain_digraph.specs.Steps.{new_node}
use Rattle.plain_digraph.specs.PlainSteps.{PlainStep, AddNode, AddArc, MoveFrom, MoveTo, PlaceBack}
use Rattle.plain_digraph.specs.PlainSteps.{EraseArc, EraseNode, ClearArcs, ClearNodes, sort_of}
use Rattle.plain_digraph.specs.PlainSteps.{after_step, after_steps}
use Rattle.plain_digraph.specs.Copies.{Copy, added, moved}

-- some steps in turn, by the lists that stand when they begin
abbrev pub Part : Type 0
Part = Digraph → List PlainStep

-- refusable steps part by part, and then the sure ones
pub record Alteration : Type 0 where
  pub refusable : List Part
  pub sure : List Part

-- the steps of the parts, each by the digraph that the parts before it leave
abbrev pub unrolled : Digraph → List Part → List PlainStep
unrolled g [] = []
unrolled g (part ∷ parts) = part g ++ unrolled (after_steps g (part g)) parts

-- the steps that guards may refuse, in turn
abbrev pub refusable_steps : Digraph → Alteration → List PlainStep
refusable_steps g alteration = unrolled g alteration.refusable

-- the refusable steps and then the sure ones, in turn
abbrev pub all_steps : Digraph → Alteration → List PlainStep
all_steps g alteration = unrolled g (alteration.refusable ++ alteration.sure)

-- ---- the table

-- the part of this step alone
abbrev pub one : PlainStep → Part
one step g = step ∷ []

-- a single refusable step
abbrev pub single : PlainStep → Alteration
single step = record { refusable = one step ∷ []; sure = [] }

-- the sources of some arcs go to a node
abbrev pub sources_to : ℕ → List ℕ → List PlainStep
sources_to node arcs = map (λ arc. MoveFrom arc node) arcs

-- the targets of some arcs go to a node
abbrev pub targets_to : ℕ → List ℕ → List PlainStep
targets_to node arcs = map (λ arc. MoveTo arc node) arcs

-- the arcs from the node, the rest of the arcs to it, and then the node
abbrev pub node_and_arcs : ℕ → List Part
node_and_arcs node =
    (λ g. map EraseArc (out_arcs g node)) ∷ (λ g. map EraseArc (in_arcs g node))
    ∷ one (EraseNode node) ∷ []

-- an arc is erased
abbrev pub arc_erasure : ℕ → Alteration
arc_erasure arc = record { refusable = []; sure = one (EraseArc arc) ∷ [] }

-- a node is erased with its arcs
abbrev pub node_erasure : ℕ → Alteration
node_erasure node = record { refusable = []; sure = node_and_arcs node }

-- all arcs are erased at once, and then all nodes
abbrev pub clearing : Alteration
clearing = record { refusable = []; sure = one ClearArcs ∷ one ClearNodes ∷ [] }

-- whether the node is neither of the two
abbrev pub is_neither : ℕ → ℕ → ℕ → Bool
is_neither u v node = not (node == u || node == v)

-- v goes into u: its arcs to and from other nodes move, the rest goes with it
abbrev pub contraction : ℕ → ℕ → Alteration
contraction u v = record {
  refusable =
      (λ g. sources_to u (filter (λ arc. is_neither u v (target_of g arc)) (out_arcs g v)))
      ∷ (λ g. targets_to u (filter (λ arc. is_neither u v (source_of g arc)) (in_arcs g v))) ∷ [];
  sure = node_and_arcs v;
}

-- v goes into u with all its arcs
abbrev pub loop_contraction : ℕ → ℕ → Alteration
loop_contraction u v = record {
  refusable = (λ g. sources_to u (out_arcs g v)) ∷ (λ g. targets_to u (in_arcs g v)) ∷ [];
  sure = one (EraseNode v) ∷ [];
}

-- a new node takes over the arcs from the node; if connect, an arc goes from the node to it
abbrev pub node_split : Digraph → ℕ → Bool → Alteration
node_split before node connect = record {
  refusable =
      one AddNode ∷ (λ g. sources_to (new_node before) (out_arcs g node))
      ∷ cond connect (one (AddArc node (new_node before)) ∷ []) [];
  sure = [];
}

-- the arc ends at a new node, from which a new arc goes on
abbrev pub arc_split : Digraph → ℕ → Alteration
arc_split before arc = record {
  refusable =
      one AddNode ∷ one (MoveTo arc (new_node before))
      ∷ one (AddArc (new_node before) (target_of before arc)) ∷ [];
  sure = [];
}

-- each moved arc back to where it was, by rising id
abbrev pub places_back : Copy → Part
places_back copy g = map PlaceBack (moved copy g)

-- the added arcs go, and the added nodes
abbrev pub arcs_out : Copy → Part
arcs_out copy g = map EraseArc (added copy g sorts.Arc)

-- the added nodes go
abbrev pub nodes_out : Copy → Part
nodes_out copy g = map EraseNode (added copy g sorts.Node)

-- the moved arcs go back, and then the added arcs and the added nodes go
abbrev pub restoring : Copy → Alteration
restoring copy = record {
  refusable = places_back copy ∷ [];
  sure = arcs_out copy ∷ nodes_out copy ∷ [];
}

-- ---- the verdict

-- the first that refuses the digraph after a step of its sort, at the first step that one refuses
abbrev pub vetoer : {W : Type 0} → (W → ItemSort → Digraph → Bool) → List W → Digraph
    → List PlainStep → Option W
vetoer refuses guards g [] = None
vetoer refuses guards g (step ∷ steps) =
    option_or (find (λ guard. refuses guard (sort_of step) (after_step g step)) guards)
    (vetoer refuses guards (after_step g step) steps)
