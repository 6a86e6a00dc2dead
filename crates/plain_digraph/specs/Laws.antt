-- The laws of a digraph and of its additions, each said whole.
use Rattle.std.specs.Prelude.{◌≡◌, ◌≢◌, ◌↔◌, ℕ, ◌<◌, ◌==◌, true, false, List, ◌∷◌, ◌++◌, cond, map}
use Rattle.std.specs.Prelude.{length, Some, None, IsSome, Contains, IsPermutation}
use Rattle.std.specs.List.Sorted.{IsStrictlyIncreasing}
use Rattle.base_items.specs.declared.items.Fact.{Fact}
use Rattle.base_items.specs.declared.items.ItemSort.{ItemSort}
use Rattle.base_items.specs.declared.items.ItemSort.TheVariants as sorts
use Rattle.plain_digraph.specs.Lists.{has}
use Rattle.plain_digraph.specs.Digraph.{Digraph}
use Rattle.plain_digraph.specs.Items.{ids, IsLive, used_of, count_of, fact_of, facts, node_fact}
use Rattle.plain_digraph.specs.Items.{arc_fact, source_of, target_of, out_arcs, in_arcs, all_arcs}
use Rattle.plain_digraph.specs.Steps.{add_node, add_arc, new_node, new_arc}
use Rattle.plain_digraph.specs.Valid.{IsValid}

-- ---- live items

-- no id stands twice in the list
abbrev pub StandsOnce : List ℕ → Type 0
StandsOnce ids = (front back : List ℕ) (id : ℕ) → ids ≡ front ++ id ∷ back
    → (has front id ≡ false) × (has back id ≡ false)

-- in a valid digraph no id stands twice in the list of nodes, nor in either list of arcs
abbrev pub LiveIdsDiffer : Type 0
LiveIdsDiffer = (g : Digraph) → IsValid g
    → StandsOnce (ids g.nodes) × StandsOnce (ids g.by_source) × StandsOnce (ids g.by_target)

-- in a valid digraph each live id is below the number of ids used
abbrev pub LiveIdsAreUsed : Type 0
LiveIdsAreUsed = (g : Digraph) (sort : ItemSort) (id : ℕ) → IsValid g → IsLive g sort id
    → id < used_of g sort

-- something is told of exactly the live items
abbrev pub LiveItemsAreTold : Type 0
LiveItemsAreTold = (g : Digraph) (sort : ItemSort) (id : ℕ) → IsValid g
    → IsLive g sort id ↔ IsSome (fact_of g sort id)

-- what is told of the live items stands in the list of all facts, and nothing else
abbrev pub FactsAreWhole : Type 0
FactsAreWhole = (g : Digraph) (sort : ItemSort) (fact : Fact) → IsValid g
    → Contains (facts g sort) fact ↔ (fact_of g sort fact.id ≡ Some fact)

-- the facts stand by rising id
abbrev pub FactsRise : Type 0
FactsRise = (g : Digraph) (sort : ItemSort)
    → IsStrictlyIncreasing (map (λ fact. fact.id) (facts g sort))

-- there are as many facts as live items
abbrev pub FactsAreCounted : Type 0
FactsAreCounted = (g : Digraph) (sort : ItemSort) → IsValid g
    → length (facts g sort) ≡ count_of g sort

-- ---- what an addition adds

-- the new id wasn't live, and what is told of it is its ends and the stamp taken
abbrev pub AddedNodeFact : Type 0
AddedNodeFact = (g : Digraph) → IsValid g
    → (fact_of g sorts.Node (new_node g) ≡ None)
    × (fact_of (add_node g) sorts.Node (new_node g) ≡ Some (node_fact (new_node g) g.stamps))

-- the same of an added arc, which has its ends and the stamp taken in both lists
abbrev pub AddedArcFact : Type 0
AddedArcFact = (g : Digraph) (from to : ℕ) → IsValid g
    → (fact_of g sorts.Arc (new_arc g) ≡ None)
    × (fact_of (add_arc g from to) sorts.Arc (new_arc g)
    ≡ Some (arc_fact (new_arc g) (from, to) g.stamps g.stamps))

-- the new arc stands in front of the others of its ends
abbrev pub AddedArcIsFirst : Type 0
AddedArcIsFirst = (g : Digraph) (from to node : ℕ) → IsValid g
    → (out_arcs (add_arc g from to) node
    ≡ cond (from == node) (new_arc g ∷ out_arcs g node) (out_arcs g node))
    × (in_arcs (add_arc g from to) node
    ≡ cond (to == node) (new_arc g ∷ in_arcs g node) (in_arcs g node))

-- ---- what an addition leaves alone

-- an added node leaves what is told of all other items, and the arcs at each node
abbrev pub AddedNodeKeeps : Type 0
AddedNodeKeeps = (g : Digraph) (id : ℕ)
    → (id ≢ new_node g → fact_of (add_node g) sorts.Node id ≡ fact_of g sorts.Node id)
    × (fact_of (add_node g) sorts.Arc id ≡ fact_of g sorts.Arc id)
    × (out_arcs (add_node g) id ≡ out_arcs g id)
    × (in_arcs (add_node g) id ≡ in_arcs g id)

-- an added arc leaves what is told of all other items
abbrev pub AddedArcKeeps : Type 0
AddedArcKeeps = (g : Digraph) (from to id : ℕ)
    → (fact_of (add_arc g from to) sorts.Node id ≡ fact_of g sorts.Node id)
    × (id ≢ new_arc g → fact_of (add_arc g from to) sorts.Arc id ≡ fact_of g sorts.Arc id)

-- ---- the order of all arcs

-- the arcs from each node in turn are all arcs, each once
abbrev pub AllArcsAreWhole : Type 0
AllArcsAreWhole = (g : Digraph) → IsValid g → IsPermutation (all_arcs g) (ids g.by_source)

-- the arcs that are listed at a node are live and its own
abbrev pub ListedArcsAreOwn : Type 0
ListedArcsAreOwn = (g : Digraph) (node arc : ℕ) → IsValid g
    → (has (out_arcs g node) arc ≡ true → IsLive g sorts.Arc arc × (source_of g arc ≡ node))
    × (has (in_arcs g node) arc ≡ true → IsLive g sorts.Arc arc × (target_of g arc ≡ node))

-- no arc stands twice at a node
abbrev pub ListedArcsDiffer : Type 0
ListedArcsDiffer = (g : Digraph) (node : ℕ) → IsValid g
    → StandsOnce (out_arcs g node) × StandsOnce (in_arcs g node)
