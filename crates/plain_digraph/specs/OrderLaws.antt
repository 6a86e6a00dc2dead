-- The arcs that are listed at a node after a plain step.
use Rattle.std.specs.Prelude.{◌≡◌, ℕ, ◌==◌, false, cond, filter, List, [], ◌∷◌, ◌++◌}
use Rattle.base_items.specs.declared.items.ItemSort.TheVariants as sorts
use Rattle.plain_digraph.specs.Lists.{AllOf, without}
use Rattle.plain_digraph.specs.Digraph.{Digraph}
use Rattle.plain_digraph.specs.Items.{IsLive, source_of, target_of, out_arcs, in_arcs}
use Rattle.plain_digraph.specs.Steps.{add_arc, new_arc, move_from, move_to, turn, erase_arc}
use Rattle.plain_digraph.specs.Steps.{erase_node}
use Rattle.plain_digraph.specs.PlainSteps.{after_steps}
use Rattle.plain_digraph.specs.Alterations.{refusable_steps, contraction, loop_contraction}
use Rattle.plain_digraph.specs.Alterations.{sources_to, targets_to, is_neither}
use Rattle.plain_digraph.specs.Valid.{IsValid}

-- all arcs that are listed at a node are live and its own
abbrev pub AllListedAreOwn : Type 0
AllListedAreOwn = (g : Digraph) (node : ℕ) → IsValid g
    → AllOf (λ arc. IsLive g sorts.Arc arc × (source_of g arc ≡ node)) (out_arcs g node)
    × AllOf (λ arc. IsLive g sorts.Arc arc × (target_of g arc ≡ node)) (in_arcs g node)

-- ---- the ends of the arcs

-- an added arc has its ends, and all others keep theirs
abbrev pub AddedArcEnds : Type 0
AddedArcEnds = (g : Digraph) (from to other : ℕ)
    → (source_of (add_arc g from to) other ≡ cond (other == new_arc g) from (source_of g other))
    × (target_of (add_arc g from to) other ≡ cond (other == new_arc g) to (target_of g other))

-- a move of a source changes this source alone
abbrev pub MovedSourceEnds : Type 0
MovedSourceEnds = (g : Digraph) (arc node other : ℕ)
    → (source_of (move_from g arc node) other ≡ cond (other == arc) node (source_of g other))
    × (target_of (move_from g arc node) other ≡ target_of g other)

-- a move of a target changes this target alone
abbrev pub MovedTargetEnds : Type 0
MovedTargetEnds = (g : Digraph) (arc node other : ℕ)
    → (source_of (move_to g arc node) other ≡ source_of g other)
    × (target_of (move_to g arc node) other ≡ cond (other == arc) node (target_of g other))

-- ---- moves

-- the list without the arc, or with it in front where the node is its end now
abbrev pub front_if : ℕ → ℕ → ℕ → List ℕ → List ℕ
front_if end node arc arcs = cond (end == node) (arc ∷ without arcs arc) (without arcs arc)

-- the arc is in front at its new source, and the arcs to each node stay
abbrev pub MovedSourceLists : Type 0
MovedSourceLists = (g : Digraph) (arc source node : ℕ) → IsLive g sorts.Arc arc
    → (out_arcs (move_from g arc source) node ≡ front_if source node arc (out_arcs g node))
    × (in_arcs (move_from g arc source) node ≡ in_arcs g node)

-- the arc is in front at its new target, and the arcs from each node stay
abbrev pub MovedTargetLists : Type 0
MovedTargetLists = (g : Digraph) (arc target node : ℕ) → IsLive g sorts.Arc arc
    → (out_arcs (move_to g arc target) node ≡ out_arcs g node)
    × (in_arcs (move_to g arc target) node ≡ front_if target node arc (in_arcs g node))

-- the arc is in front at both of its new ends
abbrev pub TurnedLists : Type 0
TurnedLists = (g : Digraph) (arc node : ℕ)
    → (out_arcs (turn g arc) node ≡ front_if (target_of g arc) node arc (out_arcs g node))
    × (in_arcs (turn g arc) node ≡ front_if (source_of g arc) node arc (in_arcs g node))

-- ---- erasures

-- an erased arc leaves both lists, and all others stay
abbrev pub ErasedArcLists : Type 0
ErasedArcLists = (g : Digraph) (arc node : ℕ)
    → (out_arcs (erase_arc g arc) node ≡ without (out_arcs g node) arc)
    × (in_arcs (erase_arc g arc) node ≡ without (in_arcs g node) arc)

-- where the first arc is erased, the rest is left
abbrev pub ErasedFromFront : Type 0
ErasedFromFront = (g : Digraph) (node arc : ℕ) (rest : List ℕ) → IsValid g
    → (out_arcs g node ≡ arc ∷ rest → out_arcs (erase_arc g arc) node ≡ rest)
    × (in_arcs g node ≡ arc ∷ rest → in_arcs (erase_arc g arc) node ≡ rest)

-- where no arc is listed, none is after an erasure
abbrev pub EmptyStays : Type 0
EmptyStays = (g : Digraph) (node arc : ℕ)
    → (out_arcs g node ≡ [] → out_arcs (erase_arc g arc) node ≡ [])
    × (in_arcs g node ≡ [] → in_arcs (erase_arc g arc) node ≡ [])

-- an erased node changes no list of arcs
abbrev pub ErasedNodeLists : Type 0
ErasedNodeLists = (g : Digraph) (erased node : ℕ)
    → (out_arcs (erase_node g erased) node ≡ out_arcs g node)
    × (in_arcs (erase_node g erased) node ≡ in_arcs g node)

-- ---- the second part of a contraction is known before the first

-- the arcs come from one of the two
abbrev pub AllFrom : Digraph → ℕ → ℕ → List ℕ → Type 0
AllFrom g u v arcs =
    AllOf (λ arc. IsLive g sorts.Arc arc × (is_neither u v (source_of g arc) ≡ false)) arcs

-- where arcs from one of two nodes get the first as source, the arcs to each node stay, and of
-- each arc whether it is from neither
abbrev pub ContractedSources : Type 0
ContractedSources = (g : Digraph) (u v : ℕ) (arcs : List ℕ) → AllFrom g u v arcs
    → ((node : ℕ) → in_arcs (after_steps g (sources_to u arcs)) node ≡ in_arcs g node)
    × ((arc : ℕ)
    → is_neither u v (source_of (after_steps g (sources_to u arcs)) arc)
    ≡ is_neither u v (source_of g arc))

-- so all refusable steps of a contraction are known before the first
abbrev pub ContractionIsKnown : Type 0
ContractionIsKnown = (g : Digraph) (u v : ℕ) → IsValid g
    → refusable_steps g (contraction u v)
    ≡ sources_to u (filter (λ arc. is_neither u v (target_of g arc)) (out_arcs g v))
    ++ targets_to u (filter (λ arc. is_neither u v (source_of g arc)) (in_arcs g v))

-- so are those of a contraction that moves loops too
abbrev pub LoopContractionIsKnown : Type 0
LoopContractionIsKnown = (g : Digraph) (u v : ℕ) → IsValid g
    → refusable_steps g (loop_contraction u v)
    ≡ sources_to u (out_arcs g v) ++ targets_to u (in_arcs g v)
