-- Steps whose places are no other arc's stay so while others are taken.
use Rattle.std.proofs.Common.{List, [], ◌∷◌, sym, subst}
use Rattle.base_items.specs.declared.items.Fact.{Fact}
use Rattle.plain_digraph.specs.Lists.{AllOf}
use Rattle.plain_digraph.specs.PlainSteps.{PlainStep, AddNode, AddArc, MoveFrom, MoveTo, Turn}
use Rattle.plain_digraph.specs.PlainSteps.{PlaceBack, EraseArc, EraseNode, ClearArcs, ClearNodes}
use Rattle.observe_core.proofs.ItemLemmas.{all_more}
use Rattle.alter_graph.specs.Present.{present_of}
use Rattle.alter_graph.specs.Snaps.{Apart, saved_arcs}
use Rattle.alter_graph.specs.State.{State, SnapsFollow}
use Rattle.alter_graph.specs.Steps.{HasOwnPlace, HaveOwnPlaces}
use Rattle.alter_graph.proofs.Following.{follows_valid, fewer_arcs}

-- what holds of the arcs of all copies holds of those that are left
pub copies_left : (P : Fact → Type 0) (steps : List PlainStep) (s t : State)
    → SnapsFollow steps s t → AllOf P (saved_arcs s.chains.snaps (present_of s.graph) s.chains)
    → AllOf P (saved_arcs t.chains.snaps (present_of t.graph) t.chains)
copies_left P steps s t f all =
    let p = present_of s.graph in
    let q = present_of t.graph in
    subst (λ ks. AllOf P (saved_arcs ks q t.chains)) (sym f.names)
    (fewer_arcs P s.chains.snaps p q s.chains t.chains
    (all_more (follows_valid steps p s.chains q t.chains) s.chains.snaps f.each) all)

pub own_after : (taken steps : List PlainStep) (s t : State) → SnapsFollow taken s t
    → HaveOwnPlaces steps s → HaveOwnPlaces steps t
own_after taken [] s t f h = tt
own_after taken (step ∷ steps) s t f h = (one step h.0, own_after taken steps s t f h.1)
  where
    one : (x : PlainStep) → HasOwnPlace x s → HasOwnPlace x t
    one AddNode p = p
    one (AddArc from to) p = p
    one (MoveFrom arc node) p = p
    one (MoveTo arc node) p = p
    one (Turn arc) p = p
    one (PlaceBack fact) p = copies_left (Apart fact) taken s t f p
    one (EraseArc arc) p = p
    one (EraseNode node) p = p
    one ClearArcs p = p
    one ClearNodes p = p
