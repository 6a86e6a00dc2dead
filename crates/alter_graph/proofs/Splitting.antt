-- The steps of a split, and the room that they take.
use Rattle.std.proofs.Common.{◌≡◌, ℕ, ◌+◌, Bool, true, false, List, [], ◌∷◌, ◌++◌, length}
use Rattle.std.proofs.Common.{length-append, refl, sym, ap, subst, ◌∙◌, arith}
use Rattle.std.specs.Prelude.{cond}
use Rattle.base_items.specs.declared.items.Fact.{Fact}
use Rattle.base_items.specs.declared.limits.Limit.{Limit}
use Rattle.plain_digraph.specs.Digraph.{Digraph}
use Rattle.plain_digraph.specs.Items.{out_arcs, target_of, node_fact}
use Rattle.plain_digraph.specs.Steps.{new_node, new_arc, move_from}
use Rattle.plain_digraph.specs.PlainSteps.{PlainStep, AddNode, AddArc, MoveTo}
use Rattle.plain_digraph.specs.PlainSteps.{after_steps}
use Rattle.plain_digraph.specs.Alterations.{refusable_steps, unrolled, one, sources_to, node_split}
use Rattle.plain_digraph.specs.Alterations.{arc_split}
use Rattle.alter_graph.specs.Links.{links}
use Rattle.alter_graph.specs.Room.{HasRoom, HasRoomFor, PassesLimit, WouldPass, nodes_in, arcs_in}
use Rattle.alter_graph.proofs.Parting.{AllRefusable}
use Rattle.alter_graph.proofs.Rooms.{nodes-append, arcs-append}

-- ---- an arc

-- the steps, by the facts that were found
pub arc_steps_are : (g : Digraph) (arc end : ℕ) (new : Fact)
    → new ≡ node_fact (new_node g) g.stamps → end ≡ target_of g arc
    → AddNode ∷ MoveTo arc new.id ∷ AddArc new.id end ∷ []
    ≡ refusable_steps g (arc_split g arc)
arc_steps_are g arc end new p q =
    λ i. AddNode ∷ MoveTo arc (p i).id ∷ AddArc (p i).id (q i) ∷ []

-- ---- a node

-- the new node takes over the arcs
abbrev pub emptied : ℕ → Digraph → List PlainStep
emptied n g = AddNode ∷ sources_to (new_node g) (out_arcs g n)

-- and then there may be an arc to it
abbrev pub linked : Bool → ℕ → Digraph → List PlainStep
linked connect n g = unrolled (after_steps g (emptied n g))
    (cond connect (one (AddArc n (new_node g)) ∷ []) [])

pub node_steps_are : (connect : Bool) (n : ℕ) (g : Digraph)
    → emptied n g ++ linked connect n g ≡ refusable_steps g (node_split g n connect)
node_steps_are connect n g = refl

pub emptied_refusable : (n : ℕ) (g : Digraph) → AllRefusable (emptied n g)
emptied_refusable n g = (refl, of (out_arcs g n))
  where
    of : (arcs : List ℕ) → AllRefusable (sources_to (new_node g) arcs)
    of [] = tt
    of (arc ∷ arcs) = (refl, of arcs)

-- ---- room

no_nodes : (u : ℕ) (arcs : List ℕ) → nodes_in (sources_to u arcs) ≡ 0
no_nodes u [] = refl
no_nodes u (arc ∷ arcs) = let r = no_nodes u arcs in omega (arith, r)

no_arcs : (u : ℕ) (arcs : List ℕ) → arcs_in (sources_to u arcs) ≡ 0
no_arcs u [] = refl
no_arcs u (arc ∷ arcs) = let r = no_arcs u arcs in omega (arith, r)

as_many : (u : ℕ) (arcs : List ℕ) → length (sources_to u arcs) ≡ length arcs
as_many u [] = refl
as_many u (arc ∷ arcs) = let r = as_many u arcs in omega (arith, r)

link_nodes : (connect : Bool) (n : ℕ) (g : Digraph) → nodes_in (linked connect n g) ≡ 0
link_nodes true n g = refl
link_nodes false n g = refl

link_arcs : (connect : Bool) (n : ℕ) (g : Digraph) → arcs_in (linked connect n g) ≡ links connect
link_arcs true n g = refl
link_arcs false n g = refl

link_length : (connect : Bool) (n : ℕ) (g : Digraph) → length (linked connect n g) ≡ links connect
link_length true n g = refl
link_length false n g = refl

module _ (connect : Bool) (n : ℕ) (g : Digraph) where
  abbrev steps : List PlainStep
  steps = emptied n g ++ linked connect n g

  split_nodes : nodes_in steps ≡ 1
  split_nodes =
      let a = nodes-append (emptied n g) (linked connect n g) in
      let b = no_nodes (new_node g) (out_arcs g n) in
      let c = link_nodes connect n g in
      omega (arith, a, b, c)

  split_arcs : arcs_in steps ≡ links connect
  split_arcs =
      let a = arcs-append (emptied n g) (linked connect n g) in
      let b = no_arcs (new_node g) (out_arcs g n) in
      let c = link_arcs connect n g in
      omega (arith, a, b, c)

  split_length : length steps ≡ 1 + length (out_arcs g n) + links connect
  split_length =
      let a = length-append (emptied n g) (linked connect n g) in
      let b = as_many (new_node g) (out_arcs g n) in
      let c = link_length connect n g in
      omega (arith, a, b, c)

  -- by the number of the arcs and of the links that were counted
  module _ (arcs : List ℕ) (len new : ℕ) (l : len ≡ length arcs) (a : arcs ≡ out_arcs g n)
      (e : new ≡ links connect) where
    counted : 1 + len + new ≡ length steps
    counted = let b = ap length a in let s = split_length in omega (arith, l, b, e, s)

    pub split_room : HasRoom 1 new (1 + len + new) g
        → HasRoomFor (refusable_steps g (node_split g n connect)) g
    split_room room =
        subst (λ x. HasRoom x (arcs_in steps) (length steps) g) (sym split_nodes)
        (subst (λ x. HasRoom 1 x (length steps) g) (e ∙ sym split_arcs)
        (subst (λ x. HasRoom 1 new x g) counted room))

    pub split_passes : (limit : Limit) → PassesLimit 1 new (1 + len + new) g limit
        → WouldPass (refusable_steps g (node_split g n connect)) g limit
    split_passes limit full =
        subst (λ x. PassesLimit x (arcs_in steps) (length steps) g limit) (sym split_nodes)
        (subst (λ x. PassesLimit 1 x (length steps) g limit) (e ∙ sym split_arcs)
        (subst (λ x. PassesLimit 1 new x g limit) counted full))

-- ---- ids

-- moves leave the next id of an arc
pub arc_id_stays : (arcs : List ℕ) (u : ℕ) (g : Digraph)
    → new_arc (after_steps g (sources_to u arcs)) ≡ new_arc g
arc_id_stays [] u g = refl
arc_id_stays (arc ∷ arcs) u g = arc_id_stays arcs u (move_from g arc u)
