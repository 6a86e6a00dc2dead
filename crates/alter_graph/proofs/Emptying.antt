-- The arcs at a node are erased one after the other, until there are none.
use Rattle.std.proofs.Common.{◌≡◌, ℕ, List, [], ◌∷◌, ◌++◌, map, Some, None, refl, sym, ap, subst}
use Rattle.plain_digraph.specs.Lists.{first, all_but_first}
use Rattle.plain_digraph.specs.Items.{out_arcs, in_arcs}
use Rattle.plain_digraph.specs.PlainSteps.{PlainStep, EraseArc, EraseNode, after_steps}
use Rattle.plain_digraph.specs.Alterations.{all_steps, node_erasure}
use Rattle.alter_graph.specs.State.{State}
use Rattle.alter_graph.specs.Outcome.{Goes}
use Rattle.alter_graph.proofs.Parting.{goes_both, graph_on}

pub first_is : (xs : List ℕ) (a : ℕ) → first xs ≡ Some a → xs ≡ a ∷ all_but_first xs
first_is [] a e = cc
first_is (x ∷ xs) a e = let h : x ≡ a = cc in ap (λ n. n ∷ xs) h

pub first_none : (xs : List ℕ) → first xs ≡ None → xs ≡ []
first_none [] e = refl
first_none (x ∷ xs) e = cc

-- one of them, and then the rest
pub one_more : (arc : ℕ) (arcs rest : List ℕ) (s t u : State) → arcs ≡ arc ∷ rest
    → Goes (EraseArc arc ∷ []) s t → Goes (map EraseArc rest) t u → Goes (map EraseArc arcs) s u
one_more arc arcs rest s t u e p q =
    subst (λ l. Goes (map EraseArc l) s u) (sym e)
    (goes_both (EraseArc arc ∷ []) (map EraseArc rest) s t u p q)

-- the arcs from a node, the rest of those to it, and the node
pub three_parts : (n : ℕ) (s t u v : State) → Goes (map EraseArc (out_arcs s.graph n)) s t
    → Goes (map EraseArc (in_arcs t.graph n)) t u → Goes (EraseNode n ∷ []) u v
    → Goes (all_steps s.graph (node_erasure n)) s v
three_parts n s t u v p q r =
    let outs : List PlainStep = map EraseArc (out_arcs s.graph n) in
    let m = graph_on outs s t p.took in
    let rest : Goes (map EraseArc (in_arcs (after_steps s.graph outs) n) ++ EraseNode n ∷ []) t v =
    subst (λ g. Goes (map EraseArc (in_arcs g n) ++ EraseNode n ∷ []) t v) m
    (goes_both (map EraseArc (in_arcs t.graph n)) (EraseNode n ∷ []) t u v q r) in
    goes_both outs (map EraseArc (in_arcs (after_steps s.graph outs) n) ++ EraseNode n ∷ []) s t v
    p rest
