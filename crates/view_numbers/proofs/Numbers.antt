-- What is numbered is the view by number.
use Rattle.std.proofs.Common.{◌≡◌, Bool, true, false, ◌&&◌, List, [], ◌∷◌, map}
use Rattle.std.proofs.Common.{length, refl, ap, ◌∙◌}
use Rattle.std.proofs.lemmas.List.{length-map}
use Rattle.std.proofs.lemmas.List.Elements.{All-map}
use Rattle.base_items.specs.declared.items.Fact.{Fact}
use Rattle.plain_digraph.specs.Lists.{has}
use Rattle.plain_views.specs.Shown.{Shown, ShownArc, IsShown, arcs_in_order}
use Rattle.plain_certificates.specs.Tables.{at, place_of}
use Rattle.plain_certificates.specs.Numbering.{numbered}
use Rattle.plain_certificates.proofs.Numbering.{arcs_have_ends}
use Rattle.static_digraph.specs.Fixed.{FixedOf, graph_of, fixed_from, HaveEnds}
use Rattle.view_numbers.specs.Listed.{fact_shown, facts_of, Numbers}

-- what is told of a fact is told of the arc
mapped : {X : Type 0} (f : Fact → X) (arcs : List ShownArc)
    → map f (map fact_shown arcs) ≡ map (λ arc. f (fact_shown arc)) arcs
mapped f [] = refl
mapped f (arc ∷ arcs) = ap (λ xs. f (fact_shown arc) ∷ xs) (mapped f arcs)

pub numbers_from : (p : Shown) (f : FixedOf) → f ≡ fixed_from p.nodes (facts_of p) → Numbers p f
numbers_from p f is =
    let arcs = arcs_in_order p in
    let items = mapped (λ fact. fact.id) arcs in
    let from = mapped (λ fact. place_of p.nodes fact.from) arcs in
    let to = mapped (λ fact. place_of p.nodes fact.to) arcs in
    let count = ap length items ∙ length-map arcs (λ arc. arc.id) in
    let graph : graph_of (fixed_from p.nodes (facts_of p)) ≡ numbered p = λ i. record {
      nodes = length p.nodes;
      arcs = count i;
      from = at 0 (from i);
      to = at 0 (to i);
    } in
    record {
      nodes = ap (λ h. h.nodes) is;
      arcs = ap (λ h. h.arcs) is ∙ items;
      graph = ap graph_of is ∙ graph;
    }

-- the ends of the arcs are among the nodes
pub arcs_end : (p : Shown) → IsShown p → HaveEnds p.nodes (facts_of p)
arcs_end p shown =
    All-map (λ fact. (has p.nodes fact.from ≡ true) × (has p.nodes fact.to ≡ true)) fact_shown
    (arcs_in_order p)
    (λ k d l. both (has p.nodes _) (has p.nodes _) (arcs_have_ends p shown k d l))
  where
    both : (a b : Bool) → (a && b) ≡ true → (a ≡ true) × (b ≡ true)
    both true b e = (refl, e)
    both false b e = absurd cc
