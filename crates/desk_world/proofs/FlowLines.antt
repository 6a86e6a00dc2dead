-- The lines of replies about flows and pairings.
use Rattle.std.proofs.Common.{◌≡◌, ℕ, ◌<◌, Bool, false, cond, ℤ, pos, List, ap, subst, ◌∙◌}
use Rattle.std.proofs.lemmas.List.{get_or-map}
use Rattle.report_text.specs.declared.replies.FlowLine.{FlowLine}
use Rattle.report_text.specs.declared.replies.PotentialLine.{PotentialLine}
use Rattle.report_text.specs.declared.replies.PairLine.{PairLine}
use Rattle.plain_certificates.specs.Numbered.{Numbered, EndsAreNodes}
use Rattle.plain_certificates.specs.Tables.{at}
use Rattle.plain_world.specs.Queries.{graph, name_of_arc, name_of_node, pair_line, on_left}
use Rattle.plain_world.specs.Tables.{Name}
use Rattle.plain_world.specs.Views.{is_left, shown_by}
use Rattle.plain_world.specs.World.{World}
use Rattle.static_digraph.specs.Fixed.{FixedOf, graph_of}
use Rattle.desk_world.specs.AskedViews.{left_nodes}

-- the line of an arc with its flow, and of a node with its potential
abbrev pub line_of_flow : World → Name → List ℤ → ℕ → FlowLine
line_of_flow world view flow arc =
    record { arc = name_of_arc world view arc; flow = at (pos 0) flow arc }

abbrev pub line_of_price : World → Name → List ℤ → ℕ → PotentialLine
line_of_price world view pi node =
    record { node = name_of_node world view node; pi = at (pos 0) pi node }

abbrev pub line_of_pair : (arc left right : Name) → PairLine
line_of_pair arc left right = record { arc = arc; left = left; right = right }

module _ (world : World) (view side : Name) (left : List Bool)
    (is : left ≡ left_nodes world view side) where
  -- whether a node is left, by its number
  pub side_at : (node : ℕ) → node < (graph world view).nodes
      → at false left node ≡ on_left world view side node
  side_at node below =
      ap (λ xs. at false xs node) is
      ∙ get_or-map (is_left world view side) (shown_by world view).nodes node 0 false below

  -- a pair by the numbers of its ends
  pub pair_told : (fixed : FixedOf) → graph_of fixed ≡ graph world view
      → EndsAreNodes (graph_of fixed) → (arc own other : ℕ) → arc < (graph world view).arcs
      → own ≡ cond (at false left ((graph_of fixed).from arc)) ((graph_of fixed).from arc)
      ((graph_of fixed).to arc)
      → other ≡ cond (at false left ((graph_of fixed).from arc)) ((graph_of fixed).to arc)
      ((graph_of fixed).from arc)
      → (name first second : Name) → name ≡ name_of_arc world view arc
      → first ≡ name_of_node world view own → second ≡ name_of_node world view other
      → line_of_pair name first second ≡ pair_line world view (on_left world view side) arc
  pair_told fixed same ends arc own other below own_is other_is name first second named one two =
      let g = graph world view in
      let ends_here = subst EndsAreNodes same ends in
      let by : at false left (g.from arc) ≡ on_left world view side (g.from arc) =
      side_at (g.from arc) (ends_here arc below).0 in
      let own_here : own ≡ cond (on_left world view side (g.from arc)) (g.from arc) (g.to arc) =
      own_is ∙ ap (λ (h : Numbered). cond (at false left (h.from arc)) (h.from arc) (h.to arc)) same
      ∙ ap (λ b. cond b (g.from arc) (g.to arc)) by in
      let other_here : other ≡ cond (on_left world view side (g.from arc)) (g.to arc) (g.from arc) =
      other_is
      ∙ ap (λ (h : Numbered). cond (at false left (h.from arc)) (h.to arc) (h.from arc)) same
      ∙ ap (λ b. cond b (g.to arc) (g.from arc)) by in
      λ i. record {
        arc = named i;
        left = (one ∙ ap (name_of_node world view) own_here) i;
        right = (two ∙ ap (name_of_node world view) other_here) i;
      }
