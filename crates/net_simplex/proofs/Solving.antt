-- A run from its first state to its last.
use Rattle.std.proofs.Common.{◌≡◌, ℕ, ◌+◌, ◌≤◌, ◌^◌, ℤ, List, length, ap, ◌∙◌}
use Rattle.std.proofs.Common.{Option}
use Rattle.std.specs.Prelude.{MatchOption}
use Rattle.plain_certificates.specs.Cheapest.{IsBasic}
use Rattle.plain_certificates.specs.Numbered.{Numbered, EndsAreNodes}
use Rattle.plain_certificates.specs.Rooms.{as_flow}
use Rattle.pivot_flow.specs.Enter.{NoneEnters}
use Rattle.pivot_flow.specs.Kids.{AreKids, bare, links_of}
use Rattle.pivot_flow.specs.Open.{IsOpenFree, IsRoomy}
use Rattle.pivot_flow.specs.Spread.{price_at}
use Rattle.pivot_flow.specs.State.{IsCosted, IsState, cap_bounds, sends_of}
use Rattle.pivot_flow.specs.Tree.{at, task_of, tree_of}
use Rattle.pivot_flow.specs.declared.look.Ends.{Ends}
use Rattle.pivot_flow.specs.declared.pivots.Endless.{Endless}
use Rattle.net_simplex.proofs.First.{all_light, first_costed, first_ends, first_free, first_kids}
use Rattle.net_simplex.proofs.First.{first_roomy, first_rooted, first_sends, first_state, size}
use Rattle.net_simplex.proofs.First.{sized}
use Rattle.task_bounds.specs.Plan.{AreCaps}
use Rattle.net_simplex.specs.Network.{IsWeighed}
use Rattle.net_simplex.specs.Solved.{IsEndless, IsLast, IsSolved}
use Rattle.net_simplex.specs.declared.solved.Solved.{Solved}
use Rattle.task_bounds.specs.Excess.{AreLight}
use Rattle.net_simplex.specs.Start.{IsFirstFlow, IsFirstTree}

-- all that a run asks of the lists that it begins with
pub record IsBegun (count : ℕ) (ends : List Ends) (cap flow : List ℕ) (cost price : List ℤ)
    (parent arc depth first next prev : List ℕ) : Type 0 where
  pub shape : EndsAreNodes (task_of count ends cap).net
  pub costed : IsCosted (task_of count ends cap) (price_at cost)
  pub kids : AreKids (bare count) (links_of first next prev) (at parent)
  pub state : IsState (task_of count ends cap) (sends_of (task_of count ends cap) (at flow))
      (price_at cost) (tree_of parent arc depth) (at flow) (price_at price)
  pub roomy : IsRoomy (task_of count ends cap) (sends_of (task_of count ends cap) (at flow))
  pub free : IsOpenFree (task_of count ends cap) (at flow) (2 ^ 37)

-- what it leaves, where it began with a flow
pub record IsRun (count : ℕ) (ends : List Ends) (cap began : List ℕ) (cost : List ℤ)
    (flow : List ℕ) (price : List ℤ) (parent arc depth : List ℕ) (endless : Option Endless) : Type 0
  where
    pub basic : IsBasic (task_of count ends cap).net
        (cap_bounds (task_of count ends cap) (sends_of (task_of count ends cap) (at began)))
        (as_flow (at flow))
    pub free : IsOpenFree (task_of count ends cap) (at flow) (2 ^ 37)
    pub state : IsState (task_of count ends cap) (sends_of (task_of count ends cap) (at began))
        (price_at cost) (tree_of parent arc depth) (at flow) (price_at price)
    pub stops : MatchOption endless
        (NoneEnters (task_of count ends cap) (price_at cost) (at flow) (price_at price))
        (λ x. IsEndless (task_of count ends cap) (price_at cost) (tree_of parent arc depth)
        (at flow) (price_at price) x)

module _ (g : Numbered) (excess : ℕ → ℤ) (ends : List Ends) (cap flow : List ℕ)
    (cost price : List ℤ) (parent arc depth first next prev : List ℕ) (nodes_few : g.nodes ≤ 2 ^ 20)
    (arcs_few : g.arcs ≤ 2 ^ 22) (shape : EndsAreNodes g) (light : AreLight g excess)
    (caps : AreCaps g g.nodes cap) (w : IsWeighed g (price_at cost))
    (b : IsFirstFlow g excess ends flow price)
    (tr : IsFirstTree g.nodes g.arcs parent arc depth first next prev) (count : ℕ)
    (count_is : count ≡ g.nodes + 1) where
  pub begun : IsBegun count ends cap flow cost price parent arc depth first next prev
  begun = record {
    shape = first_ends g excess ends cap flow cost price parent arc depth first next prev nodes_few
        arcs_few shape light caps w b tr count count_is;
    costed = first_costed g excess ends cap flow cost price parent arc depth first next prev
        nodes_few arcs_few shape light caps w b tr count count_is;
    kids = first_kids g excess ends cap flow cost price parent arc depth first next prev nodes_few
        arcs_few shape light caps w b tr count count_is;
    state = first_state g excess ends cap flow cost price parent arc depth first next prev nodes_few
        arcs_few shape light caps w b tr count count_is;
    roomy = first_roomy g excess ends cap flow cost price parent arc depth first next prev nodes_few
        arcs_few shape light caps w b tr count count_is;
    free = first_free g excess ends cap flow cost price parent arc depth first next prev nodes_few
        arcs_few shape light caps w b tr count count_is;
  }

  pub ended : (flow' : List ℕ) (price' : List ℤ) (parent' arc' depth' : List ℕ)
      (endless : Option Endless)
      → IsRun count ends cap flow cost flow' price' parent' arc' depth' endless
      → IsLast g excess (task_of count ends cap) (price_at cost) (tree_of parent' arc' depth')
      (at flow') (price_at price') endless
  ended flow' price' parent' arc' depth' endless run = record {
    rooted = first_rooted g excess ends cap flow cost price parent arc depth first next prev
        nodes_few arcs_few shape light caps w b tr count count_is;
    ends = first_ends g excess ends cap flow cost price parent arc depth first next prev nodes_few
        arcs_few shape light caps w b tr count count_is;
    costed = first_costed g excess ends cap flow cost price parent arc depth first next prev
        nodes_few arcs_few shape light caps w b tr count count_is;
    running = record {
      sends = sends_of (task_of count ends cap) (at flow);
      sends_are = first_sends g excess ends cap flow cost price parent arc depth first next prev
          nodes_few arcs_few shape light caps w b tr count count_is;
      state = run.state;
      free = run.free;
      size = size g excess ends cap flow cost price parent arc depth first next prev nodes_few
          arcs_few shape light caps w b tr count count_is;
      sized = sized g excess ends cap flow cost price parent arc depth first next prev nodes_few
          arcs_few shape light caps w b tr count count_is;
      light = all_light g excess ends cap flow cost price parent arc depth first next prev nodes_few
          arcs_few shape light caps w b tr count count_is;
    };
    basic = run.basic;
    stops = run.stops;
  }

-- what its lists are told as
pub is_solved : (g : Numbered) (excess : ℕ → ℤ) (cap : List ℕ) (cost : List ℤ) (run : Solved)
    (ends : List Ends) (flow : List ℕ) (price : List ℤ) (parent arc depth : List ℕ) (count : ℕ)
    → count ≡ g.nodes + 1
    → run.flow.ends.items ≡ ends → run.flow.sent.items ≡ flow → run.flow.price.items ≡ price
    → run.tree.parent.items ≡ parent → run.tree.arc.items ≡ arc → run.tree.depth.items ≡ depth
    → length flow ≡ g.arcs + g.nodes → length price ≡ g.nodes + 1 → length parent ≡ g.nodes + 1
    → length arc ≡ g.nodes + 1 → length depth ≡ g.nodes + 1
    → IsLast g excess (task_of count ends cap) (price_at cost) (tree_of parent arc depth) (at flow)
    (price_at price) run.endless
    → IsSolved g excess cap cost run
is_solved g excess cap cost run ends flow price parent arc depth count count_is ends_is flow_is
    price_is parent_is arc_is depth_is flow_all price_all parent_all arc_all depth_all last =
    record {
      sent_all = ap length flow_is ∙ flow_all;
      price_all = ap length price_is ∙ price_all;
      parent_all = ap length parent_is ∙ parent_all;
      arc_all = ap length arc_is ∙ arc_all;
      depth_all = ap length depth_is ∙ depth_all;
      count = count;
      count_is = count_is;
      last = rw (ends_is, flow_is, price_is, parent_is, arc_is, depth_is) last;
    }
