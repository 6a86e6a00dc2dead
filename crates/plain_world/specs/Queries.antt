-- What a query may answer: each answer with its certificate over the numbered view and the pulled
-- values.
use Rattle.std.specs.Prelude.{◌≡◌, ◌⊎◌, ℕ, ◌==◌, ℤ, pos, Bool, false, cond, not, min, unsigned_abs}
use Rattle.std.specs.Prelude.{List, [], ◌∷◌, ◌++◌, map, filter, position, take, drop, Option, None}
use Rattle.std.specs.Prelude.{Some, unwrap_or, option_map}
use Rattle.std.specs.Option.{option_map_or}
use Rattle.std.specs.List.{range_with_len}
use Rattle.base_items.specs.declared.items.ItemSort.TheVariants.{Arc}
use Rattle.report_text.specs.declared.replies.Reply.{Reply}
use Rattle.report_text.specs.declared.replies.Reply.TheVariants as replies
use Rattle.report_text.specs.declared.replies.ArcLine.{ArcLine}
use Rattle.report_text.specs.declared.replies.FlowLine.{FlowLine}
use Rattle.report_text.specs.declared.replies.PotentialLine.{PotentialLine}
use Rattle.report_text.specs.declared.replies.MeanLine.{MeanLine}
use Rattle.report_text.specs.declared.replies.PairLine.{PairLine}
use Rattle.report_text.specs.declared.replies.PathLine.{PathLine}
use Rattle.report_text.specs.declared.replies.PathLine.TheVariants as paths
use Rattle.plain_views.specs.Shown.{ShownArc}
use Rattle.plain_views.specs.Marks.{Origin, FromArc, FromNode, arc_origin}
use Rattle.plain_certificates.specs.Numbered.{Numbered}
use Rattle.plain_certificates.specs.Numbering.{numbered, node_at, arc_at}
use Rattle.plain_certificates.specs.Tables.{place_of}
use Rattle.plain_certificates.specs.Walks.{along}
use Rattle.plain_certificates.specs.Paths.{IsPaths, IsNegativeCycle}
use Rattle.plain_certificates.specs.Cuts.{IsCut}
use Rattle.plain_certificates.specs.Feasible.{Bounds, IsFeasible, IsBarrier}
use Rattle.plain_certificates.specs.Cheapest.{IsOptimal, IsFreeCycle, IsBasic}
use Rattle.plain_certificates.specs.Pairings.{IsPairing, IsHeaviest, IsAssigned, IsShort}
use Rattle.plain_certificates.specs.Means.{IsLeastMean, IsAcyclic}
use Rattle.plain_world.specs.Tables.{Name}
use Rattle.plain_world.specs.World.{World, Ints, live}
use Rattle.plain_world.specs.Values.{column_of}
use Rattle.plain_world.specs.Views.{tower_of, shown_by, arcs_of, arc_value, node_value, is_left}
use Rattle.plain_world.specs.Views.{arc_name, node_name, node_named, arc_line}
use Rattle.plain_world.specs.Refusals.{lower_bound}
use Rattle.plain_world.specs.Effects.{with_map_changed}

abbrev pub is_zero : ℤ → Bool
is_zero value = unsigned_abs value == 0

-- the least id among arcs, and the arcs from the one with it on, round to the one before
abbrev pub least_id : ℕ → List ShownArc → ℕ
least_id least [] = least
least_id least (arc ∷ arcs) = least_id (min least arc.id) arcs

abbrev pub from_least : List ShownArc → List ShownArc
from_least [] = []
from_least (arc ∷ arcs) =
    let place = unwrap_or (position (λ other. other.id == least_id arc.id arcs) (arc ∷ arcs)) 0 in
    drop place (arc ∷ arcs) ++ take place (arc ∷ arcs)

-- a query of a view
module _ (world : World) (view : Name) where
  -- ---- by numbers

  abbrev pub graph : Numbered
  graph = numbered (shown_by world view)

  abbrev pub on_arcs : Name → ℕ → ℤ
  on_arcs map arc = arc_value world view map (arc_at (shown_by world view) arc).id

  abbrev pub at_nodes : Name → ℕ → ℤ
  at_nodes map node = node_value world view map (node_at (shown_by world view) node)

  abbrev pub on_left : Name → ℕ → Bool
  on_left map node = is_left world view map (node_at (shown_by world view) node)

  -- the number of the node of this name
  abbrev pub number_of : Name → ℕ
  number_of name = place_of (shown_by world view).nodes (unwrap_or (node_named world view name) 0)

  abbrev pub bounds_of : Option Name → Option Name → Option Name → Bounds
  bounds_of low up supply = record {
    lower = λ arc. lower_bound world view low (arc_at (shown_by world view) arc).id;
    upper = λ arc. option_map (λ map. on_arcs map arc) up;
    supply = λ node. option_map_or (λ map. at_nodes map node) supply (pos 0);
  }

  -- ---- lines

  abbrev pub node_numbers : List ℕ
  node_numbers = range_with_len 0 graph.nodes

  abbrev pub arc_numbers : List ℕ
  arc_numbers = range_with_len 0 graph.arcs

  abbrev pub name_of_node : ℕ → Name
  name_of_node node = node_name world view (node_at (shown_by world view) node)

  abbrev pub name_of_arc : ℕ → Name
  name_of_arc arc = arc_name world view (arc_at (shown_by world view) arc).id

  -- the names of the nodes of a set
  abbrev pub names_in : (ℕ → Bool) → List Name
  names_in set = map name_of_node (filter set node_numbers)

  abbrev pub path_line : (ℕ → Option ℤ) → (ℕ → Option ℕ) → ℕ → PathLine
  path_line dist via node =
      option_map_or (λ d. paths.Reached (name_of_node node) d (option_map name_of_arc (via node)))
      (dist node)
      (paths.Unreached (name_of_node node))

  -- the arcs with flow
  abbrev pub flow_lines : (ℕ → ℤ) → List FlowLine
  flow_lines flow =
      map (λ arc. record { arc = name_of_arc arc; flow = flow arc })
      (filter (λ arc. not (is_zero (flow arc))) arc_numbers)

  abbrev pub potential_lines : (ℕ → ℤ) → List PotentialLine
  potential_lines pi = map (λ node. record { node = name_of_node node; pi = pi node }) node_numbers

  abbrev pub mean_lines : (ℕ → ℤ) → List MeanLine
  mean_lines pi = map (λ node. record { node = name_of_node node; pi = pi node }) node_numbers

  abbrev pub pair_line : (ℕ → Bool) → ℕ → PairLine
  pair_line left arc = record {
    arc = name_of_arc arc;
    left = name_of_node (cond (left (graph.from arc)) (graph.from arc) (graph.to arc));
    right = name_of_node (cond (left (graph.from arc)) (graph.to arc) (graph.from arc));
  }

  abbrev pub pair_lines : (ℕ → Bool) → (ℕ → Bool) → List PairLine
  pair_lines left chosen = map (pair_line left) (filter chosen arc_numbers)

  -- the lines of a cycle, from the arc with the least id of the view
  abbrev pub cycle_lines : List ℕ → List ArcLine
  cycle_lines cycle =
      map (arc_line world view) (from_least (map (arc_at (shown_by world view)) cycle))

  -- ---- answers

  pub record FindsPaths (length start : Name) (reply : Reply) : Type 0 where
    pub dist : ℕ → Option ℤ
    pub via : ℕ → Option ℕ
    pub certificate : IsPaths graph (on_arcs length) (number_of start) dist via
    pub reply_is : reply ≡ replies.Paths (map (path_line dist via) node_numbers)

  pub record FindsNegativeCycle (length start : Name) (reply : Reply) : Type 0 where
    pub cycle : List ℕ
    pub certificate : IsNegativeCycle graph (on_arcs length) (number_of start) cycle
    pub reply_is : reply ≡ replies.Cycle (cycle_lines cycle) (along (on_arcs length) cycle)

  pub record FindsCut (cap s t : Name) (flow : ℕ → ℤ) (reply : Reply) : Type 0 where
    pub side : ℕ → Bool
    pub value : ℤ
    pub certificate : IsCut graph (on_arcs cap) (number_of s) (number_of t) flow side value
    pub reply_is : reply ≡ replies.MaxFlow (flow_lines flow) (names_in side) value

  pub record FindsFlow (bounds : Bounds) (flow : ℕ → ℤ) (reply : Reply) : Type 0 where
    pub certificate : IsFeasible graph bounds flow
    pub reply_is : reply ≡ replies.Circulation (flow_lines flow)

  pub record FindsBarrier (bounds : Bounds) (reply : Reply) : Type 0 where
    pub over : Bool
    pub set : ℕ → Bool
    pub supply : ℤ
    pub limit : ℤ
    pub certificate : IsBarrier graph bounds over set supply limit
    pub reply_is : reply ≡ replies.Barrier (names_in set) over supply limit

  pub record FindsOptimum (bounds : Bounds) (cost : Name) (flow : ℕ → ℤ) (reply : Reply) : Type 0
    where
      pub pi : ℕ → ℤ
      pub total : ℤ
      pub certificate : IsOptimal graph bounds (on_arcs cost) flow pi total
      pub reply_is : reply ≡ replies.Cheapest (flow_lines flow) (potential_lines pi) total

  pub record FindsFreeCycle (bounds : Bounds) (cost : Name) (flow : ℕ → ℤ) (reply : Reply) : Type 0
    where
      pub cycle : List ℕ
      pub total : ℤ
      pub certificate : IsFreeCycle graph bounds (on_arcs cost) flow cycle total
      pub reply_is : reply ≡ replies.FreeCycle (flow_lines flow) (cycle_lines cycle) total

  pub record FindsPairing (left : Name) (reply : Reply) : Type 0 where
    pub chosen : ℕ → Bool
    pub hall : ℕ → Bool
    pub certificate : IsPairing graph (on_left left) chosen hall
    pub reply_is : reply ≡ replies.Match (pair_lines (on_left left) chosen) (names_in hall)

  pub record FindsHeaviest (left weight : Name) (reply : Reply) : Type 0 where
    pub chosen : ℕ → Bool
    pub dual : ℕ → ℤ
    pub total : ℤ
    pub certificate : IsHeaviest graph (on_arcs weight) chosen dual total
    pub reply_is : reply
        ≡ replies.Heavy (pair_lines (on_left left) chosen) (potential_lines dual) total

  pub record FindsAssignment (left cost : Name) (reply : Reply) : Type 0 where
    pub chosen : ℕ → Bool
    pub dual : ℕ → ℤ
    pub total : ℤ
    pub certificate : IsAssigned graph (on_left left) (on_arcs cost) chosen dual total
    pub reply_is : reply
        ≡ replies.Assigned (pair_lines (on_left left) chosen) (potential_lines dual) total

  pub record FindsShort (left : Name) (reply : Reply) : Type 0 where
    pub set : ℕ → Bool
    pub certificate : IsShort graph (on_left left) set
    pub reply_is : reply ≡ replies.Short (names_in set)

  -- an absent time is 1
  abbrev pub times : Option Name → ℕ → ℤ
  times time arc = option_map_or (λ map. on_arcs map arc) time (pos 1)

  pub record FindsMean (length : Name) (time : Option Name) (reply : Reply) : Type 0 where
    pub cycle : List ℕ
    pub pi : ℕ → ℤ
    pub total : ℤ
    pub time_of : ℤ
    pub certificate : IsLeastMean graph (on_arcs length) (times time) cycle pi total time_of
    pub reply_is : reply ≡ replies.Mean (cycle_lines cycle) (mean_lines pi) total time_of

  pub record FindsOrder (reply : Reply) : Type 0 where
    pub order : List ℕ
    pub certificate : IsAcyclic graph order
    pub reply_is : reply ≡ replies.Acyclic (map name_of_node order)

  -- ---- flows that are written

  abbrev pub comes_from : ℕ → Origin → Bool
  comes_from arc (FromArc other) = other == arc
  comes_from arc (FromNode node) = false

  -- the flow on the arc of the view that comes from this one of the base, and 0 where none is shown
  abbrev pub flow_on_base : (ℕ → ℤ) → ℕ → ℤ
  flow_on_base flow arc =
      option_map_or flow
      (position (λ shown. comes_from arc (arc_origin (tower_of world view) shown.id))
      (arcs_of world view)) (pos 0)

  abbrev pub with_flow : Option Name → (ℕ → ℤ) → World
  with_flow None flow = world
  with_flow (Some map) flow =
      with_map_changed world Arc map (λ held. Ints (column_of (live world Arc) (flow_on_base flow)))

  -- a flow that is found is written into the map, where one is given
  abbrev pub Writes : Option Name → ((ℕ → ℤ) → Reply → Type 0) → Reply → World → Type 0
  Writes into Finds reply later = (flow : ℕ → ℤ) × Finds flow reply × (later ≡ with_flow into flow)

  -- the world stays
  abbrev pub Tells : (Reply → Type 0) → Reply → World → Type 0
  Tells Finds reply later = Finds reply × (later ≡ world)

  -- a cheapest flow, or what shows that there is none
  abbrev pub FindsCheapest : Bounds → Name → Option Name → Reply → World → Type 0
  FindsCheapest bounds cost into reply later =
      Writes into (FindsOptimum bounds cost) reply later ⊎ Tells (FindsBarrier bounds) reply later
      ⊎ Writes into (FindsFreeCycle bounds cost) reply later

  -- the same, and the cheapest flow is basic
  abbrev pub FindsBasic : Bounds → Name → Option Name → Reply → World → Type 0
  FindsBasic bounds cost into reply later =
      Writes into (λ flow told. FindsOptimum bounds cost flow told × IsBasic graph bounds flow)
      reply later
      ⊎ Tells (FindsBarrier bounds) reply later
      ⊎ Writes into (FindsFreeCycle bounds cost) reply later
