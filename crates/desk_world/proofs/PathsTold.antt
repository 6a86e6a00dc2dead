-- Paths by number are those that a query tells.
use Rattle.std.proofs.Common.{◌≡◌, ◌≢◌, ◌⊎◌, ℕ, suc, ◌+◌, ◌<◌, ◌^◌, ◌≤ℤ◌, ℤ, negsuc, pos, ◌+ℤ◌}
use Rattle.std.proofs.Common.{◌<ℤ◌, List, [], ◌∷◌, ◌++◌, map, length, All, refl, sym, ap, subst}
use Rattle.std.proofs.Common.{◌∙◌, Option, None, Some, inl, inr, arith}
use Rattle.std.specs.Prelude.{Ok}
use Rattle.std.specs.List.{range_with_len}
use Rattle.std.specs.Option.{option_or}
use Rattle.std.proofs.lemmas.Bool.{cases_eq}
use Rattle.std.proofs.lemmas.List.{length-map}
use Rattle.std.proofs.lemmas.List.FromFn.{map-range_with_len_more}
use Rattle.script_words.specs.declared.commands.Command.TheVariants as commands
use Rattle.report_text.specs.declared.faults.StepFault.{StepFault}
use Rattle.report_text.specs.declared.replies.PathLine.{PathLine}
use Rattle.report_text.specs.declared.replies.Reply.{Reply}
use Rattle.report_text.specs.declared.replies.Reply.TheVariants as replies
use Rattle.plain_certificates.specs.Numbered.{Numbered}
use Rattle.plain_certificates.specs.Paths.{IsPaths, IsNegativeCycle, IsNoFurther, IsLastArc}
use Rattle.plain_certificates.specs.Tables.{at, place_of}
use Rattle.plain_certificates.specs.Walks.{IsCycle, along}
use Rattle.path_search.specs.Answers.{IsAnswer}
use Rattle.plain_machine.specs.Built.{RefusedBy}
use Rattle.plain_world.specs.Demands as demands
use Rattle.plain_world.specs.Demands.{path_demands}
use Rattle.plain_world.specs.Queries.{FindsPaths, FindsNegativeCycle, graph, on_arcs, number_of}
use Rattle.plain_world.specs.Queries.{path_line, node_numbers, cycle_lines}
use Rattle.plain_world.specs.Refusals.{breach}
use Rattle.plain_world.specs.Tables.{Name}
use Rattle.plain_world.specs.Views.{shown_by, node_named}
use Rattle.plain_world.specs.World.{World}
use Rattle.static_digraph.specs.Fixed.{graph_of}
use Rattle.desk_world.specs.AskedPaths.{AsksPaths}
use Rattle.desk_world.specs.AskedViews.{Asks, arc_values, IsBelow}
use Rattle.desk_world.specs.Faults.{Is, Answers}
use Rattle.desk_world.specs.declared.asked_paths.AskedPaths.{AskedPaths}
use Rattle.desk_world.specs.declared.asked_views.AskedView.{AskedView}
use Rattle.desk_world.proofs.AskedInts.{value_on, number_is, number_below}
use Rattle.desk_world.proofs.Demanded.{fault_of, refused, not_met}
use Rattle.desk_world.proofs.ViewCommands.{first_not_met, second_not_met, both_lists_met}
use Rattle.tower_numbers.proofs.Along.{cycle_members}

-- ---- lengths that are the same on all arcs

module _ (g : Numbered) (one other : ℕ → ℤ) (same : (k : ℕ) → k < g.arcs → one k ≡ other k) where
  last_alike : (dist : ℕ → Option ℤ) (arc node : ℕ) (d : ℤ) → IsLastArc g one dist arc node d
      → IsLastArc g other dist arc node d
  last_alike dist arc node d is = record {
    within = is.within;
    ends = is.ends;
    source = is.source;
    source_is = is.source_is;
    adds_up = is.adds_up ∙ ap (λ x. is.source +ℤ x) (same arc is.within);
  }

  paths_alike : (start : ℕ) (dist : ℕ → Option ℤ) (via : ℕ → Option ℕ)
      → IsPaths g one start dist via → IsPaths g other start dist via
  paths_alike start dist via is = record {
    at_start = is.at_start;
    no_further = λ arc within.
        subst (IsNoFurther (dist (g.from arc)) (dist (g.to arc))) (same arc within)
        (is.no_further arc within);
    last = λ node d below off here.
        (let last = is.last node d below off here in
        (last.0, last.1, last_alike dist last.0 node d last.2));
    others = is.others;
    back = is.back;
  }

  along_alike : (arcs : List ℕ) → ((k : ℕ) → k < length arcs → at 0 arcs k < g.arcs)
      → along one arcs ≡ along other arcs
  along_alike [] inside = refl
  along_alike (arc ∷ arcs) inside =
      let here = same arc (inside 0 (omega arith)) in
      let rest = along_alike arcs (λ k below. inside (suc k) (omega (arith, below))) in
      λ i. here i +ℤ rest i

-- the last arc on the way to a node is an arc
pub via_below : (g : Numbered) (len : ℕ → ℤ) (start : ℕ) (dist : ℕ → Option ℤ)
    (via : ℕ → Option ℕ) → IsPaths g len start dist via → (node : ℕ) → node < g.nodes
    → IsBelow g.arcs (via node)
via_below g len start dist via is node below = by (cases_eq node start) (dist node) refl
  where
    lone : via node ≡ None → IsBelow g.arcs (via node)
    lone none = subst (IsBelow g.arcs) (sym none) tt

    by : (node ≡ start) ⊎ (node ≢ start) → (d : Option ℤ) → dist node ≡ d
        → IsBelow g.arcs (via node)
    by (inl here) d far = lone (is.others node below (inl here))
    by (inr off) None far = lone (is.others node below (inr far))
    by (inr off) (Some d) far =
        let last = is.last node d below off far in
        subst (IsBelow g.arcs) (sym last.1) last.2.within

-- ---- lines

-- the line of one node more
pub line_more : (world : World) (view : Name) (dist : ℕ → Option ℤ) (via : ℕ → Option ℕ)
    (node : ℕ) (line : PathLine) (lines more : List PathLine)
    → lines ≡ map (path_line world view dist via) (range_with_len 0 node)
    → more ≡ lines ++ line ∷ [] → line ≡ path_line world view dist via node
    → more ≡ map (path_line world view dist via) (range_with_len 0 (node + 1))
line_more world view dist via node line lines more are is one =
    is ∙ (λ i. are i ++ one i ∷ [])
    ∙ sym (map-range_with_len_more (path_line world view dist via) 0 node node (omega arith))

-- ---- what the query reads

module _ (world : World) (view length_map start : Name) (asked : AskedView)
    (asks : Asks world asked) (view_is : asked.view.now ≡ view) where
  pub lengths_read : (ints : List ℤ) → ints ≡ arc_values world asked.view.now length_map
      → ints ≡ arc_values world view length_map
  lengths_read ints are = are ∙ ap (λ v. arc_values world v length_map) view_is

  module _ (node number : ℕ) (named : node_named world view start ≡ Some node)
      (is : number ≡ place_of asked.fixed.nodes node) where
    pub place_is : number ≡ place_of (shown_by world view).nodes node
    place_is =
        is ∙ (λ i. place_of (asks.numbers.nodes i) node)
        ∙ ap (λ v. place_of (shown_by world v).nodes node) view_is

    pub start_read : number ≡ number_of world view start
    start_read = place_is ∙ number_is world view start node named

    pub start_inside : number < (graph world view).nodes
    start_inside =
        subst (λ n. n < (graph world view).nodes) (sym place_is)
        (number_below world view start node named)

-- ---- what the query finds

module _ (world : World) (view length_map start : Name) (paths : AskedPaths)
    (asks : AsksPaths world view length_map start paths) where
  -- the digraph and the lengths of the query
  pub graph_is : graph_of paths.asked.fixed ≡ graph world view
  graph_is = asks.asks.numbers.graph ∙ ap (graph world) asks.view_is

  pub lengths_all : length paths.lengths.items ≡ (graph world view).arcs
  lengths_all = ap length asks.lengths ∙ length-map _ _

  -- what the calls ask for
  pub own_lengths : paths.lengths.items ≡ arc_values world paths.asked.view.now length_map
  own_lengths = asks.lengths ∙ ap (λ v. arc_values world v length_map) (sym asks.view_is)

  pub own_arcs : length paths.lengths.items ≡ (graph world paths.asked.view.now).arcs
  own_arcs = lengths_all ∙ ap (λ v. (graph world v).arcs) (sym asks.view_is)

  pub fixed_arcs : length paths.lengths.items ≡ (graph_of paths.asked.fixed).arcs
  fixed_arcs = lengths_all ∙ ap (λ (g : Numbered). g.arcs) (sym graph_is)

  pub start_below : paths.start < (graph_of paths.asked.fixed).nodes
  start_below = subst (λ (g : Numbered). paths.start < g.nodes) (sym graph_is) asks.inside

  pub lengths_high : All (λ x. x ≤ℤ pos (2 ^ 36)) paths.lengths.items
  lengths_high k d below = (asks.small k d below).1

  pub lengths_low : All (λ x. negsuc 68719476735 ≤ℤ x) paths.lengths.items
  lengths_low k d below = (asks.small k d below).0

  abbrev pub len : ℕ → ℤ
  len = at (pos 0) paths.lengths.items

  alike : (k : ℕ) → k < (graph world view).arcs → len k ≡ on_arcs world view length_map k
  alike k below =
      ap (λ xs. at (pos 0) xs k) asks.lengths ∙ value_on world view length_map k below

  module _ (dists : List (Option ℤ)) (vias : List (Option ℕ))
      (answer : IsAnswer (graph_of paths.asked.fixed) paths.lengths.items paths.start dists vias)
    where
      own_paths : IsPaths (graph world view) len (number_of world view start) (at None dists)
          (at None vias)
      own_paths =
          subst (λ g. IsPaths g len (number_of world view start) (at None dists) (at None vias))
          graph_is
          (subst (λ s. IsPaths (graph_of paths.asked.fixed) len s (at None dists) (at None vias))
          asks.start_is answer.paths)

      -- what the lines of the nodes ask for
      pub dists_all : length dists ≡ (graph world paths.asked.view.now).nodes
      dists_all = answer.dists_all ∙ ap (λ (g : Numbered). g.nodes) asks.asks.numbers.graph

      pub vias_all : length vias ≡ (graph world paths.asked.view.now).nodes
      vias_all = answer.vias_all ∙ ap (λ (g : Numbered). g.nodes) asks.asks.numbers.graph

      pub vias_below : (k : ℕ) → k < length vias
          → IsBelow (graph world paths.asked.view.now).arcs (at None vias k)
      vias_below k below =
          subst (λ v. IsBelow (graph world v).arcs (at None vias k)) (sym asks.view_is)
          (via_below (graph world view) len (number_of world view start) (at None dists)
          (at None vias) own_paths k
          (subst (λ n. k < n) (vias_all ∙ ap (λ v. (graph world v).nodes) asks.view_is) below))

      pub finds_paths : (lines : List PathLine)
          → lines ≡ map (path_line world paths.asked.view.now (at None dists) (at None vias))
          (node_numbers world paths.asked.view.now)
          → FindsPaths world view length_map start (replies.Paths lines)
      finds_paths lines are = record {
        dist = at None dists;
        via = at None vias;
        certificate = paths_alike (graph world view) len (on_arcs world view length_map) alike
            (number_of world view start) (at None dists) (at None vias) own_paths;
        reply_is = ap replies.Paths (are
            ∙ (λ i. map (path_line world (asks.view_is i) (at None dists) (at None vias))
            (node_numbers world (asks.view_is i))));
      }

  module _ (cycle : List ℕ)
      (negative : IsNegativeCycle (graph_of paths.asked.fixed) len paths.start cycle) where
    own_cycle : IsNegativeCycle (graph world view) len (number_of world view start) cycle
    own_cycle =
        subst (λ g. IsNegativeCycle g len (number_of world view start) cycle) graph_is
        (subst (λ s. IsNegativeCycle (graph_of paths.asked.fixed) len s cycle) asks.start_is
        negative)

    pub shown_cycle : IsCycle (graph world paths.asked.view.now) cycle
    shown_cycle =
        subst (λ g. IsCycle g cycle) asks.asks.numbers.graph negative.is_cycle

    sum_alike : along len cycle ≡ along (on_arcs world view length_map) cycle
    sum_alike =
        along_alike (graph world view) len (on_arcs world view length_map) alike cycle
        (cycle_members (graph world view) cycle own_cycle.is_cycle)

    pub finds_cycle : (reply : Reply)
        → reply ≡ replies.Cycle (cycle_lines world paths.asked.view.now cycle) (along len cycle)
        → FindsNegativeCycle world view length_map start reply
    finds_cycle reply is = record {
      cycle = cycle;
      certificate = record {
        is_cycle = own_cycle.is_cycle;
        negative = subst (λ x. x <ℤ pos 0) sum_alike own_cycle.negative;
        walk = own_cycle.walk;
        reached = own_cycle.reached;
      };
      reply_is = is
          ∙ (λ i. replies.Cycle (cycle_lines world (asks.view_is i) cycle) (sum_alike i));
    }

-- ---- answers

module _ (world : World) (view length_map start : Name) where
  abbrev own : List demands.Demand
  own = path_demands view length_map start

  abbrev lowest : demands.Demand
  lowest = demands.ArcsAtLeast view 0 length_map

  module _ (met : fault_of world own ≡ None) where
    -- no length is below 0
    pub dijkstra_told : breach world lowest ≡ None → (reply : Reply)
        → FindsPaths world view length_map start reply
        → Answers world (commands.Dijkstra view length_map start) world (Ok reply)
    dijkstra_told low reply finds =
        let rest : fault_of world (lowest ∷ []) ≡ None = ap (λ o. option_or o None) low in
        (λ i. option_or (both_lists_met world own (lowest ∷ []) met rest i) None, (finds, refl))

    pub too_low : (fault : StepFault) → Is (breach world lowest) fault
        → RefusedBy world (commands.Dijkstra view length_map start) world fault
    too_low fault is =
        refused world (commands.Dijkstra view length_map start) fault
        (second_not_met world own (lowest ∷ []) fault met (not_met world lowest [] fault is))

    pub paths_told : (reply : Reply) → FindsPaths world view length_map start reply
        → Answers world (commands.Bellman view length_map start) world (Ok reply)
    paths_told reply finds = (λ i. option_or (met i) None, inl (finds, refl))

    pub cycle_found : (reply : Reply) → FindsNegativeCycle world view length_map start reply
        → Answers world (commands.Bellman view length_map start) world (Ok reply)
    cycle_found reply finds = (λ i. option_or (met i) None, inr (finds, refl))

  pub dijkstra_refused : (fault : StepFault) → Is (fault_of world own) fault
      → RefusedBy world (commands.Dijkstra view length_map start) world fault
  dijkstra_refused fault is =
      refused world (commands.Dijkstra view length_map start) fault
      (first_not_met world own (lowest ∷ []) fault is)

  pub bellman_refused : (fault : StepFault) → Is (fault_of world own) fault
      → RefusedBy world (commands.Bellman view length_map start) world fault
  bellman_refused fault is = refused world (commands.Bellman view length_map start) fault is
