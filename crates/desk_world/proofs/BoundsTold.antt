-- What a query of flows within bounds reads and tells.
use Rattle.std.proofs.Common.{◌≡◌, ℕ, ◌<◌, ℤ, pos, false, List, refl, ap, subst}
use Rattle.std.proofs.Common.{◌∙◌, Option, None, Some, inl, inr}
use Rattle.std.specs.Prelude.{option_map}
use Rattle.std.specs.Option.{option_map_or, option_or}
use Rattle.script_words.specs.declared.commands.Command.TheVariants as commands
use Rattle.report_text.specs.declared.replies.FlowLine.{FlowLine}
use Rattle.report_text.specs.declared.replies.Reply.{Reply}
use Rattle.report_text.specs.declared.replies.Reply.TheVariants as replies
use Rattle.plain_certificates.specs.Feasible.{Bounds, IsFeasible, IsBarrier}
use Rattle.plain_certificates.specs.Numbered.{Numbered}
use Rattle.plain_certificates.specs.Numbering.{arc_at}
use Rattle.plain_certificates.specs.Tables.{at}
use Rattle.plain_world.specs.declared.answers.Answer.TheVariants.{Answered}
use Rattle.plain_world.specs.Demands.{flow_demands}
use Rattle.plain_world.specs.Queries.{FindsFlow, FindsBarrier, graph, on_arcs, at_nodes, bounds_of}
use Rattle.plain_world.specs.Queries.{flow_lines, names_in, with_flow}
use Rattle.plain_world.specs.Refusals.{lower_bound}
use Rattle.plain_world.specs.Steps.{Step}
use Rattle.plain_world.specs.Tables.{Name}
use Rattle.plain_world.specs.Views.{shown_by, node_value}
use Rattle.plain_world.specs.World.{World}
use Rattle.static_digraph.specs.declared.answers.Barrier.{Barrier}
use Rattle.static_digraph.specs.Fixed.{graph_of}
use Rattle.task_bounds.specs.Answers.{ShowsNoFlow}
use Rattle.task_bounds.specs.Given.{bounds_given, given, upper_given}
use Rattle.flow_replies.proofs.SameCuts.{BoundsAgree, feasible_alike, barrier_alike}
use Rattle.tower_numbers.proofs.Firsts.{at_mapped}
use Rattle.desk_world.specs.AskedBounds.{AsksBounds, given_on_arcs, given_at_nodes}
use Rattle.desk_world.specs.declared.asked_bounds.AskedBounds.{AskedBounds}
use Rattle.desk_world.proofs.AskedInts.{value_on}
use Rattle.desk_world.proofs.Demanded.{fault_of}

-- ---- bounds by maps that may be given

module _ (world : World) (view : Name) where
  lowers_agree : (low : Option Name) (arc : ℕ) → arc < (graph world view).arcs
      → given (given_on_arcs world view low) arc
      ≡ lower_bound world view low (arc_at (shown_by world view) arc).id
  lowers_agree None arc below = refl
  lowers_agree (Some map) arc below = value_on world view map arc below

  uppers_agree : (up : Option Name) (arc : ℕ) → arc < (graph world view).arcs
      → upper_given (given_on_arcs world view up) arc
      ≡ option_map (λ map. on_arcs world view map arc) up
  uppers_agree None arc below = refl
  uppers_agree (Some map) arc below = ap Some (value_on world view map arc below)

  supplies_agree : (supply : Option Name) (node : ℕ) → node < (graph world view).nodes
      → given (given_at_nodes world view supply) node
      ≡ option_map_or (λ map. at_nodes world view map node) supply (pos 0)
  supplies_agree None node below = refl
  supplies_agree (Some map) node below =
      at_mapped 0 (node_value world view map) (shown_by world view).nodes node below

  -- the bounds of the maps, in lists
  abbrev pub bounds_in : (low up supply : Option Name) → Bounds
  bounds_in low up supply =
      bounds_given (given_on_arcs world view low) (given_on_arcs world view up)
      (given_at_nodes world view supply)

  pub bounds_agree : (low up supply : Option Name)
      → BoundsAgree (graph world view) (bounds_in low up supply)
      (bounds_of world view low up supply)
  bounds_agree low up supply = record {
    lower = lowers_agree low;
    upper = uppers_agree up;
    supply = supplies_agree supply;
  }

-- ---- what the query reads

module _ (world : World) (view : Name) (low up cost supply : Option Name) (read : AskedBounds)
    (asks : AsksBounds world view low up cost supply read) where
  abbrev pub shown_view : Name
  shown_view = read.asked.view.now

  pub graph_is : graph_of read.asked.fixed ≡ graph world view
  graph_is = asks.asks.numbers.graph ∙ ap (graph world) asks.view_is

  -- the flow that is written is that of the view by the name that was read
  pub same_written : (into : Option Name) (flow : ℕ → ℤ) (later : World)
      → later ≡ with_flow world shown_view into flow → later ≡ with_flow world view into flow
  same_written into flow later wrote =
      wrote ∙ ap (λ v. with_flow world v into flow) asks.view_is

  -- with the lists of the query, as a call takes them
  module _ (lower upper supplies : Option (List ℤ))
      (lower_is : lower ≡ given_on_arcs world view low)
      (upper_is : upper ≡ given_on_arcs world view up)
      (supply_is : supplies ≡ given_at_nodes world view supply) where
    same_bounds : bounds_given lower upper supplies ≡ bounds_in world view low up supply
    same_bounds = λ i. bounds_given (lower_is i) (upper_is i) (supply_is i)

    -- what holds of the digraph and the bounds of the call holds of those of the view
    pub of_view : (P : Numbered → Bounds → Type 0)
        → P (graph_of read.asked.fixed) (bounds_given lower upper supplies)
        → P (graph world view) (bounds_in world view low up supply)
    of_view P is =
        subst (λ g. P g (bounds_in world view low up supply)) graph_is
        (subst (P (graph_of read.asked.fixed)) same_bounds is)

    pub finds_flow : (flow : List ℤ)
        → IsFeasible (graph_of read.asked.fixed) (bounds_given lower upper supplies)
        (at (pos 0) flow)
        → (lines : List FlowLine) → lines ≡ flow_lines world shown_view (at (pos 0) flow)
        → FindsFlow world view (bounds_of world view low up supply) (at (pos 0) flow)
        (replies.Circulation lines)
    finds_flow flow is lines lined = record {
      certificate = feasible_alike (graph world view) (bounds_in world view low up supply)
          (bounds_of world view low up supply) (bounds_agree world view low up supply)
          (at (pos 0) flow) (of_view (λ g bounds. IsFeasible g bounds (at (pos 0) flow)) is);
      reply_is = λ i. replies.Circulation
          ((lined ∙ ap (λ v. flow_lines world v (at (pos 0) flow)) asks.view_is) i);
    }

    pub finds_barrier : (barrier : Barrier)
        → ShowsNoFlow (graph_of read.asked.fixed) (bounds_given lower upper supplies) barrier
        → (reply : Reply)
        → reply ≡ replies.Barrier (names_in world shown_view (at false barrier.nodes)) barrier.over
        barrier.supply barrier.limit
        → FindsBarrier world view (bounds_of world view low up supply) reply
    finds_barrier barrier shows reply is = record {
      over = barrier.over;
      set = at false barrier.nodes;
      supply = barrier.supply;
      limit = barrier.limit;
      certificate = barrier_alike (graph world view) (bounds_in world view low up supply)
          (bounds_of world view low up supply) (bounds_agree world view low up supply) barrier.over
          (at false barrier.nodes) barrier.supply barrier.limit
          (of_view (λ g bounds. IsBarrier g bounds barrier.over (at false barrier.nodes)
          barrier.supply barrier.limit) shows.1);
      reply_is = is ∙ ap (λ v. replies.Barrier (names_in world v (at false barrier.nodes))
          barrier.over barrier.supply barrier.limit) asks.view_is;
    }

-- ---- answers of the command without costs

module _ (world : World) (view : Name) (low up supply into : Option Name)
    (all_met : fault_of world (flow_demands view low up None supply into) ≡ None) where
  pub flow_found : (flow : ℕ → ℤ) (reply : Reply)
      → FindsFlow world view (bounds_of world view low up supply) flow reply → (later : World)
      → later ≡ with_flow world view into flow
      → Step world (commands.Circulate view low up supply into) (Answered reply) later
  flow_found flow reply finds later wrote =
      (ap (λ o. option_or o None) all_met, inl (flow, finds, wrote))

  pub barrier_found : (reply : Reply)
      → FindsBarrier world view (bounds_of world view low up supply) reply
      → Step world (commands.Circulate view low up supply into) (Answered reply) world
  barrier_found reply finds = (ap (λ o. option_or o None) all_met, inr (finds, refl))
