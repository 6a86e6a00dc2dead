-- What a query of cheapest flows tells.
use Rattle.std.proofs.Common.{◌≡◌, ℕ, ◌<◌, ℤ, pos, List, refl, sym, ap}
use Rattle.std.proofs.Common.{◌∙◌, Option, None, Some, inl, inr, [], Vec, Global}
use Rattle.std.specs.Prelude.{Result, Ok, Err, IsErrAnd, option_map, unwrap_or}
use Rattle.std.specs.Option.{option_map_or, option_or}
use Rattle.std.proofs.lemmas.Option.{none-some}
use Rattle.script_words.specs.declared.commands.Command.TheVariants as commands
use Rattle.report_text.specs.declared.faults.StepFault.{StepFault}
use Rattle.report_text.specs.declared.faults.StepFault.TheVariants as faults
use Rattle.report_text.specs.declared.replies.ArcLine.{ArcLine}
use Rattle.report_text.specs.declared.replies.FlowLine.{FlowLine}
use Rattle.report_text.specs.declared.replies.PotentialLine.{PotentialLine}
use Rattle.report_text.specs.declared.replies.Reply.{Reply}
use Rattle.report_text.specs.declared.replies.Reply.TheVariants as replies
use Rattle.plain_certificates.specs.Cheapest.{IsOptimal, IsFreeCycle, IsBasic}
use Rattle.plain_certificates.specs.Tables.{at}
use Rattle.plain_world.specs.declared.answers.Answer.TheVariants.{Answered}
use Rattle.plain_world.specs.Demands.{flow_demands}
use Rattle.plain_world.specs.Queries.{FindsOptimum, FindsFreeCycle, FindsBarrier, graph}
use Rattle.plain_world.specs.Queries.{on_arcs, bounds_of, flow_lines, potential_lines, cycle_lines}
use Rattle.plain_world.specs.Queries.{with_flow}
use Rattle.plain_world.specs.Steps.{Step}
use Rattle.plain_world.specs.Tables.{Name}
use Rattle.plain_world.specs.World.{World}
use Rattle.static_digraph.specs.Fixed.{graph_of}
use Rattle.task_bounds.specs.Given.{bounds_given}
use Rattle.flow_replies.proofs.SameCosts.{optimal_alike, free_alike, basic_alike}
use Rattle.desk_world.specs.AskedBounds.{AsksBounds, given_on_arcs, given_at_nodes}
use Rattle.desk_world.specs.AskedViews.{arc_values}
use Rattle.desk_world.specs.Faults.{Answers}
use Rattle.desk_world.specs.declared.asked_bounds.AskedBounds.{AskedBounds}
use Rattle.desk_world.proofs.AskedInts.{value_on}
use Rattle.desk_world.proofs.BoundsTold.{bounds_in, bounds_agree, of_view}
use Rattle.desk_world.proofs.Demanded.{fault_of}
use Rattle.desk_world.proofs.Handed.{handed_on}

-- what the command for a basic flow answers, the one for any cheapest flow may answer too
pub also_cheapest : (world : World) (view cost : Name) (low up supply into : Option Name)
    (later : World) (result : Result Reply StepFault)
    → Answers world (commands.Simplex view low up cost supply into) later result
    → Answers world (commands.MinCost view low up cost supply into) later result
also_cheapest world view cost low up supply into later (Ok reply) (none, inl (flow, found, wrote)) =
    (none, inl (flow, found.0, wrote))
also_cheapest world view cost low up supply into later (Ok reply) (none, inr other) =
    (none, inr other)
also_cheapest world view cost low up supply into later (Err (faults.Refused f)) is = is
also_cheapest world view cost low up supply into later (Err faults.Memory) is = is

-- want of memory, which leaves the world as it was, is an answer to both of them
pub no_memory : (world : World) (view cost : Name) (low up supply into : Option Name)
    (later : World) (result : Result Reply StepFault)
    → IsErrAnd result (λ fault. fault ≡ faults.Memory) → later ≡ world
    → Answers world (commands.Simplex view low up cost supply into) later result
    × Answers world (commands.MinCost view low up cost supply into) later result
no_memory world view cost low up supply into later result none same = (
  handed_on (Answers world (commands.Simplex view low up cost supply into) later) result
      faults.Memory none same,
  handed_on (Answers world (commands.MinCost view low up cost supply into) later) result
      faults.Memory none same,
)

module _ (world : World) (view cost : Name) (low up supply : Option Name) (read : AskedBounds)
    (asks : AsksBounds world view low up (Some cost) supply read) where
  abbrev shown : Name
  shown = read.asked.view.now

  -- the costs, which the query has
  pub costs_read : (costs : Vec ℤ Global) → read.cost ≡ Some costs
      → costs.items ≡ arc_values world view cost
  costs_read costs is =
      ap (λ (o : Option (Vec ℤ Global)). option_map_or (λ list. list.items) o []) (sym is)
      ∙ values_of read.cost asks.cost_is
    where
      values_of : (o : Option (Vec ℤ Global))
          → option_map (λ list. list.items) o ≡ Some (arc_values world view cost)
          → option_map_or (λ list. list.items) o [] ≡ arc_values world view cost
      values_of None none = absurd (none-some (arc_values world view cost) none)
      values_of (Some list) some = ap (λ o. unwrap_or o []) some

  -- with the lists of the query, as a call takes them
  module _ (lower upper supplies : Option (List ℤ)) (costs : List ℤ)
      (lower_is : lower ≡ given_on_arcs world view low)
      (upper_is : upper ≡ given_on_arcs world view up)
      (supply_is : supplies ≡ given_at_nodes world view supply)
      (costs_are : costs ≡ arc_values world view cost) where
    costs_alike : (arc : ℕ) → arc < (graph world view).arcs
        → at (pos 0) costs arc ≡ on_arcs world view cost arc
    costs_alike arc below =
        ap (λ xs. at (pos 0) xs arc) costs_are ∙ value_on world view cost arc below

    pub finds_optimum : (flow pi : List ℤ) (total : ℤ)
        → IsOptimal (graph_of read.asked.fixed) (bounds_given lower upper supplies)
        (at (pos 0) costs) (at (pos 0) flow) (at (pos 0) pi) total
        → (lines : List FlowLine) (prices : List PotentialLine)
        → lines ≡ flow_lines world shown (at (pos 0) flow)
        → prices ≡ potential_lines world shown (at (pos 0) pi)
        → FindsOptimum world view (bounds_of world view low up supply) cost (at (pos 0) flow)
        (replies.Cheapest lines prices total)
    finds_optimum flow pi total is lines prices lined priced = record {
      pi = at (pos 0) pi;
      total = total;
      certificate = optimal_alike (graph world view) (bounds_in world view low up supply)
          (bounds_of world view low up supply) (bounds_agree world view low up supply)
          (at (pos 0) costs) (on_arcs world view cost) costs_alike (at (pos 0) flow)
          (at (pos 0) pi) total
          (of_view world view low up (Some cost) supply read asks lower upper supplies lower_is
          upper_is supply_is (λ g bounds. IsOptimal g bounds (at (pos 0) costs) (at (pos 0) flow)
          (at (pos 0) pi) total) is);
      reply_is = λ i. replies.Cheapest
          ((lined ∙ ap (λ v. flow_lines world v (at (pos 0) flow)) asks.view_is) i)
          ((priced ∙ ap (λ v. potential_lines world v (at (pos 0) pi)) asks.view_is) i) total;
    }

    pub is_basic : (flow : List ℤ)
        → IsBasic (graph_of read.asked.fixed) (bounds_given lower upper supplies)
        (at (pos 0) flow)
        → IsBasic (graph world view) (bounds_of world view low up supply) (at (pos 0) flow)
    is_basic flow is =
        basic_alike (graph world view) (bounds_in world view low up supply)
        (bounds_of world view low up supply) (bounds_agree world view low up supply)
        (at (pos 0) flow)
        (of_view world view low up (Some cost) supply read asks lower upper supplies lower_is
        upper_is supply_is (λ g bounds. IsBasic g bounds (at (pos 0) flow)) is)

    pub finds_free : (flow : List ℤ) (cycle : List ℕ) (total : ℤ)
        → IsFreeCycle (graph_of read.asked.fixed) (bounds_given lower upper supplies)
        (at (pos 0) costs) (at (pos 0) flow) cycle total
        → (lines : List FlowLine) (round : List ArcLine)
        → lines ≡ flow_lines world shown (at (pos 0) flow) → round ≡ cycle_lines world shown cycle
        → FindsFreeCycle world view (bounds_of world view low up supply) cost (at (pos 0) flow)
        (replies.FreeCycle lines round total)
    finds_free flow cycle total is lines round lined rounded = record {
      cycle = cycle;
      total = total;
      certificate = free_alike (graph world view) (bounds_in world view low up supply)
          (bounds_of world view low up supply) (bounds_agree world view low up supply)
          (at (pos 0) costs) (on_arcs world view cost) costs_alike (at (pos 0) flow) cycle total
          (of_view world view low up (Some cost) supply read asks lower upper supplies lower_is
          upper_is supply_is (λ g bounds. IsFreeCycle g bounds (at (pos 0) costs) (at (pos 0) flow)
          cycle total) is);
      reply_is = λ i. replies.FreeCycle
          ((lined ∙ ap (λ v. flow_lines world v (at (pos 0) flow)) asks.view_is) i)
          ((rounded ∙ ap (λ v. cycle_lines world v cycle) asks.view_is) i) total;
    }

-- ---- answers

module _ (world : World) (view cost : Name) (low up supply into : Option Name)
    (all_met : fault_of world (flow_demands view low up (Some cost) supply into) ≡ None) where
  pub basic_found : (flow : ℕ → ℤ) (reply : Reply)
      → FindsOptimum world view (bounds_of world view low up supply) cost flow reply
      → IsBasic (graph world view) (bounds_of world view low up supply) flow → (later : World)
      → later ≡ with_flow world view into flow
      → Step world (commands.Simplex view low up cost supply into) (Answered reply) later
  basic_found flow reply finds basic later wrote =
      (ap (λ o. option_or o None) all_met, inl (flow, (finds, basic), wrote))

  pub barrier_found : (reply : Reply)
      → FindsBarrier world view (bounds_of world view low up supply) reply
      → Step world (commands.Simplex view low up cost supply into) (Answered reply) world
  barrier_found reply finds = (ap (λ o. option_or o None) all_met, inr (inl (finds, refl)))

  pub free_found : (flow : ℕ → ℤ) (reply : Reply)
      → FindsFreeCycle world view (bounds_of world view low up supply) cost flow reply
      → (later : World) → later ≡ with_flow world view into flow
      → Step world (commands.Simplex view low up cost supply into) (Answered reply) later
  free_found flow reply finds later wrote =
      (ap (λ o. option_or o None) all_met, inr (inr (flow, finds, wrote)))
