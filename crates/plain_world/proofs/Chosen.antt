-- What is chosen tells the answer.
use Rattle.std.proofs.Common.{◌≡◌, ℕ, ℤ, Bool, not, refl, sym, ◌∙◌, ap}
use Rattle.std.proofs.Common.{map, length, Option, Some, None, inl, inr}
use Rattle.std.specs.Prelude.{pos, position, option_map}
use Rattle.std.specs.Option.{option_map_or}
use Rattle.std.proofs.lemmas.List.Quantifiers.{position-Some}
use Rattle.base_items.specs.declared.items.ItemSort.TheVariants.{Arc}
use Rattle.script_words.specs.declared.commands.Command.TheVariants as commands
use Rattle.report_text.specs.declared.replies.Reply.{Reply}
use Rattle.report_text.specs.declared.replies.Reply.TheVariants as replies
use Rattle.report_text.specs.declared.replies.PathLine.TheVariants as paths
use Rattle.report_text.specs.declared.replies.FlowLine.{FlowLine}
use Rattle.report_text.specs.declared.replies.PotentialLine.{PotentialLine}
use Rattle.report_text.specs.declared.replies.MeanLine.{MeanLine}
use Rattle.plain_views.specs.Shown.{ShownArc}
use Rattle.plain_views.specs.Marks.{arc_origin}
use Rattle.plain_certificates.specs.Numbered.{EndsAreNodes}
use Rattle.plain_certificates.specs.Feasible.{Bounds}
use Rattle.plain_world.specs.Tables.{Name}
use Rattle.plain_world.specs.World.{World, Ints, live}
use Rattle.plain_world.specs.Values.{column_of}
use Rattle.plain_world.specs.Views.{tower_of, arcs_of}
use Rattle.plain_world.specs.Effects.{with_map_changed}
use Rattle.plain_world.specs.Queries.{graph, name_of_node, name_of_arc, names_in, node_numbers}
use Rattle.plain_world.specs.Queries.{path_line, flow_lines, potential_lines}
use Rattle.plain_world.specs.Queries.{mean_lines, pair_line, pair_lines, cycle_lines, is_zero}
use Rattle.plain_world.specs.Queries.{FindsPaths, FindsNegativeCycle, FindsCut, FindsFlow}
use Rattle.plain_world.specs.Queries.{FindsBarrier, FindsOptimum, FindsFreeCycle, FindsPairing}
use Rattle.plain_world.specs.Queries.{FindsHeaviest, FindsAssignment, FindsShort, FindsMean}
use Rattle.plain_world.specs.Queries.{FindsOrder, comes_from, flow_on_base, with_flow, bounds_of}
use Rattle.plain_world.specs.Queries.{on_left, number_of, on_arcs, times}
use Rattle.plain_world.specs.Queries.{FindsCheapest}
use Rattle.plain_world.specs.Valid.{IsWorld}
use Rattle.plain_certificates.specs.Walks.{along}
use Rattle.plain_world.specs.Choices.{Same, Agree, cheapest_choice, as_cheapest}
use Rattle.plain_world.specs.Choices.{ChoicesTellAnswers}
use Rattle.plain_world.proofs.Numbers.{picked_alike, made_alike, chosen_sum, net_alike, cost_alike}
use Rattle.plain_world.proofs.Numbers.{barrier_alike, ends_ok}

module _ (world : World) (view : Name) where
  abbrev nodes : ℕ
  nodes = (graph world view).nodes

  abbrev arcs : ℕ
  arcs = (graph world view).arcs

  -- ---- lines

  names_alike : (set other : ℕ → Bool) → Same nodes set other
      → names_in world view set ≡ names_in world view other
  names_alike set other same =
      picked_alike set other (name_of_node world view) (name_of_node world view) nodes same
      (λ k below. refl)

  flows_alike : (flow other : ℕ → ℤ) → Same arcs flow other
      → flow_lines world view flow ≡ flow_lines world view other
  flows_alike flow other same =
      let line : ℤ → ℕ → FlowLine = λ x arc.
      record { arc = name_of_arc world view arc; flow = x } in
      picked_alike (λ arc. not (is_zero (flow arc))) (λ arc. not (is_zero (other arc)))
      (λ arc. line (flow arc) arc) (λ arc. line (other arc) arc) arcs
      (λ k below. ap (λ x. not (is_zero x)) (same k below))
      (λ k below. ap (λ x. line x k) (same k below))

  potentials_alike : (pi other : ℕ → ℤ) → Same nodes pi other
      → potential_lines world view pi ≡ potential_lines world view other
  potentials_alike pi other same =
      let line : ℤ → ℕ → PotentialLine = λ x node.
      record { node = name_of_node world view node; pi = x } in
      made_alike (λ node. line (pi node) node) (λ node. line (other node) node) nodes
      (λ k below. ap (λ x. line x k) (same k below))

  means_alike : (pi other : ℕ → ℤ) → Same nodes pi other
      → mean_lines world view pi ≡ mean_lines world view other
  means_alike pi other same =
      let line : ℤ → ℕ → MeanLine = λ x node.
      record { node = name_of_node world view node; pi = x } in
      made_alike (λ node. line (pi node) node) (λ node. line (other node) node) nodes
      (λ k below. ap (λ x. line x k) (same k below))

  pairs_alike : (left chosen other : ℕ → Bool) → Same arcs chosen other
      → pair_lines world view left chosen ≡ pair_lines world view left other
  pairs_alike left chosen other same =
      picked_alike chosen other (pair_line world view left) (pair_line world view left) arcs same
      (λ k below. refl)

  paths_alike : (dist dist_b : ℕ → Option ℤ) (via via_b : ℕ → Option ℕ) → Same nodes dist dist_b
      → Same nodes via via_b → map (path_line world view dist via) (node_numbers world view)
      ≡ map (path_line world view dist_b via_b) (node_numbers world view)
  paths_alike dist dist_b via via_b dists vias =
      made_alike (path_line world view dist via) (path_line world view dist_b via_b) nodes
      (λ k below. let d = dists k below in let v = vias k below in λ i.
      option_map_or (λ x. paths.Reached (name_of_node world view k) x
      (option_map (name_of_arc world view) (v i))) (d i)
      (paths.Unreached (name_of_node world view k)))

  -- ---- worlds

  pub written_alike : (into : Option Name) (flow other : ℕ → ℤ) → Same arcs flow other
      → with_flow world view into flow ≡ with_flow world view into other
  written_alike None flow other same = refl
  written_alike (Some map) flow other same =
      ap (λ value. with_map_changed world Arc map (λ held. Ints (column_of (live world Arc) value)))
      (λ i arc. on_base arc i)
    where
      on_base : (arc : ℕ) → flow_on_base world view flow arc ≡ flow_on_base world view other arc
      on_base arc =
          let test : ShownArc → Bool = λ shown.
          comes_from world view arc (arc_origin (tower_of world view) shown.id) in
          by_place (position test (arcs_of world view)) refl
        where
          by_place : (o : Option ℕ) → position (λ (shown : ShownArc).
              comes_from world view arc (arc_origin (tower_of world view) shown.id))
              (arcs_of world view) ≡ o
              → option_map_or flow o (pos 0) ≡ option_map_or other o (pos 0)
          by_place None is = refl
          by_place (Some k) is =
              same k (position-Some (λ (shown : ShownArc).
              comes_from world view arc (arc_origin (tower_of world view) shown.id))
              (arcs_of world view) k (record { id = 0; from = 0; to = 0 }) is).0

  -- ---- answers

  paths_tell : (length start : Name) (reply other : Reply)
      (a : FindsPaths world view length start reply)
      (b : FindsPaths world view length start other) → Same nodes a.dist b.dist
      → Same nodes a.via b.via → reply ≡ other
  paths_tell length start reply other a b dists vias =
      a.reply_is ∙ (ap replies.Paths (paths_alike a.dist b.dist a.via b.via dists vias)
      ∙ sym b.reply_is)

  cycle_tells : (length start : Name) (reply other : Reply)
      (a : FindsNegativeCycle world view length start reply)
      (b : FindsNegativeCycle world view length start other) → a.cycle ≡ b.cycle → reply ≡ other
  cycle_tells length start reply other a b same =
      a.reply_is
      ∙ (ap (λ cycle. replies.Cycle (cycle_lines world view cycle)
      (along (on_arcs world view length) cycle)) same ∙ sym b.reply_is)

  cut_tells : (cap s t : Name) (flow flow_b : ℕ → ℤ) (reply other : Reply)
      (a : FindsCut world view cap s t flow reply) (b : FindsCut world view cap s t flow_b other)
      → Same arcs flow flow_b → Same nodes a.side b.side → reply ≡ other
  cut_tells cap s t flow flow_b reply other a b flows sides =
      let lines = flows_alike flow flow_b flows in
      let set = names_alike a.side b.side sides in
      let value : a.value ≡ b.value =
      a.certificate.value_is
      ∙ (net_alike (graph world view) flow flow_b (number_of world view s) flows
      ∙ sym b.certificate.value_is) in
      a.reply_is ∙ ((λ i. replies.MaxFlow (lines i) (set i) (value i)) ∙ sym b.reply_is)

  flow_tells : (bounds : Bounds) (flow flow_b : ℕ → ℤ) (reply other : Reply)
      → FindsFlow world view bounds flow reply → FindsFlow world view bounds flow_b other
      → Same arcs flow flow_b → reply ≡ other
  flow_tells bounds flow flow_b reply other a b flows =
      a.reply_is ∙ (ap replies.Circulation (flows_alike flow flow_b flows) ∙ sym b.reply_is)

  barrier_tells : (bounds : Bounds) (reply other : Reply)
      (a : FindsBarrier world view bounds reply) (b : FindsBarrier world view bounds other)
      → EndsAreNodes (graph world view) → a.over ≡ b.over → Same nodes a.set b.set
      → reply ≡ other
  barrier_tells bounds reply other a b ends over sets =
      let set = names_alike a.set b.set sets in
      let numbers = barrier_alike (graph world view) ends a.set b.set sets bounds a.over b.over
      a.supply a.limit b.supply b.limit over a.certificate b.certificate in
      a.reply_is
      ∙ ((λ i. replies.Barrier (set i) (over i) (numbers.0 i) (numbers.1 i)) ∙ sym b.reply_is)

  optimum_tells : (bounds : Bounds) (cost : Name) (flow flow_b : ℕ → ℤ) (reply other : Reply)
      (a : FindsOptimum world view bounds cost flow reply)
      (b : FindsOptimum world view bounds cost flow_b other)
      → Same arcs flow flow_b → Same nodes a.pi b.pi → reply ≡ other
  optimum_tells bounds cost flow flow_b reply other a b flows pis =
      let lines = flows_alike flow flow_b flows in
      let pi = potentials_alike a.pi b.pi pis in
      let total : a.total ≡ b.total =
      a.certificate.total_is
      ∙ (cost_alike (graph world view) (on_arcs world view cost) flow flow_b flows
      ∙ sym b.certificate.total_is) in
      a.reply_is ∙ ((λ i. replies.Cheapest (lines i) (pi i) (total i)) ∙ sym b.reply_is)

  free_tells : (bounds : Bounds) (cost : Name) (flow flow_b : ℕ → ℤ) (reply other : Reply)
      (a : FindsFreeCycle world view bounds cost flow reply)
      (b : FindsFreeCycle world view bounds cost flow_b other)
      → Same arcs flow flow_b → a.cycle ≡ b.cycle → reply ≡ other
  free_tells bounds cost flow flow_b reply other a b flows cycle =
      let lines = flows_alike flow flow_b flows in
      let total : a.total ≡ b.total =
      a.certificate.total_is
      ∙ (ap (along (on_arcs world view cost)) cycle ∙ sym b.certificate.total_is) in
      a.reply_is
      ∙ ((λ i. replies.FreeCycle (lines i) (cycle_lines world view (cycle i)) (total i))
      ∙ sym b.reply_is)

  pairing_tells : (left : Name) (reply other : Reply) (a : FindsPairing world view left reply)
      (b : FindsPairing world view left other) → Same arcs a.chosen b.chosen
      → Same nodes a.hall b.hall → reply ≡ other
  pairing_tells left reply other a b pairs halls =
      let lines = pairs_alike (on_left world view left) a.chosen b.chosen pairs in
      let set = names_alike a.hall b.hall halls in
      a.reply_is ∙ ((λ i. replies.Match (lines i) (set i)) ∙ sym b.reply_is)

  heaviest_tells : (left weight : Name) (reply other : Reply)
      (a : FindsHeaviest world view left weight reply)
      (b : FindsHeaviest world view left weight other) → Same arcs a.chosen b.chosen
      → Same nodes a.dual b.dual → reply ≡ other
  heaviest_tells left weight reply other a b pairs duals =
      let lines = pairs_alike (on_left world view left) a.chosen b.chosen pairs in
      let dual = potentials_alike a.dual b.dual duals in
      let total : a.total ≡ b.total =
      a.certificate.total_is
      ∙ (chosen_sum arcs a.chosen b.chosen (on_arcs world view weight) pairs
      ∙ sym b.certificate.total_is) in
      a.reply_is ∙ ((λ i. replies.Heavy (lines i) (dual i) (total i)) ∙ sym b.reply_is)

  assignment_tells : (left cost : Name) (reply other : Reply)
      (a : FindsAssignment world view left cost reply)
      (b : FindsAssignment world view left cost other) → Same arcs a.chosen b.chosen
      → Same nodes a.dual b.dual → reply ≡ other
  assignment_tells left cost reply other a b pairs duals =
      let lines = pairs_alike (on_left world view left) a.chosen b.chosen pairs in
      let dual = potentials_alike a.dual b.dual duals in
      let total : a.total ≡ b.total =
      a.certificate.total_is
      ∙ (chosen_sum arcs a.chosen b.chosen (on_arcs world view cost) pairs
      ∙ sym b.certificate.total_is) in
      a.reply_is ∙ ((λ i. replies.Assigned (lines i) (dual i) (total i)) ∙ sym b.reply_is)

  short_tells : (left : Name) (reply other : Reply) (a : FindsShort world view left reply)
      (b : FindsShort world view left other) → Same nodes a.set b.set → reply ≡ other
  short_tells left reply other a b sets =
      a.reply_is ∙ (ap replies.Short (names_alike a.set b.set sets) ∙ sym b.reply_is)

  mean_tells : (length : Name) (time : Option Name) (reply other : Reply)
      (a : FindsMean world view length time reply) (b : FindsMean world view length time other)
      → a.cycle ≡ b.cycle → Same nodes a.pi b.pi → reply ≡ other
  mean_tells length time reply other a b cycle pis =
      let pi = means_alike a.pi b.pi pis in
      let total : a.total ≡ b.total =
      a.certificate.total_is
      ∙ (ap (along (on_arcs world view length)) cycle ∙ sym b.certificate.total_is) in
      let time_of : a.time_of ≡ b.time_of =
      a.certificate.times_is
      ∙ (ap (along (times world view time)) cycle ∙ sym b.certificate.times_is) in
      a.reply_is
      ∙ ((λ i. replies.Mean (cycle_lines world view (cycle i)) (pi i) (total i) (time_of i))
      ∙ sym b.reply_is)

  order_tells : (reply other : Reply) (a : FindsOrder world view reply)
      (b : FindsOrder world view other) → a.order ≡ b.order → reply ≡ other
  order_tells reply other a b order =
      a.reply_is
      ∙ (ap (λ nodes. replies.Acyclic (map (name_of_node world view) nodes)) order ∙ sym b.reply_is)

-- a cheapest flow, a barrier or a free cycle
cheapest_tells : (world : World) (view : Name) (bounds : Bounds) (cost : Name) (into : Option Name)
    (reply other : Reply) (later after : World) (ok : IsWorld world)
    (does : FindsCheapest world view bounds cost into reply later)
    (also : FindsCheapest world view bounds cost into other after)
    → Agree (graph world view).nodes (graph world view).arcs
    (cheapest_choice world view bounds cost into reply later does)
    (cheapest_choice world view bounds cost into other after also)
    → (reply ≡ other) × (later ≡ after)
cheapest_tells world view bounds cost into reply other later after ok (inl a) (inl b) agree = (
  optimum_tells world view bounds cost a.0 b.0 reply other a.1 b.1 agree.0 agree.1,
  a.2 ∙ (written_alike world view into a.0 b.0 agree.0 ∙ sym b.2),
)
cheapest_tells world view bounds cost into reply other later after ok (inr (inl a)) (inr (inl b))
    agree = (
      barrier_tells world view bounds reply other a.0 b.0 (ends_ok world view ok.graph_ok) agree.0
          agree.1,
      a.1 ∙ sym b.1,
    )
cheapest_tells world view bounds cost into reply other later after ok (inr (inr a)) (inr (inr b))
    agree = (
      free_tells world view bounds cost a.0 b.0 reply other a.1 b.1 agree.0 agree.1,
      a.2 ∙ (written_alike world view into a.0 b.0 agree.0 ∙ sym b.2),
    )
cheapest_tells world view bounds cost into reply other later after ok (inl a) (inr (inl b)) agree =
    absurd agree
cheapest_tells world view bounds cost into reply other later after ok (inl a) (inr (inr b)) agree =
    absurd agree
cheapest_tells world view bounds cost into reply other later after ok (inr (inl a)) (inl b) agree =
    absurd agree
cheapest_tells world view bounds cost into reply other later after ok (inr (inl a)) (inr (inr b))
    agree = absurd agree
cheapest_tells world view bounds cost into reply other later after ok (inr (inr a)) (inl b) agree =
    absurd agree
cheapest_tells world view bounds cost into reply other later after ok (inr (inr a)) (inr (inl b))
    agree = absurd agree

pub choices_tell : ChoicesTellAnswers
choices_tell world later after (commands.Dijkstra view length start) reply other a b ok agree =
    (paths_tell world view length start reply other a.0 b.0 agree.0 agree.1, a.1 ∙ sym b.1)
choices_tell world later after (commands.Bellman view length start) reply other (inl a) (inl b) ok
    agree = (paths_tell world view length start reply other a.0 b.0 agree.0 agree.1, a.1 ∙ sym b.1)
choices_tell world later after (commands.Bellman view length start) reply other (inr a) (inr b) ok
    agree = (cycle_tells world view length start reply other a.0 b.0 agree, a.1 ∙ sym b.1)
choices_tell world later after (commands.Bellman view length start) reply other (inl a) (inr b) ok
    agree = absurd agree
choices_tell world later after (commands.Bellman view length start) reply other (inr a) (inl b) ok
    agree = absurd agree
choices_tell world later after (commands.MaxFlow view cap s t into) reply other a b ok agree = (
  cut_tells world view cap s t a.0 b.0 reply other a.1 b.1 agree.0 agree.1,
  a.2 ∙ (written_alike world view into a.0 b.0 agree.0 ∙ sym b.2),
)
choices_tell world later after (commands.Circulate view low up supply into) reply other (inl a)
    (inl b) ok agree = (
      flow_tells world view (bounds_of world view low up supply) a.0 b.0 reply other a.1 b.1 agree,
      a.2 ∙ (written_alike world view into a.0 b.0 agree ∙ sym b.2),
    )
choices_tell world later after (commands.Circulate view low up supply into) reply other (inr a)
    (inr b) ok agree = (
      barrier_tells world view (bounds_of world view low up supply) reply other a.0 b.0
          (ends_ok world view ok.graph_ok) agree.0 agree.1,
      a.1 ∙ sym b.1,
    )
choices_tell world later after (commands.Circulate view low up supply into) reply other (inl a)
    (inr b) ok agree = absurd agree
choices_tell world later after (commands.Circulate view low up supply into) reply other (inr a)
    (inl b) ok agree = absurd agree
choices_tell world later after (commands.MinCost view low up cost supply into) reply other a b ok
    agree =
    cheapest_tells world view (bounds_of world view low up supply) cost into reply other later after
    ok a b agree
choices_tell world later after (commands.Simplex view low up cost supply into) reply other a b ok
    agree =
    let bounds = bounds_of world view low up supply in
    cheapest_tells world view bounds cost into reply other later after ok
    (as_cheapest world view bounds cost into reply later a)
    (as_cheapest world view bounds cost into other after b) agree
choices_tell world later after (commands.Match view left) reply other a b ok agree =
    (pairing_tells world view left reply other a.0 b.0 agree.0 agree.1, a.1 ∙ sym b.1)
choices_tell world later after (commands.Heaviest view left weight) reply other a b ok agree =
    (heaviest_tells world view left weight reply other a.0 b.0 agree.0 agree.1, a.1 ∙ sym b.1)
choices_tell world later after (commands.Assign view left cost) reply other (inl a) (inl b) ok
    agree =
    (assignment_tells world view left cost reply other a.0 b.0 agree.0 agree.1, a.1 ∙ sym b.1)
choices_tell world later after (commands.Assign view left cost) reply other (inr a) (inr b) ok
    agree = (short_tells world view left reply other a.0 b.0 agree, a.1 ∙ sym b.1)
choices_tell world later after (commands.Assign view left cost) reply other (inl a) (inr b) ok
    agree = absurd agree
choices_tell world later after (commands.Assign view left cost) reply other (inr a) (inl b) ok
    agree = absurd agree
choices_tell world later after (commands.MeanCycle view length time) reply other (inl a) (inl b) ok
    agree =
    (mean_tells world view length time reply other a.0 b.0 agree.0 agree.1, a.1 ∙ sym b.1)
choices_tell world later after (commands.MeanCycle view length time) reply other (inr a) (inr b) ok
    agree = (order_tells world view reply other a.0 b.0 agree, a.1 ∙ sym b.1)
choices_tell world later after (commands.MeanCycle view length time) reply other (inl a) (inr b) ok
    agree = absurd agree
choices_tell world later after (commands.MeanCycle view length time) reply other (inr a) (inl b) ok
    agree = absurd agree
choices_tell world later after command reply other a b ok agree = (a.0 ∙ sym b.0, a.1 ∙ sym b.1)
