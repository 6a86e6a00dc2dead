-- What a query of flows within bounds demands, in parts, and the order of its bounds.
use Rattle.std.proofs.Common.{◌≡◌, ℕ, ◌<◌, ℤ, pos, ◌≤ℤ◌, Bool, false, List, [], ◌∷◌, length}
use Rattle.std.proofs.Common.{refl, sym, ap, subst, ◌∙◌, Option, Some, None, arith}
use Rattle.std.specs.Prelude.{int_lt, find, option_map, Result, Ok, Err, IsErrAnd}
use Rattle.std.proofs.lemmas.List.{append_assoc, append-nil}
use Rattle.base_items.specs.declared.items.ItemSort.TheVariants.{Node, Arc}
use Rattle.script_words.specs.declared.commands.MapType.TheVariants.{Ints}
use Rattle.report_text.specs.declared.faults.Fault.TheVariants as faults
use Rattle.report_text.specs.declared.faults.StepFault.{StepFault}
use Rattle.plain_certificates.specs.Feasible.{IsAtMost}
use Rattle.plain_certificates.specs.Numbering.{arc_at}
use Rattle.plain_certificates.specs.Tables.{at}
use Rattle.plain_views.specs.Shown.{ShownArc}
use Rattle.plain_world.specs.Demands as demands
use Rattle.plain_world.specs.Demands.{Demand, given, flow_demands}
use Rattle.plain_world.specs.Queries.{graph, name_of_arc}
use Rattle.plain_world.specs.Refusals.{breach, is_crossed}
use Rattle.plain_world.specs.Tables.{Name}
use Rattle.plain_world.specs.Views.{shown_by, arcs_of, arc_name}
use Rattle.plain_world.specs.World.{World}
use Rattle.plain_world.proofs.TableChanges.{all_fail}
use Rattle.flow_replies.specs.Absent.{is_out_of_order, or_zero}
use Rattle.task_bounds.specs.Given as task
use Rattle.task_bounds.specs.Given.{AreOrdered, bounds_given, upper_given}
use Rattle.tower_numbers.proofs.Firsts.{first_found}
use Rattle.tower_numbers.proofs.Ranges.{none_under}
use Rattle.view_numbers.specs.Breaches.{IsFirst}
use Rattle.desk_world.specs.AskedBounds.{map_demands, given_on_arcs}
use Rattle.desk_world.specs.Faults.{Is, MeetsAll}
use Rattle.desk_world.proofs.AskedViews.{no_arc}
use Rattle.desk_world.proofs.AskedInts.{value_on}
use Rattle.desk_world.proofs.Demanded.{fault_of}
use Rattle.desk_world.proofs.DemandParts.{joined, fault_at, NoneUntil, stops, all_met}
use Rattle.desk_world.proofs.DemandParts.{part_met, met_next, WhenMet, when_met}
use Rattle.desk_world.proofs.Handed.{handed_on}
use Rattle.desk_world.proofs.Indexed.{nothing_mapped}

-- ---- demands in parts

module _ (view : Name) (low up cost supply into : Option Name) where
  -- those that come before the view is numbered
  abbrev pub map_parts : List (List Demand)
  map_parts = (demands.There demands.Views view ∷ []) ∷ given (demands.There (demands.Maps Arc)) low
      ∷ given (demands.There (demands.Maps Arc)) up
      ∷ given (demands.There (demands.Maps Arc)) cost
      ∷ given (demands.There (demands.Maps Node)) supply
      ∷ given (demands.There (demands.Maps Arc)) into
      ∷ given (demands.HasType Arc Ints) low ∷ given (demands.HasType Arc Ints) up
      ∷ given (demands.HasType Arc Ints) cost ∷ given (demands.HasType Node Ints) supply
      ∷ given (demands.TakesFlow view) into ∷ []

  maps_joined : map_demands view low up cost supply into ≡ joined map_parts
  maps_joined = simp (append_assoc, append-nil)

  -- all of them, those of the numbered view by the name that it has
  abbrev pub bound_parts : Name → List (List Demand)
  bound_parts own = map_demands view low up cost supply into ∷ (demands.IsSmall view ∷ [])
      ∷ given (demands.ArcsInRange own) low ∷ given (demands.ArcsInRange own) up
      ∷ given (demands.ArcsInRange own) cost ∷ given (demands.NodesInRange own) supply
      ∷ (demands.InOrder own low up ∷ []) ∷ []

  bounds_apart : flow_demands view low up cost supply into ≡ joined (bound_parts view)
  bounds_apart = simp (append_assoc, append-nil)

  bounds_joined : (own : Name) → own ≡ view
      → flow_demands view low up cost supply into ≡ joined (bound_parts own)
  bounds_joined own same = bounds_apart ∙ ap (λ v. joined (bound_parts v)) (sym same)

-- the first fault of the demands, by their parts
module _ (world : World) (view : Name) (low up cost supply into : Option Name) where
  abbrev maps : List (List Demand)
  maps = map_parts view low up cost supply into

  maps_met : NoneUntil world maps (length maps)
      → fault_of world (map_demands view low up cost supply into) ≡ None
  maps_met met =
      ap (fault_of world) (maps_joined view low up cost supply into) ∙ all_met world maps met

  map_stops : (k : ℕ) (fault : StepFault) → NoneUntil world maps k
      → Is (fault_at world maps k) fault
      → Is (fault_of world (map_demands view low up cost supply into)) fault
  map_stops k fault met is =
      subst (λ ds. Is (fault_of world ds) fault) (sym (maps_joined view low up cost supply into))
      (stops world maps k fault met is)

  pub map_none : (k : ℕ) → fault_of world (map_demands view low up cost supply into) ≡ None
      → fault_at world maps k ≡ None
  map_none k none =
      part_met world maps k
      (ap (fault_of world) (sym (maps_joined view low up cost supply into)) ∙ none)

  -- what is answered where a part isn't met
  pub maps_unmet : {X : Type 0} (result : Result X StepFault) (k : ℕ) (fault : StepFault)
      → IsErrAnd result (λ e. e ≡ fault) → WhenMet world maps k
      (Is (fault_at world maps k) fault
      → MeetsAll world (map_demands view low up cost supply into) result)
  maps_unmet result k fault handed =
      when_met world maps k (Is (fault_at world maps k) fault
      → MeetsAll world (map_demands view low up cost supply into) result)
      (λ met is. handed_on (MeetsAll world (map_demands view low up cost supply into)) result fault
      handed (map_stops k fault met is))

  map_ends : {X : Type 0} (result : Result X StepFault) → NoneUntil world maps 10
      → MeetsAll world (given (demands.TakesFlow view) into) result
      → MeetsAll world (map_demands view low up cost supply into) result
  map_ends (Ok x) met last = maps_met (met_next world maps 10 met last)
  map_ends (Err fault) met last = map_stops 10 fault met last

  -- the last of the maps decides, where all others are there
  pub last_map : {X : Type 0} (result : Result X StepFault) → WhenMet world maps 10
      (MeetsAll world (given (demands.TakesFlow view) into) result
      → MeetsAll world (map_demands view low up cost supply into) result)
  last_map result =
      when_met world maps 10 (MeetsAll world (given (demands.TakesFlow view) into) result
      → MeetsAll world (map_demands view low up cost supply into) result) (map_ends result)

  module _ (own : Name) (same : own ≡ view) where
    abbrev all : List (List Demand)
    all = bound_parts view low up cost supply into own

    pub bounds_met : WhenMet world all 7
        (fault_of world (flow_demands view low up cost supply into) ≡ None)
    bounds_met =
        when_met world all 7 (fault_of world (flow_demands view low up cost supply into) ≡ None)
        (λ met. ap (fault_of world) (bounds_joined view low up cost supply into own same)
        ∙ all_met world all met)

    pub bounds_unmet : {X : Type 0} (result : Result X StepFault) (k : ℕ) (fault : StepFault)
        → IsErrAnd result (λ e. e ≡ fault) → WhenMet world all k
        (Is (fault_at world all k) fault
        → MeetsAll world (flow_demands view low up cost supply into) result)
    bounds_unmet result k fault handed =
        when_met world all k (Is (fault_at world all k) fault
        → MeetsAll world (flow_demands view low up cost supply into) result)
        (λ met is. handed_on (MeetsAll world (flow_demands view low up cost supply into)) result
        fault handed (subst (λ ds. Is (fault_of world ds) fault)
        (sym (bounds_joined view low up cost supply into own same))
        (stops world all k fault met is)))

-- ---- the order of bounds

at_least : (x least : ℤ) → int_lt x least ≡ false → least ≤ℤ x
at_least x least is =
    none_under (x ∷ []) least
    (λ k below. (let first : k ≡ 0 = omega (arith, below) in
    ap (λ j. int_lt (at (pos 0) (x ∷ []) j) least) first ∙ is)) 0 (pos 0) (omega arith)

-- bounds that aren't out of order at an arc
kept_order : (lower upper : Option (List ℤ)) (k : ℕ) → is_out_of_order lower upper k ≡ false
    → IsAtMost (task.given lower k) (upper_given upper k)
kept_order lower None k is = tt
kept_order lower (Some upper) k is = at_least (at (pos 0) upper k) (or_zero lower k) is

module _ (world : World) (view : Name) where
  -- bounds cross at an arc of the view where those by number do
  crossed_alike : (low up : Option Name) (k : ℕ) → k < (graph world view).arcs
      → is_out_of_order (given_on_arcs world view low) (given_on_arcs world view up) k
      ≡ is_crossed world view low up (arc_at (shown_by world view) k).id
  crossed_alike low None k below = refl
  crossed_alike None (Some up) k below =
      ap (λ x. int_lt x (pos 0)) (value_on world view up k below)
  crossed_alike (Some low) (Some up) k below =
      λ i. int_lt (value_on world view up k below i) (value_on world view low k below i)

  module _ (low up : Option Name) where
    abbrev crosses : ℕ → Bool
    crosses = is_out_of_order (given_on_arcs world view low) (given_on_arcs world view up)

    crossing_found : (r : Option ℕ) → IsFirst (graph world view).arcs crosses r
        → find (λ (arc : ShownArc). is_crossed world view low up arc.id) (arcs_of world view)
        ≡ option_map (arc_at (shown_by world view)) r
    crossing_found r first =
        first_found no_arc (λ (arc : ShownArc). is_crossed world view low up arc.id)
        (arcs_of world view) crosses (crossed_alike low up) r first

    -- no lower bound is above the upper one, or that of this arc is the first
    pub ordered : IsFirst (graph world view).arcs crosses None
        → breach world (demands.InOrder view low up) ≡ None
    ordered first =
        ap (option_map (λ (arc : ShownArc). faults.Crossed (arc_name world view arc.id)))
        (crossing_found None first)

    pub crossed : (k : ℕ) (text : Name) → IsFirst (graph world view).arcs crosses (Some k)
        → text ≡ name_of_arc world view k
        → breach world (demands.InOrder view low up) ≡ Some (faults.Crossed text)
    crossed k text first called =
        ap (option_map (λ (arc : ShownArc). faults.Crossed (arc_name world view arc.id)))
        (crossing_found (Some k) first)
        ∙ ap (λ t. Some (faults.Crossed t)) (sym called)

    -- bounds that are in order are so by number
    pub orders : breach world (demands.InOrder view low up) ≡ None
        → (supply : Option (List ℤ)) → AreOrdered (graph world view)
        (bounds_given (given_on_arcs world view low) (given_on_arcs world view up) supply)
    orders none supply arc below =
        let crosses_none = nothing_mapped
        (λ (shown : ShownArc). faults.Crossed (arc_name world view shown.id))
        (find (λ (shown : ShownArc). is_crossed world view low up shown.id) (arcs_of world view))
        none in
        kept_order (given_on_arcs world view low) (given_on_arcs world view up) arc
        (crossed_alike low up arc below
        ∙ all_fail (λ (shown : ShownArc). is_crossed world view low up shown.id)
        (arcs_of world view) crosses_none arc no_arc below)

    -- the same of lists that are the values of the two maps
    pub crosses_by : (count : ℕ) → count ≡ (graph world view).arcs
        → (lower upper : Option (List ℤ)) → lower ≡ given_on_arcs world view low
        → upper ≡ given_on_arcs world view up → (r : Option ℕ)
        → IsFirst count (is_out_of_order lower upper) r → IsFirst (graph world view).arcs crosses r
    crosses_by count same lower upper lower_is upper_is r first =
        subst (λ n. IsFirst n crosses r) same
        (subst (λ xs. IsFirst count (is_out_of_order xs (given_on_arcs world view up)) r) lower_is
        (subst (λ xs. IsFirst count (is_out_of_order lower xs) r) upper_is first))
