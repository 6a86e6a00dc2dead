-- What a query of a largest flow demands, in parts, and the numbers of its two nodes.
use Rattle.std.proofs.Common.{◌≡◌, ◌≢◌, ℕ, true, not, List, [], ◌∷◌, get_or, refl, sym, ap}
use Rattle.std.proofs.Common.{subst, ◌∙◌, Option, Some, None}
use Rattle.std.specs.Prelude.{IfSome, Result, IsErrAnd}
use Rattle.std.specs.Str.{bytes_eq}
use Rattle.std.proofs.lemmas.Bool.{true≢false}
use Rattle.std.proofs.lemmas.Slice.Eq.{bytes_eq-Decides}
use Rattle.base_items.specs.declared.items.ItemSort.TheVariants.{Arc}
use Rattle.script_words.specs.declared.commands.Command.TheVariants as commands
use Rattle.script_words.specs.declared.commands.MapType.TheVariants.{Ints}
use Rattle.report_text.specs.declared.faults.Fault.TheVariants as faults
use Rattle.report_text.specs.declared.faults.StepFault.{StepFault}
use Rattle.plain_certificates.specs.Tables.{place_of}
use Rattle.plain_certificates.proofs.Numbering.{at_place}
use Rattle.plain_digraph.specs.Lists.{has}
use Rattle.plain_world.specs.Demands as demands
use Rattle.plain_world.specs.Demands.{Demand, given}
use Rattle.plain_world.specs.Refusals.{breach}
use Rattle.plain_world.specs.Tables.{Name}
use Rattle.plain_world.specs.Views.{shown_by, node_named, node_name}
use Rattle.plain_world.specs.World.{World}
use Rattle.plain_world.proofs.DemandsMet.{met}
use Rattle.desk_world.specs.Faults.{Is, MeetsAll}
use Rattle.desk_world.specs.Values.{HasType}
use Rattle.desk_world.proofs.Demanded.{fault_of}
use Rattle.desk_world.proofs.DemandParts.{joined, fault_at, NoneUntil, stops, all_met, met_next}
use Rattle.desk_world.proofs.DemandParts.{one_met, one_not_met, given_met}
use Rattle.desk_world.proofs.FlowsTold.{takes_ints}
use Rattle.desk_world.proofs.Handed.{handed_on}
use Rattle.desk_world.proofs.WordsRead.{listed, passes}

-- ---- two nodes

module _ (world : World) (view : Name) where
  abbrev nodes : List ℕ
  nodes = (shown_by world view).nodes

  -- a node that is found by a name is called so, and is shown
  called : (name : Name) (node : ℕ) → node_named world view name ≡ Some node
      → node_name world view node ≡ name
  called name node named =
      (bytes_eq-Decides (node_name world view node) name).0
      (passes (λ other. bytes_eq (node_name world view other) name) nodes node named)

  shows : (name : Name) (node : ℕ) → node_named world view name ≡ Some node
      → has nodes node ≡ true
  shows name node named =
      listed (λ other. bytes_eq (node_name world view other) name) nodes node named

  -- those of different names have different numbers
  pub numbers_apart : (s t : Name) (from to : ℕ) → node_named world view s ≡ Some from
      → node_named world view t ≡ Some to → breach world (demands.Differ s t) ≡ None
      → place_of nodes from ≢ place_of nodes to
  numbers_apart s t from to s_named t_named differ same =
      let one : from ≡ to = sym (at_place nodes from (shows s from s_named))
      ∙ ap (λ k. get_or nodes k 0) same ∙ at_place nodes to (shows t to t_named) in
      let names : s ≡ t = sym (called s from s_named) ∙ ap (node_name world view) one
      ∙ called t to t_named in
      true≢false (sym (met (not (bytes_eq s t)) (faults.SameNode s) differ)
      ∙ ap not ((bytes_eq-Decides s t).1 names))

-- ---- the demands

module _ (view cap s t : Name) where
  -- a part for each question
  abbrev pub flow_parts : Option Name → List (List Demand)
  flow_parts into =
      (demands.There demands.Views view ∷ []) ∷ (demands.There (demands.Maps Arc) cap ∷ [])
      ∷ (demands.There (demands.NodesOf view) s ∷ [])
      ∷ (demands.There (demands.NodesOf view) t ∷ [])
      ∷ given (demands.There (demands.Maps Arc)) into ∷ (demands.HasType Arc Ints cap ∷ [])
      ∷ given (demands.TakesFlow view) into ∷ (demands.IsSmall view ∷ [])
      ∷ (demands.Differ s t ∷ []) ∷ (demands.ArcsInRange view cap ∷ [])
      ∷ (demands.ArcsAtLeast view 0 cap ∷ []) ∷ []

  abbrev flow_demands : Option Name → List Demand
  flow_demands into = demands.demands (commands.MaxFlow view cap s t into)

  parts_joined : (into : Option Name) → flow_demands into ≡ joined (flow_parts into)
  parts_joined None = refl
  parts_joined (Some map) = refl

  module _ (world : World) (into : Option Name) where
    abbrev parts : List (List Demand)
    parts = flow_parts into

    -- ---- the questions that are met, in their order

    pub names_met : breach world (demands.There demands.Views view) ≡ None
        → breach world (demands.There (demands.Maps Arc) cap) ≡ None
        → breach world (demands.There (demands.NodesOf view) s) ≡ None
        → breach world (demands.There (demands.NodesOf view) t) ≡ None → NoneUntil world parts 4
    names_met seen there from to =
        let first : NoneUntil world parts 2 = (
          one_met world (demands.There demands.Views view) seen,
          (one_met world (demands.There (demands.Maps Arc) cap) there, tt),
        ) in
        met_next world parts 3 (met_next world parts 2 first
        (one_met world (demands.There (demands.NodesOf view) s) from))
        (one_met world (demands.There (demands.NodesOf view) t) to)

    pub maps_met : NoneUntil world parts 4
        → fault_of world (given (demands.There (demands.Maps Arc)) into) ≡ None
        → breach world (demands.HasType Arc Ints cap) ≡ None
        → fault_of world (given (demands.TakesFlow view) into) ≡ None → NoneUntil world parts 7
    maps_met names there typed takes =
        met_next world parts 6 (met_next world parts 5 (met_next world parts 4 names there)
        (one_met world (demands.HasType Arc Ints cap) typed)) takes

    pub nodes_met : NoneUntil world parts 7 → breach world (demands.IsSmall view) ≡ None
        → breach world (demands.Differ s t) ≡ None → NoneUntil world parts 9
    nodes_met maps small differ =
        met_next world parts 8 (met_next world parts 7 maps
        (one_met world (demands.IsSmall view) small)) (one_met world (demands.Differ s t) differ)

    -- ---- all of them are met, or the first that isn't refuses

    pub flow_met : NoneUntil world parts 9 → breach world (demands.ArcsInRange view cap) ≡ None
        → breach world (demands.ArcsAtLeast view 0 cap) ≡ None
        → fault_of world (flow_demands into) ≡ None
    flow_met nodes within least =
        ap (fault_of world) (parts_joined into)
        ∙ all_met world parts (met_next world parts 10 (met_next world parts 9 nodes
        (one_met world (demands.ArcsInRange view cap) within))
        (one_met world (demands.ArcsAtLeast view 0 cap) least))

    module _ {X : Type 0} (result : Result X StepFault) (fault : StepFault)
        (handed : IsErrAnd result (λ e. e ≡ fault)) where
      pub part_unmet : (k : ℕ) → NoneUntil world parts k → Is (fault_at world parts k) fault
          → MeetsAll world (flow_demands into) result
      part_unmet k none is =
          handed_on (MeetsAll world (flow_demands into)) result fault handed
          (subst (λ ds. Is (fault_of world ds) fault) (sym (parts_joined into))
          (stops world parts k fault none is))

      -- where its part is a single demand
      pub flow_unmet : (d : Demand) (k : ℕ) → NoneUntil world parts k
          → fault_at world parts k ≡ fault_of world (d ∷ []) → Is (breach world d) fault
          → MeetsAll world (flow_demands into) result
      flow_unmet d k none part is =
          part_unmet k none (subst (λ o. Is o fault) (sym part) (one_not_met world d fault is))

  -- a map that may be given, and takes a flow, has ints
  pub given_takes : (world : World) (into : Option Name)
      → fault_of world (given (demands.TakesFlow view) into) ≡ None
      → IfSome into (λ map. HasType world Arc map Ints)
  given_takes world None none = tt
  given_takes world (Some map) none =
      takes_ints world view map (given_met world (demands.TakesFlow view) (Some map) none)
