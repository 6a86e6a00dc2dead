-- Which fault a view has that shows more than the limits.
use Rattle.std.proofs.Common.{◌≡◌, ◌<◌, ◌≤◌, Bool, true, false, None, length}
use Rattle.std.proofs.Common.{sym, ap, subst, ◌∙◌}
use Rattle.std.specs.Prelude.{nat_le}
use Rattle.std.specs.Option.{option_or}
use Rattle.std.proofs.lemmas.Bool.{le-leb, lt-leb}
use Rattle.std.proofs.lemmas.List.{length-map}
use Rattle.base_items.specs.declared.limits.Limit.TheVariants as limits
use Rattle.base_items.specs.declared.limits.TheConstants.{MAX_NODES, MAX_ARCS}
use Rattle.base_items.specs.declared.items.ItemSort.TheVariants.{Node, Arc}
use Rattle.report_text.specs.declared.faults.Fault.TheVariants.{Full}
use Rattle.plain_views.specs.Shown.{Shown, IsShown, arcs_in_order}
use Rattle.plain_world.specs.Refusals.{unless}
use Rattle.view_numbers.specs.declared.fault.NumberFault.{NumberFault}
use Rattle.view_numbers.specs.declared.fault.NumberFault.TheVariants as faults
use Rattle.view_numbers.specs.Listed.{facts_of, fact_shown, IsFullOfNodes, IsFullOfArcs, IsFull}
use Rattle.view_numbers.specs.Listed.{Fits}
use Rattle.desk_world.specs.Faults.{Is}
use Rattle.desk_world.specs.Shown.{fault_of_size, told_as}
use Rattle.desk_world.proofs.InOrder.{in_order, facts_in_order}

module _ (p : Shown) (shown : IsShown p) where
  -- the fault, by whether the nodes and the arcs are few enough
  by_tests : (few less : Bool) → nat_le (length p.nodes) MAX_NODES ≡ few
      → nat_le (length p.by_source) MAX_ARCS ≡ less
      → fault_of_size p
      ≡ option_or (unless few (Full Node MAX_NODES)) (unless less (Full Arc MAX_ARCS))
  by_tests few less nodes arcs =
      ap (λ b. option_or (unless b (Full Node MAX_NODES))
      (unless (nat_le (length p.by_source) MAX_ARCS) (Full Arc MAX_ARCS))) nodes
      ∙ ap (λ b. option_or (unless few (Full Node MAX_NODES)) (unless b (Full Arc MAX_ARCS))) arcs

  pub small_enough : length p.nodes ≤ 1048576 → length (facts_of p) ≤ 4194304
      → fault_of_size p ≡ None
  small_enough nodes arcs =
      by_tests true true (le-leb (length p.nodes) MAX_NODES nodes)
      (le-leb (length p.by_source) MAX_ARCS
      (subst (λ n. n ≤ 4194304) (facts_in_order p shown) arcs))

  pub nodes_full : (fault : NumberFault) → IsFullOfNodes p fault
      → Is (fault_of_size p) (told_as fault)
  nodes_full (faults.Full limits.Nodes) more =
      ap (λ b. option_or (unless b (Full Node MAX_NODES))
      (unless (nat_le (length p.by_source) MAX_ARCS) (Full Arc MAX_ARCS)))
      (lt-leb (length p.nodes) MAX_NODES more)
  nodes_full (faults.Full limits.Arcs) more = elim more [ ]
  nodes_full (faults.Full limits.Stamps) more = elim more [ ]
  nodes_full faults.Memory more = tt

  pub arcs_full : (fault : NumberFault) → length p.nodes ≤ 1048576 → IsFullOfArcs p fault
      → Is (fault_of_size p) (told_as fault)
  arcs_full (faults.Full limits.Arcs) few more =
      by_tests true false (le-leb (length p.nodes) MAX_NODES few)
      (lt-leb (length p.by_source) MAX_ARCS
      (subst (λ n. 4194304 < n) (in_order p shown) more))
  arcs_full (faults.Full limits.Nodes) few more = elim more [ ]
  arcs_full (faults.Full limits.Stamps) few more = elim more [ ]
  arcs_full faults.Memory few more = tt

  -- nodes and arcs in order, and the fault of a view that isn't numbered
  pub numbered_small : Fits p → fault_of_size p ≡ None
  numbered_small fits =
      small_enough fits.nodes
      (subst (λ n. n ≤ 4194304) (sym (length-map (arcs_in_order p) fact_shown)) fits.arcs)

  pub numbered_full : (fault : NumberFault) → IsFull p fault → Is (fault_of_size p) (told_as fault)
  numbered_full (faults.Full limits.Nodes) more = nodes_full (faults.Full limits.Nodes) more
  numbered_full (faults.Full limits.Arcs) more =
      arcs_full (faults.Full limits.Arcs) more.0 more.1
  numbered_full (faults.Full limits.Stamps) more = elim more [ ]
  numbered_full faults.Memory more = tt
