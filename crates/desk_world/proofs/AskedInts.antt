-- Values of a view's arcs and nodes by number, in any world.
use Rattle.std.proofs.Common.{◌≡◌, ℕ, ◌<◌, ℤ, pos, List, length, All}
use Rattle.std.proofs.Common.{sym, ap, subst, ◌∙◌, Option, Some, None}
use Rattle.std.specs.Prelude.{int_lt, Bool, find, option_map, unwrap_or}
use Rattle.std.specs.Str.{bytes_eq}
use Rattle.std.proofs.lemmas.List.{length-map}
use Rattle.report_text.specs.declared.faults.Fault.TheVariants as faults
use Rattle.plain_certificates.specs.Numbering.{arc_at, node_at}
use Rattle.plain_certificates.specs.Tables.{at, place_of}
use Rattle.plain_certificates.proofs.Numbering.{place_below}
use Rattle.plain_views.specs.Shown.{ShownArc}
use Rattle.plain_world.specs.Demands as demands
use Rattle.plain_world.specs.Queries.{graph, on_arcs, number_of, name_of_arc, name_of_node}
use Rattle.plain_world.specs.Refusals.{breach, is_too_large}
use Rattle.plain_world.specs.Tables.{Name}
use Rattle.plain_world.specs.Views.{shown_by, arcs_of, arc_value, node_value}
use Rattle.plain_world.specs.Views.{node_named}
use Rattle.plain_world.specs.Views.{arc_name, node_name}
use Rattle.plain_world.specs.World.{World}
use Rattle.task_bounds.specs.Given.{IsValue}
use Rattle.view_numbers.specs.Breaches.{IsFirst, is_outside, is_under}
use Rattle.tower_numbers.proofs.Firsts.{at_mapped, value_found}
use Rattle.tower_numbers.proofs.Ranges.{none_outside}
use Rattle.desk_world.specs.AskedViews.{arc_values, node_values}
use Rattle.desk_world.proofs.WordsRead.{listed}
use Rattle.desk_world.proofs.AskedViews.{no_arc}

-- ---- values by number, in any world

module _ (world : World) (view : Name) where
  pub value_on : (name : Name) (k : ℕ) → k < (graph world view).arcs
      → at (pos 0) (arc_values world view name) k ≡ on_arcs world view name k
  value_on name k below =
      at_mapped no_arc (λ arc. arc_value world view name arc.id) (arcs_of world view) k below

  module _ (name : Name) (values : List ℤ) (are : values ≡ arc_values world view name) where
    -- the first arc whose value breaks a rule
    arc_found : (rule : ℤ → Bool) (r : Option ℕ)
        → IsFirst (length values) (λ k. rule (at (pos 0) values k)) r
        → find (λ (arc : ShownArc). rule (arc_value world view name arc.id)) (arcs_of world view)
        ≡ option_map (arc_at (shown_by world view)) r
    arc_found rule r first =
        value_found no_arc (λ arc. arc_value world view name arc.id) rule (arcs_of world view) r
        (subst (λ xs. IsFirst (length xs) (λ k. rule (at (pos 0) xs k)) r) are first)

    -- all are in range
    pub arcs_in_range : All IsValue values
        → breach world (demands.ArcsInRange view name) ≡ None
    arcs_in_range small =
        ap (option_map (λ (arc : ShownArc). faults.OutOfRange (arc_name world view arc.id)
        (arc_value world view name arc.id)))
        (arc_found is_too_large None (none_outside values small))

    -- the first that isn't in range
    pub arc_outside : (k : ℕ) (value : ℤ) (text : Name)
        → IsFirst (length values) (is_outside values) (Some k) → value ≡ at (pos 0) values k
        → text ≡ name_of_arc world view k
        → breach world (demands.ArcsInRange view name) ≡ Some (faults.OutOfRange text value)
    arc_outside k value text first is called =
        let value_is : value ≡ on_arcs world view name k =
        is ∙ ap (λ xs. at (pos 0) xs k) are
        ∙ value_on name k (subst (λ n. k < n) (ap length are ∙ length-map (arcs_of world view) _)
        first.0) in
        ap (option_map (λ (arc : ShownArc). faults.OutOfRange (arc_name world view arc.id)
        (arc_value world view name arc.id)))
        (arc_found is_too_large (Some k) first)
        ∙ (λ i. Some (faults.OutOfRange (sym called i) (sym value_is i)))

    -- none is below the least, or this one is the first
    pub arcs_at_least : (least : ℕ) → IsFirst (length values) (is_under values (pos least)) None
        → breach world (demands.ArcsAtLeast view least name) ≡ None
    arcs_at_least least first =
        ap (option_map (λ (arc : ShownArc). faults.Negative (arc_name world view arc.id)))
        (arc_found (λ x. int_lt x (pos least)) None first)

    pub arc_below : (least k : ℕ) (text : Name)
        → IsFirst (length values) (is_under values (pos least)) (Some k)
        → text ≡ name_of_arc world view k
        → breach world (demands.ArcsAtLeast view least name) ≡ Some (faults.Negative text)
    arc_below least k text first called =
        ap (option_map (λ (arc : ShownArc). faults.Negative (arc_name world view arc.id)))
        (arc_found (λ x. int_lt x (pos least)) (Some k) first)
        ∙ (λ i. Some (faults.Negative (sym called i)))

  module _ (name : Name) (values : List ℤ) (are : values ≡ node_values world view name) where
    value_at : (r : Option ℕ) → IsFirst (length values) (is_outside values) r
        → find (λ node. is_too_large (node_value world view name node)) (shown_by world view).nodes
        ≡ option_map (node_at (shown_by world view)) r
    value_at r first =
        value_found 0 (node_value world view name) is_too_large (shown_by world view).nodes r
        (subst (λ xs. IsFirst (length xs) (is_outside xs) r) are first)

    pub nodes_in_range : All IsValue values
        → breach world (demands.NodesInRange view name) ≡ None
    nodes_in_range small =
        ap (option_map (λ node. faults.OutOfRange (node_name world view node)
        (node_value world view name node)))
        (value_at None (none_outside values small))

    pub node_outside : (k : ℕ) (value : ℤ) (text : Name)
        → IsFirst (length values) (is_outside values) (Some k) → value ≡ at (pos 0) values k
        → text ≡ name_of_node world view k
        → breach world (demands.NodesInRange view name) ≡ Some (faults.OutOfRange text value)
    node_outside k value text first is called =
        let value_is : value ≡ node_value world view name (node_at (shown_by world view) k) =
        is ∙ ap (λ xs. at (pos 0) xs k) are
        ∙ at_mapped 0 (node_value world view name) (shown_by world view).nodes k
        (subst (λ n. k < n) (ap length are ∙ length-map (shown_by world view).nodes _) first.0) in
        ap (option_map (λ node. faults.OutOfRange (node_name world view node)
        (node_value world view name node)))
        (value_at (Some k) first)
        ∙ (λ i. Some (faults.OutOfRange (sym called i) (sym value_is i)))

  -- ---- the node of a name

  module _ (name : Name) (node : ℕ) (named : node_named world view name ≡ Some node) where
    pub number_is : place_of (shown_by world view).nodes node ≡ number_of world view name
    number_is = ap (λ o. place_of (shown_by world view).nodes (unwrap_or o 0)) (sym named)

    pub number_below : place_of (shown_by world view).nodes node < (graph world view).nodes
    number_below =
        place_below (shown_by world view).nodes node
        (listed (λ other. bytes_eq (node_name world view other) name) (shown_by world view).nodes
        node named)
