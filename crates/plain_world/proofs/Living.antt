-- Which items are live after a plain step, as what is attached follows it.
use Rattle.std.proofs.Common.{ℕ, is_some, sym, ◌∙◌, ap, inl, inr}
use Rattle.std.specs.Prelude.{◌==◌}
use Rattle.std.proofs.lemmas.Bool.{or_cases, or_right, eqb-true, true≢false}
use Rattle.base_items.specs.declared.items.ItemSort.TheVariants as sorts
use Rattle.plain_digraph.specs.Lists.{has}
use Rattle.plain_digraph.specs.Digraph.{Digraph}
use Rattle.plain_digraph.specs.Items.{ids}
use Rattle.plain_digraph.specs.PlainSteps.{Added}
use Rattle.plain_digraph.specs.Steps.{new_node, new_arc, add_node, add_arc}
use Rattle.plain_digraph.specs.Valid as digraph
use Rattle.plain_digraph.proofs.Additions.{new_node_apart, new_arc_endless}
use Rattle.plain_digraph.proofs.Keys.{get_other}
use Rattle.plain_digraph.proofs.StepLiving.{added_items_are_live}
use Rattle.plain_world.proofs.Attaching.{Follows}

-- a new node is live, and all others stay
pub node_follows : (g : Digraph) → digraph.IsValid g
    → Follows g (add_node g) sorts.Node (Added (new_node g))
node_follows g valid = (
  λ live. true≢false (sym live ∙ new_node_apart g valid),
  (added_items_are_live g 0 0).0,
  λ x other. (
    λ live. elim (or_cases (new_node g == x) (has (ids g.nodes) x) live) [
      | inl same ↦ absurd (other (sym (eqb-true (new_node g) x same)))
      | inr was ↦ was
    ],
    λ was. or_right (new_node g == x) (has (ids g.nodes) x) was,
  ),
)

-- a new arc is live, and all others stay
pub arc_follows : (g : Digraph) (from to : ℕ) → digraph.IsValid g
    → Follows g (add_arc g from to) sorts.Arc (Added (new_arc g))
arc_follows g from to valid = (
  λ live. true≢false (sym live ∙ ap is_some (new_arc_endless g valid)),
  (added_items_are_live g from to).1,
  λ x other.
      let alike = ap is_some (get_other g.ends (new_arc g) (from, to) x other) in
      (λ live. sym alike ∙ live, λ was. alike ∙ was),
)
