-- What the layers of a kept view show is a shown digraph.
use Rattle.std.specs.Prelude.{ℕ, Bool, ℤ}
use Rattle.base_items.specs.declared.limits.TheConstants.{MAX_ARCS}
use Rattle.plain_views.specs.Shown.{IsShown, AreBelow}
use Rattle.plain_views.specs.Adaptors.{sub, residual, twice}
use Rattle.plain_views.proofs.Adapted.{sub_is_shown, sub_below, residual_is_shown, residual_below}
use Rattle.kept_views.specs.declared.nodes.KeptNodes.{KeptNodes}
use Rattle.kept_views.specs.declared.arcs.KeptArcs.{KeptArcs}
use Rattle.kept_views.specs.Views.{nodes_of, arcs_of}
use Rattle.kept_walks.specs.Stored.{shows_all, HasEnds}
use Rattle.kept_walks.specs.Whole.{shows_valid, shows_below}

module _ (n : KeptNodes) (a : KeptArcs) where
  pub part_valid : (k h : ℕ → Bool) → HasEnds (nodes_of n) (arcs_of a)
      → IsShown (sub k h (shows_all n a))
  part_valid k h ends = sub_is_shown k h (shows_all n a) (shows_valid n a ends)

  pub part_below : (k h : ℕ → Bool) → HasEnds (nodes_of n) (arcs_of a)
      → AreBelow (sub k h (shows_all n a)) MAX_ARCS
  part_below k h ends =
      sub_below k h (shows_all n a) MAX_ARCS (shows_valid n a ends) (shows_below n a)

  pub rest_valid : (cap flow : ℕ → ℤ) → HasEnds (nodes_of n) (arcs_of a)
      → IsShown (residual cap flow (shows_all n a))
  rest_valid cap flow ends = residual_is_shown cap flow (shows_all n a) (shows_valid n a ends)

  pub rest_below : (cap flow : ℕ → ℤ) → HasEnds (nodes_of n) (arcs_of a)
      → AreBelow (residual cap flow (shows_all n a)) (twice MAX_ARCS)
  rest_below cap flow ends =
      residual_below cap flow (shows_all n a) MAX_ARCS (shows_valid n a ends) (shows_below n a)

  pub both_valid : (k h : ℕ → Bool) (cap flow : ℕ → ℤ) → HasEnds (nodes_of n) (arcs_of a)
      → IsShown (residual cap flow (sub k h (shows_all n a)))
  both_valid k h cap flow ends =
      residual_is_shown cap flow (sub k h (shows_all n a)) (part_valid k h ends)

  pub both_below : (k h : ℕ → Bool) (cap flow : ℕ → ℤ) → HasEnds (nodes_of n) (arcs_of a)
      → AreBelow (residual cap flow (sub k h (shows_all n a))) (twice MAX_ARCS)
  both_below k h cap flow ends =
      residual_below cap flow (sub k h (shows_all n a)) MAX_ARCS (part_valid k h ends)
      (part_below k h ends)
