-- Stamps for the moved arcs, and how the placing back is refused.
use Rattle.std.proofs.Common.{◌≡◌, ℕ, zero, suc, ◌+◌, ◌<◌, ◌≤◌, IsTrue, List, [], ◌∷◌, map, length}
use Rattle.std.proofs.Common.{refl, subst, arith}
use Rattle.base_items.specs.declared.items.Fact.{Fact}
use Rattle.base_items.specs.declared.limits.Limit.{Limit}
use Rattle.base_items.specs.declared.limits.Limit.TheVariants as limits
use Rattle.base_items.specs.declared.limits.TheConstants.{MAX_STAMP}
use Rattle.plain_digraph.specs.Digraph.{Digraph}
use Rattle.plain_digraph.specs.Steps.{place}
use Rattle.plain_digraph.specs.PlainSteps.{PlaceBack, after_steps}
use Rattle.plain_digraph.specs.Copies.{copy_of}
use Rattle.plain_digraph.specs.Alterations.{restoring, refusable_steps}
use Rattle.alter_graph.specs.declared.snaps.SnapKeys.{SnapKeys}
use Rattle.alter_graph.specs.declared.faults.AlterFault.{AlterFault}
use Rattle.alter_graph.specs.declared.faults.AlterFault.TheVariants.{Vetoed, SameNode, Full, Stale}
use Rattle.alter_graph.specs.declared.faults.AlterFault.TheVariants.{Memory}
use Rattle.alter_graph.specs.State.{State, IsInStep}
use Rattle.alter_graph.specs.Snaps.{is_valid, arc_half, kept_of}
use Rattle.alter_graph.specs.Room.{Fits, WouldPass}
use Rattle.alter_graph.specs.Outcome.{Stays}
use Rattle.alter_graph.specs.Restoring.{places, IsMaking, Declines}
use Rattle.alter_graph.specs.Restoring.{LeavesAll}
use Rattle.alter_graph.proofs.Kept.{no_nodes, no_arcs}

-- each takes a stamp
pub placed_stamps : (fs : List Fact) (g : Digraph)
    → (after_steps g (map PlaceBack fs)).stamps ≡ g.stamps + length (map PlaceBack fs)
placed_stamps [] g = omega arith
placed_stamps (f ∷ fs) g = let r = placed_stamps fs (place g f) in omega (arith, r)

enough : (n there limit : ℕ) → there ≤ limit → Fits n there limit → there + n ≤ limit
enough zero there limit few fits = omega (arith, few)
enough (suc n) there limit few fits = fits (omega arith)

-- no step adds an item
passes_stamps : (fs : List Fact) (g : Digraph) (limit : Limit)
    → WouldPass (map PlaceBack fs) g limit
    → (limit ≡ limits.Stamps) × (MAX_STAMP < g.stamps + length (map PlaceBack fs))
passes_stamps fs g limits.Nodes h =
    let l = h.0 in let none = no_nodes fs in absurd (omega (arith, l, none))
passes_stamps fs g limits.Arcs h =
    let l = h.1.0 in let none = no_arcs fs in absurd (omega (arith, l, none))
passes_stamps fs g limits.Stamps h = (refl, h.2.1)

module _ (k : SnapKeys) (s t : State) (at : IsInStep s) (v : IsTrue (is_valid k s.chains))
    (tied : (making : Digraph) → IsMaking k s making
    → places k s.chains ≡ refusable_steps s.graph (restoring (copy_of making))) where
  declines : (why : AlterFault) → Stays (places k s.chains) s t why → Declines k s t why
  declines why h = record {
    valid = v;
    stays = h;
    refuses = λ making is. subst (λ l. Stays l s t why) (tied making is) h;
  }

  pub leaves_all : (why : AlterFault) → Stays (places k s.chains) s t why → LeavesAll k s t why
  leaves_all (Vetoed sort key) h = (
    enough (length (places k s.chains)) s.graph.stamps MAX_STAMP at.valid.few_stamps
        h.refused.0.for_stamps,
    declines (Vetoed sort key) h,
  )
  leaves_all SameNode h = h.refused
  leaves_all (Full limit) h =
      let r = passes_stamps (kept_of (arc_half k s.chains)) s.graph limit h.refused in
      (r.0, r.1, declines (Full limit) h)
  leaves_all Stale h = absurd h.refused
  leaves_all Memory h = record { same = h.same; in_step = h.in_step }
