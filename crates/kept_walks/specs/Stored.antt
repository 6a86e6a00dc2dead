-- All that two observers hold, as a shown digraph, and what a kept view shows of it.
use Rattle.std.specs.Prelude.{ℕ, Bool, true, false, IsTrue, List, [], ◌∷◌, map, ℤ, pos}
use Rattle.base_items.specs.declared.items.Fact.{Fact}
use Rattle.plain_digraph.specs.Facts.{fact_id}
use Rattle.plain_digraph.specs.Lists.{AllOf}
use Rattle.observe_core.specs.declared.kinds.KeptShape.{KeptShape}
use Rattle.observe_core.specs.declared.kinds.KeptShape.TheVariants.{Sub, Residual, ResidualOverSub}
use Rattle.observe_core.specs.Held.{Marked}
use Rattle.observe_core.specs.Items.{has_id}
use Rattle.observe_core.specs.Seen.{facts_of_marked}
use Rattle.plain_views.specs.Shown.{Shown, ShownArc}
use Rattle.plain_views.specs.Adaptors.{sub, residual}
use Rattle.kept_views.specs.declared.listing.Listing.{Listing}
use Rattle.kept_views.specs.declared.listing.Listing.TheVariants.{Whole, BySource, ByTarget}
use Rattle.kept_views.specs.Order.{put_falling}
use Rattle.kept_views.specs.declared.nodes.KeptNodes.{KeptNodes}
use Rattle.kept_views.specs.declared.arcs.KeptArcs.{KeptArcs}
use Rattle.kept_views.specs.ItemViews.{marks_in}
use Rattle.kept_views.specs.Views.{nodes_of, arcs_of}

-- all items, as they fall
abbrev pub in_falling : Listing → List Fact → List Fact
in_falling l [] = []
in_falling l (f ∷ fs) = put_falling l f (in_falling l fs)

abbrev pub arc_shown : Fact → ShownArc
arc_shown f = record { id = f.id; from = f.from; to = f.to }

-- nodes and arcs by their facts, each list by falling stamp
abbrev pub stored : List Fact → List Fact → Shown
stored nodes arcs = record {
  nodes = map fact_id (in_falling Whole nodes);
  by_source = map arc_shown (in_falling BySource arcs);
  by_target = map arc_shown (in_falling ByTarget arcs);
}

-- ---- as they are marked

abbrev pub is_shown : List Marked → ℕ → Bool
is_shown items id = (marks_in id items).shown

abbrev pub one_if : Bool → ℤ
one_if true = pos 1
one_if false = pos 0

-- a flow and a capacity that have room exactly where the marks say so
abbrev pub flow_in : List Marked → ℕ → ℤ
flow_in arcs id = one_if (marks_in id arcs).backward

abbrev pub two_if : Bool → Bool → ℤ
two_if true true = pos 2
two_if true false = pos 1
two_if false true = pos 1
two_if false false = pos 0

abbrev pub cap_in : List Marked → ℕ → ℤ
cap_in arcs id = two_if (marks_in id arcs).forward (marks_in id arcs).backward

-- what the kept view of a shape shows of these nodes and arcs
abbrev pub kept : KeptShape → List Marked → List Marked → Shown
kept Sub nodes arcs =
    sub (is_shown nodes) (is_shown arcs) (stored (facts_of_marked nodes) (facts_of_marked arcs))
kept Residual nodes arcs =
    residual (cap_in arcs) (flow_in arcs) (stored (facts_of_marked nodes) (facts_of_marked arcs))
kept ResidualOverSub nodes arcs =
    residual (cap_in arcs) (flow_in arcs)
    (sub (is_shown nodes) (is_shown arcs) (stored (facts_of_marked nodes) (facts_of_marked arcs)))

-- both ends of each arc are among the nodes
abbrev pub HasEnds : List Marked → List Marked → Type 0
HasEnds nodes arcs =
    AllOf (λ (a : Marked). IsTrue (has_id fact_id a.fact.from (facts_of_marked nodes))
    × IsTrue (has_id fact_id a.fact.to (facts_of_marked nodes))) arcs

-- all that the two observers hold
abbrev pub shows_all : KeptNodes → KeptArcs → Shown
shows_all n a = stored (facts_of_marked (nodes_of n)) (facts_of_marked (arcs_of a))

-- of two observers
abbrev pub HoldEnds : KeptNodes → KeptArcs → Type 0
HoldEnds n a = HasEnds (nodes_of n) (arcs_of a)
