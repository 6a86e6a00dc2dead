-- What is so of the items of every kept view.
use Rattle.std.proofs.Common.{◌≡◌, ℕ, ◌+◌, ◌≤◌, nat_le, IsTrue, List, [], ◌∷◌, map, refl, ap, arith}
use Rattle.std.proofs.lemmas.Grind.{common_steps}
use Rattle.base_items.specs.declared.items.Fact.{Fact}
use Rattle.plain_digraph.specs.Facts.{fact_id}
use Rattle.observe_core.specs.Facts.{ends_of}
use Rattle.observe_core.specs.Held.{Kept, KeptNodes as NodesRole, KeptArcs as ArcsRole, marked_id}
use Rattle.observe_core.specs.Items.{above_all, rises_from}
use Rattle.observe_core.specs.Seen.{IsSound, need, facts_of_marked}
use Rattle.observe_core.proofs.ItemLemmas.{and_left, and_right}
use Rattle.observe_core.proofs.SoundLemmas.{map_sound}
use Rattle.fact_table.specs.Table.{facts_of}
use Rattle.fact_table.specs.TableFacts.{table-rises}
use Rattle.kept_views.specs.declared.items.Marks.{Marks}
use Rattle.kept_views.specs.declared.nodes.KeptNodes.{KeptNodes}
use Rattle.kept_views.specs.declared.arcs.KeptArcs.{KeptArcs}
use Rattle.kept_views.specs.ItemViews.{marked}
use Rattle.kept_views.specs.Ordered.{reach_of}
use Rattle.kept_views.specs.Reaching.{reaches}
use Rattle.kept_views.specs.Views.{nodes_of, nodes_seen, arcs_of, arcs_seen}

marks-rise : (ms : List Marks) (low : ℕ) (fs : List Fact) → IsTrue (rises_from fact_id low fs)
    → IsTrue (rises_from marked_id low (map (marked ms) fs))
marks-rise ms low [] h = refl
marks-rise ms low (f ∷ fs) h =
    let a = and_left (nat_le low f.id) (rises_from fact_id (f.id + 1) fs) h in
    let r = marks-rise ms (f.id + 1) fs
    (and_right (nat_le low f.id) (rises_from fact_id (f.id + 1) fs) h) in
    grind (arith, common_steps, a, r)

-- the facts are those of the table
pub marked-facts : (ms : List Marks) (fs : List Fact) → facts_of_marked (map (marked ms) fs) ≡ fs
marked-facts ms [] = refl
marked-facts ms (f ∷ fs) = ap (λ l. f ∷ l) (marked-facts ms fs)

pub nodes-sound : (k : KeptNodes) → IsSound (nodes_seen k)
nodes-sound k = map_sound (Kept NodesRole k.items.all (nodes_of k))
    (marks-rise k.items.marks.items 0 (facts_of k.items.table) (table-rises k.items.table))

pub nodes-reach : (k : KeptNodes) → need (nodes_seen k) ≤ 0
nodes-reach k = omega arith

pub arcs-sound : (k : KeptArcs) → IsSound (arcs_seen k)
arcs-sound k = map_sound (Kept (ArcsRole k.shape) k.items.all (arcs_of k))
    (marks-rise k.items.marks.items 0 (facts_of k.items.table) (table-rises k.items.table))

pub arcs-reach : (k : KeptArcs) → need (arcs_seen k) ≤ reach_of k.items.orders
arcs-reach k =
    let os = k.items.orders in
    let fs = facts_of k.items.table in
    let r = reaches os fs k.by_ends k.items.ordered in
    let e = ap (λ l. above_all (ends_of l)) (marked-facts k.items.marks.items fs) in
    omega (arith, r, e)
