-- Look-ups among marked items.
use Rattle.std.proofs.Common.{◌≡◌, ℕ, ◌==◌, Bool, true, if◌then◌else◌, List, [], ◌∷◌, map, filter}
use Rattle.std.proofs.Common.{refl, sym, ap, ◌∙◌}
use Rattle.plain_digraph.specs.Facts.{fact_id}
use Rattle.plain_digraph.specs.Lists.{has}
use Rattle.observe_core.specs.Held.{Marked, marked_id}
use Rattle.observe_core.specs.Items.{has_id}
use Rattle.observe_core.specs.Seen.{facts_of_marked}
use Rattle.kept_views.specs.declared.listing.Listing.TheVariants.{Whole}
use Rattle.plain_views.specs.Shown.{Shown, has_arc, arc_of}
use Rattle.plain_views.specs.Adaptors.{sub, is_kept}
use Rattle.plain_views.proofs.Adapted.{part_has_arc}
use Rattle.plain_views.proofs.Walks.{and_left}
use Rattle.kept_views.specs.declared.nodes.KeptNodes.{KeptNodes}
use Rattle.kept_views.specs.declared.arcs.KeptArcs.{KeptArcs}
use Rattle.kept_views.specs.Views.{nodes_of, arcs_of}
use Rattle.kept_walks.specs.Stored.{in_falling, shows_all, HasEnds}
use Rattle.kept_walks.specs.Whole.{has_falling, has_stored, shows_valid}

pub marked_has : (xs : List Marked) (i : ℕ)
    → has_id fact_id i (facts_of_marked xs) ≡ has_id marked_id i xs
marked_has [] i = refl
marked_has (x ∷ xs) i = ap (λ b. if x.fact.id == i then true else b) (marked_has xs i)

pub node_has : (xs : List Marked) (i : ℕ)
    → has (map fact_id (in_falling Whole (facts_of_marked xs))) i ≡ has_id marked_id i xs
node_has xs i = has_falling Whole (facts_of_marked xs) i ∙ marked_has xs i

pub admits_arc : (n : KeptNodes) (a : KeptArcs) (i : ℕ)
    → has_arc (shows_all n a) i ≡ has_id marked_id i (arcs_of a)
admits_arc n a i =
    has_stored (facts_of_marked (nodes_of n)) (facts_of_marked (arcs_of a)) i
    ∙ marked_has (arcs_of a) i

-- an arc of a part is an arc of the whole
pub part_arc : (n : KeptNodes) (a : KeptArcs) (k h : ℕ → Bool) → HasEnds (nodes_of n) (arcs_of a)
    → (i : ℕ) → has_arc (sub k h (shows_all n a)) i ≡ true → has_arc (shows_all n a) i ≡ true
part_arc n a k h ends i at =
    let p : Shown = shows_all n a in
    and_left (has_arc p i) (is_kept k h (arc_of p i))
    (sym (part_has_arc (filter k p.nodes) (is_kept k h) p (shows_valid n a ends) i) ∙ at)
