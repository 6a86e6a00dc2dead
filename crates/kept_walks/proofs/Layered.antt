-- A kept view is what its layers show of the digraph.
use Rattle.std.proofs.Common.{◌≡◌, List, ap, ◌∙◌}
use Rattle.plain_digraph.specs.Digraph.{Digraph}
use Rattle.plain_digraph.specs.Valid.{IsValid}
use Rattle.observe_core.specs.declared.kinds.KeptShape.{KeptShape}
use Rattle.observe_core.specs.declared.kinds.KeptShape.TheVariants.{Sub, Residual, ResidualOverSub}
use Rattle.observe_core.specs.Held.{Marked}
use Rattle.observe_core.specs.Seen.{facts_of_marked}
use Rattle.plain_views.specs.Shown.{Shown, base_shown}
use Rattle.plain_views.specs.Adaptors.{sub, residual, is_kept}
use Rattle.kept_views.specs.declared.listing.Listing.TheVariants.{BySource, ByTarget}
use Rattle.kept_walks.specs.Stored.{stored, kept, is_shown, cap_in, flow_in, HasEnds}
use Rattle.kept_walks.specs.Falling.{all_kept}
use Rattle.kept_walks.specs.Present.{Present, layered, ArePlaced}
use Rattle.kept_walks.specs.Laws.{AreOf}
use Rattle.kept_walks.proofs.Based.{is_base}
use Rattle.kept_walks.proofs.Ends.{ends_held}
use Rattle.kept_walks.proofs.Following.{sub_by_marks}
use Rattle.kept_walks.proofs.Rooms.{same_residual, ByMarks, agree}

module _ (v : Present) (nodes arcs : List Marked) (ends : HasEnds nodes arcs) where
  abbrev held : Shown
  held = stored (facts_of_marked nodes) (facts_of_marked arcs)

  abbrev part : Shown
  part = sub (is_shown nodes) (is_shown arcs) held

  pub by_marks : (shape : KeptShape) → ArePlaced shape v nodes arcs
      → kept shape nodes arcs ≡ layered shape v held
  by_marks Sub filtered = sub_by_marks v nodes arcs ends filtered
  by_marks Residual roomy =
      same_residual (cap_in arcs) (flow_in arcs) v.cap v.flow held (agree v arcs roomy BySource)
      (agree v arcs roomy ByTarget)
  by_marks ResidualOverSub placed =
      let keeps = is_kept (is_shown nodes) (is_shown arcs) in
      same_residual (cap_in arcs) (flow_in arcs) v.cap v.flow part
      (all_kept (ByMarks v arcs placed.1) keeps held.by_source (agree v arcs placed.1 BySource))
      (all_kept (ByMarks v arcs placed.1) keeps held.by_target (agree v arcs placed.1 ByTarget))
      ∙ ap (residual v.cap v.flow) (sub_by_marks v nodes arcs ends placed.0)

pub follows : (g : Digraph) (nodes arcs : List Marked) (shape : KeptShape) (v : Present)
    → IsValid g → AreOf g nodes arcs → ArePlaced shape v nodes arcs
    → kept shape nodes arcs ≡ layered shape v (base_shown g)
follows g nodes arcs shape v valid of placed =
    by_marks v nodes arcs (ends_held g nodes arcs valid of) shape placed
    ∙ (λ i. layered shape v (stored (of.nodes i) (of.arcs i)))
    ∙ ap (layered shape v) (is_base g valid)
