-- What is told of an arc by number is what its view shows.
use Rattle.std.proofs.Common.{◌≡◌, ℕ, ◌<◌, length, ap, ◌∙◌}
use Rattle.std.proofs.Math.ListN.{get_or-map}
use Rattle.plain_certificates.specs.Numbering.{arc_at}
use Rattle.plain_certificates.specs.Tables.{at}
use Rattle.plain_certificates.proofs.Numbering.{numbered_keeps_ends}
use Rattle.plain_views.specs.Shown.{Shown, ShownArc, IsShown, arcs_in_order}
use Rattle.static_digraph.specs.Fixed.{FixedOf}
use Rattle.view_numbers.specs.Listed.{Numbers, fact_shown}
use Rattle.tower_numbers.specs.Told.{fact_at}

module _ (p : Shown) (f : FixedOf) (numbers : Numbers p f) where
  -- the item of an arc is its id
  pub id_told : (arc : ℕ) → at 0 f.arcs arc ≡ (arc_at p arc).id
  id_told arc =
      let none : ShownArc = record { id = 0; from = 0; to = 0 } in
      ap (λ ids. at 0 ids arc) numbers.arcs
      ∙ get_or-map (λ (a : ShownArc). a.id) (arcs_in_order p) arc none

  pub fact_told : IsShown p → (arc : ℕ) → arc < length (arcs_in_order p)
      → fact_at f arc ≡ fact_shown (arc_at p arc)
  fact_told shown arc within =
      let ends = numbered_keeps_ends p arc shown within in
      let id = id_told arc in
      let from : at 0 f.nodes (at 0 f.from arc) ≡ (arc_at p arc).from =
      (λ i. at 0 (numbers.nodes i) ((numbers.graph i).from arc)) ∙ ends.0 in
      let to : at 0 f.nodes (at 0 f.to arc) ≡ (arc_at p arc).to =
      (λ i. at 0 (numbers.nodes i) ((numbers.graph i).to arc)) ∙ ends.1 in
      λ i. record { id = id i; from = from i; to = to i; from_at = 0; to_at = 0 }
