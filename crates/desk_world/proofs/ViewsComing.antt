-- A world to which a view comes.
use Rattle.std.proofs.Common.{◌≡◌, false, None, sym, ap, subst, ◌∙◌}
use Rattle.std.specs.List.{flat_map}
use Rattle.observe_core.specs.Seen.{Watched}
use Rattle.plain_world.specs.Tables.{Name, has_entry, with_entry}
use Rattle.desk_names.specs.Rows.{Rows}
use Rattle.desk_world.specs.declared.tables.ViewRow.{ViewRow}
use Rattle.desk_world.specs.declared.world.World.{World}
use Rattle.desk_world.specs.Claims.{view_claims}
use Rattle.desk_world.specs.InStep.{AreInStep}
use Rattle.desk_world.specs.KeptViews.{AreKept, NoneStand, views_of}
use Rattle.desk_world.specs.Plain.{look_of}
use Rattle.desk_world.proofs.KeptTowers.{kept_with}
use Rattle.desk_world.proofs.ViewRows.{with_views, views_in_step, seats_with}

module _ {O : Type 0} (watch : O → Watched) (w : World O) (in_step : AreInStep watch w)
    (views : Rows ViewRow) where
  -- more room for views changes nothing
  pub roomy_views : views.rows ≡ w.views.rows → AreInStep watch (with_views w views)
  roomy_views same =
      views_in_step watch w in_step views (ap (flat_map view_claims) same)
      (subst (AreKept (look_of watch w) w.nodes w.arcs) (sym same) in_step.kept)

  -- a view that isn't kept comes last
  pub view_comes : (name : Name) (row : ViewRow) → row.kept ≡ None
      → has_entry w.views.rows name ≡ false → NoneStand (views_of w.views.rows) name
      → views.rows ≡ with_entry w.views.rows name row → AreInStep watch (with_views w views)
  view_comes name row unkept new alone put =
      views_in_step watch w in_step views
      (ap (flat_map view_claims) put ∙ seats_with w.views.rows name row unkept)
      (subst (AreKept (look_of watch w) w.nodes w.arcs) (sym put)
      (kept_with (look_of watch w) w.nodes w.arcs w.views.rows name row unkept new alone
      in_step.kept))
