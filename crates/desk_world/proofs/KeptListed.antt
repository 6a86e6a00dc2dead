-- A view is listed by its seats as by its layers.
use Rattle.std.proofs.Common.{◌≡◌, ℕ, List, sym, ap, subst, ◌∙◌, Option, Some}
use Rattle.std.specs.Prelude.{IfSome}
use Rattle.plain_digraph.specs.Valid.{IsValid}
use Rattle.plain_views.specs.Shown.{Shown}
use Rattle.plain_views.specs.Towers as towers
use Rattle.plain_views.specs.Towers.{Layer}
use Rattle.plain_world.specs.Tables.{Name}
use Rattle.plain_world.specs.Views.{shown_by}
use Rattle.plain_world.specs.World.{World}
use Rattle.desk_world.specs.MapNumbers.{numbered, numbered_tower}
use Rattle.desk_world.specs.Naming.{ShowsLive}
use Rattle.desk_world.proofs.MapNumbers.{shown_alike}
use Rattle.desk_world.proofs.ShownLive.{tower_lives}

-- what is said of what is found is so of it
pub of_some : {X : Type 0} (P : X → Type 0) (o : Option X) (x : X) → o ≡ Some x → IfSome o P → P x
of_some P o x is so = subst (λ o. IfSome o P) is so

module _ (world : World) (view : Name) (tower : List (Layer ℕ))
    (is : tower ≡ numbered_tower world view) where
  pub by_numbers : shown_by world view ≡ towers.shown (numbered world) world.graph tower
  by_numbers =
      sym (ap (towers.shown (numbered world) world.graph) is ∙ shown_alike world view)

  -- all that is shown comes from live items
  pub view_lives : IsValid world.graph → (p : Shown) → p ≡ shown_by world view
      → ShowsLive world.graph tower p
  view_lives valid p shows =
      tower_lives (numbered world) world.graph valid tower p (shows ∙ by_numbers)

  -- by the values that were read
  pub as_read : (read : World) → read ≡ world
      → towers.shown (numbered read) world.graph tower ≡ shown_by world view
  as_read read same =
      ap (λ v. towers.shown (numbered v) world.graph tower) same ∙ sym by_numbers
