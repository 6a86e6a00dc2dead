-- Items in the order of the base are live.
use Rattle.std.proofs.Common.{◌≡◌, ℕ, ◌<◌, List, length, get_or, refl, subst, true}
use Rattle.std.specs.Prelude.{◌==◌}
use Rattle.std.proofs.lemmas.Bool.{eq-eqb}
use Rattle.std.proofs.lemmas.List.Folds.{list_any_at}
use Rattle.base_items.specs.declared.items.ItemSort.{ItemSort}
use Rattle.plain_digraph.specs.Lists.{has}
use Rattle.plain_digraph.specs.Items.{IsLive}
use Rattle.plain_digraph.specs.Valid.{IsValid}
use Rattle.plain_world.specs.World.{World, live}
use Rattle.plain_world.proofs.Named.{listed_live}

has_at : (ids : List ℕ) (place : ℕ) → place < length ids → has ids (get_or ids place 0) ≡ true
has_at ids place within =
    let id = get_or ids place 0 in
    list_any_at (λ other. other == id) ids place 0 within (eq-eqb id id refl)

-- an item of the list that has that order
pub live_at : (world : World) (sort : ItemSort) → IsValid world.graph → (items : List ℕ)
    → items ≡ live world sort → (place : ℕ) → place < length items
    → IsLive world.graph sort (get_or items place 0)
live_at world sort valid items order place within =
    let id = get_or items place 0 in
    listed_live world sort id valid
    (subst (λ own. has own id ≡ true) order (has_at items place within))
