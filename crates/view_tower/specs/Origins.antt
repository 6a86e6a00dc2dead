-- What an arc of a tower pulls, by the item of the base that it comes from.
use Rattle.std.specs.Prelude.{ℕ, Bool, true, false, not, cond, List, [], ◌∷◌, ℤ, pos, neg_ℤ}
use Rattle.std.specs.Option.{option_map_or}
use Rattle.base_items.specs.declared.items.ItemSort.{ItemSort}
use Rattle.base_items.specs.declared.items.ItemSort.TheVariants as sorts
use Rattle.plain_views.specs.Adaptors.{is_even, half}
use Rattle.plain_views.specs.Towers.{Layer, Reverse, Sub, Undirect, Residual, Split, Values}
use Rattle.plain_views.specs.Marks.{Origin, FromArc, FromNode}

-- whether the item of the base is live, by a test of live items
abbrev pub is_live_origin : (ItemSort → ℕ → Bool) → Origin → Bool
is_live_origin live (FromArc arc) = live sorts.Arc arc
is_live_origin live (FromNode node) = live sorts.Node node

-- whether an arc of the tower has the negated int of the item that it comes from
abbrev pub is_turned : {M : Type 0} → List (Layer M) → ℕ → Bool
is_turned [] arc = false
is_turned (Reverse ∷ below) arc = is_turned below arc
is_turned (Sub nodes arcs ∷ below) arc = is_turned below arc
is_turned (Undirect ∷ below) arc = is_turned below (half arc)
is_turned (Residual cap flow ∷ below) arc =
    cond (is_even arc) (is_turned below (half arc)) (not (is_turned below (half arc)))
is_turned (Split ∷ below) arc = cond (is_even arc) (is_turned below (half arc)) false

-- the value, or its negation
abbrev pub signed : Bool → ℤ → ℤ
signed turned value = cond turned (neg_ℤ value) value

module _ {M : Type 0} (values : Values M) (map : M) where
  -- the bool of the map at the arc, or of its partner at the node
  abbrev pub origin_bool : Origin → Bool
  origin_bool (FromArc arc) = values.bool sorts.Arc map arc
  origin_bool (FromNode node) =
      option_map_or (λ partner. values.bool sorts.Node partner node) (values.partner map) true

  -- the int of the map at the arc, or of its partner at the node
  abbrev pub origin_int : Origin → ℤ
  origin_int (FromArc arc) = values.int sorts.Arc map arc
  origin_int (FromNode node) =
      option_map_or (λ partner. values.int sorts.Node partner node) (values.partner map) (pos 0)
