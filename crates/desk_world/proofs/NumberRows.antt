-- The numbers of maps by the rows of their tables.
use Rattle.std.proofs.Common.{◌≡◌, ℕ, ◌+◌, ◌≤◌, Bool, true, false, cond, not, List, [], ◌∷◌, map}
use Rattle.std.proofs.Common.{length, refl, sym, ap, ◌∙◌, arith, None, Some}
use Rattle.std.specs.Prelude.{nat_lt}
use Rattle.std.specs.List.{position, position_or_len}
use Rattle.std.specs.Str.{bytes_eq}
use Rattle.std.proofs.lemmas.Bool.{ltb-false}
use Rattle.std.proofs.lemmas.List.Sums.{prefix_len-le-length}
use Rattle.std.proofs.lemmas.Option.{none-some, same_Some}
use Rattle.base_items.specs.declared.items.ItemSort.{ItemSort}
use Rattle.observe_core.specs.Seen.{Watched}
use Rattle.plain_world.specs.Tables.{Name, Named, is_named}
use Rattle.desk_world.specs.declared.world.World.{World}
use Rattle.desk_world.specs.InStep.{AreInStep}
use Rattle.desk_world.specs.MapNumbers.{number_of}
use Rattle.desk_world.specs.Plain.{plain_of, tables_of}
use Rattle.plain_world.specs.World.{attached}
use Rattle.desk_world.proofs.MapsFound.{rows_named}

-- ---- places

module _ {X : Type 0} (p : X → Bool) where
  pub place_found : (xs : List X) (k : ℕ) → position p xs ≡ Some k → position_or_len p xs ≡ k
  place_found xs k is = by (nat_lt (position_or_len p xs) (length xs)) is
    where
      by : (b : Bool) → cond b (Some (position_or_len p xs)) None ≡ Some k
          → position_or_len p xs ≡ k
      by true is = same_Some (position_or_len p xs) k is
      by false is = absurd (none-some k is)

  pub none_found : (xs : List X) → position p xs ≡ None → position_or_len p xs ≡ length xs
  none_found xs is = by (nat_lt (position_or_len p xs) (length xs)) refl is
    where
      by : (b : Bool) → nat_lt (position_or_len p xs) (length xs) ≡ b
          → cond b (Some (position_or_len p xs)) None ≡ None → position_or_len p xs ≡ length xs
      by true at is = absurd (none-some (position_or_len p xs) (sym is))
      by false at is =
          let most = prefix_len-le-length (λ x. not (p x)) xs in
          let past : length xs ≤ position_or_len p xs = ltb-false (position_or_len p xs) (length xs) at in
          omega (arith, most, past)

-- the place of a name by the names alone
pub place_by_name : {X : Type 0} (name : Name) (table : List (Named X))
    → position_or_len (is_named name) table
    ≡ position_or_len (λ n. bytes_eq n name) (map (λ (e : Named X). e.name) table)
place_by_name name [] = refl
place_by_name name (e ∷ es) =
    let rest = place_by_name name es in
    λ i. cond (not (is_named name e)) (1 + rest i) 0

-- ---- the world

module _ {O : Type 0} (watch : O → Watched) (w : World O) (in_step : AreInStep watch w)
    (sort : ItemSort) (name : Name) where
  pub number_by_rows : number_of (plain_of watch w) sort name
      ≡ position_or_len (is_named name) (tables_of w sort).maps.rows
  number_by_rows =
      place_by_name name (attached (plain_of watch w) sort).maps
      ∙ ap (position_or_len (λ n. bytes_eq n name)) (rows_named watch w in_step sort)
      ∙ sym (place_by_name name (tables_of w sort).maps.rows)

  pub placed : (place : ℕ)
      → position (is_named name) (tables_of w sort).maps.rows ≡ Some place
      → place ≡ number_of (plain_of watch w) sort name
  placed place at =
      sym (place_found (is_named name) (tables_of w sort).maps.rows place at) ∙ sym number_by_rows

  pub unplaced : position (is_named name) (tables_of w sort).maps.rows ≡ None
      → length (tables_of w sort).maps.rows ≡ number_of (plain_of watch w) sort name
  unplaced none =
      sym (none_found (is_named name) (tables_of w sort).maps.rows none) ∙ sym number_by_rows
