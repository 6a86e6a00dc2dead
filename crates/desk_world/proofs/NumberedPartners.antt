-- The partners of the maps of a world by their numbers, by the rows of its tables.
use Rattle.std.proofs.Common.{◌≡◌, ℕ, ◌+◌, ◌<◌, ◌⊎◌, inl, inr, Bool, true, false, cond, List}
use Rattle.std.proofs.Common.{[], ◌∷◌, map, length}
use Rattle.std.proofs.Common.{refl, sym, ap, ◌∙◌, Option, None, Some, arith, position, not}
use Rattle.std.specs.Prelude.{option_map, option_and_then, slice_get, nat_lt}
use Rattle.std.specs.List.{position_or_len}
use Rattle.std.specs.Option.{option_map_or}
use Rattle.std.specs.Str.{bytes_eq}
use Rattle.std.proofs.Props.{props}
use Rattle.std.proofs.Math.Logic.{∥∥₁_elim}
use Rattle.std.proofs.lemmas.Grind.{common_steps}
use Rattle.std.proofs.lemmas.Option.{slice_get-map, slice_get_past}
use Rattle.base_items.specs.declared.items.ItemSort.TheVariants as sorts
use Rattle.script_words.specs.declared.commands.MapType.{MapType}
use Rattle.script_words.specs.declared.commands.MapType.TheVariants as types
use Rattle.observe_core.specs.Seen.{Watched}
use Rattle.plain_world.specs.Tables.{Name, Named, under, is_named, entry}
use Rattle.plain_world.specs.Views.{is_type, has_type}
use Rattle.plain_world.specs.World as plain
use Rattle.desk_world.specs.declared.tables.MapKind.{MapKind}
use Rattle.desk_world.specs.declared.tables.MapRow.{MapRow}
use Rattle.desk_world.specs.declared.world.World.{World}
use Rattle.desk_world.specs.InStep.{AreInStep, IsInStep}
use Rattle.desk_world.specs.MapNumbers.{number_of, numbers_type, partner_by, numbered}
use Rattle.desk_world.specs.NumberLaws.{at_number}
use Rattle.desk_world.specs.Plain.{plain_of, look_of, map_seen}
use Rattle.desk_world.specs.Values.{type_by}
use Rattle.desk_world.proofs.MapsFound.{leads_held, map_type, rows_named, type_held}
use Rattle.desk_world.proofs.MapsRead.{row_leads}
use Rattle.desk_world.proofs.NumberedRows.{number_at, place}
use Rattle.desk_world.proofs.Replaced.{some_place, no_place}
use Rattle.desk_world.proofs.TableRows.{listed_at, row_at}

-- ---- places of names

-- a place goes by the names alone
place_by : {X : Type 0} (table : List (Named X)) (name : Name)
    → position_or_len (is_named name) table
    ≡ position_or_len (λ n. bytes_eq n name) (map (λ (e : Named X). e.name) table)
place_by [] name = refl
place_by (e ∷ es) name = ap (λ n. cond (not (bytes_eq e.name name)) (1 + n) 0) (place_by es name)

module _ {X : Type 0} (table : List (Named X)) (name : Name) where
  abbrev first : ℕ
  first = position_or_len (is_named name) table

  place_found : (p : ℕ) → position (is_named name) table ≡ Some p → first ≡ p
  place_found p at = some_place (nat_lt first (length table)) first p at

  entry_found : (p : ℕ) (x : X) → position (is_named name) table ≡ Some p
      → slice_get (map (λ (e : Named X). e.value) table) p ≡ Some x → entry table name ≡ Some x
  entry_found p x at value =
      sym (at_number table name)
      ∙ ap (λ n. option_map (λ (e : Named X). e.value) (slice_get table n)) (place_found p at)
      ∙ sym (slice_get-map (λ (e : Named X). e.value) table p) ∙ value

  entry_missing : position (is_named name) table ≡ None → entry table name ≡ None
  entry_missing at =
      let past = no_place (nat_lt first (length table)) first at in
      sym (at_number table name)
      ∙ ap (option_map (λ (e : Named X). e.value))
      (slice_get_past table first (grind (arith, common_steps, past)))

-- ---- partners

-- whether maps of two kinds have values of one type
abbrev pub are_alike : MapKind → MapKind → Bool
are_alike kind other =
    option_map_or (λ type. option_map_or (is_type type) (type_by other) false) (type_by kind) false

module _ {O : Type 0} (watch : O → Watched) (w : World O) (k : ℕ) where
  abbrev world : plain.World
  world = plain_of watch w

  module _ (row : MapRow) (name : Name)
      (named : slice_get (map (λ (e : Named MapRow). e.name) w.arcs.maps.rows) k ≡ Some name)
      (at : slice_get (map (λ (e : Named MapRow). e.value) w.arcs.maps.rows) k ≡ Some row) where
    abbrev number : ℕ
    number = number_of world sorts.Node name

    -- the partner, by the kind of the row
    by_kind : AreInStep watch w → (numbered world).partner k
        ≡ option_and_then (λ type. cond (has_type world sorts.Node type name) (Some number) None)
        (type_by row.kind)
    by_kind in_step =
        let leads = row_leads watch w sorts.Arc row in_step
        (listed_at (map (λ (e : Named MapRow). e.value) w.arcs.maps.rows) k row at) in
        ap (option_and_then (partner_by world))
        (number_at watch w sorts.Arc k in_step
        ∙ ap (option_and_then (λ (e : Named MapRow). option_map (under e.name)
        (map_seen (look_of watch w) sorts.Arc e.value)))
        (row_at w.arcs.maps.rows k name row named at)
        ∙ ap (option_map (under name)) (leads_held (look_of watch w) sorts.Arc row leads))
        ∙ ap (option_and_then (λ type. cond (has_type world sorts.Node type name) (Some number)
        None))
        (type_held row.kind leads.seen.held)

    -- the type of the map of the nodes, by its row
    has_by : AreInStep watch w → (o : Option MapRow) → entry w.nodes.maps.rows name ≡ o
        → (type : MapType) → has_type world sorts.Node type name
        ≡ option_map_or (is_type type) (option_and_then (λ (r : MapRow). type_by r.kind) o) false
    has_by in_step o found type =
        ap (λ t. option_map_or (is_type type) t false)
        (map_type watch w in_step sorts.Node name
        ∙ ap (option_and_then (λ (r : MapRow). type_by r.kind)) found)

    no_partner : AreInStep watch w → position (is_named name) w.nodes.maps.rows ≡ None
        → (numbered world).partner k ≡ None
    no_partner in_step missing = by_kind in_step ∙ of (type_by row.kind)
        (has_by in_step None (entry_missing w.nodes.maps.rows name missing))
      where
        of : (o : Option MapType)
            → ((type : MapType) → has_type world sorts.Node type name ≡ false)
            → option_and_then (λ type. cond (has_type world sorts.Node type name) (Some number)
            None) o ≡ None
        of None off = refl
        of (Some type) off = ap (λ b. cond b (Some number) None) (off type)

    partner_at : (p : ℕ) (other : MapRow) → AreInStep watch w
        → position (is_named name) w.nodes.maps.rows ≡ Some p
        → slice_get (map (λ (e : Named MapRow). e.value) w.nodes.maps.rows) p ≡ Some other
        → (numbered world).partner k ≡ cond (are_alike row.kind other.kind) (Some p) None
    partner_at p other in_step found value =
        by_kind in_step
        ∙ of (type_by row.kind) (has_by in_step (Some other)
        (entry_found w.nodes.maps.rows name p other found value))
        ∙ ap (λ n. cond (are_alike row.kind other.kind) (Some n) None) here
      where
        here : number ≡ p
        here = place_by world.nodes.maps name
            ∙ ap (position_or_len (λ n. bytes_eq n name)) (rows_named watch w in_step sorts.Node)
            ∙ sym (place_by w.nodes.maps.rows name)
            ∙ place_found w.nodes.maps.rows name p found

        of : (o : Option MapType)
            → ((type : MapType) → has_type world sorts.Node type name
            ≡ option_map_or (is_type type) (type_by other.kind) false)
            → option_and_then (λ type. cond (has_type world sorts.Node type name) (Some number)
            None) o
            ≡ cond (option_map_or (λ type. option_map_or (is_type type) (type_by other.kind) false)
            o false) (Some number) None
        of None is = refl
        of (Some type) is = ap (λ b. cond b (Some number) None) (is type)

    -- ---- where no more is known than that the world is in step

    pub none_known : ∥ IsInStep watch w ∥₁ → None ≡ position (is_named name) w.nodes.maps.rows
        → None ≡ (numbered world).partner k
    none_known known missing =
        ∥∥₁_elim known (Prim.hlevel props) (λ in_step. sym (no_partner in_step.seats (sym missing)))

    pub partner_known : (p : ℕ) (other : MapRow) (b : Bool) → ∥ IsInStep watch w ∥₁
        → Some p ≡ position (is_named name) w.nodes.maps.rows
        → slice_get (map (λ (e : Named MapRow). e.value) w.nodes.maps.rows) p ≡ Some other
        → are_alike row.kind other.kind ≡ b
        → cond b (Some p) None ≡ (numbered world).partner k
    partner_known p other b known found value is =
        ∥∥₁_elim known (Prim.hlevel props)
        (λ in_step. sym (partner_at p other in_step.seats (sym found) value
        ∙ ap (λ t. cond t (Some p) None) is))

  -- the place of a map with a type
  pub arc_place : (numbers_type world types.Ints sorts.Arc k ≡ true)
      ⊎ (numbers_type world types.Bools sorts.Arc k ≡ true)
      → ∥ IsInStep watch w ∥₁ → k < length w.arcs.maps.rows
  arc_place is known = elim is [
    | inl ints ↦ place watch w sorts.Arc k types.Ints ints known
    | inr bools ↦ place watch w sorts.Arc k types.Bools bools known
  ]
