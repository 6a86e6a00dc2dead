-- The seats of maps of a type and of indexes, asked for by name.
use Rattle.std.proofs.Common.{◌≡◌, Bool, true, false, refl, sym, ap, subst, Option, Some, None}
use Rattle.std.proofs.Common.{◌∙◌}
use Rattle.std.specs.Prelude.{option_and_then}
use Rattle.std.specs.Option.{option_map_or}
use Rattle.std.proofs.lemmas.Bool.{true≢false}
use Rattle.std.proofs.lemmas.Option.{none-some, same_Some}
use Rattle.base_items.specs.declared.items.ItemSort.{ItemSort}
use Rattle.script_words.specs.declared.commands.MapType.{MapType}
use Rattle.script_words.specs.declared.commands.MapType.TheVariants as types
use Rattle.report_text.specs.declared.faults.Fault.TheVariants as faults
use Rattle.observe_core.specs.Held as held
use Rattle.observe_core.specs.Seen.{Seen, Watched}
use Rattle.notify_chain.specs.Seats.{find_seat, seat_seen}
use Rattle.alter_graph.specs.Chains.{ChainsSeen, chains_seen, seats_in}
use Rattle.plain_world.specs.Demands as demand
use Rattle.plain_world.specs.Refusals as refusals
use Rattle.plain_world.specs.Refusals.{breach, unless}
use Rattle.plain_world.specs.Tables.{Name, entry}
use Rattle.plain_world.specs.Views.{is_type}
use Rattle.plain_world.specs.World as plain
use Rattle.desk_world.specs.declared.tables.MapKind.{MapKind}
use Rattle.desk_world.specs.declared.tables.MapKind.TheVariants as maps
use Rattle.desk_world.specs.declared.tables.MapRow.{MapRow}
use Rattle.desk_world.specs.declared.world.World.{World}
use Rattle.desk_world.specs.InStep.{AreInStep}
use Rattle.desk_world.specs.Plain.{plain_of, look_of, tables_of, held_by}
use Rattle.desk_world.specs.Reads.{HoldsMap, HoldsIndex, is_index}
use Rattle.desk_world.specs.Values.{kind_for, type_by}
use Rattle.desk_world.proofs.MapsFound.{map_type, map_missing, map_found}
use Rattle.desk_world.proofs.Seated.{seen_there, none_there}
use Rattle.desk_world.proofs.SeatsHold.{has, there, map_held, index_held}

-- ---- kinds

abbrev pub is_of_type : MapType → MapKind → Bool
is_of_type type kind = option_map_or (is_type type) (type_by kind) false

-- a map that has values of the type is of its kind
pub kind_of_type : (type : MapType) (kind : MapKind) → is_of_type type kind ≡ true
    → kind ≡ kind_for type
kind_of_type types.Ints maps.Ints is = refl
kind_of_type types.Ints maps.Bools is = absurd (true≢false (sym is))
kind_of_type types.Ints maps.Texts is = absurd (true≢false (sym is))
kind_of_type types.Bools maps.Ints is = absurd (true≢false (sym is))
kind_of_type types.Bools maps.Bools is = refl
kind_of_type types.Bools maps.Texts is = absurd (true≢false (sym is))
kind_of_type types.Texts maps.Ints is = absurd (true≢false (sym is))
kind_of_type types.Texts maps.Bools is = absurd (true≢false (sym is))
kind_of_type types.Texts maps.Texts is = refl
kind_of_type type (maps.Degrees way) is = absurd (true≢false (sym is))
kind_of_type type (maps.Trues map) is = absurd (true≢false (sym is))

-- an index is of a map
pub kind_of_index : (kind : MapKind) → is_index kind ≡ true
    → (source : Name) × (kind ≡ maps.Trues source)
kind_of_index maps.Ints is = absurd (true≢false (sym is))
kind_of_index maps.Bools is = absurd (true≢false (sym is))
kind_of_index maps.Texts is = absurd (true≢false (sym is))
kind_of_index (maps.Degrees way) is = absurd (true≢false (sym is))
kind_of_index (maps.Trues map) is = (map, refl)

same_index : (kind : MapKind) (h : held.Held) → refusals.is_index (held_by kind h) ≡ is_index kind
same_index maps.Ints h = refl
same_index maps.Bools h = refl
same_index maps.Texts h = refl
same_index (maps.Degrees way) h = refl
same_index (maps.Trues map) h = refl

module _ {O : Type 0} (watch : O → Watched) (w : World O) (in_step : AreInStep watch w)
    (sort : ItemSort) (name : Name) where
  abbrev world : plain.World
  world = plain_of watch w

  abbrev c : ChainsSeen
  c = chains_seen watch w.graph.chains

  abbrev by_type : MapType → Option MapType → Bool
  by_type type found = option_map_or (is_type type) found false

  -- ---- where there is no row

  pub untyped : (type : MapType) → entry (tables_of w sort).maps.rows name ≡ None
      → breach world (demand.HasType sort type name) ≡ Some (faults.WrongType name)
  untyped type none =
      ap (λ o. unless (by_type type o) (faults.WrongType name))
      (map_type watch w in_step sort name
      ∙ ap (option_and_then (λ (row : MapRow). type_by row.kind)) none)

  pub no_index : entry (tables_of w sort).maps.rows name ≡ None
      → breach world (demand.IsIndex sort name) ≡ Some (faults.WrongType name)
  no_index none =
      ap (λ o. unless (option_map_or refusals.is_index o false) (faults.WrongType name))
      (map_missing watch w in_step sort name none)

  -- ---- where there is one

  module _ (row : MapRow) (found : entry (tables_of w sort).maps.rows name ≡ Some row) where
    pub typed_by : (type : MapType) (b : Bool) → is_of_type type row.kind ≡ b
        → breach world (demand.HasType sort type name) ≡ unless b (faults.WrongType name)
    typed_by type b is =
        ap (λ o. unless (by_type type o) (faults.WrongType name))
        (map_type watch w in_step sort name
        ∙ ap (option_and_then (λ (r : MapRow). type_by r.kind)) found)
        ∙ ap (λ t. unless t (faults.WrongType name)) is

    pub index_by : (b : Bool) → is_index row.kind ≡ b
        → breach world (demand.IsIndex sort name) ≡ unless b (faults.WrongType name)
    index_by b is =
        let has = map_found watch w in_step sort name row found in
        ap (λ o. unless (option_map_or refusals.is_index o false) (faults.WrongType name)) has.held
        ∙ ap (λ t. unless t (faults.WrongType name))
        (same_index row.kind has.leads.seen.held ∙ is)

    abbrev seen : Seen
    seen = (has watch w in_step sort name row found).leads.seen

    typed_there : (type : MapType) → row.kind ≡ kind_for type
        → look_of watch w sort row.key.0 ≡ Some seen
    typed_there types.Ints is = there watch w in_step sort name row found maps.Ints is
    typed_there types.Bools is = there watch w in_step sort name row found maps.Bools is
    typed_there types.Texts is = there watch w in_step sort name row found maps.Texts is

    index_there : (source : Name) → row.kind ≡ maps.Trues source
        → look_of watch w sort row.key.0 ≡ Some seen
    index_there source is = there watch w in_step sort name row found (maps.Trues source) is

    no_seat : look_of watch w sort row.key.0 ≡ Some seen
        → None ≡ find_seat row.key.0 (seats_in sort c) → ⊥
    no_seat at none = none-some seen (sym (none_there watch c sort row.key.0 none) ∙ at)

    own_seat : look_of watch w sort row.key.0 ≡ Some seen → (seat : O)
        → seat_seen watch row.key.0 (Some seat) ≡ find_seat row.key.0 (seats_in sort c)
        → seen ≡ (watch seat).seen
    own_seat at seat is =
        same_Some seen (watch seat).seen (sym at ∙ seen_there watch c sort row.key.0 seat is)

    -- the seat of a map of the type is there, and has its values
    pub typed_seated : (type : MapType) → is_of_type type row.kind ≡ true
        → None ≡ find_seat row.key.0 (seats_in sort c) → ⊥
    typed_seated type is none = no_seat (typed_there type (kind_of_type type row.kind is)) none

    pub typed_held : (type : MapType) → is_of_type type row.kind ≡ true → (seat : O)
        → seat_seen watch row.key.0 (Some seat) ≡ find_seat row.key.0 (seats_in sort c)
        → HoldsMap world sort name type (watch seat).seen
    typed_held type is seat at =
        let kind = kind_of_type type row.kind is in
        subst (HoldsMap world sort name type) (own_seat (typed_there type kind) seat at)
        (map_held watch w in_step sort name row found type kind)

    -- and so is that of an index
    pub index_seated : is_index row.kind ≡ true → None ≡ find_seat row.key.0 (seats_in sort c) → ⊥
    index_seated is none =
        let kind = kind_of_index row.kind is in
        no_seat (index_there kind.0 kind.1) none

    pub index_seat_held : is_index row.kind ≡ true → (seat : O)
        → seat_seen watch row.key.0 (Some seat) ≡ find_seat row.key.0 (seats_in sort c)
        → HoldsIndex world sort name (watch seat).seen
    index_seat_held is seat at =
        let kind = kind_of_index row.kind is in
        subst (HoldsIndex world sort name) (own_seat (index_there kind.0 kind.1) seat at)
        (index_held watch w in_step sort name kind.0 row found kind.1)
