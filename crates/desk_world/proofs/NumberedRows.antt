-- The maps of a world by their numbers: what is known of them by the rows of their tables.
use Rattle.std.proofs.Common.{◌≡◌, ℕ, zero, suc, ◌<◌, Bool, true, false, List, [], ◌∷◌, map, length}
use Rattle.std.proofs.Common.{refl, sym, ap, ◌∙◌, Option, None, Some, is_some, pos, ℤ}
use Rattle.std.specs.Prelude.{IsTrue, option_map, option_and_then, slice_get}
use Rattle.std.specs.List.{cons_option}
use Rattle.std.specs.Option.{option_map_or}
use Rattle.std.proofs.Props.{props}
use Rattle.std.proofs.Math.Logic.{∥∥₁_elim}
use Rattle.std.proofs.lemmas.Bool.{true≢false}
use Rattle.std.proofs.lemmas.Option.{none-some, slice_get_within}
use Rattle.base_items.specs.declared.items.ItemSort.{ItemSort}
use Rattle.base_items.specs.declared.items.ItemSort.TheVariants as sorts
use Rattle.script_words.specs.declared.commands.MapType.{MapType}
use Rattle.script_words.specs.declared.commands.MapType.TheVariants as types
use Rattle.plain_digraph.specs.Digraph.{Digraph}
use Rattle.plain_digraph.specs.Items.{IsLive}
use Rattle.plain_digraph.specs.Lists.{AllOf}
use Rattle.observe_core.specs.Held.{entry_id}
use Rattle.observe_core.specs.Items.{has_id}
use Rattle.observe_core.specs.Seen.{Watched}
use Rattle.notify_chain.specs.Seats.{find_seat, seat_seen}
use Rattle.alter_graph.specs.Chains.{ChainsSeen, chains_seen, seats_in}
use Rattle.value_maps.specs.Entries.{HasValue}
use Rattle.plain_world.specs.Tables.{Name, Named, under}
use Rattle.plain_world.specs.Values.{int_at, bool_at}
use Rattle.plain_world.specs.Views.{is_type}
use Rattle.plain_world.specs.World as plain
use Rattle.desk_seats.specs.Contents.{ints_in, bools_in}
use Rattle.desk_seats.specs.Forms as forms
use Rattle.desk_seats.specs.Forms.{HasForm}
use Rattle.desk_world.specs.declared.tables.MapRow.{MapRow}
use Rattle.desk_world.specs.declared.world.World.{World}
use Rattle.desk_world.specs.InStep.{AreInStep, IsInStep, has_values}
use Rattle.desk_world.specs.Looks.{looked}
use Rattle.desk_world.specs.MapNumbers.{map_at, is_of_type, numbers_type, numbered, is_live}
use Rattle.desk_world.specs.Plain.{plain_of, look_of, tables_of, map_seen}
use Rattle.desk_world.specs.Values.{kind_for}
use Rattle.desk_world.proofs.MapTables.{maps_plain}
use Rattle.desk_world.proofs.MapsComing.{for_values}
use Rattle.desk_world.proofs.MapsFound.{leads_held, rows_seen, type_held}
use Rattle.desk_world.proofs.MapsRead as read
use Rattle.desk_world.proofs.SeatsAsked.{kind_of_type}
use Rattle.desk_world.proofs.TableRows.{listed_at, some_row}

-- a live item by a test of live items
live_by : (g : Digraph) (sort : ItemSort) (id : ℕ) → is_live g sort id ≡ true → IsLive g sort id
live_by g sorts.Node id live = live
live_by g sorts.Arc id live = live

-- where all rows lead to something, what a place has is what its row leads to
looked_at : {X Y : Type 0} (look : X → Option Y) (table : List (Named X)) (k : ℕ)
    → AllOf (λ (e : Named X). is_some (look e.value) ≡ true) table
    → slice_get (looked look table) k
    ≡ option_and_then (λ (e : Named X). option_map (under e.name) (look e.value))
    (slice_get table k)
looked_at look [] k all = refl
looked_at {X} {Y} look (e ∷ es) k all =
    by (look e.value) refl all.0 (λ j. looked_at look es j all.1) k
  where
    led : Named X → Option (Named Y)
    led x = option_map (under x.name) (look x.value)

    by : (o : Option Y) → look e.value ≡ o → is_some o ≡ true
        → ((j : ℕ) → slice_get (looked look es) j ≡ option_and_then led (slice_get es j))
        → (k : ℕ) → slice_get (cons_option (option_map (under e.name) o) (looked look es)) k
        ≡ option_and_then led (slice_get (e ∷ es) k)
    by None is some rest k = absurd (true≢false (sym some))
    by (Some y) is some rest zero = sym (ap (option_map (under e.name)) is)
    by (Some y) is some rest (suc k) = rest k

-- what is made of the value of a row
valued : {X Y : Type 0} (f : X → Y) (d y : Y) (name : Name) (o : Option X)
    → option_map f o ≡ Some y
    → option_map_or (λ (e : Named X). f e.value) (option_map (under name) o) d ≡ y
valued f d y name None is = absurd (none-some y is)
valued f d y name (Some x) is = ap (λ p. option_map_or (λ z. z) p d) is

module _ {O : Type 0} (watch : O → Watched) (w : World O) (sort : ItemSort) (k : ℕ) where
  abbrev c : ChainsSeen
  c = chains_seen watch w.graph.chains

  abbrev world : plain.World
  world = plain_of watch w

  abbrev rows : List (Named MapRow)
  rows = (tables_of w sort).maps.rows

  -- the map of a number is what the row at that place leads to
  pub number_at : AreInStep watch w → map_at world sort k
      ≡ option_and_then (λ (e : Named MapRow). option_map (under e.name)
      (map_seen (look_of watch w) sort e.value)) (slice_get rows k)
  number_at in_step =
      ap (λ maps. slice_get maps k) (maps_plain watch w sort)
      ∙ looked_at (map_seen (look_of watch w) sort) rows k (rows_seen watch w in_step sort)

  place_there : (type : MapType) → numbers_type world type sort k ≡ true → AreInStep watch w
      → k < length rows
  place_there type is in_step =
      by (slice_get rows k) refl
      (sym (ap (λ o. option_map_or (is_of_type world type) o false) (number_at in_step)) ∙ is)
    where
      by : (o : Option (Named MapRow)) → slice_get rows k ≡ o
          → option_map_or (is_of_type world type) (option_and_then (λ (e : Named MapRow).
          option_map (under e.name) (map_seen (look_of watch w) sort e.value)) o) false ≡ true
          → k < length rows
      by None at is = absurd (true≢false (sym is))
      by (Some e) at is = slice_get_within rows k e at

  module _ (row : MapRow)
      (at : slice_get (map (λ (e : Named MapRow). e.value) rows) k ≡ Some row) where
    listed : read.IsRow watch w sort row
    listed = listed_at (map (λ (e : Named MapRow). e.value) rows) k row at

    number_row : AreInStep watch w → (name : Name)
        × (map_at world sort k ≡ option_map (under name) (map_seen (look_of watch w) sort row))
    number_row in_step =
        let found = some_row rows k row at in (
          found.0.name,
          number_at in_step
              ∙ ap (option_and_then (λ (e : Named MapRow). option_map (under e.name)
              (map_seen (look_of watch w) sort e.value))) found.1
              ∙ ap (λ (r : MapRow). option_map (under found.0.name)
              (map_seen (look_of watch w) sort r)) found.2,
        )

    -- the row of a map of the type is of its kind
    kind_is : (type : MapType) → numbers_type world type sort k ≡ true → AreInStep watch w
        → row.kind ≡ kind_for type
    kind_is type is in_step =
        let named = number_row in_step in
        let leads = read.row_leads watch w sort row in_step listed in
        kind_of_type type row.kind
        (ap (λ o. option_map_or (is_type type) o false) (sym (type_held row.kind leads.seen.held))
        ∙ sym (ap (λ o. option_map_or (is_of_type world type) o false)
        (named.1 ∙ ap (option_map (under named.0))
        (leads_held (look_of watch w) sort row leads)))
        ∙ is)

    values_there : (type : MapType) → numbers_type world type sort k ≡ true → AreInStep watch w
        → has_values row.kind ≡ true
    values_there type is in_step = ap has_values (kind_is type is in_step) ∙ for_values type

    no_seat : (type : MapType) → numbers_type world type sort k ≡ true → AreInStep watch w
        → None ≡ find_seat row.key.0 (seats_in sort c) → ⊥
    no_seat type is in_step =
        read.map_seated watch w sort row in_step listed (values_there type is in_step)

    module _ (seat : O)
        (found : seat_seen watch row.key.0 (Some seat) ≡ find_seat row.key.0 (seats_in sort c))
        (id : ℕ) (alive : is_live w.graph.graph.graph sort id ≡ true) where
      has : (type : MapType) → numbers_type world type sort k ≡ true → AreInStep watch w
          → read.HasMap watch w sort row seat
      has type is in_step =
          read.map_seat watch w sort row seat in_step listed (values_there type is in_step) found

      -- what is known of the seat of a map of ints
      pub record HasInt : Type 0 where
        pub form : HasForm forms.ints_form (watch seat)
        pub live : IsTrue (has_id entry_id id (ints_in (watch seat).seen))
        pub held : (value : ℤ) → HasValue id value (ints_in (watch seat).seen)
            → (numbered world).int sort k id ≡ value

      int_has : numbers_type world types.Ints sort k ≡ true → AreInStep watch w → HasInt
      int_has is in_step =
          let map = has types.Ints is in_step in
          let kind = kind_is types.Ints is in_step in
          let lives = live_by w.graph.graph.graph sort id alive in
          let named = number_row in_step in
          record {
            form = read.ints_form watch w sort row seat in_step map id lives kind;
            live = read.int_live watch w sort row seat in_step map id lives kind;
            held = λ value at.
                ap (λ o. option_map_or (λ (e : Named plain.Held). int_at e.value id) o (pos 0))
                named.1
                ∙ valued (λ held. int_at held id) (pos 0) value named.0
                (map_seen (look_of watch w) sort row)
                (read.int_held watch w sort row seat in_step map id lives kind value at);
          }

      -- and of a map of bools
      pub record HasBool : Type 0 where
        pub form : HasForm forms.bools_form (watch seat)
        pub live : IsTrue (has_id entry_id id (bools_in (watch seat).seen))
        pub held : (value : Bool) → HasValue id value (bools_in (watch seat).seen)
            → (numbered world).bool sort k id ≡ value

      bool_has : numbers_type world types.Bools sort k ≡ true → AreInStep watch w → HasBool
      bool_has is in_step =
          let map = has types.Bools is in_step in
          let kind = kind_is types.Bools is in_step in
          let lives = live_by w.graph.graph.graph sort id alive in
          let named = number_row in_step in
          record {
            form = read.bools_form watch w sort row seat in_step map id lives kind;
            live = read.bool_live watch w sort row seat in_step map id lives kind;
            held = λ value at.
                ap (λ o. option_map_or (λ (e : Named plain.Held). bool_at e.value id) o false)
                named.1
                ∙ valued (λ held. bool_at held id) false value named.0
                (map_seen (look_of watch w) sort row)
                (read.bool_held watch w sort row seat in_step map id lives kind value at);
          }

-- ---- where no more is known than that the world is in step

module _ {O : Type 0} (watch : O → Watched) (w : World O) (sort : ItemSort) (k : ℕ) where
  pub place : (type : MapType) → numbers_type (plain_of watch w) type sort k ≡ true
      → ∥ IsInStep watch w ∥₁ → k < length (tables_of w sort).maps.rows
  place type is known =
      ∥∥₁_elim known (Prim.hlevel props)
      (λ in_step. place_there watch w sort k type is in_step.seats)

  module _ (row : MapRow) (at : slice_get (map (λ (e : Named MapRow). e.value)
      (tables_of w sort).maps.rows) k ≡ Some row) where
    pub none_seated : (type : MapType) → numbers_type (plain_of watch w) type sort k ≡ true
        → ∥ IsInStep watch w ∥₁
        → None ≡ find_seat row.key.0 (seats_in sort (chains_seen watch w.graph.chains)) → ⊥
    none_seated type is known none =
        ∥∥₁_elim known (Prim.hlevel props)
        (λ in_step. no_seat watch w sort k row at type is in_step.seats none)

    module _ (seat : O) (found : seat_seen watch row.key.0 (Some seat)
        ≡ find_seat row.key.0 (seats_in sort (chains_seen watch w.graph.chains)))
        (id : ℕ) (alive : is_live w.graph.graph.graph sort id ≡ true) where
      int_prop : IsProp (HasInt watch w sort k row at seat found id alive)
      int_prop = Prim.hlevel props

      pub int_known : numbers_type (plain_of watch w) types.Ints sort k ≡ true
          → ∥ IsInStep watch w ∥₁ → HasInt watch w sort k row at seat found id alive
      int_known is known =
          ∥∥₁_elim known int_prop
          (λ in_step. int_has watch w sort k row at seat found id alive is in_step.seats)

      bool_prop : IsProp (HasBool watch w sort k row at seat found id alive)
      bool_prop = Prim.hlevel props

      pub bool_known : numbers_type (plain_of watch w) types.Bools sort k ≡ true
          → ∥ IsInStep watch w ∥₁ → HasBool watch w sort k row at seat found id alive
      bool_known is known =
          ∥∥₁_elim known bool_prop
          (λ in_step. bool_has watch w sort k row at seat found id alive is in_step.seats)
