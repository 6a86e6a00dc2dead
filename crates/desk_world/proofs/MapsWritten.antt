-- A world in which a value of a map was written.
use Rattle.std.proofs.Common.{◌≡◌, ℕ, Bool, true, false, cond, List, ◌∷◌, map, refl, sym, ap}
use Rattle.std.proofs.Common.{[]}
use Rattle.std.proofs.Common.{subst, Option, Some, ◌∙◌}
use Rattle.std.specs.Prelude.{IsTrue, option_map, ◌&&◌}
use Rattle.std.specs.Str.{bytes_eq}
use Rattle.base_items.specs.declared.items.ItemSort.{ItemSort}
use Rattle.plain_digraph.specs.Items.{IsLive}
use Rattle.plain_digraph.specs.Lists.{AllOf}
use Rattle.plain_digraph.specs.Rising.{swapped}
use Rattle.observe_core.specs.Held as held
use Rattle.observe_core.specs.Held.{Entry, Held, making_of, entry_id}
use Rattle.observe_core.specs.Items.{has_id}
use Rattle.observe_core.specs.Seen.{Seen, Watched}
use Rattle.columns.specs.Views.{entry as with_value}
use Rattle.alter_graph.specs.Chains.{chains_seen}
use Rattle.alter_graph.specs.Snaps.{IsHalf, half_of}
use Rattle.alter_graph.specs.State as states
use Rattle.alter_graph.specs.State.{AlterOf, state_of}
use Rattle.plain_world.specs.Tables.{Name, Named}
use Rattle.plain_world.specs.World as plain
use Rattle.desk_seats.specs.Contents.{among, ints_among, bools_among, texts_among}
use Rattle.desk_world.specs.declared.tables.MapKind.{MapKind}
use Rattle.desk_world.specs.declared.tables.MapKind.TheVariants as maps
use Rattle.desk_world.specs.declared.tables.MapRow.{MapRow}
use Rattle.desk_world.specs.declared.values.Value.{Value}
use Rattle.desk_world.specs.declared.values.Value.TheVariants as values
use Rattle.desk_world.specs.Claims.{Role, Plays, role_of, map_claim}
use Rattle.desk_world.specs.Derived.{bools_seen, trues_seen}
use Rattle.desk_world.specs.Indexes.{is_index_kind}
use Rattle.desk_world.specs.Looks.{Look, look_in}
use Rattle.desk_world.specs.Plain.{held_by, seat_sort}
use Rattle.desk_world.specs.Values.{HasItem, kind_for, type_for, put_at, held_with}
use Rattle.desk_world.proofs.AsMade.{as_values}
use Rattle.desk_world.proofs.BuiltMaps.{values_type}
use Rattle.desk_world.proofs.Columns.{column_swapped}
use Rattle.desk_world.proofs.LiveEntries.{entry_in}
use Rattle.desk_world.proofs.NamedRows.{IsOther}
use Rattle.desk_world.proofs.Relabelled.{Agrees}
use Rattle.desk_world.proofs.Written.{no_half}
use Rattle.desk_world.proofs.Written.{no_half}

-- ---- what a map of a value's type holds

abbrev pub own_role : Value → Role
own_role value = role_of (kind_for (type_for value))

pub made_values : (value : Value) (s : Seen) → Plays (own_role value) s
    → making_of s.held ≡ held.OfValues (values_type (type_for value))
made_values (values.Int v) s plays = plays.making
made_values (values.Bool v) s plays = plays.making
made_values (values.Text v) s plays = plays.making

pub made_with : (value : Value) (id : ℕ) (s : Seen)
    → making_of (held_with value id s) ≡ held.OfValues (values_type (type_for value))
made_with (values.Int v) id s = refl
made_with (values.Bool v) id s = refl
made_with (values.Text v) id s = refl

pub no_snapshot : (value : Value) (s : Seen) → Plays (own_role value) s → IsHalf (half_of s) → ⊥
no_snapshot (values.Int v) s plays = no_half 0 s plays.form
no_snapshot (values.Bool v) s plays = no_half 1 s plays.form
no_snapshot (values.Text v) s plays = no_half 2 s plays.form

-- a write puts the value to the map
pub held_put : (value : Value) (id : ℕ) (s : Seen) → HasItem value id s
    → held_by (kind_for (type_for value)) (held_with value id s)
    ≡ put_at value id (held_by (kind_for (type_for value)) s.held)
held_put (values.Int v) id s at =
    ap plain.Ints (column_swapped (with_value id v) (among ints_among s.held) at)
held_put (values.Bool v) id s at =
    ap plain.Bools (column_swapped (with_value id v) (among bools_among s.held) at)
held_put (values.Text v) id s at =
    ap plain.Texts (column_swapped (with_value id v) (among texts_among s.held) at)

-- a seat has a value for each live item
pub item_held : {O : Type 0} (watch : O → Watched) (a : AlterOf O)
    → states.IsInStep (state_of watch a) → (sort : ItemSort) (key : ℕ) (s : Seen)
    → look_in (chains_seen watch a.chains) sort key ≡ Some s
    → (value : Value) (id : ℕ) → Plays (own_role value) s → IsLive a.graph.graph sort id
    → HasItem value id s
item_held watch a in_step sort key s seen (values.Int v) id plays live =
    let h = as_values held.Ints s.held plays.making in
    subst (λ x. IsTrue (has_id entry_id id (among ints_among x))) (sym h.is)
    (entry_in watch a in_step sort key s seen held.Ints h.entries h.is id live)
item_held watch a in_step sort key s seen (values.Bool v) id plays live =
    let h = as_values held.Bools s.held plays.making in
    subst (λ x. IsTrue (has_id entry_id id (among bools_among x))) (sym h.is)
    (entry_in watch a in_step sort key s seen held.Bools h.entries h.is id live)
item_held watch a in_step sort key s seen (values.Text v) id plays live =
    let h = as_values held.Texts s.held plays.making in
    subst (λ x. IsTrue (has_id entry_id id (among texts_among x))) (sym h.is)
    (entry_in watch a in_step sort key s seen held.Texts h.entries h.is id live)

-- ---- what the rows show

-- the bools of the map with the value at the item; those of no other map are written
abbrev pub bools_with : Value → ℕ → List (Entry Bool) → List (Entry Bool)
bools_with (values.Int v) id es = es
bools_with (values.Bool v) id es = swapped entry_id (with_value id v) es
bools_with (values.Text v) id es = es

module _ (was : Look) (sort : ItemSort) (name : Name) (value : Value) (id : ℕ)
    (now : List (Entry Bool)) where
  -- the map has the new bools, and so has each index of it once it was written
  abbrev pub EntriesShow : Bool → Look → Name → MapKind → ℕ → Type 0
  EntriesShow done look own maps.Ints key = Unit {0}
  EntriesShow done look own maps.Bools key =
      bools_seen (look sort key) ≡ cond (bytes_eq own name) now (bools_seen (was sort key))
  EntriesShow done look own maps.Texts key = Unit {0}
  EntriesShow done look own (maps.Degrees way) key = Unit {0}
  EntriesShow done look own (maps.Trues source) key =
      trues_seen (look sort key)
      ≡ cond (done && bytes_eq source name) now (trues_seen (was sort key))

  abbrev held_at : Look → MapKind → ℕ → Option plain.Held
  held_at look kind key = option_map (λ (s : Seen). held_by kind s.held)
      (look (seat_sort sort kind) key)

  pub record RowShows (done : Bool) (look : Look) (own : Name) (kind : MapKind) (key : ℕ) : Type 0
    where
      pub plain : held_at look kind key
          ≡ cond (bytes_eq own name) (option_map (put_at value id) (held_at was kind key))
          (held_at was kind key)
      pub entries : EntriesShow done look own kind key

  abbrev pub Shows : Bool → Look → Named MapRow → Type 0
  Shows done look e = RowShows done look e.name e.value.kind e.value.key.0

  -- where the same is seen of it, a row shows the same
  pub row_stays : (done : Bool) (look later : Look) (own : Name) (kind : MapKind) (key : ℕ)
      → later (seat_sort sort kind) key ≡ look (seat_sort sort kind) key
      → RowShows done look own kind key → RowShows done later own kind key
  row_stays done look later own kind key same shows = record {
    plain = ap (option_map (λ (s : Seen). held_by kind s.held)) same ∙ shows.plain;
    entries = by kind same shows.entries;
  }
    where
      by : (kind : MapKind) → later (seat_sort sort kind) key ≡ look (seat_sort sort kind) key
          → EntriesShow done look own kind key → EntriesShow done later own kind key
      by maps.Ints same is = tt
      by maps.Bools same is = ap bools_seen same ∙ is
      by maps.Texts same is = tt
      by (maps.Degrees way) same is = tt
      by (maps.Trues source) same is = ap trues_seen same ∙ is

  pub rows_stay : (done : Bool) (look later : Look) (rows : List (Named MapRow))
      → AllOf (Agrees look later) (map (map_claim sort) rows) → AllOf (Shows done look) rows
      → AllOf (Shows done later) rows
  rows_stay done look later [] agree all = tt
  rows_stay done look later (e ∷ es) agree all = (
    row_stays done look later e.name e.value.kind e.value.key.0 agree.0 all.0,
    rows_stay done look later es agree.1 all.1,
  )

  -- a row that is no index of the map has nothing to be written
  pub row_passes : (look : Look) (own : Name) (kind : MapKind) (key : ℕ)
      → is_index_kind name kind ≡ false → RowShows false look own kind key
      → RowShows true look own kind key
  row_passes look own kind key apart shows = record {
    plain = shows.plain;
    entries = by kind apart shows.entries;
  }
    where
      by : (kind : MapKind) → is_index_kind name kind ≡ false
          → EntriesShow false look own kind key → EntriesShow true look own kind key
      by maps.Ints apart is = tt
      by maps.Bools apart is = is
      by maps.Texts apart is = tt
      by (maps.Degrees way) apart is = tt
      by (maps.Trues source) apart is =
          is ∙ ap (λ b. cond b now (trues_seen (was sort key))) (sym apart)

  -- a row of another name that shows what it showed
  pub row_unwritten : (look : Look) (own : Name) (kind : MapKind) (key : ℕ)
      → bytes_eq own name ≡ false → look (seat_sort sort kind) key ≡ was (seat_sort sort kind) key
      → RowShows false look own kind key
  row_unwritten look own kind key other same = record {
    plain = ap (option_map (λ (s : Seen). held_by kind s.held)) same
        ∙ ap (λ b. cond b (option_map (put_at value id) (held_at was kind key))
        (held_at was kind key)) (sym other);
    entries = by kind same;
  }
    where
      by : (kind : MapKind) → look (seat_sort sort kind) key ≡ was (seat_sort sort kind) key
          → EntriesShow false look own kind key
      by maps.Ints same = tt
      by maps.Bools same =
          ap bools_seen same
          ∙ ap (λ b. cond b now (bools_seen (was sort key))) (sym other)
      by maps.Texts same = tt
      by (maps.Degrees way) same = tt
      by (maps.Trues source) same = ap trues_seen same

  pub rows_unwritten : (look : Look) (rows : List (Named MapRow)) → AllOf (IsOther name) rows
      → AllOf (Agrees was look) (map (map_claim sort) rows) → AllOf (Shows false look) rows
  rows_unwritten look [] other agree = tt
  rows_unwritten look (e ∷ es) other agree = (
    row_unwritten look e.name e.value.kind e.value.key.0 other.0 agree.0,
    rows_unwritten look es other.1 agree.1,
  )
