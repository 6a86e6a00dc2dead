-- The walk over the rows of maps by which a bool is written.
use Rattle.std.proofs.Common.{◌≡◌, ℕ, ◌+◌, ◌≤◌, Bool, true, false, cond, List, map, length, refl}
use Rattle.std.proofs.Common.{sym, ap, subst, Some, None, ◌∙◌}
use Rattle.std.specs.Prelude.{slice_get}
use Rattle.std.proofs.lemmas.Bool.{true≢false}
use Rattle.std.proofs.lemmas.Option.{none-some, same_Some}
use Rattle.base_items.specs.declared.items.ItemSort.{ItemSort}
use Rattle.base_items.specs.declared.items.ItemSort.TheVariants as sorts
use Rattle.plain_digraph.specs.Items.{IsLive}
use Rattle.observe_core.specs.Seen.{Watched}
use Rattle.notify_chain.specs.declared.key.SeatKey.{SeatKey}
use Rattle.alter_graph.specs.Chains.{chains_seen}
use Rattle.alter_graph.specs.State as states
use Rattle.alter_graph.specs.State.{AlterOf, state_of}
use Rattle.plain_world.specs.Effects.{with_map_changed}
use Rattle.plain_world.specs.Tables.{Name, Named, entry}
use Rattle.plain_world.specs.Valid.{NamesDiffer}
use Rattle.desk_world.specs.declared.tables.ItemTables.{ItemTables}
use Rattle.desk_world.specs.declared.tables.MapKind.{MapKind}
use Rattle.desk_world.specs.declared.tables.MapKind.TheVariants as maps
use Rattle.desk_world.specs.declared.tables.MapRow.{MapRow}
use Rattle.desk_world.specs.declared.values.Value.{Value}
use Rattle.desk_world.specs.declared.values.Value.TheVariants as values
use Rattle.desk_world.specs.declared.world.World.{World}
use Rattle.script_words.specs.declared.commands.MapType.TheVariants as types
use Rattle.desk_world.specs.Claims as claims
use Rattle.desk_world.specs.Claims.{Sits}
use Rattle.desk_world.specs.Indexes.{is_index_kind, trues_with}
use Rattle.desk_world.specs.InStep.{AreInStep}
use Rattle.desk_world.specs.Looks.{look_in}
use Rattle.desk_world.specs.Placing.{AreUnplaced}
use Rattle.desk_world.specs.Plain.{plain_of, look_of, tables_of}
use Rattle.desk_world.specs.Seating.{Puts}
use Rattle.desk_world.specs.Values.{HasType, kind_for, type_for, put_at, held_with}
use Rattle.desk_world.proofs.IndexesWritten.{IsWriting, writing_begins, writing_ends}
use Rattle.desk_world.proofs.IndexesWritten.{writing_passes}
use Rattle.desk_world.proofs.IndexFollows.{writing_steps, index_sits}
use Rattle.desk_world.proofs.IndexesWritten.{written_unplaced, written_plain}
use Rattle.desk_world.proofs.MapWrites.{seat_sits, all_kept, all_ahead, value_unplaced}
use Rattle.desk_world.proofs.MapWrites.{value_written}
use Rattle.desk_world.proofs.MapsWritten.{own_role}

pub tables_kept : {O : Type 0} (w : World O) (sort : ItemSort) (a : AlterOf O)
    → tables_of (record w { graph = a }) sort ≡ tables_of w sort
tables_kept w sorts.Node a = refl
tables_kept w sorts.Arc a = refl

-- ---- the key of an index

pub is_index : (b : Bool) (key found : SeatKey) → cond b (Some key) None ≡ Some found → b ≡ true
is_index true key found is = refl
is_index false key found is = absurd (none-some found is)

pub index_found : (b : Bool) (key found : SeatKey) → cond b (Some key) None ≡ Some found
    → key ≡ found
index_found true key found is = same_Some key found is
index_found false key found is = absurd (none-some found is)

pub no_index : (b : Bool) (key : SeatKey) → cond b (Some key) None ≡ None → b ≡ false
no_index true key is = absurd (none-some key (sym is))
no_index false key is = refl

-- ---- a walk

module _ {O : Type 0} (watch : O → Watched) (old : World O) (sort : ItemSort) (name : Name)
    (key : SeatKey) (value : Bool) (id : ℕ) where
  -- the world in the walk: its tables are as before
  pub record IsWalked (place : ℕ) (w : World O) : Type 0 where
    pub writing : IsWriting watch old sort name key.0 (values.Bool value) id place w.graph
    pub others : w ≡ record old { graph = w.graph }

  module _ (in_step : AreInStep watch old)
      (typed : HasType (plain_of watch old) sort name types.Bools)
      (row : (row : MapRow) × (entry (tables_of old sort).maps.rows name ≡ Some row)
      × (row.key ≡ key))
      (live : IsLive old.graph.graph.graph sort id) where
    abbrev own : MapRow
    own = record { kind = row.0.kind; key = key }

    found : entry (tables_of old sort).maps.rows name ≡ Some own
    found = row.1 ∙ ap (λ k. Some (record { kind = row.0.kind; key = k })) row.2

    -- the seat of the map
    pub map_sits : Sits claims.Bools (look_of watch old sort key.0)
    map_sits = seat_sits watch old in_step sort name (values.Bool value) typed own found

    pub walk_begins : (a : AlterOf O) → NamesDiffer (tables_of old sort).maps.rows
        → Puts sort key.0 (held_with (values.Bool value) id) (chains_seen watch old.graph.chains)
        (chains_seen watch a.chains)
        → a.graph ≡ old.graph.graph → states.IsInStep (state_of watch a)
        → IsWalked 0 (record old { graph = a })
    walk_begins a differ puts same then = record {
      writing = writing_begins watch old in_step sort name own found (values.Bool value) id a
          (all_kept watch old in_step sort name (values.Bool value) typed own found id live a differ
          puts same then)
          (all_ahead watch old in_step sort name (values.Bool value) typed own found id live a
          differ puts same then);
      others = refl;
    }

    module _ (place : ℕ) (w : World O) (walked : IsWalked place w) where
      abbrev rows : List (Named MapRow)
      rows = (tables_of old sort).maps.rows

      pub same_tables : tables_of w sort ≡ tables_of old sort
      same_tables = ap (λ (x : World O). tables_of x sort) walked.others
          ∙ tables_kept old sort w.graph

      pub still_live : IsLive w.graph.graph.graph sort id
      still_live = subst (λ r. IsLive r.graph sort id) (sym walked.writing.kept.graph) live

      -- all rows were passed
      module _ (all : length rows ≤ place) where
        pub walked_unplaced : AreUnplaced watch sort id w
        walked_unplaced =
            subst (AreUnplaced watch sort id) (sym walked.others)
            (written_unplaced watch old in_step sort name own found (values.Bool value) id w.graph
            walked.writing.kept
            (writing_ends watch old in_step sort name own found (values.Bool value) id place w.graph
            walked.writing all))

        pub walked_plain : plain_of watch w
            ≡ with_map_changed (plain_of watch old) sort name (put_at (values.Bool value) id)
        walked_plain =
            ap (plain_of watch) walked.others
            ∙ written_plain watch old in_step sort name own found (values.Bool value) id w.graph
            walked.writing.kept
            (writing_ends watch old in_step sort name own found (values.Bool value) id place w.graph
            walked.writing all)

      module _ (r : MapRow)
          (at : slice_get (map (λ (e : Named MapRow). e.value) (tables_of w sort).maps.rows) place
          ≡ Some r) where
        there : slice_get (map (λ (e : Named MapRow). e.value) rows) place ≡ Some r
        there =
            ap (λ (t : ItemTables). slice_get (map (λ (e : Named MapRow). e.value) t.maps.rows)
            place) (sym same_tables) ∙ at

        pub walk_passes : is_index_kind name r.kind ≡ false → IsWalked (place + 1) w
        walk_passes apart = record {
          writing = writing_passes watch old in_step sort name own found (values.Bool value) id
              place w.graph walked.writing r there apart;
          others = walked.others;
        }

        module _ (index : SeatKey)
            (told : cond (is_index_kind name r.kind) (Some r.key) None ≡ Some index) where
          abbrev is : is_index_kind name r.kind ≡ true
          is = is_index (is_index_kind name r.kind) r.key index told

          same_key : r.key ≡ index
          same_key = index_found (is_index_kind name r.kind) r.key index told

          pub walk_sits : Sits claims.Trues
              (look_in (chains_seen watch w.graph.chains) sort index.0)
          walk_sits =
              subst (λ (k : SeatKey). Sits claims.Trues
              (look_in (chains_seen watch w.graph.chains) sort k.0)) same_key
              (index_sits watch old in_step sort name own found value id place w.graph
              walked.writing r there is)

          pub walk_steps : (b : AlterOf O)
              → Puts sort index.0 (trues_with id value) (chains_seen watch w.graph.chains)
              (chains_seen watch b.chains)
              → b.graph ≡ w.graph.graph → states.IsInStep (state_of watch b)
              → IsWalked (place + 1) (record w { graph = b })
          walk_steps b puts same then = record {
            writing = writing_steps watch old in_step sort name own found value id place w.graph
                walked.writing r there is b
                (subst (λ (k : SeatKey). Puts sort k.0 (trues_with id value)
                (chains_seen watch w.graph.chains) (chains_seen watch b.chains)) (sym same_key)
                puts) same then;
            others = ap (λ (x : World O). record x { graph = b }) walked.others;
          }

-- ---- a value of another type

abbrev has_bools : MapKind → Bool
has_bools maps.Ints = false
has_bools maps.Bools = true
has_bools maps.Texts = false
has_bools (maps.Degrees way) = false
has_bools (maps.Trues map) = false

pub ints_apart : maps.Ints ≡ maps.Bools → ⊥
ints_apart is = true≢false (sym (ap has_bools is))

pub texts_apart : maps.Texts ≡ maps.Bools → ⊥
texts_apart is = true≢false (sym (ap has_bools is))

module _ {O : Type 0} (watch : O → Watched) (old : World O) (sort : ItemSort) (name : Name)
    (key : SeatKey) (value : Value) (id : ℕ) (in_step : AreInStep watch old)
    (typed : HasType (plain_of watch old) sort name (type_for value))
    (row : (row : MapRow) × (entry (tables_of old sort).maps.rows name ≡ Some row)
    × (row.key ≡ key)) where
  abbrev keyed : MapRow
  keyed = record { kind = row.0.kind; key = key }

  keyed_found : entry (tables_of old sort).maps.rows name ≡ Some keyed
  keyed_found = row.1 ∙ ap (λ k. Some (record { kind = row.0.kind; key = k })) row.2

  -- the seat of the map
  pub value_sits : Sits (own_role value) (look_of watch old sort key.0)
  value_sits = seat_sits watch old in_step sort name value typed keyed keyed_found

  module _ (live : IsLive old.graph.graph.graph sort id) (a : AlterOf O)
      (differ : NamesDiffer (tables_of old sort).maps.rows)
      (puts : Puts sort key.0 (held_with value id) (chains_seen watch old.graph.chains)
      (chains_seen watch a.chains))
      (same : a.graph ≡ old.graph.graph) (then : states.IsInStep (state_of watch a))
      (apart : kind_for (type_for value) ≡ maps.Bools → ⊥) where
    pub value_now_unplaced : AreUnplaced watch sort id (record old { graph = a })
    value_now_unplaced =
        value_unplaced watch old in_step sort name value typed keyed keyed_found id live a differ
        puts same then apart

    pub value_now_written : plain_of watch (record old { graph = a })
        ≡ with_map_changed (plain_of watch old) sort name (put_at value id)
    value_now_written =
        value_written watch old in_step sort name value typed keyed keyed_found id live a differ
        puts same then apart
