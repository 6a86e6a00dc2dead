-- A world in which a value was written to a map, and to each index of it.
use Rattle.std.proofs.Common.{◌≡◌, ℕ, ◌+◌, ◌≤◌, Bool, true, false, cond, List, [], ◌∷◌, ◌++◌, map}
use Rattle.std.proofs.Common.{length, refl, sym, ap, subst, Some, ◌∙◌, arith}
use Rattle.std.specs.Prelude.{slice_get}
use Rattle.std.specs.Str.{bytes_eq}
use Rattle.std.proofs.lemmas.List.{append-nil, append_assoc}
use Rattle.std.proofs.lemmas.Option.{none-some, same_Some}
use Rattle.std.proofs.lemmas.Slice.Eq.{bytes_eq-Decides}
use Rattle.base_items.specs.declared.items.ItemSort.{ItemSort}
use Rattle.base_items.specs.declared.items.ItemSort.TheVariants as sorts
use Rattle.plain_digraph.specs.Lists.{AllOf}
use Rattle.observe_core.specs.Held.{Entry}
use Rattle.observe_core.specs.Seen.{Watched}
use Rattle.alter_graph.specs.Chains.{chains_seen}
use Rattle.alter_graph.specs.State.{AlterOf}
use Rattle.plain_world.specs.Tables.{Name, Named, entry, with_change}
use Rattle.plain_world.specs.Effects.{with_maps, with_map_changed}
use Rattle.desk_world.specs.declared.tables.MapKind.{MapKind}
use Rattle.desk_world.specs.declared.tables.MapKind.TheVariants as maps
use Rattle.desk_world.specs.declared.tables.MapRow.{MapRow}
use Rattle.desk_world.specs.declared.values.Value.{Value}
use Rattle.desk_world.specs.declared.world.World.{World}
use Rattle.desk_world.specs.Derived.{AreDerived, AreIndexed, IsIndexed, bools_seen}
use Rattle.desk_world.specs.Indexes.{is_index_kind}
use Rattle.desk_world.specs.InStep.{AreInStep}
use Rattle.desk_world.specs.MapTables.{with_table}
use Rattle.desk_world.specs.Placing.{AreUnplaced}
use Rattle.desk_world.specs.Looks.{Look, look_in}
use Rattle.desk_world.specs.Plain.{plain_of, look_of, kinds_of, tables_of, map_seen}
use Rattle.desk_world.specs.Plain.{world_seen}
use Rattle.desk_world.specs.Values.{put_at}
use Rattle.desk_world.proofs.Changing.{looked_changed, ChangesAt}
use Rattle.desk_world.proofs.Indexed.{derived_with}
use Rattle.desk_world.proofs.KeptApart.{written_views}
use Rattle.desk_world.proofs.NamedRows.{of_named}
use Rattle.desk_world.proofs.MapTables.{same_rows_world, maps_seen}
use Rattle.desk_world.proofs.MapTables.{maps_plain, plain_later, with_rows}
use Rattle.desk_world.proofs.MapsComing.{own_indexes}
use Rattle.desk_world.proofs.MapsWritten.{RowShows, Shows, EntriesShow, bools_with}
use Rattle.desk_world.proofs.MapFollows.{AreKept}
use Rattle.desk_world.proofs.MapsWritten.{row_passes}
use Rattle.desk_world.proofs.Seated.{all_both, all_so, all_and}
use Rattle.desk_world.proofs.Seated.{all_both, all_so, all_and}

-- ---- rows

-- the first row of those that are ahead
pub record Next {X : Type 0} (ahead : List (Named X)) (value : X) : Type 0 where
  pub e : Named X
  pub rest : List (Named X)
  pub is : ahead ≡ e ∷ rest
  pub has : e.value ≡ value

pub next_row : {X : Type 0} (done ahead : List (Named X)) (value : X)
    → slice_get (map (λ (e : Named X). e.value) (done ++ ahead)) (length done) ≡ Some value
    → Next ahead value
next_row [] [] value at = absurd (none-some value at)
next_row [] (e ∷ rest) value at =
    record { e = e; rest = rest; is = refl; has = same_Some e.value value at }
next_row (d ∷ done) ahead value at = next_row done ahead value at

pub none_ahead : {X : Type 0} (done ahead : List X) → length (done ++ ahead) ≤ length done
    → ahead ≡ []
none_ahead [] [] few = refl
none_ahead [] (e ∷ rest) few = absurd (omega (arith, few))
none_ahead (d ∷ done) ahead few = none_ahead done ahead (omega (arith, few))

pub one_longer : {X : Type 0} (done : List X) (e : X) → length (done ++ e ∷ []) ≡ length done + 1
one_longer [] e = refl
one_longer (d ∷ done) e = let rest = one_longer done e in omega (arith, rest)

module _ {O : Type 0} (watch : O → Watched) (w : World O) (sort : ItemSort) (name : Name)
    (key : ℕ) (value : Value) (id : ℕ) where
  -- the row shows the map of the key with the value, and an index of it once it was written
  abbrev pub RowIs : Bool → AlterOf O → Named MapRow → Type 0
  RowIs done a =
      Shows (look_of watch w) sort name value id
      (bools_with value id (bools_seen (look_of watch w sort key))) done
      (look_in (chains_seen watch a.chains))

  -- the rows before the place were written, and the others not yet
  pub record IsWriting (place : ℕ) (a : AlterOf O) : Type 0 where
    pub kept : AreKept watch w sort a
    pub done : List (Named MapRow)
    pub ahead : List (Named MapRow)
    pub is : (tables_of w sort).maps.rows ≡ done ++ ahead
    pub count : length done ≡ place
    pub front : AllOf (RowIs true a) done
    pub back : AllOf (RowIs false a) ahead

module _ {O : Type 0} (watch : O → Watched) (w : World O) (in_step : AreInStep watch w)
    (sort : ItemSort) (name : Name) (row : MapRow)
    (found : entry (tables_of w sort).maps.rows name ≡ Some row) (value : Value) (id : ℕ) where
  abbrev pub rows : List (Named MapRow)
  rows = (tables_of w sort).maps.rows

  abbrev pub was : Look
  was = look_of watch w

  abbrev now : List (Entry Bool)
  now = bools_with value id (bools_seen (was sort row.key.0))

  abbrev look_at : AlterOf O → Look
  look_at a = look_in (chains_seen watch a.chains)

  abbrev Done : AlterOf O → Named MapRow → Type 0
  Done a = Shows was sort name value id now true (look_at a)

  abbrev Ahead : AlterOf O → Named MapRow → Type 0
  Ahead a = Shows was sort name value id now false (look_at a)

  -- ---- all were written

  module _ (a : AlterOf O) (kept : AreKept watch w sort a) (all : AllOf (Done a) rows) where
    one_index : (own : Name) (kind : MapKind) (key : ℕ) → IsIndexed (was sort) rows kind key
        → RowShows was sort name value id now true (look_at a) own kind key
        → IsIndexed (look_at a sort) rows kind key
    one_index own maps.Ints key is shows = tt
    one_index own maps.Bools key is shows = tt
    one_index own maps.Texts key is shows = tt
    one_index own (maps.Degrees way) key is shows = tt
    one_index own (maps.Trues source) key is shows =
        let from = of_named (Done a) rows source is.source all is.found in
        let entries = subst (λ k. EntriesShow was sort name value id now true (look_at a) source k
        is.source.key.0) is.bools from.entries in
        record {
          source = is.source;
          found = is.found;
          bools = is.bools;
          same = shows.entries ∙ ap (cond (bytes_eq source name) now) is.same ∙ sym entries;
        }

    indexed : AreIndexed (look_at a sort) rows
    indexed =
        all_so
        (λ (e : Named MapRow). IsIndexed (was sort) rows e.value.kind e.value.key.0 × Done a e)
        (λ (e : Named MapRow). IsIndexed (look_at a sort) rows e.value.kind e.value.key.0)
        (λ e both. one_index e.name e.value.kind e.value.key.0 both.0 both.1) rows
        (all_and (λ (e : Named MapRow). IsIndexed (was sort) rows e.value.kind e.value.key.0)
        (Done a) rows (own_indexes w sort was in_step.derived) all)

    -- the item is still to be placed in kept views
    pub written_unplaced : AreUnplaced watch sort id (record w { graph = a })
    written_unplaced = record {
      graph = kept.then;
      seated = kept.seated;
      boxes = in_step.boxes;
      snaps = kept.snaps ∙ in_step.snaps;
      derived = subst (λ (v : World O). AreDerived (look_at a) v.nodes v.arcs v.attributes.rows)
          (same_rows_world w sort a)
          (derived_later sort (derived_with was (look_at a) w sort (tables_of w sort).maps
          kept.others indexed in_step.derived));
      reading = in_step.kept.reading;
      placed = written_views was (look_at a) w sort id name value now all kept.others in_step.kept;
    }
      where
        derived_later : (x : ItemSort) → AreDerived (look_at a)
            (with_table w x (tables_of w x).maps).nodes (with_table w x (tables_of w x).maps).arcs
            w.attributes.rows
            → AreDerived (look_at a) (with_rows w x (tables_of w x).maps a).nodes
            (with_rows w x (tables_of w x).maps a).arcs
            (with_rows w x (tables_of w x).maps a).attributes.rows
        derived_later sorts.Node d = d
        derived_later sorts.Arc d = d

    pub written_plain : plain_of watch (record w { graph = a })
        ≡ with_map_changed (plain_of watch w) sort name (put_at value id)
    written_plain =
        let pool = kinds_of watch w.pool.items in
        ap (plain_of watch) (sym (same_rows_world w sort a))
        ∙ plain_later watch w sort (tables_of w sort).maps a
        ∙ (λ i. world_seen (kept.graph i).graph (look_at a) pool
        (with_rows w sort (tables_of w sort).maps a))
        ∙ maps_seen w w.graph.graph.graph was (look_at a) pool a sort
        (tables_of w sort).maps kept.others
        ∙ ap (with_maps (plain_of watch w) sort)
        (looked_changed (map_seen was sort) (map_seen (look_at a) sort) name (put_at value id) rows
        (all_so (Done a) (ChangesAt (map_seen was sort) (map_seen (look_at a) sort) name
        (put_at value id)) (λ e shows. shows.plain) rows all)
        ∙ ap (λ maps. with_change maps name (put_at value id)) (sym (maps_plain watch w sort)))

  -- ---- indexes of the map

  -- an index of the name is one of the row
  pub same_source : (source : Name) (other : MapRow) → entry rows source ≡ Some other
      → bytes_eq source name ≡ true → other ≡ row
  same_source source other there same =
      same_Some other row
      (sym there ∙ ap (entry rows) ((bytes_eq-Decides source name).0 same) ∙ found)

  -- a map of another type than bools has no index
  pub none_indexes : (row.kind ≡ maps.Bools → ⊥)
      → AllOf (λ (e : Named MapRow). is_index_kind name e.value.kind ≡ false) rows
  none_indexes apart =
      all_so (λ (e : Named MapRow). IsIndexed (was sort) rows e.value.kind e.value.key.0)
      (λ (e : Named MapRow). is_index_kind name e.value.kind ≡ false)
      (λ e is. by e.value.kind e.value.key.0 is) rows (own_indexes w sort was in_step.derived)
    where
      by : (kind : MapKind) (key : ℕ) → IsIndexed (was sort) rows kind key
          → is_index_kind name kind ≡ false
      by maps.Ints key is = refl
      by maps.Bools key is = refl
      by maps.Texts key is = refl
      by (maps.Degrees way) key is = refl
      by (maps.Trues source) key is =
          elim (bytes_eq source name) as (λ b. bytes_eq source name ≡ b → b ≡ false) [
            | true ↦ λ same.
                absurd (apart (sym (ap (λ (r : MapRow). r.kind)
                (same_source source is.source is.found same)) ∙ is.bools))
            | false ↦ λ other. refl
          ] refl

  -- so all is written with the map
  pub all_done : (a : AlterOf O) → (row.kind ≡ maps.Bools → ⊥) → AllOf (Ahead a) rows
      → AllOf (Done a) rows
  all_done a apart ahead =
      all_so (λ (e : Named MapRow). (is_index_kind name e.value.kind ≡ false) × Ahead a e) (Done a)
      (λ e both. row_passes was sort name value id now (look_at a) e.name e.value.kind
      e.value.key.0 both.0 both.1) rows
      (all_and (λ (e : Named MapRow). is_index_kind name e.value.kind ≡ false) (Ahead a) rows
      (none_indexes apart) ahead)

  -- ---- the walk over the rows

  pub writing_begins : (a : AlterOf O) → AreKept watch w sort a → AllOf (Ahead a) rows
      → IsWriting watch w sort name row.key.0 value id 0 a
  writing_begins a kept all = record {
    kept = kept;
    done = [];
    ahead = rows;
    is = refl;
    count = refl;
    front = tt;
    back = all;
  }

  module _ (place : ℕ) (a : AlterOf O)
      (writing : IsWriting watch w sort name row.key.0 value id place a) where
    pub writing_ends : length rows ≤ place → AllOf (Done a) rows
    writing_ends all =
        let none = none_ahead writing.done writing.ahead
        (omega (arith, ap length writing.is, writing.count, all)) in
        subst (AllOf (Done a))
        (sym (writing.is ∙ ap (λ list. writing.done ++ list) none ∙ append-nil writing.done))
        writing.front

    module _ (r : MapRow)
        (at : slice_get (map (λ (e : Named MapRow). e.value) rows) place ≡ Some r) where
      abbrev pub next : Next writing.ahead r
      next = next_row writing.done writing.ahead r
          ((λ i. slice_get (map (λ (e : Named MapRow). e.value) (sym writing.is i))
          (writing.count i)) ∙ at)

      pub split : rows ≡ writing.done ++ next.e ∷ next.rest
      split = writing.is ∙ ap (λ list. writing.done ++ list) next.is

      pub back_now : AllOf (Ahead a) (next.e ∷ next.rest)
      back_now = subst (AllOf (Ahead a)) next.is writing.back

      pub onward : (b : AlterOf O) → AreKept watch w sort b → AllOf (Done b) writing.done
          → Done b next.e → AllOf (Ahead b) next.rest
          → IsWriting watch w sort name row.key.0 value id (place + 1) b
      onward b kept front own back = record {
        kept = kept;
        done = writing.done ++ next.e ∷ [];
        ahead = next.rest;
        is = split ∙ sym (append_assoc writing.done (next.e ∷ []) next.rest);
        count = one_longer writing.done next.e ∙ ap (λ n. n + 1) writing.count;
        front = all_both (Done b) writing.done (next.e ∷ []) front (own, tt);
        back = back;
      }

      -- a row that is no index of the map
      pub writing_passes : is_index_kind name r.kind ≡ false
          → IsWriting watch w sort name row.key.0 value id (place + 1) a
      writing_passes apart =
          onward a writing.kept writing.front
          (row_passes was sort name value id now (look_at a) next.e.name next.e.value.kind
          next.e.value.key.0
          (ap (λ (x : MapRow). is_index_kind name x.kind) next.has ∙ apart) back_now.0) back_now.1
