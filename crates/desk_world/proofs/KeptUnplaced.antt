-- Kept views once a value of a map was written: its item alone is still to be placed.
use Rattle.std.proofs.Common.{◌≡◌, ℕ, ◌==◌, Bool, true, false, cond, List, [], ◌∷◌, map}
use Rattle.std.proofs.Common.{Option, Some, None, refl, sym, ap, ◌∙◌, subst}
use Rattle.std.specs.Prelude.{ℤ, pos, unwrap_or, int_lt, option_map, ◌&&◌}
use Rattle.std.specs.FinMap as fin
use Rattle.std.specs.Cmp.{nat_cmp_total}
use Rattle.std.specs.Option.{option_map_or}
use Rattle.std.specs.Str.{bytes_eq}
use Rattle.std.proofs.lemmas.Bool.{true≢false, eq-eqb}
use Rattle.base_items.specs.declared.items.ItemSort.{ItemSort}
use Rattle.base_items.specs.declared.items.ItemSort.TheVariants as sorts
use Rattle.notify_chain.specs.declared.key.SeatKey.{SeatKey}
use Rattle.plain_digraph.specs.Lists.{AllOf}
use Rattle.plain_digraph.proofs.Keys.{ties_other}
use Rattle.observe_core.specs.Held.{Entry, Marked}
use Rattle.observe_core.specs.Seen.{Seen}
use Rattle.alter_graph.specs.Verdict.{is_sort}
use Rattle.kept_views.specs.declared.items.Marks.{Marks}
use Rattle.kept_walks.specs.Present.{Present, AreMarked, can_grow, can_fall}
use Rattle.plain_world.specs.Tables.{Name, Named, under}
use Rattle.plain_world.specs.Values.{int_at, bool_at}
use Rattle.plain_world.specs.World as plain
use Rattle.desk_world.specs.declared.tables.KeptKeys.{KeptKeys}
use Rattle.desk_world.specs.declared.tables.KeptMaps.{KeptMaps}
use Rattle.desk_world.specs.declared.tables.MapKind.TheVariants as maps
use Rattle.desk_world.specs.declared.tables.MapRow.{MapRow}
use Rattle.desk_world.specs.declared.values.Value.{Value}
use Rattle.desk_world.specs.declared.values.Value.TheVariants as values
use Rattle.desk_world.specs.KeptMaps.{IsSeatOf, AreSeatsOf}
use Rattle.desk_world.specs.KeptMaps.{passes, amount, bool_seen, int_seen, present_in}
use Rattle.desk_world.specs.KeptViews.{IsPlaced, items_at}
use Rattle.desk_world.specs.Looks.{Look}
use Rattle.desk_world.specs.Placing.{is_due, AreMarkedBut, AreMarkedByBut, IsPlacedBut}
use Rattle.desk_world.specs.Plain.{held_by}
use Rattle.desk_world.specs.Values.{put_at}
use Rattle.desk_world.proofs.Columns.{ties}
use Rattle.desk_world.proofs.MapsWritten.{Shows, RowShows}
use Rattle.desk_world.proofs.NamedRows.{of_named}

-- ---- a value is put to a map

module _ (value : Value) (id other : ℕ) (apart : ties other id ≡ false) where
  insert_other : {V : Type 0} (column : plain.Column V) (v default : V)
      → unwrap_or (fin.get (fin.insert column id v) other) default
      ≡ unwrap_or (fin.get column other) default
  insert_other column v default =
      ap (λ o. unwrap_or o default)
      (fin.get-insert nat_cmp_total column id v other
      ∙ ap (λ t. cond t (Some v) (fin.get column other)) apart)

  -- another item has the value that it had
  bool_other : (v : Value) (h : plain.Held) → bool_at (put_at v id h) other ≡ bool_at h other
  bool_other (values.Int v) (plain.Ints column) = refl
  bool_other (values.Int v) (plain.Bools column) = refl
  bool_other (values.Int v) (plain.Texts column) = refl
  bool_other (values.Int v) (plain.Degrees way) = refl
  bool_other (values.Int v) (plain.Trues map) = refl
  bool_other (values.Bool v) (plain.Ints column) = refl
  bool_other (values.Bool v) (plain.Bools column) = insert_other column v false
  bool_other (values.Bool v) (plain.Texts column) = refl
  bool_other (values.Bool v) (plain.Degrees way) = refl
  bool_other (values.Bool v) (plain.Trues map) = refl
  bool_other (values.Text v) (plain.Ints column) = refl
  bool_other (values.Text v) (plain.Bools column) = refl
  bool_other (values.Text v) (plain.Texts column) = refl
  bool_other (values.Text v) (plain.Degrees way) = refl
  bool_other (values.Text v) (plain.Trues map) = refl

  int_other : (v : Value) (h : plain.Held) → int_at (put_at v id h) other ≡ int_at h other
  int_other (values.Int v) (plain.Ints column) = insert_other column v (pos 0)
  int_other (values.Int v) (plain.Bools column) = refl
  int_other (values.Int v) (plain.Texts column) = refl
  int_other (values.Int v) (plain.Degrees way) = refl
  int_other (values.Int v) (plain.Trues map) = refl
  int_other (values.Bool v) (plain.Ints column) = refl
  int_other (values.Bool v) (plain.Bools column) = refl
  int_other (values.Bool v) (plain.Texts column) = refl
  int_other (values.Bool v) (plain.Degrees way) = refl
  int_other (values.Bool v) (plain.Trues map) = refl
  int_other (values.Text v) (plain.Ints column) = refl
  int_other (values.Text v) (plain.Bools column) = refl
  int_other (values.Text v) (plain.Texts column) = refl
  int_other (values.Text v) (plain.Degrees way) = refl
  int_other (values.Text v) (plain.Trues map) = refl

  -- what is read of a row's map at another item, whether it is the map that was written or not
  read_other : {V : Type 0} (read : plain.Held → V) (default : V)
      → ((h : plain.Held) → read (put_at value id h) ≡ read h)
      → (written : Bool) (was : Option plain.Held)
      → option_map_or read (cond written (option_map (put_at value id) was) was) default
      ≡ option_map_or read was default
  read_other read default same true None = refl
  read_other read default same true (Some h) = same h
  read_other read default same false was = refl

pub bool_by : (o : Option Seen) (id : ℕ)
    → option_map_or (λ (h : plain.Held). bool_at h id)
    (option_map (λ (s : Seen). held_by maps.Bools s.held) o) false ≡ bool_seen o id
bool_by None id = refl
bool_by (Some s) id = refl

pub int_by : (o : Option Seen) (id : ℕ)
    → option_map_or (λ (h : plain.Held). int_at h id)
    (option_map (λ (s : Seen). held_by maps.Ints s.held) o) (pos 0) ≡ int_seen o id
int_by None id = refl
int_by (Some s) id = refl

-- ---- items that aren't due

sort_itself : (sort : ItemSort) → is_sort sort sort ≡ true
sort_itself sorts.Node = refl
sort_itself sorts.Arc = refl

due_other : (sort : ItemSort) (id other : ℕ) → is_due sort id sort other ≡ false
    → ties other id ≡ false
due_other sort id other not_due =
    ties_other other id (λ same. true≢false
    (sym (eq-eqb other id same) ∙ ap (λ b. b && other == id) (sym (sort_itself sort)) ∙ not_due))

-- ---- values at all other items

module _ (was later : Look) (sort : ItemSort) (id : ℕ) where
  -- at each item that isn't due
  abbrev pub SameBut : {V : Type 0} → ItemSort → (ℕ → V) → (ℕ → V) → Type 0
  SameBut own f g = (other : ℕ) → is_due sort id own other ≡ false → g other ≡ f other

  pub record SameMapsBut (m : KeptMaps) : Type 0 where
    pub node_filter : SameBut sorts.Node (passes (was sorts.Node) m.node_filter)
        (passes (later sorts.Node) m.node_filter)
    pub arc_filter : SameBut sorts.Arc (passes (was sorts.Arc) m.arc_filter)
        (passes (later sorts.Arc) m.arc_filter)
    pub cap : SameBut sorts.Arc (amount (was sorts.Arc) m.cap) (amount (later sorts.Arc) m.cap)
    pub flow : SameBut sorts.Arc (amount (was sorts.Arc) m.flow)
        (amount (later sorts.Arc) m.flow)

  but_marked : (own : ItemSort) (mark : Marks → Bool) (says now : ℕ → Bool)
      → SameBut own says now → (items : List Marked) → AreMarked mark says items
      → AreMarkedBut (is_due sort id own) mark now items
  but_marked own mark says now same [] all = tt
  but_marked own mark says now same (x ∷ xs) all = (
    (λ not_due. all.0 ∙ sym (same x.fact.id not_due)),
    but_marked own mark says now same xs all.1,
  )

  pub unplaced : (keys : KeptKeys) → SameMapsBut keys.maps
      → later sorts.Node keys.nodes.0 ≡ was sorts.Node keys.nodes.0
      → later sorts.Arc keys.arcs.0 ≡ was sorts.Arc keys.arcs.0
      → IsPlaced was keys → IsPlacedBut later (is_due sort id) keys
  unplaced keys same nodes arcs placed =
      let m = keys.maps in
      let v : Present = present_in was m in
      let now : Present = present_in later m in
      let by : AreMarkedByBut now (is_due sort id) (items_at (was sorts.Node keys.nodes.0))
      (items_at (was sorts.Arc keys.arcs.0)) = record {
        nodes = but_marked sorts.Node (λ x. x.shown) v.keeps_node now.keeps_node
            same.node_filter (items_at (was sorts.Node keys.nodes.0)) placed.filtered.nodes;
        arcs = but_marked sorts.Arc (λ x. x.shown) v.keeps_arc now.keeps_arc same.arc_filter
            (items_at (was sorts.Arc keys.arcs.0)) placed.filtered.arcs;
        forward = but_marked sorts.Arc (λ x. x.forward) (can_grow v.cap v.flow)
            (can_grow now.cap now.flow)
            (λ other not_due i. int_lt (same.flow other not_due i) (same.cap other not_due i))
            (items_at (was sorts.Arc keys.arcs.0)) placed.roomy.forward;
        backward = but_marked sorts.Arc (λ x. x.backward) (can_fall v.flow) (can_fall now.flow)
            (λ other not_due i. int_lt (pos 0) (same.flow other not_due i))
            (items_at (was sorts.Arc keys.arcs.0)) placed.roomy.backward;
      } in
      subst (λ o. AreMarkedByBut now (is_due sort id) (items_at o)
      (items_at (later sorts.Arc keys.arcs.0))) (sym nodes)
      (subst (λ o. AreMarkedByBut now (is_due sort id)
      (items_at (was sorts.Node keys.nodes.0)) (items_at o)) (sym arcs) by)

  -- ---- by the rows that were written

  module _ (name : Name) (value : Value) (now : List (Entry Bool)) where
    abbrev Done : Named MapRow → Type 0
    Done = Shows was sort name value id now true later

    seat_bools : (table : List (Named MapRow)) → AllOf Done table → (own : Name) (key : SeatKey)
        → IsSeatOf table maps.Bools own key
        → SameBut sort (bool_seen (was sort key.0)) (bool_seen (later sort key.0))
    seat_bools table done own key is other not_due =
        let from : Done (under own is.row) = of_named Done table own is.row done is.found in
        let row : RowShows was sort name value id now true later own maps.Bools key.0 =
        subst (λ (k : SeatKey). RowShows was sort name value id now true later own maps.Bools k.0)
        is.same
        (subst (λ k. RowShows was sort name value id now true later own k is.row.key.0) is.typed
        from) in
        let read : plain.Held → Bool = λ h. bool_at h other in
        let apart = due_other sort id other not_due in
        sym (bool_by (later sort key.0) other)
        ∙ ap (λ o. option_map_or read o false) row.plain
        ∙ read_other value id other apart read false (bool_other value id other apart value)
        (bytes_eq own name) (option_map (λ (s : Seen). held_by maps.Bools s.held)
        (was sort key.0))
        ∙ bool_by (was sort key.0) other

    seat_ints : (table : List (Named MapRow)) → AllOf Done table → (own : Name) (key : SeatKey)
        → IsSeatOf table maps.Ints own key
        → SameBut sort (int_seen (was sort key.0)) (int_seen (later sort key.0))
    seat_ints table done own key is other not_due =
        let from : Done (under own is.row) = of_named Done table own is.row done is.found in
        let row : RowShows was sort name value id now true later own maps.Ints key.0 =
        subst (λ (k : SeatKey). RowShows was sort name value id now true later own maps.Ints k.0)
        is.same
        (subst (λ k. RowShows was sort name value id now true later own k is.row.key.0) is.typed
        from) in
        let read : plain.Held → ℤ = λ h. int_at h other in
        let apart = due_other sort id other not_due in
        sym (int_by (later sort key.0) other)
        ∙ ap (λ o. option_map_or read o (pos 0)) row.plain
        ∙ read_other value id other apart read (pos 0) (int_other value id other apart value)
        (bytes_eq own name) (option_map (λ (s : Seen). held_by maps.Ints s.held)
        (was sort key.0))
        ∙ int_by (was sort key.0) other

    pub written_passes : (table : List (Named MapRow)) → AllOf Done table → (own : Option Name)
        (key : Option SeatKey) → AreSeatsOf table maps.Bools own key
        → SameBut sort (passes (was sort) key) (passes (later sort) key)
    written_passes table done None None are = λ other not_due. refl
    written_passes table done None (Some key) are = absurd are
    written_passes table done (Some own) None are = absurd are
    written_passes table done (Some own) (Some key) are = seat_bools table done own key are

    pub written_amount : (table : List (Named MapRow)) → AllOf Done table → (own : Option Name)
        (key : Option SeatKey) → AreSeatsOf table maps.Ints own key
        → SameBut sort (amount (was sort) key) (amount (later sort) key)
    written_amount table done None None are = λ other not_due. refl
    written_amount table done None (Some key) are = absurd are
    written_amount table done (Some own) None are = absurd are
    written_amount table done (Some own) (Some key) are = seat_ints table done own key are
