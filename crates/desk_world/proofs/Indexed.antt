-- Indexes where a map comes or goes.
use Rattle.std.proofs.Common.{◌≡◌, ℕ, Bool, true, false, cond, List, ◌∷◌, ◌++◌, map, refl, sym, ap}
use Rattle.std.proofs.Common.{[]}
use Rattle.std.proofs.Common.{subst, Option, Some, None, ◌∙◌}
use Rattle.std.specs.Prelude.{option_map, find}
use Rattle.std.specs.List.{cons_option}
use Rattle.std.specs.Option.{option_or}
use Rattle.std.specs.Str.{bytes_eq}
use Rattle.std.proofs.lemmas.Option.{none-some}
use Rattle.base_items.specs.declared.items.ItemSort.{ItemSort}
use Rattle.base_items.specs.declared.items.ItemSort.TheVariants as sorts
use Rattle.lgf_file.proofs.NameLists.{apart_back}
use Rattle.report_text.specs.declared.faults.Fault.TheVariants as faults
use Rattle.plain_digraph.specs.Lists.{AllOf}
use Rattle.observe_core.specs.Held as held
use Rattle.observe_core.specs.Seen.{Seen, Watched}
use Rattle.plain_world.specs.Demands as demands
use Rattle.plain_world.specs.Refusals.{breach, is_index_of}
use Rattle.plain_world.specs.Tables.{Name, Named, under, is_named, entry, with_entry, oldest}
use Rattle.plain_world.specs.World.{Held}
use Rattle.plain_world.specs.Views.{reads}
use Rattle.plain_world.proofs.TableChanges.{other_without}
use Rattle.desk_names.specs.Rows.{Rows}
use Rattle.desk_world.specs.declared.tables.MapKind.{MapKind}
use Rattle.desk_world.specs.declared.tables.MapKind.TheVariants as maps
use Rattle.desk_world.specs.declared.tables.MapRow.{MapRow}
use Rattle.desk_world.specs.declared.world.World.{World}
use Rattle.desk_world.specs.Claims.{map_claim}
use Rattle.desk_world.specs.Derived.{AreDerived, AreIndexed, IsIndexed, AreOfRows, ties_at}
use Rattle.desk_world.specs.Indexes.{is_index_kind}
use Rattle.desk_world.specs.InStep.{AreInStep}
use Rattle.desk_world.specs.Looks.{Look, looked}
use Rattle.desk_world.specs.MapTables.{with_table}
use Rattle.desk_world.specs.Plain.{plain_of, look_of, tables_of, map_seen, held_by}
use Rattle.desk_world.proofs.Derived.{indexes_agree}
use Rattle.desk_world.proofs.MapTables.{claims_with, other_claims, maps_plain}
use Rattle.desk_world.proofs.MapsFound.{Leads, leads_held, rows_lead}
use Rattle.desk_world.proofs.NamedRows.{Stands}
use Rattle.desk_world.proofs.Relabelled.{Agrees}
use Rattle.desk_world.proofs.Seated.{all_left, all_right, all_both, all_so, all_and}

-- what stands under a name stands there with a row more
pub still_stands : {X : Type 0} (table : List (Named X)) (name other : Name) (row x : X)
    → entry table other ≡ Some x → entry (with_entry table name row) other ≡ Some x
still_stands [] name other row x found = absurd (none-some x found)
still_stands {X} (e ∷ es) name other row x found =
    elim (bytes_eq e.name other) as (λ b. option_map (λ (f : Named X). f.value)
    (cond b (Some e) (find (is_named other) es)) ≡ Some x
    → option_map (λ (f : Named X). f.value)
    (cond b (Some e) (find (is_named other) (with_entry es name row))) ≡ Some x) [
      | true ↦ λ is. is
      | false ↦ λ is. still_stands es name other row x is
    ] found

-- ---- a map more

module _ (look : ℕ → Option Seen) (table : List (Named MapRow)) (name : Name) (row : MapRow) where
  index_stays : (kind : MapKind) (key : ℕ) → IsIndexed look table kind key
      → IsIndexed look (with_entry table name row) kind key
  index_stays maps.Ints key is = tt
  index_stays maps.Bools key is = tt
  index_stays maps.Texts key is = tt
  index_stays (maps.Degrees way) key is = tt
  index_stays (maps.Trues map) key is = record {
    source = is.source;
    found = still_stands table name map row is.source is.found;
    bools = is.bools;
    same = is.same;
  }

  pub indexed_more : AreIndexed look table → IsIndexed look table row.kind row.key.0
      → AreIndexed look (with_entry table name row)
  indexed_more all one =
      let Later : Named MapRow → Type 0 = λ e. IsIndexed look (with_entry table name row)
      e.value.kind e.value.key.0 in
      all_both Later table (under name row ∷ [])
      (all_so (λ (e : Named MapRow). IsIndexed look table e.value.kind e.value.key.0) Later
      (λ e is. index_stays e.value.kind e.value.key.0 is) table all)
      (index_stays row.kind row.key.0 one, tt)

-- ---- a map less

-- no row is an index of the map
abbrev pub IsUnread : Name → List (Named MapRow) → Type 0
IsUnread name table = AllOf (λ (e : Named MapRow). is_index_kind name e.value.kind ≡ false) table

module _ (look : ℕ → Option Seen) (table : List (Named MapRow)) (name : Name) (row : MapRow)
    (at : Stands table name row) where
  abbrev rest : List (Named MapRow)
  rest = at.front ++ at.back

  index_left : (kind : MapKind) (key : ℕ) → is_index_kind name kind ≡ false
      → IsIndexed look table kind key → IsIndexed look rest kind key
  index_left maps.Ints key apart is = tt
  index_left maps.Bools key apart is = tt
  index_left maps.Texts key apart is = tt
  index_left (maps.Degrees way) key apart is = tt
  index_left (maps.Trues map) key apart is = record {
    source = is.source;
    found = ap (λ list. entry list map) (sym at.less)
        ∙ other_without table name map (apart_back map name apart) ∙ is.found;
    bools = is.bools;
    same = is.same;
  }

  pub indexed_less : IsUnread name table → AreIndexed look table → AreIndexed look rest
  indexed_less unread all =
      let Now : Named MapRow → Type 0 = λ e. (is_index_kind name e.value.kind ≡ false)
      × IsIndexed look table e.value.kind e.value.key.0 in
      let both : AllOf Now (at.front ++ under name row ∷ at.back) = subst (AllOf Now) at.is
      (all_and (λ (e : Named MapRow). is_index_kind name e.value.kind ≡ false)
      (λ (e : Named MapRow). IsIndexed look table e.value.kind e.value.key.0) table unread all) in
      all_so Now (λ (e : Named MapRow). IsIndexed look rest e.value.kind e.value.key.0)
      (λ e is. index_left e.value.kind e.value.key.0 is.0 is.1) rest
      (all_both Now at.front at.back (all_left Now at.front (under name row ∷ at.back) both)
      (all_right Now at.front (under name row ∷ at.back) both).1)

-- ---- a map that nothing reads

pub none_found : {X : Type 0} (test : X → Bool) (xs : List X) → find test xs ≡ None
    → AllOf (λ x. test x ≡ false) xs
none_found test [] none = tt
none_found {X} test (x ∷ xs) none =
    elim (test x) as (λ b. test x ≡ b → cond b (Some x) (find test xs) ≡ None
    → AllOf (λ y. test y ≡ false) (x ∷ xs)) [
      | true ↦ λ is found. absurd (none-some x (sym found))
      | false ↦ λ is found. (is, none_found test xs found)
    ] refl none

pub nothing_mapped : {X Y : Type 0} (f : X → Y) (o : Option X) → option_map f o ≡ None → o ≡ None
nothing_mapped f None none = refl
nothing_mapped f (Some x) none = absurd (none-some (f x) (sym none))

pub first_none : {X : Type 0} (o p : Option X) → option_or o p ≡ None → o ≡ None
first_none None p none = refl
first_none (Some x) p none = absurd (none-some x (sym none))

second_none : {X : Type 0} (o p : Option X) → option_or o p ≡ None → p ≡ None
second_none None p none = none
second_none (Some x) p none = absurd (none-some x (sym none))

-- whether a map is an index is told by its kind
pub index_told : (name : Name) (kind : MapKind) (h : held.Held)
    → is_index_of name (held_by kind h) ≡ is_index_kind name kind
index_told name maps.Ints h = refl
index_told name maps.Bools h = refl
index_told name maps.Texts h = refl
index_told name (maps.Degrees way) h = refl
index_told name (maps.Trues map) h = refl

module _ {O : Type 0} (watch : O → Watched) (w : World O) (in_step : AreInStep watch w)
    (sort : ItemSort) (name : Name) where
  abbrev look : Look
  look = look_of watch w

  unread_by : (table : List (Named MapRow))
      → AllOf (λ (e : Named MapRow). Leads look sort e.value) table
      → AllOf (λ (f : Named Held). is_index_of name f.value ≡ false)
      (looked (map_seen look sort) table) → IsUnread name table
  unread_by [] lead none = tt
  unread_by (e ∷ es) lead none =
      let seen = leads_held look sort e.value lead.0 in
      let both = subst (λ o. AllOf (λ (f : Named Held). is_index_of name f.value ≡ false)
      (cons_option (option_map (under e.name) o) (looked (map_seen look sort) es))) seen none in
      (sym (index_told name e.value.kind lead.0.seen.held) ∙ both.0, unread_by es lead.1 both.1)

  pub unread_rows : breach (plain_of watch w) (demands.NoneReads sort name) ≡ None
      → IsUnread name (tables_of w sort).maps.rows
  unread_rows unread =
      let world = plain_of watch w in
      let reader = nothing_mapped faults.InUse _ unread in
      let index = second_none (oldest (λ view. reads sort name view.layer) world.views) _ reader in
      unread_by (tables_of w sort).maps.rows (rows_lead watch w in_step sort)
      (none_found (λ (f : Named Held). is_index_of name f.value)
      (looked (map_seen look sort) (tables_of w sort).maps.rows)
      (nothing_mapped (λ (f : Named Held). f.name) _
      (ap (oldest (is_index_of name)) (sym (maps_plain watch w sort)) ∙ index)))

-- ---- the world

-- where the same is seen of all but the maps of the sort
pub derived_with : {O : Type 0} (look later : Look) (w : World O) (sort : ItemSort)
    (rows : Rows MapRow) → AllOf (Agrees look later) (claims_with w sort [])
    → AreIndexed (later sort) rows.rows → AreDerived look w.nodes w.arcs w.attributes.rows
    → AreDerived later (with_table w sort rows).nodes (with_table w sort rows).arcs
    w.attributes.rows
derived_with look later w sorts.Node rows all indexed derived = record {
  node_indexes = indexed;
  arc_indexes = indexes_agree look later sorts.Arc w.arcs.maps.rows
      (all_left (Agrees look later) (map (map_claim sorts.Arc) w.arcs.maps.rows) (other_claims w)
      all.1.1.1.1) derived.arc_indexes;
  numbered = derived.numbered;
  node_ties = subst (λ o. AreOfRows sorts.Node w.attributes.rows (ties_at o)) (sym all.1.0)
      derived.node_ties;
  arc_ties = subst (λ o. AreOfRows sorts.Arc w.attributes.rows (ties_at o)) (sym all.1.1.1.0)
      derived.arc_ties;
}
derived_with look later w sorts.Arc rows all indexed derived = record {
  node_indexes = indexes_agree look later sorts.Node w.nodes.maps.rows
      (all_left (Agrees look later) (map (map_claim sorts.Node) w.nodes.maps.rows) (other_claims w)
      all.1.1.1.1) derived.node_indexes;
  arc_indexes = indexed;
  numbered = derived.numbered;
  node_ties = subst (λ o. AreOfRows sorts.Node w.attributes.rows (ties_at o)) (sym all.1.0)
      derived.node_ties;
  arc_ties = subst (λ o. AreOfRows sorts.Arc w.attributes.rows (ties_at o)) (sym all.1.1.1.0)
      derived.arc_ties;
}
